-- The stores of an addition (S 9.4), by number.
use Rattle.std.specs.Prelude.{ℕ, ◌+◌, ◌<◌, ◌≡◌, Bool, true, false, List, length, get_or, take, leb, ltb, eqb, Option, Some, None}
use Rattle.base.specs.Choice.{pick}
use Rattle.spools.specs.Adding.{Store, store, stores_of, going}
use Rattle.spools.specs.Spool.{entry}
use Rattle.spool.specs.Cases.{state_of}
use Rattle.groups.specs.Octets.{Entried}
use Rattle.spool.specs.declared.Adding.{Adding}
use Rattle.spool.specs.declared.stores.Next.{Next}
use Rattle.spool.specs.declared.stores.Next.TheVariants.{Body, Octet}

-- which octet of an entry of so many octets is stored after so many stores
unfoldable pub offset_of : Bool → ℕ → ℕ → ℕ
offset_of behind len made =
    pick behind
    (pick (eqb made 0) len (pick (ltb made len) made 0))
    (pick (ltb (made + 1) len) (made + 1) 0)

-- how many stores an addition of an entry of so many octets has
unfoldable pub stores_of_len : Bool → ℕ → ℕ
stores_of_len behind len = pick behind (len + 1) len

-- the store that an addition makes next
abbrev pub next_of : Adding → List ℕ → List ℕ → Store
next_of a area sheet = get_or (stores_of (state_of a) area sheet) a.made (store 0 0)

-- it is the octet at an offset of the entry, and the last or not
pub record Stores (a : Adding) (area sheet : List ℕ) (offset groups : ℕ) (last : Bool) : Type 0 where
  pub goes : going (state_of a) area sheet ≡ true
  pub place : (next_of a area sheet).place ≡ a.at + offset
  pub octet : (next_of a area sheet).octet ≡ get_or (entry (take a.octets sheet)) offset 0
  pub ends : last ≡ leb (length (stores_of (state_of a) area sheet)) (a.made + 1)
  pub within : a.at + offset < length area
  pub entried : Entried (length sheet) a.octets groups
  pub few : a.made < 16388

-- it is an octet of the sheet, and not the last store
pub record Copies (a : Adding) (area sheet : List ℕ) (from to : ℕ) : Type 0 where
  pub goes : going (state_of a) area sheet ≡ true
  pub place : (next_of a area sheet).place ≡ to
  pub octet : (next_of a area sheet).octet ≡ get_or sheet from 0
  pub goes_on : false ≡ leb (length (stores_of (state_of a) area sheet)) (a.made + 1)
  pub within : to < length area
  pub lent : from < length sheet
  pub few : a.made < 16388

unfoldable pub NextOf : Adding → List ℕ → List ℕ → Option Next → Type 0
NextOf a area sheet (Some (Body from to)) = Copies a area sheet from to
NextOf a area sheet (Some (Octet offset groups last)) = Stores a area sheet offset groups last
NextOf a area sheet None = going (state_of a) area sheet ≡ false
