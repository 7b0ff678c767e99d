-- The cases file (reference/README.md): numbers, places and lent buffers.
use Rattle.std.specs.Prelude.{ℕ, ◌+◌, ◌*◌, ◌-◌, ◌/◌, ◌%◌, ◌<◌, ◌≡◌, List, [], length, take, drop, get_or, leb, ltb}
use Rattle.base.specs.Choice.{pick, both}
use Rattle.cases.specs.declared.wire.Lending.{Lending}

-- a number at a wider type, and the bound that it has at its own
pub record Widened (bound x r : ℕ) : Type 0 where
  pub same : r ≡ x
  pub small : r < bound

-- four octets, the lowest first
unfoldable pub little4 : List ℕ → ℕ → ℕ
little4 l at = get_or l at 0 + 256 * get_or l (at + 1) 0 + 65536 * get_or l (at + 2) 0 + 16777216 * get_or l (at + 3) 0

-- the number that stands there, 0 where it does not lie within the case
unfoldable pub number4_at : List ℕ → ℕ → ℕ
number4_at l at = pick (leb (at + 4) (length l)) (little4 l at) 0

unfoldable pub number8_at : List ℕ → ℕ → ℕ
number8_at l at = pick (leb (at + 8) (length l)) (little4 l at + 4294967296 * little4 l (at + 4)) 0

-- the place so many octets on, or one that no case has
unfoldable pub place_after : List ℕ → ℕ → ℕ → ℕ
place_after l at count = pick (leb (at + count) (length l)) (at + count) 18446744073709551615

-- the octets from one place to another, none where these are no places in this order
unfoldable pub part_at : List ℕ → ℕ → ℕ → List ℕ
part_at l start end = pick (both (leb end (length l)) (leb start end)) (take (end - start) (drop start l)) []

-- the octets in which a lent buffer's elements are given
abbrev pub given : List ℕ → Lending → List ℕ
given l lending = part_at l lending.start lending.next

-- element i of a lent buffer: one of those given, or what the fill says
unfoldable pub lent_octet : List ℕ → ℕ → ℕ → ℕ
lent_octet given fill i = pick (ltb i (length given)) (get_or given i 0) ((fill + i) % 251)

unfoldable pub lent_number : List ℕ → ℕ → ℕ → ℕ
lent_number given fill i = pick (ltb i (length given / 4)) (little4 given (4 * i)) ((fill + i) % 251)

pub record Filled (element : ℕ → ℕ) (buffer : List ℕ) : Type 0 where
  pub each : (i : ℕ) → i < length buffer → get_or buffer i 0 ≡ element i
