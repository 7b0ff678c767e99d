-- Rows 1 to 3 of a text, rows 4 to 6 of a tree, rows 7 and 8 of an entry: none applies exactly when text and tree fit the limits and
-- the room lent, and the entry is there.
use Prim.Native.Nat.{ℕ, ◌≤◌, ◌<◌}
use native.Mathlib.Omega.{arith}
use mathlib.Core.Path.{◌≡◌, ap, ◌∙◌}
use mathlib.Core.Bool.{false}
use mathlib.Core.Option.{some}
use mathlib.Core.List.{List, ◌∷◌}
use lib.ListN.{length}
use lib.Dec.{leb, ltb}
use borrow.Author.Tests.{leb-false, ltb-false, le-ltb, lt-leb}
use Rattle.base.specs.Choice.{either, is_none}
use Rattle.base.proofs.Cases.{unpicked, neither}
use Rattle.model.specs.Answers.{Check, when, verdict, no_form, room_checks, text_checks, own_tree}
use Rattle.model.specs.Decode.{decode}
use Rattle.model.specs.Limits.{max_source, max_depth, max_canonical, refusal_not_own, refusal_no_node}
use Rattle.model.specs.Table.{records}
use Rattle.model.specs.Tree.{Tree, canon, nodes, depth}
use Rattle.demands.specs.Conditions.{Room}
use Rattle.demands.proofs.Rows.{not-this, past, none-applies, there}

module _ (t : Tree) (canonical table : List ℕ) where
  pub room-none : Room t canonical table → verdict (room_checks t canonical table) ≡ 0
  unfolding room_checks
  room-none r =
      past 4 _ _ (le-ltb max_depth (depth t) r.shallow)
      (past 5 _ _ (le-ltb (records table) (nodes t) r.recorded)
      (past 6 _ _ (unpicked _ _ (le-ltb max_canonical (length (canon t)) r.small) ∙ le-ltb (length canonical) (length (canon t)) r.roomy)
      none-applies))

  pub room_of : verdict (room_checks t canonical table) ≡ 0 → Room t canonical table
  unfolding room_checks
  room_of e =
      let a : _ × _ = not-this 4 (ltb max_depth (depth t)) _ (omega arith) e in
      let b : _ × _ = not-this 5 (ltb (records table) (nodes t)) _ (omega arith) a.1 in
      let c : _ × _ = not-this 6 (either (ltb max_canonical (length (canon t))) (ltb (length canonical) (length (canon t)))) _ (omega arith) b.1 in
      let h : _ × _ = neither _ _ c.0 in
      record { shallow = ltb-false _ _ a.0; recorded = ltb-false _ _ b.0; small = ltb-false _ _ h.0; roomy = ltb-false _ _ h.1 }

-- a text that is taken: its tree, and what the checks after it say
pub record Taken (form : ℕ) (text : List ℕ) (more : List Check) : Type 0 where
  pub tree : Tree
  pub known : no_form form ≡ false
  pub short : length text ≤ max_source
  pub is : decode form text ≡ some tree
  pub rest : verdict more ≡ 0

module _ (form : ℕ) (text : List ℕ) (more : List Check) where
  pub text-none : Taken form text more → verdict (text_checks form text more) ≡ 0
  unfolding text_checks is_none
  text-none t = past 1 _ _ t.known (past 2 _ _ (le-ltb max_source (length text) t.short) (past 3 _ _ (ap is_none t.is) t.rest))

  pub text_of : verdict (text_checks form text more) ≡ 0 → Taken form text more
  unfolding text_checks
  text_of e =
      let a : _ × _ = not-this 1 (no_form form) _ (omega arith) e in
      let b : _ × _ = not-this 2 (ltb max_source (length text)) _ (omega arith) a.1 in
      let c : _ × _ = not-this 3 (is_none (decode form text)) _ (omega arith) b.1 in
      there (decode form text) c.0 (λ t i. record { tree = t; known = a.0; short = ltb-false _ _ b.0; is = i; rest = c.1 })

-- an entry that is there: the sheet's tree, and what the checks after rows 7 and 8 say
pub record Entered (canonical table : List ℕ) (len count node : ℕ) (more : List Check) : Type 0 where
  pub tree : Tree
  pub own : own_tree canonical len table count ≡ some tree
  pub present : node < count
  pub rest : verdict more ≡ 0

module _ (canonical table : List ℕ) (len count node : ℕ) (more : List Check) where
  abbrev entry_checks : List Check
  entry_checks = when refusal_not_own (is_none (own_tree canonical len table count)) ∷ when refusal_no_node (leb count node) ∷ more

  pub entry-none : Entered canonical table len count node more → verdict entry_checks ≡ 0
  unfolding is_none
  entry-none t = past 7 _ _ (ap is_none t.own) (past 8 _ _ (lt-leb _ _ t.present) t.rest)

  pub entry_of : verdict entry_checks ≡ 0 → Entered canonical table len count node more
  entry_of v =
      let d : _ × _ = not-this 7 (is_none (own_tree canonical len table count)) _ (omega arith) v in
      let e : _ × _ = not-this 8 (leb count node) _ (omega arith) d.1 in
      there (own_tree canonical len table count) d.0 (λ t j. record { tree = t; own = j; present = leb-false _ _ e.0; rest = e.1 })
