-- What a text's tree, if it has one, gives.
use Prim.Native.Nat.{ℕ, ◌-◌, ◌≤◌, ◌<◌, max}
use native.Mathlib.Omega.{arith}
use mathlib.Core.Path.{◌≡◌, sym, ap, ◌∙◌}
use mathlib.Core.Option.{Option, none, some}
use mathlib.Core.List.{List, ◌∷◌}
use lib.ListN.{length}
use lib.Seq.{sets}
use lib.Dec.{eqb}
use Rattle.base.specs.Choice.{is_none}
use Rattle.base.proofs.Stores.{sets-all}
use Rattle.model.specs.Answers.{when, verdict, judged, the, room_checks, settled, unchanged_at, unchanged, telling, filled}
use Rattle.model.specs.Limits.{refusal_syntax}
use Rattle.model.specs.Table.{records}
use Rattle.model.specs.Tree.{Tree, canon, nodes, depth}
use Rattle.model.proofs.Judging.{judged-accepted, judged-refused}
use Rattle.model.proofs.Telling.{telling-same, rooms-other}
use Rattle.rooms.specs.Rooms.{room_verdict}
use Rattle.rooms.proofs.Rooms.{rooms}
use Rattle.reader.specs.Stored.{read_tree}

module _ (o : Option Tree) (p : ℕ) (canonical table : List ℕ) where
  pub tree-none : o ≡ none → read_tree o p canonical table ≡ unchanged_at 3 p canonical table
  unfolding read_tree judged verdict is_none telling
  tree-none e = rw e

  module _ (t : Tree) (e : o ≡ some t) where
    verdict-is : verdict (when refusal_syntax (is_none o) ∷ room_checks (the o) canonical table) ≡ room_verdict (depth t) (nodes t) (length (canon t)) (length canonical) (records table)
    unfolding verdict is_none the
    verdict-is = rw e (rooms t canonical table)

    pub tree-refused : (n : ℕ) → n ≡ room_verdict (depth t) (nodes t) (length (canon t)) (length canonical) (records table) → 0 < n → read_tree o p canonical table ≡ unchanged n canonical table
    unfolding read_tree
    tree-refused n h k =
        ap (telling p) (judged-refused _ _ _ n (verdict-is ∙ sym h) k)
        ∙ telling-same p (unchanged n canonical table) (ap (λ (v : ℕ). eqb v refusal_syntax) (h ∙ sym (rooms t canonical table)) ∙ (rooms-other t canonical table).is)

    pub tree-accepted : room_verdict (depth t) (nodes t) (length (canon t)) (length canonical) (records table) ≡ 0 → read_tree o p canonical table ≡ filled t 0 0 canonical table
    unfolding read_tree the telling filled
    tree-accepted h = ap (telling p) (judged-accepted _ _ _ (verdict-is ∙ h) ∙ ap (λ (x : Option Tree). filled (the x) 0 0 canonical table) e)

-- ---- lent space from the front

pub settled-front : (l vs : List ℕ) → length vs ≤ length l → settled l 0 vs ≡ sets l 0 vs
unfolding settled
settled-front l vs h =
    let a : 0 - length vs ≡ 0 = omega arith in
    let b : max 0 (length vs) ≡ length vs = omega arith in
    rw (a, b) (sym (sets-all l vs h))
