-- The end in turn is the answer of reading the whole.
use Prim.Native.Nat.{ℕ, ◌≤◌, ◌<◌, min}
use native.Mathlib.Omega.{arith}
use mathlib.Core.Path.{◌≡◌, refl, sym, ap, ◌∙◌, subst}
use mathlib.Core.Bool.{true}
use mathlib.Core.Option.{Option, none, some}
use mathlib.Core.List.{List, ◌++◌}
use lib.ListN.{length, take, drop, length-append}
use lib.Seq.{take_all, take_at, drop-append_seam}
use borrow.Author.Tests.{le-leb, lt-leb, lt-ltb, le-ltb, eq-eqb}
use Rattle.base.proofs.Cases.{by_le, picked, unpicked, true-both, differ}
use Rattle.base.proofs.Stores.{sets-all}
use Rattle.model.specs.Answers.{verdict, judged, no_form, text_checks, Outcome, settled, unchanged_at, unchanged, place_of, telling, filled, reading_checks, reading}
use Rattle.model.specs.Decode.{decode₁, decode}
use Rattle.model.specs.Limits.{max_source, refusal_source_size, refusal_syntax}
use Rattle.model.specs.Table.{records}
use Rattle.model.specs.Tree.{Tree, canon, nodes, depth}
use Rattle.model.proofs.Exact.{canon-sound}
use Rattle.walk.specs.Extent.{Measures}
use Rattle.walk.specs.Extent.{Measured}
use Rattle.walk.specs.Extent.{Refused}
use Rattle.std.specs.Prelude.{Ok, Err}
use Rattle.answers.specs.Cases.{outcome}
use Rattle.answers.specs.Cases.{Reading}
use Rattle.rooms.specs.Rooms.{room_verdict}
use Rattle.reader.specs.Stored.{read_tree}
use Rattle.rooms.proofs.Rooms.{roomy}
use Rattle.reader.proofs.Judged.{tree-none, tree-refused, tree-accepted, settled-front}
use Rattle.model.specs.Automaton.{start, run, place}
use Rattle.pieces.specs.Capped.{cap, capped, extent}
use Rattle.pieces.specs.Tracks.{meant}
use Rattle.pieces.specs.Feeding.{space, sheet_after, track_after, state_after, same_sizes}
use Rattle.pieces.specs.Ending.{in_sheet, End, past_row, past_place, ended_by}
use Rattle.pieces.specs.declared.state.State.{State}
use Rattle.pieces.proofs.Measured.{capped-measures, capped-fails}
use Rattle.pieces.proofs.Following.{meant-coded}
use Rattle.pieces.proofs.Turns.{sheet-length, sheet-whole}

-- ---- reading the whole in form 1

pub read-long : (s first table : List ℕ) → max_source < length s → reading 1 s first table ≡ unchanged refusal_source_size first table
unfolding reading reading_checks text_checks judged verdict no_form telling
read-long s first table h = rw (lt-ltb max_source (length s) h)

read-tree : (s first table : List ℕ) → length s ≤ max_source → reading 1 s first table ≡ read_tree (decode₁ s) (place s) first table
unfolding reading reading_checks text_checks judged verdict no_form read_tree decode place_of
read-tree s first table h = rw (le-ltb max_source (length s) h)

-- octets that stand where they are to be put
settled-there : (s d : List ℕ) → settled (s ++ d) 0 s ≡ s ++ d
settled-there s d =
    let h : length s ≤ length (s ++ d) = omega (arith, length-append s d) in
    settled-front (s ++ d) s h ∙ sets-all (s ++ d) s h ∙ ap (λ (x : List ℕ). s ++ x) (drop-append_seam s d)

-- reading into a sheet that begins with the text already, and into another of its size, differ in the sheet
module _ (s d first table : List ℕ) (short : length s ≤ max_source) (same : length (s ++ d) ≡ length first) where
  elsewhere : (o : Option Tree) → decode₁ s ≡ o → read_tree (decode₁ s) (place s) (s ++ d) table ≡ in_sheet (s ++ d) (read_tree (decode₁ s) (place s) first table)
  unfolding filled
  elsewhere none e = tree-none (decode₁ s) (place s) (s ++ d) table e ∙ ap (in_sheet (s ++ d)) (sym (tree-none (decode₁ s) (place s) first table e))
  elsewhere (some t) e =
      let v : room_verdict (depth t) (nodes t) (length (canon t)) (length (s ++ d)) (records table) ≡ room_verdict (depth t) (nodes t) (length (canon t)) (length first) (records table) =
      ap (λ (n : ℕ). room_verdict (depth t) (nodes t) (length (canon t)) n (records table)) same in
      by_le (room_verdict (depth t) (nodes t) (length (canon t)) (length first) (records table)) 0
      (λ h.
      let z : room_verdict (depth t) (nodes t) (length (canon t)) (length first) (records table) ≡ 0 = omega arith in
      let c : settled (s ++ d) 0 (canon t) ≡ s ++ d = ap (settled (s ++ d) 0) (sym (canon-sound s t e)) ∙ settled-there s d in
      tree-accepted (decode₁ s) (place s) (s ++ d) table t e (v ∙ z)
      ∙ (λ i. in_sheet (c i) (filled t 0 0 first table))
      ∙ ap (in_sheet (s ++ d)) (sym (tree-accepted (decode₁ s) (place s) first table t e z)))
      (λ h.
      tree-refused (decode₁ s) (place s) (s ++ d) table t e (room_verdict (depth t) (nodes t) (length (canon t)) (length first) (records table)) (sym v) h
      ∙ ap (in_sheet (s ++ d)) (sym (tree-refused (decode₁ s) (place s) first table t e (room_verdict (depth t) (nodes t) (length (canon t)) (length first) (records table)) refl h)))

-- ---- past the sheet

module _ (s first table : List ℕ) (short : length s ≤ max_source) (long : space (length first) < length s) where
  past-as : (x : Measured) → Measures (decode₁ s) x → ((p : ℕ) → x ≡ Refused p → p ≡ place s) → (sheet : List ℕ) → unchanged_at (past_row x (length first) (records table)) (past_place x) sheet table ≡ in_sheet sheet (read_tree (decode₁ s) (place s) first table)
  unfolding Measures past_row past_place
  past-as (Err p) m f sheet = ap (λ (q : ℕ). unchanged_at refusal_syntax q sheet table) (f p.place refl) ∙ ap (in_sheet sheet) (sym (tree-none (decode₁ s) (place s) first table m))
  past-as (Ok x) m f sheet =
      let a : room_verdict (depth m.tree) (nodes m.tree) (length (canon m.tree)) (length first) (records table) ≡ room_verdict x.depth x.nodes x.len (length first) (records table) =
      λ i. room_verdict (sym m.deepest i) (sym m.counted i) (sym m.long i) (length first) (records table) in
      let b : x.len ≡ length s = m.long ∙ ap length (sym (canon-sound s m.tree m.is)) in
      by_le (room_verdict x.depth x.nodes x.len (length first) (records table)) 0
      (λ h. let g = roomy x.depth x.nodes x.len (length first) (records table) (omega arith) in absurd (omega (arith, g.lent, g.small, b)))
      (λ h.
      ap (λ (k : ℕ). unchanged k sheet table) (picked _ _ (lt-ltb 0 (room_verdict x.depth x.nodes x.len (length first) (records table)) h))
      ∙ ap (in_sheet sheet) (sym (tree-refused (decode₁ s) (place s) first table m.tree m.is (room_verdict x.depth x.nodes x.len (length first) (records table)) (sym a) h)))

-- ---- in turn

module _ (first : List ℕ) (lent : ℕ) (s table : List ℕ) where
  abbrev after : State
  after = state_after (length first) lent s

  sizes : same_sizes (state_after (length first) lent s) (length (sheet_after first s)) lent ≡ true
  unfolding same_sizes state_after
  sizes = true-both (eq-eqb _ _ (sheet-length first s)) (eq-eqb lent lent refl)

  abbrev Goal : Type 0
  Goal = ended_by (state_after (length first) lent s) (sheet_after first s) lent table ≡ in_sheet (sheet_after first s) (reading 1 s first table)

  fed-is : (state_after (length first) lent s).fed ≡ min (length s) cap
  unfolding state_after
  fed-is = refl

  long-end : max_source < length s → Goal
  unfolding ended_by
  long-end h =
      picked _ _ sizes
      ∙ picked _ _ (lt-ltb max_source after.fed (omega (arith, fed-is)))
      ∙ ap (in_sheet (sheet_after first s)) (sym (read-long s first table h))

  module _ (h : length s ≤ max_source) where
    fed-all : after.fed ≡ length s
    fed-all = omega (arith, fed-is)

    inner-end : length s ≤ space (length first) → Goal
    unfolding ended_by
    inner-end k =
        let e : take after.fed (sheet_after first s) ≡ s = (λ i. take (fed-all i) (sheet-whole first s k i)) ∙ take_at s (drop (length s) first) (length s) refl in
        let same : length (s ++ drop (length s) first) ≡ length first = ap length (sym (sheet-whole first s k)) ∙ sheet-length first s in
        picked _ _ sizes
        ∙ unpicked _ _ (le-ltb max_source after.fed (omega (arith, fed-all)))
        ∙ picked _ _ (le-leb after.fed (space (length (sheet_after first s))) (omega (arith, fed-all, sheet-length first s)))
        ∙ (λ i. reading 1 (e i) (sheet-whole first s k i) table)
        ∙ read-tree s (s ++ drop (length s) first) table h
        ∙ elsewhere s (drop (length s) first) first table h same (decode₁ s) refl
        ∙ sym (λ i. in_sheet (sheet-whole first s k i) (read-tree s first table h i))

    track-is : space (length first) < length s → meant after.track ≡ run capped start s
    unfolding state_after track_after
    track-is k = ap meant (unpicked _ _ (lt-leb (length s) (space (length first)) k)) ∙ meant-coded _ ∙ ap (run capped start) (take_all cap s (omega arith))

    outer-end : space (length first) < length s → Goal
    unfolding ended_by
    outer-end k =
        let m : Measures (decode₁ s) (extent (meant after.track)) = subst (Measures (decode₁ s)) (sym (ap extent (track-is k))) (capped-measures s h) in
        let f : (p : ℕ) → extent (meant after.track) ≡ Refused p → p ≡ place s = λ p e. capped-fails s h p (sym (ap extent (track-is k)) ∙ e) in
        picked _ _ sizes
        ∙ unpicked _ _ (le-ltb max_source after.fed (omega (arith, fed-all)))
        ∙ unpicked _ _ (lt-leb after.fed (space (length (sheet_after first s))) (omega (arith, fed-all, sheet-length first s)))
        ∙ ap (λ (n : ℕ). unchanged_at (past_row (extent (meant after.track)) n (records table)) (past_place (extent (meant after.track))) (sheet_after first s) table) (sheet-length first s)
        ∙ past-as s first table h k (extent (meant after.track)) m f (sheet_after first s)
        ∙ ap (in_sheet (sheet_after first s)) (sym (read-tree s first table h))

  pub ended-in-turn : Goal
  ended-in-turn = by_le (length s) max_source (λ h. by_le (length s) (space (length first)) (inner-end h) (outer-end h)) long-end

-- ---- the promise

pub ended : (x : State) (sheet : List ℕ) (lent : ℕ) (table table' : List ℕ) (r : Reading) → outcome r sheet table' ≡ ended_by x sheet lent table → End x sheet lent table table' r
unfolding ended_by
ended x sheet lent table table' r e =
    record {
      resized = λ z. e ∙ unpicked _ _ z;
      ends = λ first s t.
          e
          ∙ (λ i. ended_by (t.x-is i) (t.sheet-is i) lent table)
          ∙ ended-in-turn first lent s table
          ∙ ap (λ (y : List ℕ). in_sheet y (reading 1 s first table)) (sym t.sheet-is);
    }

-- S 13.4, accepted: what reading the whole leaves is what the pieces left
module _ (first s table : List ℕ) (a : (reading 1 s first table).accepted ≡ true) where
  short : length s ≤ max_source
  short = by_le (length s) max_source (λ h. h) (λ h. differ a (ap (λ (o : Outcome). o.accepted) (read-long s first table h)))

  by-tree : (o : Option Tree) → decode₁ s ≡ o → sheet_after first s ≡ (reading 1 s first table).canonical
  unfolding filled
  by-tree none e = differ a (ap (λ (o : Outcome). o.accepted) (read-tree s first table short ∙ tree-none (decode₁ s) (place s) first table e))
  by-tree (some t) e =
      by_le (room_verdict (depth t) (nodes t) (length (canon t)) (length first) (records table)) 0
      (λ h.
      let z : room_verdict (depth t) (nodes t) (length (canon t)) (length first) (records table) ≡ 0 = omega arith in
      let g = roomy (depth t) (nodes t) (length (canon t)) (length first) (records table) z in
      let c : s ≡ canon t = canon-sound s t e in
      let l : length s ≤ space (length first) = omega (arith, g.lent, g.small, ap length c) in
      sheet-whole first s l
      ∙ sym (sets-all first s (omega (arith, l)))
      ∙ sym (settled-front first s (omega (arith, l)))
      ∙ ap (settled first 0) c
      ∙ sym (ap (λ (o : Outcome). o.canonical) (read-tree s first table short ∙ tree-accepted (decode₁ s) (place s) first table t e z)))
      (λ h.
      differ a (ap (λ (o : Outcome). o.accepted) (read-tree s first table short ∙ tree-refused (decode₁ s) (place s) first table t e (room_verdict (depth t) (nodes t) (length (canon t)) (length first) (records table)) refl h)))

  pub accepted-sheet : sheet_after first s ≡ (reading 1 s first table).canonical
  accepted-sheet = by-tree (decode₁ s) refl
