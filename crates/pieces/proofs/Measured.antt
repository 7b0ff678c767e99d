-- What the automaton says of a whole text: it measures the text, and tells the place that reading tells.
use Prim.Native.Nat.{ℕ, ◌≤◌, ◌<◌}
use native.Mathlib.Omega.{arith}
use mathlib.Core.Path.{◌≡◌, refl, sym, ap, ◌∙◌, subst}
use mathlib.Core.Bool.{true, false}
use mathlib.Core.Option.{Option, none, some}
use mathlib.Core.List.{List, [], append-nil}
use lib.ListN.{length}
use borrow.Author.Tests.{lt-ltb}
use Rattle.base.specs.Choice.{chain}
use Rattle.base.proofs.Cases.{by_bool, picked, unpicked, differ, both_true}
use Rattle.model.specs.Automaton.{Phase, between, sizing, counting, filling, bracket, dead, start, free, run, lives, alive, rests, place}
use Rattle.model.specs.Count.{begin, shut_by, shut, walk}
use Rattle.model.specs.Decode.{decode₁}
use Rattle.model.specs.Lexemes.{strict_lexemes}
use Rattle.model.specs.Limits.{max_source}
use Rattle.model.specs.Tree.{Tree, plain, hinted, list, nodes}
use Rattle.model.proofs.Exact.{canon-sound}
use Rattle.model.proofs.Strict.{strict-all-complete}
use Rattle.walk.specs.Extent.{Wholly, Measures}
use Rattle.walk.specs.Extent.{Measured, Whole, Refused}
use Rattle.walk.proofs.Extents.{place-equal}
use Rattle.walk.proofs.Chained.{decodes}
use Rattle.automaton.proofs.Laws.{alive-begins, place-begins}
use Rattle.automaton.proofs.Through.{finished, tree-run}
use Rattle.automaton.proofs.Reached.{Reached, walked_on, reached-start, reach-run}
use Rattle.automaton.proofs.Completed.{shut-is}
use Rattle.pieces.specs.Capped.{capped, whole, extent}
use Rattle.pieces.proofs.Capped.{capped-taken, capped-extent}

-- ---- whole exactly where the octets are one canonical form, with its sizes

rests-alive : (p : Phase) → rests p ≡ true → lives p ≡ true
unfolding rests lives
rests-alive between e = refl
rests-alive (sizing h) e = refl
rests-alive (counting h n) e = refl
rests-alive (filling h n) e = refl
rests-alive bracket e = refl
rests-alive dead e = e

nodes-some : (t : Tree) → 0 < nodes t
unfolding nodes
nodes-some (plain d) = omega arith
nodes-some (hinted h d) = omega arith
nodes-some (list f) = omega arith

finished-whole : (t : Tree) → whole (finished t) ≡ true
unfolding finished rests shut_by
finished-whole t = lt-ltb 0 (nodes t) (nodes-some t)

decoded-whole : (s : List ℕ) (t : Tree) → decode₁ s ≡ some t → run free start s ≡ finished t
decoded-whole s t e = ap (run free start) (canon-sound s t e) ∙ tree-run t

alive-taken : (s : List ℕ) → alive (run free start s) ≡ true → (run free start s).taken ≡ length s
unfolding place
alive-taken s a = place-begins s ((alive-begins s).0 a)

whole-decoded : (s : List ℕ) → whole (run free start s) ≡ true → Wholly (decode₁ s) (run free start s).taken (run free start s).tally.seen (run free start s).tally.deepest
unfolding walk decode₁ chain
whole-decoded s w =
    let v : (rests (run free start s).phase ≡ true) × (shut (run free start s).tally ≡ true) = both_true w in
    let a : alive (run free start s) ≡ true = rests-alive _ v.0 in
    let r : Reached s (run free start s).phase (run free start s).tally = reach-run s [] start reached-start a in
    let x : strict_lexemes s ≡ some r.lexemes = ap strict_lexemes (shut-is v.1 r) ∙ strict-all-complete r.lexemes in
    let y : walk r.lexemes begin ≡ some (run free start s).tally = ap (λ z. walk z begin) (sym (append-nil r.lexemes)) ∙ walked_on r.walked [] ∙ picked _ _ v.1 in
    decodes (strict_lexemes s) (run free start s).tally (rw x y)
    (λ t g c e. record { tree = t; is = g; long = alive-taken s a ∙ ap length (canon-sound s t g); counted = c; deepest = e })

run-measures : (s : List ℕ) → Measures (decode₁ s) (extent (run free start s))
unfolding extent Measures
run-measures s = by_bool (whole (run free start s)) (λ w. rw w (whole-decoded s w)) (λ w. rw w (by w (decode₁ s) refl))
  where
    by : whole (run free start s) ≡ false → (o : Option Tree) → decode₁ s ≡ o → decode₁ s ≡ none
    by w none e = e
    by w (some t) e = differ (ap whole (decoded-whole s t e) ∙ finished-whole t) w

not-refused : {G : Type 0} {len count deep p : ℕ} → ◌≡◌ {A = Measured} (Whole len count deep) (Refused p) → G
not-refused e = let z : ◌≡◌ {A = ℕ} 0 1 = cc in absurd (omega arith)

-- ---- with capped numbers, for every text that is read

module _ (s : List ℕ) (h : length s ≤ max_source) where
  -- the automaton measures a text, as the measuring pass does
  pub capped-measures : Measures (decode₁ s) (extent (run capped start s))
  capped-measures = subst (Measures (decode₁ s)) (sym (capped-extent s h)) (run-measures s)

  -- and tells the place of S 7.3
  pub capped-fails : (p : ℕ) → extent (run capped start s) ≡ Refused p → p ≡ place s
  unfolding extent place
  capped-fails p e =
      by_bool (whole (run capped start s))
      (λ w. not-refused (sym (picked _ _ w) ∙ e))
      (λ w. sym (place-equal (sym (unpicked _ _ w) ∙ e)) ∙ capped-taken s h)
