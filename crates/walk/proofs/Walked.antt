-- The loop accepts what nests to a tree, and counts its nodes and its depth.
use Prim.Native.Nat.{ℕ, ◌+◌, ◌-◌, ◌≤◌, ◌<◌, max}
use native.Mathlib.Omega.{arith}
use mathlib.Core.Path.{◌≡◌, refl, sym, ap, ◌∙◌}
use mathlib.Core.Bool.{true, false}
use mathlib.Core.Option.{Option, none, some}
use mathlib.Core.List.{List, [], ◌∷◌}
use lib.ListN.{length}
use lib.Dec.{ltb, eqb}
use borrow.Author.Tests.{lt-ltb, le-ltb, ne_eqb, eqb-false, ltb-false}
use Rattle.base.specs.Choice.{chain}
use Rattle.base.proofs.Cases.{by-eq, differ, pick-cases, picked, unpicked, some_same, none-some, chain-cases}
use Rattle.model.specs.Decode.{nest}
use Rattle.model.specs.Lexemes.{Lexeme, opening, closing, atom, hinting}
use Rattle.model.specs.Tree.{Tree, plain, hinted, list, Forest, nil, cons, nodes, nodess, depth, depths}
use Rattle.model.proofs.Nesting.{unnest, unnests, nest-sound, nest-complete}
use Rattle.model.specs.Count.{Count, begin, shut_by, shut, step, walk, counts}

-- ---- what is walked through is a tree

shut_open : (c : Count) → 0 < c.opened → shut c ≡ false
unfolding shut_by
shut_open c h = picked _ _ (lt-ltb 0 c.opened h)

shut-done : (c : Count) → c.opened ≡ 0 → 0 < c.seen → shut c ≡ true
unfolding shut_by
shut-done c z h = unpicked _ _ (le-ltb 0 c.opened (omega arith)) ∙ lt-ltb 0 c.seen h

shut-not : (c : Count) → shut c ≡ false → c.opened ≡ 0 → c.seen ≡ 0
unfolding shut_by
shut-not c e z = let w : ltb 0 c.seen ≡ false = sym (unpicked _ _ (le-ltb 0 c.opened (omega arith))) ∙ e in omega (arith, ltb-false 0 c.seen w)

-- what is to come while lists are open
unfoldable pub tail : List Forest → List Lexeme
tail [] = []
tail (f ∷ fs) = unnests f (closing ∷ tail fs)

record Rest (n : ℕ) (ls : List Lexeme) : Type 0 where
  lists : List Forest
  as_many : length lists ≡ n
  is : ls ≡ tail lists

record Whole (ls : List Lexeme) : Type 0 where
  tree : Tree
  is : ls ≡ unnest tree []

-- what is left in a state
data Left (c : Count) (ls : List Lexeme) : Type 0 where
  left_open : 0 < c.opened → Rest c.opened ls → Left c ls
  left-new : c.opened ≡ 0 → c.seen ≡ 0 → Whole ls → Left c ls
  left-done : shut c ≡ true → ls ≡ [] → Left c ls

-- a tree comes first
with-tree : (c c' : Count) (t : Tree) (ls : List Lexeme) → shut c ≡ false → c'.opened ≡ c.opened → 0 < c'.seen → Left c' ls → Left c (unnest t ls)
unfolding tail unnest
with-tree c c' t ls s z n (left_open o r) = by r.lists r.as_many r.is
  where
    by : (l : List Forest) → length l ≡ c'.opened → ls ≡ tail l → Left c (unnest t ls)
    by [] a i = absurd (omega arith)
    by (f ∷ fs) a i = left_open (omega arith) (record { lists = cons t f ∷ fs; as_many = a ∙ z; is = ap (unnest t) i })
with-tree c c' t ls s z n (left-new o k w) = absurd (omega arith)
with-tree c c' t ls s z n (left-done d e) =
    by-eq c.opened 0
    (λ y. left-new y (shut-not c s y) (record { tree = t; is = ap (unnest t) e }))
    (λ y. differ d (shut_open c' (omega arith)))

with_open : (c c' : Count) (ls : List Lexeme) → shut c ≡ false → c'.opened ≡ c.opened + 1 → Left c' ls → Left c (opening ∷ ls)
unfolding tail unnest
with_open c c' ls s z (left_open o r) = by r.lists r.as_many r.is
  where
    by : (l : List Forest) → length l ≡ c'.opened → ls ≡ tail l → Left c (opening ∷ ls)
    by [] a i = absurd (omega arith)
    by (f ∷ []) a i = left-new (omega arith) (shut-not c s (omega arith)) (record { tree = list f; is = ap (λ (x : List Lexeme). opening ∷ x) i })
    by (f ∷ g ∷ gs) a i = left_open (omega arith) (record { lists = cons (list f) g ∷ gs; as_many = omega arith; is = ap (λ (x : List Lexeme). opening ∷ x) i })
with_open c c' ls s z (left-new o k w) = absurd (omega arith)
with_open c c' ls s z (left-done d e) = differ d (shut_open c' (omega arith))

with-close : (c c' : Count) (ls : List Lexeme) → c.opened ≡ c'.opened + 1 → 0 < c'.seen → Left c' ls → Left c (closing ∷ ls)
unfolding tail unnest
with-close c c' ls z n (left_open o r) = left_open (omega arith) (record { lists = nil ∷ r.lists; as_many = omega (arith, r.as_many); is = ap (λ (x : List Lexeme). closing ∷ x) r.is })
with-close c c' ls z n (left-new o k w) = absurd (omega arith)
with-close c c' ls z n (left-done d e) =
    by-eq c'.opened 0
    (λ y. left_open (omega arith) (record { lists = nil ∷ []; as_many = omega arith; is = ap (λ (x : List Lexeme). closing ∷ x) e }))
    (λ y. differ d (shut_open c' (omega arith)))

-- one lexeme, where the rest is known
step_left : (l : Lexeme) (ls : List Lexeme) (c c' : Count) → c.opened ≤ c.seen → shut c ≡ false → step l c ≡ some c' → (c'.opened ≤ c'.seen → Left c' ls) → Left c (l ∷ ls)
unfolding step unnest
step_left opening ls c c' v s e g = some_same (λ (x : Count). (x.opened ≤ x.seen → Left x ls) → Left c (opening ∷ ls)) e (λ k. with_open c _ ls s refl (k (omega arith))) g
step_left closing ls c c' v s e g =
    pick-cases (eqb c.opened 0) _ _ e
    (λ t h. none-some h)
    (λ t h. let z : c.opened ≡ 0 → ⊥ = eqb-false _ _ t in
    some_same (λ (x : Count). (x.opened ≤ x.seen → Left x ls) → Left c (closing ∷ ls)) h (λ k. with-close c _ ls (omega arith) (omega arith) (k (omega arith))) g)
step_left (atom d) ls c c' v s e g = some_same (λ (x : Count). (x.opened ≤ x.seen → Left x ls) → Left c (atom d ∷ ls)) e (λ k. with-tree c _ (plain d) ls s refl (omega arith) (k (omega arith))) g
step_left (hinting h d) ls c c' v s e g = some_same (λ (x : Count). (x.opened ≤ x.seen → Left x ls) → Left c (hinting h d ∷ ls)) e (λ k. with-tree c _ (hinted h d) ls s refl (omega arith) (k (omega arith))) g

walk-left : (ls : List Lexeme) (c r : Count) → c.opened ≤ c.seen → walk ls c ≡ some r → Left c ls
unfolding walk
walk-left [] c r v e = pick-cases (shut c) _ _ e (λ t h. left-done t refl) (λ t h. none-some h)
walk-left (l ∷ ls) c r v e =
    pick-cases (shut c) _ _ e
    (λ t h. none-some h)
    (λ t h. chain-cases (step l c) _ h (λ c' h₁ h₂. step_left l ls c c' v t h₁ (λ w. walk-left ls c' r w h₂)))

left-whole : (ls : List Lexeme) → Left begin ls → Whole ls
unfolding shut_by
left-whole ls (left_open o r) = absurd (omega arith)
left-whole ls (left-new o k w) = w
left-whole ls (left-done d e) = let z : ◌≡◌ {A = ℕ} 0 1 = cc in absurd (omega arith)

-- ---- a tree is walked through

pub walk_step : (l : Lexeme) (ls : List Lexeme) (c c' : Count) → shut c ≡ false → step l c ≡ some c' → walk (l ∷ ls) c ≡ walk ls c'
unfolding walk chain
walk_step l ls c c' s e = unpicked _ _ s ∙ rw e

pub walk-stop : (l : Lexeme) (ls : List Lexeme) (c : Count) → shut c ≡ false → step l c ≡ none → walk (l ∷ ls) c ≡ none
unfolding walk chain
walk-stop l ls c s e = unpicked _ _ s ∙ rw e

-- the state past something of depth d and n nodes
abbrev pub after : Count → ℕ → ℕ → Count
after c d n = record { opened = c.opened; deepest = max c.deepest (c.opened + d); seen = c.seen + n }

same_count : {o o' d d' n n' : ℕ} → o ≡ o' → d ≡ d' → n ≡ n' → ◌≡◌ {A = Count} (record { opened = o; deepest = d; seen = n }) (record { opened = o'; deepest = d'; seen = n' })
same_count p q r = λ i. record { opened = p i; deepest = q i; seen = r i }

abbrev inner : Count → Count
inner c = record { opened = c.opened + 1; deepest = max c.deepest (c.opened + 1); seen = c.seen + 1 }

close-step : (c : Count) → 0 < c.opened → step closing c ≡ some (record { opened = c.opened - 1; deepest = c.deepest; seen = c.seen })
unfolding step
close-step c h = unpicked _ _ (ne_eqb c.opened 0 (λ e. omega arith))

atom-walk : (d : List ℕ) (ls : List Lexeme) (c : Count) → shut c ≡ false → c.opened ≤ c.deepest → walk (atom d ∷ ls) c ≡ walk ls (after c 0 1)
unfolding step
atom-walk d ls c s h = walk_step (atom d) ls c _ s refl ∙ ap (walk ls) (same_count refl (omega arith) refl)

hint-walk : (x d : List ℕ) (ls : List Lexeme) (c : Count) → shut c ≡ false → c.opened ≤ c.deepest → walk (hinting x d ∷ ls) c ≡ walk ls (after c 0 1)
unfolding step
hint-walk x d ls c s h = walk_step (hinting x d) ls c _ s refl ∙ ap (walk ls) (same_count refl (omega arith) refl)

open-walk : (ls : List Lexeme) (c : Count) → shut c ≡ false → walk (opening ∷ ls) c ≡ walk ls (inner c)
unfolding step
open-walk ls c s = walk_step opening ls c _ s refl

mutual
  unfolding unnest nodes depth

  pub tree-walk : (t : Tree) (ls : List Lexeme) (c : Count) → shut c ≡ false → c.opened ≤ c.deepest → walk (unnest t ls) c ≡ walk ls (after c (depth t) (nodes t))
  tree-walk (plain d) ls c s h = atom-walk d ls c s h
  tree-walk (hinted x d) ls c s h = hint-walk x d ls c s h
  tree-walk (list f) ls c s h =
      open-walk (unnests f (closing ∷ ls)) c s
      ∙ forest-walk f (closing ∷ ls) (inner c) (omega arith) (omega arith)
      ∙ walk_step closing ls (after (inner c) (depths f) (nodess f)) _ (shut_open (after (inner c) (depths f) (nodess f)) (omega arith)) (close-step (after (inner c) (depths f) (nodess f)) (omega arith))
      ∙ ap (walk ls) (same_count (omega arith) (omega arith) (omega arith))

  forest-walk : (f : Forest) (ls : List Lexeme) (c : Count) → 0 < c.opened → c.opened ≤ c.deepest → walk (unnests f ls) c ≡ walk ls (after c (depths f) (nodess f))
  forest-walk nil ls c o h = ap (walk ls) (same_count refl (omega arith) (omega arith))
  forest-walk (cons t f) ls c o h =
      tree-walk t (unnests f ls) c (shut_open c o) h
      ∙ forest-walk f ls (after c (depth t) (nodes t)) o (omega arith)
      ∙ ap (walk ls) (same_count refl (omega arith) (omega arith))

pub nodes-pos : (t : Tree) → 0 < nodes t
unfolding nodes
nodes-pos (plain d) = omega arith
nodes-pos (hinted h d) = omega arith
nodes-pos (list f) = omega arith

pub walk-unnest : (t : Tree) → walk (unnest t []) begin ≡ counts t
unfolding walk counts shut_by
walk-unnest t =
    tree-walk t [] begin refl (omega arith)
    ∙ picked _ _ (shut-done (after begin (depth t) (nodes t)) refl (omega (arith, nodes-pos t)))
    ∙ ap some (same_count refl (omega arith) (omega arith))

-- the loop's answer is the tree's counts
pub walk-nest : (ls : List Lexeme) → walk ls begin ≡ chain (nest ls) counts
unfolding chain
walk-nest ls = by (nest ls) refl
  where
    by : (o : Option Tree) → nest ls ≡ o → walk ls begin ≡ chain o counts
    by (some t) e = ap (λ (x : List Lexeme). walk x begin) (nest-sound ls t e) ∙ walk-unnest t
    by none e = on (walk ls begin) refl
      where
        on : (w : Option Count) → walk ls begin ≡ w → walk ls begin ≡ none
        on none h = h
        on (some r) h =
            let q : Whole ls = left-whole ls (walk-left ls begin r (omega arith) h) in
            none-some (sym e ∙ ap nest q.is ∙ nest-complete q.tree)
