-- The walk over lexemes that are still to be read: one lexeme at a time, and what it says of the tree.
use Prim.Native.Nat.{◌≤◌}
use native.Mathlib.Omega.{arith}
use mathlib.Core.Path.{◌≡◌, refl, sym, ◌∙◌}
use mathlib.Core.Bool.{true, false}
use mathlib.Core.Option.{Option, none, some}
use mathlib.Core.List.{List, [], ◌∷◌}
use lib.Dec.{eqb}
use Rattle.base.specs.Choice.{pick, chain}
use Rattle.base.proofs.Cases.{pick-cases, picked, unpicked, some_same, none-some, chain-cases}
use Rattle.model.specs.Decode.{nest}
use Rattle.model.specs.Lexemes.{Lexeme, opening, closing, atom, hinting, before}
use Rattle.model.specs.Tree.{Tree, nodes, depth}
use Rattle.model.specs.Count.{Count, begin, shut, step, walk, counts}
use Rattle.model.proofs.Braces.{unnesting}
use Rattle.walk.proofs.Walked.{walk-nest, after, tree-walk}

abbrev pub walking : Option (List Lexeme) → Count → Option Count
walking o c = chain o (λ ls. walk ls c)

module _ (l : Lexeme) (o : Option (List Lexeme)) (c : Count) where
  pub walking-shut : shut c ≡ true → walking (before l o) c ≡ none
  unfolding chain before walk
  walking-shut e = by o
    where
      by : (o : Option (List Lexeme)) → walking (before l o) c ≡ none
      by none = refl
      by (some ls) = picked _ _ e

  pub walking-step : (x : Count) → shut c ≡ false → step l c ≡ some x → walking (before l o) c ≡ walking o x
  unfolding chain before walk
  walking-step x e f = by o
    where
      by : (o : Option (List Lexeme)) → walking (before l o) c ≡ walking o x
      by none = refl
      by (some ls) = unpicked _ _ e ∙ rw f

  pub walking-stop : shut c ≡ false → step l c ≡ none → walking (before l o) c ≡ none
  unfolding chain before walk
  walking-stop e f = by o
    where
      by : (o : Option (List Lexeme)) → walking (before l o) c ≡ none
      by none = refl
      by (some ls) = unpicked _ _ e ∙ rw f

-- all the lexemes of a tree
pub walking-tree : (t : Tree) (o : Option (List Lexeme)) (c : Count) → shut c ≡ false → c.opened ≤ c.deepest → walking (unnesting t o) c ≡ walking o (after c (depth t) (nodes t))
unfolding chain unnesting
walking-tree t none c s h = refl
walking-tree t (some ls) c s h = tree-walk t ls c s h

pub walking-end : (c : Count) → walking (some []) c ≡ pick (shut c) (some c) none
unfolding chain walk
walking-end c = refl

-- ---- what it says of the tree that the lexemes nest to

chained : {A B C : Type 0} (o : Option A) (f : A → Option B) (g : B → Option C) (h : A → Option C) → ((a : A) → h a ≡ chain (f a) g) → chain o h ≡ chain (chain o f) g
unfolding chain
chained none f g h e = refl
chained (some a) f g h e = e a

pub walking-nest : (o : Option (List Lexeme)) → walking o begin ≡ chain (chain o nest) counts
walking-nest o = chained o nest counts (λ ls. walk ls begin) walk-nest

pub undecoded : (o : Option (List Lexeme)) → walking o begin ≡ none → chain o nest ≡ none
unfolding chain counts
undecoded o e = by (chain o nest) (sym (walking-nest o) ∙ e)
  where
    by : (x : Option Tree) → chain x counts ≡ none → x ≡ none
    by none z = refl
    by (some t) z = none-some (sym z)

pub decodes : {G : Type 0} (o : Option (List Lexeme)) (c : Count) → walking o begin ≡ some c → ((t : Tree) → chain o nest ≡ some t → (c.seen ≡ nodes t) → (c.deepest ≡ depth t) → G) → G
unfolding counts
decodes o c e g =
    chain-cases (chain o nest) counts (sym (walking-nest o) ∙ e)
    (λ t h u. g t h (some_same (λ (v : Count). v.seen ≡ nodes t) u refl) (some_same (λ (v : Count). v.deepest ≡ depth t) u refl))

-- ---- counts only grow

step-grows : (l : Lexeme) (c x : Count) → step l c ≡ some x → (c.deepest ≤ x.deepest) × (c.seen ≤ x.seen)
unfolding step
step-grows opening c x e = some_same (λ (x : Count). (c.deepest ≤ x.deepest) × (c.seen ≤ x.seen)) e (omega arith, omega arith)
step-grows closing c x e =
    pick-cases (eqb c.opened 0) _ _ e (λ t h. none-some h)
    (λ t h. some_same (λ (x : Count). (c.deepest ≤ x.deepest) × (c.seen ≤ x.seen)) h (omega arith, omega arith))
step-grows (atom d) c x e = some_same (λ (x : Count). (c.deepest ≤ x.deepest) × (c.seen ≤ x.seen)) e (omega arith, omega arith)
step-grows (hinting h d) c x e = some_same (λ (x : Count). (c.deepest ≤ x.deepest) × (c.seen ≤ x.seen)) e (omega arith, omega arith)

pub walk-grows : (ls : List Lexeme) (c r : Count) → walk ls c ≡ some r → (c.deepest ≤ r.deepest) × (c.seen ≤ r.seen)
unfolding walk
walk-grows [] c r e = pick-cases (shut c) _ _ e (λ t h. some_same (λ (r : Count). (c.deepest ≤ r.deepest) × (c.seen ≤ r.seen)) h (omega arith, omega arith)) (λ t h. none-some h)
walk-grows (l ∷ ls) c r e =
    pick-cases (shut c) _ _ e (λ t h. none-some h)
    (λ t h. chain-cases (step l c) _ h (λ x i j. (omega (arith, step-grows l c x i, walk-grows ls x r j), omega (arith, step-grows l c x i, walk-grows ls x r j))))
