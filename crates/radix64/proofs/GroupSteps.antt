-- A group letter by letter.
use Prim.Native.Nat.{ℕ, ◌+◌, ◌%◌, ◌≤◌, ◌<◌}
use native.Mathlib.Omega.{arith}
use mathlib.Core.Path.{◌≡◌, sym, ◌∙◌}
use mathlib.Core.Bool.{Bool, true, false}
use mathlib.Core.List.{List, [], ◌∷◌, ◌++◌}
use lib.ListN.{take, drop}
use Rattle.base.proofs.Cases.{by_bool, picked, unpicked}
use Rattle.model.specs.Grammar.{octet₁, leftover₂, leftover₃, rules}
use Rattle.model.specs.Octets.{letter, leftover}
use Rattle.model.specs.Strings.{Read, unbase}
use Rattle.model.proofs.Streams.{between, base-group}
use Rattle.model.proofs.Stripped.{no-pad, a-pad, Base64, no-letter, three, two}
use Rattle.radix64.specs.Bits.{three_octets, Low}
use Rattle.std.specs.Prelude.{Option, Some, None}
use Rattle.radix64.specs.Steps.{OneMore, Closed, Letters, Groups, allowed}
use Rattle.radix64.proofs.Ends.{pad-first, one_only, pad-second, letter-fourth, over-two, over-one, left-three, left-three-pad, left-two, left-two-pad, left-two-pads, closed, unclosed}
use Rattle.radix64.proofs.LetterSteps.{to-char, to_end, to-pad, to_none, no_end, no-pads, no_char}
use Rattle.radix64.proofs.Marks.{pad-no-letter}
use Rattle.radix64.specs.declared.steps.Letter.{Letter}
use Rattle.radix64.specs.declared.steps.Letter.TheVariants.{Char, Pad, End}
use Rattle.radix64.specs.declared.steps.Group.{Group}
use Rattle.radix64.specs.declared.steps.Group.TheVariants.{Four, Rest}

low : (a b c e : ℕ) → a < 64 → b < 64 → c < 64 → e < 64 → Low (a ∷ b ∷ c ∷ e ∷ [])
low a b c e h i j k = record { first = h; second = i; third = j; fourth = k }

-- what is said of a group at a place, after p, of which n letters belong to the group
abbrev GroupsAfter : ℕ → List ℕ → List ℕ → ℕ → ℕ → Option Group → Type 0
GroupsAfter m src p n at g = Groups m src (between m (unbase rules) p (drop at src)) n at g

-- a step before does not change what is said of the group
earlier : (m : ℕ) (src : List ℕ) (y z : Read (List ℕ)) (n at next : ℕ) (g : Option Group) → at < next → y ≡ z → Groups m src z (n + 1) next g → Groups m src y n at g
unfolding Groups
earlier m src y z n at next (Some (Four a b c e q)) h r t = record { on = omega (arith, t.on); within = t.within; low = t.low; more = r ∙ t.more }
earlier m src y z n at next (Some (Rest l a b c q)) h r t = record { on = omega (arith, t.on); within = t.within; low = t.low; few = t.few; ends = r ∙ t.ends }
earlier m src y z n at next None h r t = r ∙ t

-- what is none of a group
pub group-none : (m : ℕ) (src : List ℕ) (at : ℕ) (p : List ℕ) (n : ℕ) → Letters m src at None → GroupsAfter m src p n at None
unfolding Groups
group-none m src at p n w = to_none m src at w p

-- the closing mark after p, where the low bits left over decide
module _ (m : ℕ) (src : List ℕ) (p : List ℕ) (n at next len a b c : ℕ) (t : Bool) (w : Closed m src at next) (l : Low (a ∷ b ∷ c ∷ 0 ∷ [])) (f : len ≤ 2) where
  ended : (t ≡ true → Base64 rules p (take len (three_octets a b c 0))) → (t ≡ false → (d : List ℕ) → Base64 rules p d → ⊥) → GroupsAfter m src p n at (allowed t (Rest len a b c next))
  unfolding Groups allowed
  ended y z =
      by_bool t
      (λ e. rw e (record { on = w.on; within = w.within; low = l; few = f; ends = w.moves p ∙ closed (drop next src) (y e) }))
      (λ e. rw e (w.moves p ∙ unclosed p (drop next src) (z e)))

-- ---- after three letters
module _ (m : ℕ) (src : List ℕ) (at x y z : ℕ) (hx : letter x < 64) (hy : letter y < 64) (hz : letter z < 64) (r : Letter) (w : Letters m src at (Some r)) where
  pub g4-char : (a b c f v next : ℕ) → a ≡ letter x → b ≡ letter y → c ≡ letter z → r ≡ Char v next → f ≡ letter v → GroupsAfter m src (x ∷ y ∷ z ∷ []) 3 at (Some (Four a b c f next))
  unfolding Groups
  g4-char a b c f v next ea eb ec e ef =
      let t : (letter v < 64) × OneMore m src at v next = to-char m src at r w v next e in
      record {
        on = omega (arith, t.1.on);
        within = t.1.within;
        low = low a b c f (omega arith) (omega arith) (omega arith) (omega arith);
        more = t.1.moves (x ∷ y ∷ z ∷ []) ∙ rw (ea, eb, ec, ef) (base-group m x y z v (drop next src) hx hy hz t.0 (pad-no-letter v t.0));
      }

  pub g4-end : (a b c next : ℕ) (g : Option Group) → a ≡ letter x → b ≡ letter y → c ≡ letter z → r ≡ End next → g ≡ allowed (leftover (c % 4)) (Rest 2 a b c next) → GroupsAfter m src (x ∷ y ∷ z ∷ []) 3 at g
  g4-end a b c next g ea eb ec e q =
      rw (q, ea, eb, ec) (ended m src (x ∷ y ∷ z ∷ []) 3 at next 2 _ _ _ (leftover₃ z) (to_end m src at r w next e) (low _ _ _ _ hx hy hz (omega arith)) (omega arith)
      (λ t. three hx hy hz t no-pad)
      (λ t d. left-three hz t))

  module _ (next : ℕ) (e : r ≡ Pad next) where
    on-pad : (g : Option Group) → GroupsAfter m src (x ∷ y ∷ z ∷ 61 ∷ []) 4 next g → GroupsAfter m src (x ∷ y ∷ z ∷ []) 3 at g
    on-pad g t = earlier m src _ _ 3 at next g (to-pad m src at r w next e).on ((to-pad m src at r w next e).moves (x ∷ y ∷ z ∷ [])) t

    pub g4-pad-no : Letters m src next None → GroupsAfter m src (x ∷ y ∷ z ∷ []) 3 at None
    g4-pad-no u = on-pad None (group-none m src next (x ∷ y ∷ z ∷ 61 ∷ []) 4 u)

    module _ (s : Letter) (u : Letters m src next (Some s)) where
      pub g4-pad-end : (a b c last : ℕ) (g : Option Group) → a ≡ letter x → b ≡ letter y → c ≡ letter z → s ≡ End last → g ≡ allowed (leftover (c % 4)) (Rest 2 a b c last) → GroupsAfter m src (x ∷ y ∷ z ∷ []) 3 at g
      g4-pad-end a b c last g ea eb ec f q =
          rw (q, ea, eb, ec) (on-pad _
          (ended m src (x ∷ y ∷ z ∷ 61 ∷ []) 4 next last 2 _ _ _ (leftover₃ z) (to_end m src next s u last f) (low _ _ _ _ hx hy hz (omega arith)) (omega arith)
          (λ t. three hx hy hz t (a-pad no-pad))
          (λ t d. left-three-pad hz t)))

      pub g4-pad-char : (v n : ℕ) → s ≡ Char v n → GroupsAfter m src (x ∷ y ∷ z ∷ []) 3 at None
      unfolding Groups
      g4-pad-char v n f = on-pad None (no_char m src next s u (x ∷ y ∷ z ∷ 61 ∷ []) v n f (λ l d k b. over-one hz b))

      pub g4-pad-pad : (n : ℕ) → s ≡ Pad n → GroupsAfter m src (x ∷ y ∷ z ∷ []) 3 at None
      unfolding Groups
      g4-pad-pad n f = on-pad None (no-pads m src next s u (x ∷ y ∷ z ∷ 61 ∷ []) n f (λ l d b. over-one hz b))

-- ---- after two letters, and after a pad
module _ (m : ℕ) (src : List ℕ) (at x y : ℕ) (hx : letter x < 64) (hy : letter y < 64) (r : Letter) (w : Letters m src at (Some r)) where
  ended₂ : (p : List ℕ) (n a b next : ℕ) (g : Option Group) → a ≡ letter x → b ≡ letter y → r ≡ End next → g ≡ allowed (leftover (b % 16)) (Rest 1 a b 0 next)
      → (leftover₂ y ≡ true → Base64 rules p (octet₁ x y ∷ [])) → (leftover₂ y ≡ false → (d : List ℕ) → Base64 rules p d → ⊥) → GroupsAfter m src p n at g
  ended₂ p n a b next g ea eb e q h k =
      rw (q, ea, eb) (ended m src p n at next 1 _ _ 0 (leftover₂ y) (to_end m src at r w next e) (low _ _ _ _ hx hy (omega arith) (omega arith)) (omega arith) h k)

  pub g3-end : (a b next : ℕ) (g : Option Group) → a ≡ letter x → b ≡ letter y → r ≡ End next → g ≡ allowed (leftover (b % 16)) (Rest 1 a b 0 next) → GroupsAfter m src (x ∷ y ∷ []) 2 at g
  g3-end a b next g ea eb e q = ended₂ (x ∷ y ∷ []) 2 a b next g ea eb e q (λ t. two hx hy t no-pad) (λ t d. left-two t)

  pub pad-end : (a b next : ℕ) (g : Option Group) → a ≡ letter x → b ≡ letter y → r ≡ End next → g ≡ allowed (leftover (b % 16)) (Rest 1 a b 0 next) → GroupsAfter m src (x ∷ y ∷ 61 ∷ []) 3 at g
  pad-end a b next g ea eb e q = ended₂ (x ∷ y ∷ 61 ∷ []) 3 a b next g ea eb e q (λ t. two hx hy t (a-pad no-pad)) (λ t d. left-two-pad t)

  pub pad-char : (v next : ℕ) → r ≡ Char v next → GroupsAfter m src (x ∷ y ∷ 61 ∷ []) 3 at None
  unfolding Groups
  pad-char v next e = no_char m src at r w (x ∷ y ∷ 61 ∷ []) v next e (λ l d k b. letter-fourth k b)

  twice-end : (a b next : ℕ) (g : Option Group) → a ≡ letter x → b ≡ letter y → r ≡ End next → g ≡ allowed (leftover (b % 16)) (Rest 1 a b 0 next) → GroupsAfter m src (x ∷ y ∷ 61 ∷ 61 ∷ []) 4 at g
  twice-end a b next g ea eb e q = ended₂ (x ∷ y ∷ 61 ∷ 61 ∷ []) 4 a b next g ea eb e q (λ t. two hx hy t (a-pad (a-pad no-pad))) (λ t d. left-two-pads t)

module _ (m : ℕ) (src : List ℕ) (at x y : ℕ) (hx : letter x < 64) (hy : letter y < 64) (r : Letter) (w : Letters m src at (Some r)) (next : ℕ) where
  pub g3-char : (v : ℕ) → r ≡ Char v next → (g : Option Group) → GroupsAfter m src (x ∷ y ∷ v ∷ []) 3 next g → GroupsAfter m src (x ∷ y ∷ []) 2 at g
  g3-char v e g t = let c : (letter v < 64) × OneMore m src at v next = to-char m src at r w v next e in earlier m src _ _ 2 at next g c.1.on (c.1.moves (x ∷ y ∷ [])) t

  module _ (e : r ≡ Pad next) where
    past-pad : (p : List ℕ) (n : ℕ) (g : Option Group) → GroupsAfter m src (p ++ (61 ∷ [])) (n + 1) next g → GroupsAfter m src p n at g
    past-pad p n g t = earlier m src _ _ n at next g (to-pad m src at r w next e).on ((to-pad m src at r w next e).moves p) t

    pub g3-pad : (g : Option Group) → GroupsAfter m src (x ∷ y ∷ 61 ∷ []) 3 next g → GroupsAfter m src (x ∷ y ∷ []) 2 at g
    g3-pad g t = past-pad (x ∷ y ∷ []) 2 g t

    pub pad-pad-no : Letters m src next None → GroupsAfter m src (x ∷ y ∷ 61 ∷ []) 3 at None
    pad-pad-no u = past-pad (x ∷ y ∷ 61 ∷ []) 3 None (group-none m src next (x ∷ y ∷ 61 ∷ 61 ∷ []) 4 u)

    module _ (s : Letter) (u : Letters m src next (Some s)) where
      pub pad-pad-end : (a b last : ℕ) (g : Option Group) → a ≡ letter x → b ≡ letter y → s ≡ End last → g ≡ allowed (leftover (b % 16)) (Rest 1 a b 0 last) → GroupsAfter m src (x ∷ y ∷ 61 ∷ []) 3 at g
      pad-pad-end a b last g ea eb f q = past-pad (x ∷ y ∷ 61 ∷ []) 3 g (twice-end m src next x y hx hy s u a b last g ea eb f q)

      pub pad-pad-char : (v n : ℕ) → s ≡ Char v n → GroupsAfter m src (x ∷ y ∷ 61 ∷ []) 3 at None
      unfolding Groups
      pad-pad-char v n f = past-pad (x ∷ y ∷ 61 ∷ []) 3 None (no_char m src next s u (x ∷ y ∷ 61 ∷ 61 ∷ []) v n f (λ l d k b. over-two b))

      pub pad-pad-pad : (n : ℕ) → s ≡ Pad n → GroupsAfter m src (x ∷ y ∷ 61 ∷ []) 3 at None
      unfolding Groups
      pad-pad-pad n f = past-pad (x ∷ y ∷ 61 ∷ []) 3 None (no-pads m src next s u (x ∷ y ∷ 61 ∷ 61 ∷ []) n f (λ l d b. over-two b))

-- ---- the first two letters
module _ (m : ℕ) (src : List ℕ) (at : ℕ) (r : Letter) (w : Letters m src at (Some r)) where
  pub g1-end : (next : ℕ) → r ≡ End next → GroupsAfter m src [] 0 at (Some (Rest 0 0 0 0 next))
  unfolding Groups
  g1-end next e =
      let t : Closed m src at next = to_end m src at r w next e in
      record { on = t.on; within = t.within; low = low _ _ _ _ (omega arith) (omega arith) (omega arith) (omega arith); few = omega arith; ends = t.moves [] ∙ closed (drop next src) no-letter }

  pub g1-pad : (next : ℕ) → r ≡ Pad next → GroupsAfter m src [] 0 at None
  unfolding Groups
  g1-pad next e = no-pads m src at r w [] next e (λ l d b. pad-first b)

  module _ (x next : ℕ) (e : r ≡ Char x next) where
    g1-char : (g : Option Group) → GroupsAfter m src (x ∷ []) 1 next g → GroupsAfter m src [] 0 at g
    g1-char g t = let c : (letter x < 64) × OneMore m src at x next = to-char m src at r w x next e in earlier m src _ _ 0 at next g c.1.on (c.1.moves []) t

    pub g2-no : Letters m src next None → GroupsAfter m src [] 0 at None
    g2-no u = g1-char None (group-none m src next (x ∷ []) 1 u)

    module _ (s : Letter) (u : Letters m src next (Some s)) where
      pub g2-end : (last : ℕ) → s ≡ End last → GroupsAfter m src [] 0 at None
      unfolding Groups
      g2-end last f = g1-char None (no_end m src next s u (x ∷ []) last f (λ d b. one_only b))

      pub g2-pad : (last : ℕ) → s ≡ Pad last → GroupsAfter m src [] 0 at None
      unfolding Groups
      g2-pad last f = g1-char None (no-pads m src next s u (x ∷ []) last f (λ l d b. pad-second b))

      pub g2-char : (y last : ℕ) → s ≡ Char y last → (g : Option Group) → GroupsAfter m src (x ∷ y ∷ []) 2 last g → GroupsAfter m src [] 0 at g
      g2-char y last f g t =
          let c : (letter y < 64) × OneMore m src next y last = to-char m src next s u y last f in
          g1-char g (earlier m src _ _ 1 next last g c.1.on (c.1.moves (x ∷ [])) t)

-- ---- what the low bits left over decide
pub stands : (t u : Bool) (g : Group) → u ≡ t → u ≡ true → Some g ≡ allowed t g
unfolding allowed
stands t u g e f = sym (picked _ _ (sym e ∙ f))

pub stands-not : (t u : Bool) (g : Group) → u ≡ t → u ≡ false → None ≡ allowed t g
unfolding allowed
stands-not t u g e f = sym (unpicked _ _ (sym e ∙ f))
