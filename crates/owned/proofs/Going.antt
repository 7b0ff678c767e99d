-- Octets and claimed notes gone through side by side, turn by turn.
use Prim.Native.Nat.{ℕ, ◌+◌, ◌≤◌, ◌<◌}
use native.Mathlib.Omega.{arith}
use mathlib.Core.Path.{◌≡◌, refl, sym, ap, ◌∙◌}
use mathlib.Core.Bool.{Bool, true, false}
use mathlib.Core.List.{List, [], ◌∷◌}
use lib.ListN.{length, drop, drop_of_length-le, length-drop}
use borrow.Author.Tests.{lt-ltb, ltb-true}
use Rattle.base.proofs.Cases.{by_le, differ, untrue}
use Rattle.model.specs.Count.{shut_by}
use Rattle.model.specs.Lexemes.{Lexeme, strict_lexeme}
use Rattle.model.specs.Strings.{got, refused}
use Rattle.walk.proofs.Shut.{closed-open, closed-by}
use Rattle.owned.specs.Owned.{told, Checkable, Checked}
use Rattle.owned.specs.Wanted.{over, Ends, Wants, Next}
use Rattle.owned.specs.Going.{Open, Goes, Going}
use Rattle.owned.proofs.Owned.{wanted-own, own-wanted}
use Rattle.owned.proofs.Wanted.{lexeme-next, lexeme-back, no-lexeme}

-- ---- lists that are open

pub open_more : (R : ℕ → List ℕ) (k m : ℕ) → k ≤ m → (st : List ℕ) → Open R k st → Open R m st
unfolding Open
open_more R k m h [] o = tt
open_more R k m h (u ∷ us) o = (
  record { start = o.0.start; end = o.0.end; count = o.0.count; is = o.0.is; before = omega (arith, o.0.before) },
  open_more R k m h us o.1,
)

-- none, or an innermost one
pub stack-cases : {G : Type 0} (st : List ℕ) (o : ℕ) → length st ≡ o → (o ≡ 0 → st ≡ [] → G) → ((u : ℕ) (us : List ℕ) → st ≡ u ∷ us → o ≡ length us + 1 → G) → G
stack-cases [] o e f g = f (omega arith) refl
stack-cases (u ∷ us) o e f g = g u us refl (omega arith)

shut_none : (o k : ℕ) → shut_by o k ≡ true → (o ≡ 0) × (0 < k)
shut_none o k e =
    by_le o 0 (λ h. (omega arith, ltb-true 0 k (closed-by o k h ∙ e)))
    (λ h. differ e (sym (closed-open o k h)))

-- what is wanted where lists are open, and after a node
module _ (R : ℕ → List ℕ) (n : ℕ) (s : List ℕ) (at k : ℕ) where
  goes-shut : (b : Bool) → b ≡ true → (st : List ℕ) → (Goes R n b st s at k → Ends R n st s at k) × (Ends R n st s at k → Goes R n b st s at k)
  unfolding Goes
  goes-shut true e st = ((λ x. x), (λ x. x))
  goes-shut false e st = untrue e

  goes_on : (b : Bool) → b ≡ false → (st : List ℕ) → (Goes R n b st s at k → Wants R n st s at k) × (Wants R n st s at k → Goes R n b st s at k)
  unfolding Goes
  goes_on true e st = differ refl e
  goes_on false e st = ((λ x. x), (λ x. x))

  -- the two are one where a list is open
  pub goes-open : (b : Bool) (u : ℕ) (us : List ℕ) → (Goes R n b (u ∷ us) s at k → Ends R n (u ∷ us) s at k) × (Ends R n (u ∷ us) s at k → Goes R n b (u ∷ us) s at k)
  unfolding Goes Wants
  goes-open true u us = ((λ x. x), (λ x. x))
  goes-open false u us = ((λ x. x), (λ x. x))

  pub goes-ends : (st : List ℕ) (o : ℕ) → length st ≡ o → 0 < k → (Goes R n (shut_by o k) st s at k → Ends R n st s at k) × (Ends R n st s at k → Goes R n (shut_by o k) st s at k)
  goes-ends [] o e h = goes-shut (shut_by o k) (sym (closed-by o k (omega arith)) ∙ lt-ltb 0 k h) []
  goes-ends (u ∷ us) o e h = goes-open (shut_by o k) u us

-- a node in front of what ends has a number
pub ends-few : (R : ℕ → List ℕ) (n : ℕ) (st s : List ℕ) (at k : ℕ) → Ends R n st s at k → k ≤ n
unfolding Ends
ends-few R n [] s at k x = omega (arith, x.1)
ends-few R n (u ∷ us) s at k x = omega (arith, ends-few R n us x.rest _ _ x.on)

-- ---- the start

pub going_start : (src notes : List ℕ) (n : ℕ) → Checkable src notes n → Going src notes n 0 0 0 0
unfolding Open over
going_start src notes n g =
    let b : shut_by 0 0 ≡ false = sym (closed-by 0 0 (omega arith)) in
    let w = goes_on (told notes) n src 0 0 (shut_by 0 0) b [] in
    record {
      given = g;
      inside = omega arith;
      few = omega arith;
      st = [];
      deep = refl;
      low = omega arith;
      top = refl;
      lists = tt;
      to = λ t o. w.1 (own-wanted src notes n t o);
      from = w.0;
    }

module _ (src notes : List ℕ) (n at up opened k : ℕ) (w : Going src notes n at up opened k) where
  abbrev R : ℕ → List ℕ
  R = told notes

  abbrev s : List ℕ
  s = drop at src

  pub refuse : (Goes R n (shut_by opened k) w.st s at k → ⊥) → Checked src notes n false
  refuse f = record { yes = λ e. differ e refl; no = λ e t o. f (w.to t o) }

  module _ (q : Bool) (x : q ≡ shut_by opened k) where
    -- ---- the tree is whole
    module _ (y : q ≡ true) where
      ended : (Goes R n (shut_by opened k) w.st s at k → Ends R n [] s at k) × (Ends R n [] s at k → Goes R n (shut_by opened k) w.st s at k)
      ended =
          let z = shut_none opened k (sym x ∙ y) in
          stack-cases w.st opened w.deep (λ e i. let c = goes-shut R n s at k (shut_by opened k) (sym x ∙ y) [] in rw i c) (λ u us i e. absurd (omega (arith, z.0)))

      pub going-whole : length src ≤ at → k ≡ n → Checked src notes n true
      unfolding Ends
      going-whole h e =
          let v : Wants R n [] src 0 0 = w.from (ended.1 (drop_of_length-le src h, e)) in
          record {
            yes = λ i. wanted-own src notes n v (λ t o. record { tree = t; own = o });
            no = λ i. differ refl i;
          }

      pub going_more : at < length src → Checked src notes n false
      unfolding Ends
      going_more h = refuse (λ g. omega (arith, ap length (ended.0 g).0, length-drop at src))

      pub going-fewer : (k ≡ n → ⊥) → Checked src notes n false
      unfolding Ends
      going-fewer d = refuse (λ g. d (ended.0 g).1)

    -- ---- a lexeme is to come
    module _ (y : q ≡ false) where
      pub wanted : (Goes R n (shut_by opened k) w.st s at k → Wants R n w.st s at k) × (Wants R n w.st s at k → Goes R n (shut_by opened k) w.st s at k)
      wanted = goes_on R n s at k (shut_by opened k) (sym x ∙ y) w.st

      pub none-lexed : strict_lexeme s ≡ refused → Checked src notes n false
      none-lexed e = refuse (λ g. no-lexeme R n w.st s at k e (wanted.0 g))

      pub going-short : length src ≤ at → Checked src notes n false
      unfolding strict_lexeme
      going-short h = none-lexed (ap strict_lexeme (drop_of_length-le src h))

      -- what a lexeme leaves is wanted, and no other
      module _ (l : Lexeme) (next : ℕ) (e : strict_lexeme s ≡ got l (drop next src)) where
        pub forth : Goes R n (shut_by opened k) w.st s at k → Next R n l w.st (drop next src) at k
        forth g = lexeme-next R n w.st s at k l (drop next src) e (wanted.0 g)

        pub back : Next R n l w.st (drop next src) at k → Goes R n (shut_by opened k) w.st s at k
        back v = wanted.1 (lexeme-back R n w.st s at k (omega (arith, w.deep, w.low)) l (drop next src) e v)
