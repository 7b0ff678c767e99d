-- Loops over what stands up to a closing mark, stretch by stretch.
use Prim.Native.Nat.{ℕ, ◌≤◌}
use native.Mathlib.Omega.{arith}
use mathlib.Core.Path.{◌≡◌, refl, sym, ap, ◌∙◌}
use mathlib.Core.List.{List, [], ◌++◌, append_assoc}
use lib.ListN.{length, drop, length-append}
use Rattle.model.specs.Strings.{Read, got, refused, bind}
use Rattle.scan.specs.Marks.{Stretch, Chunk}

bind-none : (r : Read (List ℕ)) → r ≡ bind r (λ d k. got ([] ++ d) k)
unfolding bind
bind-none (got d k) = refl
bind-none refused = refl

bind-both : (r : Read (List ℕ)) (p g : List ℕ) → bind (bind r (λ d k. got (g ++ d) k)) (λ d k. got (p ++ d) k) ≡ bind r (λ d k. got ((p ++ g) ++ d) k)
unfolding bind
bind-both (got d k) p g = ap (λ (x : List ℕ). got x k) (sym (append_assoc p g d))
bind-both refused p g = refl

pub to-stretch : {f : List ℕ → Read (List ℕ)} {src : List ℕ} {at : ℕ} {g : List ℕ} {next : ℕ} → Chunk f src at g next → Stretch f src at g next
to-stretch c = record { on = omega (arith, c.on); few = c.few; within = c.within; more = c.more }

pub stretch-none : (f : List ℕ → Read (List ℕ)) (src : List ℕ) (at : ℕ) → at ≤ length src → Stretch f src at [] at
stretch-none f src at h = record { on = omega arith; few = omega arith; within = h; more = bind-none (f (drop at src)) }

pub stretch-both : (f : List ℕ → Read (List ℕ)) (src : List ℕ) (at i : ℕ) (g : List ℕ) → Stretch f src at g i → (h : List ℕ) (next : ℕ) → Stretch f src i h next → Stretch f src at (g ++ h) next
stretch-both f src at i g s h next c =
    record {
      on = omega (arith, s.on, c.on);
      few = omega (arith, s.few, c.few, length-append g h);
      within = c.within;
      more = s.more ∙ ap (λ (x : Read (List ℕ)). bind x (λ d k. got (g ++ d) k)) c.more ∙ bind-both (f (drop next src)) g h;
    }

pub stretch-on : (f : List ℕ → Read (List ℕ)) (src : List ℕ) (at i : ℕ) (g : List ℕ) → Stretch f src at g i → (h : List ℕ) (next : ℕ) → Chunk f src i h next → Stretch f src at (g ++ h) next
stretch-on f src at i g s h next c = stretch-both f src at i g s h next (to-stretch c)
