-- A list of escapes that goes on after another one means the same where the other means something.
use Prim.Native.Nat.{ℕ, ◌<◌}
use native.Mathlib.Omega.{arith}
use mathlib.Core.Path.{◌≡◌, sym, ◌∙◌}
use mathlib.Core.List.{List, [], ◌∷◌, ◌++◌}
use lib.Dec.{eqb}
use Rattle.base.proofs.Cases.{by_bool, picked, unpicked}
use Rattle.model.specs.Amended.{Wider, escaping}
use Rattle.model.specs.Octets.{find}

found_first : (es fs : List (ℕ × ℕ)) (e : ℕ) → find es e 256 < 256 → find (es ++ fs) e 256 ≡ find es e 256
unfolding find
found_first [] fs e h = absurd (omega arith)
found_first (p ∷ es) fs e h =
    by_bool (eqb e p.0)
    (λ t. picked _ _ t ∙ sym (picked _ _ t))
    (λ t. unpicked _ _ t ∙ found_first es fs e (rw (unpicked p.1 (find es e 256) t) at h) ∙ sym (unpicked _ _ t))

pub listed-wider : (es fs : List (ℕ × ℕ)) → Wider (escaping es) (escaping (es ++ fs))
listed-wider es fs = record { leftovers = λ n h. h; escapes = found_first es fs }
