-- What `closed` and `larger` return.
use Prim.Native.Nat.{ℕ, ◌≤◌, ◌<◌}
use mathlib.Core.Path.{◌≡◌, sym}
use mathlib.Core.Bool.{false}
use lib.Dec.{ltb}
use borrow.Author.Tests.{lt-ltb, le-ltb}
use Rattle.base.proofs.Cases.{picked, unpicked}
use Rattle.model.specs.Count.{shut_by}

pub closed-open : (o n : ℕ) → 0 < o → false ≡ shut_by o n
unfolding shut_by
closed-open o n h = sym (picked _ _ (lt-ltb 0 o h))

pub closed-by : (o n : ℕ) → o ≤ 0 → ltb 0 n ≡ shut_by o n
unfolding shut_by
closed-by o n h = sym (unpicked _ _ (le-ltb 0 o h))
