-- How large the tree is that a text means.
use Prim.Native.Nat.{ℕ, ◌+◌, ◌*◌, ◌≤◌, ◌<◌}
use native.Mathlib.Omega.{arith}
use mathlib.Core.Path.{◌≡◌, refl}
use mathlib.Core.Option.{some}
use mathlib.Core.List.{List}
use lib.ListN.{length}
use Rattle.model.specs.Decode.{decode}
use Rattle.model.specs.Limits.{max_source}
use Rattle.model.specs.Tree.{Tree, canon}
use Rattle.sheets.specs.Places.{shift}
use Rattle.advanced.specs.Converted.{thrice, largest}
use Rattle.texts.specs.Texts.{text_verdict, Takeable, Formed}
use Rattle.texts.proofs.Rows.{Taken, taken}
use Rattle.answers.specs.Cases.{Judging, Judges}
use Rattle.std.specs.Prelude.{Ok, ⊤}
use Rattle.model.proofs.Laws.{decode-exact, canonical-within-3n}

-- at most three octets for one
pub tripled : (form : ℕ) (text : List ℕ) (t : Tree) → decode form text ≡ some t → length (canon t) ≤ 3 * length text
tripled form text t e = canonical-within-3n form text t ((decode-exact form text t).0 e)

-- ---- scratch for a text, in three sizes

module _ (form n : ℕ) (s : ℕ) where
  pub small-takes : (bound : ℕ) → Formed form n bound → bound ≤ max_source → 3 * bound + 64 ≤ s → s < shift → Takeable form n s
  small-takes bound f h k l = record { low = f.low; high = f.high; lent = record { short = omega (arith, f.short); enough = thrice (omega (arith, f.short)); small = l } }

  pub long-takes : Formed form n max_source → max_source + 16448 ≤ s → s < shift → Takeable form n s
  long-takes f h l = record { low = f.low; high = f.high; lent = record { short = f.short; enough = largest (omega (arith, f.short)); small = l } }

-- ---- a text that rows 1 and 2 don't apply to
module _ (form len : ℕ) (r : Judging) (j : Judges (text_verdict form len) r) (u : ⊤) (e : r ≡ Ok u) where
  good : Taken form len
  good = taken form len (text_verdict form len) refl (omega (arith, j.passes u e))

  pub formed : (bound : ℕ) → len ≤ bound → Formed form len bound
  formed bound l = record { low = good.low; high = good.high; short = l }

  pub formed-long : Formed form len max_source
  formed-long = formed max_source good.short
