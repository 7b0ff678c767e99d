-- What writing octets leaves, and three octets compared.
use Rattle.std.specs.Prelude.{ℕ, ◌+◌, ◌≡◌, Bool, true, List, ◌∷◌, [], ltb, length}
use Rattle.std.proofs.Math.Option.{Option, none, some}
use Rattle.std.proofs.Math.Seq.{slice}
use Rattle.base.specs.Choice.{pick, equal}
use Rattle.model.specs.Limits.{no_refusal, refusal_size}
use Rattle.model.specs.Answers.{Output, unwritten, settled}

-- octets at the front of out, or refused with n where there are none
unfoldable pub laid : ℕ → Option (List ℕ) → List ℕ → Output
laid n none out = unwritten n out
laid n (some o) out = pick (ltb (length out) (length o)) (unwritten refusal_size out) (record { accepted = true; number = no_refusal; place = 0; octets = length o; out = settled out 0 o })

-- whether three octets from a place on are these
abbrev pub Spells : List ℕ → ℕ → ℕ → ℕ → ℕ → Bool → Type 0
Spells src at a b c r = r ≡ equal (slice at (at + 3) src) (a ∷ b ∷ c ∷ [])
