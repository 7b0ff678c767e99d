-- Sheets added one after the other: opening finds them, in order.
use Prim.Native.Nat.{ℕ, zero, suc, ◌-◌}
use native.Mathlib.Omega.{arith}
use mathlib.Core.Path.{◌≡◌, refl, sym, ap, ◌∙◌, subst}
use mathlib.Core.Bool.{true}
use mathlib.Core.Option.{some}
use mathlib.Core.List.{List, [], ◌∷◌, ◌++◌, append_assoc, append-nil}
use lib.ListN.{length, take, drop}
use lib.Seq.{take-length}
use Rattle.base.proofs.Cases.{differ, some_same}
use Rattle.spools.specs.Adding.{stored, stores, cleared, starting, Added, adding}
use Rattle.spools.specs.Rules.{Addable, Adds, none-added, one-added}
use Rattle.spools.specs.Spool.{entry, Spool, spool, spool_of}
use Rattle.spools.proofs.Added.{Finds, whole}
use Rattle.spools.proofs.Judged.{sheet-of, accepted-0, adding-of, adding-refused}

-- an addition that was accepted could be made
addable : (area sheet : List ℕ) (len : ℕ) → (adding area sheet len).accepted ≡ true → Addable area sheet len
addable area sheet len e = of (starting area sheet len).number refl
  where
    of : (n : ℕ) → (starting area sheet len).number ≡ n → Addable area sheet len
    of zero h = (accepted-0 area sheet len).0 h
    of (suc n) h = differ e (ap (λ (x : Added). x.accepted) (adding-refused area sheet len (suc n) h (omega arith)))

-- what opening finds after it
found : (area d : List ℕ) (a : Addable area d (length d)) → Finds (adding area d (length d)).area (a.old.sheets ++ (d ∷ []))
found area d a =
    let t : take (length d) d ≡ d = take-length d in
    let w = whole area (take (length d) d) a.old a.opened (sheet-of d (length d) a.tree a.good) a.room in
    let f : Finds (stored area (stores (length area) (length area - length a.old.rest) (entry (take (length d) d)))) (a.old.sheets ++ (take (length d) d ∷ [])) = record { rest = cleared (drop (length (entry (take (length d) d))) a.old.rest); is = w } in
    rw (adding-of area d (length d) a) (subst (λ (z : List ℕ). Finds (stored area (stores (length area) (length area - length a.old.rest) (entry (take (length d) d)))) (a.old.sheets ++ (z ∷ []))) t f)

same-sheets : (area : List ℕ) (p q : Spool) → spool_of area ≡ some p → spool_of area ≡ some q → p.sheets ≡ q.sheets
same-sheets area p q e f = some_same (λ (x : Spool). p.sheets ≡ x.sheets) (sym e ∙ f) refl

pub all_found : {area after : List ℕ} {ds : List (List ℕ)} {p : Spool} → spool_of area ≡ some p → Adds area ds after → Finds after (p.sheets ++ ds)
all_found {area} {p = p} e none-added = record { rest = p.rest; is = e ∙ ap (λ (x : List (List ℕ)). some (spool x p.rest)) (sym (append-nil p.sheets)) }
all_found {after = after} {p = p} e (one-added {area = area} {d = d} {ds = ds} h more) =
    let a = addable area d (length d) h in
    let f = found area d a in
    let s : a.old.sheets ≡ p.sheets = same-sheets area a.old p a.opened e in
    let g : Finds after ((a.old.sheets ++ (d ∷ [])) ++ ds) = all_found f.is more in
    subst (λ (x : List (List ℕ)). Finds after (x ++ (d ∷ ds))) s (subst (λ (x : List (List ℕ)). Finds after x) (append_assoc a.old.sheets (d ∷ []) ds) g)
