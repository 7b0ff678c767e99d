-- S 12.2: a run comes from one list of trees only, of any size and any number of them.
use Prim.Native.Nat.{ℕ, zero, suc, ◌-◌, ◌≤◌}
use native.Mathlib.Omega.{arith}
use mathlib.Core.Path.{◌≡◌, refl, sym, ap, ap₂, ◌∙◌, subst}
use mathlib.Core.List.{List, [], ◌∷◌, ◌++◌, append_assoc, append-nil}
use lib.ListN.{length, take, drop, length-append, length-drop}
use lib.Seq.{take_at, drop_at}
use Rattle.base.proofs.Cases.{by-eq}
use Rattle.model.specs.Tree.{Tree, Forest, nil, cons, canon, canons}
use Rattle.model.proofs.Exact.{canon-two}
use Rattle.model.proofs.Unique.{tree-inj}
use Rattle.batch.specs.Runs.{first_up_to, first_sheet, Parted, parted, after, part_up_to, part_run, forms}
use Rattle.batch.proofs.First.{Begins, first-is, first-begins, none-begins}

-- ---- two runs of trees, each followed by octets with which no sheet begins

ends-first : (t : Tree) (f : Forest) (s r : List ℕ) → first_sheet s ≡ 0 → s ≡ canons (cons t f) ++ r → ⊥
unfolding canons
ends-first t f s r n e = none-begins s n (canons f ++ r) (record { tree = t; is = e ∙ append_assoc (canon t) (canons f) r })

pub one-way-up-to : (f g : Forest) (r s : List ℕ) → first_sheet r ≡ 0 → first_sheet s ≡ 0 → canons f ++ r ≡ canons g ++ s → (f ≡ g) × (r ≡ s)
unfolding canons
one-way-up-to nil nil r s n m e = (refl, e)
one-way-up-to nil (cons u g) r s n m e = absurd (ends-first u g r s n e)
one-way-up-to (cons t f) nil r s n m e = absurd (ends-first t f s r m (sym e))
one-way-up-to (cons t f) (cons u g) r s n m e =
    let w : (t ≡ u) × (canons f ++ r ≡ canons g ++ s) = tree-inj t u (canons f ++ r) (canons g ++ s) (simp append_assoc at e) in
    let v : (f ≡ g) × (r ≡ s) = one-way-up-to f g r s n m w.1 in
    (ap₂ cons w.0 v.0, v.1)

no-octets : first_sheet [] ≡ 0
unfolding first_sheet first_up_to
no-octets = refl

-- equal octets written back to back come from equal lists of trees
pub one_way : (f g : Forest) → canons f ≡ canons g → f ≡ g
one_way f g e = (one-way-up-to f g [] [] no-octets no-octets (ap (λ (x : List ℕ). x ++ []) e)).0

-- ---- one sheet after another

part-stop : (n : ℕ) (run : List ℕ) → first_sheet run ≡ 0 → part_up_to n run ≡ parted [] run
unfolding part_up_to
part-stop zero run e = refl
part-stop (suc n) run e = rw (e, part_up_to)

part_step : (n m : ℕ) (run : List ℕ) → first_sheet run ≡ suc m
    → part_up_to (suc n) run ≡ after (take (suc m) run) (part_up_to n (drop (suc m) run))
unfolding part_up_to
part_step n m run e = rw (e, part_up_to)

parts-up-to : (n : ℕ) (f : Forest) (r : List ℕ) → first_sheet r ≡ 0 → length (canons f) ≤ n → part_up_to n (canons f ++ r) ≡ parted (forms f) r
unfolding canons forms
parts-up-to n nil r e h = part-stop n r e
parts-up-to zero (cons t f) r e h = absurd (omega (arith, length-append (canon t) (canons f), canon-two t))
parts-up-to (suc n) (cons t f) r e h =
    let a : (canon t ++ canons f) ++ r ≡ canon t ++ (canons f ++ r) = append_assoc (canon t) (canons f) r in
    let l : length (canon t) ≡ suc (length (canon t) - 1) = omega (arith, canon-two t) in
    rw a (part_step n (length (canon t) - 1) (canon t ++ (canons f ++ r)) (first-is _ (canons f ++ r) t refl ∙ l)
    ∙ ap₂ after (take_at (canon t) (canons f ++ r) (suc (length (canon t) - 1)) l)
    (ap (part_up_to n) (drop_at (canon t) (canons f ++ r) (suc (length (canon t) - 1)) l)
    ∙ parts-up-to n f r e (omega (arith, length-append (canon t) (canons f), canon-two t))))

-- splitting a run of canonical forms gives just these, and what follows them
pub parts_are : (f : Forest) (r : List ℕ) → first_sheet r ≡ 0 → part_run (canons f ++ r) ≡ parted (forms f) r
unfolding part_run
parts_are f r e = parts-up-to (length (canons f ++ r)) f r e (omega (arith, length-append (canons f) r))

pub parts_whole : (f : Forest) → part_run (canons f) ≡ parted (forms f) []
parts_whole f = ap part_run (sym (append-nil (canons f))) ∙ parts_are f [] no-octets

-- and whatever the run, what splitting gives is canonical forms that it begins with, and a rest with which none begins
pub record Parts (run : List ℕ) (p : Parted) : Type 0 where
  pub trees : Forest
  pub is : run ≡ canons trees ++ p.rest
  pub sheets : p.sheets ≡ forms trees
  pub ended : first_sheet p.rest ≡ 0

stopped : (n : ℕ) (run : List ℕ) → first_sheet run ≡ 0 → Parts run (part_up_to n run)
unfolding canons forms
stopped n run e = subst (Parts run) (sym (part-stop n run e)) (record { trees = nil; is = refl; sheets = refl; ended = e })

stepped : (n m : ℕ) (run : List ℕ) → first_sheet run ≡ suc m → Parts (drop (suc m) run) (part_up_to n (drop (suc m) run))
    → Parts run (part_up_to (suc n) run)
unfolding canons forms
stepped n m run e p =
    let b : Begins run (drop (suc m) run) = subst (λ (k : ℕ). Begins run (drop k run)) e (first-begins run (omega (arith, e))) in
    let l : length (canon b.tree) ≡ suc m = sym (first-is run (drop (suc m) run) b.tree b.is) ∙ e in
    subst (Parts run) (sym (part_step n m run e))
    (record {
      trees = cons b.tree p.trees;
      is = b.is ∙ ap (λ (x : List ℕ). canon b.tree ++ x) p.is ∙ sym (append_assoc (canon b.tree) (canons p.trees) _);
      sheets =
          ap₂ (λ (d : List ℕ) (ds : List (List ℕ)). d ∷ ds) (ap (take (suc m)) b.is
          ∙ take_at (canon b.tree) (drop (suc m) run) (suc m) l) p.sheets;
      ended = p.ended;
    })

parts-of : (n : ℕ) (run : List ℕ) → length run ≤ n → Parts run (part_up_to n run)
parts-of zero [] h = stopped zero [] no-octets
parts-of zero (b ∷ s) h = absurd (omega arith)
parts-of (suc n) run h =
    by-eq (first_sheet run) 0
    (λ e. stopped (suc n) run e)
    (λ e.
    let m : ℕ = first_sheet run - 1 in
    stepped n m run (omega arith) (parts-of n (drop (suc m) run) (omega (arith, length-drop (suc m) run))))

pub parts : (run : List ℕ) → Parts run (part_run run)
unfolding part_run
parts run = parts-of (length run) run (omega arith)
