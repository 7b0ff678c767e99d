-- What comparing answers, by the checks of the two sheets.
use Prim.Native.Nat.{ℕ, ◌≤◌}
use native.Mathlib.Omega.{arith}
use mathlib.Core.Path.{◌≡◌, refl, sym, ap, ap₂, ◌∙◌}
use mathlib.Core.Bool.{Bool, true, false, not}
use mathlib.Core.Option.{Option, none, some}
use mathlib.Core.List.{List, [], ◌∷◌}
use lib.ListN.{length, take}
use Rattle.base.specs.Choice.{pick, either, chain, is_none}
use Rattle.base.proofs.Cases.{true-both}
use Rattle.model.specs.Answers.{when, verdict, judged, the, fitting, sheet_tree, uncompared, comparing_checks, comparing}
use Rattle.model.specs.Compare.{same, sames}
use Rattle.model.specs.Decode.{decode₁}
use Rattle.model.specs.Tree.{Tree, plain, hinted, list, Forest, nil, cons}
use Rattle.lookup.specs.Agreed.{Copied}
use Rattle.lookup.specs.Tokens.{Sheets}
use Rattle.answers.specs.Cases.{told}
use Rattle.base.proofs.Lists.{front_length, equal-same}
use Rattle.lookup.proofs.Sheets.{tree_of, none_of, Sheet, sheet-of, within}
use Rattle.answers.specs.declared.refusal.Refusal.TheVariants.{NotOwn}
use Rattle.std.specs.Prelude.{Ok, Err}

by_rows : (b : Bool) (y : Bool) → judged (when 7 b ∷ []) (record { accepted = true; number = 0; place = 0; yes = y }) (λ n. uncompared n) ≡ pick b (uncompared 7) (told (Ok y))
unfolding judged verdict told
by_rows true y = refl
by_rows false y = refl

-- the first octets of a sheet are there
pub sheet-length : (c : List ℕ) (n : ℕ) (r : Bool) → r ≡ not (is_none (sheet_tree c n)) → r ≡ true → n ≡ length (take n c)
sheet-length c n r e y = tree_of (sheet_tree c n) (sym y ∙ e) (λ t i. front_length c n (sheet-of c n t i).lent)

pub sheet-lent : (c : List ℕ) (n : ℕ) (r : Bool) → r ≡ not (is_none (sheet_tree c n)) → r ≡ true → n ≤ length c
sheet-lent c n r e y = tree_of (sheet_tree c n) (sym y ∙ e) (λ t i. (sheet-of c n t i).lent)

-- a tree is the same as itself
mutual
  unfolding same

  same_self : (t : Tree) (x : List ℕ) → same t t x ≡ true
  same_self (plain d) x = equal-same d
  same_self (hinted h d) x = true-both (equal-same h) (equal-same d)
  same_self (list f) x = sames-self f x

  sames-self : (f : Forest) (x : List ℕ) → sames f f x ≡ true
  sames-self nil x = refl
  sames-self (cons t f) x = true-both (same_self t x) (sames-self f x)

module _ (a : List ℕ) (n : ℕ) (b : List ℕ) (m : ℕ) where
  answers : (x : List ℕ) (o p : Option Tree) → sheet_tree a n ≡ o → sheet_tree b m ≡ p
      → comparing a n b m x ≡ pick (either (is_none o) (is_none p)) (uncompared 7) (told (Ok (same (the o) (the p) x)))
  unfolding comparing comparing_checks
  answers x o p e f = by_rows (either (is_none (sheet_tree a n)) (is_none (sheet_tree b m))) (same (the (sheet_tree a n)) (the (sheet_tree b m)) x) ∙ rw (e, f)

  module _ (r : Bool) (e : r ≡ not (is_none (sheet_tree a n))) where
    pub left-refused : (x : List ℕ) → r ≡ false → told (Err NotOwn) ≡ comparing a n b m x
    unfolding is_none told
    left-refused x y = sym (answers x none (sheet_tree b m) (none_of (sheet_tree a n) (sym y ∙ e)) refl)

    -- the same octets are a sheet of the same tree
    pub copied-same : r ≡ true → (so : Bool) → Copied a n b m so → so ≡ true → (x : List ℕ) → told (Ok true) ≡ comparing a n b m x
    unfolding is_none the
    copied-same y so k z x =
        let j : sheet_tree a n ≡ sheet_tree b m =
        within a n (sheet-lent a n r e y) ∙ ap (λ (l : List ℕ). chain (decode₁ l) fitting) (k.same z) ∙ sym (within b m (k.lent z)) in
        tree_of (sheet_tree a n) (sym y ∙ e)
        (λ t i. sym (answers x (some t) (some t) i (sym j ∙ i) ∙ ap (λ (v : Bool). told (Ok v)) (same_self t x)))

    module _ (y : r ≡ true) (q : Bool) (f : q ≡ not (is_none (sheet_tree b m))) where
      pub right-refused : (x : List ℕ) → q ≡ false → told (Err NotOwn) ≡ comparing a n b m x
      unfolding is_none told
      right-refused x z =
          tree_of (sheet_tree a n) (sym y ∙ e)
          (λ t i. sym (answers x (some t) none i (none_of (sheet_tree b m) (sym z ∙ f))))

      module _ (z : q ≡ true) where
        trees : {G : Type 0} → ((t u : Tree) → sheet_tree a n ≡ some t → sheet_tree b m ≡ some u → Sheet a n t → Sheet b m u → G) → G
        trees g = tree_of (sheet_tree a n) (sym y ∙ e) (λ t i. tree_of (sheet_tree b m) (sym z ∙ f) (λ u j. g t u i j (sheet-of a n t i) (sheet-of b m u j)))

        pub two-sheets : Sheets (take n a) (take m b)
        two-sheets =
            trees
            (λ t u i j s k. record {
              left = t;
              left_is = s.decoded;
              left_short = omega (arith, ap length s.is, s.fitting.long);
              right = u;
              right_is = k.decoded;
              right_short = omega (arith, ap length k.is, k.fitting.long);
            })

        pub compared : (x : List ℕ) (y : Bool) → y ≡ same (the (decode₁ (take n a))) (the (decode₁ (take m b))) x → told (Ok y) ≡ comparing a n b m x
        unfolding is_none the
        compared x y w =
            trees
            (λ t u i j g h.
            let v : y ≡ same t u x = w ∙ ap₂ (λ (t u : Tree). same t u x) (ap the g.decoded) (ap the h.decoded) in
            sym (answers x (some t) (some u) i j ∙ ap (λ (v : Bool). told (Ok v)) (sym v)))
