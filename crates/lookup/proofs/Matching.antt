-- Two lexemes compared.
use Prim.Native.Nat.{ℕ, ◌-◌, ◌≤◌, ◌<◌}
use native.Mathlib.Omega.{arith}
use mathlib.Core.Path.{◌≡◌, sym, ap, ap₂, ◌∙◌}
use mathlib.Core.Bool.{Bool, true, false}
use mathlib.Core.List.{List}
use lib.ListN.{length, take, drop}
use lib.Dec.{eqb}
use borrow.Author.Tests.{eq-eqb, ne_eqb}
use Rattle.base.specs.Choice.{pick, equal}
use Rattle.base.proofs.Cases.{by_bool, by-eq, picked, unpicked}
use Rattle.model.specs.Lexemes.{opening, closing, atom, hinting}
use Rattle.lookup.specs.Alike.{kind_of, hint_or, data_of, matches}
use Rattle.lookup.specs.Tokens.{part_of, lexeme_of, hint_in, Lies}
use Rattle.lookup.specs.declared.alike.Token.{Token}

-- ---- hints

module _ (x src : List ℕ) (t : Token) (y : List ℕ) (r : Bool) where
  pub is-hint : t.hinted ≡ true → r ≡ equal (take (t.to - t.from) (drop t.from src)) y → r ≡ equal (hint_in x src t) y
  unfolding hint_in
  is-hint z e = e ∙ ap (λ (h : List ℕ). equal h y) (sym (picked _ _ z))

  pub is-default : t.hinted ≡ false → r ≡ equal x y → r ≡ equal (hint_in x src t) y
  unfolding hint_in
  is-default z e = e ∙ ap (λ (h : List ℕ). equal h y) (sym (unpicked _ _ z))

  pub with-hint : t.hinted ≡ true → r ≡ equal y (take (t.to - t.from) (drop t.from src)) → r ≡ equal y (hint_in x src t)
  unfolding hint_in
  with-hint z e = e ∙ ap (equal y) (sym (picked _ _ z))

  pub with-default : t.hinted ≡ false → r ≡ equal y x → r ≡ equal y (hint_in x src t)
  unfolding hint_in
  with-default z e = e ∙ ap (equal y) (sym (unpicked _ _ z))

-- ---- lexemes

module _ (src : List ℕ) (t : Token) where
  pub opens : t.sort ≡ 0 → lexeme_of src t ≡ opening
  unfolding lexeme_of
  opens e = picked _ _ (eq-eqb _ _ e)

  pub closes : t.sort ≡ 1 → lexeme_of src t ≡ closing
  unfolding lexeme_of
  closes e = unpicked _ _ (ne_eqb t.sort 0 (λ z. omega arith)) ∙ picked _ _ (eq-eqb _ _ e)

  module _ (e : t.sort ≡ 2) where
    strings : lexeme_of src t ≡ pick t.hinted (hinting (part_of src t.from t.to) (part_of src t.start t.end)) (atom (part_of src t.start t.end))
    unfolding lexeme_of
    strings = unpicked _ _ (ne_eqb t.sort 0 (λ z. omega arith)) ∙ unpicked _ _ (ne_eqb t.sort 1 (λ z. omega arith))

    pub hints : t.hinted ≡ true → lexeme_of src t ≡ hinting (part_of src t.from t.to) (part_of src t.start t.end)
    hints z = strings ∙ picked _ _ z

    pub atoms : t.hinted ≡ false → lexeme_of src t ≡ atom (part_of src t.start t.end)
    atoms z = strings ∙ unpicked _ _ z

    string-hint : (x : List ℕ) → hint_or x (lexeme_of src t) ≡ hint_in x src t
    unfolding hint_or hint_in
    string-hint x = by_bool t.hinted (λ z. ap (hint_or x) (hints z) ∙ sym (picked _ _ z)) (λ z. ap (hint_or x) (atoms z) ∙ sym (unpicked _ _ z))

    string-data : data_of (lexeme_of src t) ≡ part_of src t.start t.end
    unfolding data_of
    string-data = by_bool t.hinted (λ z. ap data_of (hints z)) (λ z. ap data_of (atoms z))

  kind-is : (n : ℕ) → Lies n t → kind_of (lexeme_of src t) ≡ t.sort
  unfolding kind_of
  kind-is n l =
      by-eq t.sort 0 (λ e. ap kind_of (opens e) ∙ sym e)
      (λ p. by-eq t.sort 1 (λ e. ap kind_of (closes e) ∙ sym e)
      (λ q. let e : t.sort ≡ 2 = omega (arith, l.sorted) in
      by_bool t.hinted (λ z. ap kind_of (hints e z) ∙ sym e) (λ z. ap kind_of (atoms e z) ∙ sym e)))

module _ (x a : List ℕ) (l : Token) (b : List ℕ) (r : Token) (u : Lies (length a) l) (v : Lies (length b) r) where
  pub match-sorts : (l.sort ≡ r.sort → ⊥) → false ≡ matches x (lexeme_of a l) (lexeme_of b r)
  unfolding matches
  match-sorts n = sym (unpicked _ _ (ne_eqb _ _ (λ z. n (sym (kind-is a l _ u) ∙ z ∙ kind-is b r _ v))))

  module _ (e : l.sort ≡ r.sort) where
    pub match-marks : l.sort < 2 → true ≡ matches x (lexeme_of a l) (lexeme_of b r)
    unfolding matches kind_of hint_or data_of equal
    match-marks h =
        by-eq l.sort 0
        (λ z. sym (ap₂ (matches x) (opens a l z) (opens b r (sym e ∙ z))))
        (λ z. let y : l.sort ≡ 1 = omega arith in sym (ap₂ (matches x) (closes a l y) (closes b r (sym e ∙ y))))

    module _ (h : 2 ≤ l.sort) (t : Bool) (g : t ≡ equal (hint_in x a l) (hint_in x b r)) where
      left-string : l.sort ≡ 2
      left-string = omega (arith, u.sorted)

      hints-equal : t ≡ equal (hint_or x (lexeme_of a l)) (hint_or x (lexeme_of b r))
      hints-equal = g ∙ ap₂ equal (sym (string-hint a l left-string x)) (sym (string-hint b r (sym e ∙ left-string) x))

      kinds : eqb (kind_of (lexeme_of a l)) (kind_of (lexeme_of b r)) ≡ true
      kinds = eq-eqb _ _ (kind-is a l _ u ∙ e ∙ sym (kind-is b r _ v))

      pub match-hints : t ≡ false → false ≡ matches x (lexeme_of a l) (lexeme_of b r)
      unfolding matches
      match-hints n = sym (picked _ _ kinds ∙ unpicked _ _ (sym hints-equal ∙ n))

      pub match-data : t ≡ true → (d : List ℕ) → d ≡ take (l.end - l.start) (drop l.start a) → (k : List ℕ) → k ≡ take (r.end - r.start) (drop r.start b)
          → (s : Bool) → s ≡ equal d k → s ≡ matches x (lexeme_of a l) (lexeme_of b r)
      unfolding matches
      match-data n d p k q s w =
          w ∙ ap₂ equal (p ∙ sym (string-data a l left-string)) (q ∙ sym (string-data b r (sym e ∙ left-string)))
          ∙ sym (picked _ _ kinds ∙ picked _ _ (sym hints-equal ∙ n))
