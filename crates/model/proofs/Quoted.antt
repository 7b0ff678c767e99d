-- Quoted strings: the decoder reads them as the rules say.
use Prim.Native.Nat.{ℕ, zero, suc, ◌+◌, ◌*◌, ◌≤◌, ◌<◌}
use native.Mathlib.Omega.{arith}
use mathlib.Core.Path.{◌≡◌, refl, sym, ap, ◌∙◌}
use mathlib.Core.Bool.{true, false}
use mathlib.Core.List.{List, [], ◌∷◌, ◌++◌}
use lib.ListN.{length}
use lib.Dec.{leb, ltb, eqb}
use borrow.Author.Tests.{lt-ltb, le-ltb, le-leb, eq-eqb, ne_eqb, eqb-true, ltb-true, leb-true}
use Rattle.base.specs.Choice.{among}
use Rattle.base.proofs.Cases.{by_bool, pick-cases, picked, unpicked, among-true}
use Rattle.model.specs.Amended.{Apart}
use Rattle.model.specs.Grammar.{Quotable, escaped-octet, escaped-octal, escaped-hex, escaped-cr, escaped-lf, escaped-cr-lf, escaped-lf-cr, Quotables, dquote, quotable, Rules, rules}
use Rattle.model.specs.Octets.{is_printable, hexval, octval}
use Rattle.model.specs.Strings.{Read, got, refused, bind, past, hex_of, octal_by, octal_of, escaped, piece_of, quoted_by}
use Rattle.model.proofs.ReadCases.{bind-cases, never, got_same}

pub octal-range : (e : ℕ) → octval e < 8 → (48 ≤ e) × (e ≤ 55)
unfolding octval
octal-range e h =
    by_bool (among 48 55 e)
    (λ t. among-true 48 55 e t)
    (λ t. let w : octval e ≡ 8 = unpicked _ _ t in absurd (omega arith))

module _ {ρ : Rules} where
  hex_of-sound : (s : List ℕ) {p k : List ℕ} → hex_of s ≡ got p k → Quotable ρ (92 ∷ 120 ∷ s) p k
  unfolding hex_of
  hex_of-sound [] e = never e
  hex_of-sound (a ∷ []) e = never e
  hex_of-sound (a ∷ b ∷ s) e =
      pick-cases (ltb (hexval a) 16) _ _ e
      (λ t h. pick-cases (ltb (hexval b) 16) _ _ h (λ u i. got_same (Quotable ρ (92 ∷ 120 ∷ a ∷ b ∷ s)) i (escaped-hex (ltb-true _ _ t) (ltb-true _ _ u))) (λ u i. never i))
      (λ t h. never h)

  octal_of-sound : (a : ℕ) (s : List ℕ) {p k : List ℕ} → octal_of a s ≡ got p k → Quotable ρ (92 ∷ a ∷ s) p k
  unfolding octal_of octal_by
  octal_of-sound a [] e = never e
  octal_of-sound a (b ∷ []) e = never e
  octal_of-sound a (b ∷ c ∷ s) e =
      pick-cases (ltb (octval a) 8) _ _ e
      (λ t h. pick-cases (ltb (octval b) 8) _ _ h
      (λ u i. pick-cases (ltb (octval c) 8) _ _ i
      (λ v j. pick-cases (leb (octval a * 64 + octval b * 8 + octval c) 255) _ _ j
      (λ w k. got_same (Quotable ρ (92 ∷ a ∷ b ∷ c ∷ s)) k (escaped-octal (ltb-true _ _ t) (ltb-true _ _ u) (ltb-true _ _ v) (leb-true _ _ w)))
      (λ w k. never k))
      (λ v j. never j))
      (λ u i. never i))
      (λ t h. never h)

  cr-sound : (s : List ℕ) → Quotable ρ (92 ∷ 13 ∷ s) [] (past 10 s)
  unfolding past
  cr-sound [] = escaped-cr
  cr-sound (b ∷ s) = by_bool (eqb b 10) (λ t. let z : b ≡ 10 = eqb-true b 10 t in rw z escaped-cr-lf) (λ t. rw (t, past) escaped-cr)

  lf-sound : (s : List ℕ) → Quotable ρ (92 ∷ 10 ∷ s) [] (past 13 s)
  unfolding past
  lf-sound [] = escaped-lf
  lf-sound (b ∷ s) = by_bool (eqb b 13) (λ t. let z : b ≡ 13 = eqb-true b 13 t in rw z escaped-lf-cr) (λ t. rw (t, past) escaped-lf)

  escaped-sound : (s : List ℕ) {p k : List ℕ} → escaped ρ s ≡ got p k → Quotable ρ (92 ∷ s) p k
  unfolding escaped
  escaped-sound [] e = never e
  escaped-sound (c ∷ s) {p} {k} e =
      pick-cases (ltb (ρ.escape c) 256) _ _ e
      (λ t h. got_same (Quotable ρ (92 ∷ c ∷ s)) h (escaped-octet (ltb-true _ _ t)))
      (λ t h. pick-cases (eqb c 120) _ _ h
      (λ u i. let z : c ≡ 120 = eqb-true c 120 u in rw z (hex_of-sound s i))
      (λ u i. pick-cases (eqb c 13) _ _ i
      (λ v j. let z : c ≡ 13 = eqb-true c 13 v in rw z (got_same (Quotable ρ (92 ∷ 13 ∷ s)) j (cr-sound s)))
      (λ v j. pick-cases (eqb c 10) _ _ j
      (λ w l. let z : c ≡ 10 = eqb-true c 10 w in rw z (got_same (Quotable ρ (92 ∷ 10 ∷ s)) l (lf-sound s)))
      (λ w l. octal_of-sound c s l))))

  piece-sound : (s : List ℕ) {p k : List ℕ} → piece_of ρ s ≡ got p k → Quotable ρ s p k
  unfolding piece_of
  piece-sound [] e = never e
  piece-sound (b ∷ s) e =
      pick-cases (eqb b 92) _ _ e
      (λ t h. let z : b ≡ 92 = eqb-true b 92 t in rw z (escaped-sound s h))
      (λ t h. pick-cases (is_printable b) _ _ h (λ u i. got_same (Quotable ρ (b ∷ s)) i (Quotable.printable u)) (λ u i. never i))

  pub quoted-sound : (f : ℕ) (s : List ℕ) {d k : List ℕ} → quoted_by ρ f s ≡ got d k → Quotables ρ s d k
  unfolding quoted_by
  quoted-sound zero s e = never e
  quoted-sound (suc f) [] e = never e
  quoted-sound (suc f) (b ∷ s) e =
      pick-cases (eqb b 34) _ _ e
      (λ t h. let z : b ≡ 34 = eqb-true b 34 t in got_same (Quotables ρ (b ∷ s)) h (rw z dquote))
      (λ t h. bind-cases (piece_of ρ (b ∷ s)) _ h
      (λ p r h₁ h₂. bind-cases (quoted_by ρ f r) _ h₂
      (λ d' k' h₃ h₄. got_same (Quotables ρ (b ∷ s)) h₄ (quotable (piece-sound (b ∷ s) h₁) (quoted-sound f r h₃)))))

module _ {ρ : Rules} (apart : Apart ρ) where
  -- what follows a piece begins with no CR or LF
  piece-complete : {s p k : List ℕ} → Quotable ρ s p k → past 10 k ≡ k → past 13 k ≡ k → piece_of ρ s ≡ got p k
  unfolding piece_of escaped hex_of octal_of octal_by is_printable past
  piece-complete (Quotable.printable {b = b} t) x y = unpicked _ _ (ne_eqb b 92 (λ z. let w : is_printable 92 ≡ true = rw z at t in let v : ◌≡◌ {A = ℕ} 0 1 = cc in omega arith)) ∙ picked _ _ t
  piece-complete (escaped-octet {e = e} t) x y = picked _ _ (lt-ltb (ρ.escape e) 256 t)
  piece-complete (escaped-octal {a = a} {b = b} {c = c} t u v w) x y =
      let r : (48 ≤ a) × (a ≤ 55) = octal-range a t in
      unpicked _ _ (le-ltb (ρ.escape a) 256 (apart.octal a t))
      ∙ unpicked _ _ (ne_eqb a 120 (λ z. omega arith))
      ∙ unpicked _ _ (ne_eqb a 13 (λ z. omega arith))
      ∙ unpicked _ _ (ne_eqb a 10 (λ z. omega arith))
      ∙ picked _ _ (lt-ltb (octval a) 8 t)
      ∙ picked _ _ (lt-ltb (octval b) 8 u)
      ∙ picked _ _ (lt-ltb (octval c) 8 v)
      ∙ picked _ _ (le-leb _ 255 w)
  piece-complete (escaped-hex {a = a} {b = b} t u) x y = unpicked _ _ (le-ltb (ρ.escape 120) 256 apart.hex) ∙ picked _ _ (lt-ltb (hexval a) 16 t) ∙ picked _ _ (lt-ltb (hexval b) 16 u)
  piece-complete escaped-cr x y = unpicked _ _ (le-ltb (ρ.escape 13) 256 apart.cr) ∙ ap (got []) x
  piece-complete escaped-lf x y = unpicked _ _ (le-ltb (ρ.escape 10) 256 apart.lf) ∙ ap (got []) y
  piece-complete escaped-cr-lf x y = unpicked _ _ (le-ltb (ρ.escape 13) 256 apart.cr)
  piece-complete escaped-lf-cr x y = unpicked _ _ (le-ltb (ρ.escape 10) 256 apart.lf)

-- an octet that is is_printable is no CR or LF
unprinted : (b c : ℕ) → is_printable c ≡ false → is_printable b ≡ true → b ≡ c → ⊥
unprinted b c f t e = let v : is_printable c ≡ true = rw e at t in let z : ◌≡◌ {A = ℕ} 0 1 = cc in omega arith

module _ {ρ : Rules} where
  piece-lead : {s p k : List ℕ} → Quotable ρ s p k → (past 10 s ≡ s) × (past 13 s ≡ s)
  unfolding past is_printable
  piece-lead (Quotable.printable {b = b} t) = (unpicked _ _ (ne_eqb b 10 (unprinted b 10 refl t)), unpicked _ _ (ne_eqb b 13 (unprinted b 13 refl t)))
  piece-lead (escaped-octet t) = (refl, refl)
  piece-lead (escaped-octal t u v w) = (refl, refl)
  piece-lead (escaped-hex t u) = (refl, refl)
  piece-lead escaped-cr = (refl, refl)
  piece-lead escaped-lf = (refl, refl)
  piece-lead escaped-cr-lf = (refl, refl)
  piece-lead escaped-lf-cr = (refl, refl)

  quoted-lead : {s d k : List ℕ} → Quotables ρ s d k → (past 10 s ≡ s) × (past 13 s ≡ s)
  unfolding past
  quoted-lead dquote = (refl, refl)
  quoted-lead (quotable p q) = piece-lead p

  -- no piece begins with a quotation mark
  piece-unquoted : {b : ℕ} {s p k : List ℕ} → Quotable ρ (b ∷ s) p k → b ≡ 34 → ⊥
  unfolding is_printable
  piece-unquoted (Quotable.printable {b = b} t) e = unprinted b 34 refl t e
  piece-unquoted (escaped-octet t) e = omega arith
  piece-unquoted (escaped-octal t u v w) e = omega arith
  piece-unquoted (escaped-hex t u) e = omega arith
  piece-unquoted escaped-cr e = omega arith
  piece-unquoted escaped-lf e = omega arith
  piece-unquoted escaped-cr-lf e = omega arith
  piece-unquoted escaped-lf-cr e = omega arith

  -- a piece is at least an octet long, and makes at most one
  pub piece-size : {s p k : List ℕ} → Quotable ρ s p k → length p + length k ≤ length s
  piece-size (Quotable.printable t) = omega arith
  piece-size (escaped-octet t) = omega arith
  piece-size (escaped-octal t u v w) = omega arith
  piece-size (escaped-hex t u) = omega arith
  piece-size escaped-cr = omega arith
  piece-size escaped-lf = omega arith
  piece-size escaped-cr-lf = omega arith
  piece-size escaped-lf-cr = omega arith

  piece-short : {s p k : List ℕ} → Quotable ρ s p k → length k < length s
  piece-short (Quotable.printable t) = omega arith
  piece-short (escaped-octet t) = omega arith
  piece-short (escaped-octal t u v w) = omega arith
  piece-short (escaped-hex t u) = omega arith
  piece-short escaped-cr = omega arith
  piece-short escaped-lf = omega arith
  piece-short escaped-cr-lf = omega arith
  piece-short escaped-lf-cr = omega arith

module _ {ρ : Rules} (apart : Apart ρ) where
  quoted-step : (f : ℕ) (s p r : List ℕ) {d k : List ℕ} → Quotable ρ s p r → Quotables ρ r d k → quoted_by ρ f r ≡ got d k → quoted_by ρ (suc f) s ≡ got (p ++ d) k
  unfolding quoted_by bind
  quoted-step f [] p r x y e = absurd (omega (arith, piece-short x))
  quoted-step f (b ∷ s) p r x y e =
      unpicked _ _ (ne_eqb b 34 (piece-unquoted x))
      ∙ rw (piece-complete apart x (quoted-lead y).0 (quoted-lead y).1, e)

  pub quoted-complete : (f : ℕ) {s d k : List ℕ} → Quotables ρ s d k → length s ≤ f → quoted_by ρ f s ≡ got d k
  unfolding quoted_by
  quoted-complete zero dquote h = absurd (omega arith)
  quoted-complete (suc f) dquote h = refl
  quoted-complete zero (quotable x y) h = absurd (omega (arith, piece-short x))
  quoted-complete (suc f) (quotable {s = s} {p = p} {r = r} x y) h = quoted-step f s p r x y (quoted-complete f y (omega (arith, piece-short x)))

-- ---- quoted, piece by piece, without a bound on their number

quoted-same : (p q : List ℕ → Read (List ℕ)) (s : List ℕ) (x : Read (List ℕ)) → piece_of rules s ≡ x → ((r : List ℕ) → length r < length s → p r ≡ q r)
    → bind x (λ a r. bind (p r) (λ d k. got (a ++ d) k)) ≡ bind x (λ a r. bind (q r) (λ d k. got (a ++ d) k))
unfolding bind
quoted-same p q s (got a r) e h = ap (λ (y : Read (List ℕ)). bind y (λ d k. got (a ++ d) k)) (h r (piece-short (piece-sound s e)))
quoted-same p q s refused e h = refl

quoted-any : (f g : ℕ) (s : List ℕ) → length s ≤ f → length s ≤ g → quoted_by rules f s ≡ quoted_by rules g s
unfolding quoted_by
quoted-any zero zero s h k = refl
quoted-any zero (suc g) [] h k = refl
quoted-any zero (suc g) (b ∷ s) h k = absurd (omega arith)
quoted-any (suc f) zero [] h k = refl
quoted-any (suc f) zero (b ∷ s) h k = absurd (omega arith)
quoted-any (suc f) (suc g) [] h k = refl
quoted-any (suc f) (suc g) (b ∷ s) h k =
    by_bool (eqb b 34)
    (λ t. picked _ _ t ∙ sym (picked _ _ t))
    (λ t. unpicked _ _ t ∙ quoted-same (quoted_by rules f) (quoted_by rules g) (b ∷ s) (piece_of rules (b ∷ s)) refl (λ r l. quoted-any f g r (omega arith) (omega arith)) ∙ sym (unpicked _ _ t))

abbrev pub quoted_from : List ℕ → Read (List ℕ)
quoted_from s = quoted_by rules (length s) s

pub quoted-end : (b : ℕ) (s : List ℕ) → b ≡ 34 → quoted_from (b ∷ s) ≡ got [] s
unfolding quoted_by
quoted-end b s e = picked _ _ (eq-eqb b 34 e)

pub quoted-next : (b : ℕ) (s p r : List ℕ) → (b ≡ 34 → ⊥) → piece_of rules (b ∷ s) ≡ got p r → quoted_from (b ∷ s) ≡ bind (quoted_from r) (λ d k. got (p ++ d) k)
unfolding quoted_by bind
quoted-next b s p r n e =
    unpicked _ _ (ne_eqb b 34 n) ∙ rw e (ap (λ (y : Read (List ℕ)). bind y (λ d k. got (p ++ d) k)) (quoted-any (length s) (length r) r (omega (arith, piece-short (piece-sound (b ∷ s) e))) (omega arith)))

pub quoted-none : (b : ℕ) (s : List ℕ) → (b ≡ 34 → ⊥) → piece_of rules (b ∷ s) ≡ refused → quoted_from (b ∷ s) ≡ refused
unfolding quoted_by bind
quoted-none b s n e = unpicked _ _ (ne_eqb b 34 n) ∙ rw e
