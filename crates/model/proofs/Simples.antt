-- Simple strings: the decoder reads them as the rules say.
use Prim.Native.Nat.{ℕ, ◌≤◌}
use native.Mathlib.Omega.{arith}
use mathlib.Core.Path.{◌≡◌, refl, sym, ap, ap₂, ◌∙◌}
use mathlib.Core.Bool.{false}
use mathlib.Core.Option.{Option, none, some}
use mathlib.Core.List.{List, [], ◌∷◌, ◌++◌, append_assoc}
use lib.ListN.{length, length-append, length-take, take-append-drop}
use lib.Seq.{take_at, drop_at}
use lib.Dec.{leb, eqb}
use borrow.Author.Tests.{le-leb, eq-eqb, eqb-true, leb-true}
use Rattle.base.specs.Choice.{among, member}
use Rattle.base.proofs.Cases.{pick-cases, picked, unpicked}
use Rattle.model.specs.Amended.{Apart}
use Rattle.model.specs.Grammar.{Run, run_more, run_end, run-stop, Rules}
use Rattle.model.specs.Octets.{is_whitespace, is_alpha, is_simple_punc, is_token_start, is_token_octet}
use Rattle.model.specs.Strings.{got, bind, skip, decimal, first, run, upto, unhex, unbase, decoded, marked, sized, after_number, simple}
use Rattle.model.specs.Tree.{digits, verbatim}
use Rattle.model.proofs.Classes.{digit-unwhite, start-unwhite, start-undigit}
use Rattle.model.proofs.Digits.{Numeral, numeral, decimal-sound}
use Rattle.model.proofs.Marks.{upto-sound, upto-complete, hex-sound, hex-complete, base-sound, base-complete}
use Rattle.model.proofs.Quoted.{quoted-sound, quoted-complete}
use Rattle.model.proofs.ReadCases.{bind-cases, never, got_same}
use Rattle.model.proofs.Stripped.{Marked, in-quotes, in-hashes, in-bars, Simple, simple-verbatim, simple-token, unmeasured, measured}

-- ---- the run of a token

run_sound : (s : List ℕ) {d k : List ℕ} → run s ≡ got d k → Run s d k
unfolding run
run_sound [] e = got_same (Run []) e run_end
run_sound (b ∷ s) e =
    pick-cases (is_token_octet b) _ _ e
    (λ t h. bind-cases (run s) _ h (λ d' k' h₁ h₂. got_same (Run (b ∷ s)) h₂ (run_more t (run_sound s h₁))))
    (λ t h. got_same (Run (b ∷ s)) h (run-stop t))

run-complete : {s d k : List ℕ} → Run s d k → run s ≡ got d k
unfolding run bind
run-complete (run_more t r) = rw (t, run, run-complete r)
run-complete run_end = refl
run-complete (run-stop t) = rw (t, run)

-- ---- the strings between marks

pub reading-cases : {G : Type 0} {d k' : List ℕ} (o : Option (List ℕ)) (k : List ℕ) → decoded o k ≡ got d k' → ((e : List ℕ) → o ≡ some e → got e k ≡ got d k' → G) → G
unfolding decoded
reading-cases none k h g = never h
reading-cases (some e) k h g = g e refl h

module _ {ρ : Rules} where
  pub marked-sound : (m : ℕ) (s : List ℕ) {d k : List ℕ} → marked ρ m s ≡ got d k → Marked ρ (m ∷ s) d k
  unfolding marked
  marked-sound m s {d} {k} e =
      pick-cases (eqb m 34) _ _ e
      (λ t h. let z : m ≡ 34 = eqb-true m 34 t in rw z (in-quotes (quoted-sound (length s) s h)))
      (λ t h. pick-cases (eqb m 35) _ _ h
      (λ u i.
      let z : m ≡ 35 = eqb-true m 35 u in
      rw z (bind-cases (upto 35 s) _ i (λ l k' h₁ h₂. reading-cases (unhex l) k' h₂ (λ d' h₃ h₄. got_same (Marked ρ (35 ∷ s)) h₄ (in-hashes (upto-sound 35 s h₁) (hex-sound l h₃))))))
      (λ u i. pick-cases (eqb m 124) _ _ i
      (λ v j.
      let z : m ≡ 124 = eqb-true m 124 v in
      rw z (bind-cases (upto 124 s) _ j (λ l k' h₁ h₂. reading-cases (unbase ρ l) k' h₂ (λ d' h₃ h₄. got_same (Marked ρ (124 ∷ s)) h₄ (in-bars (upto-sound 124 s h₁) (base-sound l h₃))))))
      (λ v j. never j)))

-- what begins with a mark, and how it is read
pub record Opened (ρ : Rules) (s d k : List ℕ) : Type 0 where
  pub mark : ℕ
  pub rest : List ℕ
  pub is : s ≡ mark ∷ rest
  pub not_digit : among 48 57 mark ≡ false
  pub not_start : is_token_start mark ≡ false
  pub not_white : is_whitespace mark ≡ false
  pub not-colon : eqb mark 58 ≡ false
  pub reads : marked ρ mark rest ≡ got d k

module _ {ρ : Rules} (apart : Apart ρ) where
  marked-complete : {s d k : List ℕ} → Marked ρ s d k → Opened ρ s d k
  unfolding marked is_whitespace member bind decoded is_token_start is_alpha is_simple_punc
  marked-complete (in-quotes {s = s} q) =
      record { mark = 34; rest = s; is = refl; not_digit = refl; not_start = refl; not_white = refl; not-colon = refl; reads = quoted-complete apart (length s) q (omega arith) }
  marked-complete (in-hashes {s = s} u h) =
      record { mark = 35; rest = s; is = refl; not_digit = refl; not_start = refl; not_white = refl; not-colon = refl; reads = rw (upto-complete 35 refl u, hex-complete h) }
  marked-complete (in-bars {s = s} u h) =
      record { mark = 124; rest = s; is = refl; not_digit = refl; not_start = refl; not_white = refl; not-colon = refl; reads = rw (upto-complete 124 refl u, base-complete h) }

-- ---- simple strings

pub verb-shape : (d k : List ℕ) → verbatim d ++ k ≡ digits (length d) ++ 58 ∷ (d ++ k)
unfolding verbatim
verb-shape d k = append_assoc (digits (length d)) (58 ∷ d) k

pub first-sound : (n : ℕ) (s : List ℕ) {d k : List ℕ} → first n s ≡ got d k → (n ≡ length d) × (s ≡ d ++ k)
unfolding first
first-sound n s e =
    pick-cases (leb n (length s)) _ _ e
    (λ t h. let l : n ≤ length s = leb-true _ _ t in
    got_same (λ (d k : List ℕ). (n ≡ length d) × (s ≡ d ++ k)) h (simp length-take (omega arith), sym (take-append-drop n s)))
    (λ t h. never h)

pub first-complete : (d k : List ℕ) → first (length d) (d ++ k) ≡ got d k
unfolding first
first-complete d k = picked _ _ (le-leb (length d) (length (d ++ k)) (omega (arith, length-append d k))) ∙ ap₂ got (take_at d k (length d) refl) (drop_at d k (length d) refl)

sized-cases : {G : Type 0} (n : ℕ) (d k : List ℕ) {d' k' : List ℕ} → sized n d k ≡ got d' k' → (length d ≡ n → got d k ≡ got d' k' → G) → G
unfolding sized
sized-cases n d k e f = pick-cases (eqb (length d) n) _ _ e (λ t h. f (eqb-true _ _ t) h) (λ t h. never h)

module _ {ρ : Rules} where
  after-sound : (n : ℕ) (s : List ℕ) {d k : List ℕ} → after_number ρ n s ≡ got d k → Simple ρ (digits n ++ s) d k
  unfolding after_number
  after-sound n [] e = never e
  after-sound n (b ∷ s) {d} {k} e =
      pick-cases (eqb b 58) _ _ e
      (λ t h.
      let z : b ≡ 58 = eqb-true b 58 t in
      let w : (n ≡ length d) × (s ≡ d ++ k) = first-sound n s h in
      rw (z, w.0, w.1, ← verb-shape d k) (simple-verbatim d k))
      (λ t h. bind-cases (marked ρ b s) (sized n) h
      (λ d' k' h₁ h₂. sized-cases n d' k' h₂
      (λ z i. got_same (Simple ρ (digits n ++ (b ∷ s))) i (rw (← z) (measured (marked-sound b s h₁))))))

  pub simple-sound : (s : List ℕ) {d k : List ℕ} → simple ρ s ≡ got d k → Simple ρ s d k
  unfolding simple
  simple-sound [] e = never e
  simple-sound (b ∷ s) {d} {k} e =
      pick-cases (among 48 57 b) _ _ e
      (λ t h. bind-cases (decimal b s) (after_number ρ) h (λ n r h₁ h₂. rw (decimal-sound b s n r t h₁) (after-sound n r h₂)))
      (λ t h. pick-cases (is_token_start b) _ _ h
      (λ u i. bind-cases (run s) _ i (λ d' k' h₁ h₂. got_same (Simple ρ (b ∷ s)) h₂ (simple-token u (run_sound s h₁))))
      (λ u i. unmeasured (marked-sound b s i)))

-- a simple string and its first octet
pub record Begun (ρ : Rules) (s d k : List ℕ) : Type 0 where
  pub first : ℕ
  pub rest : List ℕ
  pub is : s ≡ first ∷ rest
  pub not_white : is_whitespace first ≡ false
  pub reads : simple ρ s ≡ got d k

module _ {ρ : Rules} (apart : Apart ρ) where
  -- after a number, no digit
  counted : (n m : ℕ) (s : List ℕ) {d k : List ℕ} → among 48 57 m ≡ false → after_number ρ n (m ∷ s) ≡ got d k → Begun ρ (digits n ++ m ∷ s) d k
  unfolding simple bind
  counted n m s z e =
      let l : Numeral n m s = numeral n m s z in
      let i : digits n ++ m ∷ s ≡ l.first ∷ (l.rest ++ m ∷ s) = ap (λ (x : List ℕ). x ++ m ∷ s) l.is in
      record { first = l.first; rest = l.rest ++ m ∷ s; is = i; not_white = digit-unwhite l.first l.digital; reads = ap (simple ρ) i ∙ picked _ _ l.digital ∙ rw l.reads e }

  pub simple-begun : {s d k : List ℕ} → Simple ρ s d k → Begun ρ s d k
  unfolding simple bind after_number sized
  simple-begun (simple-verbatim d k) = rw (verb-shape d k) (counted (length d) 58 (d ++ k) refl (first-complete d k))
  simple-begun (simple-token {b = b} {s = s} t r) =
      record { first = b; rest = s; is = refl; not_white = start-unwhite b t; reads = unpicked _ _ (start-undigit b t) ∙ picked _ _ t ∙ rw (run-complete r) }
  simple-begun (unmeasured {s = s} {d = d} {k = k} m) =
      let o : Opened ρ s d k = marked-complete apart m in
      record { first = o.mark; rest = o.rest; is = o.is; not_white = o.not_white; reads = ap (simple ρ) o.is ∙ unpicked _ _ o.not_digit ∙ unpicked _ _ o.not_start ∙ o.reads }
  simple-begun (measured {s = s} {d = d} {k = k} m) =
      let o : Opened ρ s d k = marked-complete apart m in
      rw o.is (counted (length d) o.mark o.rest o.not_digit (unpicked _ _ o.not-colon ∙ rw o.reads (picked _ _ (eq-eqb (length d) (length d) refl))))

  pub simple-complete : {s d k : List ℕ} → Simple ρ s d k → simple ρ s ≡ got d k
  simple-complete x = (simple-begun x).reads

  pub simple-skip : {s d k : List ℕ} → Simple ρ s d k → skip s ≡ s
  unfolding skip
  simple-skip {s} {d} {k} x =
      let b : Begun ρ s d k = simple-begun x in
      ap skip b.is ∙ unpicked _ _ b.not_white ∙ sym b.is
