-- Base-64 in braces: what is decoded, and that it has room.
use Prim.Native.Nat.{ℕ, ◌+◌, ◌≤◌, ◌<◌}
use native.Mathlib.Omega.{arith}
use mathlib.Core.Path.{◌≡◌, refl, sym, ap, ◌∙◌, subst}
use mathlib.Core.Option.{Option, none, some}
use mathlib.Core.List.{List, [], ◌∷◌}
use lib.ListN.{length, take, drop, get_or, length-drop, drop_of_length-le}
use Rattle.base.specs.Choice.{chain}
use Rattle.model.specs.Grammar.{rules}
use Rattle.model.specs.Decode.{decode₁, unbrace, decode₂}
use Rattle.model.specs.Limits.{max_source}
use Rattle.model.specs.Strings.{Read, got, refused, bind, upto, lastly, unbase, decoded}
use Rattle.model.proofs.Marks.{upto-sound, base-sound}
use Rattle.model.proofs.ReadCases.{bind-cases, never}
use Rattle.model.proofs.Sizes.{upto-size, base-size}
use Rattle.model.proofs.Streams.{between}
use Rattle.scan.proofs.Places.{one-here}
use Rattle.marks.specs.Decoded.{Spacious, Decoded, Decodes}
use Rattle.walk.specs.declared.Extent.{Extent}
use Rattle.walk.specs.declared.Broken.{Broken}
use Rattle.walk.proofs.Extents.{place-equal}
use Rattle.std.specs.Prelude.{Option as Optional, Some, None, Ok, Err}
use Rattle.walk.specs.Extent.{Measured}
use Rattle.walk.specs.Extent.{Refused}
use Rattle.walk.specs.Extent.{Measures}
use Rattle.model.specs.Tree.{Tree}
use Rattle.sheets.proofs.Noting.{whole-refused}
use Rattle.sheets.specs.Notes.{Noted}
use Rattle.advanced.specs.Converted.{Lent}
use Rattle.texts.specs.Texts.{Braced, Taken}
use Rattle.texts.proofs.Taking.{lent-room, through, taken_none}

decoded-cases : {G : Type 0} {d k' : List ℕ} (o : Option (List ℕ)) (k : List ℕ) → decoded o k ≡ got d k' → (o ≡ some d → k ≡ k' → G) → G
unfolding decoded
decoded-cases none k e g = never e
decoded-cases (some x) k e g = g (ap some (fst-of e)) (snd-of e)
  where
    fst-of : {a a' b b' : List ℕ} → got a b ≡ got a' b' → a ≡ a'
    fst-of e = cc

    snd-of : {a a' b b' : List ℕ} → got a b ≡ got a' b' → b ≡ b'
    snd-of e = cc

-- what is read up to the closing brace
braces-cases : {G : Type 0} (s : List ℕ) {d k : List ℕ} → between 125 (unbase rules) [] s ≡ got d k → ((l : List ℕ) → upto 125 s ≡ got l k → unbase rules l ≡ some d → G) → G
braces-cases s e g = bind-cases (upto 125 s) _ e (λ l k' h₁ h₂. decoded-cases (unbase rules l) k' h₂ (λ a b. g l (h₁ ∙ ap (got l) b) a))

module _ (s d k : List ℕ) (e : between 125 (unbase rules) [] s ≡ got d k) where
  -- how long it is
  braces-short : length d ≤ length s
  braces-short = braces-cases s e (λ l h₁ h₂. omega (arith, base-size (base-sound l h₂), upto-size (upto-sound 125 s h₁)))

  -- nothing follows
  braces-whole : k ≡ [] → decode₂ rules (123 ∷ s) ≡ decode₁ d
  unfolding decode₂ unbrace lastly chain
  braces-whole z = braces-cases s e (λ l h₁ h₂. rw (h₁, z, h₂))

  -- something follows
  braces-more : (b : ℕ) (r : List ℕ) → k ≡ b ∷ r → decode₂ rules (123 ∷ s) ≡ none
  unfolding decode₂ unbrace lastly chain
  braces-more b r z = braces-cases s e (λ l h₁ h₂. rw (h₁, z))

undecoded : (d k : List ℕ) {G : Type 0} → decoded (some d) k ≡ refused → G
unfolding decoded
undecoded d k e = never (sym e)

lastly-none : (k : List ℕ) → lastly none k ≡ none
unfolding lastly
lastly-none [] = refl
lastly-none (b ∷ k) = refl

braces-none : (s : List ℕ) → between 125 (unbase rules) [] s ≡ refused → decode₂ rules (123 ∷ s) ≡ none
unfolding decode₂ unbrace chain bind
braces-none s e = by (upto 125 s) refl
  where
    letters : (l k : List ℕ) → upto 125 s ≡ got l k → (o : Option (List ℕ)) → unbase rules l ≡ o → decode₂ rules (123 ∷ s) ≡ none
    letters l k h none p = rw (h, p, lastly-none k)
    letters l k h (some d) p = undecoded d k (ap (λ (o : Option (List ℕ)). decoded o k) (sym p) ∙ sym (rw h) ∙ e)

    by : (y : Read (List ℕ)) → upto 125 s ≡ y → decode₂ rules (123 ∷ s) ≡ none
    by refused h = rw h
    by (got l k) h = letters l k h (unbase rules l) refl

-- ---- by places

-- what the braces hold, as a reading of the text from its second octet on
abbrev inside : List ℕ → Read (List ℕ)
inside text = between 125 (unbase rules) [] (drop 1 text)

module _ (text scratch : List ℕ) (g : Braced text × Lent (length text) (length scratch)) where
  text-is : text ≡ 123 ∷ drop 1 text
  text-is = let z : drop 0 text ≡ get_or text 0 0 ∷ drop (0 + 1) text = one-here text 0 g.0.more in z ∙ ap (λ (b : ℕ). b ∷ drop 1 text) g.0.first

  pub brace-room : Spacious text 1 0 (length scratch)
  brace-room = record { inside = g.0.more; space = omega (arith, lent-room (length text) (length scratch) g.1) }

  module _ (scratch' : List ℕ) (len : ℕ) (x : Optional ℕ) (w : Decodes text (inside text) 1 0 scratch scratch' len x) where
    refused_as : x ≡ None → inside text ≡ refused
    unfolding Decodes
    refused_as z = subst (Decodes text (inside text) 1 0 scratch scratch' len) z w

    pub brace-none : x ≡ None → (notes : List ℕ) → Taken (decode₂ rules text) 0 scratch' notes notes (Refused 0)
    brace-none z notes = taken_none (decode₂ rules text) 0 scratch' notes notes (ap (decode₂ rules) text-is ∙ braces-none (drop 1 text) (refused_as z))

    module _ (next : ℕ) (z : x ≡ Some next) where
      told : Decoded text (inside text) 1 0 scratch scratch' len next
      unfolding Decodes
      told = subst (Decodes text (inside text) 1 0 scratch scratch' len) z w

      pub brace-more : next < length text → (notes : List ℕ) → Taken (decode₂ rules text) 0 scratch' notes notes (Refused 0)
      brace-more h notes =
          taken_none (decode₂ rules text) 0 scratch' notes notes
          (ap (decode₂ rules) text-is ∙ braces-more (drop 1 text) told.octets (drop next text) told.reads (get_or text next 0) (drop (next + 1) text) (one-here text next h))

      len_is : len ≡ length told.octets
      len_is = omega (arith, told.front.place)

      pub brace-lent : len ≤ length scratch'
      brace-lent = omega (arith, told.front.fits, told.front.long)

      part-is : take len scratch' ≡ told.octets
      part-is = let z : 0 + len ≡ len = omega arith in rw z at told.front.same

      pub brace-part : len ≡ length (take len scratch')
      brace-part = len_is ∙ sym (ap length part-is)

      pub brace-short : length (take len scratch') ≤ max_source
      brace-short = omega (arith, brace-part, len_is, braces-short (drop 1 text) told.octets (drop next text) told.reads, length-drop 1 text, g.1.short)

      module _ (h : length text ≤ next) (notes notes' : List ℕ) (r : Measured) (v : Noted (take len scratch') notes notes' r) where
        meant : decode₂ rules text ≡ decode₁ (take len scratch')
        meant = ap (decode₂ rules) text-is ∙ braces-whole (drop 1 text) told.octets (drop next text) told.reads (drop_of_length-le text h) ∙ ap decode₁ (sym part-is)

        taken_as : (r' : Measured) → Measures (decode₂ rules text) r' → ((q : ℕ) → r' ≡ Refused q → q ≡ 0) → Taken (decode₂ rules text) 0 scratch' notes notes' r'
        taken_as r' m f = through (decode₂ rules text) (take len scratch') scratch' notes notes' r v brace-short meant 0 r' m f (λ _. rw (← brace-part))

        measured : (r' : Measured) → r ≡ r' → Measures (decode₂ rules text) r'
        measured r' e = subst (Measures (decode₂ rules text)) e (subst (λ (y : Option Tree). Measures y r) (sym meant) v.measures)

        pub brace-whole : (s : Extent) → r ≡ Ok s → Taken (decode₂ rules text) 0 scratch' notes notes' (Ok s)
        brace-whole s e = taken_as (Ok s) (measured (Ok s) e) (λ q f. whole-refused f)

        pub brace-refused : (q : Broken) → r ≡ Err q → Taken (decode₂ rules text) 0 scratch' notes notes' (Refused 0)
        unfolding Measures
        brace-refused q e = taken_as (Refused 0) (measured (Err q) e) (λ p f. sym (place-equal f))
