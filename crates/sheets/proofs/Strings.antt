-- The note of a string that was just written.
use mir.Syntax.{w64}
use mir.Val.{Fits}
use Prim.Native.Nat.{ℕ, ◌+◌, ◌-◌, ◌≤◌, ◌<◌}
use native.Mathlib.Omega.{arith}
use mathlib.Core.Path.{◌≡◌, sym, ap, ◌∙◌}
use mathlib.Core.List.{List, ◌∷◌}
use lib.ListN.{length, set, length-set}
use Rattle.base.proofs.Cases.{by_le}
use Rattle.model.specs.Lexemes.{Lexeme}
use Rattle.model.specs.Limits.{max_source}
use Rattle.model.specs.Table.{body_start, body_end}
use Rattle.model.specs.Tree.{digits}
use Rattle.model.proofs.Sizes.{verbatim-length}
use Rattle.decimal.proofs.Writing.{wide-1, wide-2, wide-3, wide-4, wide-5}
use Rattle.walk.specs.Events.{event, Frame, above, events}
use Rattle.sheets.specs.Places.{shift, span_by}
use Rattle.sheets.specs.Notes.{note_by, note_of, Small}
use Rattle.sheets.specs.Strung.{Verbatim, Bodied, BodyFrom, Strung, plainly, hintedly, string_row_of, Keepable, KeptString}

-- ---- where the octets begin

-- how many digits a length n has, by its size; t is how long the whole string is
width-by : (n w t : ℕ) → n ≤ max_source → t ≡ length (digits n) + 1 + n → (n < 10 → t ≡ n + 2 → 1 ≡ w) → (10 ≤ n → n < 100 → t ≡ n + 3 → 2 ≡ w) → (100 ≤ n → n < 1000 → t ≡ n + 4 → 3 ≡ w)
    → (1000 ≤ n → n < 10000 → t ≡ n + 5 → 4 ≡ w) → (10000 ≤ n → t ≡ n + 6 → 5 ≡ w) → length (digits n) ≡ w
width-by n w t h e p q r s u =
    by_le n 9 (λ a. let z = (wide-1 n (omega arith)).is in sym z ∙ p (omega arith) (omega arith))
    (λ a. by_le n 99 (λ b. let z = (wide-2 n (omega arith) (omega arith)).is in sym z ∙ q (omega arith) (omega arith) (omega arith))
    (λ b. by_le n 999 (λ c. let z = (wide-3 n (omega arith) (omega arith)).is in sym z ∙ r (omega arith) (omega arith) (omega arith))
    (λ c. by_le n 9999 (λ d. let z = (wide-4 n (omega arith) (omega arith)).is in sym z ∙ s (omega arith) (omega arith) (omega arith))
    (λ d. let z = (wide-5 n (omega arith) h).is in sym z ∙ u (omega arith) (omega arith)))))

module _ (pos end : ℕ) (g : Bodied pos end) where
  pub bodied-from : pos ≤ end
  bodied-from = omega (arith, g.is.long)

  -- a string that is so long has w digits
  body-by : (w : ℕ) → ((n : ℕ) → n ≤ max_source → end - pos ≡ length (digits n) + 1 + n → length (digits n) ≡ w) → BodyFrom pos end (pos + (w + 1))
  body-by w f = record { is = at; below = omega (arith, at g.octets g.is, verbatim-length g.octets, g.is.long) }
    where
      at : (d : List ℕ) → Verbatim d pos end → pos + (w + 1) ≡ body_start pos d
      at d v =
          let z : length (digits (length d)) ≡ w = f (length d) v.few (omega (arith, v.long, verbatim-length d)) in
          omega arith

  pub body-1 : end - pos < 12 → BodyFrom pos end (pos + 2)
  body-1 h = body-by 1 (λ n m e. width-by n 1 (end - pos) m e (λ a b. omega arith) (λ a b c. omega arith) (λ a b c. omega arith) (λ a b c. omega arith) (λ a b. omega arith))

  pub body-2 : 12 ≤ end - pos → end - pos < 103 → BodyFrom pos end (pos + 3)
  body-2 l h = body-by 2 (λ n m e. width-by n 2 (end - pos) m e (λ a b. omega arith) (λ a b c. omega arith) (λ a b c. omega arith) (λ a b c. omega arith) (λ a b. omega arith))

  pub body-3 : 103 ≤ end - pos → end - pos < 1004 → BodyFrom pos end (pos + 4)
  body-3 l h = body-by 3 (λ n m e. width-by n 3 (end - pos) m e (λ a b. omega arith) (λ a b c. omega arith) (λ a b c. omega arith) (λ a b c. omega arith) (λ a b. omega arith))

  pub body-4 : 1004 ≤ end - pos → end - pos < 10005 → BodyFrom pos end (pos + 5)
  body-4 l h = body-by 4 (λ n m e. width-by n 4 (end - pos) m e (λ a b. omega arith) (λ a b c. omega arith) (λ a b c. omega arith) (λ a b c. omega arith) (λ a b. omega arith))

  pub body-5 : 10005 ≤ end - pos → BodyFrom pos end (pos + 6)
  body-5 l = body-by 5 (λ n m e. width-by n 5 (end - pos) m e (λ a b. omega arith) (λ a b c. omega arith) (λ a b c. omega arith) (λ a b c. omega arith) (λ a b. omega arith))

-- ---- what is kept

module _ (pos mid end up : ℕ) (g : Keepable pos mid end up) where
  module _ (z : mid ≡ 0) where
    pub plain-bodied : Bodied pos end
    plain-bodied = by g.is
      where
        by : Strung g.lexeme pos mid end → Bodied pos end
        by (plainly d e m v) = record { octets = d; is = v; small = g.small }
        by (hintedly h d to e m v w) = absurd (omega arith)

    module _ (s : ℕ) (b : BodyFrom pos end s) where
      pub plain-packs : s < shift
      plain-packs = omega (arith, b.below, g.small)

      pub plain-small : (span : ℕ) → span ≡ span_by s end → Small span 0 up
      plain-small span p = record { spans = omega (arith, b.below, g.small); thirds = omega arith; ups = g.ups }

      pub plain-kept : (span : ℕ) → span ≡ span_by s end → (node : ℕ) (before after : List ℕ) → after ≡ set before node (note_by span 0 up) → KeptString node pos mid end up before after
      unfolding string_row_of
      plain-kept span p node before after k = record { long = ap length k ∙ length-set before node (note_by span 0 up); kept = λ l w. by l w }
        where
          by : (l : Lexeme) → Strung l pos mid end → after ≡ set before node (note_of (string_row_of pos l) up)
          by l (plainly d e m v) =
              let q : s ≡ body_start pos d = b.is d v in
              let r : end ≡ body_end pos d = v.long in
              rw e (k ∙ ap (λ (n : ℕ). set before node (note_by n 0 up)) (p ∙ rw (q, r)))
          by l (hintedly h d to e m v w) = absurd (omega arith)

  module _ (z : mid ≡ 0 → ⊥) where
    hinted : (G : Type 0) → ((h d : List ℕ) (to : ℕ) → mid ≡ to + 1 → Verbatim h (pos + 1) to → Verbatim d mid end → G) → G
    hinted G f = by g.is
      where
        by : Strung g.lexeme pos mid end → G
        by (plainly d e m v) = absurd (z m)
        by (hintedly h d to e m v w) = f h d to m v w

    pub hint-bodied : Bodied (pos + 1) (mid - 1)
    hint-bodied = hinted (Bodied (pos + 1) (mid - 1)) (λ h d to m v w. let q : to ≡ mid - 1 = omega arith in record { octets = h; is = rw (← q) v; small = omega (arith, w.long, g.small) })

    pub hint-fits : Fits w64 (pos + 1)
    hint-fits = omega (arith, bodied-from (pos + 1) (mid - 1) hint-bodied, hint-bodied.small)

    pub data-bodied : Bodied mid end
    data-bodied = hinted (Bodied mid end) (λ h d to m v w. record { octets = d; is = w; small = g.small })

    module _ (from s : ℕ) (a : BodyFrom (pos + 1) (mid - 1) from) (b : BodyFrom mid end s) where
      pub data-packs : s < shift
      data-packs = omega (arith, b.below, g.small)

      pub data-small : (span : ℕ) → span ≡ span_by s end → Small span from up
      data-small span p = record { spans = omega (arith, b.below, g.small); thirds = omega (arith, a.below, bodied-from mid end data-bodied, g.small); ups = g.ups }

      pub hint-kept : (span : ℕ) → span ≡ span_by s end → (node : ℕ) (before after : List ℕ) → after ≡ set before node (note_by span from up) → KeptString node pos mid end up before after
      unfolding string_row_of
      hint-kept span p node before after k = record { long = ap length k ∙ length-set before node (note_by span from up); kept = λ l w. by l w }
        where
          by : (l : Lexeme) → Strung l pos mid end → after ≡ set before node (note_of (string_row_of pos l) up)
          by l (plainly d e m v) = absurd (z m)
          by l (hintedly h d to e m v w) =
              let t : to ≡ mid - 1 = omega arith in
              let q : from ≡ body_start (pos + 1) h = a.is h (rw (← t) v) in
              let y : mid ≡ body_end (pos + 1) h + 1 = omega (arith, v.long) in
              let r : s ≡ body_start (body_end (pos + 1) h + 1) d = b.is d w ∙ ap (λ (i : ℕ). body_start i d) y in
              let x : end ≡ body_end (body_end (pos + 1) h + 1) d = w.long ∙ ap (λ (i : ℕ). body_end i d) y in
              rw (e, ← r, ← x, ← q) (k ∙ ap (λ (n : ℕ). set before node (note_by n from up)) p)

-- ---- and what is met

pub string-events : (l : Lexeme) (pos mid end : ℕ) → Strung l pos mid end → (seen : ℕ) (ls : List Lexeme) (st : List Frame) → events (l ∷ ls) pos seen st ≡ event seen (string_row_of pos l) (above st) ∷ events ls end (seen + 1) st
unfolding events string_row_of
string-events l pos mid end (plainly d e m v) seen ls st = rw (e, v.long)
string-events l pos mid end (hintedly h d to e m v w) seen ls st =
    let y : body_end (pos + 1) h + 1 ≡ mid = omega (arith, v.long) in
    let x : end ≡ body_end (body_end (pos + 1) h + 1) d = w.long ∙ ap (λ (i : ℕ). body_end i d) (sym y) in
    rw (e, x)
