-- Each test of a record, and the note that it claims where they all hold.
use Prim.Native.Nat.{ℕ, ◌+◌, ◌*◌, ◌-◌, ◌≤◌, ◌<◌}
use native.Mathlib.Omega.{arith}
use mathlib.Core.Path.{◌≡◌, sym, ap, ◌∙◌, subst}
use mathlib.Core.Bool.{Bool, true, false}
use mathlib.Core.List.{List, [], ◌∷◌, ◌++◌}
use Rattle.base.specs.Choice.{equal}
use Rattle.base.proofs.Cases.{differ}
use Rattle.base.proofs.Lists.{equal-true, same-equal}
use Rattle.decimal.specs.Numbers.{Wide}
use Rattle.model.specs.Limits.{max_source}
use Rattle.model.specs.Table.{Row, plain_row, row_numbers, recorded}
use Rattle.model.specs.Tree.{digits}
use Rattle.model.proofs.Digits.{digits-small}
use lib.ListN.{length, get_or}
use Rattle.std.specs.Prelude.{None, Some}
use Rattle.std.proofs.lemmas.Option.{none-some, same_Some}
use Rattle.sheets.specs.Places.{shift, span_by}
use Rattle.sheets.specs.Notes.{list_mark}
use Rattle.tables.specs.Rows.{record_list, RowIs}
use Rattle.tables.specs.Told.{plain_by, list_by, hinted_by, hint_end_by, TailNote, HintNote, HintedNote}
use Rattle.tables.specs.Claimed.{Claim, Claimed, Short}
use Rattle.tables.specs.declared.rows.Row as coded
use Rattle.tables.proofs.Claiming.{IsPlain, IsList, IsHint, plain_back, list_back, hint-back, some-kind, plain-found, list-found, hint-found}

-- what the tests of a hint's places tell
pub tail-so : (a b w : ℕ) → b ≤ max_source → a ≤ b → Wide (b - a) w → w + 2 ≤ a → TailNote a b
tail-so a b w l c d h = record { bodied = c; ends = l; begins = omega (arith, d.is) }

pub hinted-so : (a b x y w : ℕ) → b ≤ max_source → a ≤ b → y ≡ hint_end_by a b → x ≤ y → Wide (y - x) w → w + 2 ≤ x → HintNote a b x y
hinted-so a b x y w l c z i d h = record { begins = omega (arith, d.is); hinted = i; follows = omega arith; bodied = c; ends = l }

pub unkind : (r : List ℕ) → (get_or r 0 0 ≡ 0 → ⊥) → (get_or r 0 0 ≡ 2 → ⊥) → (get_or r 0 0 ≡ 1 → ⊥) → Claimed r None
unkind r f g h = record { yes = λ m z. absurd (none-some m z); no = λ z m c. some-kind r m c f g h }

module _ (row : coded.Row) (up : ℕ) where
  abbrev r : List ℕ
  r = record_list row up

  abbrev a : ℕ
  a = row.data_start

  abbrev b : ℕ
  b = row.data_end

  none-claimed : ((m : ℕ) → Claim r m → ⊥) → Claimed r None
  none-claimed f = record { yes = λ m z. absurd (none-some m z); no = λ z m c. f m c }

  one-claimed : (m : ℕ) → Claim r m → Claimed r (Some m)
  one-claimed m c = record { yes = λ x z. subst (Claim r) (same_Some m x z) c; no = λ z x d. absurd (none-some m (sym z)) }

  -- the record that was made of the places
  module _ (w : Row) (made : coded.Row) (is : RowIs made w) (q : Bool) (e : q ≡ equal r (record_list made up)) where
    made-is : record_list made up ≡ recorded w up
    made-is = ap (λ (l : List ℕ). l ++ (up ∷ [])) is

    apart : q ≡ false → r ≡ recorded w up → ⊥
    apart f t = differ (e ∙ same-equal r (record_list made up) (t ∙ sym made-is)) f

    alike : q ≡ true → r ≡ recorded w up
    alike f = equal-true r (record_list made up) (sym e ∙ f) ∙ made-is

  -- ---- a string's

  module _ (k : row.kind ≡ 0) where
    no_plain : (IsPlain r → ⊥) → Claimed r None
    no_plain f = none-claimed (λ m c. f (plain_back r m c k))

    pub plain-far : max_source < b → Claimed r None
    plain-far l = no_plain (λ g. omega (arith, g.note.ends))

    pub plain-crossed : b < a → Claimed r None
    plain-crossed l = no_plain (λ g. omega (arith, g.note.bodied))

    pub plain-early : (w : ℕ) → Wide (b - a) w → a < w + 1 → Claimed r None
    plain-early w d l = no_plain (λ g. omega (arith, g.note.begins, d.is))

    pub plain-deep : shift ≤ up → Claimed r None
    plain-deep l = no_plain (λ g. omega (arith, g.low))

    -- of fewer than ten octets
    module _ (s : Short a b) where
      one-digit : length (digits (b - a)) ≡ 1
      one-digit = ap length (digits-small (b - a) s.digit)

      pub short-elsewhere : (row.start + 2 ≡ a → ⊥) → Claimed r None
      short-elsewhere d = no_plain (λ g. d (omega (arith, one-digit, g.note.begins, ap (λ (l : List ℕ). get_or l 1 0) g.is)))

      pub short-so : row.start + 2 ≡ a → row.end ≡ b → row.nodes ≡ 1 → row.hint_start ≡ 0 → row.hint_end ≡ 0 → up < shift
          → (m : ℕ) → m ≡ span_by a b → Claimed r (Some (m + up * (shift * shift * shift)))
      short-so p e c x y u m z =
          let i : row.start ≡ a - length (digits (b - a)) - 1 = omega (arith, one-digit) in
          one-claimed _
          (plain-found r a b up _ (record { bodied = s.bodied; ends = s.ends; begins = omega (arith, one-digit) }) u (omega arith)
          (λ t. k t ∷ i t ∷ e t ∷ c t ∷ x t ∷ y t ∷ a ∷ b ∷ up ∷ []))

    module _ (w : ℕ) (d : Wide (b - a) w) (made : coded.Row) (at : RowIs made (plain_row (a - (w + 1)) a b)) (q : Bool) (e : q ≡ equal r (record_list made up)) where
      is : RowIs made (plain_by a b)
      is =
          let z : a - (w + 1) ≡ a - length (digits (b - a)) - 1 = omega (arith, d.is) in
          at ∙ ap (λ (n : ℕ). row_numbers (plain_row n a b)) z

      pub plain-apart : q ≡ false → Claimed r None
      plain-apart f = no_plain (λ g. apart _ made is q e f g.is)

      pub plain-so : q ≡ true → b ≤ max_source → a ≤ b → w + 1 ≤ a → up < shift → (s : ℕ) → s ≡ span_by a b → Claimed r (Some (s + up * (shift * shift * shift)))
      plain-so f l c h u s z =
          one-claimed _
          (plain-found r a b up _ (record { bodied = c; ends = l; begins = omega (arith, d.is) }) u (omega arith) (alike _ made is q e f))

  -- ---- a list's

  module _ (k : row.kind ≡ 2) where
    no-list : (IsList r → ⊥) → Claimed r None
    no-list f = none-claimed (λ m c. f (list_back r m c k))

    pub list-far : max_source ≤ b → Claimed r None
    list-far l = no-list (λ g. omega (arith, g.note.ends))

    pub list-first : a ≡ 0 → Claimed r None
    list-first l = no-list (λ g. omega (arith, g.note.begins))

    pub list-crossed : b + 1 < a → Claimed r None
    list-crossed l = no-list (λ g. omega (arith, g.note.bodied))

    pub list-many : list_mark ≤ row.nodes → Claimed r None
    list-many l = no-list (λ g. omega (arith, g.few))

    pub list-deep : shift ≤ up → Claimed r None
    list-deep l = no-list (λ g. omega (arith, g.low))

    module _ (made : coded.Row) (is : RowIs made (list_by a b row.nodes)) (q : Bool) (e : q ≡ equal r (record_list made up)) where
      pub list-apart : q ≡ false → Claimed r None
      list-apart f = no-list (λ g. apart _ made is q e f g.is)

      pub list-so : q ≡ true → b < max_source → (a ≡ 0 → ⊥) → a ≤ b + 1 → row.nodes < list_mark → up < shift
          → (s : ℕ) → s ≡ span_by a b
          → Claimed r (Some (s + (list_mark + row.nodes) * (shift * shift) + up * (shift * shift * shift)))
      list-so f l n c w u s z =
          one-claimed _
          (list-found r a b row.nodes up _ (record { begins = omega arith; bodied = c; ends = omega arith; counted = omega arith })
          w u (omega arith) (alike _ made is q e f))

  -- ---- a string's with a hint

  module _ (k : row.kind ≡ 1) where
    abbrev x : ℕ
    x = row.hint_start

    no-hint : (IsHint r → ⊥) → Claimed r None
    no-hint f = none-claimed (λ m c. f (hint-back r m c k))

    pub hint-far : max_source < b → Claimed r None
    hint-far l = no-hint (λ g. omega (arith, g.note.tail.ends))

    pub hint-crossed : b < a → Claimed r None
    hint-crossed l = no-hint (λ g. omega (arith, g.note.tail.bodied))

    pub hint-early : (w : ℕ) → Wide (b - a) w → a < w + 2 → Claimed r None
    hint-early w d l = no-hint (λ g. omega (arith, g.note.tail.begins, d.is))

    pub hint-deep : shift ≤ up → Claimed r None
    hint-deep l = no-hint (λ g. omega (arith, g.low))

    module _ (y : ℕ) (z : y ≡ hint_end_by a b) where
      placed : HintedNote a b x → HintNote a b x y
      placed g = rw z g.hint

      pub hint-late : y < x → Claimed r None
      hint-late l = no-hint (λ g. omega (arith, (placed g.note).hinted))

      pub hint-narrow : (w : ℕ) → Wide (y - x) w → x < w + 2 → Claimed r None
      hint-narrow w d l = no-hint (λ g. omega (arith, (placed g.note).begins, d.is))

      module _ (made : coded.Row) (is : RowIs made (hinted_by a b x y)) (q : Bool) (e : q ≡ equal r (record_list made up)) where
        pub hint-apart : q ≡ false → Claimed r None
        hint-apart f = no-hint (λ g. apart _ made is q e f (g.is ∙ ap (λ (i : ℕ). recorded (hinted_by a b x i) up) (sym z)))

        pub hint-so : q ≡ true → TailNote a b → HintNote a b x y → up < shift → (s : ℕ) → s ≡ span_by a b
            → Claimed r (Some (s + x * (shift * shift) + up * (shift * shift * shift)))
        hint-so f t h u s j =
            one-claimed _
            (hint-found r a b x up _ (record { tail = t; hint = rw (sym z) h }) u (omega arith)
            (alike _ made is q e f ∙ ap (λ (i : ℕ). recorded (hinted_by a b x i) up) z))

-- the i-th number is not that of the string at its places
pub plain_other : (i : ℕ) (row : coded.Row) (up : ℕ) → row.kind ≡ 0
    → (get_or (record_list row up) i 0 ≡ get_or (recorded (plain_by row.data_start row.data_end) up) i 0 → ⊥) → Claimed (record_list row up) None
plain_other i row up k d = no_plain row up k (λ g. d (ap (λ (l : List ℕ). get_or l i 0) g.is))
