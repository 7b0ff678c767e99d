-- A sheet noted, and what a node of it shows by its note.
use Prim.Native.Nat.{ℕ, ◌+◌, ◌*◌, ◌≤◌, ◌<◌}
use native.Mathlib.Omega.{arith}
use mathlib.Core.Path.{◌≡◌, refl, sym, ap, ◌∙◌, subst}
use mathlib.Core.Bool.{Bool, true, false, not}
use mathlib.Core.Option.{Option, some}
use mathlib.Core.List.{List}
use lib.ListN.{length, take, get_or}
use lib.Seq.{length-take-le}
use Rattle.base.specs.Choice.{chain, is_none}
use Rattle.base.proofs.Cases.{by_bool, differ, picked, unpicked, some_same}
use Rattle.model.specs.Limits.{max_canonical, max_depth, most_nodes}
use Rattle.model.specs.Answers.{fits, fitting, own_tree, hint_part, data_part}
use Rattle.model.specs.Decode.{decode₁}
use Rattle.model.specs.Table.{width, row_numbers, records}
use Rattle.model.specs.Tree.{Tree, canon, nodes}
use Rattle.model.proofs.Exact.{canon-sound}
use Rattle.model.proofs.Laws.{small-nodes}
use Rattle.walk.specs.Extent.{Wholly, Measures}
use Rattle.walk.specs.Extent.{Measured}
use Rattle.walk.specs.declared.Extent.{Extent}
use Rattle.sheets.specs.Notes.{Notable, Noted}
use Rattle.tables.specs.Rows.{row_list, RowIs}
use Rattle.tables.specs.Told.{row_at, Readable, Holds}
use Rattle.tables.specs.declared.rows.Row as coded
use Rattle.tables.proofs.Held.{note-holds}
use Rattle.tables.proofs.Telling.{holds_row}
use Rattle.answers.specs.Cases.{placed}
use Rattle.answers.specs.Cases.{Place, place_at}
use Rattle.std.specs.Prelude.{None, Ok}
use Rattle.lookup.specs.Noted.{Notes, Sheet, Owned, Owning, Readables, ShowsPlace}
use Rattle.lookup.proofs.Sheets.{tree_of, fitted, within, sheet-of, own_of}
use Rattle.lookup.proofs.Shown.{table_at, hint-unowned, hint-beyond, hint-other, hint-found, data-unowned, data-beyond, data-found}

-- ---- a sheet noted

module _ (c : List ℕ) (n m k : ℕ) (before after : List ℕ) (r : Measured) (v : Noted (take n c) before after r) (lent : n ≤ length c) (sizes : Extent) (e : r ≡ Ok sizes) where
  wholly : Wholly (decode₁ (take n c)) sizes.len sizes.nodes sizes.depth
  unfolding Measures
  wholly = subst (Measures (decode₁ (take n c))) e v.measures

  pub noted-whole : n ≤ max_canonical → m ≤ k → sizes.nodes ≡ m → sizes.depth ≤ max_depth → Notes m (length before) → Sheet c n m k after
  unfolding chain fitting
  noted-whole short held z shallow room =
      let t : Tree = wholly.tree in
      let l : length (canon t) ≡ n = sym (ap length (canon-sound (take n c) t wholly.is)) ∙ length-take-le n c lent in
      let few : nodes t ≤ most_nodes = small-nodes t (omega (arith, l)) in
      let f : fits t ≡ true = fitted t (omega (arith, wholly.deepest)) (omega (arith, l)) in
      let g : Notable (take n c) (length before) = record { tree = t; is = wholly.is; deep = omega (arith, wholly.deepest); fits = omega (arith, wholly.counted) } in
      record {
        tree = t;
        is = within c n lent ∙ ap (λ (o : Option Tree). chain o fitting) wholly.is ∙ picked _ _ f;
        held = subst (λ (i : ℕ). Holds after i t) (sym wholly.counted ∙ z) (note-holds (take n c) before after r v (omega (arith, length-take-le n c lent)) g);
        lent = held;
      }

-- a table's tree is the sheet that was noted
pub owned-held : (c : List ℕ) (len : ℕ) (table : List ℕ) (count : ℕ) (notes : List ℕ) (own : Bool) → Owned c len table count notes own
    → (t : Tree) → own_tree c len table count ≡ some t → Holds notes count t
unfolding is_none
owned-held c len table count notes own o t e =
    let s : Sheet c len count (records table) notes = o.sheet (o.tells ∙ ap (λ (x : Option Tree). not (is_none x)) e) in
    let d : decode₁ (take len c) ≡ some s.tree = (sheet-of c len s.tree s.is).decoded in
    subst (Holds notes count) (some_same (λ (u : Tree). s.tree ≡ u) (sym d ∙ (own_of c len table count t e).sheet.decoded) refl) s.held

-- ---- a node shown

module _ (notes : List ℕ) (m node : ℕ) (own hinted : Bool) where
  pub show-readable : Readables notes m own → own ≡ true → node < m → Readable notes node
  show-readable g y h = g.read y node h

  show-by : (r : Place) → ((c : List ℕ) (n : ℕ) (table : List ℕ) → Owning c n table m notes own → hinted ≡ true → placed r ≡ hint_part c n table m node)
      → ((c : List ℕ) (n : ℕ) (table : List ℕ) → Owning c n table m notes own → hinted ≡ false → placed r ≡ data_part c n table m node) → ShowsPlace notes m node own hinted r
  show-by r f g =
      record {
        is = λ c n table o.
            by_bool hinted (λ y. f c n table o y ∙ sym (picked _ _ y)) (λ y. g c n table o y ∙ sym (unpicked _ _ y));
      }

  pub show-unowned : own ≡ false → ShowsPlace notes m node own hinted None
  show-unowned y = show-by None (λ c n table o z. hint-unowned c n table m node own o.tells y) (λ c n table o z. data-unowned c n table m node own o.tells y)

  module _ (y : own ≡ true) where
    pub show-beyond : m ≤ node → ShowsPlace notes m node own hinted None
    show-beyond h = show-by None (λ c n table o z. hint-beyond c n table m node own o.tells y h) (λ c n table o z. data-beyond c n table m node own o.tells y h)

    module _ (h : node < m) (row : coded.Row) (is : RowIs row (row_at notes node)) where
      -- the numbers that the note tells are the table's
      number_at : (c : List ℕ) (n : ℕ) (table : List ℕ) → Owning c n table m notes own → (k : ℕ) → k < 8 → get_or (row_list row) k 0 ≡ get_or table (node * width + k) 0
      number_at c n table o k l =
          tree_of (own_tree c n table m) (sym y ∙ o.tells)
          (λ t e.
          ap (λ (x : List ℕ). get_or x k 0) (is ∙ ap row_numbers (holds_row notes m t (o.held t e) node h))
          ∙ sym (table_at c n table m t (own_of c n table m t e) node k h l))

      pub show-other : hinted ≡ true → (row.kind ≡ 1 → ⊥) → ShowsPlace notes m node own hinted None
      show-other z d =
          show-by None
          (λ c n table o x. hint-other c n table m node own o.tells y h row.kind (number_at c n table o 0 (omega arith)) d)
          (λ c n table o x. differ z x)

      pub show-hint : hinted ≡ true → row.kind ≡ 1 → ShowsPlace notes m node own hinted (place_at row.hint_start row.hint_end)
      show-hint z d =
          show-by _
          (λ c n table o x.
          hint-found c n table m node own o.tells y h row.kind (number_at c n table o 0 (omega arith)) d
          row.hint_start row.hint_end (number_at c n table o 4 (omega arith)) (number_at c n table o 5 (omega arith)))
          (λ c n table o x. differ z x)

      pub show-data : hinted ≡ false → ShowsPlace notes m node own hinted (place_at row.data_start row.data_end)
      show-data z =
          show-by _
          (λ c n table o x. differ x z)
          (λ c n table o x.
          data-found c n table m node own o.tells y h
          row.data_start row.data_end (number_at c n table o 6 (omega arith)) (number_at c n table o 7 (omega arith)))
