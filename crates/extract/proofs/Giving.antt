-- An extract given: a sheet judged and noted, what is shown of it read, and the table filled.
use Prim.Native.Nat.{ℕ, ◌*◌, ◌/◌, ◌≤◌, ◌<◌, min}
use native.Mathlib.Omega.{arith}
use mathlib.Core.Path.{◌≡◌, refl, sym, ap, ◌∙◌, subst}
use mathlib.Core.Bool.{Bool, true, false, not}
use mathlib.Core.Option.{Option, none, some}
use mathlib.Core.List.{List}
use lib.ListN.{length, take}
use lib.Seq.{length-sets, length-take-le, take_at}
use lib.Dec.{ltb}
use borrow.Author.Tests.{lt-ltb}
use Rattle.base.specs.Choice.{is_none}
use Rattle.base.proofs.Cases.{none-some, some_same}
use Rattle.base.proofs.Stores.{sets-all}
use Rattle.model.specs.Answers.{Outcome, verdict, judged, the, unchanged, sheet_tree, own_tree, reading}
use Rattle.model.specs.Limits.{max_canonical, max_depth, most_nodes}
use Rattle.model.specs.Table.{width, records}
use Rattle.model.specs.Decode.{decode₁}
use Rattle.model.specs.Tree.{Tree, plain, hinted, list, canon, nodes}
use Rattle.model.proofs.Exact.{canon-sound}
use Rattle.model.proofs.Laws.{nodes-within-half}
use Rattle.walk.specs.Extent.{Wholly, Measures}
use Rattle.walk.specs.Extent.{Measured}
use Rattle.scan.specs.Writes.{Wrote}
use Rattle.sheets.specs.Notes.{Noted}
use Rattle.tables.specs.Told.{Holds, Fillable, Filled}
use Rattle.answers.specs.Cases.{outcome, Refuses}
use Rattle.answers.specs.Cases.{Reading}
use Rattle.answers.specs.declared.refusal.Refusal.TheVariants.{NotOwn}
use Rattle.answers.proofs.Judged.{refuses}
use Rattle.std.specs.Prelude.{Option as Optional, Some, None, Ok, Err}
use Rattle.walk.specs.declared.Extent.{Extent}
use Rattle.walk.specs.declared.Broken.{Broken}
use Rattle.reader.specs.Stored.{Noteable, halved, most, Accepting, Puts}
use Rattle.reader.proofs.Storing.{puts-refused}
use Rattle.lookup.specs.Noted as lookup
use Rattle.lookup.specs.Noted.{Owned}
use Rattle.lookup.proofs.Noting.{noted-whole, owned-held}
use Rattle.lookup.proofs.Sheets.{tree_of, none_of, Sheet, sheet-of, sheet-beyond, sheet-long, sheet-none, sheet-deep}
use Rattle.extracts.specs.Extract.{extract}
use Rattle.extracts.specs.Extracting.{extract_of, extracting, extracting_own}
use Rattle.extracts.proofs.Answered.{own-sheet}
use Rattle.extracts.proofs.Sizes.{never-longer}
use Rattle.extract.specs.Cut as cut
use Rattle.extract.specs.Given.{Sheets, Judges, Judged, Gives, Sheeted, Showable, ShowsExtract}

-- ---- a sheet noted

module _ (c : List ℕ) (n : ℕ) (notes : List ℕ) where
  unsheeted : false ≡ not (is_none (sheet_tree c n)) → Sheets c n notes None
  unfolding Sheets
  unsheeted e = record { tells = e; sheeted = λ t f. f; held = λ t f. none-some (sym (none_of (sheet_tree c n) e) ∙ f) }

  pub note-beyond : length c < n → Sheets c n notes None
  note-beyond h = unsheeted (sheet-beyond c n h)

  pub note-long : max_canonical < n → Sheets c n notes None
  note-long h = unsheeted (sheet-long c n h)

module _ (c : List ℕ) (n : ℕ) (before notes : List ℕ) (r : Measured) (v : Noted (take n c) before notes r) (lent : n ≤ length c) where
  pub note-none : (p : Broken) → r ≡ Err p → Sheets c n notes None
  note-none p e = unsheeted c n notes (sheet-none c n lent r v.measures p e)

  module _ (sizes : Extent) (e : r ≡ Ok sizes) where
    pub note-deep : max_depth < sizes.depth → Sheets c n notes None
    note-deep h = unsheeted c n notes (sheet-deep c n lent r v.measures sizes e h)

    enough : Noteable n (length before) → lookup.Notes sizes.nodes (length before)
    unfolding Measures
    enough g =
        let w : Wholly (decode₁ (take n c)) sizes.len sizes.nodes sizes.depth = subst (Measures (decode₁ (take n c))) e v.measures in
        let l : length (canon w.tree) ≡ n = sym (ap length (canon-sound (take n c) w.tree w.is)) ∙ length-take-le n c lent in
        record { enough = by g (omega (arith, l, nodes-within-half w.tree, w.counted)) }
      where
        by : Noteable n (length before) → 2 * sizes.nodes ≤ n → min sizes.nodes most_nodes ≤ length before
        by (halved k) h = omega arith
        by (most k) h = omega arith

    pub note-whole : n ≤ max_canonical → sizes.depth ≤ max_depth → Noteable n (length before) → Sheets c n notes (Some sizes.nodes)
    unfolding is_none Sheets
    note-whole short shallow room =
        let s : lookup.Sheet c n sizes.nodes sizes.nodes notes = noted-whole c n sizes.nodes sizes.nodes before notes r v lent sizes e short (omega arith) refl shallow (enough room) in
        record {
          tells = sym (ap (λ (o : Option Tree). not (is_none o)) s.is);
          sheeted = λ t f. f;
          held = λ t f. subst (Holds notes sizes.nodes) (some_same (λ (u : Tree). s.tree ≡ u) (sym s.is ∙ f) refl) s.held;
        }

-- ---- with its table

owned-judges : (c : List ℕ) (n : ℕ) (table : List ℕ) (m : ℕ) (notes : List ℕ) (own : Bool) → Owned c n table m notes own → Judges (own_tree c n table m) c n notes m own
owned-judges c n table m notes own o =
    record { tells = o.tells; sheeted = λ t g. own-sheet c n table m t g; held = owned-held c n table m notes own o }

pub kept-notes : (n : ℕ) (before after : List ℕ) → Noteable n (length before) → length after ≡ length before → Noteable n (length after)
kept-notes n before after g e = subst (Noteable n) (sym e) g

pub note-judged : (c : List ℕ) (n : ℕ) (notes : List ℕ) (o : Optional ℕ) → Sheets c n notes o → (m : ℕ) → o ≡ Some m → Judged c n notes m true
unfolding Sheets
note-judged c n notes o j m e = record { found = sheet_tree c n; judges = subst (Sheets c n notes) e j }

pub owned-judged : (c : List ℕ) (n : ℕ) (table : List ℕ) (m : ℕ) (notes : List ℕ) (own : Bool) → Owned c n table m notes own → Judged c n notes m own
owned-judged c n table m notes own o = record { found = own_tree c n table m; judges = owned-judges c n table m notes own o }

-- ---- what is shown, read

puts-as : (f h : List ℕ → Outcome) (canonical : List ℕ) (n : ℕ) (notes : List ℕ) → ((table : List ℕ) → f table ≡ h table) → (r : Reading) → Puts f canonical n notes r → Puts h canonical n notes r
unfolding Puts
puts-as f h canonical n notes e (Ok s) p =
    record { tree = p.tree; held = p.held; recorded = p.recorded; few = p.few; is = λ table z. p.is table z ∙ e table }
puts-as f h canonical n notes e (Err x) p = λ table z. p table z ∙ e table

-- fewer octets need no more notes
fewer : (m n room : ℕ) → m ≤ n → Noteable n room → Noteable m room
fewer m n room h (halved k) = halved (omega arith)
fewer m n room h (most k) = most k

module _ (sheet : List ℕ) (len : ℕ) (notes : List ℕ) (n : ℕ) (scratch : List ℕ) (g : Showable sheet len notes n (length scratch)) where
  abbrev tree : Tree
  tree = g.sheeted.tree

  sheet-is : Sheet sheet len tree
  sheet-is = sheet-of sheet len tree g.sheeted.is

  pub show-part : len ≡ length (take len sheet)
  show-part = sym (length-take-le len sheet sheet-is.lent)

  pub show-cuttable : cut.Cuttable (take len sheet) notes n (length scratch)
  show-cuttable =
      record {
        sheet = record { tree = tree; is = sheet-is.is; held = g.sheeted.held };
        fits = omega (arith, length-take-le len sheet sheet-is.lent, sheet-is.size, g.fits);
      }

  module _ (scratch' : List ℕ) (m : ℕ) (w : cut.Cuts (take len sheet) notes n scratch scratch' m) where
    wrote : Wrote (canon (extract tree)) 0 scratch scratch' m
    wrote = w.wrote tree sheet-is.is g.sheeted.held

    shown-fits : length (canon (extract tree)) ≤ length scratch
    shown-fits = omega (arith, never-longer tree, sheet-is.size, g.fits)

    pub show-inside : m ≤ length scratch'
    show-inside = omega (arith, wrote.place, shown-fits, ap length wrote.same, length-sets scratch 0 (canon (extract tree)))

    pub show-text : m ≡ length (take m scratch')
    show-text = sym (length-take-le m scratch' show-inside)

    pub show-noteable : Noteable (length (take m scratch')) (length notes)
    show-noteable = fewer _ len _ (omega (arith, show-text, wrote.place, never-longer tree, sheet-is.size)) g.noteable

    text-is : take m scratch' ≡ canon (extract tree)
    text-is =
        let z : m ≡ length (canon (extract tree)) = omega (arith, wrote.place) in
        ap (take m) (wrote.same ∙ sets-all scratch (canon (extract tree)) shown-fits) ∙ take_at (canon (extract tree)) _ m (sym z)

    shown-answer : (canonical table : List ℕ) → reading 1 (take m scratch') canonical table ≡ extract_of (some tree) canonical table
    unfolding extract_of is_none the judged verdict
    shown-answer canonical table = ap (λ (x : List ℕ). reading 1 x canonical table) text-is

    pub show-read : (canonical canonical' : List ℕ) (k : ℕ) (notes' : List ℕ) (r : Reading) → Puts (reading 1 (take m scratch') canonical) canonical' k notes' r → ShowsExtract sheet len notes n canonical canonical' k notes' r
    show-read canonical canonical' k notes' r p =
        record {
          is = λ t e h.
              subst (λ (u : Tree). Puts (extract_of (some u) canonical) canonical' k notes' r) (some_same (λ (u : Tree). tree ≡ u) (sym g.sheeted.is ∙ e) refl)
              (puts-as _ _ canonical' k notes' (shown-answer canonical) r p);
        }

-- ---- where there is a sheet

module _ (sheet : List ℕ) (len : ℕ) (before : List ℕ) (n : ℕ) (own : Bool) (g : Judged sheet len before n own) where
  pub give-sheeted : own ≡ true → Sheeted sheet len before n
  give-sheeted y = tree_of g.found (sym y ∙ g.judges.tells) (λ t e. record { tree = t; is = g.judges.sheeted t e; held = g.judges.held t e })

module _ (sheet : List ℕ) (len : ℕ) (notes : List ℕ) (n room : ℕ) (s : Sheeted sheet len notes n) (g : Noteable len (length notes)) where
  pub showable : len ≤ room → Showable sheet len notes n room
  showable h = record { sheeted = s; fits = h; noteable = g }

  pub showable-long : max_canonical ≤ room → Showable sheet len notes n room
  showable-long h = let l : Sheet sheet len s.tree = sheet-of sheet len s.tree s.is in showable (omega (arith, l.size, l.fitting.long))

module _ (sheet : List ℕ) (len : ℕ) (before : List ℕ) (n : ℕ) (own : Bool) (canonical : List ℕ) (k : ℕ) where
  pub give-shown : own ≡ true → (canonical' notes : List ℕ) (r : Reading) → ShowsExtract sheet len before n canonical canonical' k notes r → Gives sheet len before n own canonical canonical' k notes r
  give-shown y canonical' notes r s =
      record {
        is = λ o j.
            tree_of o (sym y ∙ j.tells)
            (λ t e. subst (λ (x : Option Tree). Puts (extract_of x canonical) canonical' k notes r) (sym e) (s.is t (j.sheeted t e) (j.held t e)));
      }

  refused-7 : (table : List ℕ) → unchanged 7 canonical table ≡ extract_of none canonical table
  unfolding extract_of is_none the judged verdict
  refused-7 table = refl

  pub give-7 : own ≡ false → (notes : List ℕ) → Gives sheet len before n own canonical canonical k notes (Err NotOwn)
  give-7 y notes =
      record {
        is = λ o j.
            let e : o ≡ none = none_of o (sym y ∙ j.tells) in
            subst (λ (x : Option Tree). Puts (extract_of x canonical) canonical k notes (Err NotOwn)) (sym e)
            (puts-refused (extract_of none canonical) canonical notes k 7 (omega arith) 0 (Err NotOwn) (refuses NotOwn) (λ table z. (refuses NotOwn).is canonical table ∙ refused-7 table));
      }

-- ---- the entries

module _ (sheet : List ℕ) (len : ℕ) (before : List ℕ) (found : Optional ℕ) (j : Sheets sheet len before found) (canonical : List ℕ) (k : ℕ) where
  pub notes-given : (n : ℕ) → found ≡ Some n → (canonical' notes : List ℕ) (r : Reading)
      → Gives sheet len before n true canonical canonical' k notes r → Puts (extracting sheet len canonical) canonical' k notes r
  unfolding extracting Sheets
  notes-given n e canonical' notes r g = puts-as _ _ canonical' k notes (λ table. refl) r (g.is (sheet_tree sheet len) (subst (Sheets sheet len before) e j))

  pub notes-none : found ≡ None → Puts (extracting sheet len canonical) canonical k before (Err NotOwn)
  unfolding extracting Sheets
  notes-none e =
      puts-as _ _ canonical k before (λ table. refl) (Err NotOwn) ((give-7 sheet len before 0 false canonical k refl before).is (sheet_tree sheet len) (subst (Sheets sheet len before) e j))

module _ (sheet : List ℕ) (len : ℕ) (rows : List ℕ) (m : ℕ) (before : List ℕ) (own : Bool) (o : Owned sheet len rows m before own) (canonical canonical' notes : List ℕ) (k : ℕ) (r : Reading)
    (g : Gives sheet len before m own canonical canonical' k notes r) where
  pub own-puts : Puts (extracting_own sheet len rows m canonical) canonical' k notes r
  unfolding extracting_own
  own-puts = puts-as _ _ canonical' k notes (λ table. refl) r (g.is (own_tree sheet len rows m) (owned-judges sheet len rows m before own o))
