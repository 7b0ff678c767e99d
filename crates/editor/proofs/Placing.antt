-- A text taken, the change judged, the octets put in place and the rest rewritten, whatever the form and whatever is asked.
use Prim.Native.Nat.{ℕ, ◌+◌, ◌*◌, ◌-◌, ◌≤◌, ◌<◌}
use native.Mathlib.Omega.{arith}
use mathlib.Core.Path.{◌≡◌, refl, sym, ap, ap₂, ◌∙◌, subst}
use mathlib.Core.Bool.{Bool, true, false}
use mathlib.Core.Option.{Option, none, some}
use mathlib.Core.List.{List, [], ◌++◌}
use lib.ListN.{length, take, drop, replicate, length-take}
use lib.Seq.{sets, length-sets}
use Rattle.base.specs.Choice.{is_none}
use Rattle.base.proofs.Cases.{differ, untrue, some_same}
use Rattle.model.specs.Answers.{Outcome, unchanged_at, unchanged, place_of, telling, filled}
use Rattle.model.specs.Decode.{decode}
use Rattle.model.specs.Edit.{one, replace, insert}
use Rattle.model.specs.Limits.{no_refusal, max_canonical}
use Rattle.model.specs.Tree.{Tree, list, nil, canon, canons, nodess, depths}
use Rattle.model.proofs.Laws.{canonical-unique, nodes-within-half}
use Rattle.model.proofs.Judging.{judged-refused, verdict-here}
use Rattle.model.proofs.Telling.{other_row, other-past, rooms-other, telling-judged}
use Rattle.model.proofs.OutputSizes.{nodes-half}
use Rattle.walk.specs.Extent.{Wholly, Measures}
use Rattle.scan.specs.Writes.{Wrote}
use Rattle.texts.specs.Texts.{Takeable, Taken}
use Rattle.texts.proofs.Sizes.{tripled}
use Rattle.answers.specs.Cases.{outcome, RefusesAt, Refuses}
use Rattle.edits.specs.Moves.{Moves}
use Rattle.edits.proofs.Moved.{new-length}
use Rattle.edits.proofs.Whole.{canons-one, nodess-one, depths-one}
use Rattle.lookup.proofs.Sheets.{sheet-of}
use Rattle.lookup.proofs.Sheets as good
use Rattle.tables.specs.Told.{Holds}
use Rattle.lookup.specs.Noted.{Sheet}
use Rattle.plan.specs.Asked.{changed, given, texted, new_tree, change_checks, change_tree}
use Rattle.plan.specs.Planned.{Known, AtSpot, Taking, Fitting, Misfitting, Plans}
use Rattle.editor.specs.Given.{Noteable, Gives, GivesTree, GivesMeant}
use Rattle.editor.specs.Placed.{Standing, Placeable, Placed}
use Rattle.plan.proofs.Resizing.{depth-few, moves, ordered}
use Rattle.splice.specs.Rewritten.{Movable, Ending, Ended}
use Rattle.splice.specs.Renoted.{Renotable, Renoted}
use Rattle.splice.proofs.Spliced.{spliced, zeroed}
use Rattle.answers.specs.Cases.{Reading, accepted}
use Rattle.answers.specs.declared.refusal.Refusal.{Refusal}
use Rattle.answers.specs.declared.refusal.Refusal.TheVariants.{Syntax}
use Rattle.answers.specs.declared.Sizes.{Sizes}
use Rattle.answers.specs.Refusals.{number_of, place_in}
use Rattle.answers.proofs.Judged.{refuses}
use Rattle.std.specs.Prelude.{Result, Ok, Err}
use Rattle.walk.specs.Extent.{Measured}
use Rattle.walk.specs.declared.Extent.{Extent}
use Rattle.walk.specs.declared.Broken.{Broken}
use Rattle.plan.specs.declared.Asked.{Asked}
use Rattle.plan.specs.declared.Asked.TheVariants.{Replace, Insert, Remove}
use Rattle.plan.specs.declared.Plan.{Plan}

same_outcome : {a a' b b' : ℕ} {c c' d d' : List ℕ} → a ≡ a' → b ≡ b' → c ≡ c' → d ≡ d'
    → ◌≡◌ {A = Outcome} (record { accepted = true; number = no_refusal; place = 0; octets = a; count = b; canonical = c; table = d }) (record { accepted = true; number = no_refusal; place = 0; octets = a'; count = b'; canonical = c'; table = d' })
same_outcome p q r s = λ i. record { accepted = true; number = no_refusal; place = 0; octets = p i; count = q i; canonical = r i; table = s i }

-- what stands at the front of scratch decides the new tree
changed-by : (a : Asked) (t u v : Tree) → canons (given a u) ≡ canons (given a v) → changed a t u ≡ changed a t v
unfolding changed given
changed-by (Replace node) t u v e = ap (replace t node) (canonical-unique u v (sym (canons-one u) ∙ e ∙ canons-one v))
changed-by (Insert node k) t u v e = ap (insert t node k) (canonical-unique u v (sym (canons-one u) ∙ e ∙ canons-one v))
changed-by (Remove node) t u v e = refl

pub tree-none : (a : Asked) (o : Option Tree) (canonical : List ℕ) (len : ℕ) (table : List ℕ) (count : ℕ) → o ≡ none
    → change_tree a o canonical len table count ≡ unchanged 3 canonical table
unfolding change_tree change_checks is_none
tree-none a o canonical len table count e = judged-refused _ _ _ 3 (verdict-here 3 (is_none o) _ (ap is_none e)) (omega arith)

-- what refuses is no acceptance
pub gives-refused : (Lent : List ℕ → Type 0) (answer : List ℕ → Outcome) (c : List ℕ) (n : ℕ) (notes : List ℕ) (old k p : ℕ) (r : Reading) → RefusesAt k p r
    → ((table : List ℕ) → Lent table → outcome r c table ≡ answer table) → Gives Lent answer c n notes old r
unfolding Gives outcome
gives-refused Lent answer c n notes old k p (Ok s) f g = differ refl (ap (λ (x : Outcome). x.accepted) (f.is [] []))
gives-refused Lent answer c n notes old k p (Err x) f g = g

-- another answer that is the same for every table
pub gives_same : (Lent : List ℕ → Type 0) (answer answer' : List ℕ → Outcome) (c : List ℕ) (n : ℕ) (notes : List ℕ) (old : ℕ) (r : Reading)
    → ((table : List ℕ) → answer table ≡ answer' table) → Gives Lent answer c n notes old r → Gives Lent answer' c n notes old r
unfolding Gives
gives_same Lent answer answer' c n notes old (Ok s) e p =
    record { tree = p.tree; held = p.held; recorded = p.recorded; few = p.few; is = λ table z. p.is table z ∙ e table }
gives_same Lent answer answer' c n notes old (Err f) e p = λ table z. p table z ∙ e table

-- no place is told of a tree
told-some : (p : ℕ) (a : Asked) (canonical : List ℕ) (len : ℕ) (table : List ℕ) (count : ℕ) (t : Tree)
    → telling p (change_tree a (some t) canonical len table count) ≡ change_tree a (some t) canonical len table count
unfolding change_tree change_checks is_none filled
told-some p a canonical len table count t =
    telling-judged p (change_checks a (some t) canonical len table count) (filled (new_tree a (some t) canonical len table count) len count canonical table) canonical table
    (other-past refl (other_row refl (other_row refl (other_row refl (rooms-other (new_tree a (some t) canonical len table count) canonical table))))) refl

given-some : (a : Asked) (u : Tree) → 0 < nodess (given a u) → given a u ≡ one u
unfolding given nodess
given-some (Replace node) u h = refl
given-some (Insert node k) u h = refl
given-some (Remove node) u h = absurd (omega arith)

-- ---- what a change puts in, known by its sizes, of which the canonical form stands at the front of scratch
module _ (canonical : List ℕ) (len count room : ℕ) (own : Bool) (a : Asked) (notes : List ℕ) (scratch : List ℕ) (sizes : Extent) (g : Placeable a scratch sizes) (p : Result Plan Refusal) (w : Plans canonical len count room own a sizes p) where
  abbrev n : ℕ
  n = sizes.len

  abbrev u : Tree
  u = g.tree

  pub place-misfit : (f : Refusal) → p ≡ Err f → Placed a scratch sizes canonical canonical len count room own notes (Err f)
  unfolding Plans
  place-misfit f z =
      let m : Misfitting canonical len count room own a sizes f = subst (Plans canonical len count room own a sizes) z w in
      record {
        is = λ v s.
            gives-refused _ _ canonical room notes count (number_of f) (place_in f) (Err f) (refuses f)
            (λ table l. (refuses f).is canonical table ∙ sym (m.answer table l v s.sized));
      }

  module _ (to : Plan) (z : p ≡ Ok to) where
    fitting : Fitting canonical len count room own a sizes to.first to.start to.end to.length to.nodes
    unfolding Plans
    fitting = subst (Plans canonical len count room own a sizes) z w

    abbrev t : Tree
    t = fitting.tree

    abbrev new : Tree
    new = changed a t u

    sheet : good.Sheet canonical len t
    sheet = sheet-of canonical len t fitting.is

    at-spot : AtSpot len count to.first fitting.number to.start to.end fitting.level a t
    at-spot = fitting.at

    takes : Taking new canonical room to.length to.nodes
    takes = fitting.takes u g.is.sized

    in_order : (to.start ≤ to.end) × (to.end ≤ len) × (fitting.number ≤ count)
    in_order = ordered len count to.first fitting.number to.start to.end fitting.level a t at-spot

    moved : Moves t new to.first fitting.number to.start (to.end - to.start) (given a u)
    moved = moves len count to.first fitting.number to.start to.end fitting.level a t at-spot u

    -- the octets before the spot, what comes, and the octets after it
    new-octets : take to.start (take len canonical) ++ (canons (given a u) ++ drop to.end (take len canonical)) ≡ canon new
    new-octets =
        let x : to.start + (to.end - to.start) ≡ to.end = omega (arith, in_order.0) in
        rw sheet.is (rw x at (sym moved.octets))

    new-long : length (canon new) ≡ to.start + n + (len - to.end)
    new-long = omega (arith, new-length moved, sheet.size, g.is.sized.long, in_order.0, in_order.1)

    pub place-gap : Movable (length canonical) to.start to.end len n
    place-gap =
        record { ordered = in_order.0; ended = in_order.1; lent = sheet.lent; fits = omega (arith, new-long, takes.long, takes.lent) }

    short : n ≤ max_canonical
    short = omega (arith, new-long, takes.long, takes.short)

    stands : take n scratch ≡ canons (given a u)
    stands = g.is.octets short

    pub place-source : 0 + n ≤ length scratch
    place-source = omega (arith, length-take n scratch, ap length stands, g.is.sized.long)

    pub place-octets : n ≡ length (take n scratch)
    place-octets = omega (arith, ap length stands, g.is.sized.long)

    -- the notes are the old tree's, and are to be the new one's
    pub place-renotable : Known canonical len count room notes own → Noteable count sizes.nodes (length notes)
        → Renotable (take n scratch) notes to.first to.start to.end sizes.nodes (record { old = len; len = to.length; held = count; count = to.nodes })
    place-renotable known e =
        let s : Sheet canonical len count room notes = known.sheet fitting.good in
        let q : s.tree ≡ t = some_same (λ (v : Tree). s.tree ≡ v) (sym s.is ∙ fitting.is) refl in
        record {
          old = t;
          new = new;
          given = fitting.number;
          level = fitting.level;
          comes = given a u;
          text = u;
          change = at-spot.spot.change u;
          single = λ h. given-some a u (omega (arith, g.is.sized.counted));
          ordered = in_order.0;
          is = stands;
          counted = g.is.sized.counted;
          held = subst (Holds notes count) q s.held;
          old_long = at-spot.long;
          new_long = takes.long;
          new_counted = takes.counted;
          deep = takes.shallow;
          fit = record { short = (at-spot.short, takes.short); few = (at-spot.few, takes.few) };
          room = omega (arith, e.enough, fitting.grows, takes.few);
        }

    module _ (canonical₁ : List ℕ) (g₁ : canonical₁ ≡ sets canonical (to.start + n) (take (len - to.end) (drop to.end canonical))) where
      pub place-room : to.start + n ≤ length canonical₁
      place-room = omega (arith, ap length g₁, length-sets canonical (to.start + n) (take (len - to.end) (drop to.end canonical)), place-gap.fits)

      module _ (canonical₂ : List ℕ) (q : ℕ) (f₂ : Wrote (take n (drop 0 scratch)) to.start canonical₁ canonical₂ q) where
        g₂ : Wrote (canons (given a u)) to.start canonical₁ canonical₂ q
        g₂ = subst (λ (y : List ℕ). Wrote y to.start canonical₁ canonical₂ q) stands f₂

        written : canonical₂ ≡ sets canonical 0 (canon new)
        written =
            let y : to.start + n ≡ to.start + length (canons (given a u)) = omega (arith, g.is.sized.long) in
            g₂.same ∙ ap (λ (c : List ℕ). sets c to.start (canons (given a u))) (g₁ ∙ ap (λ (i : ℕ). sets canonical i (take (len - to.end) (drop to.end canonical))) y)
            ∙ spliced canonical (canons (given a u)) to.start to.end len in_order.0 in_order.1 sheet.lent (omega (arith, g.is.sized.long, place-gap.fits))
            ∙ ap (sets canonical 0) new-octets

        kept-long : length canonical₂ ≡ length canonical
        kept-long = ap length written ∙ length-sets canonical 0 (canon new)

        new-fits : length (canon new) ≤ length canonical
        new-fits = omega (arith, takes.long, takes.lent)

        pub place_end : Ending (length canonical₂) len to.length
        place_end = record { lent = omega (arith, kept-long, takes.lent); old_lent = omega (arith, kept-long, sheet.lent) }

        pub place-accepted : Known canonical len count room notes own → Noteable count sizes.nodes (length notes) → (notes' : List ℕ)
            → Renoted (take n scratch) notes to.first to.start to.end sizes.nodes (record { old = len; len = to.length; held = count; count = to.nodes }) notes'
            → (canonical₃ : List ℕ) (r : Sizes) → Ended canonical₂ len to.length to.nodes canonical₃ r
            → Placed a scratch sizes canonical canonical₃ len count room own notes' (Ok r)
        unfolding Gives outcome filled place-renotable
        place-accepted known e notes' h canonical₃ r f =
            record {
              is = λ v s. subst (λ (x : Sizes). GivesTree a (some v) canonical len count room own canonical₃ notes' (Ok x)) (sym f.tells) (giving v s);
            }
          where
            giving : (v : Tree) → Standing scratch sizes (given a v) → GivesTree a (some v) canonical len count room own canonical₃ notes' (accepted to.length to.nodes)
            giving v s =
                let same : new ≡ changed a t v = changed-by a t u v (sym stands ∙ s.octets short) in
                record {
                  tree = new;
                  held = h.held (place-renotable known e);
                  recorded = (takes.recorded, fitting.recorded);
                  few = (takes.few, at-spot.few);
                  is = λ table l.
                      same_outcome takes.long takes.counted
                      (f.octets
                      ∙ ap₂ (λ (c : List ℕ) (i : ℕ). sets c i (replicate (len - i) 0)) written takes.long
                      ∙ zeroed canonical (canon new) len sheet.lent new-fits)
                      refl
                      ∙ ap (λ (y : Tree). filled y len count canonical table) same
                      ∙ sym (fitting.answer table l v s.sized);
                }

given-one : (a : Asked) (u : Tree) → texted a ≡ true → given a u ≡ one u
unfolding texted given
given-one (Replace node) u f = refl
given-one (Insert node k) u f = refl
given-one (Remove node) u f = untrue f

given-none : (a : Asked) (u : Tree) → texted a ≡ false → given a u ≡ nil
unfolding texted given
given-none (Replace node) u f = untrue (sym f)
given-none (Insert node k) u f = untrue (sym f)
given-none (Remove node) u f = refl

-- ---- whether a text comes
module _ (a : Asked) (b : Bool) (e : b ≡ texted a) where
  pub comes-text : b ≡ true → texted a ≡ true
  comes-text y = sym e ∙ y

  pub comes-none : b ≡ false → texted a ≡ false
  comes-none y = sym e ∙ y

-- ---- nothing comes
module _ (a : Asked) (f : texted a ≡ false) (scratch : List ℕ) where
  abbrev nothing : Extent
  nothing = record { len = 0; nodes = 0; depth = 0 }

  leaves : Standing scratch nothing (given a (list nil))
  unfolding canons nodess depths
  leaves = rw (given-none a (list nil) f) (record { sized = record { long = refl; counted = refl; deepest = refl }; octets = λ h. refl })

  pub strike-placeable : Placeable a scratch nothing
  strike-placeable = record { tree = list nil; is = leaves; small = record { len = omega arith; nodes = omega arith; depth = omega arith } }

  pub strike-noteable : (count more room : ℕ) → Noteable count more room → Noteable count 0 room
  strike-noteable count more room h = record { enough = omega (arith, h.enough) }

  pub strike-placed : (canonical canonical' : List ℕ) (len count room : ℕ) (own : Bool) (notes' : List ℕ) (r : Reading)
      → Placed a scratch nothing canonical canonical' len count room own notes' r → GivesTree a (some (list nil)) canonical len count room own canonical' notes' r
  strike-placed canonical canonical' len count room own notes' r q = q.is (list nil) leaves

-- ---- a text taken, which means a tree or none
module _ (form : ℕ) (text : List ℕ) (space : ℕ) (k : Takeable form (length text) space) (canonical : List ℕ) (len count room : ℕ) (own : Bool) (a : Asked)
    (scratch first first' : List ℕ) (x : Measured) (m : Taken (decode form text) (place_of form text) scratch first first' x) where
  pub change-none : (q : Broken) → x ≡ Err q → (notes : List ℕ) → GivesMeant a form text canonical len count room own canonical notes (Err (Syntax q.place))
  unfolding Measures telling
  change-none q e notes =
      gives-refused _ _ canonical room notes count 3 q.place (Err (Syntax q.place)) (refuses (Syntax q.place))
      (λ table l.
      (refuses (Syntax q.place)).is canonical table ∙ ap (λ (p : ℕ). unchanged_at 3 p canonical table) (m.fails q.place e)
      ∙ sym (ap (telling (place_of form text)) (tree-none a (decode form text) canonical len table count (subst (Measures (decode form text)) e m.measures))))

  module _ (told : Extent) (e : x ≡ Ok told) (f : texted a ≡ true) where
    whole : Wholly (decode form text) told.len told.nodes told.depth
    unfolding Measures
    whole = subst (Measures (decode form text)) e m.measures

    few : length (canon whole.tree) ≤ 98304
    few = omega (arith, tripled form text whole.tree whole.is, k.lent.short)

    abbrev w : Tree
    w = whole.tree

    comes : given a w ≡ one w
    comes = given-one a w f

    standing : Standing scratch told (given a w)
    standing =
        rw comes
        (record {
          sized = record { long = whole.long ∙ ap length (sym (canons-one w)); counted = whole.counted ∙ sym (nodess-one w); deepest = whole.deepest ∙ sym (depths-one w) };
          octets = λ h. ap (λ (i : ℕ). take i scratch) whole.long ∙ m.octets w whole.is (omega (arith, whole.long)) ∙ sym (canons-one w);
        })

    pub change-placeable : Placeable a scratch told
    change-placeable =
        record {
          tree = whole.tree;
          is = standing;
          small = record {
            len = omega (arith, few, whole.long);
            nodes = omega (arith, few, whole.counted, nodes-half whole.tree);
            depth = omega (arith, few, whole.deepest, depth-few whole.tree, nodes-half whole.tree);
          };
        }

    pub change-noteable : (space : ℕ) → Noteable count (2 * length text) space → Noteable count told.nodes space
    change-noteable space h =
        record { enough = omega (arith, h.enough, whole.counted, nodes-within-half whole.tree, tripled form text whole.tree whole.is) }

    pub change-placed : (canonical' notes' : List ℕ) (r : Reading) → Placed a scratch told canonical canonical' len count room own notes' r
        → GivesMeant a form text canonical len count room own canonical' notes' r
    change-placed canonical' notes' r q = gives_same _ _ _ canonical' room notes' count r (λ table. same table) (q.is w standing)
      where
        same : (table : List ℕ) → change_tree a (some w) canonical len table count ≡ telling (place_of form text) (change_tree a (decode form text) canonical len table count)
        same table =
            sym (ap (λ (o : Option Tree). telling (place_of form text) (change_tree a o canonical len table count)) whole.is
            ∙ told-some (place_of form text) a canonical len table count w)
