-- The plan: what is found, resized and judged.
use Prim.Native.Nat.{ℕ}
use native.Mathlib.Omega.{arith}
use mathlib.Core.Path.{◌≡◌, refl, sym, ap, ap₂, ◌∙◌, subst}
use mathlib.Core.Bool.{Bool, true, false, not}
use mathlib.Core.Option.{Option, some}
use mathlib.Core.List.{List}
use lib.ListN.{length}
use lib.Dec.{ltb}
use borrow.Author.Tests.{le-ltb, ltb-false}
use Rattle.base.specs.Choice.{is_none}
use Rattle.base.proofs.Cases.{some_same}
use Rattle.model.specs.Limits.{max_depth}
use Rattle.model.specs.Table.{records}
use Rattle.model.specs.Answers.{own_tree, unchanged_at}
use Rattle.model.specs.Tree.{Tree, canon, nodes, depth}
use Rattle.model.proofs.Laws.{small-nodes}
use Rattle.rooms.specs.Rooms.{room_verdict}
use Rattle.rooms.proofs.Rooms.{Lodged, roomy}
use Rattle.tables.specs.Told.{Holds}
use Rattle.lookup.specs.Noted.{Sheet}
use Rattle.lookup.proofs.Sheets.{tree_of, sheet-of, Own, own_of}
use Rattle.lookup.proofs.Sheets as good
use Rattle.plan.specs.Asked.{changed, given, placeless}
use Rattle.plan.specs.Spots.{Found, Findable, Finding, Refusing, Finds}
use Rattle.plan.specs.Planned.{Known, Lends, Sized, Small, AtSpot, Resizable, resized, Plans}
use Rattle.plan.proofs.Finding.{spot-refused, spot-accepted}
use Rattle.plan.proofs.Resizing.{resizable, long-is, nodes-are, deep-where}
use Rattle.plan.specs.declared.Asked.{Asked}
use Rattle.walk.specs.declared.Extent.{Extent}
use Rattle.plan.specs.declared.Spot.{Spot}
use Rattle.std.specs.Prelude.{Ok, Err, ⊤}
use Rattle.answers.specs.declared.refusal.Refusal.{Refusal}
use Rattle.answers.specs.Cases.{Judging, Judges}
use Rattle.answers.proofs.Judged.{judged-row}

-- only whether a tree is too deep plays a part
same-verdict : (o k d d' : ℕ) {n n' l l' : ℕ} → ltb max_depth d ≡ ltb max_depth d' → n ≡ n' → l ≡ l' → room_verdict d n l o k ≡ room_verdict d' n' l' o k
unfolding room_verdict
same-verdict o k d d' p q r = rw (p, q, r)

module _ (c : List ℕ) (len : ℕ) (notes : List ℕ) (own : Bool) (room count : ℕ) (a : Asked) (known : Known c len count room notes own) where
  pub plan-findable : Findable notes count own
  plan-findable =
      record {
        kept = λ y.
            let s : Sheet c len count room notes = known.sheet y in
            record { tree = s.tree; held = s.held; few = omega (arith, s.held.counted, (sheet-of c len s.tree s.is).fitting.many) };
      }

  -- the sheet has one tree, and its notes are lent
  held_by : (table : List ℕ) → Lends c len count room own table → (t : Tree) → own_tree c len table count ≡ some t → Holds notes count t
  unfolding is_none
  held_by table l t i =
      let y : own ≡ true = l.tells ∙ ap (λ (o : Option Tree). not (is_none o)) i in
      let s : Sheet c len count room notes = known.sheet y in
      let o : Own c len table count t = own_of c len table count t i in
      subst (Holds notes count) (some_same (λ (v : Tree). s.tree ≡ v) (sym (sheet-of c len s.tree s.is).decoded ∙ o.sheet.decoded) refl) s.held

  module _ (text : Extent) (small : Small text) (r : Found) (w : Finds notes count own a r) where
    pub plan-unfound : (f : Refusal) → r ≡ Err f → Plans c len count room own a text (Err f)
    unfolding Finds Plans
    plan-unfound f e =
        let g : Refusing notes count own a f = subst (Finds notes count own a) e w in
        record { answer = λ table l u s. g.is c len table l.tells (λ t i. held_by table l t i) u }

    module _ (spot : Spot) (e : r ≡ Ok spot) where
      finding : Finding notes count own a spot.first spot.count spot.start spot.end spot.level
      unfolding Finds
      finding = subst (Finds notes count own a) e w

      sheet : Sheet c len count room notes
      sheet = known.sheet finding.good

      abbrev t : Tree
      t = sheet.tree

      good-sheet : good.Sheet c len t
      good-sheet = sheet-of c len t sheet.is

      has-place : placeless a t ≡ false
      has-place = finding.has t sheet.held

      at : AtSpot len count spot.first spot.count spot.start spot.end spot.level a t
      at =
          record {
            long = sym good-sheet.size;
            short = omega (arith, good-sheet.size, good-sheet.fitting.long);
            shallow = good-sheet.fitting.deep;
            counted = sheet.held.counted;
            few = omega (arith, sheet.held.counted, good-sheet.fitting.many);
            spot = finding.spot t sheet.held;
          }

      pub plan-resizable : Resizable len count spot.start spot.end spot.count spot.level text
      plan-resizable = resizable len count spot.first spot.count spot.start spot.end spot.level a t at text small

      -- the sheet has one tree
      owned-tree : (table : List ℕ) → Lends c len count room own table → own_tree c len table count ≡ some t
      owned-tree table l =
          tree_of (own_tree c len table count) (sym finding.good ∙ l.tells)
          (λ u i.
          let o : Own c len table count u = own_of c len table count u i in
          i ∙ ap some (sym (some_same (λ (v : Tree). t ≡ v) (sym good-sheet.decoded ∙ o.sheet.decoded) refl)))

      module _ (to : Extent) (z : to ≡ resized len count spot.start spot.end spot.count spot.level text) (judged : Judging) (j : Judges (room_verdict to.depth to.nodes to.len (length c) room) judged) where
        deep : (u : Tree) → Sized (given a u) text → ltb max_depth to.depth ≡ ltb max_depth (depth (changed a t u))
        deep u s = ap (λ (x : Extent). ltb max_depth x.depth) z ∙ deep-where len count spot.first spot.count spot.start spot.end spot.level a t at u text s

        counted : (u : Tree) → Sized (given a u) text → to.nodes ≡ nodes (changed a t u)
        counted u s = ap (λ (x : Extent). x.nodes) z ∙ nodes-are len count spot.first spot.count spot.start spot.end spot.level a t at u text s

        long : (u : Tree) → Sized (given a u) text → to.len ≡ length (canon (changed a t u))
        long u s = ap (λ (x : Extent). x.len) z ∙ long-is len count spot.first spot.count spot.start spot.end spot.level a t at u text s

        verdict-of : (table : List ℕ) → Lends c len count room own table → (u : Tree) → Sized (given a u) text
            → room_verdict to.depth to.nodes to.len (length c) room ≡ room_verdict (depth (changed a t u)) (nodes (changed a t u)) (length (canon (changed a t u))) (length c) (records table)
        verdict-of table l u s =
            same-verdict (length c) room to.depth (depth (changed a t u)) (deep u s) (counted u s) (long u s)
            ∙ ap (room_verdict (depth (changed a t u)) (nodes (changed a t u)) (length (canon (changed a t u))) (length c)) (sym l.recorded)

        pub plan-misfit : (f : Refusal) → judged ≡ Err f → Plans c len count room own a text (Err f)
        unfolding Plans
        plan-misfit f i =
            record {
              answer = λ table l u s.
                  spot-refused a c len table count t (owned-tree table l) u finding.inside has-place _ (verdict-of table l u s) (judged-row _ judged j f i)
                  ∙ ap₂ (λ (n p : ℕ). unchanged_at n p c table) (sym (j.refuses f i).0) (sym (j.refuses f i).1);
            }

        pub plan-fits : (u : ⊤) → judged ≡ Ok u → Plans c len count room own a text (Ok (record { first = spot.first; start = spot.start; end = spot.end; length = to.len; nodes = to.nodes }))
        unfolding Plans
        plan-fits passed i =
            let none : room_verdict to.depth to.nodes to.len (length c) room ≡ 0 = j.passes passed i in
            let g : Lodged to.depth to.nodes to.len (length c) room = roomy to.depth to.nodes to.len (length c) room none in
            record {
              good = finding.good;
              number = spot.count;
              level = spot.level;
              tree = t;
              is = sheet.is;
              at = at;
              recorded = sheet.lent;
              grows = omega (arith, ap (λ (x : Extent). x.nodes) z);
              takes = λ u s.
                  record {
                    long = long u s;
                    counted = counted u s;
                    shallow = ltb-false max_depth _ (sym (deep u s) ∙ le-ltb max_depth to.depth g.shallow);
                    recorded = g.recorded;
                    few = omega (arith, counted u s, small-nodes (changed a t u) (omega (arith, long u s, g.small)));
                    short = g.small;
                    lent = g.lent;
                  };
              answer = λ table l u s. spot-accepted a c len table count t (owned-tree table l) u finding.inside has-place (sym (verdict-of table l u s) ∙ none);
            }
