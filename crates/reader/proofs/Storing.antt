-- A text taken and judged, its octets put and its table filled: what is left is what the tree that it means gives.
use Prim.Native.Nat.{ℕ, ◌+◌, ◌/◌, ◌≤◌, ◌<◌}
use native.Mathlib.Omega.{arith}
use mathlib.Core.Path.{◌≡◌, refl, sym, ap, ◌∙◌, subst}
use mathlib.Core.Bool.{true}
use mathlib.Core.Option.{Option}
use mathlib.Core.List.{List, []}
use lib.ListN.{length, take, drop, length-take}
use lib.Seq.{sets}
use Rattle.model.specs.Answers.{Outcome, unchanged_at, place_of, filled}
use Rattle.model.specs.Decode.{decode}
use Rattle.model.specs.Limits.{no_refusal}
use Rattle.model.specs.Table.{width, records, table_of}
use Rattle.model.specs.Tree.{Tree, canon, nodes, depth}
use Rattle.model.proofs.Laws.{nodes-within-half, small-nodes}
use Rattle.walk.specs.Extent.{Wholly, Measures}
use Rattle.walk.specs.Extent.{Measured}
use Rattle.walk.proofs.Tabled.{table-length}
use Rattle.scan.specs.Writes.{Wrote}
use Rattle.tables.specs.Told.{Holds, Fillable, Filled}
use Rattle.texts.specs.Texts.{Taken}
use Rattle.texts.proofs.Sizes.{tripled}
use Rattle.answers.specs.Cases.{Reading, Judging, Judges, accepted, outcome, RefusesAt, Refuses}
use Rattle.answers.specs.declared.Refusal.{Refusal}
use Rattle.answers.specs.declared.refusal.Refusal.TheVariants.{Syntax}
use Rattle.answers.specs.declared.Sizes.{Sizes}
use Rattle.answers.proofs.Judged.{judged-refuses, judged-row}
use Rattle.std.specs.Prelude.{Ok, Err, ⊤}
use Rattle.walk.specs.declared.Extent.{Extent}
use Rattle.walk.specs.declared.Broken.{Broken}
use Rattle.rooms.specs.Rooms.{room_verdict}
use Rattle.reader.specs.Stored.{read_tree, Noteable, halved, most, Accepting, Puts}
use Rattle.rooms.proofs.Rooms.{Lodged, roomy}
use Rattle.reader.proofs.Judged.{tree-none, tree-refused, tree-accepted, settled-front}

same-verdict : (o k : ℕ) {d d' n n' l l' : ℕ} → d ≡ d' → n ≡ n' → l ≡ l' → room_verdict d n l o k ≡ room_verdict d' n' l' o k
same-verdict o k p q r = λ i. room_verdict (p i) (q i) (r i) o k

same_outcome : {a a' b b' : ℕ} {c c' d d' : List ℕ} → a ≡ a' → b ≡ b' → c ≡ c' → d ≡ d'
    → ◌≡◌ {A = Outcome} (record { accepted = true; number = no_refusal; place = 0; octets = a; count = b; canonical = c; table = d }) (record { accepted = true; number = no_refusal; place = 0; octets = a'; count = b'; canonical = c'; table = d' })
same_outcome p q r s = λ i. record { accepted = true; number = no_refusal; place = 0; octets = p i; count = q i; canonical = r i; table = s i }

-- ---- all but the table

module _ (answer : List ℕ → Outcome) (canonical notes : List ℕ) (n k : ℕ) (h : 0 < k) where
  pub puts-refused : (p : ℕ) (r : Reading) → RefusesAt k p r → ((table : List ℕ) → records table ≡ n → outcome r canonical table ≡ answer table) → Puts answer canonical n notes r
  unfolding Puts outcome
  puts-refused p (Ok s) f g = let z : 0 ≡ k = ap (λ (x : Outcome). x.number) (f.is [] []) in absurd (omega arith)
  puts-refused p (Err x) f g = g

module _ (form : ℕ) (source canonical scratch : List ℕ) (n : ℕ) (notes notes' : List ℕ) (x : Measured) (m : Taken (decode form source) (place_of form source) scratch notes notes' x) where
  abbrev meant : Option Tree
  meant = decode form source

  abbrev answer : List ℕ → Outcome
  answer = read_tree (decode form source) (place_of form source) canonical

  pub put-none : (q : Broken) → x ≡ Err q → Puts (read_tree (decode form source) (place_of form source) canonical) canonical n notes' (Err (Syntax q.place))
  unfolding Measures outcome
  put-none q e =
      puts-refused answer canonical notes' n 3 (omega arith) q.place (Err (Syntax q.place)) (record { is = λ c t. refl })
      (λ table z.
      ap (λ (p : ℕ). unchanged_at 3 p canonical table) (m.fails q.place e)
      ∙ sym (tree-none meant (place_of form source) canonical table (subst (Measures meant) e m.measures)))

  module _ (s : Extent) (e : x ≡ Ok s) where
    whole : Wholly meant s.len s.nodes s.depth
    unfolding Measures
    whole = subst (Measures meant) e m.measures

    abbrev tree : Tree
    tree = whole.tree

    sized : (k : ℕ) → room_verdict (depth tree) (nodes tree) (length (canon tree)) (length canonical) k ≡ room_verdict s.depth s.nodes s.len (length canonical) k
    sized k = same-verdict (length canonical) k (sym whole.deepest) (sym whole.counted) (sym whole.long)

    module _ (r : Judging) (j : Judges (room_verdict s.depth s.nodes s.len (length canonical) n) r) where
      pub put_refused : (f : Refusal) → r ≡ Err f → Puts (read_tree (decode form source) (place_of form source) canonical) canonical n notes' (Err f)
      put_refused f i =
          let k = judged-row _ r j f i in
          let g : Refuses (room_verdict s.depth s.nodes s.len (length canonical) n) (Err f) = judged-refuses _ r j f i in
          puts-refused answer canonical notes' n _ k 0 (Err f) g
          (λ table z. g.is canonical table ∙ sym (tree-refused meant (place_of form source) canonical table tree whole.is _ (sym (rw z (sized n))) k))

      module _ (u : ⊤) (i : r ≡ Ok u) where
        good : room_verdict s.depth s.nodes s.len (length canonical) n ≡ 0
        good = j.passes u i

        lodged : Lodged s.depth s.nodes s.len (length canonical) n
        lodged = roomy s.depth s.nodes s.len (length canonical) n good

        front-is : take s.len scratch ≡ canon tree
        front-is = ap (λ (i : ℕ). take i scratch) whole.long ∙ m.octets tree whole.is (omega (arith, whole.long, lodged.small))

        pub put-source : 0 + s.len ≤ length scratch
        put-source = omega (arith, length-take s.len scratch, ap length front-is, whole.long)

        pub put-room : 0 + s.len ≤ length canonical
        put-room = omega (arith, lodged.lent)

        -- the notes have room for the tree, whichever size they have
        module _ (room-left : Noteable (length source) (length notes)) where
          room : nodes tree ≤ length notes
          room = by room-left
            where
              by : Noteable (length source) (length notes) → nodes tree ≤ length notes
              by (halved z) = omega (arith, nodes-within-half tree, tripled form source tree whole.is)
              by (most z) = omega (arith, small-nodes tree (omega (arith, whole.long, lodged.small)))

          held : Holds notes' s.nodes tree
          held = subst (λ (i : ℕ). Holds notes' i tree) (sym whole.counted) (m.noted tree whole.is (omega (arith, whole.long, lodged.small)) (omega (arith, whole.deepest, lodged.shallow)) room)

          pub put-accepted : (canonical' : List ℕ) (p : ℕ) → Wrote (take s.len (drop 0 scratch)) 0 canonical canonical' p → Puts (read_tree (decode form source) (place_of form source) canonical) canonical' n notes' (accepted s.len s.nodes)
          unfolding Puts outcome filled
          put-accepted canonical' p w =
              record {
                tree = tree;
                held = held;
                recorded = lodged.recorded;
                few = omega (arith, whole.counted, small-nodes tree (omega (arith, whole.long, lodged.small)));
                is = λ table z.
                    same_outcome whole.long whole.counted
                    (w.same ∙ ap (sets canonical 0) front-is ∙ sym (settled-front canonical (canon tree) (omega (arith, whole.long, lodged.lent))))
                    (sym (settled-front table (table_of tree) (omega (arith, table-length tree, whole.counted, lodged.recorded, z))))
                    ∙ sym (tree-accepted meant (place_of form source) canonical table tree whole.is (rw z (sized n) ∙ good));
              }

-- ---- and the table, whatever the answer is of

module _ (answer : List ℕ → Outcome) (canonical notes table : List ℕ) (n : ℕ) (z : n ≡ length table / width) (r : Reading) (m : Puts answer canonical n notes r) where
  module _ (s : Sizes) (e : r ≡ Ok s) where
    accepting : Accepting answer canonical n notes s.length s.nodes
    unfolding Puts
    accepting = subst (Puts answer canonical n notes) e m

    pub fill-room : Fillable notes s.nodes (length table)
    fill-room = record { tree = accepting.tree; held = accepting.held; fits = omega (arith, accepting.recorded) }

    pub fill-accepted : (table' : List ℕ) → Filled notes s.nodes table table' → outcome (Ok s) canonical table' ≡ answer table
    fill-accepted table' f = ap (outcome (Ok s) canonical) (f.fills accepting.tree accepting.held) ∙ accepting.is table (sym z)

  pub fill-refused : (f : Refusal) → r ≡ Err f → outcome (Err f) canonical table ≡ answer table
  unfolding Puts
  fill-refused f e = let g : (table : List ℕ) → records table ≡ n → outcome (Err f) canonical table ≡ answer table = subst (Puts answer canonical n notes) e m in g table (sym z)
