-- What is wanted of octets and records while lists are open: one lexeme at a time,
-- forwards and back.
use Prim.Native.Nat.{ℕ, ◌+◌, ◌-◌, ◌≤◌}
use native.Mathlib.Omega.{arith}
use mathlib.Core.Path.{◌≡◌, refl, sym, ap, ap₂, ◌∙◌, subst}
use mathlib.Core.List.{List, [], ◌∷◌, ◌++◌, append_assoc}
use lib.ListN.{length, get_or, length-append}
use Rattle.model.specs.Lexemes.{Lexeme, opening, closing, atom, hinting, strict_lexeme}
use Rattle.model.specs.Limits.{max_depth}
use Rattle.model.specs.Strings.{got, refused}
use Rattle.model.specs.Table.{list_row, recorded, body_end}
use Rattle.model.specs.Tree.{Tree, plain, hinted, list, Forest, nil, cons, verbatim, canon, canons, nodes, nodess, depth, depths}
use Rattle.model.proofs.ReadCases.{never, got_same}
use Rattle.model.proofs.Strict.{octets_of_lexeme, strict-sound, strict-complete}
use Rattle.walk.specs.Events.{hint_end}
use Rattle.owned.specs.Wanted.{over, claimed_end, claimed_count, Told, Tolds, Closed, Ends, Begins, Wants, Next}

module _ (R : ℕ → List ℕ) (n : ℕ) where
  -- ---- a tree in front, and what follows it in the list

  with-tree : (st s : List ℕ) (at k : ℕ) → Begins R n st s at k → Wants R n st s at k
  unfolding Wants Ends canons Tolds nodess depths over
  with-tree [] s at k b = b
  with-tree (u ∷ us) s at k b =
      let x : Closed R (Ends R n us) (length us + 1) u b.rest (at + length (canon b.tree)) (k + nodes b.tree) = b.on in
      let l : length (canons (cons b.tree x.forest)) ≡ length (canon b.tree) + length (canons x.forest) = length-append (canon b.tree) (canons x.forest) in
      record {
        forest = cons b.tree x.forest;
        rest = x.rest;
        is = b.is ∙ ap (λ (z : List ℕ). canon b.tree ++ z) x.is ∙ sym (append_assoc (canon b.tree) (canons x.forest) (41 ∷ x.rest));
        told = (b.told, x.told);
        shallow = omega (arith, b.shallow, x.shallow);
        ends = omega (arith, x.ends, l);
        counts = omega (arith, x.counts);
        on =
            let p : at + length (canon b.tree) + length (canons x.forest) + 1 ≡ at + length (canons (cons b.tree x.forest)) + 1 = omega (arith, l) in
            let q : k + nodes b.tree + nodess x.forest ≡ k + (nodes b.tree + nodess x.forest) = omega arith in
            rw (← p, ← q) x.on;
      }

  -- ---- and taken apart: what is in front is a tree, or the end of the list

  module _ {G : Type 0} (s : List ℕ) (at k : ℕ) where
    pub unfront : (st : List ℕ) → Wants R n st s at k → (Begins R n st s at k → G)
        → ((u : ℕ) (us rest : List ℕ) → st ≡ u ∷ us → s ≡ 41 ∷ rest → claimed_end (R u) ≡ at → claimed_count (R u) + u ≡ k → Ends R n us rest (at + 1) k → G) → G
    unfolding Wants Ends canons Tolds nodess depths over
    unfront [] w f g = f w
    unfront (u ∷ us) w f g = by w.forest w.is w.told w.shallow w.ends w.counts w.on
      where
        by : (x : Forest) → s ≡ canons x ++ 41 ∷ w.rest → Tolds R x at k u → length us + 1 + depths x ≤ max_depth → claimed_end (R u) ≡ at + length (canons x) → claimed_count (R u) + u ≡ k + nodess x
            → Ends R n us w.rest (at + length (canons x) + 1) (k + nodess x) → G
        by nil e t d p q r =
            let i : at + 0 + 1 ≡ at + 1 = omega arith in
            let j : k + 0 ≡ k = omega arith in
            g u us w.rest refl e (omega arith) (omega arith) (rw (i, j) at r)
        by (cons t x) e y d p q r =
            let l : length (canon t ++ canons x) ≡ length (canon t) + length (canons x) = length-append (canon t) (canons x) in
            let i : at + length (canon t ++ canons x) + 1 ≡ at + length (canon t) + length (canons x) + 1 = omega arith in
            let j : k + (nodes t + nodess x) ≡ k + nodes t + nodess x = omega arith in
            f
            (record {
              tree = t;
              rest = canons x ++ 41 ∷ w.rest;
              is = e ∙ append_assoc (canon t) (canons x) (41 ∷ w.rest);
              told = y.0;
              shallow = omega arith;
              on = record {
                forest = x;
                rest = w.rest;
                is = refl;
                told = y.1;
                shallow = omega arith;
                ends = omega arith;
                counts = omega arith;
                on = rw (i, j) at r;
              };
            })

  -- octets that go on as wanted have a lexeme in front, and go on as wanted after it
  record Reads (st s : List ℕ) (at k : ℕ) : Type 0 where
    lexeme : Lexeme
    rest : List ℕ
    reads : strict_lexeme s ≡ got lexeme rest
    next : Next R n lexeme st rest at k

  listed : (f : Forest) → length (canon (list f)) ≡ length (canons f) + 2
  unfolding canon
  listed f = omega (arith, length-append (canons f) (41 ∷ []))

  hinted-end : (at : ℕ) (h d : List ℕ) → at + length (canon (hinted h d)) ≡ body_end (hint_end at h + 1) d
  unfolding canon
  hinted-end at h d = omega (arith, length-append (verbatim h) (93 ∷ verbatim d))

  tree-reads : (st s : List ℕ) (at k : ℕ) (t : Tree) (rest : List ℕ) → s ≡ canon t ++ rest → Told R t at k (over st) → length st + depth t ≤ max_depth
      → Ends R n st rest (at + length (canon t)) (k + nodes t) → Reads st s at k
  unfolding Next Ends Told canon octets_of_lexeme nodes depth
  tree-reads st s at k (plain d) rest e t h x = record { lexeme = atom d; rest = rest; reads = ap strict_lexeme e ∙ strict-complete (atom d) rest; next = (t, x) }
  tree-reads st s at k (hinted y d) rest e t h x =
      record { lexeme = hinting y d; rest = rest; reads = ap strict_lexeme e ∙ strict-complete (hinting y d) rest; next = (t, rw (hinted-end at y d) at x) }
  tree-reads st s at k (list f) rest e t h x =
      let a : at + length (canon (list f)) ≡ at + 1 + length (canons f) + 1 = omega (arith, listed f) in
      let b : k + (1 + nodess f) ≡ k + 1 + nodess f = omega arith in
      let p : get_or (R k) 2 0 ≡ at + length (canon (list f)) = ap (λ (r : List ℕ). get_or r 2 0) t.0 in
      let c : claimed_count (R k) ≡ 1 + nodess f = ap claimed_count t.0 in
      let q : claimed_end (R k) ≡ at + length (canon (list f)) - 1 = ap claimed_end t.0 in
      record {
        lexeme = opening;
        rest = canons f ++ 41 ∷ rest;
        reads = ap strict_lexeme (e ∙ simp append_assoc) ∙ strict-complete opening (canons f ++ 41 ∷ rest);
        next = record {
          is = t.0 ∙ ap₂ (λ (i j : ℕ). recorded (list_row at i j) (over st)) (sym p) (sym c);
          shallow = omega arith;
          on = record {
            forest = f;
            rest = rest;
            is = refl;
            told = t.1;
            shallow = omega arith;
            ends = omega (arith, a, q);
            counts = omega (arith, c);
            on = rw (a, b) at x;
          };
        };
      }

  end_reads : (u : ℕ) (us s rest : List ℕ) (at k : ℕ) → s ≡ 41 ∷ rest → claimed_end (R u) ≡ at → claimed_count (R u) + u ≡ k → Ends R n us rest (at + 1) k → Reads (u ∷ us) s at k
  unfolding Next octets_of_lexeme
  end_reads u us s rest at k e p q x = record { lexeme = closing; rest = rest; reads = ap strict_lexeme e ∙ strict-complete closing rest; next = (p, q, x) }

  wants-reads : (st s : List ℕ) (at k : ℕ) → Wants R n st s at k → Reads st s at k
  wants-reads st s at k w =
      unfront s at k st w (λ b. tree-reads st s at k b.tree b.rest b.is b.told b.shallow b.on)
      (λ u us rest z e p q x. subst (λ (y : List ℕ). Reads y s at k) (sym z) (end_reads u us s rest at k e p q x))

  module _ (st s : List ℕ) (at k : ℕ) where
    -- forwards
    pub lexeme-next : (l : Lexeme) (rest : List ℕ) → strict_lexeme s ≡ got l rest → Wants R n st s at k → Next R n l st rest at k
    lexeme-next l rest e w =
        let x : Reads st s at k = wants-reads st s at k w in
        got_same (λ (l : Lexeme) (r : List ℕ). Next R n l st r at k) (sym x.reads ∙ e) x.next

    pub lexeme-some : {G : Type 0} → Wants R n st s at k → ((l : Lexeme) (rest : List ℕ) → strict_lexeme s ≡ got l rest → Next R n l st rest at k → G) → G
    lexeme-some w f = let x : Reads st s at k = wants-reads st s at k w in f x.lexeme x.rest x.reads x.next

    pub no-lexeme : strict_lexeme s ≡ refused → Wants R n st s at k → ⊥
    no-lexeme e w = let x : Reads st s at k = wants-reads st s at k w in never (sym e ∙ x.reads)

  -- and back
  pub lexeme-back : (st s : List ℕ) (at k : ℕ) → length st ≤ max_depth → (l : Lexeme) (rest : List ℕ) → strict_lexeme s ≡ got l rest → Next R n l st rest at k → Wants R n st s at k
  unfolding Next Ends Wants Told Tolds canon canons octets_of_lexeme nodes nodess depth depths over
  lexeme-back st s at k h opening rest e x =
      let y : Closed R (Ends R n st) (length st + 1) k rest (at + 1) (k + 1) = x.on in
      let q : claimed_end (R k) ≡ get_or (R k) 2 0 - 1 = ap claimed_end x.is in
      let a : get_or (R k) 2 0 ≡ at + length (canon (list y.forest)) = omega (arith, q, y.ends, listed y.forest) in
      let c : claimed_count (R k) ≡ 1 + nodess y.forest = omega (arith, y.counts) in
      let i : at + 1 + length (canons y.forest) + 1 ≡ at + length (canon (list y.forest)) = omega (arith, listed y.forest) in
      let j : k + 1 + nodess y.forest ≡ k + (1 + nodess y.forest) = omega arith in
      with-tree st s at k
      (record {
        tree = list y.forest;
        rest = y.rest;
        is = strict-sound s e ∙ ap (λ (z : List ℕ). 40 ∷ z) y.is ∙ simp append_assoc;
        told = (x.is ∙ ap₂ (λ (i j : ℕ). recorded (list_row at i j) (over st)) a c, y.told);
        shallow = omega (arith, y.shallow);
        on = rw (i, j) at y.on;
      })
  lexeme-back [] s at k h closing rest e x = absurd x
  lexeme-back (u ∷ us) s at k h closing rest e x =
      let i : at + 0 + 1 ≡ at + 1 = omega arith in
      let j : k + 0 ≡ k = omega arith in
      record {
        forest = nil;
        rest = rest;
        is = strict-sound s e;
        told = tt;
        shallow = omega arith;
        ends = omega (arith, x.0);
        counts = omega (arith, x.1);
        on = rw (i, j) x.2;
      }
  lexeme-back st s at k h (atom d) rest e x =
      with-tree st s at k (record { tree = plain d; rest = rest; is = strict-sound s e; told = x.0; shallow = omega arith; on = x.1 })
  lexeme-back st s at k h (hinting y d) rest e x =
      with-tree st s at k (record { tree = hinted y d; rest = rest; is = strict-sound s e; told = x.0; shallow = omega arith; on = rw (hinted-end at y d) x.1 })
