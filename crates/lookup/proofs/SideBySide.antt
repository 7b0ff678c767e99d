-- The loop that compares two sheets: matching on from here gives what matching from the start gives.
use Prim.Native.Nat.{ℕ, ◌+◌, ◌-◌, ◌≤◌, ◌<◌}
use native.Mathlib.Omega.{arith}
use mathlib.Core.Path.{◌≡◌, refl, sym, ap, ap₂, ◌∙◌, subst}
use mathlib.Core.Bool.{Bool, true, false}
use mathlib.Core.Option.{some}
use mathlib.Core.List.{List, [], ◌∷◌, ◌++◌, append_assoc}
use lib.ListN.{length, take, drop, get_or, drop_of_length-le}
use lib.Seq.{take_at, drop_at, drop-drop}
use lib.Dec.{leb}
use borrow.Author.Tests.{le-leb, lt-leb}
use Rattle.model.specs.Limits.{max_canonical}
use Rattle.base.specs.Choice.{both}
use Rattle.base.proofs.Cases.{by_le, picked, unpicked, some_same, none-some, chain-cases}
use Rattle.model.specs.Answers.{the}
use Rattle.model.specs.Compare.{same}
use Rattle.model.specs.Decode.{nest, decode₁}
use Rattle.model.specs.Lexemes.{Lexeme, opening, closing, atom, hinting, strict_lexeme, strict_lexemes}
use Rattle.model.specs.Strings.{Read, got, refused}
use Rattle.model.specs.Table.{body_start, body_end}
use Rattle.model.specs.Tree.{Tree, digits, verbatim}
use Rattle.model.proofs.LexemeLoop.{strict-end, strict_next, strict_none}
use Rattle.model.proofs.Lexemes.{before-cases}
use Rattle.model.proofs.Nesting.{unnest, nest-sound}
use Rattle.model.proofs.ReadCases.{never}
use Rattle.model.proofs.Sizes.{verbatim-length}
use Rattle.model.proofs.Strict.{octets_of_lexeme, strict-sound}
use Rattle.scan.proofs.Places.{one-here}
use Rattle.canonical.specs.Lexed.{Plainly, Hintedly, ItemAt}
use Rattle.lookup.specs.Alike.{matches, alikes}
use Rattle.lookup.specs.Tokens.{mark, part_of, lexeme_of, Readable, TokenAt, Sheets}
use Rattle.lookup.proofs.Lockstep.{lockstep}
use Rattle.lookup.proofs.Matching.{opens, closes, hints, atoms}
use Rattle.lookup.specs.declared.alike.Token.{Token}
use Rattle.std.specs.Prelude.{Option, Some, None}
use Rattle.canonical.specs.declared.Item.{Item}
use Rattle.canonical.specs.declared.Item.TheVariants.{Open, Close, Plain, Hinted}

-- ---- the octets of a string are the part that the lexeme tells

drop_past : (src v k : List ℕ) (at n : ℕ) → drop at src ≡ v ++ k → n ≡ at + length v → drop n src ≡ k
drop_past src v k at n h e = ap (λ (i : ℕ). drop i src) e ∙ sym (drop-drop (length v) at src) ∙ ap (drop (length v)) h ∙ drop_at v k (length v) refl

body_at : (src o k : List ℕ) (at s e : ℕ) → drop at src ≡ verbatim o ++ k → s ≡ body_start at o → e ≡ body_end at o → part_of src s e ≡ o
unfolding verbatim
body_at src o k at s e h p q =
    let n : e - s ≡ length o = omega (arith, verbatim-length o) in
    let c : drop (at + length (digits (length o))) src ≡ 58 ∷ (o ++ k) = drop_past src (digits (length o)) (58 ∷ (o ++ k)) at _ (h ∙ append_assoc (digits (length o)) (58 ∷ o) k) refl in
    let d : drop s src ≡ o ++ k = drop_past src (58 ∷ []) (o ++ k) (at + length (digits (length o))) s c (omega arith) in
    ap₂ take n d ∙ take_at o k (length o) refl

module _ (src : List ℕ) (at : ℕ) where
  plain-part : (s e : ℕ) (p : Plainly src at s e) → part_of src s e ≡ p.octets
  unfolding octets_of_lexeme
  plain-part s e p = body_at src p.octets (drop e src) at s e (strict-sound (drop at src) p.reads) p.begins p.ends

  module _ (hs he s e : ℕ) (p : Hintedly src at hs he s e) where
    -- what follows the opening bracket, and the closing one
    hint-here : drop (at + 1) src ≡ verbatim p.hint ++ 93 ∷ (verbatim p.octets ++ drop e src)
    unfolding octets_of_lexeme
    hint-here =
        drop_past src (91 ∷ []) _ at (at + 1)
        (strict-sound (drop at src) p.reads ∙ ap (λ (y : List ℕ). 91 ∷ y) (append_assoc (verbatim p.hint) (93 ∷ verbatim p.octets) (drop e src))) refl

    data-here : drop (he + 1) src ≡ verbatim p.octets ++ drop e src
    data-here = drop_past src (93 ∷ []) _ he (he + 1) (drop_past src (verbatim p.hint) _ (at + 1) he hint-here p.hint_ends) refl

    hint-part : part_of src hs he ≡ p.hint
    hint-part = body_at src p.hint _ (at + 1) hs he hint-here p.hint_begins p.hint_ends

    data-part : part_of src s e ≡ p.octets
    data-part = body_at src p.octets (drop e src) (he + 1) s e data-here p.begins p.ends

-- ---- the lexeme at a place

module _ (src : List ℕ) (at : ℕ) (w : Readable src at) (r : Option Item) (v : ItemAt src at r) where
  marked : (sort : ℕ) → sort ≤ 2 → (l : Lexeme) → strict_lexeme (drop at src) ≡ got l (drop (at + 1) src) → lexeme_of src (mark sort (at + 1)) ≡ l → TokenAt src at (mark sort (at + 1))
  marked sort h l e q =
      record {
        reads = e ∙ ap (λ (k : Lexeme). got k (drop (at + 1) src)) (sym q);
        ahead = omega arith;
        within = omega (arith, w.inside);
        lies = record { sorted = h; hint_ordered = omega arith; hint_ended = omega arith; ordered = omega arith; ended = omega arith };
      }

  pub token-other : r ≡ None → (t : Token) → TokenAt src at t
  unfolding ItemAt
  token-other z t = let g : strict_lexeme (drop at src) ≡ refused = subst (ItemAt src at) z v in never (sym g ∙ w.reads)

  module _ (d : Item) (told : r ≡ Some d) where
    item-is : (x : Item) → d ≡ x → ItemAt src at (Some x)
    item-is x e = subst (ItemAt src at) (told ∙ ap (λ (y : Item). Some y) e) v

    pub token-open : d ≡ Open → (t : Token) → t ≡ mark 0 (at + 1) → TokenAt src at t
    unfolding ItemAt
    token-open z t e = rw e (marked 0 (omega arith) opening (item-is Open z) (opens src (mark 0 (at + 1)) refl))

    pub token-close : d ≡ Close → (t : Token) → t ≡ mark 1 (at + 1) → TokenAt src at t
    unfolding ItemAt
    token-close z t e = rw e (marked 1 (omega arith) closing (item-is Close z) (closes src (mark 1 (at + 1)) refl))

    pub token-plain : (s e : ℕ) → d ≡ Plain s e → TokenAt src at (record { sort = 2; hinted = false; from = 0; to = 0; start = s; end = e; next = e })
    unfolding ItemAt
    token-plain s e z =
        let p : Plainly src at s e = item-is (Plain s e) z in
        record {
          reads = p.reads ∙ ap (λ (l : Lexeme). got l (drop e src)) (ap atom (sym (plain-part src at s e p)) ∙ sym (atoms src _ refl refl));
          ahead = omega (arith, p.ends, verbatim-length p.octets);
          within = p.within;
          lies = record { sorted = omega arith; hint_ordered = omega arith; hint_ended = omega arith; ordered = omega (arith, p.begins, p.ends, verbatim-length p.octets); ended = p.within };
        }

    pub token-hinted : (hs he s e : ℕ) → d ≡ Hinted hs he s e → TokenAt src at (record { sort = 2; hinted = true; from = hs; to = he; start = s; end = e; next = e })
    unfolding ItemAt
    token-hinted hs he s e z =
        let p : Hintedly src at hs he s e = item-is (Hinted hs he s e) z in
        record {
          reads = p.reads ∙ ap (λ (l : Lexeme). got l (drop e src)) (ap₂ hinting (sym (hint-part src at hs he s e p)) (sym (data-part src at hs he s e p)) ∙ sym (hints src _ refl refl));
          ahead = omega (arith, p.ends, p.hint_ends);
          within = p.within;
          lies = record {
            sorted = omega arith;
            hint_ordered = omega (arith, p.hint_begins, p.hint_ends, verbatim-length p.hint);
            hint_ended = omega (arith, p.ends, p.within);
            ordered = omega (arith, p.begins, p.ends, verbatim-length p.octets);
            ended = p.within;
          };
        }

-- the end of the text
ended : (src : List ℕ) (at : ℕ) (ls : List Lexeme) → length src ≤ at → strict_lexemes (drop at src) ≡ some ls → ls ≡ []
ended src at ls h w = some_same (λ (x : List Lexeme). x ≡ []) (sym (ap strict_lexemes (drop_of_length-le src h) ∙ strict-end) ∙ w) refl

-- a text that goes on
goes_on : {G : Type 0} (src : List ℕ) (at : ℕ) (ls : List Lexeme) → at < length src → strict_lexemes (drop at src) ≡ some ls
    → ((l : Lexeme) (k : List ℕ) (ks : List Lexeme) → strict_lexeme (drop at src) ≡ got l k → strict_lexemes k ≡ some ks → ls ≡ l ∷ ks → G) → G
goes_on {G} src at ls h w g = by (strict_lexeme (drop at src)) refl
  where
    by : (y : Read Lexeme) → strict_lexeme (drop at src) ≡ y → G
    by (got l k) e =
        before-cases l (strict_lexemes k) (sym (strict_next (drop at src) k l e) ∙ w) (λ x p q. g l k x e p (some_same (λ (y : List Lexeme). y ≡ l ∷ x) q refl))
    by refused e =
        none-some (sym (ap strict_lexemes (one-here src at h) ∙ strict_none (get_or src at 0) (drop (at + 1) src) (ap strict_lexeme (sym (one-here src at h)) ∙ e)) ∙ w)

-- the lexemes after the one at a place
pub record Front (src : List ℕ) (at : ℕ) (t : Token) (ls : List Lexeme) : Type 0 where
  pub rest : List Lexeme
  pub is : ls ≡ lexeme_of src t ∷ rest
  pub goes : strict_lexemes (drop t.next src) ≡ some rest

front : (src : List ℕ) (at : ℕ) (ls : List Lexeme) → strict_lexemes (drop at src) ≡ some ls → (t : Token) → TokenAt src at t → Front src at t ls
front src at ls w t v =
    before-cases (lexeme_of src t) (strict_lexemes (drop t.next src)) (sym (strict_next (drop at src) (drop t.next src) (lexeme_of src t) v.reads) ∙ w)
    (λ x p q. record { rest = x; is = some_same (λ (y : List Lexeme). y ≡ lexeme_of src t ∷ x) q refl; goes = p })

-- ---- the loop

pub record Matching (a b x : List ℕ) (i j : ℕ) : Type 0 where
  pub left : List Lexeme
  pub right : List Lexeme
  pub left_is : strict_lexemes (drop i a) ≡ some left
  pub right_is : strict_lexemes (drop j b) ≡ some right
  pub alike : same (the (decode₁ a)) (the (decode₁ b)) x ≡ alikes x left right
  pub left_short : length a ≤ max_canonical
  pub right_short : length b ≤ max_canonical

-- the lexemes of a tree's canonical octets
decoded : {G : Type 0} (a : List ℕ) (t : Tree) → decode₁ a ≡ some t → (strict_lexemes a ≡ some (unnest t []) → G) → G
unfolding decode₁
decoded a t e g = chain-cases (strict_lexemes a) nest e (λ ls h k. g (h ∙ ap some (nest-sound ls t k)))

pub match-start : (a b x : List ℕ) → Sheets a b → Matching a b x 0 0
unfolding the
match-start a b x s =
    decoded a s.left s.left_is
    (λ p. decoded b s.right s.right_is
    (λ q. record {
      left = unnest s.left [];
      right = unnest s.right [];
      left_is = p;
      right_is = q;
      alike = ap₂ (λ (t u : Tree). same t u x) (ap the s.left_is) (ap the s.right_is) ∙ sym (lockstep x s.left s.right);
      left_short = s.left_short;
      right_short = s.right_short;
    }))

module _ (a b x : List ℕ) (i j : ℕ) (w : Matching a b x i j) where
  abbrev answer : Bool
  answer = same (the (decode₁ a)) (the (decode₁ b)) x

  pub match-end : length a ≤ i → leb (length b) j ≡ answer
  unfolding alikes
  match-end h =
      by_le (length b) j
      (λ k. le-leb _ _ k ∙ sym (w.alike ∙ ap₂ (alikes x) (ended a i w.left h w.left_is) (ended b j w.right k w.right_is)))
      (λ k. goes_on b j w.right k w.right_is (λ l k' ls c d e. lt-leb _ _ k ∙ sym (w.alike ∙ ap₂ (alikes x) (ended a i w.left h w.left_is) e)))

  module _ (h : i < length a) where
    pub match-short : length b ≤ j → false ≡ answer
    unfolding alikes
    match-short k = goes_on a i w.left h w.left_is (λ l k' ls c d e. sym (w.alike ∙ ap₂ (alikes x) e (ended b j w.right k w.right_is)))

    pub left-reads : Readable a i
    left-reads = goes_on a i w.left h w.left_is (λ l k ls c d e. record { lexeme = l; rest = k; reads = c; inside = h; short = omega (arith, w.left_short) })

    pub right-reads : j < length b → Readable b j
    right-reads k = goes_on b j w.right k w.right_is (λ l k' ls c d e. record { lexeme = l; rest = k'; reads = c; inside = k; short = omega (arith, w.right_short) })

    module _ (r q : Token) (u : TokenAt a i r) (v : TokenAt b j q) where
      left_front : Front a i r w.left
      left_front = front a i w.left w.left_is r u

      right_front : Front b j q w.right
      right_front = front b j w.right w.right_is q v

      fronts : (t : Bool) → t ≡ matches x (lexeme_of a r) (lexeme_of b q) → answer ≡ both t (alikes x left_front.rest right_front.rest)
      unfolding alikes
      fronts t e = w.alike ∙ ap₂ (alikes x) left_front.is right_front.is ∙ ap (λ (z : Bool). both z (alikes x left_front.rest right_front.rest)) (sym e)

      module _ (t : Bool) (e : t ≡ matches x (lexeme_of a r) (lexeme_of b q)) where
        pub match-differs : t ≡ false → false ≡ answer
        match-differs z = sym (fronts t e ∙ unpicked _ _ z)

        pub match-on : t ≡ true → Matching a b x r.next q.next
        match-on z =
            record {
              left = left_front.rest;
              right = right_front.rest;
              left_is = left_front.goes;
              right_is = right_front.goes;
              alike = fronts t e ∙ picked _ _ z;
              left_short = w.left_short;
              right_short = w.right_short;
            }

pub match-less : (a : List ℕ) (i : ℕ) (t : Token) → TokenAt a i t → length a - t.next < length a - i
match-less a i t v = omega (arith, v.ahead, v.within)
