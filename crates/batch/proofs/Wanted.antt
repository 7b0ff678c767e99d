-- What a run has to go on with while lists are open, so that its first sheet ends: one lexeme at a time, forwards and back.
use Prim.Native.Nat.{ℕ, zero, suc}
use mathlib.Core.Path.{◌≡◌, refl, sym, ap, ◌∙◌, subst}
use mathlib.Core.List.{List, ◌∷◌, ◌++◌, append_assoc}
use Rattle.model.specs.Lexemes.{Lexeme, opening, closing, atom, hinting, strict_lexeme}
use Rattle.model.specs.Strings.{got, refused}
use Rattle.model.specs.Tree.{Tree, plain, hinted, list, Forest, nil, cons, canon, canons}
use Rattle.model.proofs.ReadCases.{never, got_same}
use Rattle.model.proofs.Strict.{octets_of_lexeme, strict-sound, strict-complete}
use Rattle.batch.proofs.First.{Begins}

-- the elements of a list up to its closing parenthesis, and then what P asks for
pub record Closed (P : List ℕ → Type 0) (s : List ℕ) : Type 0 where
  pub forest : Forest
  pub rest : List ℕ
  pub is : s ≡ canons forest ++ 41 ∷ rest
  pub on : P rest

-- o lists that are open end one after the other, and r follows
unfoldable pub Ends : ℕ → List ℕ → List ℕ → Type 0
Ends zero s r = s ≡ r
Ends (suc o) s r = Closed (λ (k : List ℕ). Ends o k r) s

-- the same, but that at first, where no list is open, a tree is to come
unfoldable pub Wants : ℕ → List ℕ → List ℕ → Type 0
Wants zero s r = Begins s r
Wants (suc o) s r = Ends (suc o) s r

-- ---- a tree in front, and what follows it in the list

with-tree : (t : Tree) (o : ℕ) (s k r : List ℕ) → s ≡ canon t ++ k → Ends o k r → Wants o s r
unfolding Wants Ends canons
with-tree t zero s k r e x = record { tree = t; is = e ∙ ap (λ (z : List ℕ). canon t ++ z) x }
with-tree t (suc o) s k r e x =
    record {
      forest =
          cons t x.forest;
      rest =
          x.rest;
      is =
          e ∙ ap (λ (z : List ℕ). canon t ++ z) x.is ∙ sym (append_assoc (canon t) (canons x.forest) (41 ∷ x.rest));
      on =
          x.on;
    }

-- a list in front: its elements, and what follows it
with-list : (o : ℕ) (s k r : List ℕ) → s ≡ 40 ∷ k → Ends (suc o) k r → Wants o s r
unfolding Ends canon
with-list o s k r e x = with-tree (list x.forest) o s x.rest r (e ∙ ap (λ (z : List ℕ). 40 ∷ z) x.is ∙ simp append_assoc) x.on

-- ---- and taken apart: what is in front is a tree, or the list's end
module _ {G : Type 0} (s r : List ℕ) where
  unfront : (o : ℕ) → Wants o s r → ((t : Tree) (k : List ℕ) → s ≡ canon t ++ k → Ends o k r → G)
      → ((p k : _) → o ≡ suc p → s ≡ 41 ∷ k → Ends p k r → G) → G
  unfolding Wants Ends canons
  unfront zero w f g = f w.tree r w.is refl
  unfront (suc o) w f g = by w.forest w.is
    where
      by : (x : Forest) → s ≡ canons x ++ 41 ∷ w.rest → G
      by nil e = g o w.rest refl e w.on
      by (cons t x) e =
          f t (canons x ++ 41 ∷ w.rest) (e ∙ append_assoc (canon t) (canons x) (41 ∷ w.rest)) (record {
            forest =
                x;
            rest = w.rest;
            is = refl;
            on = w.on;
          })

-- ---- one lexeme: what is wanted after it
unfoldable pub Next : Lexeme → ℕ → List ℕ → List ℕ → Type 0
Next opening o k r = Ends (suc o) k r
Next closing zero k r = ⊥
Next closing (suc o) k r = Ends o k r
Next (atom d) o k r = Ends o k r
Next (hinting h d) o k r = Ends o k r

-- a run that goes on as wanted has a lexeme in front, and goes on as wanted after it
record Reads (o : ℕ) (s r : List ℕ) : Type 0 where
  lexeme : Lexeme
  rest : List ℕ
  reads : strict_lexeme s ≡ got lexeme rest
  next : Next lexeme o rest r

tree-reads : (t : Tree) (o : ℕ) (s k r : List ℕ) → s ≡ canon t ++ k → Ends o k r → Reads o s r
unfolding Next Ends canon octets_of_lexeme
tree-reads (plain d) o s k r e x = record { lexeme = atom d; rest = k; reads = ap strict_lexeme e ∙ strict-complete (atom d) k; next = x }
tree-reads (hinted h d) o s k r e x =
    record { lexeme = hinting h d; rest = k; reads = ap strict_lexeme e ∙ strict-complete (hinting h d) k; next = x }
tree-reads (list f) o s k r e x =
    record {
      lexeme = opening;
      rest = canons f ++ 41 ∷ k;
      reads = ap strict_lexeme (e ∙ simp append_assoc) ∙ strict-complete opening (canons f ++ 41 ∷ k);
      next = record { forest = f; rest = k; is = refl; on = x };
    }

end_reads : (o : ℕ) (s k r : List ℕ) → s ≡ 41 ∷ k → Ends o k r → Reads (suc o) s r
unfolding Next octets_of_lexeme
end_reads o s k r e x = record { lexeme = closing; rest = k; reads = ap strict_lexeme e ∙ strict-complete closing k; next = x }

wants-reads : (o : ℕ) (s r : List ℕ) → Wants o s r → Reads o s r
wants-reads o s r w =
    unfront s r o w (λ t k e x. tree-reads t o s k r e x)
    (λ p k z e x. subst (λ (o : ℕ). Reads o s r) (sym z) (end_reads p s k r e x))

module _ (o : ℕ) (s r : List ℕ) where
  -- forwards
  pub lexeme-next : (l : Lexeme) (k : List ℕ) → strict_lexeme s ≡ got l k → Wants o s r → Next l o k r
  lexeme-next l k e w =
      let x : Reads o s r = wants-reads o s r w in
      got_same (λ (l : Lexeme) (k : List ℕ). Next l o k r) (sym x.reads ∙ e) x.next

  pub no-lexeme : strict_lexeme s ≡ refused → Wants o s r → ⊥
  no-lexeme e w = let x : Reads o s r = wants-reads o s r w in never (sym e ∙ x.reads)

-- and back
pub lexeme-back : (o : ℕ) (s r : List ℕ) (l : Lexeme) (k : List ℕ) → strict_lexeme s ≡ got l k → Next l o k r → Wants o s r
unfolding Next Ends Wants canon octets_of_lexeme
lexeme-back o s r opening k e x = with-list o s k r (strict-sound s e) x
lexeme-back zero s r closing k e x = absurd x
lexeme-back (suc o) s r closing k e x = record { forest = nil; rest = k; is = strict-sound s e; on = x }
lexeme-back o s r (atom d) k e x = with-tree (plain d) o s k r (strict-sound s e) x
lexeme-back o s r (hinting h d) k e x = with-tree (hinted h d) o s k r (strict-sound s e) x
