-- The events of a tree, tree by tree.
use Prim.Native.Nat.{ℕ, ◌+◌}
use native.Mathlib.Omega.{arith}
use mathlib.Core.Path.{◌≡◌, refl, sym, ap, ap₂, ◌∙◌}
use mathlib.Core.List.{List, [], ◌∷◌, ◌++◌, append_assoc}
use lib.ListN.{length, length-append}
use Rattle.model.specs.Lexemes.{Lexeme, closing}
use Rattle.model.specs.Table.{list_row}
use Rattle.model.specs.Tree.{Tree, plain, hinted, list, Forest, nil, cons, verbatim, canon, canons, nodes, nodess}
use Rattle.model.proofs.Nesting.{unnest, unnests}
use Rattle.walk.specs.Events.{Event, event, Frame, frame, string_row, hint_row, above, events}

-- those of one tree, whose canonical octets begin at a place, whose number is n, and around which the list `up` is
unfoldable mutual
  pub events_of : Tree → ℕ → ℕ → ℕ → List Event
  events_of (plain d) at n up = event n (string_row at d) up ∷ []
  events_of (hinted h d) at n up = event n (hint_row at h d) up ∷ []
  events_of (list f) at n up = events_ofs f (at + 1) (n + 1) n ++ (event n (list_row at (at + length (canon (list f))) (nodes (list f))) up ∷ [])

  pub events_ofs : Forest → ℕ → ℕ → ℕ → List Event
  events_ofs nil at n up = []
  events_ofs (cons t f) at n up = events_of t at n up ++ events_ofs f (at + length (canon t)) (n + nodes t) up

-- the same events, at the same place with the same number
events-same : (ls : List Lexeme) (st : List Frame) (at at' n n' : ℕ) → at ≡ at' → n ≡ n' → events ls at n st ≡ events ls at' n' st
events-same ls st at at' n n' p q = ap₂ (λ (x y : ℕ). events ls x y st) p q

mutual
  unfolding events events_of unnest canon nodes above

  pub events-tree : (t : Tree) (ls : List Lexeme) (at n : ℕ) (st : List Frame) → events (unnest t ls) at n st ≡ events_of t at n (above st) ++ events ls (at + length (canon t)) (n + nodes t) st
  events-tree (plain d) ls at n st = refl
  events-tree (hinted h d) ls at n st =
      ap (λ (x : List Event). event n (hint_row at h d) (above st) ∷ x) (events-same ls st _ _ _ _ (omega (arith, length-append (verbatim h) (93 ∷ verbatim d))) refl)
  events-tree (list f) ls at n st =
      events-forest f (closing ∷ ls) (at + 1) (n + 1) (frame at n ∷ st)
      ∙ ap (λ (x : List Event). events_ofs f (at + 1) (n + 1) n ++ x) (closed (omega (arith, length-append (canons f) (41 ∷ []))) (omega arith) (omega arith))
      ∙ sym (append_assoc (events_ofs f (at + 1) (n + 1) n) _ _)
    where
      closed : {a a' b b' c c' : ℕ} → a ≡ a' → b ≡ b' → c ≡ c'
          → event n (list_row at a b) (above st) ∷ events ls a c st ≡ event n (list_row at a' b') (above st) ∷ events ls a' c' st
      closed {a} {a'} {b} {b'} {c} {c'} p q r = cc

  events-forest : (f : Forest) (ls : List Lexeme) (at n : ℕ) (st : List Frame) → events (unnests f ls) at n st ≡ events_ofs f at n (above st) ++ events ls (at + length (canons f)) (n + nodess f) st
  events-forest nil ls at n st = events-same ls st _ _ _ _ (omega arith) (omega arith)
  events-forest (cons t f) ls at n st =
      events-tree t (unnests f ls) at n st
      ∙ ap (λ (x : List Event). events_of t at n (above st) ++ x) (events-forest f ls (at + length (canon t)) (n + nodes t) st)
      ∙ sym (append_assoc (events_of t at n (above st)) _ _)
      ∙ ap (λ (x : List Event). (events_of t at n (above st) ++ events_ofs f (at + length (canon t)) (n + nodes t) (above st)) ++ x) (events-same ls st _ _ _ _ (omega (arith, length-append (canon t) (canons f))) (omega arith))
