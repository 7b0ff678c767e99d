-- How long output is, and how many nodes a canonical form holds.
use Prim.Native.Nat.{ℕ, ◌+◌, ◌*◌, ◌/◌, ◌≤◌}
use native.Mathlib.Omega.{arith}
use mathlib.Core.Path.{◌≡◌, refl}
use mathlib.Core.List.{List, [], ◌∷◌}
use lib.ListN.{length, length-append}
use lib.Dec.{eqb}
use Rattle.base.specs.Choice.{among, every}
use Rattle.base.proofs.Cases.{by_bool}
use Rattle.model.specs.Tree.{Tree, plain, hinted, list, Forest, nil, cons, verbatim, canon, canons, nodes, nodess, depth, depths}
use Rattle.model.specs.Write.{is_token, quote_one, quote_all, hex_all, shown, advanced, elements, following, base_all, basic}
use Rattle.model.proofs.Sizes.{digits-length, verbatim-length}

-- ---- S 6.2: n octets go out in form 3 in 2 n at most

quote_one-size : (b : ℕ) → length (quote_one b) ≤ 2
unfolding quote_one
quote_one-size b =
    by_bool (eqb b 34)
    (λ t. rw (t, quote_one) (omega arith))
    (λ t. by_bool (eqb b 92) (λ u. rw (t, quote_one, u) (omega arith)) (λ u. rw (t, quote_one, u) (omega arith)))

quote_all-size : (d : List ℕ) → length (quote_all d) ≤ 2 * length d
unfolding quote_all
quote_all-size [] = omega arith
quote_all-size (b ∷ d) = omega (arith, quote_one-size b, quote_all-size d, length-append (quote_one b) (quote_all d))

hex_all-size : (d : List ℕ) → length (hex_all d) ≡ 2 * length d
unfolding hex_all
hex_all-size [] = refl
hex_all-size (b ∷ d) = omega (arith, hex_all-size d)

shown-size : (d : List ℕ) → length (shown d) + 1 ≤ 2 * length (verbatim d)
unfolding shown
shown-size d =
    by_bool (is_token d)
    (λ t. rw (t, shown) (omega (arith, verbatim-length d, digits-length (length d))))
    (λ t. by_bool (every (among 32 126) d)
    (λ u. rw (t, shown, u) (omega (arith, verbatim-length d, digits-length (length d), quote_all-size d, length-append (quote_all d) (34 ∷ []))))
    (λ u. rw (t, shown, u) (omega (arith, verbatim-length d, digits-length (length d), hex_all-size d, length-append (hex_all d) (35 ∷ [])))))

mutual
  unfolding advanced canon

  advanced-bound : (t : Tree) → length (advanced t) + 1 ≤ 2 * length (canon t)
  advanced-bound (plain d) = shown-size d
  advanced-bound (hinted h d) = omega (arith, shown-size h, shown-size d, length-append (shown h) (93 ∷ shown d), length-append (verbatim h) (93 ∷ verbatim d))
  advanced-bound (list f) = omega (arith, elements-bound f, length-append (elements f) (41 ∷ []), length-append (canons f) (41 ∷ []))

  elements-bound : (f : Forest) → length (elements f) ≤ 2 * length (canons f)
  elements-bound nil = omega arith
  elements-bound (cons t f) = omega (arith, advanced-bound t, following-bound f, length-append (advanced t) (following f), length-append (canon t) (canons f))

  following-bound : (f : Forest) → length (following f) ≤ 2 * length (canons f)
  following-bound nil = omega arith
  following-bound (cons t f) = omega (arith, advanced-bound t, following-bound f, length-append (advanced t) (following f), length-append (canon t) (canons f))

pub doubled : (t : Tree) → length (advanced t) ≤ 2 * length (canon t)
doubled t = omega (arith, advanced-bound t)

-- ---- four letters to three octets, begun ones too
pub base-length : (d : List ℕ) → length (base_all d) ≡ (length d + 2) / 3 * 4
unfolding base_all
base-length [] = refl
base-length (a ∷ []) = omega arith
base-length (a ∷ b ∷ []) = omega arith
base-length (a ∷ b ∷ c ∷ d) = omega (arith, base-length d)

pub basic-length : (t : Tree) → length (basic t) ≡ (length (canon t) + 2) / 3 * 4 + 2
unfolding basic
basic-length t = omega (arith, base-length (canon t), length-append (base_all (canon t)) (125 ∷ []))

-- ---- S 6.2: n octets of canonical form have n / 2 nodes at most
mutual
  unfolding canon nodes

  pub nodes-half : (t : Tree) → 2 * nodes t ≤ length (canon t)
  nodes-half (plain d) = omega (arith, verbatim-length d, digits-length (length d))
  nodes-half (hinted h d) = omega (arith, length-append (verbatim h) (93 ∷ verbatim d))
  nodes-half (list f) = omega (arith, nodess-half f, length-append (canons f) (41 ∷ []))

  pub nodess-half : (f : Forest) → 2 * nodess f ≤ length (canons f)
  nodess-half nil = omega arith
  nodess-half (cons t f) = omega (arith, nodes-half t, nodess-half f, length-append (canon t) (canons f))

-- ---- a tree is no deeper than it has nodes
mutual
  unfolding depth nodes

  pub depth-within : (t : Tree) → depth t ≤ nodes t
  depth-within (plain d) = omega arith
  depth-within (hinted h d) = omega arith
  depth-within (list f) = omega (arith, depths-within f)

  depths-within : (f : Forest) → depths f ≤ nodess f
  depths-within nil = omega arith
  depths-within (cons t f) = omega (arith, depth-within t, depths-within f)
