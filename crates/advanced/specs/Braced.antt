-- A tree in braces, which form 4 has where a value may stand (S 3.3).
use Rattle.std.specs.Prelude.{ℕ, ◌+◌, ◌≤◌, ◌<◌, ◌≡◌, List, length, drop, Option, Some, None}
use Rattle.model.specs.Decode.{braces}
use Rattle.model.specs.Grammar.{rules}
use Rattle.model.specs.Strings.{got, refused}
use Rattle.model.specs.Tree.{Tree, canon, nodes, depth}
use Rattle.blocks.specs.Fronts.{Front}
use Rattle.advanced.specs.declared.braces.Inside.{Inside}
use Rattle.walk.specs.Extent.{extent}

-- the braces that open at `at` hold a tree, whose canonical octets stand from `pos` on
pub record TreeAt (src : List ℕ) (at pos : ℕ) (before after : List ℕ) (next len count deep : ℕ) : Type 0 where
  pub tree : Tree
  pub reads : braces rules (drop (at + 1) src) ≡ got (canon tree) (drop next src)
  pub within : next ≤ length src
  pub few : at + len < next
  pub long : len ≡ length (canon tree)
  pub counted : count ≡ nodes tree
  pub deepest : deep ≡ depth tree
  pub front : Front (canon tree) pos before after (pos + len)

-- a tree with these sizes, up to `next`; or none
abbrev pub Held : ℕ → ℕ → ℕ → ℕ → Option Inside
Held next len count deep = Some (record { next = next; sizes = extent len count deep })

unfoldable pub Holds : List ℕ → ℕ → ℕ → List ℕ → List ℕ → Option Inside → Type 0
Holds src at pos before after (Some x) = TreeAt src at pos before after x.next x.sizes.len x.sizes.nodes x.sizes.depth
Holds src at pos before after None = braces rules (drop (at + 1) src) ≡ refused
