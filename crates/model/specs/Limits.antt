-- The limits (S 6.1) and the refusals' numbers (S 7.1), each one name.
use Rattle.std.specs.Prelude.{ℕ}

-- S 6.1: octets of a source
abbrev pub max_source : ℕ
max_source = 32768

-- S 6.1: how deep lists nest
abbrev pub max_depth : ℕ
max_depth = 128

abbrev pub max_canonical : ℕ
max_canonical = 16384

-- S 6.2: no limit, but what a tree that fits has at most (`fitting-nodes`). No answer rests on it.
abbrev pub most_nodes : ℕ
most_nodes = 8192

-- S 7.1: no row applies
abbrev pub no_refusal : ℕ
no_refusal = 0

-- not 1 to 4; in writing not 1 to 3
abbrev pub refusal_form : ℕ
refusal_form = 1

-- the source is too long
abbrev pub refusal_source_size : ℕ
refusal_source_size = 2

-- source not in the form's language
abbrev pub refusal_syntax : ℕ
refusal_syntax = 3

-- lists nest too deep
abbrev pub refusal_depth : ℕ
refusal_depth = 4

-- more nodes than records are lent
abbrev pub refusal_nodes : ℕ
refusal_nodes = 5

-- the canonical form is too long, or the result longer than the room lent
abbrev pub refusal_size : ℕ
refusal_size = 6

-- a sheet that is none, or of no tree that fits; a table that is not its own
abbrev pub refusal_not_own : ℕ
refusal_not_own = 7

-- there is no node of that number
abbrev pub refusal_no_node : ℕ
refusal_no_node = 8

-- S 7.1: the node is not a list or has too few elements, or node 0 is to be removed
abbrev pub refusal_no_place : ℕ
refusal_no_place = 9
