-- What every entry answers, and what every lent buffer holds afterwards: for all inputs, refused ones too (S 7, 8, 14.2).
use Rattle.std.specs.Prelude.{ℕ, zero, suc, ◌*◌, ◌-◌, max, Bool, true, false, not, List, [], ◌∷◌, ◌++◌, length, take, drop, replicate, leb, ltb, eqb}
use Rattle.std.proofs.Math.Option.{Option, none, some}
use Rattle.base.specs.Choice.{pick, both, either, among, equal, chain, is_none}
use Rattle.model.specs.Tree.{Tree, list, nil, canon, nodes, depth}
use Rattle.model.specs.Table.{Row, width, table_of, row_of, records}
use Rattle.model.specs.Automaton.{place}
use Rattle.model.specs.Decode.{decode, decode₁}
use Rattle.model.specs.Write.{encode}
use Rattle.model.specs.Compare.{same}
use Rattle.model.specs.Edit.{replace}
use Rattle.model.specs.Limits.{max_source, max_depth, max_canonical, no_refusal, refusal_form, refusal_source_size, refusal_syntax, refusal_depth, refusal_nodes, refusal_size, refusal_not_own, refusal_no_node}

-- ---- the order of checks

-- a row of S 7.1, and whether it applies
pub record Check : Type 0 where
  pub row : ℕ
  pub applies : Bool

abbrev pub when : ℕ → Bool → Check
when n t = record { row = n; applies = t }

-- S 7.1: the first in the entry's order that applies; 0 where none does
unfoldable pub verdict : List Check → ℕ
verdict [] = no_refusal
verdict (c ∷ cs) = pick c.applies c.row (verdict cs)

-- the answer by a list of checks: accepted, or refused with a number
unfoldable pub judged : {A : Type 0} → List Check → A → (ℕ → A) → A
judged cs accepted refused = elim (verdict cs) [ zero ↦ accepted | suc n ↦ refused (suc n) ]

-- row 1 of what comes in: not 1 to 4
unfoldable pub no_form : ℕ → Bool
no_form form = not (among 1 4 form)

-- row 1 of what goes out: not 1 to 3
unfoldable pub no_out_form : ℕ → Bool
no_out_form form = not (among 1 3 form)

-- the tree, where there is one; without one an earlier row applies, and this one is never looked at
unfoldable pub the : Option Tree → Tree
the none = list nil
the (some t) = t

-- rows 4 to 6 of a tree that is to go into lent space: too deep, more nodes than records are lent, too long or over the room lent
unfoldable pub room_checks : Tree → List ℕ → List ℕ → List Check
room_checks t canonical table =
    when refusal_depth (ltb max_depth (depth t))
    ∷ when refusal_nodes (ltb (records table) (nodes t))
    ∷ when refusal_size (either (ltb max_canonical (length (canon t))) (ltb (length canonical) (length (canon t))))
    ∷ []

-- rows 1 to 3 of a text (S 3, 6.1)
unfoldable pub text_checks : ℕ → List ℕ → List Check → List Check
text_checks form text more =
    when refusal_form (no_form form)
    ∷ when refusal_source_size (ltb max_source (length text))
    ∷ when refusal_syntax (is_none (decode form text))
    ∷ more

-- ---- lent space

-- S 8.3: new contents from the front, zeros up to a larger old length, and past both what was there
unfoldable pub settled : List ℕ → ℕ → List ℕ → List ℕ
settled lent old new = new ++ (replicate (old - length new) 0 ++ drop (max old (length new)) lent)

-- S 6.1: lists nest at most 128 deep, and the canonical form has at most 16,384 octets
unfoldable pub fits : Tree → Bool
fits t = both (leb (depth t) max_depth) (leb (length (canon t)) max_canonical)

unfoldable pub fitting : Tree → Option Tree
fitting t = pick (fits t) (some t) none

-- the tree of the sheet with the length given: none where row 7 applies to the sheet, or where the length is beyond what is lent
unfoldable pub sheet_tree : List ℕ → ℕ → Option Tree
sheet_tree canonical len = pick (ltb (length canonical) len) none (chain (decode₁ (take len canonical)) fitting)

-- S 1.4: the node count given is the sheet's, and the records up to it are the tree's
unfoldable pub owns : List ℕ → ℕ → Tree → Option Tree
owns table count t = pick (both (eqb count (nodes t)) (equal (take (width * count) table) (table_of t))) (some t) none

-- the tree of the sheet with its table: none where row 7 applies
unfoldable pub own_tree : List ℕ → ℕ → List ℕ → ℕ → Option Tree
own_tree canonical len table count = chain (sheet_tree canonical len) (owns table count)

-- ---- reading, and replacing: whether it is accepted, the number, a place in the text, length and node count, and the lent sheet
-- and table afterwards
pub record Outcome : Type 0 where
  pub accepted : Bool
  pub number : ℕ
  pub place : ℕ
  pub octets : ℕ
  pub count : ℕ
  pub canonical : List ℕ
  pub table : List ℕ

-- S 7.2: in a refusal counts are 0 and nothing lent is changed; a number and a place are told
abbrev pub unchanged_at : ℕ → ℕ → List ℕ → List ℕ → Outcome
unchanged_at n p canonical table = record { accepted = false; number = n; place = p; octets = 0; count = 0; canonical = canonical; table = table }

-- with no place
abbrev pub unchanged : ℕ → List ℕ → List ℕ → Outcome
unchanged n canonical table = unchanged_at n 0 canonical table

-- S 7.3: form 2 tells a place only where the text doesn't begin with `{`
unfoldable pub braced : List ℕ → Bool
braced [] = false
braced (b ∷ s) = eqb b 123

-- S 7.3, the place that is told of a text that is not in its form's language: in form 1, and in form 2 without `{`, the largest p for which
-- some canonical form begins with its first p octets: `place` is that (crate automaton, `place-largest`); else 0
unfoldable pub place_of : ℕ → List ℕ → ℕ
place_of form text = pick (either (eqb form 1) (both (eqb form 2) (not (braced text)))) (place text) 0

-- S 7.3: the same answer, and with refusal 3 a place
unfoldable pub telling : ℕ → Outcome → Outcome
telling p o =
    record {
      accepted = o.accepted;
      number = o.number;
      place = pick (eqb o.number refusal_syntax) p o.place;
      octets = o.octets;
      count = o.count;
      canonical = o.canonical;
      table = o.table;
    }

-- the tree put where a sheet of old_octets octets and old_count nodes stood
unfoldable pub filled : Tree → ℕ → ℕ → List ℕ → List ℕ → Outcome
filled t old_octets old_count canonical table =
    record {
      accepted = true;
      number = no_refusal;
      place = 0;
      octets = length (canon t);
      count = nodes t;
      canonical = settled canonical old_octets (canon t);
      table = settled table (width * old_count) (table_of t);
    }

-- S 8.1: 1 to 6
unfoldable pub reading_checks : ℕ → List ℕ → List ℕ → List ℕ → List Check
reading_checks form source canonical table = text_checks form source (room_checks (the (decode form source)) canonical table)

-- S 8.1: octets and table of the text's tree, with their length and node count; what lies past them stays
unfoldable pub reading : ℕ → List ℕ → List ℕ → List ℕ → Outcome
reading form source canonical table =
    telling (place_of form source)
    (judged (reading_checks form source canonical table)
    (filled (the (decode form source)) 0 0 canonical table)
    (λ n. unchanged n canonical table))

-- S 8.3: the corrected tree
unfoldable pub replaced : ℕ → List ℕ → List ℕ → List ℕ → ℕ → ℕ → ℕ → Tree
replaced form text canonical table len count node = replace (the (own_tree canonical len table count)) node (the (decode form text))

-- S 8.3: 1, 2, 3, 7, 8, 4, 5, 6, where 4 to 6 are of the corrected tree
unfoldable pub replacing_checks : ℕ → List ℕ → List ℕ → List ℕ → ℕ → ℕ → ℕ → List Check
replacing_checks form text canonical table len count node =
    text_checks form text
    (when refusal_not_own (is_none (own_tree canonical len table count))
    ∷ when refusal_no_node (leb count node)
    ∷ room_checks (replaced form text canonical table len count node) canonical table)

-- S 8.3: the corrected tree in place of the old one, its length and node count
unfoldable pub replacing : ℕ → List ℕ → List ℕ → List ℕ → ℕ → ℕ → ℕ → Outcome
replacing form text canonical table len count node =
    telling (place_of form text)
    (judged (replacing_checks form text canonical table len count node)
    (filled (replaced form text canonical table len count node) len count canonical table)
    (λ n. unchanged n canonical table))

-- ---- writing: whether it is accepted, the number, a place (0: writing tells none), the length, and the lent output afterwards
pub record Output : Type 0 where
  pub accepted : Bool
  pub number : ℕ
  pub place : ℕ
  pub octets : ℕ
  pub out : List ℕ

-- S 7.2: in a refusal the length is 0, and the output is as it was
abbrev pub unwritten_at : ℕ → ℕ → List ℕ → Output
unwritten_at n p out = record { accepted = false; number = n; place = p; octets = 0; out = out }

abbrev pub unwritten : ℕ → List ℕ → Output
unwritten n out = unwritten_at n 0 out

-- what goes out of the sheet
unfoldable pub written : ℕ → List ℕ → ℕ → List ℕ
written form canonical len = encode form (the (sheet_tree canonical len))

-- S 8.2: 1, 7, 6
unfoldable pub writing_checks : ℕ → List ℕ → ℕ → List ℕ → List Check
writing_checks form canonical len out =
    when refusal_form (no_out_form form)
    ∷ when refusal_not_own (is_none (sheet_tree canonical len))
    ∷ when refusal_size (ltb (length out) (length (written form canonical len)))
    ∷ []

-- S 8.2: the length is given, and output past it stays
unfoldable pub writing : ℕ → List ℕ → ℕ → List ℕ → Output
writing form canonical len out =
    judged (writing_checks form canonical len out)
    (record { accepted = true; number = no_refusal; place = 0; octets = length (written form canonical len); out = settled out 0 (written form canonical len) })
    (λ n. unwritten n out)

-- ---- comparing: whether it is accepted, the number, a place (0: comparing tells none), and yes or no
pub record Comparison : Type 0 where
  pub accepted : Bool
  pub number : ℕ
  pub place : ℕ
  pub yes : Bool

-- S 7.2: no in a refusal
abbrev pub uncompared_at : ℕ → ℕ → Comparison
uncompared_at n p = record { accepted = false; number = n; place = p; yes = false }

abbrev pub uncompared : ℕ → Comparison
uncompared n = uncompared_at n 0

-- S 8.4: 7
unfoldable pub comparing_checks : List ℕ → ℕ → List ℕ → ℕ → List Check
comparing_checks a a_length b b_length = when refusal_not_own (either (is_none (sheet_tree a a_length)) (is_none (sheet_tree b b_length))) ∷ []

-- S 8.4: yes or no
unfoldable pub comparing : List ℕ → ℕ → List ℕ → ℕ → List ℕ → Comparison
comparing a a_length b b_length default_hint =
    judged (comparing_checks a a_length b b_length)
    (record { accepted = true; number = no_refusal; place = 0; yes = same (the (sheet_tree a a_length)) (the (sheet_tree b b_length)) default_hint })
    (λ n. uncompared n)

-- ---- showing: the part of the sheet that is shown, if one is
pub record Part : Type 0 where
  pub start : ℕ
  pub end : ℕ

abbrev pub part : ℕ → ℕ → Part
part s e = record { start = s; end = e }

-- the octets of a part
unfoldable pub octets_at : List ℕ → Part → List ℕ
octets_at canonical p = take (p.end - p.start) (drop p.start canonical)

-- the row of a node of a sheet with its own table: none where row 7 or 8 applies
unfoldable pub shown_row : List ℕ → ℕ → List ℕ → ℕ → ℕ → Option Row
shown_row canonical len table count node = chain (own_tree canonical len table count) (λ t. pick (ltb node (nodes t)) (some (row_of t node)) none)

-- S 8.5: of a string with a hint, the part where the hint stands
unfoldable pub hint_part : List ℕ → ℕ → List ℕ → ℕ → ℕ → Option Part
hint_part canonical len table count node = chain (shown_row canonical len table count node) (λ r. pick (eqb r.kind 1) (some (part r.hint_start r.hint_end)) none)

-- S 8.5: of any node of a good sheet with its own table, the part where its data stands
unfoldable pub data_part : List ℕ → ℕ → List ℕ → ℕ → ℕ → Option Part
data_part canonical len table count node = chain (shown_row canonical len table count node) (λ r. some (part r.data_start r.data_end))

unfoldable pub shown_or : Option Part → List ℕ → List ℕ → List ℕ
shown_or none canonical other = other
shown_or (some p) canonical other = octets_at canonical p

-- S 8.5: for all else the default that was lent
unfoldable pub hint_shown : List ℕ → ℕ → List ℕ → ℕ → ℕ → List ℕ → List ℕ
hint_shown canonical len table count node default_hint = shown_or (hint_part canonical len table count node) canonical default_hint

-- S 8.5: for all else an empty part
unfoldable pub data_shown : List ℕ → ℕ → List ℕ → ℕ → ℕ → List ℕ
data_shown canonical len table count node = shown_or (data_part canonical len table count node) canonical []
