-- Cases of S 16 and of requests, shown of the definitions that every promise cites, as one list: what is answered, what is wanted.
use Prim.Native.Nat.{ℕ}
use mathlib.Core.Path.{◌≡◌, refl}
use mathlib.Core.Bool.{true}
use mathlib.Core.List.{List, [], ◌∷◌, ◌++◌, map}
use lib.ListN.{length, drop, replicate}
use Rattle.base.specs.Choice.{member, every, equal, chain, is_none}
use Rattle.model.specs.Answers.{verdict, judged, no_form, no_out_form, the, room_checks, text_checks, settled, fits, fitting, sheet_tree, owns, own_tree, Outcome, unchanged_at, unchanged, braced, place_of, telling, filled, reading_checks, reading, replaced, replacing_checks, replacing, Output, written, writing_checks, writing}
use Rattle.model.specs.Automaton.{ended, coming, step_at, run as goes, place as begun}
use Rattle.model.specs.Count.{shut_by}
use Rattle.model.specs.Decode.{onto, enclose, place, place_in, nestings, only_tree, only_in, nest, decode₁, unbrace, decode₂, canonical_of, braces, lexeme_in, lexemes, decode₃, decode}
use Rattle.model.specs.Edit.{join, within, replace}
use Rattle.model.specs.Lexemes.{close_hint, lexeme, close_strict, strict_lexeme, before, lexemes_by, strict_lexemes}
use Rattle.model.specs.Octets.{is_whitespace, is_alpha, is_simple_punc, is_token_start, is_token_octet, is_printable, hexval, octval, letter, leftover, find, escape}
use Rattle.model.specs.Strings.{bind, skip, number, decimal, first, run, past, hex_of, octal_by, octal_of, escaped, piece_of, quoted_by, upto, also, unhex, two_of, three_of, lastly, four_of, joined, unbase, decoded, marked, sized, after_number, simple, after_length, verbatim_of}
use Rattle.model.specs.Table.{rows, parents, flat, table_of}
use Rattle.model.specs.Tree.{digits_up_to, digits, verbatim, canon, nodes, depth}
use Rattle.model.specs.Write.{is_token, quote_one, quote_all, hex_digit, hex_all, shown, advanced, letter_of, base_all, basic, encode}

-- what an entry answers
data Answer : Type 0 where
  outcome : Outcome → Answer
  output : Output → Answer

-- lent space that was in use before: a sheet of 16 octets, a table of three records and two numbers more, 12 octets of output
abbrev sheet : List ℕ
sheet = replicate 16 9

abbrev table : List ℕ
table = replicate 29 9

abbrev out : List ℕ
out = replicate 12 9

-- the space with something in its front
abbrev lent : List ℕ → List ℕ → List ℕ
lent space front = front ++ drop (length front) space

-- accepted, with the length and the node count; what lies past the octets and the records stays
abbrev accepted : ℕ → ℕ → List ℕ → List ℕ → Outcome
accepted n k octets numbers = record { accepted = true; number = 0; place = 0; octets = n; count = k; canonical = lent sheet octets; table = lent table numbers }

abbrev wrote : ℕ → List ℕ → Output
wrote n octets = record { accepted = true; number = 0; place = 0; octets = n; out = lent out octets }

cases : List (Answer × Answer)
cases =
    -- ()
    (outcome (reading 1 (40 ∷ 41 ∷ []) sheet table), outcome (accepted 2 1 (40 ∷ 41 ∷ []) (2 ∷ 0 ∷ 2 ∷ 1 ∷ 0 ∷ 0 ∷ 1 ∷ 1 ∷ 0 ∷ [])))
    -- () in form 2: {KCk=}
    ∷ (output (writing 2 (40 ∷ 41 ∷ []) 2 out), output (wrote 6 (123 ∷ 75 ∷ 67 ∷ 107 ∷ 61 ∷ 125 ∷ [])))
    -- 0:
    ∷ (outcome (reading 1 (48 ∷ 58 ∷ []) sheet table), outcome (accepted 2 1 (48 ∷ 58 ∷ []) (0 ∷ 0 ∷ 2 ∷ 1 ∷ 0 ∷ 0 ∷ 2 ∷ 2 ∷ 0 ∷ [])))
    -- (3:abc[1:x]0:) in form 1
    ∷ (outcome (reading 1 (40 ∷ 51 ∷ 58 ∷ 97 ∷ 98 ∷ 99 ∷ 91 ∷ 49 ∷ 58 ∷ 120 ∷ 93 ∷ 48 ∷ 58 ∷ 41 ∷ []) sheet table), outcome (accepted 14 3 (40 ∷ 51 ∷ 58 ∷ 97 ∷ 98 ∷ 99 ∷ 91 ∷ 49 ∷ 58 ∷ 120 ∷ 93 ∷ 48 ∷ 58 ∷ 41 ∷ []) (2 ∷ 0 ∷ 14 ∷ 3 ∷ 0 ∷ 0 ∷ 1 ∷ 13 ∷ 0 ∷ 0 ∷ 1 ∷ 6 ∷ 1 ∷ 0 ∷ 0 ∷ 3 ∷ 6 ∷ 0 ∷ 1 ∷ 6 ∷ 13 ∷ 1 ∷ 9 ∷ 10 ∷ 13 ∷ 13 ∷ 0 ∷ [])))
    --  ( abc [ x ] "" )  in form 3
    ∷ (outcome (reading 3 (32 ∷ 40 ∷ 32 ∷ 97 ∷ 98 ∷ 99 ∷ 32 ∷ 91 ∷ 32 ∷ 120 ∷ 32 ∷ 93 ∷ 32 ∷ 34 ∷ 34 ∷ 32 ∷ 41 ∷ 32 ∷ []) sheet table), outcome (accepted 14 3 (40 ∷ 51 ∷ 58 ∷ 97 ∷ 98 ∷ 99 ∷ 91 ∷ 49 ∷ 58 ∷ 120 ∷ 93 ∷ 48 ∷ 58 ∷ 41 ∷ []) (2 ∷ 0 ∷ 14 ∷ 3 ∷ 0 ∷ 0 ∷ 1 ∷ 13 ∷ 0 ∷ 0 ∷ 1 ∷ 6 ∷ 1 ∷ 0 ∷ 0 ∷ 3 ∷ 6 ∷ 0 ∷ 1 ∷ 6 ∷ 13 ∷ 1 ∷ 9 ∷ 10 ∷ 13 ∷ 13 ∷ 0 ∷ [])))
    -- {KDM6YWJjWzE6eF0wOik=} in form 2
    ∷ (outcome (reading 2 (123 ∷ 75 ∷ 68 ∷ 77 ∷ 54 ∷ 89 ∷ 87 ∷ 74 ∷ 106 ∷ 87 ∷ 122 ∷ 69 ∷ 54 ∷ 101 ∷ 70 ∷ 48 ∷ 119 ∷ 79 ∷ 105 ∷ 107 ∷ 61 ∷ 125 ∷ []) sheet table), outcome (accepted 14 3 (40 ∷ 51 ∷ 58 ∷ 97 ∷ 98 ∷ 99 ∷ 91 ∷ 49 ∷ 58 ∷ 120 ∷ 93 ∷ 48 ∷ 58 ∷ 41 ∷ []) (2 ∷ 0 ∷ 14 ∷ 3 ∷ 0 ∷ 0 ∷ 1 ∷ 13 ∷ 0 ∷ 0 ∷ 1 ∷ 6 ∷ 1 ∷ 0 ∷ 0 ∷ 3 ∷ 6 ∷ 0 ∷ 1 ∷ 6 ∷ 13 ∷ 1 ∷ 9 ∷ 10 ∷ 13 ∷ 13 ∷ 0 ∷ [])))
    -- node 1 of it replaced by "hi" in form 3: one octet less, which becomes 0
    ∷ (
      outcome (replacing 3 (34 ∷ 104 ∷ 105 ∷ 34 ∷ []) (lent sheet (40 ∷ 51 ∷ 58 ∷ 97 ∷ 98 ∷ 99 ∷ 91 ∷ 49 ∷ 58 ∷ 120 ∷ 93 ∷ 48 ∷ 58 ∷ 41 ∷ [])) (lent table (2 ∷ 0 ∷ 14 ∷ 3 ∷ 0 ∷ 0 ∷ 1 ∷ 13 ∷ 0 ∷ 0 ∷ 1 ∷ 6 ∷ 1 ∷ 0 ∷ 0 ∷ 3 ∷ 6 ∷ 0 ∷ 1 ∷ 6 ∷ 13 ∷ 1 ∷ 9 ∷ 10 ∷ 13 ∷ 13 ∷ 0 ∷ [])) 14 3 1),
      outcome (record { accepted = true; number = 0; place = 0; octets = 13; count = 3; canonical = lent sheet (40 ∷ 50 ∷ 58 ∷ 104 ∷ 105 ∷ 91 ∷ 49 ∷ 58 ∷ 120 ∷ 93 ∷ 48 ∷ 58 ∷ 41 ∷ 0 ∷ []); table = lent table (2 ∷ 0 ∷ 13 ∷ 3 ∷ 0 ∷ 0 ∷ 1 ∷ 12 ∷ 0 ∷ 0 ∷ 1 ∷ 5 ∷ 1 ∷ 0 ∷ 0 ∷ 3 ∷ 5 ∷ 0 ∷ 1 ∷ 5 ∷ 12 ∷ 1 ∷ 8 ∷ 9 ∷ 12 ∷ 12 ∷ 0 ∷ []) }),
    )
    -- a3:xyz
    ∷ (outcome (reading 3 (97 ∷ 51 ∷ 58 ∷ 120 ∷ 121 ∷ 122 ∷ []) sheet table), outcome (accepted 8 1 (54 ∷ 58 ∷ 97 ∷ 51 ∷ 58 ∷ 120 ∷ 121 ∷ 122 ∷ []) (0 ∷ 0 ∷ 8 ∷ 1 ∷ 0 ∷ 0 ∷ 2 ∷ 8 ∷ 0 ∷ [])))
    -- |YWJjZA|
    ∷ (outcome (reading 3 (124 ∷ 89 ∷ 87 ∷ 74 ∷ 106 ∷ 90 ∷ 65 ∷ 124 ∷ []) sheet table), outcome (accepted 6 1 (52 ∷ 58 ∷ 97 ∷ 98 ∷ 99 ∷ 100 ∷ []) (0 ∷ 0 ∷ 6 ∷ 1 ∷ 0 ∷ 0 ∷ 2 ∷ 6 ∷ 0 ∷ [])))
    -- 03:abc
    ∷ (outcome (reading 3 (48 ∷ 51 ∷ 58 ∷ 97 ∷ 98 ∷ 99 ∷ []) sheet table), outcome (unchanged 3 sheet table))
    -- S 16.5: 3:abcX, 03: and a text cut short; another form tells no place
    ∷ (outcome (reading 1 (51 ∷ 58 ∷ 97 ∷ 98 ∷ 99 ∷ 88 ∷ []) sheet table), outcome (unchanged_at 3 5 sheet table))
    ∷ (outcome (reading 1 (48 ∷ 51 ∷ 58 ∷ []) sheet table), outcome (unchanged_at 3 1 sheet table))
    ∷ (outcome (reading 2 (40 ∷ 51 ∷ 58 ∷ 97 ∷ 98 ∷ []) sheet table), outcome (unchanged_at 3 5 sheet table))
    ∷ (outcome (reading 3 (51 ∷ 58 ∷ 97 ∷ 98 ∷ 99 ∷ 88 ∷ []) sheet table), outcome (unchanged_at 3 0 sheet table))
    ∷ (outcome (replacing 1 (48 ∷ 51 ∷ 58 ∷ []) (lent sheet (40 ∷ 41 ∷ [])) (lent table (2 ∷ 0 ∷ 2 ∷ 1 ∷ 0 ∷ 0 ∷ 1 ∷ 1 ∷ 0 ∷ [])) 2 1 0), outcome (unchanged_at 3 1 (lent sheet (40 ∷ 41 ∷ [])) (lent table (2 ∷ 0 ∷ 2 ∷ 1 ∷ 0 ∷ 0 ∷ 1 ∷ 1 ∷ 0 ∷ []))))
    -- S 16.7: {MzphYmM=} in form 4, and in form 3
    ∷ (outcome (reading 4 (123 ∷ 77 ∷ 122 ∷ 112 ∷ 104 ∷ 89 ∷ 109 ∷ 77 ∷ 61 ∷ 125 ∷ []) sheet table), outcome (accepted 5 1 (51 ∷ 58 ∷ 97 ∷ 98 ∷ 99 ∷ []) (0 ∷ 0 ∷ 5 ∷ 1 ∷ 0 ∷ 0 ∷ 2 ∷ 5 ∷ 0 ∷ [])))
    ∷ (outcome (reading 3 (123 ∷ 77 ∷ 122 ∷ 112 ∷ 104 ∷ 89 ∷ 109 ∷ 77 ∷ 61 ∷ 125 ∷ []) sheet table), outcome (unchanged 3 sheet table))
    -- 3"ab"
    ∷ (outcome (reading 3 (51 ∷ 34 ∷ 97 ∷ 98 ∷ 34 ∷ []) sheet table), outcome (unchanged 3 sheet table))
    -- #616#
    ∷ (outcome (reading 3 (35 ∷ 54 ∷ 49 ∷ 54 ∷ 35 ∷ []) sheet table), outcome (unchanged 3 sheet table))
    -- (1997)
    ∷ (outcome (reading 3 (40 ∷ 49 ∷ 57 ∷ 57 ∷ 55 ∷ 41 ∷ []) sheet table), outcome (unchanged 3 sheet table))
    -- [1:x](1:a)
    ∷ (outcome (reading 3 (91 ∷ 49 ∷ 58 ∷ 120 ∷ 93 ∷ 40 ∷ 49 ∷ 58 ∷ 97 ∷ 41 ∷ []) sheet table), outcome (unchanged 3 sheet table))
    -- no octets
    ∷ (outcome (reading 3 ([]) sheet table), outcome (unchanged 3 sheet table))
    -- the list in form 3: (abc [x]"")
    ∷ (output (writing 3 (40 ∷ 51 ∷ 58 ∷ 97 ∷ 98 ∷ 99 ∷ 91 ∷ 49 ∷ 58 ∷ 120 ∷ 93 ∷ 48 ∷ 58 ∷ 41 ∷ []) 14 out), output (wrote 11 (40 ∷ 97 ∷ 98 ∷ 99 ∷ 32 ∷ 91 ∷ 120 ∷ 93 ∷ 34 ∷ 34 ∷ 41 ∷ [])))
    ∷ []

answers : List Answer
answers = map (λ c. c.0) cases

wanted : List Answer
wanted = map (λ c. c.1) cases

starred : answers ≡ wanted
unfolding answers wanted cases begun goes step_at coming ended shut_by member every equal chain is_none digits_up_to digits verbatim canon nodes depth flat table_of rows parents is_whitespace is_alpha is_simple_punc is_token_start is_token_octet is_printable hexval octval letter leftover find escape bind skip number decimal first run past hex_of octal_by octal_of escaped piece_of quoted_by upto also unhex two_of three_of lastly four_of joined unbase decoded marked sized after_number simple after_length verbatim_of close_hint lexeme close_strict strict_lexeme before lexemes_by lexemes strict_lexemes onto enclose place place_in nestings only_tree only_in nest decode₁ unbrace decode₂ canonical_of braces lexeme_in decode₃ decode is_token quote_one quote_all hex_digit hex_all shown letter_of base_all basic encode advanced join replace within verdict judged no_form the room_checks text_checks settled fits fitting sheet_tree owns own_tree braced place_of telling filled reading_checks reading replaced replacing_checks replacing written writing_checks no_out_form writing
starred = refl
