-- Texts of S 16, of the RFC and of what the RFC leaves open, beside their trees, as one list. The values of escapes, digits and letters
-- stand in the grammar and in the decoder alike, so examples have to pin them.
use mathlib.Core.Path.{◌≡◌, refl}
use mathlib.Core.Option.{Option, none, some}
use mathlib.Core.List.{List, [], ◌∷◌, map}
use Rattle.base.specs.Choice.{member, chain}
use Rattle.model.specs.Decode.{onto, enclose, place, place_in, nestings, only_tree, only_in, nest, decode₁, unbrace, decode₂, canonical_of, braces, lexeme_in, lexemes, decode₃, decode}
use Rattle.model.specs.Lexemes.{close_hint, lexeme, close_strict, strict_lexeme, before, lexemes_by, strict_lexemes}
use Rattle.model.specs.Octets.{is_whitespace, is_alpha, is_simple_punc, is_token_start, is_token_octet, is_printable, hexval, octval, letter, leftover, find, escape}
use Rattle.model.specs.Strings.{bind, skip, number, decimal, first, run, past, hex_of, octal_by, octal_of, escaped, piece_of, quoted_by, upto, also, unhex, two_of, three_of, lastly, four_of, joined, unbase, decoded, marked, sized, after_number, simple, after_length, verbatim_of}
use Rattle.model.specs.Tree.{Tree, plain, hinted, list, nil, cons}

cases : List (Option Tree × Option Tree)
cases =
    -- form 1: 3:abc<LF>
    (decode 1 (51 ∷ 58 ∷ 97 ∷ 98 ∷ 99 ∷ 10 ∷ []), none)
    -- form 3: 3:abc<LF>
    ∷ (decode 3 (51 ∷ 58 ∷ 97 ∷ 98 ∷ 99 ∷ 10 ∷ []), some (plain (97 ∷ 98 ∷ 99 ∷ [])))
    -- form 3: "\377"
    ∷ (decode 3 (34 ∷ 92 ∷ 51 ∷ 55 ∷ 55 ∷ 34 ∷ []), some (plain (255 ∷ [])))
    -- form 3: "\400"
    ∷ (decode 3 (34 ∷ 92 ∷ 52 ∷ 48 ∷ 48 ∷ 34 ∷ []), none)
    -- form 3: (((
    ∷ (decode 3 (40 ∷ 40 ∷ 40 ∷ []), none)
    -- form 3: ({3Rt=} "1997" murphy 3:{XC++})
    ∷ (decode 3 (40 ∷ 123 ∷ 51 ∷ 82 ∷ 116 ∷ 61 ∷ 125 ∷ 32 ∷ 34 ∷ 49 ∷ 57 ∷ 57 ∷ 55 ∷ 34 ∷ 32 ∷ 109 ∷ 117 ∷ 114 ∷ 112 ∷ 104 ∷ 121 ∷ 32 ∷ 51 ∷ 58 ∷ 123 ∷ 88 ∷ 67 ∷ 43 ∷ 43 ∷ 125 ∷ 41 ∷ []), none)
    -- form 3:  <HT><LF><VT><FF><CR>a<CR><FF><VT><LF><HT>
    ∷ (decode 3 (32 ∷ 9 ∷ 10 ∷ 11 ∷ 12 ∷ 13 ∷ 97 ∷ 13 ∷ 12 ∷ 11 ∷ 10 ∷ 9 ∷ 32 ∷ []), some (plain (97 ∷ [])))
    -- form 3: "\b\t\v\n\f\r\"\'\\"
    ∷ (decode 3 (34 ∷ 92 ∷ 98 ∷ 92 ∷ 116 ∷ 92 ∷ 118 ∷ 92 ∷ 110 ∷ 92 ∷ 102 ∷ 92 ∷ 114 ∷ 92 ∷ 34 ∷ 92 ∷ 39 ∷ 92 ∷ 92 ∷ 34 ∷ []), some (plain (8 ∷ 9 ∷ 11 ∷ 10 ∷ 12 ∷ 13 ∷ 34 ∷ 39 ∷ 92 ∷ [])))
    -- form 3: "\a"
    ∷ (decode 3 (34 ∷ 92 ∷ 97 ∷ 34 ∷ []), some (plain (7 ∷ [])))
    -- form 3: "\?"
    ∷ (decode 3 (34 ∷ 92 ∷ 63 ∷ 34 ∷ []), some (plain (63 ∷ [])))
    -- form 3: "\A"
    ∷ (decode 3 (34 ∷ 92 ∷ 65 ∷ 34 ∷ []), none)
    -- form 3: "\B"
    ∷ (decode 3 (34 ∷ 92 ∷ 66 ∷ 34 ∷ []), none)
    -- form 3: "\x4aZ\xBf"
    ∷ (decode 3 (34 ∷ 92 ∷ 120 ∷ 52 ∷ 97 ∷ 90 ∷ 92 ∷ 120 ∷ 66 ∷ 102 ∷ 34 ∷ []), some (plain (74 ∷ 90 ∷ 191 ∷ [])))
    -- form 3: "\X4a"
    ∷ (decode 3 (34 ∷ 92 ∷ 88 ∷ 52 ∷ 97 ∷ 34 ∷ []), none)
    -- form 3: "a\<CR>b\<LF>c\<CR><LF>d\<LF><CR>e"
    ∷ (decode 3 (34 ∷ 97 ∷ 92 ∷ 13 ∷ 98 ∷ 92 ∷ 10 ∷ 99 ∷ 92 ∷ 13 ∷ 10 ∷ 100 ∷ 92 ∷ 10 ∷ 13 ∷ 101 ∷ 34 ∷ []), some (plain (97 ∷ 98 ∷ 99 ∷ 100 ∷ 101 ∷ [])))
    -- form 3: "\<CR><CR>"
    ∷ (decode 3 (34 ∷ 92 ∷ 13 ∷ 13 ∷ 34 ∷ []), none)
    -- form 3: "a<HT>b"
    ∷ (decode 3 (34 ∷ 97 ∷ 9 ∷ 98 ∷ 34 ∷ []), none)
    -- form 3: 3#61 6 2<LF>63 #
    ∷ (decode 3 (51 ∷ 35 ∷ 54 ∷ 49 ∷ 32 ∷ 54 ∷ 32 ∷ 50 ∷ 10 ∷ 54 ∷ 51 ∷ 32 ∷ 35 ∷ []), some (plain (97 ∷ 98 ∷ 99 ∷ [])))
    -- form 3: #aBcDeF09#
    ∷ (decode 3 (35 ∷ 97 ∷ 66 ∷ 99 ∷ 68 ∷ 101 ∷ 70 ∷ 48 ∷ 57 ∷ 35 ∷ []), some (plain (171 ∷ 205 ∷ 239 ∷ 9 ∷ [])))
    -- form 3: #6g#
    ∷ (decode 3 (35 ∷ 54 ∷ 103 ∷ 35 ∷ []), none)
    -- form 3: |AZaz09+/|
    ∷ (decode 3 (124 ∷ 65 ∷ 90 ∷ 97 ∷ 122 ∷ 48 ∷ 57 ∷ 43 ∷ 47 ∷ 124 ∷ []), some (plain (1 ∷ 150 ∷ 179 ∷ 211 ∷ 223 ∷ 191 ∷ [])))
    -- form 3: |YQ|
    ∷ (decode 3 (124 ∷ 89 ∷ 81 ∷ 124 ∷ []), some (plain (97 ∷ [])))
    -- form 3: |YQ=|
    ∷ (decode 3 (124 ∷ 89 ∷ 81 ∷ 61 ∷ 124 ∷ []), some (plain (97 ∷ [])))
    -- form 3: |Y Q = = |
    ∷ (decode 3 (124 ∷ 89 ∷ 32 ∷ 81 ∷ 32 ∷ 61 ∷ 32 ∷ 61 ∷ 32 ∷ 124 ∷ []), some (plain (97 ∷ [])))
    -- form 3: |YQ===|
    ∷ (decode 3 (124 ∷ 89 ∷ 81 ∷ 61 ∷ 61 ∷ 61 ∷ 124 ∷ []), none)
    -- form 3: |YR==|
    ∷ (decode 3 (124 ∷ 89 ∷ 82 ∷ 61 ∷ 61 ∷ 124 ∷ []), none)
    -- form 3: |YWJ|
    ∷ (decode 3 (124 ∷ 89 ∷ 87 ∷ 74 ∷ 124 ∷ []), none)
    -- form 2: {MDo=}
    ∷ (decode 2 (123 ∷ 77 ∷ 68 ∷ 111 ∷ 61 ∷ 125 ∷ []), some (plain []))
    -- form 2: {MDp=}
    ∷ (decode 2 (123 ∷ 77 ∷ 68 ∷ 112 ∷ 61 ∷ 125 ∷ []), none)
    -- form 3: |YWI|
    ∷ (decode 3 (124 ∷ 89 ∷ 87 ∷ 73 ∷ 124 ∷ []), some (plain (97 ∷ 98 ∷ [])))
    -- form 3: |YWI=|
    ∷ (decode 3 (124 ∷ 89 ∷ 87 ∷ 73 ∷ 61 ∷ 124 ∷ []), some (plain (97 ∷ 98 ∷ [])))
    -- form 3: |YWI==|
    ∷ (decode 3 (124 ∷ 89 ∷ 87 ∷ 73 ∷ 61 ∷ 61 ∷ 124 ∷ []), none)
    -- form 3: |YWJj=|
    ∷ (decode 3 (124 ∷ 89 ∷ 87 ∷ 74 ∷ 106 ∷ 61 ∷ 124 ∷ []), none)
    -- form 3: |=|
    ∷ (decode 3 (124 ∷ 61 ∷ 124 ∷ []), none)
    -- form 3: |Y|
    ∷ (decode 3 (124 ∷ 89 ∷ 124 ∷ []), none)
    -- form 3: |YQ==YQ==|
    ∷ (decode 3 (124 ∷ 89 ∷ 81 ∷ 61 ∷ 61 ∷ 89 ∷ 81 ∷ 61 ∷ 61 ∷ 124 ∷ []), none)
    -- form 3: ||
    ∷ (decode 3 (124 ∷ 124 ∷ []), some (plain ([])))
    -- form 3: (0"" 0## 0|| 0:)
    ∷ (decode 3 (40 ∷ 48 ∷ 34 ∷ 34 ∷ 32 ∷ 48 ∷ 35 ∷ 35 ∷ 32 ∷ 48 ∷ 124 ∷ 124 ∷ 32 ∷ 48 ∷ 58 ∷ 41 ∷ []), some (list (cons (plain ([])) (cons (plain ([])) (cons (plain ([])) (cons (plain ([])) nil))))))
    -- form 3: 2"a"
    ∷ (decode 3 (50 ∷ 34 ∷ 97 ∷ 34 ∷ []), none)
    -- form 3: 1 :a
    ∷ (decode 3 (49 ∷ 32 ∷ 58 ∷ 97 ∷ []), none)
    -- form 3: 1"a"
    ∷ (decode 3 (49 ∷ 34 ∷ 97 ∷ 34 ∷ []), some (plain (97 ∷ [])))
    -- form 3: 3:ab
    ∷ (decode 3 (51 ∷ 58 ∷ 97 ∷ 98 ∷ []), none)
    -- form 3: (a3"xyz"b)
    ∷ (decode 3 (40 ∷ 97 ∷ 51 ∷ 34 ∷ 120 ∷ 121 ∷ 122 ∷ 34 ∷ 98 ∷ 41 ∷ []), some (list (cons (plain (97 ∷ 51 ∷ [])) (cons (plain (120 ∷ 121 ∷ 122 ∷ [])) (cons (plain (98 ∷ [])) nil)))))
    -- form 3: -./_:*+=9
    ∷ (decode 3 (45 ∷ 46 ∷ 47 ∷ 95 ∷ 58 ∷ 42 ∷ 43 ∷ 61 ∷ 57 ∷ []), some (plain (45 ∷ 46 ∷ 47 ∷ 95 ∷ 58 ∷ 42 ∷ 43 ∷ 61 ∷ 57 ∷ [])))
    -- form 3: 9a
    ∷ (decode 3 (57 ∷ 97 ∷ []), none)
    -- form 3: ( [ "" ] a)
    ∷ (decode 3 (40 ∷ 32 ∷ 91 ∷ 32 ∷ 34 ∷ 34 ∷ 32 ∷ 93 ∷ 32 ∷ 97 ∷ 41 ∷ []), some (list (cons (hinted ([]) (97 ∷ [])) nil)))
    -- form 3: [a][b]c
    ∷ (decode 3 (91 ∷ 97 ∷ 93 ∷ 91 ∷ 98 ∷ 93 ∷ 99 ∷ []), none)
    -- form 3: [a]
    ∷ (decode 3 (91 ∷ 97 ∷ 93 ∷ []), none)
    -- form 3: (a)b
    ∷ (decode 3 (40 ∷ 97 ∷ 41 ∷ 98 ∷ []), none)
    -- form 3: )
    ∷ (decode 3 (41 ∷ []), none)
    -- form 2: {KDE6YTE6YjE<LF>6Yyk= }
    ∷ (decode 2 (123 ∷ 75 ∷ 68 ∷ 69 ∷ 54 ∷ 89 ∷ 84 ∷ 69 ∷ 54 ∷ 89 ∷ 106 ∷ 69 ∷ 10 ∷ 54 ∷ 89 ∷ 121 ∷ 107 ∷ 61 ∷ 32 ∷ 125 ∷ []), some (list (cons (plain (97 ∷ [])) (cons (plain (98 ∷ [])) (cons (plain (99 ∷ [])) nil)))))
    -- form 2: {KCk}
    ∷ (decode 2 (123 ∷ 75 ∷ 67 ∷ 107 ∷ 125 ∷ []), some (list nil))
    -- form 2:  {KCk=}
    ∷ (decode 2 (32 ∷ 123 ∷ 75 ∷ 67 ∷ 107 ∷ 61 ∷ 125 ∷ []), none)
    -- form 2: {KCk=}
    ∷ (decode 2 (123 ∷ 75 ∷ 67 ∷ 107 ∷ 61 ∷ 125 ∷ 32 ∷ []), none)
    -- form 2: {}
    ∷ (decode 2 (123 ∷ 125 ∷ []), none)
    -- form 2: {KDE6YTE6YjE6YykA}
    ∷ (decode 2 (123 ∷ 75 ∷ 68 ∷ 69 ∷ 54 ∷ 89 ∷ 84 ∷ 69 ∷ 54 ∷ 89 ∷ 106 ∷ 69 ∷ 54 ∷ 89 ∷ 121 ∷ 107 ∷ 65 ∷ 125 ∷ []), none)
    -- form 2: ()
    ∷ (decode 2 (40 ∷ 41 ∷ []), some (list nil))
    -- form 1: ( )
    ∷ (decode 1 (40 ∷ 32 ∷ 41 ∷ []), none)
    -- form 1: [1:x](1:a)
    ∷ (decode 1 (91 ∷ 49 ∷ 58 ∷ 120 ∷ 93 ∷ 40 ∷ 49 ∷ 58 ∷ 97 ∷ 41 ∷ []), none)
    -- form 1: ([0:]1:a)
    ∷ (decode 1 (40 ∷ 91 ∷ 48 ∷ 58 ∷ 93 ∷ 49 ∷ 58 ∷ 97 ∷ 41 ∷ []), some (list (cons (hinted ([]) (97 ∷ [])) nil)))
    -- form 1: 1"a"
    ∷ (decode 1 (49 ∷ 34 ∷ 97 ∷ 34 ∷ []), none)
    -- form 1: 00:
    ∷ (decode 1 (48 ∷ 48 ∷ 58 ∷ []), none)
    -- form 1: 99999999999999999999:a
    ∷ (decode 1 (57 ∷ 57 ∷ 57 ∷ 57 ∷ 57 ∷ 57 ∷ 57 ∷ 57 ∷ 57 ∷ 57 ∷ 57 ∷ 57 ∷ 57 ∷ 57 ∷ 57 ∷ 57 ∷ 57 ∷ 57 ∷ 57 ∷ 57 ∷ 58 ∷ 97 ∷ []), none)
    -- form 0: ()
    ∷ (decode 0 (40 ∷ 41 ∷ []), none)
    -- form 5: ()
    ∷ (decode 5 (40 ∷ 41 ∷ []), none)
    -- form 4: {MzphYmM=}
    ∷ (decode 4 (123 ∷ 77 ∷ 122 ∷ 112 ∷ 104 ∷ 89 ∷ 109 ∷ 77 ∷ 61 ∷ 125 ∷ []), some (plain (97 ∷ 98 ∷ 99 ∷ [])))
    -- form 3: {MzphYmM=}
    ∷ (decode 3 (123 ∷ 77 ∷ 122 ∷ 112 ∷ 104 ∷ 89 ∷ 109 ∷ 77 ∷ 61 ∷ 125 ∷ []), none)
    -- form 4:  (a{MTpi}c)
    ∷ (decode 4 (32 ∷ 40 ∷ 97 ∷ 123 ∷ 77 ∷ 84 ∷ 112 ∷ 105 ∷ 125 ∷ 99 ∷ 41 ∷ 32 ∷ []), some (list (cons (plain (97 ∷ [])) (cons (plain (98 ∷ [])) (cons (plain (99 ∷ [])) nil)))))
    -- form 4: ({ KDE 6YSk })
    ∷ (decode 4 (40 ∷ 123 ∷ 32 ∷ 75 ∷ 68 ∷ 69 ∷ 32 ∷ 54 ∷ 89 ∷ 83 ∷ 107 ∷ 32 ∷ 125 ∷ 41 ∷ []), some (list (cons (list (cons (plain (97 ∷ [])) nil)) nil)))
    -- form 4: [x]{MTpi}
    ∷ (decode 4 (91 ∷ 120 ∷ 93 ∷ 123 ∷ 77 ∷ 84 ∷ 112 ∷ 105 ∷ 125 ∷ []), none)
    -- form 4: [{MTpi}]x
    ∷ (decode 4 (91 ∷ 123 ∷ 77 ∷ 84 ∷ 112 ∷ 105 ∷ 125 ∷ 93 ∷ 120 ∷ []), none)
    -- form 4: 3{MTpi}
    ∷ (decode 4 (51 ∷ 123 ∷ 77 ∷ 84 ∷ 112 ∷ 105 ∷ 125 ∷ []), none)
    -- form 4: ({MTpiMTpi})
    ∷ (decode 4 (40 ∷ 123 ∷ 77 ∷ 84 ∷ 112 ∷ 105 ∷ 77 ∷ 84 ∷ 112 ∷ 105 ∷ 125 ∷ 41 ∷ []), none)
    -- form 4: {KA==}{KQ==}
    ∷ (decode 4 (123 ∷ 75 ∷ 65 ∷ 61 ∷ 61 ∷ 125 ∷ 123 ∷ 75 ∷ 81 ∷ 61 ∷ 61 ∷ 125 ∷ []), none)
    -- form 4: {e01UcGl9}
    ∷ (decode 4 (123 ∷ 101 ∷ 48 ∷ 49 ∷ 85 ∷ 99 ∷ 71 ∷ 108 ∷ 57 ∷ 125 ∷ []), none)
    -- form 4: {KDE6YTE6YjE6YykA}
    ∷ (decode 4 (123 ∷ 75 ∷ 68 ∷ 69 ∷ 54 ∷ 89 ∷ 84 ∷ 69 ∷ 54 ∷ 89 ∷ 106 ∷ 69 ∷ 54 ∷ 89 ∷ 121 ∷ 107 ∷ 65 ∷ 125 ∷ []), none)
    -- form 4: ({3Rt=} "1997" murphy 3:{XC++})
    ∷ (decode 4 (40 ∷ 123 ∷ 51 ∷ 82 ∷ 116 ∷ 61 ∷ 125 ∷ 32 ∷ 34 ∷ 49 ∷ 57 ∷ 57 ∷ 55 ∷ 34 ∷ 32 ∷ 109 ∷ 117 ∷ 114 ∷ 112 ∷ 104 ∷ 121 ∷ 32 ∷ 51 ∷ 58 ∷ 123 ∷ 88 ∷ 67 ∷ 43 ∷ 43 ∷ 125 ∷ 41 ∷ []), none)
    ∷ []

read : map (λ c. c.0) cases ≡ map (λ c. c.1) cases
unfolding cases member chain is_whitespace is_alpha is_simple_punc is_token_start is_token_octet is_printable hexval octval letter leftover find escape bind skip number decimal first run past hex_of octal_by octal_of escaped piece_of quoted_by upto also unhex two_of three_of lastly four_of joined unbase decoded marked sized after_number simple after_length verbatim_of close_hint lexeme close_strict strict_lexeme before lexemes_by lexemes strict_lexemes onto enclose place place_in nestings only_tree only_in nest decode₁ unbrace decode₂ canonical_of braces lexeme_in decode₃ decode
read = refl
