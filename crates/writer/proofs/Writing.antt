-- The loop that writes form 3.
use Prim.Native.Nat.{ℕ, ◌+◌, ◌-◌, ◌≤◌, ◌<◌}
use native.Mathlib.Omega.{arith}
use mathlib.Core.Path.{◌≡◌}
use mathlib.Core.Bool.{Bool, true, false}
use mathlib.Core.List.{List}
use lib.ListN.{length, get_or, set}
use Rattle.model.specs.Answers.{the}
use Rattle.model.specs.Decode.{decode₁}
use Rattle.model.specs.Lexemes.{Lexeme, opening, closing, atom, hinting}
use Rattle.model.specs.Write.{advanced}
use Rattle.blocks.specs.Fronts.{Front}
use Rattle.blocks.proofs.Laws.{front-one}
use Rattle.canonical.specs.Lexed.{ItemAt}
use Rattle.canonical.proofs.Lexing.{lex-open, lex-close}
use Rattle.sheets.specs.Places.{start_of, end_of, StringAt, HintAfter}
use Rattle.sheets.proofs.Items.{string-item, other_item, unhinted-item, hint-inside, unfollowed-item, hinted-item}
use Rattle.spelling.specs.Spelled.{cut}
use Rattle.spelling.proofs.Filling.{Filling, fill_start, fill-room, fill_on, fill_done}
use Rattle.writer.specs.Elements.{spelled_one, due_after}
use Rattle.writer.specs.Sheets.{Sheet, Strings}
use Rattle.writer.proofs.Lefts.{Left, left-start, left_end, left-never, Rest, after-lexeme}
use Rattle.writer.proofs.Places.{Next, next-less, open_next, close-next, other_none, plain-order, plain-within, plain-next, hinted-strings, hinted-next}
use Rattle.std.specs.Prelude.{None, Some}
use Rattle.canonical.specs.declared.Item.TheVariants.{Plain, Hinted}

pub record Writing (src : List ℕ) (at : ℕ) (due : Bool) (out₀ out : List ℕ) (o : ℕ) : Type 0 where
  pub rest : List ℕ
  pub left : Left src at due rest
  pub put : Filling (advanced (the (decode₁ src))) 0 out₀ out rest o

pub write-start : (src out : List ℕ) → Sheet src → length (advanced (the (decode₁ src))) + 16 ≤ length out → Writing src 0 false out out 0
write-start src out s h = record { rest = advanced (the (decode₁ src)); left = left-start src s; put = fill_start (advanced (the (decode₁ src))) 0 out (omega arith) }

module _ (src : List ℕ) (at : ℕ) (due : Bool) (out₀ out : List ℕ) (o : ℕ) (w : Writing src at due out₀ out o) where
  pub write-end : length src ≤ at → Front (advanced (the (decode₁ src))) 0 out₀ out o
  write-end h = fill_done (advanced (the (decode₁ src))) 0 out₀ out w.rest o w.put (left_end src at due w.rest w.left h)

  pub write-long : length out ≡ length out₀
  write-long = w.put.long

  module _ (l : Lexeme) (next : ℕ) (n : Next src at l next) where
    remains : Rest src at due w.rest w.left l next
    remains = after-lexeme src at due w.rest w.left l next n

    write-room : o + length (spelled_one due l) + 16 ≤ length out
    write-room = fill-room (advanced (the (decode₁ src))) 0 out₀ out w.rest o w.put (spelled_one due l) remains.rest remains.is

    write-by : (out' : List ℕ) (r : ℕ) → Front (spelled_one due l) o out out' r → Writing src next (due_after l) out₀ out' r
    write-by out' r v =
        record {
          rest = remains.rest;
          left = remains.left;
          put = fill_on (advanced (the (decode₁ src))) 0 out₀ out w.rest o w.put (spelled_one due l) remains.rest remains.is out' r v;
        }

  module _ (h : at < length src) where
    -- the string at a place is asked for first
    module _ (r : ℕ) (v : StringAt src at (Some r)) (s e : ℕ) (x : s ≡ start_of r) (y : e ≡ end_of r) where
      string : ItemAt src at (Some (Plain s e))
      string = rw (x, y) (string-item src at h r v)

      pub string-order : s ≤ e
      string-order = plain-order src at s e string

      pub string-within : e ≤ length src
      string-within = plain-within src at s e string

      pub string-less : length src - e < length src - at
      string-less = next-less src at (atom (cut src s e)) e (plain-next src at s e string)

      pub string-room : o + length (spelled_one due (atom (cut src s e))) + 16 ≤ length out
      string-room = write-room (atom (cut src s e)) e (plain-next src at s e string)

      pub string-written : (out' : List ℕ) (q : ℕ) → Front (spelled_one due (atom (cut src s e))) o out out' q → Writing src e true out₀ out' q
      unfolding due_after
      string-written = write-by (atom (cut src s e)) e (plain-next src at s e string)

    module _ (b : get_or src at 0 ≡ 40) where
      opens : Next src at opening (at + 1)
      opens = open_next src at h (lex-open src at h b)

      pub open-room : o + length (spelled_one due opening) + 16 ≤ length out
      open-room = write-room opening (at + 1) opens

      pub open-written : (out' : List ℕ) (q : ℕ) → Front (spelled_one due opening) o out out' q → Writing src (at + 1) false out₀ out' q
      unfolding due_after
      open-written = write-by opening (at + 1) opens

    module _ (a : get_or src at 0 ≡ 40 → ⊥) (b : get_or src at 0 ≡ 41) where
      closes : Next src at closing (at + 1)
      closes = close-next src at h (lex-close src at h a b)

      pub close-room : o < length out
      close-room = omega (arith, write-room closing (at + 1) closes)

      pub close-written : Writing src (at + 1) true out₀ (set out o 41) (o + 1)
      unfolding due_after spelled_one
      close-written = write-by closing (at + 1) closes (set out o 41) (o + 1) (front-one out o 41 close-room)

    -- no lexeme stands there, which never comes
    module _ (a : get_or src at 0 ≡ 40 → ⊥) (b : get_or src at 0 ≡ 41 → ⊥) where
      never : ItemAt src at None → Front (advanced (the (decode₁ src))) 0 out₀ out o
      never v = left-never src at due w.rest w.left h (other_none src at v)

      pub no-bracket : StringAt src at None → (get_or src at 0 ≡ 91 → ⊥) → Front (advanced (the (decode₁ src))) 0 out₀ out o
      no-bracket v c = never (other_item src at h a b v c)

      module _ (c : get_or src at 0 ≡ 91) where
        pub no-hint : StringAt src (at + 1) None → Front (advanced (the (decode₁ src))) 0 out₀ out o
        no-hint v = never (unhinted-item src at h a b c v)

        module _ (x : ℕ) (v : StringAt src (at + 1) (Some x)) (to : ℕ) (q : to ≡ end_of x) where
          pub hint-within : to ≤ length src
          hint-within = hint-inside src at h a b c x v to q

          pub no-data : HintAfter src to None → Front (advanced (the (decode₁ src))) 0 out₀ out o
          no-data t = never (unfollowed-item src at h a b c x v to q t)

          module _ (d : ℕ) (t : HintAfter src to (Some d)) (from s e : ℕ) (f : from ≡ start_of x) (g : s ≡ start_of d) (k : e ≡ end_of d) where
            hinted : ItemAt src at (Some (Hinted from to s e))
            hinted = rw (f, q, g, k) (hinted-item src at h a b c x v to q d t)

            next : Next src at (hinting (cut src from to) (cut src s e)) e
            next = hinted-next src at from to s e hinted

            pub both-strings : Strings src from to s e
            both-strings = hinted-strings src at from to s e hinted

            pub both-less : length src - e < length src - at
            both-less = next-less src at (hinting (cut src from to) (cut src s e)) e next

            pub both-room : o + length (spelled_one due (hinting (cut src from to) (cut src s e))) + 16 ≤ length out
            both-room = write-room (hinting (cut src from to) (cut src s e)) e next

            pub both-written : (out' : List ℕ) (p : ℕ) → Front (spelled_one due (hinting (cut src from to) (cut src s e))) o out out' p → Writing src e true out₀ out' p
            unfolding due_after
            both-written = write-by (hinting (cut src from to) (cut src s e)) e next
