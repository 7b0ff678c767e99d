-- Each spelling written.
use Prim.Native.Nat.{ℕ, ◌+◌, ◌-◌, ◌/◌, ◌%◌, ◌≤◌, ◌<◌}
use native.Mathlib.Omega.{arith}
use mathlib.Core.Path.{◌≡◌, refl, sym, ap, ◌∙◌}
use mathlib.Core.Bool.{true}
use mathlib.Core.List.{List, [], ◌∷◌, ◌++◌, append_assoc}
use lib.ListN.{length, take, drop, get_or, length-append}
use borrow.Author.Tests.{lt-ltb, le-ltb, eq-eqb, ne_eqb, eqb-true}
use Rattle.base.specs.Choice.{among, every}
use Rattle.base.proofs.Cases.{by-eq, differ, picked, unpicked}
use Rattle.base.proofs.Lists.{every-cases}
use Rattle.model.specs.Write.{quote_one, quote_all, hex_digit, hex_all}
use Rattle.octets.specs.Classes.{Class}
use Rattle.scan.specs.Runs.{Under, Reach}
use Rattle.scan.proofs.Places.{part-more}
use Rattle.scan.proofs.Reaching.{reach-by}
use Rattle.blocks.specs.Fronts.{Front}
use Rattle.blocks.proofs.Laws.{front-both}
use Rattle.spelling.specs.Spelled.{cut, hex_pair, Standing, Escaping, Quotable}
use Rattle.spelling.proofs.Cuts.{cut-none, cut-one, cut-length}
use Rattle.spelling.proofs.Filling.{Filling, fill_start, fill-room, fill_on, fill_done}
use Rattle.spelling.proofs.Judging.{class-unprinted, print-past}

-- ---- octets between quotation marks

quote-over : (b c : ℕ) → Class b c → 4 ≤ c → quote_one b ≡ b ∷ []
unfolding quote_one
quote-over b c k h = unpicked _ _ (k.quote ∙ ne_eqb c 1 (λ e. omega arith)) ∙ unpicked _ _ (k.backslash ∙ ne_eqb c 2 (λ e. omega arith))

quote-under : (b c : ℕ) → Class b c → c < 4 → among 32 126 b ≡ true → quote_one b ≡ 92 ∷ b ∷ []
unfolding quote_one
quote-under b c k h t =
    by-eq c 1
    (λ e. let z : b ≡ 34 = eqb-true b 34 (k.quote ∙ eq-eqb c 1 e) in rw z)
    (λ n. by-eq c 2
    (λ e. let z : b ≡ 92 = eqb-true b 92 (k.backslash ∙ eq-eqb c 2 e) in rw z)
    (λ m. differ t (class-unprinted b c k h n m)))

quote-one : (b : ℕ) (s : List ℕ) → quote_all (b ∷ s) ≡ quote_one b ++ quote_all s
unfolding quote_all
quote-one b s = refl

module _ (src : List ℕ) (end : ℕ) (long : end ≤ length src) where
  quote-here : (i : ℕ) → i < end → (g : List ℕ) → quote_one (get_or src i 0) ≡ g → quote_all (cut src i end) ≡ g ++ quote_all (cut src (i + 1) end)
  quote-here i h g e =
      ap quote_all (cut-one src i end h long) ∙ quote-one (get_or src i 0) (cut src (i + 1) end) ∙ ap (λ (x : List ℕ). x ++ quote_all (cut src (i + 1) end)) e

  -- those that stand for themselves
  quote-past : (start from : ℕ) → Standing src start from → from ≤ end → quote_all (cut src start end) ≡ cut src start from ++ quote_all (cut src from end)
  quote-past start from w h =
      reach-by (λ (i : ℕ). quote_all (cut src start end) ≡ cut src start i ++ quote_all (cut src i end)) src start from 4 from w
      (rw (cut-none src start start (omega arith)))
      (λ i f l a e.
      e ∙ ap (λ (x : List ℕ). cut src start i ++ x) (quote-here i (omega arith) (get_or src i 0 ∷ []) (quote-over (get_or src i 0) a.class a.is a.over))
      ∙ sym (append_assoc (cut src start i) (get_or src i 0 ∷ []) (quote_all (cut src (i + 1) end)))
      ∙ ap (λ (x : List ℕ). x ++ quote_all (cut src (i + 1) end)) (part-more src start i f (omega arith)))

reach-standing : (src : List ℕ) (start end r : ℕ) → Reach src start end 4 r → Standing src start r
reach-standing src start end r w = record { from = w.from; within = omega arith; all = w.all; stop = λ l. absurd (omega arith) }

-- ---- the loop over what is escaped

pub record Escapes (src : List ℕ) (from end pos : ℕ) (out₀ out : List ℕ) (i o : ℕ) : Type 0 where
  pub rest : Escaping src i end
  pub put : Filling (quote_all (cut src from end)) pos out₀ out (quote_all (cut src i end)) o

pub escape-start : (src : List ℕ) (from end pos : ℕ) (out : List ℕ) → Escaping src from end → pos + length (quote_all (cut src from end)) + 16 ≤ length out → Escapes src from end pos out out from pos
escape-start src from end pos out e h = record { rest = e; put = fill_start (quote_all (cut src from end)) pos out h }

module _ (src : List ℕ) (from end pos : ℕ) (out₀ out : List ℕ) (i o : ℕ) (w : Escapes src from end pos out₀ out i o) where
  pub escape-long : length out ≡ length out₀
  escape-long = w.put.long

  pub escape_end : end ≤ i → Front (quote_all (cut src from end)) pos out₀ out o
  unfolding quote_all
  escape_end h = fill_done (quote_all (cut src from end)) pos out₀ out (quote_all (cut src i end)) o w.put (ap quote_all (cut-none src i end h))

  module _ (h : i < end) where
    pub escape-room : o + 2 ≤ length out
    escape-room = omega (arith, w.put.spare, w.put.total, w.put.long)

    module _ (s : ℕ) (r : Reach src (i + 1) end 4 s) where
      abbrev turned : List ℕ
      turned = (92 ∷ get_or src i 0 ∷ []) ++ cut src (i + 1) s

      -- the octet is printable, and so is what follows it
      first-printed : among 32 126 (get_or src i 0) ≡ true
      first-printed =
          every-cases (among 32 126) (get_or src i 0) (cut src (i + 1) end) (ap (every (among 32 126)) (sym (cut-one src i end h w.rest.long)) ∙ w.rest.printed) (λ t u. t)

      rest-printed : every (among 32 126) (cut src s end) ≡ true
      rest-printed =
          every-cases (among 32 126) (get_or src i 0) (cut src (i + 1) end) (ap (every (among 32 126)) (sym (cut-one src i end h w.rest.long)) ∙ w.rest.printed)
          (λ t u. sym (print-past src (i + 1) s end w.rest.long (reach-standing src (i + 1) end s r) r.within) ∙ u)

      splits : quote_all (cut src i end) ≡ turned ++ quote_all (cut src s end)
      splits =
          let u : Under 4 (get_or src i 0) = w.rest.due h in
          quote-here src end w.rest.long i h (92 ∷ get_or src i 0 ∷ []) (quote-under (get_or src i 0) u.class u.is u.under first-printed)
          ∙ ap (λ (x : List ℕ). (92 ∷ get_or src i 0 ∷ []) ++ x) (quote-past src end w.rest.long (i + 1) s (reach-standing src (i + 1) end s r) r.within)

      turned-length : length turned ≡ 2 + (s - (i + 1))
      turned-length = omega (arith, cut-length src (i + 1) s (omega (arith, r.within, w.rest.long)))

      module _ (out' : List ℕ) (p : ℕ) (f : Front (92 ∷ get_or src i 0 ∷ []) o out out' p) where
        pub copy-source : i + 1 + (s - (i + 1)) ≤ length src
        copy-source = omega (arith, r.from, r.within, w.rest.long)

        pub copy-room : p + (s - (i + 1)) + 16 ≤ length out'
        copy-room =
            omega (arith, f.place, f.long, turned-length, fill-room (quote_all (cut src from end)) pos out₀ out (quote_all (cut src i end)) o w.put turned (quote_all (cut src s end)) splits)

        pub escape-on : (out'' : List ℕ) (q : ℕ) → Front (take (s - (i + 1)) (drop (i + 1) src)) p out' out'' q → Escapes src from end pos out₀ out'' s q
        escape-on out'' q g =
            record {
              rest = record { order = r.within; long = w.rest.long; printed = rest-printed; due = r.stop };
              put =
                  fill_on (quote_all (cut src from end)) pos out₀ out (quote_all (cut src i end)) o w.put turned (quote_all (cut src s end)) splits out'' q
                  (front-both (92 ∷ get_or src i 0 ∷ []) (cut src (i + 1) s) o p q out out' out'' f g);
            }

-- ---- what stands between quotation marks

module _ (src : List ℕ) (start from end pos : ℕ) (out : List ℕ) (q : Quotable src start from end) where
  whole : quote_all (cut src start end) ≡ cut src start from ++ quote_all (cut src from end)
  whole = quote-past src end q.rest.long start from q.standing q.rest.order

  whole_length : length (quote_all (cut src start end)) ≡ from - start + length (quote_all (cut src from end))
  whole_length =
      ap length whole ∙ length-append (cut src start from) (quote_all (cut src from end))
      ∙ ap (λ (n : ℕ). n + length (quote_all (cut src from end))) (cut-length src start from (omega (arith, q.rest.order, q.rest.long)))

  pub octets-source : start + (from - start) ≤ length src
  octets-source = omega (arith, q.standing.from, q.rest.order, q.rest.long)

  module _ (h : pos + length (quote_all (cut src start end)) + 16 ≤ length out) where
    pub octets-room : pos + (from - start) + 16 ≤ length out
    octets-room = omega (arith, whole_length)

    module _ (out' : List ℕ) (o : ℕ) (f : Front (take (from - start) (drop start src)) pos out out' o) where
      pub octets-rest : o + length (quote_all (cut src from end)) + 16 ≤ length out'
      octets-rest = omega (arith, whole_length, f.place, f.long, cut-length src start from (omega (arith, q.rest.order, q.rest.long)))

      pub octets-both : (out'' : List ℕ) (r : ℕ) → Front (quote_all (cut src from end)) o out' out'' r → Front (quote_all (cut src start end)) pos out out'' r
      octets-both out'' r g = rw whole (front-both (cut src start from) (quote_all (cut src from end)) pos o r out out' out'' f g)

-- ---- the digits of octets

hex-one : (b : ℕ) (s : List ℕ) → hex_all (b ∷ s) ≡ hex_pair b ++ hex_all s
unfolding hex_all
hex-one b s = refl

pub record Pairing (src : List ℕ) (start end pos : ℕ) (out₀ out : List ℕ) (i o : ℕ) : Type 0 where
  pub within : i ≤ end
  pub put : Filling (hex_all (cut src start end)) pos out₀ out (hex_all (cut src i end)) o

pub pair-start : (src : List ℕ) (start end pos : ℕ) (out : List ℕ) → start ≤ end → pos + length (hex_all (cut src start end)) + 16 ≤ length out → Pairing src start end pos out out start pos
pair-start src start end pos out h k = record { within = h; put = fill_start (hex_all (cut src start end)) pos out k }

module _ (src : List ℕ) (start end pos : ℕ) (out₀ out : List ℕ) (i o : ℕ) (w : Pairing src start end pos out₀ out i o) where
  pub pair-long : length out ≡ length out₀
  pair-long = w.put.long

  pub pair-room : o + 2 ≤ length out
  pair-room = omega (arith, w.put.spare, w.put.total, w.put.long)

  pub pair_end : end ≤ i → Front (hex_all (cut src start end)) pos out₀ out o
  unfolding hex_all
  pair_end h = fill_done (hex_all (cut src start end)) pos out₀ out (hex_all (cut src i end)) o w.put (ap hex_all (cut-none src i end h))

  pub pair-on : end ≤ length src → i < end → (out' : List ℕ) (r : ℕ) → Front (hex_pair (get_or src i 0)) o out out' r → Pairing src start end pos out₀ out' (i + 1) r
  pair-on long h out' r f =
      record {
        within = omega arith;
        put =
            fill_on (hex_all (cut src start end)) pos out₀ out (hex_all (cut src i end)) o w.put (hex_pair (get_or src i 0)) (hex_all (cut src (i + 1) end))
            (ap hex_all (cut-one src i end h long) ∙ hex-one (get_or src i 0) (cut src (i + 1) end)) out' r f;
      }

pub digit_low : (n : ℕ) → n < 10 → 48 + n ≡ hex_digit n
unfolding hex_digit
digit_low n h = sym (picked _ _ (lt-ltb n 10 h))

pub digit-high : (n : ℕ) → 10 ≤ n → 87 + n ≡ hex_digit n
unfolding hex_digit
digit-high n h = sym (unpicked _ _ (le-ltb n 10 h))

pub pair-front : (b x y pos r : ℕ) (out out' : List ℕ) → x ≡ hex_digit (b / 16) → y ≡ hex_digit (b % 16) → Front (x ∷ y ∷ []) pos out out' r → Front (hex_pair b) pos out out' r
pair-front b x y pos r out out' e f g = rw (sym e, sym f) g
