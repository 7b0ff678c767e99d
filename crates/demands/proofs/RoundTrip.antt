-- S 5.3: what is written in any form, read in that form with room, gives the same octets and their table.
use Prim.Native.Nat.{ℕ, ◌≤◌}
use native.Mathlib.Omega.{arith}
use mathlib.Core.Path.{◌≡◌, ap, ◌∙◌, subst}
use mathlib.Core.Bool.{true, false}
use mathlib.Core.Option.{some}
use mathlib.Core.List.{List}
use lib.ListN.{length, take}
use Rattle.base.proofs.Cases.{picked, not-false, among-true, among_in}
use Rattle.model.specs.Answers.{no_form, no_out_form, the, settled, fits, sheet_tree, filled, reading, writing}
use Rattle.model.specs.Decode.{decode}
use Rattle.model.specs.Table.{table_of, records}
use Rattle.model.specs.Tree.{Tree, nodes, Bytes}
use Rattle.model.specs.Write.{encode}
use Rattle.model.proofs.Bytes.{tree-bytes}
use Rattle.model.proofs.Laws.{round_trip, written-within-source}
use Rattle.lookup.proofs.Sheets.{Sheet, sheet-of, fitted}
use Rattle.demands.proofs.Read.{reads}
use Rattle.demands.proofs.Written.{Writable, accepted-writable, text-left}

-- what is written is of a form that is read
readable : (form : ℕ) → no_out_form form ≡ false → no_form form ≡ false
unfolding no_form no_out_form
readable form e =
    let r : (1 ≤ form) × (form ≤ 3) = among-true 1 3 form (not-false e) in
    picked _ _ (among_in 1 4 form r.0 (omega arith))

-- the same octets and their table, where an accepted writing's octets are read with room
pub reads-back : (form : ℕ) (c : List ℕ) (n : ℕ) (out canonical table : List ℕ)
    → Bytes (take n c) → (writing form c n out).number ≡ 0 → n ≤ length canonical → nodes (the (sheet_tree c n)) ≤ records table
    → reading form (take (writing form c n out).octets (writing form c n out).out) canonical table
    ≡ record {
      accepted = true;
      number = 0;
      place = 0;
      octets = n;
      count = nodes (the (sheet_tree c n));
      canonical = settled canonical 0 (take n c);
      table = settled table 0 (table_of (the (sheet_tree c n)));
    }
unfolding the filled
reads-back form c n out canonical table b e h k =
    let w : Writable form c n out = accepted-writable form c n out e in
    let t : Tree = w.tree in
    let s : Sheet c n t = sheet-of c n t w.is in
    let y : the (sheet_tree c n) ≡ t = ap the w.is in
    let f : fits t ≡ true = fitted t s.fitting.deep s.fitting.long in
    let j : nodes t ≤ records table = subst (λ (u : Tree). nodes u ≤ records table) y k in
    let d : decode form (encode form t) ≡ some t = round_trip form t w.known (tree-bytes t (subst Bytes s.is b)) in
    ap (λ (x : List ℕ). reading form x canonical table) (text-left form c n out e)
    ∙ reads form (encode form t) canonical table t (readable form w.known) (written-within-source form t f) d (record { shallow = s.fitting.deep; recorded = j; small = s.fitting.long; roomy = omega (arith, s.size) })
    ∙ rw (y, s.size, s.is)
