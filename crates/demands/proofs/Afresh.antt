-- S 15.3: correcting equals reading afresh, of every accepted correction, whichever it is.
use Prim.Native.Nat.{ℕ, ◌*◌, ◌/◌, ◌≤◌}
use native.Mathlib.Omega.{arith}
use mathlib.Core.Path.{◌≡◌, refl, sym, ap, ◌∙◌, subst}
use mathlib.Core.Bool.{Bool}
use mathlib.Core.List.{List}
use lib.ListN.{length, take}
use lib.Seq.{take-append_seam, take_at}
use Rattle.model.specs.Answers.{no_form, settled, Outcome, filled, reading}
use Rattle.model.specs.Decode.{decode}
use Rattle.model.specs.Table.{width, table_of}
use Rattle.model.specs.Tree.{Tree, Forest, canon, nodes}
use Rattle.model.proofs.Exact.{canon-complete}
use Rattle.walk.proofs.Tabled.{table-length}
use Rattle.demands.proofs.Read.{reads}
use Rattle.demands.specs.Conditions.{Room, SameResult}
use Rattle.demands.specs.Corrections.{Correction}

-- what stands in the front of lent space that a tree was put in, whatever stood there before
module _ (t : Tree) (old_octets old_count : ℕ) (canonical table : List ℕ) where
  pub front-octets : take (filled t old_octets old_count canonical table).octets (filled t old_octets old_count canonical table).canonical ≡ canon t
  unfolding filled settled
  front-octets = take-append_seam (canon t) _

  pub front-table : take (width * (filled t old_octets old_count canonical table).count) (filled t old_octets old_count canonical table).table ≡ table_of t
  unfolding filled settled
  front-table = take_at (table_of t) _ (width * nodes t) (table-length t)

pub same-tree : (t : Tree) (a b c d : ℕ) (l m n o : List ℕ) → SameResult (filled t a b l m) (filled t c d n o)
unfolding filled
same-tree t a b c d l m n o =
    record {
      accepted = refl;
      octets = refl;
      count = refl;
      canonical = front-octets t a b l m ∙ sym (front-octets t c d n o);
      table = front-table t a b l m ∙ sym (front-table t c d n o);
    }

-- a canonical form that fits, read in form 1
reads-canonical : (t : Tree) (canonical table : List ℕ) → Room t canonical table → reading 1 (canon t) canonical table ≡ filled t 0 0 canonical table
unfolding decode no_form
reads-canonical t canonical table r = reads 1 (canon t) canonical table t refl (omega (arith, r.small)) (canon-complete t) r

-- room is as large as what is lent
pub room_as : {t : Tree} (canonical table canonical' table' : List ℕ) → length canonical' ≡ length canonical → length table' ≡ length table → Room t canonical table → Room t canonical' table'
room_as {t} canonical table canonical' table' h k r =
    record {
      shallow = r.shallow;
      recorded = subst (λ (n : ℕ). nodes t ≤ n / width) (sym k) r.recorded;
      small = r.small;
      roomy = omega (arith, r.roomy);
    }

module _ {canonical table : List ℕ} {len count : ℕ} {old now : Tree} {k n s e : ℕ} {new : Forest} {holding : ℕ → Bool} {answer : Outcome}
    (c : Correction canonical table len count old now k n s e new holding answer) where
  -- S 15.3: the sheet is the corrected tree's canonical form
  pub corrected-sheet : take answer.octets answer.canonical ≡ canon now
  corrected-sheet = ap (λ (o : Outcome). take o.octets o.canonical) c.is ∙ front-octets now len count canonical table

  pub corrected-table : take (width * answer.count) answer.table ≡ table_of now
  corrected-table = ap (λ (o : Outcome). take (width * o.count) o.table) c.is ∙ front-table now len count canonical table

  pub corrected-octets : answer.octets ≡ length (canon now)
  unfolding filled
  corrected-octets = ap (λ (o : Outcome). o.octets) c.is

  pub corrected-count : answer.count ≡ nodes now
  unfolding filled
  corrected-count = ap (λ (o : Outcome). o.count) c.is

  -- S 15.3: as reading in form 1 into as much room, whatever that holds
  pub afresh : (canonical' table' : List ℕ) → length canonical' ≡ length canonical → length table' ≡ length table
      → SameResult answer (reading 1 (take answer.octets answer.canonical) canonical' table')
  afresh canonical' table' h k =
      let f : reading 1 (take answer.octets answer.canonical) canonical' table' ≡ filled now 0 0 canonical' table'
      = ap (λ (s : List ℕ). reading 1 s canonical' table') corrected-sheet ∙ reads-canonical now canonical' table' (room_as canonical table canonical' table' h k c.room) in
      subst (λ (o : Outcome). SameResult answer o) (sym f) (subst (λ (o : Outcome). SameResult o (filled now 0 0 canonical' table')) (sym c.is) (same-tree now len count 0 0 canonical table canonical' table'))
