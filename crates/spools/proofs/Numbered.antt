-- The number tells whether an answer is an acceptance: it is 0 there, and in a refusal it never is. The place is 0 in all.
use Prim.Native.Nat.{ℕ}
use mathlib.Core.Path.{◌≡◌, refl, sym}
use mathlib.Core.Bool.{true}
use mathlib.Core.List.{List, [], ◌∷◌}
use lib.ListN.{length, take}
use lib.Dec.{eqb, eqb-suc-zero}
use Rattle.base.specs.Choice.{is_none}
use Rattle.model.specs.Answers.{when}
use Rattle.model.proofs.Judging.{judged-holds}
use Rattle.spools.specs.Adding.{adding_checks, old_end, stores, stored, Added, unadded, adding}
use Rattle.spools.specs.Spool.{refusal_damaged, entry, spool_of, the_spool, Opening, shows, unopened, opening}

module _ (area : List ℕ) (k : ℕ) where
  opening-tells : ((opening area k).accepted ≡ eqb (opening area k).number 0) × ((opening area k).place ≡ 0)
  unfolding opening
  opening-tells =
      judged-holds (when refusal_damaged (is_none (spool_of area)) ∷ []) (shows (the_spool (spool_of area)).sheets k) unopened
      (λ (o : Opening). (o.accepted ≡ eqb o.number 0) × (o.place ≡ 0)) (refl, refl) (λ n. (sym (eqb-suc-zero n), refl))

  pub opening-numbered : (opening area k).accepted ≡ eqb (opening area k).number 0
  opening-numbered = opening-tells.0

  pub opening-unplaced : (opening area k).place ≡ 0
  opening-unplaced = opening-tells.1

module _ (area sheet : List ℕ) (len : ℕ) where
  adding-tells : ((adding area sheet len).accepted ≡ eqb (adding area sheet len).number 0) × ((adding area sheet len).place ≡ 0)
  unfolding adding
  adding-tells =
      judged-holds (adding_checks area sheet len)
      (record { accepted = true; number = 0; place = 0; area = stored area (stores (length area) (old_end area) (entry (take len sheet))) }) (λ n. unadded n area)
      (λ (o : Added). (o.accepted ≡ eqb o.number 0) × (o.place ≡ 0)) (refl, refl) (λ n. (sym (eqb-suc-zero n), refl))

  pub adding-numbered : (adding area sheet len).accepted ≡ eqb (adding area sheet len).number 0
  adding-numbered = adding-tells.0

  pub adding-unplaced : (adding area sheet len).place ≡ 0
  adding-unplaced = adding-tells.1
