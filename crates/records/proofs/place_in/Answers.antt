use Rattle.records.proofs.Owning.{owned-readables, owned-owning}
use Rattle.records.proofs.Showing.{place-noted}
use Rattle.records.proofs.place_in.Goals as goal

pub place_by-requires : goal.place_by-requires
place_by-requires c = owned-readables _ _ _ _ _ _ c.own_by-own.ensures

pub returns : goal.returns
returns c = place-noted _ _ _ _ _ _ _ _ _ (owned-owning _ _ _ _ _ _ c.own_by-own.ensures) c.place_by.ensures
