use mathlib.Core.Path.{◌∙◌}
use lib.ListN.{length-set}
use Rattle.spool.proofs.Putting.{groups-some, whole-put}
use native.Mathlib.Omega.{arith}
use borrow.Author.Rules.{rules}
use Rattle.spool.proofs.whole.put_entry.Goals as goal

pub group_at-requires : goal.group_at-requires
group_at-requires c = (search rules, search (groups-some, arith))

pub bounds-area-at : goal.bounds-area-at
bounds-area-at c =
    omega (arith, groups-some c.args.octets, c.requires.room, c.copy.auto.out, c.put_groups.auto.area, c.put_behind.auto.area)

pub shape_of-area : goal.shape_of-area
shape_of-area c =
    length-set c.copy.new.out c.args.at c.group_at.result ∙ c.copy.auto.out ∙ c.put_groups.auto.area ∙ c.put_behind.auto.area

pub returns : goal.returns
returns c =
    whole-put _ _ _ _ c.requires _ c.groups_len-count.ensures _ _ _ _ _ c.put_behind.ensures c.put_groups.ensures c.copy.ensures c.group_at.ensures
