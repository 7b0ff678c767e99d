use Rattle.std.proofs.Common.{ℕ, List, ◌∙◌, rules, tests}
use Rattle.std.proofs.lemmas.Iterator.{YieldsList-from_slice}
use Rattle.std.proofs.lemmas.Iterator.Search.{all_from_yields_List}
use Rattle.base.specs.Choice.{among}
use Rattle.spelling.specs.Spelled.{cut}
use Rattle.spelling.proofs.Judging.{every-all}
use Rattle.spelling.proofs.printable.Goals as goal

pub returns : goal.returns
returns c =
    let part : List ℕ = cut c.args.src.now c.args.start c.args.end in
    all_from_yields_List (among 32 126) _ _ c.all.result c.all.ensures.ran (YieldsList-from_slice part cc) (λ x b q k. search (rules, tests)) ∙ every-all (among 32 126) part
