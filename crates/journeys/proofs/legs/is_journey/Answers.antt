-- `legs::is_journey` meets its contract: the numbers are asked one after another, up to the first that names no URL.
use Rattle.std.proofs.Common.{rules, length, ◌∙◌}
use Rattle.journeys.proofs.Judging.{named, by_names}
use Rattle.journeys.proofs.Searching.{all_is}
use Rattle.journeys.proofs.legs.is_journey.Goals as goal

pub returns : goal.returns
returns g c =
    let p = c.args.policy.words.now in
    let urls = c.args.urls.now in
    all_is (length urls) (named p urls) c.all.result (search rules) ∙ by_names p urls (search rules) (search rules)
