-- `Journey::url_at` meets its contract: what is asked for in place of a URL, and that it is one.
use Rattle.prelude.proofs.Kit.{◌∙◌, ap}
use Rattle.machine.specs.Policy.{upgraded}
use Rattle.journeys.proofs.Judging.{there}
use Rattle.journeys.proofs.legs.Journey.url_at.Goals as goal

pub returns-clause-asked : goal.returns-clause-asked
returns-clause-asked g c = c.upgraded.ensures ∙ ap (upgraded c.args.self.policy.words.now) c.from.ensures

pub returns-clause-there : goal.returns-clause-there
returns-clause-there g c = let j = c.args.self in there j.policy.words.now j.urls.now j.good c.args.place _ _ c.requires c.from.ensures c.upgraded.ensures
