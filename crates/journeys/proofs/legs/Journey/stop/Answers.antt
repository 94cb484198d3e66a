-- `Journey::stop` meets its contract: the places of a journey are few.
use Rattle.prelude.proofs.Kit.{arith}
use Rattle.journeys.proofs.Judging.{few_urls}
use Rattle.journeys.proofs.legs.Journey.stop.Goals as goal

pub overflow_cast-result : goal.overflow_cast-result
overflow_cast-result g c = let j = c.args.self in omega (arith, c.in-Some.ensures.there.0, few_urls j.policy.words.now j.urls.now j.good.journey)

pub overflow_cast-result-in-None : goal.overflow_cast-result-in-None
overflow_cast-result-in-None g c = let j = c.args.self in omega (arith, few_urls j.policy.words.now j.urls.now j.good.journey)
