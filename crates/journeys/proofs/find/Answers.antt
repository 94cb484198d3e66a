-- `find` meets its contract: the refusal that applies, or the lowest connection that carries the journey.
use Rattle.std.proofs.Common.{rules, ◌≡◌, Err, ◌∙◌}
use Rattle.prelude.proofs.Kit.{ap₂}
use Rattle.journeys.specs.Journey.{carrier}
use Rattle.journeys.proofs.Guarantees.{found_refused, found_told}
use Rattle.journeys.proofs.find.Goals as goal

pub returns-in_err-journey-clause-found : goal.returns-in_err-journey-clause-found
returns-in_err-journey-clause-found c =
    let is : c.from_residual.result ≡ Err c.in_err-journey.field-0.0 = search rules in
    rw is (found_refused _ _ _ c.in_err-journey.ensures.refusal)

pub returns-clause-found : goal.returns-clause-found
returns-clause-found c =
    let lent = c.in_ok-journey.ensures.lent in
    found_told _ _ _ c.in_ok-journey.ensures.refusal (c.lowest_carrier.ensures.lowest ∙ ap₂ carrier lent.0 lent.1)
