-- `find_stop` meets its contract: the first refusal that applies, or where and why the connection stops.
use Rattle.std.proofs.Common.{rules, ◌≡◌, Err, sym, ◌∙◌}
use Rattle.prelude.proofs.Kit.{ap₂, arith}
use Rattle.prelude.proofs.Choices.{is_true}
use Rattle.journeys.specs.Journey.{stop}
use Rattle.journeys.proofs.Guarantees.{asked}
use Rattle.journeys.proofs.Stopping.{stopped_refused, connection_stops, asked_stopped}
use Rattle.journeys.proofs.find_stop.Goals as goal

pub returns-in_err-journey : goal.returns-in_err-journey
returns-in_err-journey c =
    let is : c.from_residual.result ≡ Err c.in_err-journey.field-0.0 = search rules in
    rw is (stopped_refused _ _ _ _ c.in_err-journey.ensures.refusal)

pub returns-then-connection-ge-NO_CONNECTION : goal.returns-then-connection-ge-NO_CONNECTION
returns-then-connection-ge-NO_CONNECTION c =
    let (formed, journey) = asked _ _ (sym c.in_ok-journey.ensures.refusal) in
    connection_stops _ _ _ (is_true _ formed) (is_true _ journey) c.if-connection-ge-NO_CONNECTION.true

pub stop-requires : goal.stop-requires
stop-requires c = omega (arith, c.if-connection-ge-NO_CONNECTION.false)

pub returns : goal.returns
returns c =
    let lent = c.in_ok-journey.ensures.lent in
    c.stop.ensures
    ∙ ap₂ (λ p urls. stop p urls c.args.connection) lent.0 lent.1
    ∙ sym (asked_stopped _ _ _ (asked _ _ (sym c.in_ok-journey.ensures.refusal)) c.if-connection-ge-NO_CONNECTION.false)
