-- `report::write_report` meets its contract: a refusal, the connection that is told, or the lines of all connections.
use Rattle.prelude.proofs.Kit.{◌∙◌}
use Rattle.journey.proofs.Room.{report_by, none_carries, refused_text, none_text_lem, found_text_lem, none_refused}
use Rattle.journey.proofs.report.write_report.Goals as goal

pub returns-then-found-ne-ACCEPTED : goal.returns-then-found-ne-ACCEPTED
returns-then-found-ne-ACCEPTED c =
    let p = c.args.policy.now in
    let urls = c.args.urls.now in
    let found = c.journey_find-found in
    rw (report_by p urls found.result found.ensures ∙ refused_text p urls found.result c.if-found-ne-ACCEPTED.true)
    (rw c.refusal.ensures.text at c.write_bytes.ensures)

pub returns-then-found-ne-NO_CONNECTION : goal.returns-then-found-ne-NO_CONNECTION
returns-then-found-ne-NO_CONNECTION c =
    let p = c.args.policy.now in
    let urls = c.args.urls.now in
    let found = c.journey_find-found in
    rw (report_by p urls found.result found.ensures ∙ found_text_lem p urls found.result c.if-found-ne-ACCEPTED.false c.if-found-ne-NO_CONNECTION.true)
    c.write_number.ensures

pub write_none-requires-clause-none : goal.write_none-requires-clause-none
write_none-requires-clause-none c =
    let found = c.journey_find-found in
    let lent = c.in-Ok.ensures.lent in
    rw (lent.0, lent.1)
    (none_carries c.args.policy.now c.args.urls.now found.result found.ensures c.if-found-ne-ACCEPTED.false c.if-found-ne-NO_CONNECTION.false)

pub returns-in-Ok : goal.returns-in-Ok
returns-in-Ok c =
    let p = c.args.policy.now in
    let urls = c.args.urls.now in
    let found = c.journey_find-found in
    let lent = c.in-Ok.ensures.lent in
    rw (report_by p urls found.result found.ensures ∙ none_text_lem p urls found.result c.if-found-ne-ACCEPTED.false c.if-found-ne-NO_CONNECTION.false)
    (rw (lent.0, lent.1) at c.write_none.ensures)

pub returns-in_default : goal.returns-in_default
returns-in_default c =
    let found = c.journey_find-found in
    absurd (none_refused c.args.policy.now c.args.urls.now found.result c.in_default.field-0 found.ensures c.if-found-ne-ACCEPTED.false c.in_default.ensures.refusal)
