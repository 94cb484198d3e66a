-- `report::write_owner` meets its contract: the URL or the connection, with its number.
use Rattle.journey.proofs.report.write_owner.Goals as goal

pub returns-then-of_url : goal.returns-then-of_url
returns-then-of_url c = rw c.if-of_url.true c.write_labelled.ensures

pub returns : goal.returns
returns c = rw c.if-of_url.false c.write_labelled-2.ensures
