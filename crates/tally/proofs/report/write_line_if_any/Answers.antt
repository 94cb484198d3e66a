-- `report::write_line_if_any` meets its contract: nothing is written of a URL that has no request.
use Rattle.usage.specs.Lines.{Line}
use Rattle.text.proofs.Writing.{writes_nothing}
use Rattle.tally.proofs.Listing.{no_line, its_line}
use Rattle.tally.proofs.report.write_line_if_any.Goals as goal

pub returns-then-records-eq0 : goal.returns-then-records-eq0
returns-then-records-eq0 c =
    let l : Line = record { url = c.args.url; records = c.args.records; cookies = c.args.cookies } in
    rw (no_line l c.if-records-eq0.true) (writes_nothing c.args.text.now)

pub returns : goal.returns
returns c =
    let l : Line = record { url = c.args.url; records = c.args.records; cookies = c.args.cookies } in
    rw (its_line l c.if-records-eq0.false) c.write_numbers.ensures
