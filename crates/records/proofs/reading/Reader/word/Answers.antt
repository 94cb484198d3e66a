use Rattle.prelude.proofs.Kit.{sym}
use Rattle.std.proofs.lemmas.Result.{err_from_is_err_and}
use Rattle.records.proofs.Taking.{field_none, field_gone, field_taken}
use Rattle.records.proofs.reading.Reader.word.Goals as goal

pub returns-then-not-carried : goal.returns-then-not-carried
returns-then-not-carried c = rw c.if-not-carried.true (field_none _)

pub returns-in_err-take : goal.returns-in_err-take
returns-in_err-take c =
    let p = err_from_is_err_and c.from_residual.result c.from_residual.ensures.1 in
    rw (p.1, p.2, c.if-not-carried.false, c.in_err-take.ensures.0) (sym (field_gone 4 _ c.in_err-take.ensures.1))

pub returns : goal.returns
returns c = rw c.if-not-carried.false (field_taken c.in_ok-take.ensures _ c.word.ensures)
