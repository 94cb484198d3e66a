use Rattle.prelude.proofs.Kit.{sym}
use Rattle.std.proofs.lemmas.Result.{err_from_is_err_and}
use Rattle.records.proofs.Slices.{number_byte}
use Rattle.records.proofs.Taking.{field_none, field_gone, field_taken, taken_long}
use Rattle.records.proofs.reading.Reader.byte.Goals as goal

pub returns-then-not-carried : goal.returns-then-not-carried
returns-then-not-carried c = rw c.if-not-carried.true (field_none _)

pub returns-in_err-bytes : goal.returns-in_err-bytes
returns-in_err-bytes c =
    let p = err_from_is_err_and c.from_residual.result c.from_residual.ensures.1 in
    rw (p.1, p.2, c.if-not-carried.false, c.in_err-bytes.ensures.0) (sym (field_gone 1 _ c.in_err-bytes.ensures.1))

pub returns : goal.returns
returns c =
    let t = c.in_ok-bytes.ensures in
    rw c.if-not-carried.false (field_taken t _ (number_byte _ (taken_long t)))
