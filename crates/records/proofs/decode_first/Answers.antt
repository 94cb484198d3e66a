-- `decode_first` meets its contract: reading from left to right comes to what the definition says.
use Rattle.prelude.proofs.Kit.{◌∙◌, ap, length}
use Rattle.std.proofs.lemmas.Result.{err_from_is_err_and}
use Rattle.records.proofs.FromLeft.{first_of_read, read_first, read_short}
use Rattle.records.proofs.decode_first.Goals as goal

pub returns-in_err-fields : goal.returns-in_err-fields
returns-in_err-fields c =
    let bytes = c.args.bytes.now in
    let p = err_from_is_err_and c.from_residual.result c.from_residual.ensures.1 in
    rw (p.1, p.2) (ap (first_of_read (length bytes)) c.in_err-fields.ensures ∙ read_first c.args.direction bytes)

pub overflow_sub-length : goal.overflow_sub-length
overflow_sub-length c = rw (← c.in_ok-fields.ensures) at (read_short c.args.direction c.args.bytes.now)

pub returns : goal.returns
returns c =
    let bytes = c.args.bytes.now in
    ap (first_of_read (length bytes)) c.in_ok-fields.ensures ∙ read_first c.args.direction bytes
