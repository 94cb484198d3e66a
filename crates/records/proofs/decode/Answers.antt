-- `decode` meets its contract: of what the first record says, and whether that is all.
use Rattle.prelude.proofs.Kit.{sym, ◌∙◌, ap, length, ne_eqb, eq-eqb}
use Rattle.std.proofs.lemmas.Result.{err_from_is_err_and}
use Rattle.records.proofs.FromLeft.{whole_of, error_whole, first_is_all}
use Rattle.records.proofs.decode.Goals as goal

pub returns-in_err-first : goal.returns-in_err-first
returns-in_err-first c =
    let n = length c.args.bytes.now in
    let p = err_from_is_err_and c.from_residual.result c.from_residual.ensures.1 in
    rw (p.1, p.2) (sym (error_whole n _) ∙ ap (whole_of n) c.in_err-first.ensures ∙ first_is_all c.args.direction c.args.bytes.now)

pub returns-then-first-bytes : goal.returns-then-first-bytes
returns-then-first-bytes c =
    let n = length c.args.bytes.now in
    rw (ne_eqb c.in_ok-first.first.length n c.if-first-bytes.true) at (ap (whole_of n) c.in_ok-first.ensures ∙ first_is_all c.args.direction c.args.bytes.now)

pub returns : goal.returns
returns c =
    let n = length c.args.bytes.now in
    rw (eq-eqb c.in_ok-first.first.length n c.if-first-bytes.false) at (ap (whole_of n) c.in_ok-first.ensures ∙ first_is_all c.args.direction c.args.bytes.now)
