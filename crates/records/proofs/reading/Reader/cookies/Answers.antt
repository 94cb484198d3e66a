use Rattle.prelude.proofs.Kit.{sym, arith, ◌≡◌, ◌*◌}
use Rattle.std.proofs.lemmas.Result.{err_from_is_err_and}
use Rattle.records.specs.Layout.{sum}
use Rattle.records.specs.Places.{cookie_widths}
use Rattle.records.proofs.Starts.{values_size}
use Rattle.records.proofs.Taking.{cookies_none, cookies_gone, cookies_taken, taken_long}
use Rattle.records.proofs.reading.Reader.cookies.Goals as goal

pub returns-then-keys-eq0 : goal.returns-then-keys-eq0
returns-then-keys-eq0 c = rw c.if-keys-eq0.true (cookies_none _)

pub returns-in_err-values : goal.returns-in_err-values
returns-in_err-values c =
    let p = err_from_is_err_and c.from_residual.result c.from_residual.ensures.1 in
    rw (p.1, p.2, c.in_err-values.ensures.0) (sym (cookies_gone _ _ (omega (arith, values_size c.args.keys, c.in_err-values.ensures.1))))

pub cookie_values-requires : goal.cookie_values-requires
cookie_values-requires c = omega (arith, values_size c.args.keys, taken_long c.in_ok-values.ensures)

pub returns : goal.returns
returns c =
    let size : 4 * c.count_keys.result ≡ sum (cookie_widths c.args.keys) = omega (arith, values_size c.args.keys) in
    cookies_taken c.args.keys _ _ c.in_ok-values.ensures size c.cookie_values.ensures
