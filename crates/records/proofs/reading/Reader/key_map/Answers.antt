use Rattle.std.proofs.lemmas.Result.{err_from_is_err_and}
use Rattle.records.specs.Reading.{keyed_at}
use Rattle.records.proofs.reading.Reader.key_map.Goals as goal

pub returns-in_err-keys : goal.returns-in_err-keys
unfolding keyed_at
returns-in_err-keys c =
    let p = err_from_is_err_and c.from_residual.result c.from_residual.ensures.1 in
    rw (p.1, p.2, ← c.is_set.ensures, ← c.in_err-keys.ensures)

pub returns-then-no_key_set : goal.returns-then-no_key_set
unfolding keyed_at
returns-then-no_key_set c = rw (← c.is_set.ensures, ← c.in_ok-keys.ensures, ← c.no_key_set.ensures, c.if-no_key_set.true)

pub returns : goal.returns
unfolding keyed_at
returns c = rw (← c.is_set.ensures, ← c.in_ok-keys.ensures, ← c.no_key_set.ensures, c.if-no_key_set.false)
