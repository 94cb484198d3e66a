-- `Reader::fields` meets its contract: it answers at each field as the definition does.
use Rattle.std.proofs.lemmas.Result.{err_from_is_err_and}
use Rattle.records.specs.Reading.{fields_at}
use Rattle.records.proofs.Taking.{gone, bytes_taken}
use Rattle.records.proofs.reading.Reader.fields.Goals as goal

pub returns-in_err-front : goal.returns-in_err-front
unfolding fields_at
returns-in_err-front c =
    let p = err_from_is_err_and c.from_residual.result c.from_residual.ensures.1 in
    rw (p.1, p.2, c.in_err-front.ensures.0, gone 2 _ c.in_err-front.ensures.1)

pub returns-in_err-keys : goal.returns-in_err-keys
unfolding fields_at
returns-in_err-keys c =
    let p = err_from_is_err_and c.from_residual-in_err-keys.result c.from_residual-in_err-keys.ensures.1 in
    rw (p.1, p.2, ← bytes_taken c.in_ok-front.ensures, ← c.in_err-keys.ensures)

pub returns-in_err-cookies : goal.returns-in_err-cookies
unfolding fields_at
returns-in_err-cookies c =
    let p = err_from_is_err_and c.from_residual-in_err-cookies.result c.from_residual-in_err-cookies.ensures.1 in
    rw (p.1, p.2, ← bytes_taken c.in_ok-front.ensures, ← c.in_ok-keys.ensures, ← c.in_err-cookies.ensures)

pub returns-in_err-script : goal.returns-in_err-script
unfolding fields_at
returns-in_err-script c =
    let p = err_from_is_err_and c.from_residual-in_err-script.result c.from_residual-in_err-script.ensures.1 in
    rw (p.1, p.2, ← bytes_taken c.in_ok-front.ensures, ← c.in_ok-keys.ensures, ← c.in_ok-cookies.ensures, ← c.is_set.ensures, ← c.in_err-script.ensures)

pub returns-in_err-value : goal.returns-in_err-value
unfolding fields_at
returns-in_err-value c =
    let p = err_from_is_err_and c.from_residual-in_err-value.result c.from_residual-in_err-value.ensures.1 in
    rw (p.1, p.2, ← bytes_taken c.in_ok-front.ensures, ← c.in_ok-keys.ensures, ← c.in_ok-cookies.ensures, ← c.is_set.ensures, ← c.in_ok-script.ensures, ← c.is_set-2.ensures, ← c.in_err-value.ensures)

pub returns-in_err-target : goal.returns-in_err-target
unfolding fields_at
returns-in_err-target c =
    let p = err_from_is_err_and c.from_residual-in_err-target.result c.from_residual-in_err-target.ensures.1 in
    rw (p.1, p.2, ← bytes_taken c.in_ok-front.ensures, ← c.in_ok-keys.ensures, ← c.in_ok-cookies.ensures, ← c.is_set.ensures, ← c.in_ok-script.ensures, ← c.is_set-2.ensures, ← c.in_ok-value.ensures, ← c.is_set-3.ensures, ← c.in_err-target.ensures)

pub returns : goal.returns
unfolding fields_at
returns c =
    rw (← bytes_taken c.in_ok-front.ensures, ← c.in_ok-keys.ensures, ← c.in_ok-cookies.ensures, ← c.is_set.ensures, ← c.in_ok-script.ensures, ← c.is_set-2.ensures, ← c.in_ok-value.ensures, ← c.is_set-3.ensures, ← c.in_ok-target.ensures)
