use Rattle.records.proofs.Cookies.{Reading}
use Rattle.records.proofs.reading.cookie_values.Given as goal

abbrev pub invariant-loop-key : goal.invariant-loop-key
invariant-loop-key l = Reading l.bytes l.keys l.value-items l.rest l.key
