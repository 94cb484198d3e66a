-- What was met so far is 0 and the values from a key on fit, just where all do.
use Rattle.records.proofs.Cookies.{Testing}
use Rattle.records.proofs.checks.stray_cookies.Given as goal

abbrev pub invariant-loop-key : goal.invariant-loop-key
invariant-loop-key l = Testing l.keys l.fn.values l.all l.key
