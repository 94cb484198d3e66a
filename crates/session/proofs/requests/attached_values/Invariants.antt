-- `requests::attached_values` meets its contract: the values so far, and those from a key on, are all of them.
use Rattle.prelude.specs.Choice.{branch}
use Rattle.machine.specs.Policy.{cookie_index}
use Rattle.machine.specs.Session.{has, cookie_value}
use Rattle.session.proofs.KeyLoops.{Filling}
use Rattle.session.proofs.requests.attached_values.Given as goal

abbrev pub invariant-loop-key : goal.invariant-loop-key
invariant-loop-key l = Filling (λ k. branch (has l.keys k) (cookie_value l.state (cookie_index l.host k)) 0) l.value-items l.key
