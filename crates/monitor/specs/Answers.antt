-- An answer of the code with the state and the buffer that it leaves, and what a record that can be read is answered.
use Rattle.std.specs.Prelude.{ℕ, List, eqb, Result, Ok, Err}
use Rattle.prelude.specs.Choice.{branch}
use Rattle.prelude.specs.Refusals.{accepted, first_of}
use Rattle.labels.specs.Membership.{none_missing}
use Rattle.machine.specs.Session.{Effects}
use Rattle.machine.specs.Machine.{Event, Verdict, plain, event_refusals, perform, Fed}
use Rattle.machine.specs.Guarantees.{refused_with}
use Rattle.session.specs.Output.{output, write_each}
use Rattle.monitor.specs.declared.Answer.{Answer}
use Rattle.monitor.specs.declared.done.Done.{Done}
use Rattle.monitor.specs.declared.refusal.Refusal.{Refusal}
use Rattle.monitor.specs.Refusals.{verdict_of}

abbrev pub answered : Answer → List ℕ → List ℕ → Fed
answered r s out = record { number = r.number; bytes = r.bytes; steps = r.steps; missing = r.missing; state = s; buffer = out }

abbrev pub did : Done → List ℕ → List ℕ → Fed
did d s out = record { number = accepted; bytes = d.bytes; steps = d.steps; missing = none_missing; state = s; buffer = out }

abbrev pub fed : Result Done Refusal → List ℕ → List ℕ → Fed
fed (Ok d) s out = did d s out
fed (Err e) s out = refused_with (verdict_of e) s out

-- an accepted record, its requests written one after another
unfoldable pub done : Effects → List ℕ → Fed
done e out =
    let o = write_each e.sent (output 0 out) in
    record { number = accepted; bytes = o.at; steps = e.steps; missing = none_missing; state = e.state; buffer = o.buffer }

-- a call by its verdict: refused, or done
unfoldable pub by_verdict : Verdict → List ℕ → List ℕ → Fed → Fed
by_verdict told s out fed = branch (eqb told.number accepted) fed (refused_with told s out)

-- what a record that can be read is answered: the first of its event's refusals, or what it does
unfoldable pub reaction : List ℕ → List ℕ → List ℕ → Event → List ℕ → Fed
reaction p scripts s event out = by_verdict (first_of (event_refusals p s event) (plain accepted)) s out (done (perform p scripts s event) out)
