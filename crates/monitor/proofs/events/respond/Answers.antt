-- `events::respond` meets its contract: the connection is freed, and then the script runs.
use Rattle.monitor.proofs.Reacting.{run_done}
use Rattle.monitor.proofs.events.respond.Goals as goal

pub returns-clause-did : goal.returns-clause-did
returns-clause-did g c =
    let a = c.args in
    let s = a.session.now in
    run_done s.policy.words.now a.table.bytes.now s.words.now a.connection a.page a.script a.value a.out.now.buffer.now c.of.result
    c.requires.3 c.of.ensures.bytes c.of.ensures.steps c.free.ensures.policy c.script.ensures.code c.script.ensures.connection c.script.ensures.page
    c.free.ensures.words c.run-steps.ensures.ran
