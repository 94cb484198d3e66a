-- `events::follow` meets its contract: the request of what is pending, to the target.
use Rattle.session.specs.Kinds.{number_of}
use Rattle.monitor.proofs.Reacting.{sent_done}
use Rattle.monitor.proofs.events.follow.Goals as goal

pub returns-clause-did : goal.returns-clause-did
returns-clause-did g c =
    let a = c.args in
    let s = a.session.now in
    let q = a.pending in
    sent_done s.policy.words.now s.words.now a.connection (number_of q.kind) q.origin q.handler a.target a.out.now.buffer.now c.of.result
    c.requires.2 c.of.ensures.bytes c.of.ensures.steps c.send.ensures.words c.send.ensures.written
