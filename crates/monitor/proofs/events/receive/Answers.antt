-- `events::receive` meets its contract: what each that can arrive does.
use Rattle.prelude.proofs.Kit.{rules}
use Rattle.monitor.proofs.Reacting.{document, script, picture, redirect, freed_done}
use Rattle.monitor.proofs.events.receive.Goals as goal

pub returns-in-DocumentResponse-clause-did : goal.returns-in-DocumentResponse-clause-did
returns-in-DocumentResponse-clause-did g c =
    let a = c.args in
    let s = a.session.now in
    document s.policy.words.now a.table.bytes.now s.words.now a.connection a.out.now.buffer.now a.pending (search rules) (search rules) (search rules)
    c.in-DocumentResponse.is c.respond.ensures.did

pub respond-requires-in-ScriptResponse : goal.respond-requires-in-ScriptResponse
respond-requires-in-ScriptResponse g c =
    let holds = rw c.in-ScriptResponse.is at c.requires.2 in
    (c.requires.0, holds.0, holds.1, c.requires.3)

pub returns-in-ScriptResponse-clause-did : goal.returns-in-ScriptResponse-clause-did
returns-in-ScriptResponse-clause-did g c =
    let a = c.args in
    let s = a.session.now in
    script s.policy.words.now a.table.bytes.now s.words.now a.connection a.out.now.buffer.now a.pending (search rules) (search rules) (search rules)
    c.in-ScriptResponse.is c.respond-in-ScriptResponse.ensures.did

pub returns-in-PictureResponse-clause-did : goal.returns-in-PictureResponse-clause-did
returns-in-PictureResponse-clause-did g c =
    let a = c.args in
    let s = a.session.now in
    picture s.policy.words.now a.table.bytes.now s.words.now a.connection a.out.now.buffer.now a.pending (search rules) (search rules) (search rules)
    c.in-PictureResponse.is
    (freed_done s.words.now a.connection a.out.now.buffer.now c.of.result c.requires.3 c.of.ensures.bytes c.of.ensures.steps c.free.ensures.words)

pub returns-in-Redirect-clause-did : goal.returns-in-Redirect-clause-did
returns-in-Redirect-clause-did g c =
    let a = c.args in
    let s = a.session.now in
    redirect s.policy.words.now a.table.bytes.now s.words.now a.connection a.out.now.buffer.now a.pending (search rules) (search rules) (search rules)
    c.in-Redirect.is c.follow.ensures.did
