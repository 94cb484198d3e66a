-- `Script::step` meets its contract: the steps that use registers alone, and a picture; the others are found.
use Rattle.prelude.proofs.Kit.{◌≡◌, ◌∙◌, ap, rules}
use Rattle.machine.specs.Scripts.{Step, step}
use Rattle.machine.specs.Policy.{upgraded}
use Rattle.session.specs.Kinds.{number_of}
use Rattle.session.specs.Output.{output}
use Rattle.scripts.proofs.OneStep.{pictured}
use Rattle.scripts.proofs.Running.{quiet}
use Rattle.scripts.proofs.script.Script.step.Goals as goal

pub returns-in-Constant-clause-reached : goal.returns-in-Constant-clause-reached
returns-in-Constant-clause-reached g c =
    let a = c.args in
    let s = a.session.now in
    quiet c.constant.result c.constant.new.registers s.words.now (output a.out.now.at a.out.now.buffer.now)
    (c.constant.ensures s.policy.words.now s.words.now a.self.connection a.self.page
    ∙ ap (λ (x : Step). step s.policy.words.now a.self.connection a.self.page x a.place a.registers.now s.words.now) c.in-Constant.ensures)

pub returns-in-Add-clause-reached : goal.returns-in-Add-clause-reached
returns-in-Add-clause-reached g c =
    let a = c.args in
    let s = a.session.now in
    quiet c.add.result c.add.new.registers s.words.now (output a.out.now.at a.out.now.buffer.now)
    (c.add.ensures s.policy.words.now s.words.now a.self.connection a.self.page
    ∙ ap (λ (x : Step). step s.policy.words.now a.self.connection a.self.page x a.place a.registers.now s.words.now) c.in-Add.ensures)

pub returns-in-SkipIfZero-clause-reached : goal.returns-in-SkipIfZero-clause-reached
returns-in-SkipIfZero-clause-reached g c =
    let a = c.args in
    let s = a.session.now in
    quiet c.skip_if_zero.result a.registers.now s.words.now (output a.out.now.at a.out.now.buffer.now)
    (c.skip_if_zero.ensures s.policy.words.now s.words.now a.self.connection a.self.page
    ∙ ap (λ (x : Step). step s.policy.words.now a.self.connection a.self.page x a.place a.registers.now s.words.now) c.in-SkipIfZero.ensures)

pub returns-in_ok-url-in-SendPicture-clause-reached : goal.returns-in_ok-url-in-SendPicture-clause-reached
returns-in_ok-url-in-SendPicture-clause-reached g c =
    let a = c.args in
    let s = a.session.now in
    let made = c.bare-pending in
    let url : made.result.url ≡ upgraded s.policy.words.now c.in-SendPicture.url = search rules in
    pictured s.policy.words.now a.self.connection a.self.page a.place a.registers.now s.words.now c.in-SendPicture.url c.in-SendPicture.via (output a.out.now.at a.out.now.buffer.now)
    (c.send_request-in-SendPicture.ensures.reached a.registers.now) (ap number_of made.ensures.kind) made.ensures.origin made.ensures.handler url c.in-SendPicture.ensures
