-- `steps::read_cookie` meets its contract: where the cookie is read; where it ends is found.
use Rattle.scripts.proofs.OneStep.{read_goes_on}
use Rattle.scripts.proofs.steps.read_cookie.Goals as goal

pub returns-then-register-is_present : goal.returns-then-register-is_present
returns-then-register-is_present g c =
    let a = c.args in
    let s = a.session.now in
    read_goes_on s.policy.words.now a.connection a.page a.place a.registers.now s.words.now a.register a.key c.from-register.ensures c.from-key.ensures c.if-key-ge-HOST_KEYS.false
    (rw (c.policy.ensures, c.from.ensures) at c.url_host-host.ensures.0) (rw c.policy-2.ensures at c.may_read.ensures) c.is_present.ensures
    c.if-register-is_present.true c.cookie_value.ensures
