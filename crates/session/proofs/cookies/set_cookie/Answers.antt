-- `cookies::set_cookie` meets its contract: a key added by "or" is one more key that passes.
use Rattle.prelude.proofs.Kit.{arith, length-set}
use Rattle.machine.specs.Session.{presence, set_cookie}
use Rattle.policy.proofs.KeyBits.{with_key}
use Rattle.session.proofs.cookies.set_cookie.Goals as goal

pub bounds-state-host-2 : goal.bounds-state-host-2
bounds-state-host-2 c = simp length-set (omega arith)

pub returns : goal.returns
unfolding set_cookie
returns c =
    let start = c in
    rw (c.presence-keys.ensures, with_key (presence start.args.state.now start.args.host) start.args.key start.requires.2)
