-- `soundness::two_connections` meets its contract: the two words as one are 0 just where each is.
use Rattle.prelude.proofs.Kit.{◌+◌, lit<}
use Rattle.machine.specs.Session.{connections_at, connection_word}
use Rattle.policy.proofs.Pairs.{pair_is}
use Rattle.session.proofs.soundness.two_connections.Goals as goal

pub returns : goal.returns
returns c =
    let known = c in
    let a = known.args in
    let s = a.state.now in
    rw (c.connection_word.ensures, c.connection_word-2.ensures)
    (pair_is (connection_word s a.first) (connection_word s (a.first + 1)) 0 0 (known.type_inv.state (connections_at + a.first)).fits (lit< tt))
