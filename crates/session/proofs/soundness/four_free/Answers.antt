-- `soundness::four_free` meets its contract: two pairs joined are 0 just where each of the four words is.
use Rattle.prelude.proofs.Bits.{or_zero}
use Rattle.machine.specs.Session.{connection_word}
use Rattle.session.proofs.Fours.{four_free}
use Rattle.session.proofs.soundness.four_free.Goals as goal

pub returns : goal.returns
returns c =
    let first = c in
    let a = first.args in
    rw (or_zero first.two_connections.result, first.two_connections.ensures, c.two_connections-2.ensures)
    (four_free a.first (connection_word a.state.now))
