-- `soundness::sound` meets its contract: the length, and the two parts of the test.
use Rattle.prelude.proofs.Kit.{ne_eqb, eq-eqb, length}
use Rattle.machine.specs.Session.{state_words, sound}
use Rattle.session.proofs.soundness.sound.Goals as goal

pub returns-then-state-ne-WORDS : goal.returns-then-state-ne-WORDS
unfolding sound
returns-then-state-ne-WORDS g c = rw (ne_eqb (length c.args.state.now) state_words c.if-state-ne-WORDS.true)

pub returns : goal.returns
unfolding sound
returns g c =
    let sized = c in
    rw (c.hosts_sound.ensures, c.connections_sound.ensures, eq-eqb (length sized.args.state.now) state_words sized.if-state-ne-WORDS.false)
