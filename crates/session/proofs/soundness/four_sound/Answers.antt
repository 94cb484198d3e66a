-- `soundness::four_sound` meets its contract: the connections passed are sound, and one that is not fails the four.
use Rattle.prelude.proofs.Kit.{◌-◌, arith, ◌≡◌, sym, ◌∙◌}
use Rattle.labels.proofs.Below.{all_none}
use Rattle.session.proofs.Fours.{next_sound, next_unsound}
use Rattle.session.proofs.soundness.four_sound.Goals as goal

pub loop-connection-init : goal.loop-connection-init
loop-connection-init g c = let none : c.args.first - c.args.first ≡ 0 = omega arith in rw none (all_none _)

pub returns-then-not-connection_sound : goal.returns-then-not-connection_sound
returns-then-not-connection_sound g c =
    let a = c.args in
    next_unsound a.policy.words.now a.state.now a.first c.loop-connection.connection (omega arith) (omega arith)
    (rw (← c.connection_word.ensures) (sym (c.if-not-connection_sound.true) ∙ c.connection_sound.ensures))

pub loop-connection-preserved : goal.loop-connection-preserved
loop-connection-preserved g c =
    let a = c.args in
    next_sound a.policy.words.now a.state.now a.first c.loop-connection.connection (omega arith)
    (rw (← c.connection_word.ensures) (sym (c.if-not-connection_sound.false) ∙ c.connection_sound.ensures)) c.loop-connection.invariant

pub returns : goal.returns
returns g c = let past : c.loop-connection.connection - c.args.first ≡ 4 = omega arith in rw past at c.loop-connection.invariant
