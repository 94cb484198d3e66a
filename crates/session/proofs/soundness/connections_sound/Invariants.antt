-- `soundness::connections_sound` meets its contract: the fours passed are sound, and one that is not fails all.
use Rattle.prelude.proofs.Kit.{◌*◌, true, ◌≡◌}
use Rattle.labels.specs.Membership.{all_below}
use Rattle.machine.specs.Session.{connection_word, connection_sound}
use Rattle.session.proofs.soundness.connections_sound.Given as goal

abbrev pub invariant-loop-four : goal.invariant-loop-four
invariant-loop-four g l = true ≡ all_below (4 * l.four) (λ n. connection_sound l.policy.words.now n (connection_word l.state n))
