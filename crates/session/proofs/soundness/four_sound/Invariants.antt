-- `soundness::four_sound` meets its contract: the connections passed are sound, and one that is not fails the four.
use Rattle.prelude.proofs.Kit.{◌+◌, ◌-◌, true, ◌≡◌}
use Rattle.labels.specs.Membership.{all_below}
use Rattle.machine.specs.Session.{connection_word, connection_sound}
use Rattle.session.proofs.soundness.four_sound.Given as goal

abbrev pub invariant-loop-connection : goal.invariant-loop-connection
invariant-loop-connection g l = true ≡ all_below (l.connection - l.first) (λ i. connection_sound l.policy.words.now (l.first + i) (connection_word l.state (l.first + i)))
