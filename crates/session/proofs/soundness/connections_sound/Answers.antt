-- `soundness::connections_sound` meets its contract: the fours passed are sound, and one that is not fails all.
use Rattle.prelude.proofs.Kit.{◌+◌, ◌*◌, arith, ◌≡◌, sym, ◌∙◌}
use Rattle.labels.proofs.Below.{all_none, part_passed, part_failed}
use Rattle.machine.specs.Policy.{connections}
use Rattle.machine.specs.Session.{connection_word, connection_sound}
use Rattle.session.proofs.Fours.{free_passed}
use Rattle.session.proofs.soundness.connections_sound.Goals as goal
use Rattle.session.proofs.soundness.connections_sound.Goals.{else-not-four_free-via-then-not-four_free+else-not-four_sound, else-not-four_free-via-else-not-four_free}

pub loop-four-init : goal.loop-four-init
loop-four-init g c = all_none _

pub returns-then-not-four_sound : goal.returns-then-not-four_sound
returns-then-not-four_sound g c =
    let a = c.args in
    part_failed connections 4 (4 * c.loop-four.four) (λ n. connection_sound a.policy.words.now n (connection_word a.state.now n)) (omega arith)
    (sym (c.if-not-four_sound.true) ∙ c.four_sound.ensures)

pub loop-four-preserved : goal.loop-four-preserved
loop-four-preserved g c =
    let a = c.args in
    let first = 4 * c.loop-four.four in
    let next : first + 4 ≡ 4 * (c.loop-four.four + 1) = omega arith in
    rw (← next)
    (part_passed 4 first (λ n. connection_sound a.policy.words.now n (connection_word a.state.now n))
    (elim c.else-not-four_free.branch [
      | else-not-four_free-via-then-not-four_free+else-not-four_sound w ↦ sym w.if-not-four_sound.false ∙ w.four_sound.ensures
      | else-not-four_free-via-else-not-four_free w ↦ free_passed a.policy.words.now a.state.now first 4 (sym c.four_free.ensures ∙ w.if-not-four_free.false)
    ])
    c.loop-four.invariant)

pub returns : goal.returns
returns g c = let past : 4 * c.loop-four.four ≡ connections = omega arith in rw past at c.loop-four.invariant
