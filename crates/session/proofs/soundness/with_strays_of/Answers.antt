-- `soundness::with_strays_of` meets its contract: a host with every key leaves none.
use Rattle.prelude.proofs.Kit.{sym, ◌∙◌}
use Rattle.session.proofs.Strays.{all_present}
use Rattle.session.proofs.soundness.with_strays_of.Goals as goal

pub returns-then-keys-eq255 : goal.returns-then-keys-eq255
returns-then-keys-eq255 c =
    let asked = c in
    let a = asked.args in
    rw (all_present a.state.now a.host (sym asked.presence-keys.ensures ∙ c.if-keys-eq255.true))
