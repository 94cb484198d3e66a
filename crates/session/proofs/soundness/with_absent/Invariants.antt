-- `soundness::with_absent` meets its contract: each value that is joined adds the test of its cookie.
use Rattle.prelude.proofs.Kit.{◌&&◌, ◌≡◌, length}
use Rattle.labels.specs.Membership.{all_below}
use Rattle.machine.specs.Policy.{host_keys}
use Rattle.machine.specs.Session.{cookie_sound}
use Rattle.session.specs.Strays.{none_left}
use Rattle.session.proofs.soundness.with_absent.Given as goal

abbrev pub invariant-loop-key : goal.invariant-loop-key
invariant-loop-key l = record {
  eight : length l.stray-items ≡ host_keys;
  joined : none_left l.stray-items ≡ all_below l.key (cookie_sound l.state l.host) && none_left l.initial.stray-items;
}
