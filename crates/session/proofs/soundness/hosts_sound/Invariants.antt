-- `soundness::hosts_sound` meets its contract: the two tests at the end, asked of what is gathered so far, are the test of the hosts passed.
use Rattle.prelude.proofs.Kit.{◌≤◌, ◌-◌, ◌&&◌, ◌≡◌, ltb}
use Rattle.labels.specs.Addresses.{hosts}
use Rattle.labels.specs.Membership.{all_below}
use Rattle.machine.specs.Session.{host_sound}
use Rattle.session.specs.Strays.{none_left}
use Rattle.session.proofs.soundness.hosts_sound.Given as goal

abbrev pub invariant-loop-host : goal.invariant-loop-host
invariant-loop-host l = (l.host ≤ hosts) × (ltb l.bits 256 && none_left l.strays ≡ all_below l.host (host_sound l.state))

abbrev pub decreases-loop-host : goal.decreases-loop-host
decreases-loop-host l = hosts - l.host
