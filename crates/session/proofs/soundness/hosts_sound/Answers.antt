-- `soundness::hosts_sound` meets its contract: the two tests at the end, asked of what is gathered so far, are the test of the hosts passed.
use Rattle.prelude.proofs.Kit.{zero-le, arith, ◌≡◌}
use Rattle.labels.specs.Addresses.{hosts}
use Rattle.labels.proofs.Below.{all_none}
use Rattle.session.specs.Strays.{none_left}
use Rattle.session.proofs.Strays.{host_joined}
use Rattle.session.proofs.soundness.hosts_sound.Goals as goal

pub loop-host-init : goal.loop-host-init
unfolding none_left
loop-host-init c = (zero-le, all_none _)

pub loop-host-preserved : goal.loop-host-preserved
loop-host-preserved c =
    let loop = c.loop-host in
    let a = c.args in (
      omega arith,
      rw c.presence-bits.ensures
          (host_joined a.state.now loop.host loop.bits loop.strays c.with_strays_of-with_host.result loop.invariant.1 c.with_strays_of-with_host.ensures),
    )

pub returns : goal.returns
returns c =
    let loop = c.loop-host in
    let past : loop.host ≡ hosts = omega arith in
    rw c.none_left.ensures (rw past at loop.invariant.1)
