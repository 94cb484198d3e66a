-- `soundness::with_absent` meets its contract: each value that is joined adds the test of its cookie.
use Rattle.prelude.proofs.Kit.{arith, ◌≡◌, refl, rules, length-set}
use Rattle.labels.proofs.Below.{all_none}
use Rattle.machine.specs.Policy.{host_keys}
use Rattle.machine.specs.Session.{cookie_sound}
use Rattle.session.proofs.Strays.{key_joined}
use Rattle.session.proofs.soundness.with_absent.Goals as goal

pub loop-key-init : goal.loop-key-init
loop-key-init c = record { eight = search rules; joined = rw (← all_none (cookie_sound c.args.state.now c.args.host)) refl }

pub loop-key-preserved : goal.loop-key-preserved
unfolding cookie_sound
loop-key-preserved c =
    let loop = c.loop-key in
    let a = c.args in
    record {
      eight = simp length-set loop.invariant.eight;
      joined = key_joined a.state.now a.host loop.key c.stray_value.result a.strays loop.stray-items loop.invariant.eight c.loop-key-test.true
          (rw (← c.requires.2, ← c.cookie_value.ensures) c.stray_value.ensures) loop.invariant.joined;
    }

pub returns : goal.returns
returns c = let past : c.loop-key.key ≡ host_keys = omega arith in rw past at c.loop-key.invariant.joined
