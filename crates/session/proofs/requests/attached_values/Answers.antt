-- `requests::attached_values` meets its contract: the values so far, and those from a key on, are all of them.
use Rattle.prelude.proofs.Kit.{zero-le, arith, ◌≡◌, refl}
use Rattle.machine.specs.Policy.{host_keys}
use Rattle.session.proofs.KeyLoops.{filling_goes_on, filling_ends}
use Rattle.session.proofs.requests.attached_values.Goals as goal

pub loop-key-init : goal.loop-key-init
loop-key-init c = record { below = zero-le; eight = refl; remains = refl }

pub loop-key-preserved : goal.loop-key-preserved
loop-key-preserved c =
    let l = c.loop-key in
    filling_goes_on _ l.value-items l.key c.value_in.result c.loop-key-test.true l.invariant (rw c.cookie_value.ensures at c.value_in.ensures)

pub returns : goal.returns
returns c = let l = c.loop-key in let all : l.key ≡ host_keys = omega arith in filling_ends _ l.value-items (rw all at l.invariant)
