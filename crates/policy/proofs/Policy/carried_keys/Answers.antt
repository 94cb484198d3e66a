-- `Policy::carried_keys` meets its contract: the keys so far are the map below the key.
use Rattle.prelude.proofs.Kit.{refl, ◌≡◌, arith}
use Rattle.labels.proofs.Endpoints.{message_within}
use Rattle.machine.specs.Policy.{may_carry}
use Rattle.machine.specs.Session.{map_below}
use Rattle.policy.proofs.KeyBits.{added, added_fits, map_small}
use Rattle.policy.proofs.Policy.carried_keys.Goals as goal

pub loop-key-init : goal.loop-key-init
unfolding map_below
loop-key-init g c = refl

pub overflow_add-keys : goal.overflow_add-keys
overflow_add-keys g c = record { fits = rw c.from.ensures (added_fits c.loop-key.key c.loop-key.keys _ c.within-carried.result c.loop-key-test.true c.loop-key.invariant) }

pub loop-key-preserved : goal.loop-key-preserved
unfolding may_carry
loop-key-preserved g c =
    let test = may_carry c.args.self.words.now c.args.url in
    let carried : c.within-carried.result ≡ test c.loop-key.key =
    rw (c.within-carried.ensures, c.message_set-message.ensures, c.url_address.ensures, c.cookie_readers.ensures, c.url_host-host.ensures.0) (message_within _ _ c.requires.address) in
    rw c.from.ensures (added c.loop-key.key c.loop-key.keys test c.within-carried.result c.loop-key-test.true c.loop-key.invariant carried)

pub overflow_cast-result : goal.overflow_cast-result
overflow_cast-result g c = record { fits = rw c.loop-key.invariant (map_small c.loop-key.key _ (omega arith)) }
