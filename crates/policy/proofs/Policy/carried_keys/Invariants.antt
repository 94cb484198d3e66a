use Rattle.prelude.proofs.Kit.{◌≡◌}
use Rattle.machine.specs.Policy.{may_carry}
use Rattle.machine.specs.Session.{map_below}
use Rattle.policy.proofs.Policy.carried_keys.Given as goal

-- the keys so far are the map below the key
abbrev pub invariant-loop-key : goal.invariant-loop-key
invariant-loop-key g l = l.keys ≡ map_below l.key (may_carry l.self.words.now l.url)
