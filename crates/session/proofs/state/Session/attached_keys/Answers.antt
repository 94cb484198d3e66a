-- `Session::attached_keys` meets its contract: of the keys that are present, those that the request may carry.
use Rattle.prelude.proofs.Kit.{ℕ, List, ◌≡◌}
use lib.Bits.{bit_and}
use Rattle.machine.specs.Policy.{url_host, may_carry}
use Rattle.machine.specs.Session.{presence, key_map, attaches}
use Rattle.policy.proofs.KeyBits.{kept_keys, none_has, none_mapped}
use Rattle.session.proofs.state.Session.attached_keys.Goals as goal

-- a host without cookies
none : (p s : List ℕ) (u : ℕ) {h present : ℕ} → h ≡ url_host p u → present ≡ presence s h → present ≡ 0 → 0 ≡ key_map (attaches p s u)
unfolding attaches
none p s u eh es e =
    none_mapped (attaches p s u) (λ j. rw (← eh, ← es, e, none_has j))

shared : (p s : List ℕ) (u : ℕ) {h present keys : ℕ} → h ≡ url_host p u → present ≡ presence s h → keys ≡ key_map (may_carry p u)
    → bit_and present keys ≡ key_map (attaches p s u)
unfolding attaches
shared p s u eh es ek = rw (ek, es, eh) (kept_keys (presence s (url_host p u)) (may_carry p u))

pub returns-then-present-eq0 : goal.returns-then-present-eq0
returns-then-present-eq0 g c =
    let s = c.args.self.now in
    none s.policy.words.now s.words.now c.args.url c.url_host.ensures.0 c.presence-present.ensures c.if-present-eq0.true

pub returns : goal.returns
returns g c =
    let s = c.args.self.now in
    rw c.from.ensures (shared s.policy.words.now s.words.now c.args.url c.url_host.ensures.0 c.presence-present.ensures c.carried_keys.ensures)
