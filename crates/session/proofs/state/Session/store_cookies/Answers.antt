-- `Session::store_cookies` meets its contract: what is stored from a key on, in what there is so far, is all.
use Rattle.prelude.proofs.Kit.{arith, ◌≡◌, sym, ◌∙◌, rules}
use Rattle.machine.specs.Policy.{host_keys}
use Rattle.session.proofs.KeyLoops.{none_stored, storing_goes_on, all_stored}
use Rattle.session.proofs.state.Session.store_cookies.Goals as goal

pub returns-then-keys-eq0-clause-words : goal.returns-then-keys-eq0-clause-words
returns-then-keys-eq0-clause-words g c = none_stored _ _ _ _ c.args.values _ c.if-keys-eq0.true

pub loop-key-preserved : goal.loop-key-preserved
loop-key-preserved g c =
    let l = c.loop-key in
    let call = c.store_if_delivered in
    record {
      memory = search rules;
      policy = search rules;
      remains = storing_goes_on l.self.policy.words.now call.new.self.policy.words.now c.args.connection c.args.host c.args.keys c.args.values l.self.words.now call.new.self.words.now l.key
          c.loop-key-test.true call.ensures.policy call.ensures.words
          ∙ l.invariant.remains;
    }

pub returns-clause-words : goal.returns-clause-words
returns-clause-words g c =
    let l = c.loop-key in
    let past : l.key ≡ host_keys = omega arith in
    sym (all_stored l.self.policy.words.now c.args.connection c.args.host c.args.keys c.args.values l.self.words.now l.key past) ∙ l.invariant.remains
