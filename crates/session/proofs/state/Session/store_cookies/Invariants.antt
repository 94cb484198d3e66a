-- `Session::store_cookies` meets its contract: what is stored from a key on, in what there is so far, is all.
use Rattle.prelude.proofs.Kit.{◌≡◌}
use Rattle.machine.specs.Session.{store_cookies}
use Rattle.session.specs.Delivered.{delivered}
use Rattle.session.proofs.KeyLoops.{stored_from}
use Rattle.session.proofs.state.Session.store_cookies.Given as goal

abbrev pub invariant-loop-key : goal.invariant-loop-key
invariant-loop-key g l = record {
  memory : l.self.words.ghost_name ≡ l.initial.self.words.ghost_name;
  policy : l.self.policy.words.now ≡ l.initial.self.policy.words.now;
  remains : stored_from l.self.policy.words.now l.connection l.host l.keys l.value-items l.key l.self.words.now
      ≡ store_cookies l.initial.self.policy.words.now l.connection l.host (delivered l.keys l.value-items) l.initial.self.words.now;
}
