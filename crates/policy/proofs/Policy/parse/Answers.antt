-- `Policy::parse` meets its contract: a policy of another length is not well formed.
use Rattle.prelude.proofs.Kit.{◌≡◌, length, rules}
use Rattle.machine.specs.Policy.{policy_words}
use Rattle.policy.proofs.Rows.{formed_length}
use Rattle.policy.proofs.Policy.parse.Goals as goal

pub returns-in_default-clause-formed : goal.returns-in_default-clause-formed
returns-in_default-clause-formed g c = let other : length c.args.words.now ≡ policy_words → ⊥ = search rules in formed_length _ other
