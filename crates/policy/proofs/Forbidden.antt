-- What labels say by what is missing: of readers and writers the first tells.
use Rattle.prelude.proofs.Kit.{ℕ, ◌≡◌, eq-eqb, ne_eqb}
use Rattle.prelude.specs.Choice.{branch}
use Rattle.prelude.specs.Refusals.{accepted, first_of}
use Rattle.labels.specs.Membership.{none_missing}
use Rattle.machine.specs.Machine.{readers_forbid, writers_forbid, plain}
use Rattle.policy.specs.Forbidden.{first_forbidden}

module _ (reader writer : ℕ) where
  pub readers_forbid_lem : (reader ≡ none_missing → ⊥) → record { number = readers_forbid; missing = reader } ≡ first_forbidden reader writer
  unfolding first_of branch
  readers_forbid_lem ne = rw (ne_eqb reader none_missing ne)

  pub writers_forbid_lem : reader ≡ none_missing → (writer ≡ none_missing → ⊥) → record { number = writers_forbid; missing = writer } ≡ first_forbidden reader writer
  unfolding first_of branch
  writers_forbid_lem e ne = rw (eq-eqb reader none_missing e, ne_eqb writer none_missing ne)

  pub nothing_forbids : reader ≡ none_missing → writer ≡ none_missing → plain accepted ≡ first_forbidden reader writer
  unfolding first_of branch
  nothing_forbids e f = rw (eq-eqb reader none_missing e, eq-eqb writer none_missing f)
