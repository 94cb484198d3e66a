-- A refusal changes nothing, and tells of a missing endpoint just where it is 8 or 9. No call changes the output buffer past the bytes that it counts.
use Rattle.prelude.proofs.Kit.{ℕ, ◌≤◌, true, Bool, false, not, ◌||◌, ◌≡◌, sym, ◌∙◌, refl, ne_eqb, eqb}
use native.Mathlib.Nat.{le_refl}
use Rattle.prelude.specs.Refusals.{accepted}
use Rattle.prelude.specs.Choice.{branch}
use Rattle.prelude.proofs.Choices.{passes}
use Rattle.prelude.proofs.Refusals.{first_has}
use Rattle.labels.specs.Membership.{none_missing, is_none}
use Rattle.records.specs.declared.Direction.TheVariants.{Request}
use Rattle.records.specs.Codec.{write_run}
use Rattle.records.proofs.Runs.{run_kept}
use Rattle.machine.specs.Scripts.{stopped}
use Rattle.machine.specs.Policy.{well_formed}
use Rattle.machine.specs.Machine.{event_in, named, missing_reader, missing_writer, readers_forbid, writers_forbid, Verdict, plain, refusals, verdict, outcome, feed}
use Rattle.machine.specs.Guarantees.{RefusalChangesNothing, MissingIsTold, PastIsKept}
use Rattle.machine.proofs.Missing.{reader_most, writer_most}

pub refusal_changes_nothing : RefusalChangesNothing
unfolding feed outcome branch stopped write_run
refusal_changes_nothing p scripts s bytes out e = rw (ne_eqb (verdict p scripts s bytes out).number accepted e)

-- what is told, refusal by refusal
abbrev Told : Verdict → Type 0
Told v = (v.missing ≤ none_missing) × (is_none v.missing ≡ not (eqb v.number readers_forbid || eqb v.number writers_forbid))

no_endpoint : (n : ℕ) → eqb n readers_forbid || eqb n writers_forbid ≡ false → Told (plain n)
no_endpoint n e = (le_refl none_missing, rw e)

an_endpoint : (n m : ℕ) → eqb n readers_forbid || eqb n writers_forbid ≡ true → m ≤ none_missing → not (is_none m) ≡ true → Told (record { number = n; missing = m })
an_endpoint n m e l applies = (l, not-false (is_none m) applies ∙ rw e)
  where
    not-false : (b : Bool) → not b ≡ true → b ≡ false
    not-false true e = sym e
    not-false false e = refl

pub missing_is_told : MissingIsTold
unfolding feed outcome verdict
missing_is_told p scripts s bytes out =
    let event = event_in p bytes in
    first_has Told (refusals p scripts s bytes out) (plain accepted) (
      λ _. no_endpoint 1 refl,
      λ _. (
        λ _. no_endpoint 2 refl,
        λ formed. (
          λ _. no_endpoint 3 refl,
          λ _. (
            λ _. no_endpoint 4 refl,
            λ _. (
              λ _. no_endpoint 10 refl,
              λ _. (
                λ _. no_endpoint 12 refl,
                λ _. (
                  λ _. no_endpoint 11 refl,
                  λ _. (
                    λ _. no_endpoint 6 refl,
                    λ names. (
                      λ _. no_endpoint 7 refl,
                      λ _. (
                        an_endpoint 8 (missing_reader p event) refl (reader_most p event (passes (named p event) names)),
                        λ _. (
                          an_endpoint 9 (missing_writer p event) refl (writer_most p (passes (well_formed p) formed) event (passes (named p event) names)),
                          λ _. no_endpoint 0 refl,
                        ),
                      ),
                    ),
                  ),
                ),
              ),
            ),
          ),
        ),
      ),
    )

pub past_is_kept : PastIsKept
unfolding feed
past_is_kept p scripts s bytes out = run_kept Request (outcome p scripts s bytes out).effects.sent out
