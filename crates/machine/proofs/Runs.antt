-- What holds of every run: what it counts is wholly request records, and under a policy or a script table that is refused nothing happens.
use Rattle.prelude.proofs.Kit.{ℕ, not, List, ◌∷◌, [], ◌++◌, ◌≡◌, refl, ap, ap₂, T, eqb, eqb→eq, T_not, not_T, length, are_bytes}
use Rattle.prelude.specs.Refusals.{accepted}
use Rattle.prelude.proofs.Choices.{branch_false}
use Rattle.records.specs.Codec.{read_at_most, read_run, write_run}
use Rattle.records.specs.Codec.{Run as Reading}
use Rattle.machine.specs.Policy.{well_formed}
use Rattle.machine.specs.Session.{empty_state}
use Rattle.machine.specs.Scripts.{table_bytes, stopped}
use Rattle.machine.specs.Machine.{verdict, outcome, feed}
use Rattle.machine.specs.Guarantees.{are_words}
use Rattle.machine.specs.Runs.{Item, Feedable, Trace, feed_all, run, NothingUnread}
use Rattle.machine.proofs.Accepted.{all_passed}
use Rattle.machine.proofs.WordSizes.{words_kept}
use Rattle.machine.proofs.Sending.{sent_reads_back}

-- ---- what a run counts is wholly request records

pub empty_words : T (are_words empty_state)
empty_words = tt

unread_from : (p scripts s : List ℕ) (is : List Item) → T (are_bytes scripts) → T (are_words s) → Feedable is → (feed_all p scripts s is).unread ≡ []
unfolding feed_all
unread_from p scripts s [] typed words fed = refl
unread_from p scripts s (i ∷ is) typed words fed =
    ap₂ ◌++◌ (ap (λ (r : Reading). r.left) (sent_reads_back p scripts s i.bytes i.buffer typed words fed.0))
    (unread_from p scripts (feed p scripts s i.bytes i.buffer).state is typed (words_kept p scripts s i.bytes i.buffer typed words fed.0) fed.2)

pub nothing_unread : NothingUnread
unfolding run
nothing_unread p scripts is typed fed = unread_from p scripts empty_state is typed empty_words fed

-- ---- runs in which every record is refused

abbrev pub nothing : Trace
nothing = record { requests = []; unread = []; state = empty_state }

module _ (p scripts : List ℕ) where
  module _ (all : (s bytes out : List ℕ) → (verdict p scripts s bytes out).number ≡ accepted → ⊥) where
    refused_effects : (s bytes out : List ℕ) → (outcome p scripts s bytes out).effects ≡ stopped s
    unfolding outcome
    refused_effects s bytes out =
        branch_false (eqb (verdict p scripts s bytes out).number accepted) _ (stopped s)
        (not_T (eqb (verdict p scripts s bytes out).number accepted) (λ t. all s bytes out (eqb→eq (verdict p scripts s bytes out).number accepted t)))

    refused_run : (s : List ℕ) (is : List Item) → feed_all p scripts s is ≡ record { requests = []; unread = []; state = s }
    unfolding feed_all feed stopped write_run read_run read_at_most outcome
    refused_run s [] = refl
    refused_run s (i ∷ is) = rw (refused_effects s i.bytes i.buffer, refused_run s is)

  pub policy_refused : T (not (well_formed p)) → (is : List Item) → run p scripts is ≡ nothing
  unfolding run
  policy_refused bad is = refused_run (λ s bytes out q. T_not (well_formed p) bad (all_passed p scripts s bytes out q).policy) empty_state is

  pub table_refused : T (not (eqb (length scripts) table_bytes)) → (is : List Item) → run p scripts is ≡ nothing
  unfolding run
  table_refused bad is = refused_run (λ s bytes out q. T_not (eqb (length scripts) table_bytes) bad (all_passed p scripts s bytes out q).table) empty_state is
