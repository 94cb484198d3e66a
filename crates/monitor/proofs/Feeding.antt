-- The answer of every call: each refusal where it is the first that applies, and the reaction to a record that can be read. How many bytes a
-- call counts at most. And that lists are of bytes or of words, from each place of theirs.
use Rattle.prelude.proofs.Kit.{ℕ, ◌≤◌, ◌<◌, suc, ◌^◌, true, List, ◌∷◌, [], ◌≡◌, ◌∙◌, ne_eqb, T, eqb, ltb, eqb→eq, T_not, lt→ltb, and_i}
use Rattle.prelude.proofs.Kit.{take, get_or, are_bytes}
use native.Mathlib.Nat.{le_trans, mul-le-mul_right}
use Rattle.prelude.specs.Choice.{branch}
use Rattle.prelude.specs.Refusals.{accepted, first_of, answering}
use Rattle.prelude.proofs.Choices.{one}
use Rattle.prelude.proofs.Refusals.{NoneOf, nth, first_is, none_applies, none_applied, refused_on}
use Rattle.records.specs.declared.Direction.TheVariants.{Input, Request}
use Rattle.records.specs.Layout.{longest}
use Rattle.records.specs.Codec.{read_refusals, read_refusal, decoded, write_run}
use Rattle.records.proofs.Runs.{all_written}
use Rattle.machine.specs.Scripts.{stopped}
use Rattle.machine.specs.Machine.{event_in, output_room, Verdict, plain, lent_refusals, event_refusals, refusals, verdict, perform, outcome, Fed, feed}
use Rattle.machine.specs.Guarantees.{refused_with, are_words}
use Rattle.machine.proofs.Accepted.{in_parts, event_passed}
use Rattle.machine.proofs.Sending.{sent_fits}
use Rattle.session.proofs.Outputs.{written_run}
use Rattle.monitor.specs.Answers.{done, by_verdict, reaction}

-- ---- bytes and words
pub bytes_are : (l : List ℕ) → ((i : ℕ) → get_or l i 0 < 256) → T (are_bytes l)
bytes_are [] f = tt
bytes_are (b ∷ bs) f = and_i (ltb b 256) (are_bytes bs) (lt→ltb b 256 (f 0)) (bytes_are bs (λ i. f (suc i)))

pub words_are : (l : List ℕ) → ((i : ℕ) → get_or l i 0 < 2 ^ 32) → T (are_words l)
words_are [] f = tt
words_are (w ∷ ws) f = and_i (ltb w (2 ^ 32)) (are_words ws) (lt→ltb w (2 ^ 32) (f 0)) (words_are ws (λ i. f (suc i)))

-- ---- a call
module _ (p scripts s bytes out : List ℕ) where
  -- what is sent is all written, and is no more than the room that is asked for
  sent_written : T (are_bytes scripts) → T (are_words s) → T (are_bytes bytes)
      → ((write_run Request (outcome p scripts s bytes out).effects.sent out).number ≡ accepted)
      × ((write_run Request (outcome p scripts s bytes out).effects.sent out).length ≤ output_room)
  sent_written ts ws bs =
      let (all, fit, few) = sent_fits p scripts s bytes out ts ws bs in
      let w = all_written Request all out fit in
      (w.0, le_trans w.1 (mul-le-mul_right (longest Request) few))

  pub bytes_small : T (are_bytes scripts) → T (are_words s) → T (are_bytes bytes) → (feed p scripts s bytes out).bytes ≤ output_room
  unfolding feed
  bytes_small ts ws bs = (sent_written ts ws bs).1

  -- what a call does by its verdict
  performed : verdict p scripts s bytes out ≡ plain accepted → T (are_bytes scripts) → T (are_words s) → T (are_bytes bytes)
      → done (perform p scripts s (event_in p bytes)) out ≡ feed p scripts s bytes out
  unfolding feed outcome branch done
  performed e ts ws bs = rw (e, written_run (perform p scripts s (event_in p bytes)).sent out (rw e at (sent_written ts ws bs).0))

  refused : (told : Verdict) → verdict p scripts s bytes out ≡ told → (told.number ≡ accepted → ⊥) → refused_with told s out ≡ feed p scripts s bytes out
  unfolding feed outcome branch stopped write_run
  refused told e other = rw (e, ne_eqb told.number accepted other)

  -- refusal n of all of them, where it is the first that applies
  abbrev answer : ℕ → Verdict
  answer n = (nth (plain accepted) n (refusals p scripts s bytes out)).answer

  pub refused_by_lem : (n : ℕ) → NoneOf (take n (refusals p scripts s bytes out)) → (nth (plain accepted) n (refusals p scripts s bytes out)).applies ≡ true
      → ((answer n).number ≡ accepted → ⊥) → refused_with (answer n) s out ≡ feed p scripts s bytes out
  unfolding verdict
  refused_by_lem n none test other = refused (answer n) (first_is (plain accepted) n (refusals p scripts s bytes out) none test) other

  -- ---- what is lent is not refused
  module _ (none : NoneOf (lent_refusals p scripts s out)) where
    from_record : verdict p scripts s bytes out ≡ first_of (answering plain (read_refusals Input bytes)) (first_of (event_refusals p s (event_in p bytes)) (plain accepted))
    from_record = in_parts p scripts s bytes out ∙ none_applies _ (lent_refusals p scripts s out) none

    pub refused_record : ((decoded Input bytes).number ≡ accepted → ⊥) → refused_with (plain (decoded Input bytes).number) s out ≡ feed p scripts s bytes out
    unfolding decoded read_refusal
    refused_record other = refused (plain (read_refusal Input bytes)) (from_record ∙ refused_on plain (read_refusals Input bytes) _ other) other

    from_event : (decoded Input bytes).number ≡ accepted → verdict p scripts s bytes out ≡ first_of (event_refusals p s (event_in p bytes)) (plain accepted)
    unfolding decoded read_refusal
    from_event read = from_record ∙ none_applies _ (answering plain (read_refusals Input bytes)) (none_applied (read_refusals Input bytes) tt read)

    pub reacted : (decoded Input bytes).number ≡ accepted → T (are_bytes scripts) → T (are_words s) → T (are_bytes bytes)
        → reaction p scripts s (event_in p bytes) out ≡ feed p scripts s bytes out
    unfolding reaction by_verdict
    reacted read ts ws bs =
        let event = event_in p bytes in
        let told = first_of (event_refusals p s event) (plain accepted) in
        one (λ (x : Fed). x ≡ feed p scripts s bytes out) (eqb told.number accepted)
        (λ t. performed (from_event read ∙ none_applies (plain accepted) (event_refusals p s event) (event_passed p s event (eqb→eq told.number accepted t))) ts ws bs)
        (λ t. refused told (from_event read) (λ e. T_not (eqb told.number accepted) t (rw e tt)))
