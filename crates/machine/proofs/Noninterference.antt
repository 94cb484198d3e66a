-- The general theorem, for every observer that has the laws: the run of a list of records looks to it like the run of the events that it
-- sees of them. So two lists of which it sees the same look the same to it.
use Rattle.prelude.proofs.Kit.{ℕ, ◌≤◌, ◌&&◌, not, List, ◌∷◌, [], ◌++◌, append_assoc, append-nil, ⊎_elim, ◌≡◌, sym, ◌∙◌, refl, ap, subst, ap₂, T, eqb}
use Rattle.prelude.proofs.Kit.{length, are_bytes, and_r}
use lib.ListN.{length-replicate}
use Rattle.prelude.specs.Refusals.{accepted}
use Rattle.prelude.specs.Choice.{branch}
use Rattle.prelude.proofs.Choices.{either, one, two, branch_true}
use Rattle.records.specs.declared.Direction.TheVariants.{Input}
use Rattle.records.specs.declared.Record.{Record}
use Rattle.records.specs.Codec.{decoded}
use Rattle.records.specs.Codec.{Run as Reading}
use Rattle.machine.specs.Policy.{well_formed}
use Rattle.machine.specs.Session.{state_words, empty_state, sound, Effects}
use Rattle.machine.specs.Scripts.{table_bytes, stopped}
use Rattle.machine.specs.Machine.{Event, event_in, named, output_room, outcome, feed}
use Rattle.machine.specs.Guarantees.{are_words}
use Rattle.machine.specs.Runs.{Item, Feedable, Trace, feed_all, run, left_of_record, left_of_records, remaining}
use Rattle.machine.proofs.Accepted.{react, reacts}
use Rattle.machine.proofs.Events.{event_keys}
use Rattle.machine.proofs.Soundness.{sound_kept, empty_sound}
use Rattle.machine.proofs.WordSizes.{words_kept}
use Rattle.machine.proofs.Sending.{sent_reads_back}
use Rattle.machine.proofs.Runs.{nothing, empty_words, policy_refused, table_refused}
use Rattle.machine.proofs.Observer.{Observer, Laws, Agree, observations_by, observations_append, agree_refl, agree_sym, agree_trans}
use Rattle.machine.proofs.Unwinding.{Alike, Quiet, quiet_alike, stopped_quiet}
use Rattle.machine.proofs.Reactions.{sees_event, seen_of, seen, react_alike, react_quiet}

-- ---- events that are fed without the tests that come before them

unfoldable pub react_all : List ℕ → List ℕ → List ℕ → List Event → Effects
react_all p scripts s [] = stopped s
react_all p scripts s (e ∷ es) =
    let done = react p scripts s e in
    let rest = react_all p scripts done.state es in
    record { steps = 0; sent = done.sent ++ rest.sent; state = rest.state }

module _ (p scripts : List ℕ) where
  -- two lists in a row
  append_state : (s : List ℕ) (es fs : List Event) → (react_all p scripts s (es ++ fs)).state ≡ (react_all p scripts (react_all p scripts s es).state fs).state
  unfolding react_all stopped
  append_state s [] fs = refl
  append_state s (e ∷ es) fs = append_state (react p scripts s e).state es fs

  append_sent : (s : List ℕ) (es fs : List Event)
      → (react_all p scripts s (es ++ fs)).sent ≡ (react_all p scripts s es).sent ++ (react_all p scripts (react_all p scripts s es).state fs).sent
  unfolding react_all stopped
  append_sent s [] fs = refl
  append_sent s (e ∷ es) fs =
      ap (λ (l : List Record). (react p scripts s e).sent ++ l) (append_sent (react p scripts s e).state es fs)
      ∙ sym (append_assoc (react p scripts s e).sent _ _)

module _ (p scripts : List ℕ) (v : Observer) (laws : Laws p v) (good : T (well_formed p)) (table : T (eqb (length scripts) table_bytes)) (typed : T (are_bytes scripts)) where
  -- ---- one record

  one_event : (s t : List ℕ) (e : Event) → Alike v (react p scripts s e) (react p scripts t (seen_of p v e)) → Alike v (react p scripts s e) (react_all p scripts t (seen_of p v e ∷ []))
  unfolding react_all stopped
  one_event s t e a = record {
    states = a.states;
    requests = a.requests ∙ ap (observations_by v) (sym (append-nil (react p scripts t (seen_of p v e)).sent));
  }

  no_event : (s t : List ℕ) (e : Effects) → Agree v s t → Quiet v s e → Alike v e (react_all p scripts t [])
  unfolding react_all
  no_event s t e a q = quiet_alike v s t e (stopped t) a q (stopped_quiet v t a.right)

  record_alike : (s t bytes out : List ℕ) → output_room ≤ length out → T (sound p s) → Agree v s t
      → Alike v (outcome p scripts s bytes out).effects (react_all p scripts t (left_of_record (seen p v) p bytes))
  unfolding left_of_record seen
  record_alike s t bytes out room ok a =
      let e = event_in p bytes in
      let test = eqb (decoded Input bytes).number accepted && named p e in
      subst (λ (x : Effects). Alike v x (react_all p scripts t (branch test (branch (sees_event v e) (seen_of p v e ∷ []) []) [])))
      (sym (reacts p scripts s bytes out room good table ok))
      (two (λ (x : Effects) (l : List Event). Alike v x (react_all p scripts t l)) test test refl
      (λ passed.
      let names = and_r (eqb (decoded Input bytes).number accepted) (named p e) passed in
      let keys = event_keys p (decoded Input bytes).fields in
      one (λ (l : List Event). Alike v (react p scripts s e) (react_all p scripts t l)) (sees_event v e)
      (λ seen. one_event s t e (react_alike p v laws scripts e s t names keys seen a))
      (λ hidden. no_event s t (react p scripts s e) a (react_quiet p v laws scripts e s names keys hidden a.left)))
      (λ _. no_event s t (stopped s) a (stopped_quiet v s a.left)))

  -- ---- a list of records

  pub run_alike : (is : List Item) (s t : List ℕ) → Feedable is → T (sound p s) → T (are_words s) → Agree v s t
      → Agree v (feed_all p scripts s is).state (react_all p scripts t (left_of_records (seen p v) p is)).state
      × (observations_by v (feed_all p scripts s is).requests ≡ observations_by v (react_all p scripts t (left_of_records (seen p v) p is)).sent)
  unfolding feed_all left_of_records react_all stopped feed
  run_alike [] s t fed ok words a = (a, refl)
  run_alike (i ∷ is) s t fed ok words a =
      let es = left_of_record (seen p v) p i.bytes in
      let after = (react_all p scripts t es).state in
      let first = record_alike s t i.bytes i.buffer fed.1 ok a in
      let done = (outcome p scripts s i.bytes i.buffer).effects in
      let read = ap (λ (r : Reading). r.records) (sent_reads_back p scripts s i.bytes i.buffer typed words fed.0) in
      let next = (feed p scripts s i.bytes i.buffer).state in
      let rest = run_alike is next after fed.2 (sound_kept p scripts s i.bytes i.buffer ok) (words_kept p scripts s i.bytes i.buffer typed words fed.0) first.states in
      let later = (feed_all p scripts next is).requests in (
        subst (Agree v (feed_all p scripts next is).state) (sym (append_state p scripts t es (left_of_records (seen p v) p is))) rest.0,
        ap (λ (l : List Record). observations_by v (l ++ later)) read
            ∙ observations_append v done.sent later
            ∙ ap₂ ◌++◌ first.requests rest.1
            ∙ sym (observations_append v (react_all p scripts t es).sent (react_all p scripts after (left_of_records (seen p v) p is)).sent)
            ∙ ap (observations_by v) (sym (append_sent p scripts t es (left_of_records (seen p v) p is))),
      )

-- ---- two lists of records

-- two runs that an observer cannot tell apart
pub record SameTo (v : Observer) (a b : Trace) : Type 0 where
  pub states : Agree v a.state b.state
  pub requests : observations_by v a.requests ≡ observations_by v b.requests

module _ (p scripts : List ℕ) (v : Observer) where
  empty_agrees : Agree v empty_state empty_state
  empty_agrees = agree_refl v empty_state (length-replicate {A = ℕ} state_words 0)

  -- where nothing happens on either side
  nothing_told : (is js : List Item) → run p scripts is ≡ nothing → run p scripts js ≡ nothing → SameTo v (run p scripts is) (run p scripts js)
  nothing_told is js i j = rw (i, j) (record { states = empty_agrees; requests = refl })

  -- both meet at the run of what it sees of them
  accepted_told : T (well_formed p) → T (eqb (length scripts) table_bytes) → Laws p v → (is js : List Item) → T (are_bytes scripts) → Feedable is → Feedable js
      → left_of_records (seen p v) p is ≡ left_of_records (seen p v) p js → SameTo v (run p scripts is) (run p scripts js)
  unfolding run
  accepted_told good table laws is js typed fi fj e =
      let i = run_alike p scripts v laws good table typed is empty_state empty_state fi (empty_sound p) empty_words empty_agrees in
      let j = run_alike p scripts v laws good table typed js empty_state empty_state fj (empty_sound p) empty_words empty_agrees in
      let left = feed_all p scripts empty_state is in
      let right = feed_all p scripts empty_state js in
      let middle = react_all p scripts empty_state (left_of_records (seen p v) p js) in
      let met = subst (λ (es : List Event). Agree v left.state (react_all p scripts empty_state es).state) e i.0 in
      record {
        states = agree_trans v left.state middle.state right.state met (agree_sym v right.state middle.state j.0);
        requests = i.1 ∙ ap (λ (es : List Event). observations_by v (react_all p scripts empty_state es).sent) e ∙ sym j.1;
      }

  -- a claim says in its own words what is left of an event
  module _ (left : Event → List Event) (same : (e : Event) → left e ≡ seen p v e) where
    left_seen : (is : List Item) → left_of_records left p is ≡ left_of_records (seen p v) p is
    unfolding left_of_records left_of_record
    left_seen [] = refl
    left_seen (i ∷ is) =
        let e = event_in p i.bytes in
        ap₂ ◌++◌ (ap (λ (l : List Event). branch (eqb (decoded Input i.bytes).number accepted && named p e) l []) (same e)) (left_seen is)

    seen_alike_lem : T (well_formed p) → (is js : List Item) → remaining left p is ≡ remaining left p js
        → left_of_records (seen p v) p is ≡ left_of_records (seen p v) p js
    unfolding remaining
    seen_alike_lem good is js e =
        sym (left_seen is) ∙ sym (branch_true (well_formed p) (left_of_records left p is) [] good) ∙ e
        ∙ branch_true (well_formed p) (left_of_records left p js) [] good ∙ left_seen js

    pub same_to : (T (well_formed p) → Laws p v) → (is js : List Item) → T (are_bytes scripts) → Feedable is → Feedable js
        → remaining left p is ≡ remaining left p js → SameTo v (run p scripts is) (run p scripts js)
    same_to laws is js typed fi fj e =
        ⊎_elim
        (λ (good : T (well_formed p)). ⊎_elim
        (λ (table : T (eqb (length scripts) table_bytes)). accepted_told good table (laws good) is js typed fi fj (seen_alike_lem good is js e))
        (λ (bad : T (not (eqb (length scripts) table_bytes))). nothing_told is js (table_refused p scripts bad is) (table_refused p scripts bad js))
        (either (eqb (length scripts) table_bytes)))
        (λ (bad : T (not (well_formed p))). nothing_told is js (policy_refused p scripts bad is) (policy_refused p scripts bad js))
        (either (well_formed p))
