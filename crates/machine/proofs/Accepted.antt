-- What acceptance says: every test passed. And what a call does where the tests that do not look at the event pass.
use Rattle.prelude.proofs.Kit.{ℕ, ◌≤◌, ◌&&◌, Bool, not, List, ◌++◌, ◌≡◌, sym, ◌∙◌, ap, subst, le-ltb, T, eqb, ltb, eqb→eq, not_T, length}
use lib.Dec.{nltb→le}
use Rattle.prelude.specs.Choice.{branch}
use Rattle.prelude.specs.Refusals.{accepted, first_of, answering}
use Rattle.prelude.proofs.Choices.{is_true, passes, in_two, one}
use Rattle.prelude.proofs.Refusals.{NoneOf, none_applies, none_applied, in_a_row, told_first, accepted_on, accepted_past}
use Rattle.labels.specs.Membership.{is_none}
use Rattle.records.specs.declared.Direction.TheVariants.{Input}
use Rattle.records.specs.Codec.{read_refusals, read_refusal, decoded}
use Rattle.machine.specs.Policy.{well_formed}
use Rattle.machine.specs.Session.{sound, Effects}
use Rattle.machine.specs.Scripts.{table_bytes, stopped}
use Rattle.machine.specs.Machine.{Event, event_in, named, awaited, missing_reader, missing_writer, name_unknown, output_room, Verdict, plain, lent_refusals, judgements, event_refusals, refusals, verdict, perform, outcome}

pub record Passed (p scripts s bytes out : List ℕ) : Type 0 where
  pub room : output_room ≤ length out
  pub policy : T (well_formed p)
  pub table : T (eqb (length scripts) table_bytes)
  pub state : T (sound p s)
  pub read : (decoded Input bytes).number ≡ accepted
  pub names : T (named p (event_in p bytes))
  pub waits : T (awaited s (event_in p bytes))
  pub readers : T (is_none (missing_reader p (event_in p bytes)))
  pub writers : T (is_none (missing_writer p (event_in p bytes)))

abbrev number : Verdict → ℕ
number told = told.number

-- refusal by refusal
pub all_passed : (p scripts s bytes out : List ℕ) → (verdict p scripts s bytes out).number ≡ accepted → Passed p scripts s bytes out
unfolding verdict decoded read_refusal
all_passed p scripts s bytes out e =
    let event = event_in p bytes in
    let (room, (policy, (table, (state, (map, (keys, (size, (names, (waits, (readers, (writers, _))))))))))) =
    none_applied (answering number (refusals p scripts s bytes out)) tt (sym (told_first number (refusals p scripts s bytes out) (plain accepted)) ∙ e) in
    record {
      room = nltb→le (length out) output_room (not_T (ltb (length out) output_room) (λ t. subst T room t));
      policy = passes (well_formed p) policy;
      table = passes (eqb (length scripts) table_bytes) table;
      state = passes (sound p s) state;
      read = none_applies accepted (read_refusals Input bytes) (map, (keys, (size, tt)));
      names = passes (named p event) names;
      waits = passes (awaited s event) waits;
      readers = passes (is_none (missing_reader p event)) readers;
      writers = passes (is_none (missing_writer p event)) writers;
    }

-- the refusals part after part
pub in_parts : (p scripts s bytes out : List ℕ)
    → verdict p scripts s bytes out
    ≡ first_of (lent_refusals p scripts s out) (first_of (answering plain (read_refusals Input bytes)) (first_of (event_refusals p s (event_in p bytes)) (plain accepted)))
unfolding verdict
in_parts p scripts s bytes out =
    let read = answering plain (read_refusals Input bytes) in
    in_a_row (plain accepted) (lent_refusals p scripts s out) (read ++ event_refusals p s (event_in p bytes))
    ∙ ap (first_of (lent_refusals p scripts s out)) (in_a_row (plain accepted) read (event_refusals p s (event_in p bytes)))

-- nothing judges an event that names something amiss
unfoldable pub allowed : List ℕ → List ℕ → Event → Bool
allowed p s e = eqb (first_of (answering number (judgements p s e)) accepted) accepted

pub allowed_by : (p s : List ℕ) (e : Event) → T (allowed p s e) → T (awaited s e) × T (is_none (missing_reader p e)) × T (is_none (missing_writer p e))
unfolding allowed
allowed_by p s e t =
    let numbers = answering number (judgements p s e) in
    let (waits, (readers, (writers, _))) = none_applied numbers tt (eqb→eq (first_of numbers accepted) accepted t) in
    (passes (awaited s e) waits, passes (is_none (missing_reader p e)) readers, passes (is_none (missing_writer p e)) writers)

-- where an event's number is that of what is accepted, none of its refusals applies
pub event_passed : (p s : List ℕ) (e : Event) → (first_of (event_refusals p s e) (plain accepted)).number ≡ accepted → NoneOf (event_refusals p s e)
event_passed p s e n = none_applied (answering number (event_refusals p s e)) tt (sym (told_first number (event_refusals p s e) (plain accepted)) ∙ n)

-- what such an event does: it is performed where nothing refuses it
unfoldable pub react : List ℕ → List ℕ → List ℕ → Event → Effects
react p scripts s e = branch (allowed p s e) (perform p scripts s e) (stopped s)

accepted_is : (p scripts s bytes out : List ℕ) → NoneOf (lent_refusals p scripts s out)
    → eqb (verdict p scripts s bytes out).number accepted ≡ eqb (decoded Input bytes).number accepted && (named p (event_in p bytes) && allowed p s (event_in p bytes))
unfolding decoded read_refusal allowed
accepted_is p scripts s bytes out none =
    let e = event_in p bytes in
    let read = answering plain (read_refusals Input bytes) in
    let event = first_of (event_refusals p s e) (plain accepted) in
    ap (λ (v : Verdict). eqb v.number accepted) (in_parts p scripts s bytes out ∙ none_applies (first_of read event) (lent_refusals p scripts s out) none)
    ∙ ap (λ (n : ℕ). eqb n accepted) (told_first number read event)
    ∙ accepted_on (read_refusals Input bytes) event.number tt
    ∙ ap (λ (n : ℕ). eqb (read_refusal Input bytes) accepted && eqb n accepted) (told_first number (event_refusals p s e) (plain accepted))
    ∙ ap (λ (b : Bool). eqb (read_refusal Input bytes) accepted && b) (accepted_past name_unknown (named p e) (answering number (judgements p s e)) tt)

pub reacts : (p scripts s bytes out : List ℕ) → output_room ≤ length out → T (well_formed p) → T (eqb (length scripts) table_bytes) → T (sound p s)
    → (outcome p scripts s bytes out).effects
    ≡ branch (eqb (decoded Input bytes).number accepted && named p (event_in p bytes)) (react p scripts s (event_in p bytes)) (stopped s)
unfolding outcome react
reacts p scripts s bytes out a b c d =
    let e = event_in p bytes in
    let none : NoneOf (lent_refusals p scripts s out) =
    (le-ltb (length out) output_room a, (ap not (is_true (well_formed p) b), (ap not (is_true (eqb (length scripts) table_bytes) c), (ap not (is_true (sound p s) d), tt)))) in
    ap (λ (t : Bool). branch t (perform p scripts s e) (stopped s)) (accepted_is p scripts s bytes out none)
    ∙ in_two (eqb (decoded Input bytes).number accepted) (named p e) (allowed p s e) (perform p scripts s e) (stopped s)

-- what holds of a record that is performed, and where nothing is done, holds of every call
pub either_way : (P : Effects → Type 0) (p scripts s bytes out : List ℕ)
    → (Passed p scripts s bytes out → P (perform p scripts s (event_in p bytes))) → P (stopped s) → P (outcome p scripts s bytes out).effects
unfolding outcome
either_way P p scripts s bytes out f g =
    one P _ (λ t. f (all_passed p scripts s bytes out (eqb→eq (verdict p scripts s bytes out).number accepted t))) (λ _. g)
