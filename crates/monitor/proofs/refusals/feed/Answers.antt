-- `refusals::feed` meets its contract: each refusal where it is the first that applies, and else what `react` does.
use Rattle.prelude.proofs.Kit.{ℕ, ◌≡◌, true, false, arith, not, sym, ◌∙◌, ap, rules, le-ltb, lt-ltb, eqb, length}
use Rattle.std.specs.Prelude.{Ok, Err}
use Rattle.records.specs.declared.Direction.TheVariants.{Input}
use Rattle.records.specs.Answers.{Decoded}
use Rattle.records.specs.Codec.{decoded}
use Rattle.records.specs.Results.{decode_number}
use Rattle.records.proofs.RoundTrips.{longest_is}
use Rattle.machine.specs.Policy.{well_formed}
use Rattle.machine.specs.Session.{sound}
use Rattle.machine.specs.Scripts.{table_bytes}
use Rattle.machine.specs.Machine.{event_of, output_room, plain, feed}
use Rattle.machine.specs.Guarantees.{refused_with}
use Rattle.monitor.specs.declared.refusal.Refusal.TheVariants.{Malformed}
use Rattle.monitor.specs.Answers.{fed, reaction}
use Rattle.monitor.proofs.Awaiting.{sound_length}
use Rattle.monitor.proofs.Feeding.{bytes_are, words_are, refused_by_lem, refused_record, reacted}
use Rattle.monitor.proofs.Reacting.{some_fault}
use Rattle.monitor.proofs.refusals.feed.Goals as goal

pub returns-then-out-lt-OUTPUT_ROOM : goal.returns-then-out-lt-OUTPUT_ROOM
returns-then-out-lt-OUTPUT_ROOM c =
    let a = c.args in
    refused_by_lem a.policy.now a.scripts.now a.state.now a.bytes.now a.out.now 0 tt
    (lt-ltb (length a.out.now) output_room (rw longest_is.1 c.if-out-lt-OUTPUT_ROOM.true)) (omega arith)

pub returns-in_default : goal.returns-in_default
returns-in_default c =
    let a = c.args in
    let room = le-ltb (length a.out.now) output_room (rw longest_is.1 c.if-out-lt-OUTPUT_ROOM.false) in
    let bad : well_formed a.policy.now ≡ false = search rules in
    refused_by_lem a.policy.now a.scripts.now a.state.now a.bytes.now a.out.now 1 (room, tt) (ap not bad) (omega arith)

pub returns-in_default-parse : goal.returns-in_default-parse
returns-in_default-parse c =
    let a = c.args in
    let room = le-ltb (length a.out.now) output_room (rw longest_is.1 c.if-out-lt-OUTPUT_ROOM.false) in
    let formed : well_formed a.policy.now ≡ true = search rules in
    let short : eqb (length a.scripts.now) table_bytes ≡ false = search rules in
    refused_by_lem a.policy.now a.scripts.now a.state.now a.bytes.now a.out.now 2 (room, (ap not formed, tt)) (ap not short) (omega arith)

pub returns-then-not-sound : goal.returns-then-not-sound
returns-then-not-sound c =
    let a = c.args in
    let room = le-ltb (length a.out.now) output_room (rw longest_is.1 c.if-out-lt-OUTPUT_ROOM.false) in
    let formed : well_formed a.policy.now ≡ true = search rules in
    let whole : eqb (length a.scripts.now) table_bytes ≡ true = search rules in
    let unsound : sound a.policy.now a.state.now ≡ false = search rules in
    refused_by_lem a.policy.now a.scripts.now a.state.now a.bytes.now a.out.now 3 (room, (ap not formed, (ap not whole, tt))) (ap not unsound) (omega arith)

pub returns-in_err-fields : goal.returns-in_err-fields
returns-in_err-fields c =
    let a = c.args in
    let e = c.in_err-fields.field-0.0 in
    let room = le-ltb (length a.out.now) output_room (rw longest_is.1 c.if-out-lt-OUTPUT_ROOM.false) in
    let formed : well_formed a.policy.now ≡ true = search rules in
    let whole : eqb (length a.scripts.now) table_bytes ≡ true = search rules in
    let safe : sound a.policy.now a.state.now ≡ true = search rules in
    let failed : c.decode.result ≡ Err e = search rules in
    let gives : c.from_residual.result ≡ Err (Malformed e) = search rules in
    let number : decode_number e ≡ (decoded Input a.bytes.now).number = ap (λ (d : Decoded). d.number) (rw failed at c.decode.ensures) in
    rw gives
    (ap (λ (k : ℕ). refused_with (plain k) a.state.now a.out.now) number
    ∙ refused_record a.policy.now a.scripts.now a.state.now a.bytes.now a.out.now (room, (ap not formed, (ap not whole, (ap not safe, tt)))) (λ z. some_fault e (number ∙ z)))

pub new-session-requires : goal.new-session-requires
new-session-requires c =
    let a = c.args in
    let safe : sound a.policy.now a.state.now ≡ true = search rules in
    sound_length a.policy.now a.state.now safe

pub returns : goal.returns
returns c =
    let a = c.args in
    let p = a.policy.now in
    let room = le-ltb (length a.out.now) output_room (rw longest_is.1 c.if-out-lt-OUTPUT_ROOM.false) in
    let formed : well_formed p ≡ true = search rules in
    let whole : eqb (length a.scripts.now) table_bytes ≡ true = search rules in
    let safe : sound p a.state.now ≡ true = search rules in
    let is_policy : c.new-session.result.policy.words.now ≡ p = search rules in
    let is_table : c.in-Some-parse.table.bytes.now ≡ a.scripts.now = search rules in
    let read : c.decode.result ≡ Ok c.in_ok-fields.fields = search rules in
    let fields = rw read at c.decode.ensures in
    let all : fed c.react.result c.react.new.session.words.now c.react.new.out.buffer.now ≡ feed p a.scripts.now a.state.now a.bytes.now a.out.now =
    (rw (is_policy, is_table, c.new-session.ensures.words, c.new-out.ensures.buffer) at c.react.ensures.fed)
    ∙ ap (λ (d : Decoded). reaction p a.scripts.now a.state.now (event_of p d.fields) a.out.now) fields
    ∙ reacted p a.scripts.now a.state.now a.bytes.now a.out.now (room, (ap not formed, (ap not whole, (ap not safe, tt)))) (sym (ap (λ (d : Decoded). d.number) fields))
    (bytes_are a.scripts.now (λ i. (c.type_inv.scripts i).fits)) (words_are a.state.now (search rules)) (bytes_are a.bytes.now (λ i. (c.type_inv.bytes i).fits)) in
    search rules
