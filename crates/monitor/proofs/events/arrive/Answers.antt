-- `events::arrive` meets its contract: each refusal where its test is the first that fails, and else what `receive` does.
use Rattle.prelude.proofs.Kit.{◌&&◌, true, ◌≡◌, sym, ◌∙◌, rules}
use Rattle.std.specs.Prelude.{Ok, Err, None}
use Rattle.machine.specs.Policy.{is_url, is_connection}
use Rattle.machine.specs.Machine.{carries_names, named, awaited, missing_reader, missing_writer, perform}
use Rattle.machine.specs.Session.{connection_word}
use Rattle.session.specs.Pending.{word_of}
use Rattle.monitor.specs.declared.refusal.Refusal.TheVariants.{Labels}
use Rattle.monitor.specs.Events.{told, arrival}
use Rattle.monitor.proofs.Awaiting.{two_fail, third_fails, three_pass}
use Rattle.monitor.proofs.Reacting.{unnamed, unawaited, forbidden, performed}
use Rattle.monitor.proofs.events.arrive.Goals as goal

pub returns-then-not-is_named-clause-fed : goal.returns-then-not-is_named-clause-fed
unfolding named
returns-then-not-is_named-clause-fed g c =
    let a = c.args in
    let s = a.session.now in
    let p = s.policy.words.now in
    let tested : c.is_named.result ≡ is_url p a.from.url && is_connection a.from.connection = search rules in
    unnamed p a.table.bytes.now s.words.now a.out.now.buffer.now (arrival a.from (told a.what))
    (two_fail (is_url p a.from.url) (is_connection a.from.connection) (carries_names p (told a.what)) (sym tested ∙ c.if-not-is_named.true))

pub returns-then-not-carries_names-clause-fed : goal.returns-then-not-carries_names-clause-fed
unfolding named
returns-then-not-carries_names-clause-fed g c =
    let a = c.args in
    let s = a.session.now in
    let p = s.policy.words.now in
    let carries : c.carries_names.result ≡ carries_names p (told a.what) = search rules in
    unnamed p a.table.bytes.now s.words.now a.out.now.buffer.now (arrival a.from (told a.what))
    (third_fails (is_url p a.from.url) (is_connection a.from.connection) (carries_names p (told a.what)) (sym carries ∙ c.if-not-carries_names.true))

pub returns-in_default-clause-fed : goal.returns-in_default-clause-fed
unfolding named
returns-in_default-clause-fed g c =
    let a = c.args in
    let s = a.session.now in
    let p = s.policy.words.now in
    let tested : c.is_named.result ≡ is_url p a.from.url && is_connection a.from.connection = search rules in
    let carries : c.carries_names.result ≡ carries_names p (told a.what) = search rules in
    let none : c.waiting.result ≡ None = search rules in
    unawaited p a.table.bytes.now s.words.now a.out.now.buffer.now (arrival a.from (told a.what))
    (three_pass (is_url p a.from.url) (is_connection a.from.connection) (carries_names p (told a.what)) (sym tested ∙ c.if-not-is_named.false) (sym carries ∙ c.if-not-carries_names.false))
    (sym (rw none at c.waiting.ensures.awaited))

pub returns-in_err-permit_target-clause-fed : goal.returns-in_err-permit_target-clause-fed
unfolding named missing_reader missing_writer
returns-in_err-permit_target-clause-fed g c =
    let a = c.args in
    let s = a.session.now in
    let p = s.policy.words.now in
    let x = c.in_err-permit_target.field-0.0 in
    let tested : c.is_named.result ≡ is_url p a.from.url && is_connection a.from.connection = search rules in
    let carries : c.carries_names.result ≡ carries_names p (told a.what) = search rules in
    let waits : awaited s.words.now (arrival a.from (told a.what)) ≡ true = search rules in
    let refused : c.permit_target.result ≡ Err x = search rules in
    let gives : c.from_residual.result ≡ Err (Labels x) = search rules in
    rw gives
    (forbidden p a.table.bytes.now s.words.now a.out.now.buffer.now (arrival a.from (told a.what))
    (three_pass (is_url p a.from.url) (is_connection a.from.connection) (carries_names p (told a.what)) (sym tested ∙ c.if-not-is_named.false) (sym carries ∙ c.if-not-carries_names.false))
    waits x (rw (c.policy-policy.ensures, c.from-connection.ensures, refused) at c.permit_target.ensures))

pub returns-clause-fed : goal.returns-clause-fed
unfolding named missing_reader missing_writer perform
returns-clause-fed g c =
    let a = c.args in
    let s = a.session.now in
    let p = s.policy.words.now in
    let tested : c.is_named.result ≡ is_url p a.from.url && is_connection a.from.connection = search rules in
    let carries : c.carries_names.result ≡ carries_names p (told a.what) = search rules in
    let waits : awaited s.words.now (arrival a.from (told a.what)) ≡ true = search rules in
    let permitted : c.permit_target.result ≡ Ok tt = search rules in
    let word : word_of c.in-Some.pending ≡ connection_word s.words.now a.from.connection = search rules in
    performed p a.table.bytes.now s.words.now a.out.now.buffer.now (arrival a.from (told a.what))
    (three_pass (is_url p a.from.url) (is_connection a.from.connection) (carries_names p (told a.what)) (sym tested ∙ c.if-not-is_named.false) (sym carries ∙ c.if-not-carries_names.false))
    waits (rw (c.policy-policy.ensures, c.from-connection.ensures, permitted) at c.permit_target.ensures) _
    (rw (c.store.ensures.policy, c.store.ensures.words, c.from-connection.ensures, word) at c.receive.ensures.did)
