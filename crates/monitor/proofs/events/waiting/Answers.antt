-- `events::waiting` meets its contract: the word packs what is pending, and the test is that of the definition.
use Rattle.prelude.proofs.Kit.{◌≡◌, sym, ◌∙◌, rules}
use Rattle.std.specs.Prelude.{Some, None}
use Rattle.machine.specs.Session.{connection_word}
use Rattle.session.specs.Pending.{pending_in}
use Rattle.session.proofs.PendingWords.{NoKind, Fields, unpacked, packs}
use Rattle.machine.specs.Session.{kind_of}
use Rattle.monitor.specs.Events.{told}
use Rattle.monitor.proofs.Awaiting.{none_awaited, awaited_is, held}
use Rattle.monitor.proofs.events.waiting.Goals as goal

pub returns-in_err-pending-clause-awaited : goal.returns-in_err-pending-clause-awaited
returns-in_err-pending-clause-awaited g c =
    let a = c.args in
    let s = a.session.now in
    let w = connection_word s.words.now a.from.connection in
    let nothing : c.from_residual.result ≡ None = search rules in
    let read : pending_in w ≡ None = search rules in
    let none : NoKind (kind_of w) = rw read at (unpacked w) in
    rw nothing (sym (none_awaited s.policy.words.now s.words.now a.from (told a.what) c.requires.1 c.requires.0.connection none))

pub returns-then-pending-from-clause-awaited : goal.returns-then-pending-from-clause-awaited
returns-then-pending-from-clause-awaited g c =
    let a = c.args in
    let s = a.session.now in
    let w = connection_word s.words.now a.from.connection in
    let q = c.in_ok-pending.pending in
    let read : pending_in w ≡ Some q = search rules in
    let fields : Fields w q = rw read at (unpacked w) in
    sym (rw c.of_kind.ensures at c.if-pending-from.true) ∙ awaited_is s.words.now a.from (told a.what) q fields

pub returns-then-pending-from-clause-word : goal.returns-then-pending-from-clause-word
returns-then-pending-from-clause-word g c =
    let a = c.args in
    let w = connection_word a.session.now.words.now a.from.connection in
    let q = c.in_ok-pending.pending in
    let read : pending_in w ≡ Some q = search rules in
    let fields : Fields w q = rw read at (unpacked w) in
    packs w q fields

pub returns-then-pending-from-clause-holds : goal.returns-then-pending-from-clause-holds
returns-then-pending-from-clause-holds g c =
    let a = c.args in
    let s = a.session.now in
    let w = connection_word s.words.now a.from.connection in
    let q = c.in_ok-pending.pending in
    let read : pending_in w ≡ Some q = search rules in
    let fields : Fields w q = rw read at (unpacked w) in
    held s.policy.words.now s.words.now a.from q a.what s.policy.formed.formed c.requires.1 c.requires.0.connection c.requires.0.url fields
    (rw c.of_kind.ensures at c.if-pending-from.true)

pub returns-else-pending-from-clause-awaited : goal.returns-else-pending-from-clause-awaited
returns-else-pending-from-clause-awaited g c =
    let a = c.args in
    let s = a.session.now in
    let w = connection_word s.words.now a.from.connection in
    let q = c.in_ok-pending.pending in
    let read : pending_in w ≡ Some q = search rules in
    let fields : Fields w q = rw read at (unpacked w) in
    sym (rw c.of_kind.ensures at c.if-pending-from.false) ∙ awaited_is s.words.now a.from (told a.what) q fields
