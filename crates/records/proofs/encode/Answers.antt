-- `encode` meets its contract: at each return the tests that led there say what encoding answers.
use Rattle.prelude.proofs.Kit.{◌≤◌, true, ◌≡◌, sym, ◌∙◌, subst, T, length, rules}
use Rattle.prelude.specs.Refusals.{accepted}
use Rattle.records.specs.Layout.{longest}
use Rattle.records.specs.Codec.{carriable, encoded}
use Rattle.prelude.proofs.Choices.{is_true}
use Rattle.records.proofs.FromLeft.{has_front}
use Rattle.records.proofs.Encoding.{no_room_lem, not_carriable_lem, written_whole, room_left, known}
use Rattle.records.proofs.encode.Goals.{Else-not-carriable, Else-out-longest}
use Rattle.records.proofs.encode.Goals as goal

-- what is known after each test
room : (m : Else-out-longest) → longest m.args.direction ≤ length m.args.out.now
room m = rw m.longest.ensures at m.if-out-longest.false

carried : (m : Else-not-carriable) → carriable m.args.direction m.args.fields ≡ true
carried m = sym m.carriable.ensures ∙ m.if-not-carriable.false

pub returns-then-out-longest : goal.returns-then-out-longest
returns-then-out-longest c = no_room_lem c.args.direction c.args.fields c.args.out.now (rw c.longest.ensures at c.if-out-longest.true)

pub returns-then-not-carriable : goal.returns-then-not-carriable
returns-then-not-carriable c =
    not_carriable_lem c.args.direction c.args.fields c.args.out.now (room (goal.at.returns-then-not-carriable c).Else-out-longest) (sym c.carriable.ensures ∙ c.if-not-carriable.true)

pub record-requires-clause-front : goal.record-requires-clause-front
record-requires-clause-front c =
    has_front c.args.direction c.args.fields.map (is_true _ (known c.args.direction c.args.fields (subst T (sym (carried (goal.at.record-requires-clause-front c).Else-not-carriable)) tt)))

pub record-requires-clause-room : goal.record-requires-clause-room
record-requires-clause-room c =
    let s = goal.at.record-requires-clause-room c in
    rw (c.new-writer.ensures.at, c.new-writer.ensures.bytes)
    (room_left c.args.direction c.args.fields c.args.out.now (room s.Else-out-longest) (carried s.Else-not-carriable))

pub returns : goal.returns
returns c =
    let s = goal.at.returns c in
    let wrote = rw (c.new-writer.ensures.at, c.new-writer.ensures.bytes) at c.record.ensures.wrote in
    let whole : record { number = accepted; length = c.record.new.self.at; buffer = c.record.new.self.out.now } ≡ encoded c.args.direction c.args.fields c.args.out.now =
    written_whole c.args.direction c.args.fields c.args.out.now (room s.Else-out-longest) (carried s.Else-not-carriable) wrote in
    search (rules, whole)
