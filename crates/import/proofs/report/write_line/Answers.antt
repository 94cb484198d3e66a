-- `report::write_line` meets its contract: the number of the line, then what it settles or why it is refused.
use Rattle.prelude.proofs.Kit.{◌≡◌, sym, ◌∙◌, ap}
use Rattle.text.proofs.Writing.{writes_then}
use Rattle.cookie.specs.Import.{imported}
use Rattle.import.specs.Lines.{text_of}
use Rattle.import.specs.Report.{answer_text, line_text}
use Rattle.import.proofs.Room.{refused_text, settled_text_lem, settles}
use Rattle.import.proofs.report.write_line.Goals.{After-cookie_import-answer}
use Rattle.import.proofs.report.write_line.Goals as goal

import_is : (m : After-cookie_import-answer) → let a = m.args in m.cookie_import-answer.result ≡ imported a.host a.names.now (text_of a.line.now)
import_is m = m.cookie_import-answer.ensures ∙ ap (imported m.args.host m.args.names.now) m.text_of.ensures

line_is : (m : After-cookie_import-answer) → let a = m.args in line_text a.nth a.host a.names.now a.line.now ≡ answer_text a.nth a.host m.cookie_import-answer.result
unfolding line_text
line_is m = ap (answer_text m.args.nth m.args.host) (sym (import_is m))

pub write_settled-requires-clause-host : goal.write_settled-requires-clause-host
write_settled-requires-clause-host c = (settles _ _ _ c.cookie_import-answer.ensures c.if-answer-eq-ACCEPTED.true).0

pub write_settled-requires-clause-key : goal.write_settled-requires-clause-key
write_settled-requires-clause-key c = (settles _ _ _ c.cookie_import-answer.ensures c.if-answer-eq-ACCEPTED.true).1

pub returns-then-answer-eq-ACCEPTED : goal.returns-then-answer-eq-ACCEPTED
returns-then-answer-eq-ACCEPTED c =
    rw (line_is (goal.at.returns-then-answer-eq-ACCEPTED c).After-cookie_import-answer, settled_text_lem c.args.nth c.args.host c.cookie_import-answer.result c.if-answer-eq-ACCEPTED.true)
    (writes_then c.write_number.ensures (writes_then c.write_bytes.ensures c.write_settled.ensures))

pub returns-else-answer-eq-ACCEPTED : goal.returns-else-answer-eq-ACCEPTED
returns-else-answer-eq-ACCEPTED c =
    rw (line_is (goal.at.returns-else-answer-eq-ACCEPTED c).After-cookie_import-answer, refused_text c.args.nth c.args.host c.cookie_import-answer.result c.if-answer-eq-ACCEPTED.false)
    (writes_then c.write_number.ensures (writes_then c.write_bytes.ensures c.write_refusal.ensures))
