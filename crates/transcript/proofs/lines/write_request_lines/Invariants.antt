-- `lines::write_request_lines` meets its contract: the lines of what is left lead to where all lead, and there is room for them.
use Rattle.prelude.proofs.Kit.{◌*◌, length}
use Rattle.text.specs.Writing.{HasRoom}
use Rattle.text.proofs.Writing.{Leads}
use Rattle.transcript.specs.Lines.{sent_lines}
use Rattle.transcript.proofs.lines.write_request_lines.Given as goal

abbrev pub invariant-loop-request : goal.invariant-loop-request
invariant-loop-request l = record {
  room : HasRoom l.text (5 * length l.rest);
  leads : Leads l.initial.text (sent_lines l.sent) l.text (sent_lines l.rest);
}

abbrev pub decreases-loop-request : goal.decreases-loop-request
decreases-loop-request l = length l.rest
