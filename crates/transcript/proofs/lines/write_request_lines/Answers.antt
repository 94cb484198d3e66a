-- `lines::write_request_lines` meets its contract: the lines of what is left lead to where all lead, and there is room for them.
use Rattle.prelude.proofs.Kit.{arith, rules, ap, length, length-drop}
use Rattle.prelude.proofs.Lists.{rest_is}
use Rattle.text.proofs.Writing.{leads_on, leads_end}
use Rattle.transcript.proofs.Requests.{request_read, request_missing, lines_none, lines_more, request_room}
use Rattle.transcript.proofs.lines.write_request_lines.Goals as goal

pub write_request_line-requires : goal.write_request_line-requires
write_request_line-requires c =
    let is = request_read c.loop-request.rest.now c.in-Ok.ensures in
    omega (arith, c.loop-request.invariant.room, is.least, is.within)

pub slice_bounds-rest-count : goal.slice_bounds-rest-count
slice_bounds-rest-count c = (request_read c.loop-request.rest.now c.in-Ok.ensures).within

pub slice_bounds-rest-start : goal.slice_bounds-rest-start
slice_bounds-rest-start c = let l = slice_bounds-rest-count c in search rules

pub loop-request-smaller : goal.loop-request-smaller
loop-request-smaller c =
    let rest = c.loop-request.rest.now in
    let n = c.in-Ok.request.length in
    let is = request_read rest c.in-Ok.ensures in
    omega (arith, is.least, is.within, ap length (rest_is rest n), length-drop n rest)

pub loop-request-preserved : goal.loop-request-preserved
loop-request-preserved c = record {
  room =
      let r = c.in-Ok.request.fields in
      let rest = c.loop-request.rest.now in
      let n = c.in-Ok.request.length in
      let is = request_read rest c.in-Ok.ensures in
      omega (arith, is.least, is.within, request_room r.url r.connection r.keys (search rules) (search rules), ap length (rest_is rest n), length-drop n rest);
  leads = leads_on c.loop-request.invariant.leads (lines_more (request_read _ c.in-Ok.ensures)) c.write_request_line.ensures;
}

pub returns : goal.returns
returns c = leads_end c.loop-request.invariant.leads (lines_none _ (request_missing _ _ c.in_default.ensures))
