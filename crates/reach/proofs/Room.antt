-- How much room the lines take at most, and what is printed by the number that is answered.
use Rattle.prelude.proofs.Kit.{ℕ, ◌≤◌, ◌*◌, arith, List, [], ◌∷◌, ◌++◌, ◌≡◌, length, get_or, eq-eqb, ne_eqb}
use Rattle.prelude.specs.Refusals.{accepted}
use Rattle.text.specs.Text.{decimal, line, pieces_below}
use Rattle.text.proofs.Decimals.{numbers_room}
use Rattle.text.proofs.Pieces.{pieces_short}
use Rattle.machine.specs.Policy.{connections}
use Rattle.reach_table.specs.declared.ReachTable.{ReachTable}
use Rattle.reach.specs.Report.{line_text, last_line, report, line_room}

pub line_room_lem : (urls : List ℕ) (n : ℕ) → length (line_text urls n) ≤ line_room
line_room_lem urls n = numbers_room (n ∷ get_or urls n 0 ∷ []) (omega arith)

pub lines_room : (urls : List ℕ) → length (pieces_below connections (line_text urls)) ≤ line_room * connections
lines_room urls = pieces_short connections line_room (line_text urls) (line_room_lem urls) connections

module _ (t : ReachTable) where
  pub refused_report : (t.number ≡ accepted → ⊥) → report t ≡ line (decimal t.number ∷ [])
  unfolding report
  refused_report ne = rw (ne_eqb t.number accepted ne)

  pub table_report : t.number ≡ accepted → report t ≡ pieces_below connections (line_text t.urls) ++ last_line t.all
  unfolding report
  table_report e = rw (eq-eqb t.number accepted e)
