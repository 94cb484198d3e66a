use Rattle.prelude.proofs.Kit.{◌≡◌}
use Rattle.records.proofs.Cookies.{Writing}
use Rattle.records.proofs.writing.Writer.cookies.Given as goal

abbrev pub invariant-loop-key : goal.invariant-loop-key
invariant-loop-key l = record {
  same_memory : l.self.out.ghost_name ≡ l.initial.self.out.ghost_name;
  written : Writing l.initial.self.out.now l.initial.self.at l.keys l.fn.values l.self.out.now l.self.at l.key;
}
