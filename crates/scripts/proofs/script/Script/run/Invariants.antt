-- `Script::run` meets its contract: what was done and what remains are what is done in all.
use Rattle.prelude.proofs.Kit.{◌≡◌}
use Rattle.std.specs.Prelude.{Some}
use Rattle.machine.specs.Scripts.{starting_with}
use Rattle.session.specs.Output.{output}
use Rattle.scripts.proofs.Running.{remaining}
use Rattle.scripts.proofs.script.Script.run.Given as goal

abbrev pub invariant-loop-steps : goal.invariant-loop-steps
invariant-loop-steps g l = record {
  memory : l.session.words.ghost_name ≡ l.initial.session.words.ghost_name;
  output_memory : l.out.buffer.ghost_name ≡ l.initial.out.buffer.ghost_name;
  policy : l.session.policy.words.now ≡ l.initial.session.policy.words.now;
  remains : remaining l.self.code.now l.session.policy.words.now l.self.connection l.self.page l.steps l.next l.registers l.session.words.now (output l.out.at l.out.buffer.now)
      ≡ remaining l.self.code.now l.initial.session.policy.words.now l.self.connection l.self.page 0 (Some 0) (starting_with l.value) l.initial.session.words.now (output l.initial.out.at l.initial.out.buffer.now);
}
