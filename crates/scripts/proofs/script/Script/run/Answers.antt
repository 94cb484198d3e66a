-- `Script::run` meets its contract: what was done and what remains are what is done in all.
use Rattle.prelude.proofs.Kit.{ℕ, ap, ◌≤◌, ◌≡◌, ◌∙◌, arith, rules}
use Rattle.machine.specs.Scripts.{script_steps}
use Rattle.session.specs.Output.{output}
use Rattle.scripts.specs.Reached.{place_of, ran}
use Rattle.scripts.proofs.Running.{run_past, run_spent, run_more}
use Rattle.scripts.proofs.script.Script.run.Goals as goal

pub returns-in_default-clause-ran : goal.returns-in_default-clause-ran
returns-in_default-clause-ran g c =
    let a = c.args in
    let l = c.loop-steps in
    let ended : script_steps ≤ place_of l.next = rw c.in_default.is (omega arith) in
    run_past a.self.code.now l.session.policy.words.now a.self.connection a.self.page l.steps l.registers l.session.words.now (output l.out.at l.out.buffer.now) l.next ended
    ∙ l.invariant.remains

pub returns-then-place-ge-SCRIPT_STEPS-clause-ran : goal.returns-then-place-ge-SCRIPT_STEPS-clause-ran
returns-then-place-ge-SCRIPT_STEPS-clause-ran g c =
    let a = c.args in
    let l = c.loop-steps in
    let past : script_steps ≤ place_of l.next = rw c.in-Some.is c.if-place-ge-SCRIPT_STEPS.true in
    run_past a.self.code.now l.session.policy.words.now a.self.connection a.self.page l.steps l.registers l.session.words.now (output l.out.at l.out.buffer.now) l.next past
    ∙ l.invariant.remains

pub loop-steps-preserved : goal.loop-steps-preserved
loop-steps-preserved g c =
    let a = c.args in
    let l = c.loop-steps in
    let call = c.step-next in
    record {
      memory = search rules;
      output_memory = search rules;
      policy = search rules;
      remains =
          run_more a.self.code.now l.session.policy.words.now a.self.connection a.self.page l.steps l.registers l.session.words.now (output l.out.at l.out.buffer.now)
          c.in-Some.place call.new.session.policy.words.now call.result call.new.registers call.new.session.words.now (output call.new.out.at call.new.out.buffer.now)
          (omega arith) c.if-place-ge-SCRIPT_STEPS.false call.ensures.policy call.ensures.reached
          ∙ (rw c.in-Some.is at l.invariant.remains);
    }

pub returns-clause-ran : goal.returns-clause-ran
returns-clause-ran g c =
    let a = c.args in
    let l = c.loop-steps in
    let spent : 32 ≡ l.steps = omega arith in
    ap (λ (k : ℕ). ran k l.session.words.now (output l.out.at l.out.buffer.now)) spent
    ∙ run_spent a.self.code.now l.session.policy.words.now a.self.connection a.self.page l.steps l.registers l.session.words.now (output l.out.at l.out.buffer.now) l.next (omega arith)
    ∙ l.invariant.remains
