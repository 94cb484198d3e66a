-- A run, step by step: what was done and what remains are what is done in all.
use Rattle.prelude.proofs.Kit.{ℕ, ◌≤◌, ◌<◌, ◌+◌, ◌-◌, suc, zero, add-zero, arith, List, ◌∷◌, [], ◌++◌, ◌≡◌, sym, ◌∙◌, refl, ap, le-ltb, lt-ltb}
use Rattle.std.specs.Prelude.{Option, Some}
use Rattle.prelude.specs.Choice.{branch}
use Rattle.records.specs.declared.Record.{Record}
use Rattle.machine.specs.Session.{Effects}
use Rattle.machine.specs.Scripts.{script_steps, step_limit, step_at, Progress, goes_on, step, stopped, followed, run_from}
use Rattle.session.specs.Output.{Output, write_each}
use Rattle.scripts.specs.Reached.{Reached, place_of, reached, after, Finished, ran, finished}

write_append : (xs ys : List Record) (o : Output) → write_each (xs ++ ys) o ≡ write_each ys (write_each xs o)
unfolding write_each
write_append [] ys o = refl
write_append (x ∷ xs) ys o = write_append xs ys _

one_more : (a b : ℕ) → a + suc b ≡ a + 1 + b
one_more a b = omega arith

-- after so many steps, where the next place is
abbrev pub remaining : (code p : List ℕ) (n page steps : ℕ) → Option ℕ → (rs s : List ℕ) → Output → Finished
remaining code p n page steps next rs s o = finished steps (run_from (step_limit - steps) (step_at code) p n page (place_of next) rs s) o

at_rest : (steps : ℕ) (s : List ℕ) (o : Output) → ran steps s o ≡ finished steps (stopped s) o
unfolding stopped write_each
at_rest steps s o = rw (add-zero steps)

module _ (code p : List ℕ) (n page steps : ℕ) (rs s : List ℕ) (o : Output) where
  past : (fuel i : ℕ) → script_steps ≤ i → run_from fuel (step_at code) p n page i rs s ≡ stopped s
  unfolding run_from branch
  past zero i l = refl
  past (suc fuel) i l = rw (le-ltb i script_steps l)

  -- past the last place nothing is done
  pub run_past : (next : Option ℕ) → script_steps ≤ place_of next → ran steps s o ≡ remaining code p n page steps next rs s o
  run_past next l = at_rest steps s o ∙ ap (λ (x : Effects). finished steps x o) (sym (past (step_limit - steps) (place_of next) l))

  -- nor after as many steps as there can be
  pub run_spent : (next : Option ℕ) → step_limit ≤ steps → ran steps s o ≡ remaining code p n page steps next rs s o
  unfolding run_from
  run_spent next l = let none : step_limit - steps ≡ 0 = omega arith in at_rest steps s o ∙ rw none refl

  one_step : (fuel i : ℕ) → i < script_steps
      → finished steps (run_from (suc fuel) (step_at code) p n page i rs s) o
      ≡ (let done = step p n page (step_at code i) i rs s in
      finished (steps + 1) (run_from fuel (step_at code) p n page done.place done.registers done.state) (write_each done.sent o))
  unfolding run_from branch followed
  one_step fuel i l = rw (lt-ltb i script_steps l, write_append, one_more steps)

  -- a step, and what follows it
  pub run_more : (place : ℕ) (q : List ℕ) (next : Option ℕ) (rs' s' : List ℕ) (o' : Output) → steps < step_limit → place < script_steps → q ≡ p
      → reached next rs' s' o' ≡ after (step p n page (step_at code place) place rs s) o
      → remaining code q n page (steps + 1) next rs' s' o' ≡ remaining code p n page steps (Some place) rs s o
  run_more place q next rs' s' o' l m same e =
      let fuel : suc (step_limit - (steps + 1)) ≡ step_limit - steps = omega arith in
      rw same
      (ap (λ (x : Reached). finished (steps + 1) (run_from (step_limit - (steps + 1)) (step_at code) p n page x.place x.registers x.state) x.output) e
      ∙ sym (one_step (step_limit - (steps + 1)) place m)
      ∙ ap (λ (f : ℕ). finished steps (run_from f (step_at code) p n page place rs s) o) fuel)

-- a step that sends nothing leaves the output as it was
pub quiet : (next : Option ℕ) (rs s : List ℕ) (o : Output) {done : Progress} → goes_on (place_of next) rs s ≡ done → reached next rs s o ≡ after done o
unfolding goes_on write_each
quiet next rs s o e = rw (← e)
