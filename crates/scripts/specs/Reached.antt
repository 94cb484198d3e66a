-- A run of a script as the code has it: what it stands at, with the registers, the state and the output that were lent to it.
use Rattle.std.specs.Prelude.{ℕ, ◌+◌, List, Option, Some, None}
use Rattle.machine.specs.Session.{Effects}
use Rattle.machine.specs.Scripts.{script_steps, Progress}
use Rattle.session.specs.Output.{Output, write_each}

-- the place of the next step; a script that ended stands past the last one
abbrev pub place_of : Option ℕ → ℕ
place_of None = script_steps
place_of (Some place) = place

-- after a step
pub record Reached : Type 0 where
  pub place : ℕ
  pub registers : List ℕ
  pub state : List ℕ
  pub output : Output

abbrev pub reached : Option ℕ → (registers state : List ℕ) → Output → Reached
reached next rs s o = record { place = place_of next; registers = rs; state = s; output = o }

-- what a step of the definition leaves, its requests written after those of the steps before
abbrev pub after : Progress → Output → Reached
after done o = record { place = done.place; registers = done.registers; state = done.state; output = write_each done.sent o }

-- after the run
pub record Finished : Type 0 where
  pub steps : ℕ
  pub state : List ℕ
  pub output : Output

abbrev pub ran : ℕ → List ℕ → Output → Finished
ran steps s o = record { steps = steps; state = s; output = o }

-- what is done after so many steps
abbrev pub finished : ℕ → Effects → Output → Finished
finished steps e o = record { steps = steps + e.steps; state = e.state; output = write_each e.sent o }
