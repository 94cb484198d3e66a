-- What the functions of this crate ask of their callers, who have just established it.
use Rattle.std.specs.Prelude.{ℕ, ◌<◌, List}
use Rattle.machine.specs.Policy.{connections}
use Rattle.machine.specs.Session.{script_count}
use Rattle.records.specs.declared.Record.{Record}
use Rattle.policy.specs.Given.{Url}
use Rattle.session.specs.declared.pending.Pending.{Pending}
use Rattle.monitor.specs.declared.arrived.Arrived.{Arrived}
use Rattle.monitor.specs.declared.arrived.Arrived.TheVariants.{DocumentResponse, ScriptResponse, PictureResponse, Redirect}

-- what arrived for a URL and on a connection that there are
pub record Arriving (p : List ℕ) (from : Record) : Type 0 where
  pub url : Url p from.url
  pub connection : from.connection < connections

-- the number that it carries names a script, or a URL
abbrev pub Names : List ℕ → Arrived → Type 0
Names p (DocumentResponse script) = script < script_count
Names p (ScriptResponse value) = Unit {0}
Names p PictureResponse = Unit {0}
Names p (Redirect target) = Url p target

-- what is pending on the connection that waits for it names the page, and the script that handles it
abbrev pub Holds : List ℕ → Pending → Arrived → Type 0
Holds p pending (DocumentResponse script) = Url p pending.url
Holds p pending (ScriptResponse value) = Url p pending.origin × (pending.handler < script_count)
Holds p pending PictureResponse = Unit {0}
Holds p pending (Redirect target) = Unit {0}
