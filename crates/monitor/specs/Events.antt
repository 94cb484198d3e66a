-- What arrives, as the code has it: what its enum tells of, and what is delivered with it.
use Rattle.std.specs.Prelude.{ℕ, List}
use Rattle.records.specs.declared.Record.{Record}
use Rattle.machine.specs.Policy.{url_host}
use Rattle.machine.specs.Session.{store_cookies}
use Rattle.machine.specs.Machine.{Event, Arrival}
use Rattle.machine.specs.Machine as machine
use Rattle.session.specs.Delivered.{delivered}
use Rattle.monitor.specs.declared.arrived.Arrived.{Arrived}
use Rattle.monitor.specs.declared.arrived.Arrived.TheVariants.{DocumentResponse, ScriptResponse, PictureResponse, Redirect}

abbrev pub told : Arrived → machine.Arrived
told (DocumentResponse script) = machine.DocumentResponse script
told (ScriptResponse value) = machine.ScriptResponse value
told PictureResponse = machine.PictureResponse
told (Redirect target) = machine.Redirect target

abbrev pub arrival : Record → machine.Arrived → Event
arrival from what = Arrival from.url from.connection (delivered from.keys from.cookies) what

-- the state with the cookies of a record stored
abbrev pub stored : List ℕ → Record → List ℕ → List ℕ
stored p from s = store_cookies p from.connection (url_host p from.url) (delivered from.keys from.cookies) s
