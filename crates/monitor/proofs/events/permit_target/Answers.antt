-- `events::permit_target` meets its contract: of a redirect's target what labels forbid is told.
use Rattle.monitor.proofs.events.permit_target.Goals as goal

pub returns-in-Redirect : goal.returns-in-Redirect
returns-in-Redirect g c = rw c.in-Redirect.is c.permit_redirect.ensures
