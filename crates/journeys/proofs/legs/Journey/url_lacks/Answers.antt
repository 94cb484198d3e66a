-- `Journey::url_lacks` meets its contract: the set is the one that the definition asks about.
use Rattle.prelude.proofs.Kit.{◌∙◌, refl}
use Rattle.journeys.specs.Journey.{of_url_number}
use Rattle.journeys.proofs.legs.Journey.url_lacks.Goals as goal

pub returns-in-WritersForbid : goal.returns-in-WritersForbid
unfolding of_url_number
returns-in-WritersForbid g c = rw (c.in-WritersForbid.is, c.unwrap_or-in-WritersForbid.ensures ∙ c.fit_missing_writer-writer.ensures.0) refl
