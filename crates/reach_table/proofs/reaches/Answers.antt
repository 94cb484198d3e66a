-- `reaches` meets its contract: a row that is not empty is reached by the connections that fit it, and an empty one by none.
use Rattle.prelude.proofs.Kit.{sym, ◌∙◌}
use Rattle.reach_table.proofs.Reaching.{no_url, url_reached}
use Rattle.reach_table.proofs.reaches.Goals as goal

pub returns-then-is_url : goal.returns-then-is_url
returns-then-is_url g c = c.fits.ensures ∙ url_reached _ _ _ (sym c.is_url.ensures.0 ∙ c.if-is_url.true)

pub returns : goal.returns
returns g c = no_url _ _ _ (sym c.is_url.ensures.0 ∙ c.if-is_url.false)
