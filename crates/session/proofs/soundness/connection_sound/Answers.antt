-- `soundness::connection_sound` meets its contract: a free word, a word whose URL is none or does not fit, and any other by its shape.
use Rattle.prelude.proofs.Kit.{sym, ◌∙◌}
use Rattle.session.proofs.ConnectionTests.{free_sound, no_url, misfit, bare, neither, script}
use Rattle.session.proofs.soundness.connection_sound.Goals as goal

pub returns-then-word-eq-FREE : goal.returns-then-word-eq-FREE
returns-then-word-eq-FREE g c =
    let a = c.args in
    free_sound a.policy.words.now a.connection a.word c.if-word-eq-FREE.true

pub returns-then-not-is_url : goal.returns-then-not-is_url
returns-then-not-is_url g c =
    let asked = c in
    let a = asked.args in
    no_url a.policy.words.now a.connection a.word asked.if-word-eq-FREE.false (sym asked.is_url.ensures.0 ∙ c.if-not-is_url.true)

pub fits-requires : goal.fits-requires
fits-requires g c =
    (c.requires, c.is_url.ensures.1 (c.if-not-is_url.false))

pub returns-then-not-fits : goal.returns-then-not-fits
returns-then-not-fits g c =
    let fit = c in
    let url = fit in
    let asked = url in
    let a = asked.args in
    misfit a.policy.words.now a.connection a.word asked.if-word-eq-FREE.false
    (sym asked.is_url.ensures.0 ∙ url.if-not-is_url.false)
    (sym fit.fits.ensures ∙ c.if-not-fits.true)

pub returns-then-is_bare : goal.returns-then-is_bare
returns-then-is_bare g c =
    let shape = c in
    let fitting = shape in
    let fit = fitting in
    let url = fit in
    let asked = url in
    let a = asked.args in
    bare a.policy.words.now a.connection a.word asked.if-word-eq-FREE.false
    (sym asked.is_url.ensures.0 ∙ url.if-not-is_url.false)
    (sym fit.fits.ensures ∙ fitting.if-not-fits.false)
    (sym shape.is_bare.ensures ∙ c.if-is_bare.true)

pub returns-then-not-is_script : goal.returns-then-not-is_script
returns-then-not-is_script g c =
    let other = c in
    let not-bare = other in
    let shape = not-bare in
    let fitting = shape in
    let fit = fitting in
    let url = fit in
    let asked = url in
    let a = asked.args in
    neither a.policy.words.now a.connection a.word asked.if-word-eq-FREE.false
    (sym asked.is_url.ensures.0 ∙ url.if-not-is_url.false)
    (sym fit.fits.ensures ∙ fitting.if-not-fits.false)
    (sym shape.is_bare.ensures ∙ not-bare.if-is_bare.false)
    (sym other.is_script.ensures ∙ c.if-not-is_script.true)

pub returns : goal.returns
returns g c =
    let scripted = c in
    let other = scripted in
    let not-bare = other in
    let shape = not-bare in
    let fitting = shape in
    let fit = fitting in
    let url = fit in
    let asked = url in
    let a = asked.args in
    c.is_url-2.ensures.0
    ∙ script a.policy.words.now a.connection a.word asked.if-word-eq-FREE.false
    (sym asked.is_url.ensures.0 ∙ url.if-not-is_url.false)
    (sym fit.fits.ensures ∙ fitting.if-not-fits.false)
    (sym shape.is_bare.ensures ∙ not-bare.if-is_bare.false)
    (sym other.is_script.ensures ∙ scripted.if-not-is_script.false)
