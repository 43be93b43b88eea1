use Rattle.std.proofs.Common.{sym, ◌∙◌}
use Rattle.text_parser.proofs.Uuids.{form_step}
use Rattle.text_parser.proofs.identifiers.after_form.Goals as goal

pub loop-form-preserved : goal.loop-form-preserved
loop-form-preserved c =
    form_step c.args.whole.now c.args.text.now c.loop-form.form.now c.loop-form.rest.now c.in-len1-up.len_at_least c.in-len1-up-rest.len_at_least (sym c.fits.ensures ∙ c.if-not-fits.false)
    c.loop-form.invariant
