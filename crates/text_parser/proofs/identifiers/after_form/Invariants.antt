use Rattle.std.proofs.Common.{length}
use Rattle.text_parser.proofs.Uuids.{FormCame}
use Rattle.text_parser.proofs.identifiers.after_form.Given as goal

abbrev pub invariant-loop-form : goal.invariant-loop-form
invariant-loop-form l = FormCame l.whole l.text l.form l.rest

abbrev pub decreases-loop-form : goal.decreases-loop-form
decreases-loop-form l = length l.form
