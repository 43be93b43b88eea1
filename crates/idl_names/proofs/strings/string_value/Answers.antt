use Rattle.std.proofs.Common.{◌≡◌, ◌∙◌, ◌++◌, sym, ap, arith}
use Rattle.std.proofs.lemmas.List.{append-nil}
use Rattle.idl_names.proofs.Spelled.{at_end}
use Rattle.idl_names.proofs.strings.string_value.Goals as goal

pub returns : goal.returns
returns c = sym (c.loop-at.invariant.is ∙ (ap (λ l. c.loop-at.value.items ++ l) (at_end c.args.string.now c.loop-at.at (omega arith)) ∙ append-nil c.loop-at.value.items))
