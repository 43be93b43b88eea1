use Rattle.std.proofs.Common.{◌∙◌, Some, ap}
use Rattle.ndr_decoder_fast.proofs.alone.leap_alone.Goals as goal

pub returns-in-Align-clause-takes : goal.returns-in-Align-clause-takes
returns-in-Align-clause-takes g c values code h there =
    c.take_gap.ensures.takes c.args.order (g.L.Ledger.number c.args.steps.now) values code h (there ∙ ap Some c.in-Align.is)

pub returns-else-is_element-clause-takes : goal.returns-else-is_element-clause-takes
returns-else-is_element-clause-takes g c values code h there = c.take_number.ensures.takes values code h (there ∙ ap Some c.in-Num.is)

pub returns-in-Pointer-clause-takes : goal.returns-in-Pointer-clause-takes
returns-in-Pointer-clause-takes g c values code h there = c.take_pointer.ensures.takes values code h (there ∙ ap Some c.in-Pointer.is)
