use Rattle.std.proofs.Common.{◌∙◌}
use Rattle.command_line.proofs.Numerals.{number_read, no_number}
use Rattle.command_line.proofs.numbers.number_named.Goals as goal

pub returns-in-Ok-clause-number : goal.returns-in-Ok-clause-number
returns-in-Ok-clause-number c =
    c.number_of_digits.ensures.number ∙ number_read c.args.least c.args.most c.ranges.most.fits c.args.word.now c.parse.result c.parse.ensures.value.0 c.in-Ok.number c.in-Ok.is

pub returns-in-Err-clause-number : goal.returns-in-Err-clause-number
returns-in-Err-clause-number c = no_number c.args.least c.args.most c.ranges.most.fits c.args.word.now c.parse.result c.parse.ensures.value.0 _ c.in-Err.is
