use Rattle.std.proofs.Common.{refl, ap, ◌∙◌}
use Rattle.ndr_refs.specs.Naming.{cell_of}
use Rattle.ndr_refs.proofs.Naming.{as_before, has_met, is_known, one_to_one, unchanged}
use Rattle.ndr_refs.proofs.laws.numbers_name_cells.Goals as goal

pub returns-clause-none : goal.returns-clause-none
returns-clause-none c n = refl

pub returns-clause-met : goal.returns-clause-met
returns-clause-met c = has_met

pub returns-clause-unmet : goal.returns-clause-unmet
returns-clause-unmet c = unchanged

pub returns-clause-known : goal.returns-clause-known
returns-clause-known c = is_known

pub returns-clause-turned : goal.returns-clause-turned
returns-clause-turned c n first old new turn m = ap (cell_of m) turn.represented ∙ as_before n old m

pub returns-clause-one_to_one : goal.returns-clause-one_to_one
returns-clause-one_to_one c = one_to_one
