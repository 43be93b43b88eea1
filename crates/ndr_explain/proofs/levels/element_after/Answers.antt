use Rattle.std.proofs.Common.{◌-◌, ◌+◌, arith}
use Rattle.ndr_explain.proofs.LevelPaths.{some_elements, element_types_on, element_paths_on}
use Rattle.ndr_explain.proofs.LevelPlaces.{element_places_on, element_places_over}
use Rattle.ndr_explain.proofs.levels.element_after.Goals as goal

pub returns-clause-is : goal.returns-clause-is
returns-clause-is c =
    let n = c.args.size in
    let i = c.args.at in
    ((some_elements c.args.of.0 (n - (i + 1)) (omega arith), element_types_on c.args.of.0 i n (omega arith)), λ p. element_paths_on p c.args.offset i n (omega arith))

pub returns-clause-places : goal.returns-clause-places
returns-clause-places c = element_places_on c.args.of.0 c.args.at c.args.size (omega arith)

pub returns-then-at-size-clause-places : goal.returns-then-at-size-clause-places
returns-then-at-size-clause-places c = element_places_over c.args.of.0 c.args.at c.args.size (omega arith)

pub returns-then-next-size-clause-places : goal.returns-then-next-size-clause-places
returns-then-next-size-clause-places c = element_places_over c.args.of.0 c.args.at c.args.size (omega arith)
