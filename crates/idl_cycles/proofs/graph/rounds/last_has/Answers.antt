use Rattle.std.proofs.Common.{◌∙◌}
use Rattle.idl_cycles.specs.GraphRounds.{value_in}
use Rattle.idl_cycles.proofs.GraphRounds.{last_at}
use Rattle.idl_cycles.proofs.graph.rounds.last_has.Goals as goal

pub returns-in-Some : goal.returns-in-Some
returns-in-Some c = c.value.ensures ∙ last_at (value_in c.args.values.now) c.args.parts.now c.in-Some.part.now c.in-Some.ensures.value
