use Rattle.nd_types.specs.declared.types.Field.{Field}
use Rattle.library_types.proofs.Searching.{NoneBefore}
use Rattle.library_types.proofs.finding.member_named.Given as goal

abbrev pub invariant-loop-at : goal.invariant-loop-at
invariant-loop-at l = NoneBefore Field (λ f. f.name) l.members l.name l.at
