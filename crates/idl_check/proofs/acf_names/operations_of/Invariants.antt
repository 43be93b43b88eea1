use Rattle.std.proofs.Common.{drop, map}
use Rattle.idl_grammar.specs.Seen.{seen_export}
use Rattle.idl_check.specs.AcfRules.{AreOperations}
use Rattle.idl_check.proofs.acf_names.operations_of.Given as goal

-- the operations of the last declarations are there
abbrev pub invariant-loop-at : goal.invariant-loop-at
invariant-loop-at l = AreOperations l.at (drop l.at (map seen_export l.exports)) l.numbers
