use Rattle.std.proofs.Common.{◌≡◌, not}
use Rattle.idl_check.specs.AcfRules.{is_misplaced, belongs}
use Rattle.idl_constructs.proofs.AnyFrom.{any_from}
use Rattle.idl_check.proofs.acf_places.is_misplaced.Given as goal

-- one of those that are left, or none
abbrev pub invariant-loop-attribute : goal.invariant-loop-attribute
invariant-loop-attribute l = any_from (λ a. a) (λ a. not (belongs l.spot a.kind)) l.attributes l.attribute-index ≡ is_misplaced (belongs l.spot) l.attributes
