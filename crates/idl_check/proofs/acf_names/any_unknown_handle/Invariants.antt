use Rattle.std.proofs.Common.{◌≡◌}
use Rattle.std.specs.List.{list_any}
use Rattle.idl_scope.specs.Seen.{known_in}
use Rattle.idl_check.specs.AcfRules.{has_unknown_handle}
use Rattle.idl_constructs.proofs.AnyFrom.{any_from}
use Rattle.idl_check.proofs.acf_names.any_unknown_handle.Given as goal

-- one of those that are left, or none
abbrev pub invariant-loop-attribute : goal.invariant-loop-attribute
invariant-loop-attribute l =
    any_from (λ a. a) (λ a. has_unknown_handle (known_in l.scope) a.kind) l.attributes l.attribute-index ≡ list_any (λ a. has_unknown_handle (known_in l.scope) a.kind) l.attributes
