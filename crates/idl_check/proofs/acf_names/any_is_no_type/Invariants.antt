use Rattle.std.proofs.Common.{◌≡◌}
use Rattle.std.specs.List.{list_any}
use Rattle.idl_scope.specs.Seen.{known_in}
use Rattle.idl_check.specs.AcfRules.{is_no_type}
use Rattle.idl_constructs.proofs.AnyFrom.{any_from}
use Rattle.idl_check.proofs.acf_names.any_is_no_type.Given as goal

-- one of those that are left, or none
abbrev pub invariant-loop-name : goal.invariant-loop-name
invariant-loop-name l = any_from (λ n. n) (is_no_type (known_in l.scope)) l.names l.name-index ≡ list_any (is_no_type (known_in l.scope)) l.names
