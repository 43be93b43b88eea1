use Rattle.std.proofs.Common.{◌≡◌, map}
use Rattle.std.specs.List.{list_any}
use Rattle.std.specs.Str.{bytes_eq}
use Rattle.idl_grammar.specs.Seen.{seen_parameter}
use Rattle.idl_constructs.proofs.AnyFrom.{any_from}
use Rattle.idl_check.proofs.acf_names.is_listed.Given as goal

-- one of those that are left, or none
abbrev pub invariant-loop-parameter : goal.invariant-loop-parameter
invariant-loop-parameter l =
    any_from seen_parameter (λ q. bytes_eq l.name.octets q.declarator.name.octets) l.parameters l.parameter-index
    ≡ list_any (λ q. bytes_eq l.name.octets q.declarator.name.octets) (map seen_parameter l.parameters)
