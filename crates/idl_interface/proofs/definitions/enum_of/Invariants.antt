use Rattle.std.proofs.Common.{◌≡◌, ◌++◌, map, drop}
use Rattle.idl_grammar.specs.Seen.{seen_enumerator}
use Rattle.idl_scope.specs.Seen.{known_in}
use Rattle.idl_rule_definitions.specs.Nodes.{number_of}
use Rattle.idl_rule_definitions.specs.Meaning.{or_zero}
use Rattle.idl_interface.proofs.definitions.enum_of.Given as goal

-- what is there, with what is left
abbrev pub invariant-loop-enumerator : goal.invariant-loop-enumerator
invariant-loop-enumerator l =
    l.values ++ map (λ e. or_zero (number_of (known_in l.scope) e.name.octets)) (map seen_enumerator (drop l.enumerator-index l.enumerators))
    ≡ map (λ e. or_zero (number_of (known_in l.scope) e.name.octets)) (map seen_enumerator l.enumerators)
