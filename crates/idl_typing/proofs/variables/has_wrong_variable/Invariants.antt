use Rattle.std.proofs.Common.{◌≡◌, [], ◌∷◌, ◌++◌, map, drop}
use Rattle.std.specs.List.{list_any}
use Rattle.idl_grammar.specs.Seen.{seen_attribute}
use Rattle.idl_scope.specs.Seen.{known_in}
use Rattle.idl_rule_definitions.specs.Attributes.{switch_is_word, sizes, lengths}
use Rattle.idl_declared_types.specs.Kinds.{Keeps}
use Rattle.idl_declared_types.specs.SeenNames.{seen_names}
use Rattle.idl_constructs.specs.SeenNodes.{list_at}
use Rattle.idl_rule_definitions.specs.VariableRules.{variables, is_integer, may_be_switched}
use Rattle.idl_typing.specs.Lookups.{fails_in}
use Rattle.idl_typing.proofs.variables.has_wrong_variable.Given as goal

abbrev pub invariant-loop-attribute : goal.invariant-loop-attribute
invariant-loop-attribute l = record {
  keeps : Keeps l.fn.kinds l.kinds;
  same : list_any (fails_in (known_in l.scope) (seen_names l.fn.kinds l.names) is_integer (list_at l.nodes.lists.items l.slot.list))
      (variables (sizes ++ lengths) (map seen_attribute l.it.construct.attributes.now))
      ≡ list_any (fails_in (known_in l.scope) (seen_names l.fn.kinds l.names) is_integer (list_at l.nodes.lists.items l.slot.list))
      (variables (sizes ++ lengths) (map seen_attribute (drop l.attribute-index l.it.construct.attributes.now)));
}
