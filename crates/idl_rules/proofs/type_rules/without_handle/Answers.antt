use Rattle.std.proofs.Common.{sym, subst, ◌&&◌, not, map}
use Rattle.idl_grammar.specs.Seen.{seen_attribute}
use Rattle.idl_rule_definitions.specs.Attributes.{has, in_word, out_word}
use Rattle.idl_declared_types.specs.Kinds.{type_at}
use Rattle.idl_rule_definitions.specs.Nodes.{InParameter}
use Rattle.idl_rule_definitions.specs.TypeRules.{without_handle}
use Rattle.idl_constructs.specs.SeenNodes.{seen_position}
use Rattle.idl_value_rules.specs.SeenMarks.{Holds}
use Rattle.idl_rules.proofs.type_rules.without_handle.Goals as goal

pub returns-in-Parameter-true : goal.returns-in-Parameter-true
returns-in-Parameter-true c s are =
    let attributes = map seen_attribute c.args.asked.now.construct.attributes.now in
    let of = type_at c.args.judge.now.kinds.now c.args.asked.now.typed.of in
    subst (λ p. Holds s (without_handle (seen_position p) (has in_word attributes && not (has out_word attributes)) of) c.below.result)
    (sym c.in-Parameter-true.is-0)
    (subst (λ b. Holds s (without_handle InParameter b of) c.below.result) c.in-Parameter-true.ensures (c.below.ensures s are))
