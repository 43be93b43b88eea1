use Rattle.std.proofs.Common.{◌≡◌, true, false, List, map, refl, ap, sym, ◌∙◌, Some}
use Rattle.idl_grammar.specs.Tree.{Attribute}
use Rattle.idl_grammar.specs.Seen.{seen_attribute}
use Rattle.idl_declared_types.specs.Kinds.{type_at}
use Rattle.idl_rule_definitions.specs.Attributes.{has, has_one_of, string_word, sizes, lengths}
use Rattle.idl_rule_definitions.specs.Types.{IdlType, pointee_with, text_of, sized}
use Rattle.idl_declared_types.proofs.NameLists.{stands_within}
use Rattle.idl_declared_types.proofs.typing.pointee_with.Goals as goal

plain : (attributes : List Attribute) (t : IdlType) → has string_word attributes ≡ false → has_one_of sizes attributes ≡ false → t ≡ pointee_with attributes t
plain attributes t string size =
    sym (ap (λ b. elim b [ true ↦ text_of t | false ↦ elim (has_one_of sizes attributes) [ true ↦ sized (has_one_of lengths attributes) t | false ↦ t ] ]) string
    ∙ ap (λ b. elim b [ true ↦ sized (has_one_of lengths attributes) t | false ↦ t ]) size)

pub returns-clause-stands : goal.returns-clause-stands
returns-clause-stands c =
    stands_within c.args.kinds.now c.args.of c.requires
    ∙ ap Some (plain (map seen_attribute c.args.attributes.now) (type_at c.args.kinds.now c.args.of) (sym c.has.ensures ∙ c.if-has.false) (sym c.has_size.ensures ∙ c.if-has_size.false))
