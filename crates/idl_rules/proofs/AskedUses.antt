-- A declarator in the program's terms is the one of which they speak.
use Rattle.std.proofs.Common.{◌≡◌, ◌∙◌, List, refl, ap}
use Rattle.idl_rules.specs.declared.asked.Asked.{Asked}
use Rattle.idl_declared_types.specs.declared.kinds.Kind.{Kind}
use Rattle.idl_rule_definitions.specs.Nodes.{Construct}
use Rattle.idl_rule_definitions.specs.Types.{IdlType}
use Rattle.idl_rule_definitions.specs.Scene.{Scene, Use}
use Rattle.idl_rules.specs.Asked.{asked_use, IsAsked}

with_parts : (u : Use) (c : Construct) (d t : IdlType) → c ≡ u.construct → d ≡ u.declared_as → t ≡ u.type
    → (record u { construct = c; declared_as = d; type = t }) ≡ u
with_parts u c d t e f g =
    ap (λ x. record u { construct = x; declared_as = d; type = t }) e
    ∙ ap (λ x. record u { construct = u.construct; declared_as = x; type = t }) f
    ∙ ap (λ x. record u { construct = u.construct; declared_as = u.declared_as; type = x }) g

pub asked_is : (s : Scene) (ks : List Kind) (u : Use) (a : Asked) → IsAsked s ks u a → asked_use ks a u ≡ u
asked_is s ks u a h = with_parts u _ _ _ h.construct h.typed.declared_as h.typed.of
