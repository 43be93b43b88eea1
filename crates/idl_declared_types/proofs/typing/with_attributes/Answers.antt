use Rattle.std.proofs.Common.{◌≡◌, ℕ, Bool, List, Option, ℤ, refl, ap, sym, ◌∙◌, Some, map}
use Rattle.idl_grammar.specs.Tree.{Attribute}
use Rattle.idl_grammar.specs.Seen.{seen_attribute}
use Rattle.idl_declared_types.specs.declared.kinds.Class.{Class}
use Rattle.idl_declared_types.specs.declared.kinds.Kind.{Kind}
use Rattle.idl_declared_types.specs.declared.kinds.Kind.TheVariants as kind
use Rattle.idl_rule_definitions.specs.Types.{IdlType, with_attributes}
use Rattle.idl_declared_types.specs.Kinds.{type_by, type_at, seen_types}
use Rattle.idl_declared_types.proofs.NameLists.{stands_within}
use Rattle.idl_declared_types.proofs.typing.with_attributes.Goals as goal

plain : (attributes : List Attribute) (types : List IdlType) (k : Kind) → ((e : ℕ) (n : Option ℤ) (v : Bool) → k ≡ kind.Array e n v → ⊥)
    → ((c : Class) (to : ℕ) → k ≡ kind.Pointer c to → ⊥) → type_by types k ≡ with_attributes attributes (type_by types k)
plain attributes types (kind.Array e n v) no_array no_pointer = absurd (no_array e n v refl)
plain attributes types (kind.Pointer c to) no_array no_pointer = absurd (no_pointer c to refl)
plain attributes types k no_array no_pointer = refl

pub returns-in_default : goal.returns-in_default
returns-in_default c = record {
  stands =
      let seen = c.kind.ensures.seen in
      stands_within c.args.kinds.now c.args.of c.requires
      ∙ ap Some
      (sym seen ∙ plain (map seen_attribute c.args.attributes.now) (seen_types c.args.kinds.now) c.kind.result c.in_default.not-Array c.in_default.not-Pointer
      ∙ ap (with_attributes (map seen_attribute c.args.attributes.now)) seen);
  keeps = λ n t h. h;
}
