-- What is below a type, by its kind.
use Rattle.std.proofs.Common.{◌≡◌, ℕ, List, Option, Some, None, slice_get, refl, sym, ap}
use Rattle.std.proofs.lemmas.Option.{same_Some, none-some}
use Rattle.idl_declared_types.specs.declared.kinds.Kind.{Kind}
use Rattle.idl_declared_types.specs.declared.kinds.Kind.TheVariants as kind
use Rattle.idl_declared_types.specs.declared.kinds.Class.TheVariants as class
use Rattle.idl_value_rules.specs.declared.marks.Mark.{Mark}
use Rattle.idl_rule_definitions.specs.Types.{IdlType, or_void}
use Rattle.idl_declared_types.specs.Kinds.{type_by, inner_of}
use Rattle.idl_rule_definitions.specs.Scene.{Scene, chain, below}
use Rattle.idl_rule_definitions.specs.TypeRules.{below_reference}
use Rattle.idl_rule_definitions.specs.VariableRules.{below_pointer, is_switched}
use Rattle.idl_rule_definitions.specs.Scene.{is_nonencapsulated}
use Rattle.idl_value_rules.specs.SeenMarks.{IsMark}
use Rattle.idl_value_rules.specs.SeenMarks.{Holds}
use Rattle.idl_declared_types.specs.KindTests.{pointee_of, referent_of}

module _ (types : List IdlType) where
  pub referent_below : (k : Kind) (to : ℕ) → Some to ≡ referent_of k → below_reference (type_by types k) ≡ below (or_void (slice_get types to))
  referent_below (kind.Pointer class.Reference x) to h = ap (λ n. below (or_void (slice_get types n))) (sym (same_Some _ _ h))
  referent_below _ to h = absurd (none-some to (sym h))

  pub no_referent_below : (k : Kind) → None ≡ referent_of k → below_reference (type_by types k) ≡ below (type_by types k)
  no_referent_below (kind.Pointer class.Reference x) h = absurd (none-some x h)
  no_referent_below _ h = refl

  pub pointee_below : (k : Kind) (to : ℕ) → Some to ≡ pointee_of k → below_pointer (type_by types k) ≡ below (or_void (slice_get types to))
  pointee_below (kind.Pointer c x) to h = ap (λ n. below (or_void (slice_get types n))) (sym (same_Some _ _ h))
  pointee_below _ to h = absurd (none-some to (sym h))

  pub no_pointee_below : (k : Kind) → None ≡ pointee_of k → below_pointer (type_by types k) ≡ below (type_by types k)
  no_pointee_below (kind.Pointer c x) h = absurd (none-some x h)
  no_pointee_below _ h = refl
