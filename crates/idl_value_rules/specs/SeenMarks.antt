-- What the rules ask of a type with all that it is made of.
use Rattle.std.specs.Prelude.{◌≡◌, ℕ, ◌&&◌, List, Option, Some, None}
use Rattle.std.specs.List.{list_any, slice_get}
use Rattle.idl_declared_types.specs.declared.kinds.Kind.{Kind}
use Rattle.idl_value_rules.specs.declared.marks.Mark.{Mark}
use Rattle.idl_value_rules.specs.declared.marks.Marks.{Marks}
use Rattle.idl_value_rules.specs.declared.marks.TheConstants.{OF_VOID}
use Rattle.idl_declared_types.specs.Kinds.{type_at}
use Rattle.idl_rule_definitions.specs.Types.{IdlType, is_void, is_handle, is_pipe, is_context}
use Rattle.idl_rule_definitions.specs.Scene.{Scene, chain, hoists, is_nonencapsulated}
use Rattle.idl_rule_definitions.specs.TypeRules.{dimensions, has_wrong_count, are_many, has_many_not_fixed, has_wrong_element, is_wrong_pipe}
use Rattle.idl_rule_definitions.specs.TypeRules.{is_made_of_elements, is_too_deep, has_no_class, refers_to_reference}

-- What a mark says of a type. "Holds" is of the type and all that it points to or is made of as an array, text or pipe.
pub record IsMark (s : Scene) (t : IdlType) (m : Mark) : Type 0 where
  pub holds_void : m.holds_void ≡ list_any is_void (chain t)
  pub holds_handle : m.holds_handle ≡ list_any is_handle (chain t)
  pub holds_pipe : m.holds_pipe ≡ list_any is_pipe (chain t)
  pub holds_context : m.holds_context ≡ list_any is_context (chain t)
  pub holds_classless : m.holds_classless ≡ list_any has_no_class (chain t)
  pub holds_reference_behind : m.holds_reference_behind ≡ list_any refers_to_reference (chain t)
  pub holds_wrong_count : m.holds_wrong_count ≡ list_any has_wrong_count (chain t)
  pub holds_many_not_fixed : m.holds_many_not_fixed ≡ list_any has_many_not_fixed (chain t)
  pub holds_nonencapsulated : m.holds_nonencapsulated ≡ list_any (is_nonencapsulated s) (chain t)
  pub holds_wrong_element : m.holds_wrong_element ≡ list_any (has_wrong_element s) (chain t)
  pub holds_wrong_pipe : m.holds_wrong_pipe ≡ list_any (is_wrong_pipe s) (chain t)
  pub holds_deep_array : m.holds_deep_array ≡ list_any (λ u. is_made_of_elements u && is_too_deep s u) (chain t)
  pub many_dimensions : m.many_dimensions ≡ are_many (dimensions t)
  pub nonencapsulated : m.nonencapsulated ≡ is_nonencapsulated s t
  pub hoists : m.hoists ≡ hoists s t
  pub too_deep : m.too_deep ≡ is_too_deep s t

abbrev pub or_void_mark : Option Mark → Mark
or_void_mark (Some m) = m
or_void_mark None = OF_VOID

-- the mark of a type by its number; what is no number of a type stands for `void`
abbrev pub mark_at : Marks → ℕ → Mark
mark_at marks n = or_void_mark (slice_get marks.items.items n)

-- these are the marks of all types
abbrev pub AreMarks : Scene → List Kind → Marks → Type 0
AreMarks s ks marks = (n : ℕ) → IsMark s (type_at ks n) (mark_at marks n)

-- what a mark says of some types, of a type and all that it is made of, or of what is below it
pub record Holds (s : Scene) (ts : List IdlType) (m : Mark) : Type 0 where
  pub void : m.holds_void ≡ list_any is_void ts
  pub handle : m.holds_handle ≡ list_any is_handle ts
  pub pipe : m.holds_pipe ≡ list_any is_pipe ts
  pub context : m.holds_context ≡ list_any is_context ts
  pub nonencapsulated : m.holds_nonencapsulated ≡ list_any (is_nonencapsulated s) ts
