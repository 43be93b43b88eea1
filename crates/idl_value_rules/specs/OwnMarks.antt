-- For the code: what a type is itself, and what is made of what it points to or is made of.
use Rattle.std.specs.Prelude.{◌≡◌, ℕ, ◌<◌, not, ◌&&◌, List}
use Rattle.std.specs.List.{list_any}
use Rattle.idl_value_rules.specs.declared.marks.Mark.{Mark}
use Rattle.idl_value_rules.specs.declared.marks.Marks.{Marks}
use Rattle.idl_value_rules.specs.declared.marks.Own.{Own}
use Rattle.idl_declared_types.specs.declared.kinds.Kind.{Kind}
use Rattle.idl_declared_types.specs.Kinds.{type_at}
use Rattle.idl_value_rules.specs.SeenMarks.{mark_at, IsMark}
use Rattle.idl_rule_definitions.specs.Types.{IdlType, is_void, is_handle, is_pipe, is_context}
use Rattle.idl_rule_definitions.specs.Scene.{Scene, below, hoists, is_nonencapsulated}
use Rattle.idl_rule_definitions.specs.TypeRules.{has_wrong_element, is_wrong_pipe, is_made_of_elements, is_too_deep, has_no_class}
use Rattle.idl_rule_definitions.specs.TypeRules.{refers_to_reference}

pub record IsOwn (s : Scene) (t : IdlType) (o : Own) : Type 0 where
  pub void : o.void ≡ is_void t
  pub handle : o.handle ≡ is_handle t
  pub pipe : o.pipe ≡ is_pipe t
  pub context : o.context ≡ is_context t
  pub classless : o.classless ≡ has_no_class t
  pub reference_behind : o.reference_behind ≡ refers_to_reference t
  pub nonencapsulated : o.nonencapsulated ≡ is_nonencapsulated s t
  pub wrong_element : o.wrong_element ≡ has_wrong_element s t
  pub wrong_pipe : o.wrong_pipe ≡ is_wrong_pipe s t
  pub hoists : o.hoists ≡ hoists s t
  pub too_deep : o.too_deep ≡ is_too_deep s t
  pub deep_array : o.deep_array ≡ (is_made_of_elements t && is_too_deep s t)

-- what a mark holds is held below a type
pub record IsBelow (s : Scene) (t : IdlType) (m : Mark) : Type 0 where
  pub holds_void : m.holds_void ≡ list_any is_void (below t)
  pub holds_handle : m.holds_handle ≡ list_any is_handle (below t)
  pub holds_pipe : m.holds_pipe ≡ list_any is_pipe (below t)
  pub holds_context : m.holds_context ≡ list_any is_context (below t)
  pub holds_classless : m.holds_classless ≡ list_any has_no_class (below t)
  pub holds_reference_behind : m.holds_reference_behind ≡ list_any refers_to_reference (below t)
  pub holds_nonencapsulated : m.holds_nonencapsulated ≡ list_any (is_nonencapsulated s) (below t)
  pub holds_wrong_element : m.holds_wrong_element ≡ list_any (has_wrong_element s) (below t)
  pub holds_wrong_pipe : m.holds_wrong_pipe ≡ list_any (is_wrong_pipe s) (below t)
  pub holds_deep_array : m.holds_deep_array ≡ list_any (λ u. is_made_of_elements u && is_too_deep s u) (below t)

-- the marks of the types before a number
abbrev pub AreMarksBelow : Scene → List Kind → ℕ → Marks → Type 0
AreMarksBelow s ks number marks = (n : ℕ) → n < number → IsMark s (type_at ks n) (mark_at marks n)
