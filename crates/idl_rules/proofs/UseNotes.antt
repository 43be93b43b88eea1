-- No breach of a declarator, a body, a tag's type or an empty arm is of a rule on lists of attributes, nor of rule 11, but for that of bodies.
use Rattle.std.proofs.Common.{◌≡◌, ◌∙◌, ℕ, Bool, true, false, not, ◌&&◌, ltb, eqb, List, [], ◌∷◌, ◌++◌, refl, ap, ap₂, sym}
use Rattle.idl_rule_definitions.specs.Nodes.{Construct}
use Rattle.idl_rule_definitions.specs.Types.{IdlType, is_void, is_handle, is_pipe, is_context}
use Rattle.idl_rule_definitions.specs.Scene.{Scene, Use, Body}
use Rattle.idl_rule_definitions.specs.Rules.{Breach, broken_at, broken_in, breaches_of_use}
use Rattle.idl_rule_definitions.specs.DeclarationRules.{lacks_switch_type, is_wrongly_cased, has_class, has_string, lacks_direction, has_lower_bounds}
use Rattle.idl_rule_definitions.specs.TypeRules.{holds_void, holds_handle, holds_pipe, is_no_context_handle, holds_context_handle, in_tag, is_deep_body, holds_deep_array, is_wrong_result}
use Rattle.idl_rule_definitions.specs.TypeRules.{has_wrong_counts, has_wrong_dimensions, has_wrong_elements, hoists_before_last, is_hoisting_arm, holds_wrong_pipe, has_class_without_pointer}
use Rattle.idl_rule_definitions.specs.TypeRules.{holds_pointer_without_class, holds_pointer_to_reference, is_nullable_out, is_wrong_out}
use Rattle.idl_rule_definitions.specs.VariableRules.{may_not_be_switched, holds_nonencapsulated_union, has_wrong_switch, is_wrong_text, is_wrongly_sized, is_wrongly_varying, has_no_variable}
use Rattle.idl_rule_definitions.specs.VariableRules.{has_wrong_variable}
use Rattle.idl_rule_definitions.specs.Noted.{of_others}
use Rattle.idl_rules.specs.Asked.{with_types, with_arrays, with_unions, with_pointers, with_variables, body_breaches, switch_breaches, empty_arm_breaches}
use Rattle.idl_value_rules.specs.RestBreaches.{but_cycles}
use Rattle.idl_rule_definitions.proofs.OtherNotes.{others_append, kept}
use Rattle.idl_rule_definitions.specs.declared.rule.TheConstants as Rule

-- a rule past those on lists, and not 11
abbrev pub is_rest : ℕ → Bool
is_rest rule = not (ltb rule Rule.BODY) && not (eqb rule Rule.NO_TYPE_IN_ITSELF)

-- a part of a list of breaches, of which all of these rules are kept
module _ (part : List Breach → List Breach) (none : part [] ≡ [])
    (more : (bs : List Breach) (c : Construct) (rule : ℕ) (b : Bool) → part bs ≡ bs → is_rest rule ≡ true → part (bs ++ broken_in c rule b) ≡ bs ++ broken_in c rule b) where
  types_kept : (s : Scene) (u : Use) (before : List Breach) → part before ≡ before → part (with_types s u before) ≡ with_types s u before
  types_kept s u before h =
      let co = u.construct in
      let k1 = more before co 6 (holds_void u) h refl in
      let b1 = before ++ broken_in co Rule.VOID (holds_void u) in
      let k2 = more b1 co 7 (holds_handle u) k1 refl in
      let b2 = b1 ++ broken_in co Rule.HANDLE (holds_handle u) in
      let k3 = more b2 co 8 (holds_pipe u) k2 refl in
      let b3 = b2 ++ broken_in co Rule.PIPES (holds_pipe u) in
      let k4 = more b3 co 9 (is_no_context_handle u) k3 refl in
      let b4 = b3 ++ broken_in co Rule.CONTEXT_HANDLE (is_no_context_handle u) in
      let k5 = more b4 co 10 (holds_context_handle u) k4 refl in
      let b5 = b4 ++ broken_in co Rule.CONTEXT_HANDLES (holds_context_handle u) in
      more b5 co 12 (holds_deep_array s u) k5 refl

  arrays_kept : (s : Scene) (u : Use) (before : List Breach) → part before ≡ before → part (with_arrays s u before) ≡ with_arrays s u before
  arrays_kept s u before h =
      let co = u.construct in
      let k1 = more before co 14 (has_wrong_counts u) h refl in
      let b1 = before ++ broken_in co Rule.ELEMENTS (has_wrong_counts u) in
      let k2 = more b1 co 15 (has_lower_bounds s.known u.it) k1 refl in
      let b2 = b1 ++ broken_in co Rule.LOWER_BOUNDS (has_lower_bounds s.known u.it) in
      let k3 = more b2 co 16 (has_wrong_dimensions u) k2 refl in
      let b3 = b2 ++ broken_in co Rule.SEVERAL_DIMENSIONS (has_wrong_dimensions u) in
      let k4 = more b3 co 17 (has_wrong_elements s u) k3 refl in
      let b4 = b3 ++ broken_in co Rule.ELEMENTS_OF_ARRAYS (has_wrong_elements s u) in
      let k5 = more b4 co 18 (hoists_before_last s u) k4 refl in
      let b5 = b4 ++ broken_in co Rule.MEMBERS_THAT_HOIST (hoists_before_last s u) in
      let k6 = more b5 co 19 (is_hoisting_arm s u) k5 refl in
      let b6 = b5 ++ broken_in co Rule.ARMS_THAT_HOIST (is_hoisting_arm s u) in
      more b6 co 20 (holds_wrong_pipe s u) k6 refl

  unions_kept : (s : Scene) (u : Use) (before : List Breach) → part before ≡ before → part (with_unions s u before) ≡ with_unions s u before
  unions_kept s u before h =
      let co = u.construct in
      let k1 = more before co 23 (is_wrongly_cased u.construct) h refl in
      let b1 = before ++ broken_in co Rule.CASES (is_wrongly_cased u.construct) in
      let k2 = more b1 co 24 (holds_nonencapsulated_union s u) k1 refl in
      let b2 = b1 ++ broken_in co Rule.USES_OF_UNIONS (holds_nonencapsulated_union s u) in
      more b2 co 25 (has_wrong_switch s u) k2 refl

  pointers_kept : (s : Scene) (u : Use) (before : List Breach) → part before ≡ before → part (with_pointers s u before) ≡ with_pointers s u before
  pointers_kept s u before h =
      let co = u.construct in
      let k1 = more before co 26 (has_class_without_pointer u) h refl in
      let b1 = before ++ broken_in co Rule.CLASSES_ON_POINTERS (has_class_without_pointer u) in
      let k2 = more b1 co 27 (holds_pointer_without_class u) k1 refl in
      let b2 = b1 ++ broken_in co Rule.CLASS_OF_EACH_POINTER (holds_pointer_without_class u) in
      let k3 = more b2 co 28 (holds_pointer_to_reference u) k2 refl in
      let b3 = b2 ++ broken_in co Rule.NO_POINTER_TO_REFERENCE (holds_pointer_to_reference u) in
      let k4 = more b3 co 29 (is_nullable_out u) k3 refl in
      let b4 = b3 ++ broken_in co Rule.OUT_POINTERS (is_nullable_out u) in
      let k5 = more b4 co 30 (lacks_direction u.construct) k4 refl in
      let b5 = b4 ++ broken_in co Rule.DIRECTIONS (lacks_direction u.construct) in
      let k6 = more b5 co 31 (is_wrong_out u) k5 refl in
      let b6 = b5 ++ broken_in co Rule.OUT_PARAMETERS (is_wrong_out u) in
      more b6 co 32 (is_wrong_result u) k6 refl

  variables_kept : (s : Scene) (u : Use) (before : List Breach) → part before ≡ before → part (with_variables s u before) ≡ with_variables s u before
  variables_kept s u before h =
      let co = u.construct in
      let k1 = more before co 33 (is_wrong_text u) h refl in
      let b1 = before ++ broken_in co Rule.TEXTS (is_wrong_text u) in
      let k2 = more b1 co 34 (is_wrongly_sized u) k1 refl in
      let b2 = b1 ++ broken_in co Rule.SIZES (is_wrongly_sized u) in
      let k3 = more b2 co 35 (is_wrongly_varying u) k2 refl in
      let b3 = b2 ++ broken_in co Rule.LENGTHS (is_wrongly_varying u) in
      let k4 = more b3 co 36 (has_no_variable u) k3 refl in
      let b4 = b3 ++ broken_in co Rule.VARIABLES (has_no_variable u) in
      more b4 co 37 (has_wrong_variable s u) k4 refl

  pub use_kept : (s : Scene) (u : Use) → part (breaches_of_use s u) ≡ breaches_of_use s u
  use_kept s u =
      let b1 = with_types s u [] in
      let b2 = with_arrays s u b1 in
      let b3 = with_unions s u b2 in
      let b4 = with_pointers s u b3 in
      variables_kept s u b4 (pointers_kept s u b3 (unions_kept s u b2 (arrays_kept s u b1 (types_kept s u [] none))))

  pub body_kept : (s : Scene) (b : Body) → part (body_breaches s b) ≡ body_breaches s b
  body_kept s b =
      let co = b.construct in
      let k1 = more [] co 12 (is_deep_body s b) none refl in
      let b1 = [] ++ broken_in co Rule.NESTING (is_deep_body s b) in
      more b1 co 23 (lacks_switch_type b.construct b.body) k1 refl

  pub switch_kept : (co : Construct) (t : IdlType) → part (switch_breaches co t) ≡ switch_breaches co t
  switch_kept co t =
      let k1 = more [] co 6 (in_tag is_void t) none refl in
      let b1 = [] ++ broken_in co Rule.VOID (in_tag is_void t) in
      let k2 = more b1 co 7 (in_tag is_handle t) k1 refl in
      let b2 = b1 ++ broken_in co Rule.HANDLE (in_tag is_handle t) in
      let k3 = more b2 co 8 (in_tag is_pipe t) k2 refl in
      let b3 = b2 ++ broken_in co Rule.PIPES (in_tag is_pipe t) in
      let k4 = more b3 co 10 (in_tag is_context t) k3 refl in
      let b4 = b3 ++ broken_in co Rule.CONTEXT_HANDLES (in_tag is_context t) in
      more b4 co 21 (may_not_be_switched t) k4 refl

  pub arm_kept : (co : Construct) → part (empty_arm_breaches co) ≡ empty_arm_breaches co
  arm_kept co =
      let k1 = more [] co 23 (is_wrongly_cased co) none refl in
      let b1 = [] ++ broken_in co Rule.CASES (is_wrongly_cased co) in
      let k2 = more b1 co 26 (has_class co) k1 refl in
      let b2 = b1 ++ broken_in co Rule.CLASSES_ON_POINTERS (has_class co) in
      more b2 co 33 (has_string co) k2 refl

-- ## Both parts

not_of_lists : (rule : ℕ) → is_rest rule ≡ true → ltb rule Rule.BODY ≡ false
not_of_lists rule h = by (ltb rule Rule.BODY) h where
  by : (t : Bool) → (not t && not (eqb rule Rule.NO_TYPE_IN_ITSELF)) ≡ true → t ≡ false
  by true e = sym e
  by false e = refl

not_11 : (rule : ℕ) → is_rest rule ≡ true → eqb rule Rule.NO_TYPE_IN_ITSELF ≡ false
not_11 rule h = by (not (ltb rule Rule.BODY)) (eqb rule Rule.NO_TYPE_IN_ITSELF) h where
  by : (t u : Bool) → (t && not u) ≡ true → u ≡ false
  by true true e = sym e
  by true false e = refl
  by false true e = sym e
  by false false e = refl

pub cycles_append : (xs ys : List Breach) → but_cycles (xs ++ ys) ≡ but_cycles xs ++ but_cycles ys
cycles_append [] ys = refl
cycles_append (b ∷ bs) ys = by (eqb b.rule Rule.NO_TYPE_IN_ITSELF) (cycles_append bs ys) where
  by : (t : Bool) → but_cycles (bs ++ ys) ≡ but_cycles bs ++ but_cycles ys
      → elim t [ true ↦ but_cycles (bs ++ ys) | false ↦ b ∷ but_cycles (bs ++ ys) ] ≡ elim t [ true ↦ but_cycles bs | false ↦ b ∷ but_cycles bs ] ++ but_cycles ys
  by true e = e
  by false e = ap (λ l. b ∷ l) e

pub no_cycle : (c : Construct) (rule at : ℕ) (t : Bool) → eqb rule Rule.NO_TYPE_IN_ITSELF ≡ false → but_cycles (broken_at c rule at t) ≡ broken_at c rule at t
no_cycle c rule at false h = refl
no_cycle c rule at true h = ap (λ b. elim b [ true ↦ [] | false ↦ broken_at c rule at true ]) h

pub more_others : (bs : List Breach) (c : Construct) (rule : ℕ) (b : Bool) → of_others bs ≡ bs → is_rest rule ≡ true → of_others (bs ++ broken_in c rule b) ≡ bs ++ broken_in c rule b
more_others bs c rule b e h = others_append bs (broken_in c rule b) ∙ ap₂ (λ l m. l ++ m) e (kept c rule c.at b (not_of_lists rule h))

pub more_rest : (bs : List Breach) (c : Construct) (rule : ℕ) (b : Bool) → but_cycles bs ≡ bs → is_rest rule ≡ true → but_cycles (bs ++ broken_in c rule b) ≡ bs ++ broken_in c rule b
more_rest bs c rule b e h = cycles_append bs (broken_in c rule b) ∙ ap₂ (λ l m. l ++ m) e (no_cycle c rule c.at b (not_11 rule h))
