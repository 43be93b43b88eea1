-- The rules of types: where each kind of type may stand; of arrays, texts and pipes; of pointers, and of the types of parameters.
use Rattle.std.specs.Prelude.{ℕ, ◌+◌, zero, suc, ℤ, pos, Bool, true, false, not, ◌&&◌, ◌||◌, nat_lt, List, [], ◌∷◌, length, Option, Some, None}
use Rattle.std.specs.Prelude.{is_none}
use Rattle.std.specs.Prelude.{◌*ℤ◌, int_le}
use Rattle.std.specs.List.{list_any, flat_map}
use Rattle.nd_base.specs.declared.octets.Place.{Place}
use Rattle.nd_types.specs.declared.TheConstants.{NESTING_LIMIT, ELEMENT_LIMIT}
use Rattle.idl_grammar.specs.declared.attributes.PointerClass.TheVariants as class
use Rattle.idl_rule_definitions.specs.Attributes.{has, context_handle_word, in_word, out_word, has_one_of, string_word, lengths, classes}
use Rattle.idl_rule_definitions.specs.Nodes.{Position, InTypedef, InParameter, InOperation, InMember, InArm, InCasedArm}
use Rattle.idl_rule_definitions.specs.Types.{IdlType, Void, Basic, Struct, Union, Enum, Array, Text, Pointer, Pipe, is_void, is_handle, is_pipe}
use Rattle.idl_rule_definitions.specs.Types.{is_context, ContextHandle, is_text, is_varying_array, is_pointer, is_reference}
use Rattle.idl_rule_definitions.specs.Scene.{Scene, Use, Body, bodies, place_of, type_of_body, same_place, parts_of, chain, below, nests, in_place}
use Rattle.idl_rule_definitions.specs.Scene.{hoists}
use Rattle.idl_rule_definitions.specs.DeclarationRules.{is_parameter}

-- ## The rules of types and of where each kind of type may stand (C706, sections 4.2.8 to 4.2.16)

-- `s` is the scene, `u` a declarator where it stands, `t` a type.

-- what is in a type below the reference pointer that it is, or else below itself
abbrev pub below_reference : IdlType → List IdlType
below_reference (Pointer (Some class.Reference) to) = below to
below_reference t = below t

-- Rule 6: `void` is only an operation's result, the empty parameter list, the pointee of a context handle, or the type of a NULL constant.

-- the types in which no `void` may stand
abbrev pub without_void : Position → IdlType → List IdlType
without_void InOperation t = below t
without_void _ t = chain t

abbrev pub holds_void : Use → Bool
holds_void u = list_any is_void (without_void u.construct.position u.type)

-- Rule 7: handle_t is only the type of an [in] parameter without pointer or bound.

abbrev pub is_in_alone : Use → Bool
is_in_alone u = has in_word u.construct.attributes && not (has out_word u.construct.attributes)

abbrev pub without_handle : Position → Bool → IdlType → List IdlType
without_handle InParameter true t = below t
without_handle _ _ t = chain t

abbrev pub holds_handle : Use → Bool
holds_handle u = list_any is_handle (without_handle u.construct.position (is_in_alone u) u.type)

-- Rule 8: a pipe type is only a parameter's type or the pointee of a parameter's reference pointer.
-- Rule 10: so is a context handle.

-- the types in which no pipe and no context handle may stand; a typedef only names what a parameter may be
abbrev pub without_pipe : Position → IdlType → List IdlType
without_pipe InTypedef t = below_reference t
without_pipe InParameter t = below_reference t
without_pipe _ t = chain t

abbrev pub holds_pipe : Use → Bool
holds_pipe u = list_any is_pipe (without_pipe u.construct.position u.type)

abbrev pub holds_context_handle : Use → Bool
holds_context_handle u = list_any is_context (without_pipe u.construct.position u.type)

-- Rules 6, 7, 8 and 10, of the type of a tag: it holds none of these.

abbrev pub in_tag : (IdlType → Bool) → IdlType → Bool
in_tag test t = list_any test (chain t)

-- Rule 9: context_handle stands only on one pointer to `void`.

abbrev pub is_no_context_handle : Use → Bool
is_no_context_handle u = has context_handle_word u.construct.attributes && not (is_context u.type)

-- Rule 11: no struct or union contains itself in place.

-- the struct or union that a type is in its place, or of which it is an array or pipe
abbrev pub innermost : IdlType → List Place
innermost (Struct place) = place ∷ []
innermost (Union place) = place ∷ []
innermost (Array t count varying) = innermost t
innermost (Text t count) = innermost t
innermost (Pipe t) = innermost t
innermost _ = []

abbrev pub held_by : Scene → Place → List Body → List Place
held_by s place [] = []
held_by s place (b ∷ bs) = elim (same_place (place_of b) place) [ true ↦ flat_map innermost (parts_of s.known b) | false ↦ held_by s place bs ]

-- the structs and unions that stand right in one, in place
abbrev pub held : Scene → Place → List Place
held s place = held_by s place (bodies s)

-- one contains another through at most n steps
abbrev pub contains_within : ℕ → Scene → Place → Place → Bool
contains_within zero s outer inner = false
contains_within (suc n) s outer inner = list_any (λ p. same_place p inner || contains_within n s p inner) (held s outer)

-- One contains another in place. A path that comes to no struct or union twice has no more steps than there are bodies.
unfoldable pub contains : Scene → Place → Place → Bool
contains s outer inner = contains_within (length (bodies s)) s outer inner

abbrev pub contains_itself : Scene → Body → Bool
contains_itself s b = contains s (place_of b) (place_of b)

-- Rule 12: in-place nesting is at most 32. It is the number of types on a path from a type down through members, elements and arms, the type
-- itself and each dimension counted.

unfoldable pub is_too_deep : Scene → IdlType → Bool
is_too_deep s t = not (nests NESTING_LIMIT s t)

-- a struct, union or enum that nests too deep
abbrev pub is_deep_body : Scene → Body → Bool
is_deep_body s b = is_too_deep s (type_of_body b)

abbrev pub is_made_of_elements : IdlType → Bool
is_made_of_elements (Array t count varying) = true
is_made_of_elements (Text t count) = true
is_made_of_elements (Pipe t) = true
is_made_of_elements _ = false

-- an array, text or pipe that nests too deep
abbrev pub holds_deep_array : Scene → Use → Bool
holds_deep_array s u = list_any (λ t. is_made_of_elements t && is_too_deep s t) (chain u.type)

-- Rule 32: an operation's result is void, a primitive or an enumerated type.

abbrev pub is_result_type : IdlType → Bool
is_result_type Void = true
is_result_type (Basic p) = true
is_result_type (Enum place) = true
is_result_type _ = false

abbrev pub is_operation : Position → Bool
is_operation InOperation = true
is_operation _ = false

abbrev pub is_wrong_result : Use → Bool
is_wrong_result u = is_operation u.construct.position && not (is_result_type u.type)

-- ## The rules of arrays, texts and pipes, and of what hoists a maximum count (C706, sections 4.2.15 to 4.2.17)

-- "Hoists" means: a conformant array or conformant text, or a struct whose last member hoists. The dimensions of an array are its own and, where its
-- element is an array, those of that element, also where a typedef names the element. For dimensions a text is no array.

-- the counts of an array's dimensions
abbrev pub dimensions : IdlType → List (Option ℤ)
dimensions (Array t count varying) = count ∷ dimensions t
dimensions _ = []

-- Rule 14: a fixed dimension has 1 to 16,777,216 elements, and so has the product of an array's dimensions.

abbrev pub is_few : ℤ → Bool
is_few z = int_le (pos 1) z && int_le z (pos ELEMENT_LIMIT)

-- what a fixed dimension, or a product of such, has to be
abbrev pub is_right_count : Option ℤ → Bool
is_right_count None = true
is_right_count (Some z) = is_few z

abbrev pub times : Option ℤ → Option ℤ → Option ℤ
times (Some a) (Some b) = Some (a *ℤ b)
times _ _ = None

-- the product of dimensions, where each is fixed
abbrev pub product : List (Option ℤ) → Option ℤ
product [] = Some (pos 1)
product (c ∷ cs) = times c (product cs)

abbrev pub has_wrong_count : IdlType → Bool
has_wrong_count (Array t count varying) = not (is_right_count count) || not (is_right_count (product (dimensions (Array t count varying))))
has_wrong_count _ = false

abbrev pub has_wrong_counts : Use → Bool
has_wrong_counts u = list_any has_wrong_count (chain u.declared_as)

-- Rule 16: an array of more than one dimension is fixed in each, and has no length_is, first_is, last_is or string.

abbrev pub are_many : List (Option ℤ) → Bool
are_many (c ∷ d ∷ cs) = true
are_many _ = false

abbrev pub has_many_not_fixed : IdlType → Bool
has_many_not_fixed t = are_many (dimensions t) && list_any is_none (dimensions t)

abbrev pub has_wrong_dimensions : Use → Bool
has_wrong_dimensions u =
    list_any has_many_not_fixed (chain u.declared_as) || list_any has_many_not_fixed (chain u.type)
    || are_many (dimensions u.declared_as) && (has_one_of lengths u.construct.attributes || has string_word u.construct.attributes)

-- Rule 17: an array's element does not hoist and is no varying array or text.

abbrev pub has_wrong_element : Scene → IdlType → Bool
has_wrong_element s (Array t count varying) = hoists s t || is_text t || is_varying_array t
has_wrong_element s _ = false

abbrev pub has_wrong_elements : Scene → Use → Bool
has_wrong_elements s u = list_any (has_wrong_element s) (chain u.type)

-- Rule 18: a struct's member that hoists is its last.

abbrev pub is_member : Position → Bool
is_member InMember = true
is_member _ = false

abbrev pub hoists_before_last : Scene → Use → Bool
hoists_before_last s u = is_member u.construct.position && nat_lt (u.index + 1) (length u.list) && hoists s u.type

-- Rule 19: a union's arm does not hoist.

abbrev pub is_arm : Position → Bool
is_arm InArm = true
is_arm InCasedArm = true
is_arm _ = false

abbrev pub is_hoisting_arm : Scene → Use → Bool
is_hoisting_arm s u = is_arm u.construct.position && hoists s u.type

-- Rule 20: a pipe's element holds no pointer, no conformant or varying array, no text, no context handle and no pipe.

abbrev pub is_barred_by : Scene → (IdlType → Bool) → IdlType → Bool
is_barred_by s is_barred (Pointer class to) = true
is_barred_by s is_barred ContextHandle = true
is_barred_by s is_barred (Pipe t) = true
is_barred_by s is_barred (Text t count) = true
is_barred_by s is_barred (Array t count varying) = is_none count || varying || is_barred t
is_barred_by s is_barred t = list_any is_barred (in_place s t)

abbrev pub is_barred_within : ℕ → Scene → IdlType → Bool
is_barred_within zero s t = false
is_barred_within (suc n) s t = is_barred_by s (is_barred_within n s) t

-- A type is or holds one of these. As `hoists` it is right of types that nest at most 32 deep.
unfoldable pub is_barred_in_pipes : Scene → IdlType → Bool
is_barred_in_pipes s t = is_barred_within NESTING_LIMIT s t

abbrev pub is_wrong_pipe : Scene → IdlType → Bool
is_wrong_pipe s (Pipe t) = is_barred_in_pipes s t
is_wrong_pipe s _ = false

abbrev pub holds_wrong_pipe : Scene → Use → Bool
holds_wrong_pipe s u = list_any (is_wrong_pipe s) (chain u.type)

-- ## The rules of pointers, and of the types of parameters (C706, sections 4.2.13 to 4.2.20)

-- Rule 26: a class stands only on a pointer that is no context handle (the rest is in `DeclarationRules`).

abbrev pub has_class_without_pointer : Use → Bool
has_class_without_pointer u = has_one_of classes u.construct.attributes && not (is_pointer u.declared_as)

-- Rule 27: a pointer without a class has a pointer_default, unless it is the outermost pointer of a parameter's own declarator, a context handle,
-- or the `*` of a constant.

abbrev pub has_no_class : IdlType → Bool
has_no_class (Pointer None to) = true
has_no_class _ = false

abbrev pub holds_pointer_without_class : Use → Bool
holds_pointer_without_class u = list_any has_no_class (chain u.declared_as)

-- Rule 28: no pointer's referent is a reference pointer.

abbrev pub refers_to_reference : IdlType → Bool
refers_to_reference (Pointer class to) = is_reference to
refers_to_reference _ = false

abbrev pub holds_pointer_to_reference : Use → Bool
holds_pointer_to_reference u = list_any refers_to_reference (chain u.type)

-- Rule 29: a pointer parameter that is [out] only is a reference pointer, apart from a context handle.

abbrev pub is_out : Use → Bool
is_out u = is_parameter u.construct.position && has out_word u.construct.attributes

abbrev pub is_nullable_out : Use → Bool
is_nullable_out u = is_out u && not (has in_word u.construct.attributes) && is_pointer u.type && not (is_reference u.type)

-- Rule 31: an out parameter is an array, a text, a pipe, or a pointer that is no context handle.

abbrev pub is_out_type : IdlType → Bool
is_out_type (Array t count varying) = true
is_out_type (Text t count) = true
is_out_type (Pipe t) = true
is_out_type (Pointer class to) = true
is_out_type _ = false

abbrev pub is_wrong_out : Use → Bool
is_wrong_out u = is_out u && not (is_out_type u.type)
