-- Legal interfaces, and for each fact of legality an interface that breaks it.
use Rattle.std.proofs.Common.{◌≡◌, ℕ, ℤ, Bool, true, false, List, [], ◌∷◌, ◌++◌, Option, Some, None, refl, lit≤, replicate}
use Rattle.std.specs.Prelude.{pos, negsuc}
use Rattle.nd_types.specs.declared.types.TypeDef.{TypeDef}
use Rattle.nd_types.specs.declared.types.TypeDef.TheVariants.{Prim, Enum, Struct, Array, Text, Union, Pointer, Context, Pipe}
use Rattle.nd_types.specs.declared.types.Primitive.TheVariants.{Long}
use Rattle.nd_types.specs.declared.types.TypeId.{TypeId}
use Rattle.nd_types.specs.declared.types.Class.TheVariants.{Ref, Unique, Full}
use Rattle.nd_types.specs.declared.types.Attr.{Attr}
use Rattle.nd_types.specs.declared.types.Attr.TheVariants.{Size, Max, First, Length, Last, Switch}
use Rattle.nd_types.specs.declared.types.AttrVar.{AttrVar}
use Rattle.nd_types.specs.declared.types.Field.{Field}
use Rattle.nd_types.specs.declared.types.Arm.{Arm}
use Rattle.nd_types.specs.declared.types.Way.{Way}
use Rattle.nd_types.specs.declared.types.Way.TheVariants as way
use Rattle.nd_types.specs.declared.types.Param.{Param}
use Rattle.nd_types.specs.declared.types.Operation.{Operation}
use Rattle.nd_types.specs.declared.TheConstants.{HANDLE}
use Rattle.nd_types.specs.Table.{Table}
use Rattle.nd_types.specs.Layout.{hoists}
use Rattle.nd_types.specs.Kinds.{basic_types}
use Rattle.nd_types.specs.Legal.{IsLegal, is_shallow, element_count, fits_pipes}

abbrev pub id : ℕ → TypeId
id t = record { 0 = t }

-- a field of this type, with these attributes
abbrev pub field : ℕ → List AttrVar → Field
field t vars = record { name = 97 ∷ []; of = id t; vars = vars }

-- an attribute with the variable at this index, and one with a star
abbrev pub by : Attr → ℕ → AttrVar
by attr n = record { attr = attr; var = n; star = false }

abbrev pub by_star : Attr → ℕ → AttrVar
by_star attr n = record { attr = attr; var = n; star = true }

abbrev pub param : Way → ℕ → List AttrVar → Param
param way t vars = record { field = field t vars; way = way }

abbrev pub operation : List Param → Option TypeId → Operation
operation params result = record { name = 102 ∷ []; params = params; result = result }

-- an operation of one parameter
abbrev pub taking : Way → ℕ → List AttrVar → List Operation
taking way t vars = operation (param way t vars ∷ []) None ∷ []

abbrev pub arm : ℤ → Option TypeId → Arm
arm label of = record { label = label; name = None; of = of }

abbrev pub with : List TypeDef → Table
with types = basic_types ++ types

-- A struct that ends with a conformant array, by a reference pointer.
abbrev pub sums : Table
sums = with (Struct (field 5 [] ∷ field 13 (by Size 0 ∷ []) ∷ []) ∷ Array (id 9) None false ∷ Pointer Ref (id 12) ∷ [])

pub sums_are_legal : IsLegal sums (taking way.In 14 [])
unfolding hoists is_shallow element_count fits_pipes
sums_are_legal = record {
  basic = refl;
  no_later_basic = refl;
  types_known = refl;
  params_known = refl;
  results_known = refl;
  nesting = refl;
  members = refl;
  enumerators = refl;
  bounds = refl;
  elements = refl;
  dimensions = refl;
  array_elements = refl;
  text_elements = refl;
  pipe_elements = refl;
  hoisting_members = refl;
  hoisting_arms = refl;
  pipes = refl;
  contexts = refl;
  tags = refl;
  labels = refl;
  distinct_labels = refl;
  switched_types = refl;
  referents = refl;
  ordered = refl;
  variables = refl;
  sized = refl;
  one_size = refl;
  varying = refl;
  one_length = refl;
  count_variables = refl;
  switched = refl;
  switches = refl;
  switch_variables = refl;
  handles = refl;
  out_pointers = refl;
  out_types = refl;
  results = refl;
  part_names = refl;
  operation_names = refl;
  few_types = lit≤ tt;
  few_operations = lit≤ tt;
  few_params = refl;
  few_parts = lit≤ tt;
}

-- A directory: an enumerated type, a union, texts and pointers.
abbrev pub directory : Table
directory =
    with (Enum (pos 0 ∷ pos 4 ∷ []) ∷ Union (id 12) false (arm (pos 0) (Some (id 8)) ∷ arm (pos 4) None ∷ []) None
    ∷ Struct (field 12 [] ∷ field 13 (by Switch 0 ∷ []) ∷ field 15 [] ∷ field 16 [] ∷ field 17 [] ∷ []) ∷ Text (id 1) (Some 16)
    ∷ Pointer Full (id 14) ∷ Pointer Unique (id 14) ∷ Text (id 1) None ∷ Pointer Ref (id 18) ∷ Pointer Ref (id 14) ∷ Array (id 2) None false ∷ [])

abbrev pub directory_operations : List Operation
directory_operations =
    operation (param way.In 19 [] ∷ param way.Out 20 [] ∷ []) (Some (id 8))
    ∷ operation (param way.In HANDLE.0 [] ∷ param way.In 17 [] ∷ param way.In 8 [] ∷ param way.In 21 (by Size 2 ∷ []) ∷ []) None ∷ []

pub directory_is_legal : IsLegal directory directory_operations
unfolding hoists is_shallow element_count fits_pipes
directory_is_legal = record {
  basic = refl;
  no_later_basic = refl;
  types_known = refl;
  params_known = refl;
  results_known = refl;
  nesting = refl;
  members = refl;
  enumerators = refl;
  bounds = refl;
  elements = refl;
  dimensions = refl;
  array_elements = refl;
  text_elements = refl;
  pipe_elements = refl;
  hoisting_members = refl;
  hoisting_arms = refl;
  pipes = refl;
  contexts = refl;
  tags = refl;
  labels = refl;
  distinct_labels = refl;
  switched_types = refl;
  referents = refl;
  ordered = refl;
  variables = refl;
  sized = refl;
  one_size = refl;
  varying = refl;
  one_length = refl;
  count_variables = refl;
  switched = refl;
  switches = refl;
  switch_variables = refl;
  handles = refl;
  out_pointers = refl;
  out_types = refl;
  results = refl;
  part_names = refl;
  operation_names = refl;
  few_types = lit≤ tt;
  few_operations = lit≤ tt;
  few_params = refl;
  few_parts = lit≤ tt;
}

-- Pipes, context handles, arrays of two dimensions, varying arrays, attributes with stars and an encapsulated union with a default; arrays whose counts
-- nothing states.
abbrev pub others : Table
others =
    with (Pipe (id 13) ∷ Struct (field 14 [] ∷ field 16 [] ∷ []) ∷ Array (id 15) (Some 2) false ∷ Array (id 5) (Some 3) false
    ∷ Union (id 0) true (arm (pos 1) (Some (id 7)) ∷ []) (Some (arm (pos 0) None)) ∷ Pointer Ref (id 12) ∷ Pointer Ref (id 11)
    ∷ Pointer Ref (id 7) ∷ Array (id 7) None true ∷ Pointer Full (id 20) ∷ Array (id 7) (Some 9) true ∷ [])

abbrev pub others_operations : List Operation
others_operations =
    operation (param way.In 12 [] ∷ param way.InOut 17 [] ∷ param way.In 11 [] ∷ param way.Out 18 [] ∷ []) None
    ∷ operation (param way.InOut 19 [] ∷ param way.In 7 [] ∷ param way.In 20 (by_star Size 0 ∷ by First 1 ∷ by Length 1 ∷ [])
    ∷ param way.InOut 21 (by_star Max 0 ∷ by_star Last 0 ∷ []) ∷ param way.Out 22 (by Last 1 ∷ []) ∷ []) (Some (id 7))
    ∷ operation (param way.In 7 [] ∷ param way.In 20 [] ∷ param way.In 21 (by Length 0 ∷ []) ∷ param way.In 22 [] ∷ []) None ∷ []

pub others_are_legal : IsLegal others others_operations
unfolding hoists is_shallow element_count fits_pipes
others_are_legal = record {
  basic = refl;
  no_later_basic = refl;
  types_known = refl;
  params_known = refl;
  results_known = refl;
  nesting = refl;
  members = refl;
  enumerators = refl;
  bounds = refl;
  elements = refl;
  dimensions = refl;
  array_elements = refl;
  text_elements = refl;
  pipe_elements = refl;
  hoisting_members = refl;
  hoisting_arms = refl;
  pipes = refl;
  contexts = refl;
  tags = refl;
  labels = refl;
  distinct_labels = refl;
  switched_types = refl;
  referents = refl;
  ordered = refl;
  variables = refl;
  sized = refl;
  one_size = refl;
  varying = refl;
  one_length = refl;
  count_variables = refl;
  switched = refl;
  switches = refl;
  switch_variables = refl;
  handles = refl;
  out_pointers = refl;
  out_types = refl;
  results = refl;
  part_names = refl;
  operation_names = refl;
  few_types = lit≤ tt;
  few_operations = lit≤ tt;
  few_params = refl;
  few_parts = lit≤ tt;
}

-- A test that fails does not hold.
refused : {b : Bool} → b ≡ true → b ≡ false → ⊥
refused h e = cc

-- a table without the context handle
pub short_table : IsLegal (Prim Long ∷ []) [] → ⊥
short_table h = refused h.basic refl

-- a second long
pub second_long : IsLegal (with (Prim Long ∷ [])) [] → ⊥
second_long h = refused h.no_later_basic refl

-- a second context handle
pub second_context : IsLegal (with (Context ∷ [])) [] → ⊥
second_context h = refused h.no_later_basic refl

-- a pointer to a type that is not there
pub unknown_pointee : IsLegal (with (Pointer Unique (id 13) ∷ [])) [] → ⊥
unknown_pointee h = refused h.types_known refl

-- a union whose tag's type is not there
pub unknown_tag : IsLegal (with (Union (id 13) true [] None ∷ [])) [] → ⊥
unknown_tag h = refused h.types_known refl

-- a member of type handle_t
pub handle_member : IsLegal (with (Struct (field HANDLE.0 [] ∷ []) ∷ [])) [] → ⊥
handle_member h = refused h.types_known refl

-- a parameter of a type that is not there
pub unknown_param : IsLegal basic_types (taking way.In 12 []) → ⊥
unknown_param h = refused h.params_known refl

-- a result of type handle_t
pub handle_result : IsLegal basic_types (operation [] (Some HANDLE) ∷ []) → ⊥
handle_result h = refused h.results_known refl

-- a struct that holds itself
pub holds_itself : IsLegal (with (Struct (field 12 [] ∷ []) ∷ [])) [] → ⊥
unfolding is_shallow
holds_itself h = refused h.nesting refl

-- a struct without members
pub empty_struct : IsLegal (with (Struct [] ∷ [])) [] → ⊥
empty_struct h = refused h.members refl

-- an enumerator of 32,768
pub large_enumerator : IsLegal (with (Enum (pos 32768 ∷ []) ∷ [])) [] → ⊥
large_enumerator h = refused h.enumerators refl

-- an enumerator of -1
pub negative_enumerator : IsLegal (with (Enum (negsuc 0 ∷ []) ∷ [])) [] → ⊥
negative_enumerator h = refused h.enumerators refl

-- an array of no elements
pub no_elements : IsLegal (with (Array (id 7) (Some 0) false ∷ [])) [] → ⊥
no_elements h = refused h.bounds refl

-- a text of 16,777,217 octets
pub long_text : IsLegal (with (Text (id 1) (Some 16777217) ∷ [])) [] → ⊥
long_text h = refused h.bounds refl

-- an array of 2 times 16,777,216 elements
pub large_product : IsLegal (with (Array (id 7) (Some 16777216) false ∷ Array (id 12) (Some 2) false ∷ [])) [] → ⊥
unfolding element_count
large_product h = refused h.elements refl

-- a conformant array of arrays
pub conformant_of_fixed : IsLegal (with (Array (id 7) (Some 2) false ∷ Array (id 12) None false ∷ [])) [] → ⊥
conformant_of_fixed h = refused h.dimensions refl

-- a varying array of arrays
pub varying_of_fixed : IsLegal (with (Array (id 7) (Some 2) false ∷ Array (id 12) (Some 2) true ∷ [])) [] → ⊥
varying_of_fixed h = refused h.dimensions refl

-- an array of texts
pub array_of_texts : IsLegal (with (Text (id 1) (Some 4) ∷ Array (id 12) (Some 2) false ∷ [])) [] → ⊥
unfolding hoists is_shallow element_count fits_pipes
array_of_texts h = refused h.array_elements refl

-- an array of structs that hoist
pub array_of_hoisting : IsLegal (with (Array (id 7) None false ∷ Struct (field 7 [] ∷ field 12 (by Size 0 ∷ []) ∷ []) ∷ Array (id 13) (Some 2) false ∷ [])) [] → ⊥
unfolding hoists is_shallow element_count fits_pipes
array_of_hoisting h = refused h.array_elements refl

-- a text of longs
pub text_of_longs : IsLegal (with (Text (id 7) (Some 4) ∷ [])) [] → ⊥
text_of_longs h = refused h.text_elements refl

-- a pipe of structs with a pointer
pub pipe_of_pointers : IsLegal (with (Pointer Unique (id 7) ∷ Struct (field 12 [] ∷ []) ∷ Pipe (id 13) ∷ [])) [] → ⊥
unfolding fits_pipes
pipe_of_pointers h = refused h.pipe_elements refl

-- a pipe of texts
pub pipe_of_texts : IsLegal (with (Text (id 1) (Some 4) ∷ Pipe (id 12) ∷ [])) [] → ⊥
unfolding fits_pipes
pipe_of_texts h = refused h.pipe_elements refl

-- a conformant array before another member
pub early_conformant : IsLegal (with (Array (id 7) None false ∷ Struct (field 12 (by Size 1 ∷ []) ∷ field 7 [] ∷ []) ∷ [])) [] → ⊥
unfolding hoists is_shallow element_count fits_pipes
early_conformant h = refused h.hoisting_members refl

-- a conformant array as an arm
pub conformant_arm : IsLegal (with (Array (id 7) None false ∷ Union (id 7) true (arm (pos 1) (Some (id 12)) ∷ []) None ∷ [])) [] → ⊥
unfolding hoists is_shallow element_count fits_pipes
conformant_arm h = refused h.hoisting_arms refl

-- a conformant array as a default
pub conformant_default : IsLegal (with (Array (id 7) None false ∷ Union (id 7) true [] (Some (arm (pos 0) (Some (id 12)))) ∷ [])) [] → ⊥
unfolding hoists is_shallow element_count fits_pipes
conformant_default h = refused h.hoisting_arms refl

-- a pipe as a member
pub pipe_member : IsLegal (with (Pipe (id 7) ∷ Struct (field 12 [] ∷ []) ∷ [])) [] → ⊥
pipe_member h = refused h.pipes refl

-- a unique pointer to a pipe
pub unique_pipe : IsLegal (with (Pipe (id 7) ∷ Pointer Unique (id 12) ∷ [])) [] → ⊥
unique_pipe h = refused h.pipes refl

-- a reference pointer to a pipe as a member
pub pipe_reference_member : IsLegal (with (Pipe (id 7) ∷ Pointer Ref (id 12) ∷ Struct (field 13 [] ∷ []) ∷ [])) [] → ⊥
pipe_reference_member h = refused h.pipes refl

-- an array of context handles
pub context_element : IsLegal (with (Array (id 11) (Some 2) false ∷ [])) [] → ⊥
context_element h = refused h.contexts refl

-- a context handle as an arm
pub context_arm : IsLegal (with (Union (id 7) true (arm (pos 1) (Some (id 11)) ∷ []) None ∷ [])) [] → ⊥
context_arm h = refused h.contexts refl

-- a union with a byte as its tag
pub byte_tag : IsLegal (with (Union (id 2) true [] None ∷ [])) [] → ⊥
byte_tag h = refused h.tags refl

-- a label of 2 for a boolean
pub label_past_range : IsLegal (with (Union (id 0) true (arm (pos 2) None ∷ []) None ∷ [])) [] → ⊥
label_past_range h = refused h.labels refl

-- a label that is no enumerator
pub label_no_enumerator : IsLegal (with (Enum (pos 1 ∷ []) ∷ Union (id 12) true (arm (pos 0) None ∷ []) None ∷ [])) [] → ⊥
label_no_enumerator h = refused h.labels refl

-- one label twice
pub label_twice : IsLegal (with (Union (id 7) true (arm (pos 1) None ∷ arm (pos 2) None ∷ arm (pos 1) None ∷ []) None ∷ [])) [] → ⊥
label_twice h = refused h.distinct_labels refl

-- an array of non-encapsulated unions
pub array_of_unions : IsLegal (with (Union (id 7) false [] None ∷ Array (id 12) (Some 2) false ∷ [])) [] → ⊥
array_of_unions h = refused h.switched_types refl

-- a non-encapsulated union as an arm
pub union_in_union : IsLegal (with (Union (id 7) false [] None ∷ Union (id 7) true (arm (pos 1) (Some (id 12)) ∷ []) None ∷ [])) [] → ⊥
union_in_union h = refused h.switched_types refl

-- a pointer to a pointer to one
pub pointer_to_pointer_to_union : IsLegal (with (Union (id 7) false [] None ∷ Pointer Unique (id 12) ∷ Pointer Unique (id 13) ∷ [])) [] → ⊥
pointer_to_pointer_to_union h = refused h.switched_types refl

-- a pointer to a reference pointer
pub pointer_to_reference : IsLegal (with (Pointer Ref (id 7) ∷ Pointer Unique (id 12) ∷ [])) [] → ⊥
pointer_to_reference h = refused h.referents refl

-- size_is twice
pub size_twice : IsLegal (with (Array (id 7) None false ∷ [])) (operation (param way.In 7 [] ∷ param way.In 12 (by Size 0 ∷ by Size 0 ∷ []) ∷ []) None ∷ []) → ⊥
size_twice h = refused h.ordered refl

-- length_is before size_is
pub length_before_size : IsLegal (with (Array (id 7) None true ∷ [])) (operation (param way.In 7 [] ∷ param way.In 12 (by Length 0 ∷ by Size 0 ∷ []) ∷ []) None ∷ []) → ⊥
length_before_size h = refused h.ordered refl

-- an attribute that names its own field
pub own_variable : IsLegal (with (Array (id 7) None false ∷ [])) (taking way.In 12 (by Size 0 ∷ [])) → ⊥
own_variable h = refused h.variables refl

-- an attribute without a variable
pub no_variable : IsLegal (with (Array (id 7) None false ∷ [])) (taking way.In 12 (by Size 1 ∷ [])) → ⊥
no_variable h = refused h.variables refl

-- size_is on a fixed array
pub size_of_fixed : IsLegal (with (Array (id 7) (Some 2) false ∷ [])) (operation (param way.In 7 [] ∷ param way.In 12 (by Size 0 ∷ []) ∷ []) None ∷ []) → ⊥
size_of_fixed h = refused h.sized refl

-- size_is beside max_is
pub size_and_max : IsLegal (with (Array (id 7) None false ∷ [])) (operation (param way.In 7 [] ∷ param way.In 12 (by Size 0 ∷ by Max 0 ∷ []) ∷ []) None ∷ []) → ⊥
size_and_max h = refused h.one_size refl

-- length_is on an array that does not vary
pub length_of_fixed : IsLegal (with (Array (id 7) (Some 2) false ∷ [])) (operation (param way.In 7 [] ∷ param way.In 12 (by Length 0 ∷ []) ∷ []) None ∷ []) → ⊥
length_of_fixed h = refused h.varying refl

-- length_is on a text
pub length_of_text : IsLegal (with (Text (id 1) (Some 2) ∷ [])) (operation (param way.In 7 [] ∷ param way.In 12 (by Length 0 ∷ []) ∷ []) None ∷ []) → ⊥
length_of_text h = refused h.varying refl

-- length_is beside last_is
pub length_and_last : IsLegal (with (Array (id 7) None true ∷ [])) (operation (param way.In 7 [] ∷ param way.In 12 (by Size 0 ∷ by Length 0 ∷ by Last 0 ∷ []) ∷ []) None ∷ []) → ⊥
length_and_last h = refused h.one_length refl

-- a char as the variable of size_is
pub char_size : IsLegal (with (Array (id 7) None false ∷ [])) (operation (param way.In 1 [] ∷ param way.In 12 (by Size 0 ∷ []) ∷ []) None ∷ []) → ⊥
char_size h = refused h.count_variables refl

-- a pointer as the variable of size_is without a star
pub unstarred_pointer : IsLegal (with (Array (id 7) None false ∷ Pointer Ref (id 7) ∷ [])) (operation (param way.In 13 [] ∷ param way.In 12 (by Size 0 ∷ []) ∷ []) None ∷ []) → ⊥
unstarred_pointer h = refused h.count_variables refl

-- a unique pointer as the variable of size_is with a star
pub starred_unique : IsLegal (with (Array (id 7) None false ∷ Pointer Unique (id 7) ∷ [])) (operation (param way.In 13 [] ∷ param way.In 12 (by_star Size 0 ∷ []) ∷ []) None ∷ []) → ⊥
starred_unique h = refused h.count_variables refl

-- a star in a struct
pub starred_member : IsLegal (with (Array (id 7) None false ∷ Pointer Ref (id 7) ∷ Struct (field 13 [] ∷ field 12 (by_star Size 0 ∷ []) ∷ []) ∷ [])) [] → ⊥
starred_member h = refused h.count_variables refl

-- a non-encapsulated union without switch_is
pub union_without_switch : IsLegal (with (Union (id 7) false [] None ∷ [])) (taking way.In 12 []) → ⊥
union_without_switch h = refused h.switched refl

-- a pointer to one without switch_is
pub pointer_without_switch : IsLegal (with (Union (id 7) false [] None ∷ Pointer Ref (id 12) ∷ [])) (taking way.In 13 []) → ⊥
pointer_without_switch h = refused h.switched refl

-- switch_is on an encapsulated union
pub switch_of_encapsulated : IsLegal (with (Union (id 7) true [] None ∷ [])) (operation (param way.In 7 [] ∷ param way.In 12 (by Switch 0 ∷ []) ∷ []) None ∷ []) → ⊥
switch_of_encapsulated h = refused h.switches refl

-- a byte as the variable of switch_is
pub byte_switch : IsLegal (with (Union (id 7) false [] None ∷ [])) (operation (param way.In 2 [] ∷ param way.In 12 (by Switch 0 ∷ []) ∷ []) None ∷ []) → ⊥
byte_switch h = refused h.switch_variables refl

-- a handle_t that is [in, out]
pub out_handle : IsLegal basic_types (taking way.InOut HANDLE.0 []) → ⊥
out_handle h = refused h.handles refl

-- a unique pointer that is [out] alone
pub out_unique : IsLegal (with (Pointer Unique (id 7) ∷ [])) (taking way.Out 12 []) → ⊥
out_unique h = refused h.out_pointers refl

-- a long that is [in, out]
pub out_long : IsLegal basic_types (taking way.InOut 7 []) → ⊥
out_long h = refused h.out_types refl

-- a context handle that is [out]
pub out_context : IsLegal basic_types (taking way.Out 11 []) → ⊥
out_context h = refused h.out_types refl

-- a struct as a result
pub struct_result : IsLegal (with (Struct (field 7 [] ∷ []) ∷ [])) (operation [] (Some (id 12)) ∷ []) → ⊥
struct_result h = refused h.results refl

-- a context handle as a result
pub context_result : IsLegal basic_types (operation [] (Some (id 11)) ∷ []) → ⊥
context_result h = refused h.results refl

-- 257 parameters
pub many_params : IsLegal basic_types (operation (replicate 257 (param way.In 7 [])) None ∷ []) → ⊥
many_params h = refused h.few_params refl

-- an operation whose name begins with a digit
pub digit_first : IsLegal basic_types (record { name = 49 ∷ 97 ∷ []; params = []; result = None } ∷ []) → ⊥
digit_first h = refused h.operation_names refl

-- a member whose name has 32 octets
pub long_name : IsLegal (with (Struct (record { name = replicate 32 97; of = id 7; vars = [] } ∷ []) ∷ [])) [] → ⊥
long_name h = refused h.part_names refl

-- an arm whose name has a space
pub spaced_arm : IsLegal (with (Union (id 7) true (record { label = pos 1; name = Some (97 ∷ 32 ∷ []); of = Some (id 7) } ∷ []) None ∷ [])) [] → ⊥
spaced_arm h = refused h.part_names refl
