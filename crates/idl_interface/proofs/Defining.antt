-- What the program makes of the types of a scene.
use Rattle.std.proofs.Common.{◌≡◌, ℕ, ◌≤◌, drop, ◌<◌, Bool, true, false, ◌||◌, ◌&&◌, inl, inr, get_or, List, [], ◌∷◌, ◌++◌, map, length, Option, Some, None, is_none, option_map, ℤ, pos, refl, sym, ap}
use Rattle.std.proofs.Common.{arith, ◌∙◌}
use Rattle.std.specs.List.{flat_map, slice_get, list_any, list_all}
use Rattle.std.specs.Prelude.{Result, IfOk, nat_le}
use Rattle.std.proofs.lemmas.Result.{IfOk-weaker}
use Rattle.std.specs.Option.{option_and_then}
use Rattle.std.proofs.lemmas.Option.{slice_get_within, slice_get_cases, slice_get_past, slice_get-get_or, slice_get-map, same_Some}
use Rattle.std.proofs.lemmas.List.Folds.{list_all-append}
use Rattle.std.proofs.lemmas.Bool.{leb-true, lt-ltb}
use Rattle.nd_base.specs.declared.octets.Place.{Place}
use Rattle.nd_types.specs.declared.types.TypeId.{TypeId}
use Rattle.nd_types.specs.declared.types.TypeDef.{TypeDef}
use Rattle.nd_types.specs.declared.types.TypeDef.TheVariants as def
use Rattle.nd_types.specs.declared.types.Arm as nd
use Rattle.idl_grammar.specs.declared.words.Spelling.{Spelling}
use Rattle.idl_grammar.specs.declared.types.Discriminant.{Discriminant}
use Rattle.idl_grammar.specs.Tree.{TypeSpec, Members, Cases, Arms, Arm, Enumerator}
use Rattle.idl_grammar.specs.Tree as tree
use Rattle.idl_grammar.specs.declared.types.TypeSpec as program_type
use Rattle.idl_grammar.specs.declared.types.TypeSpec.TheVariants as type
use Rattle.idl_grammar.specs.Seen.{seen_type}
use Rattle.idl_scope.specs.Known.{Known}
use Rattle.idl_declared_types.specs.declared.kinds.Kind.{Kind}
use Rattle.idl_constructs.specs.declared.nodes.Node.{Node}
use Rattle.idl_constructs.specs.declared.nodes.Node.TheVariants as node
use Rattle.idl_constructs.specs.declared.nodes.Nodes.{Nodes}
use Rattle.idl_declared_types.specs.declared.types.Types.{Types}
use Rattle.idl_declared_types.specs.declared.types.BodyTypes.{BodyTypes}
use Rattle.idl_declared_types.specs.declared.numbering.Own.{Own}
use Rattle.idl_declared_types.specs.declared.numbering.Numbers.{Numbers}
use Rattle.idl_interface.specs.declared.definitions.FoundBody.{FoundBody}
use Rattle.idl_rule_definitions.specs.Nodes as world
use Rattle.idl_rule_definitions.specs.Nodes.{World, Construct, Declared, ArmLabel, LabelledArm, arms_of}
use Rattle.idl_rule_definitions.specs.Types.{Names, Struct, Union, Enum, type_of}
use Rattle.idl_rule_definitions.specs.Scene.{Scene, scene_of, Body, bodies, body_of, parts_declared, arm_declared, tag_type}
use Rattle.idl_rule_definitions.specs.DeclarationRules.{label_value}
use Rattle.idl_rule_definitions.specs.Numbering.{Needed, own_types}
use Rattle.idl_declared_types.specs.Kinds.{type_at}
use Rattle.idl_declared_types.specs.Places.{found_place}
use Rattle.idl_constructs.specs.SeenNodes.{seen_construct}
use Rattle.idl_declared_types.specs.SeenTypes.{names_at, body_at, IsTypes}
use Rattle.idl_declared_types.specs.SeenOperations.{HasTags}
use Rattle.idl_declared_types.specs.SeenNumbers.{AreNumbers, seen_own, seen_needed}
use Rattle.idl_rule_definitions.specs.Meaning.{number, field, arm_for, name_of_arm, type_of_arm, arm_by, labelled_arms, default_by, first_arm, default_arm, or_handle, or_zero, struct_of, defined_at}
use Rattle.idl_rule_definitions.specs.Meaning.{body_if, is_struct, is_union, is_enum, definition, types_of}
use Rattle.nd_types.specs.Kinds.{basic_types}
use Rattle.nd_types.specs.declared.TheConstants.{ELEMENT_LIMIT}
use Rattle.nd_types.proofs.LegalLaws.{passes_at}
use Rattle.idl_constructs.proofs.Gathering.{gathered}
use Rattle.idl_interface.specs.Made.{id, ids_of, tag_id, field_with, each_with, valued, type_for, types_past, arm_with, arms_with, default_with, is_narrow, is_encapsulated, IsFound}
use Rattle.nd_lemmas.proofs.Booleans.{second_true}

-- ## Numbers

pub ids_are : (s : Scene) (ks : List Kind) (t : Numbers) → AreNumbers s ks t → (kinds : List ℕ) → ids_of ks t kinds ≡ map (number s) (map (type_at ks) kinds)
ids_are s ks t h [] = refl
ids_are s ks t h (k ∷ kinds) = ap (λ n. id n ∷ ids_of ks t kinds) (h.numbers k) ∙ ap (λ l. number s (type_at ks k) ∷ l) (ids_are s ks t h kinds)

pub tag_is : (s : Scene) (ks : List Kind) (t : Numbers) → AreNumbers s ks t → (tag : Option ℕ) → tag_id ks t tag ≡ number s (or_handle (option_map (type_at ks) tag))
tag_is s ks t h None = refl
tag_is s ks t h (Some k) = ap id (h.numbers k)

pub known_is : (w : World) → (scene_of w).known ≡ w.known
unfolding scene_of
known_is w = refl

-- an equal value
pub ok_is : {X E : Type 0} (r : Result X E) (a b : X) → a ≡ b → IfOk r (λ x. x ≡ a) → IfOk r (λ x. x ≡ b)
ok_is r a b e h = IfOk-weaker r (λ x. x ≡ a) (λ x. x ≡ b) (λ x p. p ∙ e) h

-- ## Structs

each_fields : (s : Scene) (names : Names) (list ds : List Declared) → each_with (field_with list) ds (map (number s) (map (type_of s.known names) ds)) ≡ map (field s names list) ds
each_fields s names list [] = refl
each_fields s names list (d ∷ ds) = ap (λ fs. field s names list d ∷ fs) (each_fields s names list ds)

-- the body that was found, with what it is
pub there_as : (s : Scene) (ks : List Kind) (place : Place) (f : FoundBody) (t : TypeSpec) (h : IsFound s ks place f) → seen_type f.body.now ≡ t
    → body_of s place ≡ Some (record { construct = h.body.construct; names = h.body.names; body = t })
there_as s ks place f t h e = h.there ∙ ap (λ b. Some (record { construct = h.body.construct; names = h.body.names; body = b })) (h.type ∙ e)

-- its parts
parts_as : (s : Scene) (ks : List Kind) (place : Place) (f : FoundBody) (t : TypeSpec) (h : IsFound s ks place f) → seen_type f.body.now ≡ t
    → map (type_at ks) f.noted.now.parts.items ≡ map (type_of s.known h.body.names) (parts_declared h.body.construct t)
parts_as s ks place f t h e = h.parts ∙ ap (λ b. map (type_of s.known h.body.names) (parts_declared h.body.construct b)) (h.type ∙ e)

pub struct_made : (s : Scene) (ks : List Kind) (t : Numbers) (place : Place) (f : FoundBody) (at : ℕ) (tag : Option Spelling) (ms : Members)
    → AreNumbers s ks t → (h : IsFound s ks place f) → seen_type f.body.now ≡ tree.Struct at tag ms
    → struct_of (each_with (field_with (parts_declared (seen_construct f.construct.now) (seen_type f.body.now))) (parts_declared (seen_construct f.construct.now) (seen_type f.body.now))
    (ids_of ks t f.noted.now.parts.items))
    ≡ definition s (Struct place)
struct_made s ks t place f at tag ms n h e =
    let list = parts_declared h.body.construct (tree.Struct at tag ms) in
    let same : parts_declared (seen_construct f.construct.now) (seen_type f.body.now) ≡ list =
    ap (λ c. parts_declared c (seen_type f.body.now)) (sym h.construct) ∙ ap (parts_declared h.body.construct) e in
    let ids : ids_of ks t f.noted.now.parts.items ≡ map (number s) (map (type_of s.known h.body.names) list) =
    ids_are s ks t n f.noted.now.parts.items ∙ ap (map (number s)) (parts_as s ks place f (tree.Struct at tag ms) h e) in
    ap (λ l. struct_of (each_with (field_with l) l (ids_of ks t f.noted.now.parts.items))) same
    ∙ (ap (λ i. struct_of (each_with (field_with list) list i)) ids
    ∙ (ap struct_of (each_fields s h.body.names list list)
    ∙ ap (λ o. defined_at s (body_if is_struct o)) (sym (there_as s ks place f (tree.Struct at tag ms) h e))))

-- ## Unions

one_arm : (s : Scene) (b : Body) (a : LabelledArm) (o : Option ℤ) → arm_with (name_of_arm a.arm) (type_of_arm s b a) o ≡ arm_by s b a o
one_arm s b a (Some z) = refl
one_arm s b a None = refl

each_label : (s : Scene) (k : Known) (b : Body) (a : LabelledArm) (ls : List ArmLabel)
    → flat_map (arm_with (name_of_arm a.arm) (type_of_arm s b a)) (map (label_value k) ls) ≡ flat_map (λ l. arm_by s b a (label_value k l)) ls
each_label s k b a [] = refl
each_label s k b a (l ∷ ls) =
    ap (λ x. x ++ flat_map (arm_with (name_of_arm a.arm) (type_of_arm s b a)) (map (label_value k) ls)) (one_arm s b a (label_value k l))
    ∙ ap (λ x. arm_by s b a (label_value k l) ++ x) (each_label s k b a ls)

-- the parts of arms
abbrev arm_parts : Body → List LabelledArm → List Declared
arm_parts b xs = flat_map (λ a. arm_declared b.construct a.position a.arm) xs

abbrev arm_ids : Scene → Body → List LabelledArm → List TypeId
arm_ids s b xs = map (number s) (map (type_of s.known b.names) (arm_parts b xs))

type_same : (s : Scene) (b : Body) (a : LabelledArm) (xs : List LabelledArm) → type_for (name_of_arm a.arm) (arm_ids s b (a ∷ xs)) ≡ type_of_arm s b a
type_same s b a xs = by a.position a.arm
  where
    by : (p : _) (m : Arm) → type_for (name_of_arm m) (map (number s) (map (type_of s.known b.names) (arm_declared b.construct p m ++ arm_parts b xs)))
        ≡ type_of_arm s b (record { position = p; labels = a.labels; arm = m })
    by p (tree.Empty at attributes) = refl
    by p (tree.Typed at attributes type d) = refl

rest_same : (s : Scene) (b : Body) (a : LabelledArm) (xs : List LabelledArm) → types_past (name_of_arm a.arm) (arm_ids s b (a ∷ xs)) ≡ arm_ids s b xs
rest_same s b a xs = by a.position a.arm
  where
    by : (p : _) (m : Arm) → types_past (name_of_arm m) (map (number s) (map (type_of s.known b.names) (arm_declared b.construct p m ++ arm_parts b xs))) ≡ arm_ids s b xs
    by p (tree.Empty at attributes) = refl
    by p (tree.Typed at attributes type d) = refl

each_arm : (s : Scene) (k : Known) (b : Body) (xs : List LabelledArm)
    → arms_with (map (valued k) xs) (arm_ids s b xs) ≡ flat_map (λ a. flat_map (λ l. arm_by s b a (label_value k l)) a.labels) xs
each_arm s k b [] = refl
each_arm s k b (a ∷ xs) =
    let rest = arms_with (map (valued k) xs) in
    ap (λ o. flat_map (arm_with (name_of_arm a.arm) o) (map (label_value k) a.labels) ++ rest (types_past (name_of_arm a.arm) (arm_ids s b (a ∷ xs)))) (type_same s b a xs)
    ∙ (ap (λ x. x ++ rest (types_past (name_of_arm a.arm) (arm_ids s b (a ∷ xs)))) (each_label s k b a a.labels)
    ∙ ap (λ x. flat_map (λ l. arm_by s b a (label_value k l)) a.labels ++ x) (ap rest (rest_same s b a xs) ∙ each_arm s k b xs))

abbrev or_default : Bool → nd.Arm → Option nd.Arm → Option nd.Arm
or_default true a o = Some a
or_default false a o = o

first_default : (s : Scene) (k : Known) (b : Body) (a : LabelledArm) (ls : List ArmLabel) (more : List nd.Arm)
    → first_arm (flat_map (λ l. default_by s b a (label_value k l)) ls ++ more)
    ≡ or_default (list_any is_none (map (label_value k) ls)) (arm_for (name_of_arm a.arm) (type_of_arm s b a) (pos 0)) (first_arm more)
first_default s k b a [] more = refl
first_default s k b a (l ∷ ls) more = by (label_value k l) (first_default s k b a ls more)
  where
    by : (o : Option ℤ) → first_arm (flat_map (λ l. default_by s b a (label_value k l)) ls ++ more)
        ≡ or_default (list_any is_none (map (label_value k) ls)) (arm_for (name_of_arm a.arm) (type_of_arm s b a) (pos 0)) (first_arm more)
        → first_arm ((default_by s b a o ++ flat_map (λ l. default_by s b a (label_value k l)) ls) ++ more)
        ≡ or_default (is_none o || list_any is_none (map (label_value k) ls)) (arm_for (name_of_arm a.arm) (type_of_arm s b a) (pos 0)) (first_arm more)
    by (Some z) h = h
    by None h = refl

default_is : (b : Bool) (a : nd.Arm) (o : Option nd.Arm) → elim b [ true ↦ Some a | false ↦ o ] ≡ or_default b a o
default_is true a o = refl
default_is false a o = refl

each_default : (s : Scene) (k : Known) (b : Body) (xs : List LabelledArm)
    → default_with (map (valued k) xs) (arm_ids s b xs) ≡ first_arm (flat_map (λ a. flat_map (λ l. default_by s b a (label_value k l)) a.labels) xs)
each_default s k b [] = refl
each_default s k b (a ∷ xs) =
    let has = list_any is_none (map (label_value k) a.labels) in
    let more = flat_map (λ m. flat_map (λ l. default_by s b m (label_value k l)) m.labels) xs in
    default_is has (arm_for (name_of_arm a.arm) (type_for (name_of_arm a.arm) (arm_ids s b (a ∷ xs))) (pos 0))
    (default_with (map (valued k) xs) (types_past (name_of_arm a.arm) (arm_ids s b (a ∷ xs))))
    ∙ (ap (λ o. or_default has (arm_for (name_of_arm a.arm) o (pos 0)) (default_with (map (valued k) xs) (types_past (name_of_arm a.arm) (arm_ids s b (a ∷ xs))))) (type_same s b a xs)
    ∙ (ap (or_default has (arm_for (name_of_arm a.arm) (type_of_arm s b a) (pos 0))) (ap (default_with (map (valued k) xs)) (rest_same s b a xs) ∙ each_default s k b xs)
    ∙ sym (first_default s k b a a.labels more)))

-- the union of arms and a tag
abbrev pub union_with : List Kind → Numbers → Known → Bool → FoundBody → TypeDef
union_with ks t k encapsulated f =
    def.Union (tag_id ks t f.noted.now.tag) encapsulated (arms_with (map (valued k) (arms_of (seen_type f.body.now))) (ids_of ks t f.noted.now.parts.items))
    (default_with (map (valued k) (arms_of (seen_type f.body.now))) (ids_of ks t f.noted.now.parts.items))

-- with the tag, parts and arms of a body
abbrev union_by : Scene → Bool → Body → TypeDef
union_by s encapsulated b =
    def.Union (number s (or_handle (tag_type b.construct b.names b.body))) encapsulated (labelled_arms s b) (default_arm s b)

union_same : (s : Scene) (ks : List Kind) (t : Numbers) (encapsulated : Bool) (place : Place) (f : FoundBody) (u : TypeSpec)
    → AreNumbers s ks t → (h : IsFound s ks place f) → (e : seen_type f.body.now ≡ u) → ((c : Construct) → parts_declared c u ≡ flat_map (λ a. arm_declared c a.position a.arm) (arms_of u))
    → union_with ks t s.known encapsulated f ≡ union_by s encapsulated (record { construct = h.body.construct; names = h.body.names; body = u })
union_same s ks t encapsulated place f u n h e parts =
    let tag : tag_id ks t f.noted.now.tag ≡ number s (or_handle (tag_type h.body.construct h.body.names u)) =
    tag_is s ks t n f.noted.now.tag ∙ ap (λ o. number s (or_handle o)) (h.tag ∙ ap (tag_type h.body.construct h.body.names) (h.type ∙ e)) in
    let ids : ids_of ks t f.noted.now.parts.items ≡ map (number s) (map (type_of s.known h.body.names) (flat_map (λ a. arm_declared h.body.construct a.position a.arm) (arms_of u))) =
    ids_are s ks t n f.noted.now.parts.items ∙ ap (λ l. map (number s) l) (parts_as s ks place f u h e ∙ ap (map (type_of s.known h.body.names)) (parts h.body.construct)) in
    let i = map (number s) (map (type_of s.known h.body.names) (flat_map (λ a. arm_declared h.body.construct a.position a.arm) (arms_of u))) in
    ap (λ x. def.Union x encapsulated (arms_with (map (valued s.known) (arms_of (seen_type f.body.now))) (ids_of ks t f.noted.now.parts.items))
    (default_with (map (valued s.known) (arms_of (seen_type f.body.now))) (ids_of ks t f.noted.now.parts.items))) tag
    ∙ (ap (λ x. def.Union (number s (or_handle (tag_type h.body.construct h.body.names u))) encapsulated (arms_with (map (valued s.known) (arms_of (seen_type f.body.now))) x)
    (default_with (map (valued s.known) (arms_of (seen_type f.body.now))) x)) ids
    ∙ (ap (λ x. def.Union (number s (or_handle (tag_type h.body.construct h.body.names u))) encapsulated (arms_with (map (valued s.known) (arms_of x)) i)
    (default_with (map (valued s.known) (arms_of x)) i)) e
    ∙ (ap (λ x. def.Union (number s (or_handle (tag_type h.body.construct h.body.names u))) encapsulated x (default_with (map (valued s.known) (arms_of u)) i))
    (each_arm s s.known (record { construct = h.body.construct; names = h.body.names; body = u }) (arms_of u))
    ∙ ap (λ x. def.Union (number s (or_handle (tag_type h.body.construct h.body.names u))) encapsulated (labelled_arms s (record { construct = h.body.construct; names = h.body.names; body = u })) x)
    (each_default s s.known (record { construct = h.body.construct; names = h.body.names; body = u }) (arms_of u)))))

pub encapsulated_made : (s : Scene) (ks : List Kind) (t : Numbers) (place : Place) (f : FoundBody) (at : ℕ) (tag : Option Spelling) (d : Discriminant) (name : Option Spelling) (cs : Cases)
    → AreNumbers s ks t → (h : IsFound s ks place f) → seen_type f.body.now ≡ tree.EncapsulatedUnion at tag d name cs → union_with ks t s.known true f ≡ definition s (Union place)
encapsulated_made s ks t place f at tag d name cs n h e =
    union_same s ks t true place f (tree.EncapsulatedUnion at tag d name cs) n h e (λ c. refl)
    ∙ ap (λ o. defined_at s (body_if is_union o)) (sym (there_as s ks place f (tree.EncapsulatedUnion at tag d name cs) h e))

pub nonencapsulated_made : (s : Scene) (ks : List Kind) (t : Numbers) (place : Place) (f : FoundBody) (at : ℕ) (tag : Option Spelling) (arms : Arms)
    → AreNumbers s ks t → (h : IsFound s ks place f) → seen_type f.body.now ≡ tree.NonEncapsulatedUnion at tag arms → union_with ks t s.known false f ≡ definition s (Union place)
nonencapsulated_made s ks t place f at tag arms n h e =
    union_same s ks t false place f (tree.NonEncapsulatedUnion at tag arms) n h e (λ c. refl)
    ∙ ap (λ o. defined_at s (body_if is_union o)) (sym (there_as s ks place f (tree.NonEncapsulatedUnion at tag arms) h e))

-- ## Enumerated types

pub enum_made : (s : Scene) (ks : List Kind) (place : Place) (f : FoundBody) (at : ℕ) (tag : Option Spelling) (es : List Enumerator)
    → (h : IsFound s ks place f) → seen_type f.body.now ≡ tree.Enum at tag es → def.Enum (map (λ e. or_zero (world.number_of s.known e.name.octets)) es) ≡ definition s (Enum place)
enum_made s ks place f at tag es h e = ap (λ o. defined_at s (body_if is_enum o)) (sym (there_as s ks place f (tree.Enum at tag es) h e))

-- ## Bodies of another kind

none_if : (s : Scene) (ks : List Kind) (place : Place) (f : FoundBody) (test : TypeSpec → Bool) → IsFound s ks place f → test (seen_type f.body.now) ≡ false
    → def.Enum [] ≡ defined_at s (body_if test (body_of s place))
none_if s ks place f test h e =
    sym (ap (λ o. defined_at s (body_if test o)) h.there ∙ ap (λ b. defined_at s (elim b [ true ↦ Some h.body | false ↦ None ])) (ap test h.type ∙ e))

not_enum : (t : program_type.TypeSpec) → ((at : _) (tag : _) (es : _) → t ≡ program_type.Enum at tag es → ⊥) → is_enum (seen_type t) ≡ false
not_enum (type.Enum at tag es) h = absurd (h at tag es refl)
not_enum (type.Simple t) h = refl
not_enum (type.Name n) h = refl
not_enum (type.Tag at kind tag) h = refl
not_enum (type.Struct' at tag z row) h = refl
not_enum (type.EncapsulatedUnion' at tag d name z row) h = refl
not_enum (type.NonEncapsulatedUnion' at tag z row) h = refl

pub struct_made_as : (s : Scene) (ks : List Kind) (t : Numbers) (place : Place) (f : FoundBody) (u : TypeSpec) → AreNumbers s ks t → IsFound s ks place f → seen_type f.body.now ≡ u
    → is_struct u ≡ true
    → struct_of (each_with (field_with (parts_declared (seen_construct f.construct.now) (seen_type f.body.now))) (parts_declared (seen_construct f.construct.now) (seen_type f.body.now))
    (ids_of ks t f.noted.now.parts.items))
    ≡ definition s (Struct place)
struct_made_as s ks t place f (tree.Struct at tag ms) n h e i = struct_made s ks t place f at tag ms n h e
struct_made_as s ks t place f _ n h e i = absurd (cc)

pub union_made_as : (s : Scene) (ks : List Kind) (t : Numbers) (place : Place) (f : FoundBody) (u : TypeSpec) → AreNumbers s ks t → IsFound s ks place f → seen_type f.body.now ≡ u → is_union u ≡ true
    → union_with ks t s.known (is_encapsulated u) f ≡ definition s (Union place)
union_made_as s ks t place f (tree.EncapsulatedUnion at tag d name cs) n h e i = encapsulated_made s ks t place f at tag d name cs n h e
union_made_as s ks t place f (tree.NonEncapsulatedUnion at tag arms) n h e i = nonencapsulated_made s ks t place f at tag arms n h e
union_made_as s ks t place f _ n h e i = absurd (cc)

pub other_struct : (s : Scene) (ks : List Kind) (place : Place) (f : FoundBody) → IsFound s ks place f → is_struct (seen_type f.body.now) ≡ false → def.Enum [] ≡ definition s (Struct place)
other_struct s ks place f h e = none_if s ks place f is_struct h e

pub other_union : (s : Scene) (ks : List Kind) (place : Place) (f : FoundBody) → IsFound s ks place f → is_union (seen_type f.body.now) ≡ false → def.Enum [] ≡ definition s (Union place)
other_union s ks place f h e = none_if s ks place f is_union h e

pub other_enum : (s : Scene) (ks : List Kind) (place : Place) (f : FoundBody) → IsFound s ks place f → ((at : _) (tag : _) (es : _) → f.body.now ≡ program_type.Enum at tag es → ⊥)
    → def.Enum [] ≡ definition s (Enum place)
other_enum s ks place f h other = none_if s ks place f is_enum h (not_enum f.body.now other)

-- ## The types from number 12 on

own_types_are : (s : Scene) (xs : List Needed) → map (λ p. definition s p.0) (map seen_needed xs) ≡ map (λ n. definition s n.type) xs
own_types_are s [] = refl
own_types_are s (x ∷ xs) = ap (λ l. definition s x.type ∷ l) (own_types_are s xs)

own_kinds_are : (s : Scene) (ks : List Kind) (xs : List Own) → map (λ p. definition s p.0) (map (seen_own ks) xs) ≡ map (λ o. definition s (type_at ks o.kind)) xs
own_kinds_are s ks [] = refl
own_kinds_are s ks (x ∷ xs) = ap (λ l. definition s (type_at ks x.kind) ∷ l) (own_kinds_are s ks xs)

pub own_made : (s : Scene) (ks : List Kind) (t : Numbers) → AreNumbers s ks t → map (λ o. definition s (type_at ks o.kind)) t.own.items ≡ map (λ n. definition s n.type) (own_types s)
own_made s ks t h = sym (own_kinds_are s ks t.own.items) ∙ (ap (map (λ p. definition s p.0)) (sym h.own) ∙ own_types_are s (own_types s))

-- a bound from 1 to the limit
abbrev is_dimension : Option ℕ → Bool
is_dimension None = true
is_dimension (Some n) = nat_le 1 n && nat_le n ELEMENT_LIMIT

pub narrow_bound : (b : Option ℕ) → is_dimension b ≡ true → is_narrow b ≡ true
narrow_bound None h = refl
narrow_bound (Some n) h =
    let e : nat_le n ELEMENT_LIMIT ≡ true = second_true (nat_le 1 n) (nat_le n ELEMENT_LIMIT) h in
    let f : n ≤ 16777216 = leb-true n 16777216 e in
    lt-ltb n 4294967296 (omega (arith, f))

-- each of them passes a test, where all types of the table do
pub own_passes : (test : TypeDef → Bool) (s : Scene) (ks : List Kind) (t : Numbers) → AreNumbers s ks t → list_all test (types_of s) ≡ true → (xs : List Own) → xs ≡ t.own.items
    → (i : ℕ) (o : Own) → i < length xs → test (definition s (type_at ks (get_or xs i o).kind)) ≡ true
own_passes test s ks t h all xs same i o below =
    let d : Own → TypeDef = λ o. definition s (type_at ks o.kind) in
    let own : list_all test (map (λ n. definition s n.type) (own_types s)) ≡ true =
    second_true (list_all test basic_types) (list_all test (map (λ n. definition s n.type) (own_types s)))
    (sym (list_all-append test basic_types (map (λ n. definition s n.type) (own_types s))) ∙ all) in
    let here : list_all test (map d xs) ≡ true = ap (λ (l : List Own). list_all test (map d l)) same ∙ ap (list_all test) (own_made s ks t h) ∙ own in
    passes_at test (map d xs) i (d (get_or xs i o)) here (slice_get-map d xs i ∙ ap (option_map d) (slice_get-get_or xs i o below))

-- ## Bodies

pub no_body : (s : Scene) (n : Nodes) (t : Types) (place : Place) → IsTypes s n t → found_place place t.by_place ≡ None → body_of s place ≡ None
no_body s n t place h none = h.first place ∙ ap (λ o. option_and_then (λ i. slice_get (bodies s) i) o) none

found_with : (s : Scene) (n : Nodes) (t : Types) (place : Place) (i : ℕ) (b : Body) (f : FoundBody) → IsTypes s n t → HasTags s t
    → body_of s place ≡ Some b → slice_get (bodies s) i ≡ Some b → slice_get t.bodies.items i ≡ Some f.noted.now
    → Some (record { construct = seen_construct f.construct.now; names = names_at s.known n f.noted.now.node; body = seen_type f.body.now }) ≡ Some b
    → IsFound s t.kinds place f
found_with s n t place i b f h tags there at noted same =
    let here = same_Some _ _ same in
    record {
      body = b;
      there = there;
      construct = sym (ap (λ x. x.construct) here);
      type = sym (ap (λ x. x.body) here);
      parts = (h.body i b f.noted.now at noted).parts;
      tag = tags.tag i b f.noted.now at noted;
    }

-- nothing is noted of it
pub not_noted : (s : Scene) (n : Nodes) (t : Types) (place : Place) (i : ℕ) → IsTypes s n t → found_place place t.by_place ≡ Some i → slice_get t.bodies.items i ≡ None → body_of s place ≡ None
not_noted s n t place i h found none =
    elim (slice_get_cases t.bodies.items i).1 [
      | inl w ↦ absurd (let e : None ≡ Some w.0 = sym none ∙ w.2 in cc)
      | inr w ↦ h.first place ∙ ap (λ o. option_and_then (λ i. slice_get (bodies s) i) o) found ∙ slice_get_past (bodies s) i (omega (arith, w.0, h.body_count))
    ]

abbrev is_body_node : Option Node → Bool
is_body_node (Some (node.Body c x)) = true
is_body_node _ = false

is_body_by : (names : Names) (body : Body) (o : Option Node) → body_at names o ≡ Some body → is_body_node o ≡ true
is_body_by names body (Some (node.Body c x)) h = refl
is_body_by names body _ h = absurd (cc)

-- what is noted of a body names its node
noted_is_body : (s : Scene) (n : Nodes) (t : Types) (i : ℕ) (b : BodyTypes) → IsTypes s n t → slice_get t.bodies.items i ≡ Some b → is_body_node (slice_get n.items.items b.node) ≡ true
noted_is_body s n t i b h noted =
    elim (slice_get_cases (bodies s) i).1 [
      | inl w ↦ is_body_by (names_at s.known n b.node) w.0 (slice_get n.items.items b.node) (h.body i w.0 b w.2 noted).node
      | inr w ↦ absurd (omega (arith, w.0, h.body_count, slice_get_within t.bodies.items i b noted))
    ]

pub has_node : (s : Scene) (n : Nodes) (t : Types) (i : ℕ) (b : BodyTypes) → IsTypes s n t → slice_get t.bodies.items i ≡ Some b → slice_get n.items.items b.node ≡ None → ⊥
has_node s n t i b h noted none = let e = sym (ap is_body_node none) ∙ noted_is_body s n t i b h noted in let f : false ≡ true = e in cc

other_node : (x : Node) → ((c : _) (b : _) → x ≡ node.Body c b → ⊥) → is_body_node (Some x) ≡ false
other_node (node.Body c b) h = absurd (h c b refl)
other_node _ h = refl

pub has_body_node : (s : Scene) (n : Nodes) (t : Types) (i : ℕ) (b : BodyTypes) (x : Node) → IsTypes s n t → slice_get t.bodies.items i ≡ Some b → slice_get n.items.items b.node ≡ Some x
    → ((c : _) (y : _) → x ≡ node.Body c y → ⊥) → ⊥
has_body_node s n t i b x h noted there other =
    let e = sym (other_node x other) ∙ ap is_body_node (sym there) ∙ noted_is_body s n t i b h noted in let f : false ≡ true = e in cc

pub found_is : (s : Scene) (n : Nodes) (t : Types) (place : Place) (i : ℕ) (f : FoundBody) → IsTypes s n t → HasTags s t
    → found_place place t.by_place ≡ Some i → slice_get t.bodies.items i ≡ Some f.noted.now → slice_get n.items.items f.noted.now.node ≡ Some (node.Body f.construct.now f.body)
    → IsFound s t.kinds place f
found_is s n t place i f h tags found noted it =
    elim (slice_get_cases (bodies s) i).1 [
      | inl w ↦ found_with s n t place i w.0 f h tags (h.first place ∙ (ap (λ o. option_and_then (λ i. slice_get (bodies s) i) o) found ∙ w.2)) w.2 noted
          (sym (ap (body_at (names_at s.known n f.noted.now.node)) it) ∙ (h.body i w.0 f.noted.now w.2 noted).node)
      | inr w ↦ absurd (omega (arith, w.0, h.body_count, slice_get_within t.bodies.items i f.noted.now noted))
    ]

-- all types are there
pub table_end : (s : Scene) (ks : List Kind) (t : Numbers) → AreNumbers s ks t → (xs : List Own) → xs ≡ t.own.items → (i : ℕ) → length xs ≤ i → (done : List TypeDef)
    → done ++ map (λ o. definition s (type_at ks o.kind)) (drop i xs) ≡ basic_types ++ map (λ o. definition s (type_at ks o.kind)) xs → done ≡ types_of s
table_end s ks t h xs same i past done before =
    gathered (map (λ (o : Own). definition s (type_at ks o.kind))) (λ o. definition s (type_at ks o.kind) ∷ []) (λ o more. refl) xs
    (basic_types ++ map (λ o. definition s (type_at ks o.kind)) xs) done i past refl before
    ∙ (ap (λ (l : List Own). basic_types ++ map (λ o. definition s (type_at ks o.kind)) l) same ∙ ap (λ l. basic_types ++ l) (own_made s ks t h))
