-- What a type in the table holds in its place.
use Rattle.std.proofs.Common.{◌≡◌, ℕ, zero, suc, Bool, true, false, List, [], ◌∷◌, ◌++◌, map, Option, Some, None, ℤ, inl, refl, sym, ap, ◌∙◌, subst}
use Rattle.std.specs.List.{list_all, flat_map}
use Rattle.nd_types.specs.declared.types.Field.{Field}
use Rattle.nd_types.specs.declared.types.Arm as arm
use Rattle.nd_types.specs.Layout as layout
use Rattle.idl_grammar.specs.Tree.{TypeSpec, Arm}
use Rattle.idl_grammar.specs.Tree as tree
use Rattle.nd_base.specs.declared.octets.Place.{Place}
use Rattle.idl_rule_definitions.specs.Nodes.{Declared, LabelledArm, arms_of}
use Rattle.idl_rule_definitions.specs.Types.{IdlType, Void, Handle, ContextHandle, Basic, Struct, Union, Enum, Array, Text, Pointer, Pipe, Names, type_of}
use Rattle.idl_rule_definitions.specs.Scene.{Scene, Body, body_of, parts_declared, arm_declared, parts_of, parts_of_found, in_place, nests}
use Rattle.idl_rule_definitions.specs.DeclarationRules.{label_value}
use Rattle.idl_rule_definitions.specs.Numbering.{number_of_type, is_numbered}
use Rattle.idl_rule_definitions.specs.Meaning.{definition, types_of, field, first_type, struct_of, defined_by, defined_at, body_if, is_struct, is_union, is_enum, type_of_arm, arm_by, labelled_arms}
use Rattle.idl_rule_definitions.specs.Meaning.{default_by, default_arm, first_arm}
use Rattle.idl_legal_laws.proofs.Numbers.{at_its_number}
use Rattle.idl_legal_laws.proofs.Among.{Among, among_map, among_flat, Each, each_at, each_made, each_map, each_join, each_flat, each_every, each_then, all_each, each_all}
use Rattle.idl_legal_laws.proofs.Scenes.{IsKept, BodyThere, KeptPart, kept_parts, part_numbered, found_there, inner_there}

-- the number of a type that is held in place, and is in the table
pub record Held (s : Scene) (us : List IdlType) (n : ℕ) : Type 0 where
  pub type : IdlType
  pub held : Among type us
  pub there : is_numbered s type ≡ true
  pub number : number_of_type s type ≡ n

-- the number of a member or arm
pub record PartNumber (s : Scene) (names : Names) (ds : List Declared) (n : ℕ) : Type 0 where
  pub it : Declared
  pub among : Among it ds
  pub number : number_of_type s (type_of s.known names it) ≡ n

pub struct_parts : (fs : List Field) → layout.parts (Some (struct_of fs)) ≡ map (λ f. f.of.0) fs
struct_parts [] = refl
struct_parts (f ∷ fs) = refl

member_numbers : (s : Scene) (names : Names) (list ds : List Declared) → Each (PartNumber s names ds) (map (λ f. f.of.0) (map (field s names list) ds))
member_numbers s names list ds =
    each_map (PartNumber s names ds) (λ f. f.of.0) (map (field s names list) ds)
    (each_map (λ f. PartNumber s names ds f.of.0) (field s names list) ds
    (each_made (λ d. PartNumber s names ds (number_of_type s (type_of s.known names d))) ds (λ d i. record { it = d; among = i; number = refl })))

-- ## Arms

arm_number : (s : Scene) (b : Body) (a : LabelledArm) (ds : List Declared) → ((d : Declared) → Among d (arm_declared b.construct a.position a.arm) → Among d ds)
    → Each (PartNumber s b.names ds) (layout.type_list (type_of_arm s b a))
arm_number s b a ds f = by_arm a.arm f
  where
    by_arm : (x : Arm) → ((d : Declared) → Among d (arm_declared b.construct a.position x) → Among d ds)
        → Each (PartNumber s b.names ds) (layout.type_list (first_type s b.names (arm_declared b.construct a.position x)))
    by_arm (tree.Empty at as_) g = tt
    by_arm (tree.Typed at as_ type d) g = (record { it = _; among = g _ (inl refl); number = refl }, tt)

abbrev ArmOk : Scene → Names → List Declared → arm.Arm → Type 0
ArmOk s names ds a = Each (PartNumber s names ds) (layout.arm_type a)

one_arm : (s : Scene) (b : Body) (a : LabelledArm) (ds : List Declared) (o : Option ℤ) → Each (PartNumber s b.names ds) (layout.type_list (type_of_arm s b a))
    → Each (ArmOk s b.names ds) (arm_by s b a o)
one_arm s b a ds (Some z) h = (h, tt)
one_arm s b a ds None h = tt

one_default : (s : Scene) (b : Body) (a : LabelledArm) (ds : List Declared) (o : Option ℤ) → Each (PartNumber s b.names ds) (layout.type_list (type_of_arm s b a))
    → Each (ArmOk s b.names ds) (default_by s b a o)
one_default s b a ds (Some z) h = tt
one_default s b a ds None h = (h, tt)

first_ok : (P : arm.Arm → Type 0) (as_ : List arm.Arm) → Each P as_ → (Q : ℕ → Type 0) → ((a : arm.Arm) → P a → Each Q (layout.arm_type a)) → Each Q (layout.default_type (first_arm as_))
first_ok P [] h Q f = tt
first_ok P (a ∷ more) h Q f = f a h.0

all_arms : (P : ℕ → Type 0) (as_ : List arm.Arm) → Each (λ a. Each P (layout.arm_type a)) as_ → Each P (layout.arm_types as_)
all_arms P [] h = tt
all_arms P (a ∷ more) h = each_join P (layout.arm_type a) (layout.arm_types more) h.0 (all_arms P more h.1)

arm_numbers : (s : Scene) (b : Body) (ds : List Declared) → ds ≡ flat_map (λ a. arm_declared b.construct a.position a.arm) (arms_of b.body)
    → Each (PartNumber s b.names ds) (layout.arm_types (labelled_arms s b) ++ layout.default_type (default_arm s b))
arm_numbers s b ds e =
    let each_arm = each_made (λ a. Each (PartNumber s b.names ds) (layout.type_list (type_of_arm s b a))) (arms_of b.body)
    (λ a i. arm_number s b a ds (λ d j. subst (Among d) (sym e) (among_flat (λ x. arm_declared b.construct x.position x.arm) (arms_of b.body) a d i j))) in
    each_join (PartNumber s b.names ds) (layout.arm_types (labelled_arms s b)) (layout.default_type (default_arm s b))
    (all_arms (PartNumber s b.names ds) (labelled_arms s b)
    (each_flat (ArmOk s b.names ds) (λ a. flat_map (λ l. arm_by s b a (label_value s.known l)) a.labels) (arms_of b.body)
    (each_then (λ a. Each (PartNumber s b.names ds) (layout.type_list (type_of_arm s b a))) (λ a. Each (ArmOk s b.names ds) (flat_map (λ l. arm_by s b a (label_value s.known l)) a.labels))
    (λ a h. each_flat (ArmOk s b.names ds) (λ l. arm_by s b a (label_value s.known l)) a.labels
    (each_every (λ l. Each (ArmOk s b.names ds) (arm_by s b a (label_value s.known l))) (λ l. one_arm s b a ds (label_value s.known l) h) a.labels))
    (arms_of b.body) each_arm)))
    (first_ok (ArmOk s b.names ds) (flat_map (λ a. flat_map (λ l. default_by s b a (label_value s.known l)) a.labels) (arms_of b.body))
    (each_flat (ArmOk s b.names ds) (λ a. flat_map (λ l. default_by s b a (label_value s.known l)) a.labels) (arms_of b.body)
    (each_then (λ a. Each (PartNumber s b.names ds) (layout.type_list (type_of_arm s b a))) (λ a. Each (ArmOk s b.names ds) (flat_map (λ l. default_by s b a (label_value s.known l)) a.labels))
    (λ a h. each_flat (ArmOk s b.names ds) (λ l. default_by s b a (label_value s.known l)) a.labels
    (each_every (λ l. Each (ArmOk s b.names ds) (default_by s b a (label_value s.known l))) (λ l. one_default s b a ds (label_value s.known l) h) a.labels))
    (arms_of b.body) each_arm))
    (PartNumber s b.names ds) (λ a h. h))

-- the types in place of what a body defines are those of its members or arms
pub body_parts : (s : Scene) (b : Body) → Each (PartNumber s b.names (parts_declared b.construct b.body)) (layout.parts (Some (defined_by s b b.body)))
body_parts s b = by_form b.body refl
  where
    by_form : (t : TypeSpec) → b.body ≡ t → Each (PartNumber s b.names (parts_declared b.construct t)) (layout.parts (Some (defined_by s b t)))
    by_form (tree.Struct at tag ms) e =
        let ds = parts_declared b.construct b.body in
        subst (λ x. Each (PartNumber s b.names x) (layout.parts (Some (struct_of (map (field s b.names ds) ds))))) (ap (parts_declared b.construct) e)
        (subst (Each (PartNumber s b.names ds)) (sym (struct_parts (map (field s b.names ds) ds))) (member_numbers s b.names ds ds))
    by_form (tree.EncapsulatedUnion at tag d name cases) e =
        arm_numbers s b (parts_declared b.construct (tree.EncapsulatedUnion at tag d name cases)) (ap (λ x. flat_map (λ a. arm_declared b.construct a.position a.arm) (arms_of x)) (sym e))
    by_form (tree.NonEncapsulatedUnion at tag arms) e =
        arm_numbers s b (parts_declared b.construct (tree.NonEncapsulatedUnion at tag arms)) (ap (λ x. flat_map (λ a. arm_declared b.construct a.position a.arm) (arms_of x)) (sym e))
    by_form (tree.Enum at tag es) e = tt
    by_form (tree.Simple t) e = tt
    by_form (tree.Name n) e = tt
    by_form (tree.Tag at kind tag) e = tt

-- ## In the table

part_held : (s : Scene) → IsKept s → (b : Body) → BodyThere s b → (n : ℕ) → PartNumber s b.names (parts_declared b.construct b.body) n → Held s (parts_of s.known b) n
part_held s k b h n p = record {
  type = type_of s.known b.names p.it;
  held = among_map (type_of s.known b.names) p.it (parts_declared b.construct b.body) p.among;
  there = part_numbered s b.names p.it (each_at (KeptPart s b.names) (parts_declared b.construct b.body) (kept_parts s k b.names b.construct b.body h) p.it p.among);
  number = p.number;
}

pub body_held : (s : Scene) → IsKept s → (b : Body) → BodyThere s b → Each (Held s (parts_of s.known b)) (layout.parts (Some (defined_by s b b.body)))
body_held s k b h =
    each_then (PartNumber s b.names (parts_declared b.construct b.body)) (Held s (parts_of s.known b)) (part_held s k b h) (layout.parts (Some (defined_by s b b.body))) (body_parts s b)

found_held : (s : Scene) → IsKept s → (place : Place) (is_meant : TypeSpec → Bool) (o : Option Body) → body_of s place ≡ o
    → Each (Held s (parts_of_found s.known o)) (layout.parts (Some (defined_at s (body_if is_meant o))))
found_held s k place is_meant None e = tt
found_held s k place is_meant (Some b) e = kind (is_meant b.body)
  where
    kind : (t : Bool) → Each (Held s (parts_of s.known b)) (layout.parts (Some (defined_at s (elim t [ true ↦ Some b | false ↦ None ]))))
    kind true = body_held s k b (found_there s place b e)
    kind false = tt

enum_holds : (s : Scene) (P : ℕ → Type 0) (o : Option Body) → Each P (layout.parts (Some (defined_at s (body_if is_enum o))))
enum_holds s P None = tt
enum_holds s P (Some b) = by_form b.body
  where
    by_form : (t : TypeSpec) → Each P (layout.parts (Some (defined_at s (elim (is_enum t) [ true ↦ Some (record b { body = t }) | false ↦ None ]))))
    by_form (tree.Enum at tag es) = tt
    by_form (tree.Struct at tag ms) = tt
    by_form (tree.EncapsulatedUnion at tag d name cases) = tt
    by_form (tree.NonEncapsulatedUnion at tag arms) = tt
    by_form (tree.Simple t) = tt
    by_form (tree.Name n) = tt
    by_form (tree.Tag at kind tag) = tt

one_held : (s : Scene) (u : IdlType) → is_numbered s u ≡ true → Each (Held s (u ∷ [])) (number_of_type s u ∷ [])
one_held s u h = (record { type = u; held = inl refl; there = h; number = refl }, tt)

-- what a type holds in the table, it holds in place
pub holds : (s : Scene) → IsKept s → (t : IdlType) → is_numbered s t ≡ true → Each (Held s (in_place s t)) (layout.parts (Some (definition s t)))
holds s k (Struct p) h = found_held s k p is_struct (body_of s p) refl
holds s k (Union p) h = found_held s k p is_union (body_of s p) refl
holds s k (Enum p) h = enum_holds s (Held s []) (body_of s p)
holds s k (Array t m v) h = one_held s t (inner_there s k (Array t m v) refl h)
holds s k (Text t m) h = one_held s t (inner_there s k (Text t m) refl h)
holds s k (Pipe t) h = one_held s t (inner_there s k (Pipe t) refl h)
holds s k (Pointer c t) h = tt
holds s k Void h = tt
holds s k Handle h = tt
holds s k ContextHandle h = tt
holds s k (Basic p) h = tt

-- ## Nesting

pub nests_there : (s : Scene) → IsKept s → (n : ℕ) (t : IdlType) → is_numbered s t ≡ true → nests n s t ≡ true → layout.nests n (types_of s) (number_of_type s t) ≡ true
nests_there s k zero t h i = absurd (let e : false ≡ true = i in cc)
nests_there s k (suc n) t h i =
    ap (λ o. list_all (layout.nests n (types_of s)) (layout.parts o)) (at_its_number s t h)
    ∙ each_all (layout.nests n (types_of s)) (layout.parts (Some (definition s t)))
    (each_then (Held s (in_place s t)) (λ m. layout.nests n (types_of s) m ≡ true)
    (λ m p. subst (λ x. layout.nests n (types_of s) x ≡ true) p.number
    (nests_there s k n p.type p.there (each_at (λ u. nests n s u ≡ true) (in_place s t) (all_each (nests n s) (in_place s t) i) p.type p.held)))
    (layout.parts (Some (definition s t))) (holds s k t h))
