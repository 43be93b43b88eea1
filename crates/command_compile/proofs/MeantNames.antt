-- What files mean whose names are identifiers has identifiers for names.
use Rattle.std.proofs.Common.{◌≡◌, ℕ, Bool, true, false, ◌&&◌, List, [], ◌∷◌, map, Option, Some, None, refl, ap, ◌∙◌, ℤ}
use Rattle.std.specs.List.{list_all, flat_map}
use Rattle.std.specs.Cmp.Derive.{both_true}
use Rattle.std.proofs.lemmas.List.Concat.{flat_map-cons}
use Rattle.std.proofs.lemmas.List.Folds.{list_all-map}
use Rattle.std.proofs.lemmas.Bool.{and_parts as both}
use Rattle.idl_grammar.specs.declared.language.Language.{Language}
use Rattle.nd_lemmas.proofs.Lists.{join_all}
use Rattle.nd_base.specs.Text.{is_identifier}
use Rattle.nd_types.specs.declared.types.Arm as arm
use Rattle.nd_types.specs.declared.types.Field.{Field}
use Rattle.nd_types.specs.Legal.{is_named, is_named_default, has_named_parts, has_names}
use Rattle.idl_grammar.specs.Tree.{Declarator, TypeSpec, Members, Cases, Arms, Arm, Tree}
use Rattle.idl_grammar.specs.Tree as tree
use Rattle.idl_names.specs.Walk.{IsFile, Source, State, IsResolved}
use Rattle.idl_rule_definitions.specs.Nodes.{Construct, InMember, inside, Declared, declared, declared_members, LabelledArm, arms_of_cases, arms_of_arms, arms_of, Node, HeaderNode, AttributeNode}
use Rattle.idl_rule_definitions.specs.Nodes.{SwitchNode, TagNode, BodyNode, EnumeratorNode, LabelNode, EmptyArmNode, DeclaratorNode, ConstantNode, TypeNode, OperationNode}
use Rattle.idl_rule_definitions.specs.Types.{IdlType, Void, Handle, ContextHandle, Basic, Struct, Union, Enum, Array, Text, Pointer, Pipe, Names}
use Rattle.idl_rule_definitions.specs.Scene.{Scoped, Scene, scene_of, Body}
use Rattle.idl_rule_definitions.specs.DeclarationRules.{label_value}
use Rattle.idl_rule_definitions.specs.Meaning.{field, parameter, name_of_arm, arm_by, labelled_arms, default_by, first_arm, default_arm, struct_of, defined_by, definition, types_of, operation_in}
use Rattle.idl_rule_definitions.specs.Meaning.{operations_of, HasIdentifiers}
use Rattle.idl_legal_laws.proofs.Among.{Each, each_at}
use Rattle.idl_legal_laws.proofs.Whole.{scope}
use Rattle.idl_legal_laws.proofs.Scenes.{is_made, table_all}
use Rattle.command_compile.specs.Judged.{world}
use Rattle.command_compile.proofs.TreeNames as named
use Rattle.command_compile.proofs.TreeNames.{are_named, type_named, members_named, cases_named, arms_named, arm_named}
use Rattle.command_compile.proofs.EndedNames.{resolved_named}
use Rattle.command_compile.proofs.NodeNames.{is_declared, node_named, IsScopedNamed, scene_named}

-- ## Lists that are joined

module _ {X Y : Type 0} (q : Y → Bool) (f : X → List Y) where
  each_flat : (xs : List X) → ((x : X) → list_all q (f x) ≡ true) → list_all q (flat_map f xs) ≡ true
  each_flat [] h = refl
  each_flat (x ∷ xs) h = ap (list_all q) (flat_map-cons f x xs) ∙ join_all q (f x) (flat_map f xs) (h x) (each_flat xs h)

  those_flat : (p : X → Bool) (xs : List X) → list_all p xs ≡ true → ((x : X) → p x ≡ true → list_all q (f x) ≡ true) → list_all q (flat_map f xs) ≡ true
  those_flat p [] i h = refl
  those_flat p (x ∷ xs) i h =
      let e = both (p x) (list_all p xs) i in ap (list_all q) (flat_map-cons f x xs) ∙ join_all q (f x) (flat_map f xs) (h x e.0) (those_flat p xs e.1 h)

-- ## Bodies

line_is : (c : Construct) (type : TypeSpec) (ds : List Declarator) → are_named ds ≡ true → list_all is_declared (map (declared c type) ds) ≡ true
line_is c type [] h = refl
line_is c type (d ∷ ds) h = let x = both (named.is_named d) (are_named ds) h in both_true x.0 (line_is c type ds x.1)

members_are : (c : Construct) (ms : Members) → members_named ms ≡ true → list_all is_declared (declared_members c ms) ≡ true
members_are c tree.no_members h = refl
members_are c (tree.next_member at a type ds others) h =
    let x = both (type_named type) (are_named ds && members_named others) h in
    let y = both (are_named ds) (members_named others) x.1 in
    let here = inside c InMember at a in
    join_all is_declared (map (declared here type) ds) (declared_members c others) (line_is here type ds y.0) (members_are c others y.1)

struct_is : (fs : List Field) → list_all (λ f. is_identifier f.name) fs ≡ true → has_named_parts (struct_of fs) ≡ true
struct_is [] h = refl
struct_is (f ∷ fs) h = h

fields_are : (s : Scene) (names : Names) (list ds : List Declared) → list_all is_declared ds ≡ true → list_all (λ f. is_identifier f.name) (map (field s names list) ds) ≡ true
fields_are s names list ds h = list_all-map (λ (f : Field). is_identifier f.name) (field s names list) ds ∙ h

abbrev is_arm : LabelledArm → Bool
is_arm a = is_named (name_of_arm a.arm)

arm_is : (a : Arm) → arm_named a ≡ true → is_named (name_of_arm a) ≡ true
arm_is (tree.Empty at a) h = refl
arm_is (tree.Typed at a type d) h = (both (type_named type) (named.is_named d) h).1

cases_are : (cs : Cases) → cases_named cs ≡ true → list_all is_arm (arms_of_cases cs) ≡ true
cases_are tree.no_cases h = refl
cases_are (tree.next_case ls a others) h = let x = both (arm_named a) (cases_named others) h in both_true (arm_is a x.0) (cases_are others x.1)

arms_are : (xs : Arms) → arms_named xs ≡ true → list_all is_arm (arms_of_arms xs) ≡ true
arms_are tree.no_arms h = refl
arms_are (tree.next_arm a others) h = let x = both (arm_named a) (arms_named others) h in both_true (arm_is a x.0) (arms_are others x.1)

by_label : (s : Scene) (b : Body) (a : LabelledArm) → is_arm a ≡ true → (o : Option ℤ) → list_all (λ x. is_named x.name) (arm_by s b a o) ≡ true
by_label s b a h (Some z) = both_true h refl
by_label s b a h None = refl

by_default : (s : Scene) (b : Body) (a : LabelledArm) → is_arm a ≡ true → (o : Option ℤ) → list_all (λ x. is_named x.name) (default_by s b a o) ≡ true
by_default s b a h (Some z) = refl
by_default s b a h None = both_true h refl

labelled_are : (s : Scene) (b : Body) → list_all is_arm (arms_of b.body) ≡ true → list_all (λ x. is_named x.name) (labelled_arms s b) ≡ true
labelled_are s b h =
    those_flat (λ (x : arm.Arm). is_named x.name) (λ a. flat_map (λ l. arm_by s b a (label_value s.known l)) a.labels) is_arm (arms_of b.body) h
    (λ a i. each_flat (λ (x : arm.Arm). is_named x.name) (λ l. arm_by s b a (label_value s.known l)) a.labels (λ l. by_label s b a i (label_value s.known l)))

first_is : (xs : List arm.Arm) → list_all (λ x. is_named x.name) xs ≡ true → is_named_default (first_arm xs) ≡ true
first_is [] h = refl
first_is (a ∷ xs) h = (both (is_named a.name) (list_all (λ x. is_named x.name) xs) h).0

default_is : (s : Scene) (b : Body) → list_all is_arm (arms_of b.body) ≡ true → is_named_default (default_arm s b) ≡ true
default_is s b h =
    first_is (flat_map (λ a. flat_map (λ l. default_by s b a (label_value s.known l)) a.labels) (arms_of b.body))
    (those_flat (λ (x : arm.Arm). is_named x.name) (λ a. flat_map (λ l. default_by s b a (label_value s.known l)) a.labels) is_arm (arms_of b.body) h
    (λ a i. each_flat (λ (x : arm.Arm). is_named x.name) (λ l. default_by s b a (label_value s.known l)) a.labels (λ l. by_default s b a i (label_value s.known l))))

body_is : (s : Scene) (c : Construct) (names : Names) (body : TypeSpec) → type_named body ≡ true
    → has_named_parts (defined_by s (record { construct = c; names = names; body = body }) body) ≡ true
body_is s c names (tree.Struct at tag ms) h =
    let list = declared_members c ms in struct_is (map (field s names list) list) (fields_are s names list list (members_are c ms h))
body_is s c names (tree.EncapsulatedUnion at tag d name cs) h =
    let b : Body = record { construct = c; names = names; body = tree.EncapsulatedUnion at tag d name cs } in
    both_true (labelled_are s b (cases_are cs h)) (default_is s b (cases_are cs h))
body_is s c names (tree.NonEncapsulatedUnion at tag xs) h =
    let b : Body = record { construct = c; names = names; body = tree.NonEncapsulatedUnion at tag xs } in
    both_true (labelled_are s b (arms_are xs h)) (default_is s b (arms_are xs h))
body_is s c names (tree.Enum at tag es) h = refl
body_is s c names (tree.Simple t) h = refl
body_is s c names (tree.Name n) h = refl
body_is s c names (tree.Tag at kind tag) h = refl

-- ## Types and operations

made_is : (s : Scene) (t : IdlType) → is_made t ≡ true → has_named_parts (definition s t) ≡ true
made_is s (Array t count varying) h = refl
made_is s (Text t count) h = refl
made_is s (Pointer c to) h = refl
made_is s (Pipe t) h = refl
made_is s Void h = refl
made_is s Handle h = refl
made_is s ContextHandle h = refl
made_is s (Basic p) h = refl
made_is s (Struct place) h = absurd (let e : false ≡ true = h in cc)
made_is s (Union place) h = absurd (let e : false ≡ true = h in cc)
made_is s (Enum place) h = absurd (let e : false ≡ true = h in cc)

types_are : (s : Scene) → Each IsScopedNamed s.nodes → list_all has_named_parts (types_of s) ≡ true
types_are s h =
    table_all s has_named_parts refl (record {
      nothing = refl;
      by_bodies = λ b there e. body_is s b.construct b.names b.body (each_at IsScopedNamed s.nodes h (scope b.names (BodyNode b.construct b.body)) there);
      by_made = λ t m n. made_is s t m;
    })

operation_is : (s : Scene) (names : Names) (n : Node) → node_named n ≡ true → list_all has_names (operation_in s names n) ≡ true
operation_is s names (OperationNode c name ps result) h =
    let x = both (is_identifier name.octets) (list_all is_declared ps) h in
    both_true (both_true x.0 (list_all-map (λ p. is_identifier p.field.name) (parameter s names ps) ps ∙ x.1)) refl
operation_is s names (BodyNode c body) h = refl
operation_is s names (HeaderNode c at) h = refl
operation_is s names (AttributeNode c before a) h = refl
operation_is s names (SwitchNode c t) h = refl
operation_is s names (TagNode c kind tag) h = refl
operation_is s names (EnumeratorNode c name) h = refl
operation_is s names (LabelNode c body before l) h = refl
operation_is s names (EmptyArmNode c) h = refl
operation_is s names (DeclaratorNode list index d) h = refl
operation_is s names (ConstantNode c t star value) h = refl
operation_is s names (TypeNode c t) h = refl

operations_are : (s : Scene) (ns : List Scoped) → Each IsScopedNamed ns → list_all has_names (flat_map (λ n. operation_in s n.names n.node) ns) ≡ true
operations_are s [] h = refl
operations_are s (n ∷ ns) h =
    ap (list_all has_names) (flat_map-cons (λ (m : Scoped). operation_in s m.names m.node) n ns)
    ∙ join_all has_names (operation_in s n.names n.node) (flat_map (λ m. operation_in s m.names m.node) ns) (operation_is s n.names n.node h.0) (operations_are s ns h.1)

-- what texts mean has identifiers for names
pub meant_named : {language : Language} (held : Option (List ℕ → Option (List ℕ))) (main : List Source) (text : List ℕ) (t : Tree) (s : State) → IsFile language text t
    → IsResolved language held main t s
    → HasIdentifiers (types_of (scene_of (world s))) (operations_of (scene_of (world s)))
meant_named held main text t s is r =
    let scene = scene_of (world s) in
    let nodes = scene_named (world s) (resolved_named held main text t s is r) in
    record { part_names = types_are scene nodes; operation_names = operations_are scene scene.nodes nodes }
