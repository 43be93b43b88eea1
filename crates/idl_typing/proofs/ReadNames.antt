-- What one node of the program declares, and which body it is.
use Rattle.std.proofs.Common.{◌≡◌, ℕ, ◌+◌, Bool, true, false, cond, List, [], ◌∷◌, ◌++◌, map, Option, Some, None, option_map, is_some, refl, sym, ap, ◌∙◌, Vec, append_assoc}
use Rattle.std.specs.List.{flat_map, slice_get}
use Rattle.std.proofs.lemmas.Grind.{flat_map-append}
use Rattle.std.proofs.lemmas.List.{append-nil}
use Rattle.idl_grammar.specs.Tree.{Attribute, TypeSpec, Enumerator}
use Rattle.idl_grammar.specs.Tree as tree
use Rattle.idl_scope.specs.Known.{Known}
use Rattle.idl_constructs.specs.declared.nodes.Declared as declared
use Rattle.idl_constructs.specs.declared.nodes.Node as program_node
use Rattle.idl_constructs.specs.declared.nodes.Node.TheVariants as node
use Rattle.idl_constructs.specs.declared.nodes.Nodes as program_nodes
use Rattle.idl_rule_definitions.specs.Nodes.{Construct, Node, AttributeNode, LabelNode, EnumeratorNode, DeclaratorNode, ArmLabel, attribute_nodes_from, label_nodes, labels_of}
use Rattle.idl_grammar.specs.Seen.{seen_type, seen_enumerator}
use Rattle.idl_rule_definitions.specs.Types.{Names}
use Rattle.idl_rule_definitions.specs.Scene.{Scoped, Body, scoped_from, names_behind, body_by}
use Rattle.idl_constructs.specs.SeenNodes.{seen_node, seen_construct, seen_declared, seen_result, list_at}
use Rattle.idl_declared_types.specs.SeenTypes.{names_past, names_at, scoped_front, body_at}
use Rattle.idl_typing.specs.ReadTypes.{bodies_in, bodies_front}
use Rattle.idl_declared_types.proofs.Fronts.{scoped_front_next}

-- ## Bodies

abbrev pub body_list : Option Body → List Body
body_list (Some b) = b ∷ []
body_list None = []

attributes_none : (known : Known) (names : Names) (c : Construct) (before rest : List Attribute) → bodies_in (scoped_from known names (attribute_nodes_from c before rest)) ≡ []
attributes_none known names c before [] = refl
attributes_none known names c before (a ∷ rest) = attributes_none known names c (before ++ a ∷ []) rest

labels_none : (known : Known) (names : Names) (c : Construct) (body : TypeSpec) (before rest : List ArmLabel) → bodies_in (scoped_from known names (label_nodes c body before rest)) ≡ []
labels_none known names c body before [] = refl
labels_none known names c body before (l ∷ rest) = labels_none known names c body (before ++ l ∷ []) rest

enumerators_none : (known : Known) (names : Names) (c : Construct) (es : List Enumerator) → bodies_in (scoped_from known names (map (λ e. EnumeratorNode c e.name) es)) ≡ []
enumerators_none known names c [] = refl
enumerators_none known names c (e ∷ es) = enumerators_none known names c es

pub bodies_of : {A : Type 0} (known : Known) (names : Names) (lists : List (Vec declared.Declared A)) (it : program_node.Node)
    → bodies_in (scoped_from known names (seen_node lists it)) ≡ body_list (body_at names (Some it))
bodies_of known names lists (node.Header c) = refl
bodies_of known names lists (node.Attributes c) = attributes_none known names (seen_construct c) [] (seen_construct c).attributes
bodies_of known names lists (node.Switch c of) = refl
bodies_of known names lists (node.Tag c kind tag) = refl
bodies_of known names lists (node.Body c body) = refl
bodies_of known names lists (node.Enumerators c list) = enumerators_none known names (seen_construct c) (map seen_enumerator list.now)
bodies_of known names lists (node.Labels c body) = labels_none known names (seen_construct c) (seen_type body.now) [] (labels_of (seen_type body.now))
bodies_of known names lists (node.EmptyArm c) = refl
bodies_of known names lists (node.Declarator list index d) = refl
bodies_of known names lists (node.Result r) = refl
bodies_of known names lists (node.Constant c of star value) = refl
bodies_of known names lists (node.Type c of) = refl
bodies_of known names lists (node.Operation r parameters) = refl

pub bodies_front_next : (known : Known) (n : program_nodes.Nodes) (i : ℕ) (it : program_node.Node) → slice_get n.items.items i ≡ Some it
    → bodies_front known n (i + 1) ≡ bodies_front known n i ++ body_list (body_at (names_at known n i) (Some it))
bodies_front_next known n i it h =
    ap bodies_in (scoped_front_next known n i it h)
    ∙ flat_map-append (λ (m : Scoped). body_by m.names m.node) (scoped_front known n i) (scoped_from known (names_at known n i) (seen_node n.lists.items it))
    ∙ ap (λ l. bodies_front known n i ++ l) (bodies_of known (names_at known n i) n.lists.items it)

-- ## Names

attributes_leave : (known : Known) (names : Names) (c : Construct) (before rest : List Attribute) → names_past known names (attribute_nodes_from c before rest) ≡ names
attributes_leave known names c before [] = refl
attributes_leave known names c before (a ∷ rest) = attributes_leave known names c (before ++ a ∷ []) rest

labels_leave : (known : Known) (names : Names) (c : Construct) (body : TypeSpec) (before rest : List ArmLabel) → names_past known names (label_nodes c body before rest) ≡ names
labels_leave known names c body before [] = refl
labels_leave known names c body before (l ∷ rest) = labels_leave known names c body (before ++ l ∷ []) rest

enumerators_leave : (known : Known) (names : Names) (c : Construct) (es : List Enumerator) → names_past known names (map (λ e. EnumeratorNode c e.name) es) ≡ names
enumerators_leave known names c [] = refl
enumerators_leave known names c (e ∷ es) = enumerators_leave known names c es

-- the names after one node of the program
abbrev pub names_behind_node : Known → Names → program_node.Node → Names
names_behind_node known names (node.Declarator list index d) = names_behind known names (DeclaratorNode [] 0 (seen_declared d))
names_behind_node known names (node.Result r) = names_behind known names (DeclaratorNode [] 0 (seen_result r))
names_behind_node known names _ = names

pub names_of : {A : Type 0} (known : Known) (names : Names) (lists : List (Vec declared.Declared A)) (it : program_node.Node)
    → names_past known names (seen_node lists it) ≡ names_behind_node known names it
names_of known names lists (node.Header c) = refl
names_of known names lists (node.Attributes c) = attributes_leave known names (seen_construct c) [] (seen_construct c).attributes
names_of known names lists (node.Switch c of) = refl
names_of known names lists (node.Tag c kind tag) = refl
names_of known names lists (node.Body c body) = refl
names_of known names lists (node.Enumerators c list) = enumerators_leave known names (seen_construct c) (map seen_enumerator list.now)
names_of known names lists (node.Labels c body) = labels_leave known names (seen_construct c) (seen_type body.now) [] (labels_of (seen_type body.now))
names_of known names lists (node.EmptyArm c) = refl
names_of known names lists (node.Declarator list index d) = refl
names_of known names lists (node.Result r) = refl
names_of known names lists (node.Constant c of star value) = refl
names_of known names lists (node.Type c of) = refl
names_of known names lists (node.Operation r parameters) = refl
