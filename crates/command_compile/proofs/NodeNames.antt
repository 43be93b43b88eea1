-- The nodes of files whose names are identifiers.
use Rattle.std.proofs.Common.{◌≡◌, ℕ, ◌+◌, Bool, true, false, ◌&&◌, eqb, List, [], ◌∷◌, ◌++◌, map, length, Option, Some, None, refl, ap, ◌∙◌}
use Rattle.std.specs.List.{list_all, flat_map}
use Rattle.std.specs.Cmp.Derive.{both_true}
use Rattle.std.proofs.lemmas.List.Concat.{flat_map-cons}
use Rattle.std.proofs.lemmas.Bool.{and_parts as both}
use Rattle.nd_lemmas.proofs.Lists.{join_all}
use Rattle.nd_base.specs.Text.{is_identifier}
use Rattle.idl_grammar.specs.declared.types.SwitchType.{SwitchType}
use Rattle.idl_grammar.specs.Tree.{Attribute, Declarator, Enumerator, TypeSpec, Members, Cases, Arms, Arm, Parameter, Export}
use Rattle.idl_grammar.specs.Tree as tree
use Rattle.idl_scope.specs.Known.{Ended, Known}
use Rattle.idl_scope.specs.Steps.{parameters_of}
use Rattle.idl_rule_definitions.specs.Nodes.{World, Construct, Position, InTypedef, InTaggedType, InMember, InArm, InCasedArm, InOperation, inside, Declared, declared, ArmLabel, Node, HeaderNode}
use Rattle.idl_rule_definitions.specs.Nodes.{SwitchNode, BodyNode, EnumeratorNode, EmptyArmNode, DeclaratorNode, TypeNode, OperationNode, attribute_nodes_from, attribute_nodes, switch_node}
use Rattle.idl_rule_definitions.specs.Nodes.{switch_nodes, declared_members, parameter_construct, declared_parameters, declarator_nodes, labels_of, label_nodes, type_nodes, member_nodes, case_nodes}
use Rattle.idl_rule_definitions.specs.Nodes.{arms_nodes, arm_nodes, parameter_nodes, typedef_node, result_of, operation_nodes, export_nodes, header_of, file_nodes, nodes}
use Rattle.idl_rule_definitions.specs.Attributes.{switch_type_in}
use Rattle.idl_rule_definitions.specs.Types.{Names}
use Rattle.idl_rule_definitions.specs.Scene.{Scoped, scene_of, scoped_from, names_behind}
use Rattle.idl_legal_laws.proofs.Among.{Each}
use Rattle.command_compile.proofs.TreeNames.{is_named, are_named, type_named, members_named, cases_named, arms_named, arm_named, parameter_named, export_named}
use Rattle.command_compile.proofs.EndedNames.{ended_named}

abbrev pub is_declared : Declared → Bool
is_declared d = is_identifier d.declarator.name.octets

-- the names in a body, and those of an operation with its parameters, are identifiers
abbrev pub node_named : Node → Bool
node_named (BodyNode c body) = type_named body
node_named (OperationNode c name ps result) = is_identifier name.octets && list_all is_declared ps
node_named _ = true

abbrev NodesNamed : List Node → Type 0
NodesNamed ns = list_all node_named ns ≡ true

nodes_join : (xs ys : List Node) → NodesNamed xs → NodesNamed ys → NodesNamed (xs ++ ys)
nodes_join xs ys h i = join_all node_named xs ys h i

-- ## Lists

attributes_are : (c : Construct) (before xs : List Attribute) → NodesNamed (attribute_nodes_from c before xs)
attributes_are c before [] = refl
attributes_are c before (a ∷ xs) = attributes_are c (before ++ a ∷ []) xs

attributed : (c : Construct) → NodesNamed (attribute_nodes c)
attributed c = attributes_are c [] c.attributes

switch_is : (c : Construct) (o : Option SwitchType) → NodesNamed (switch_node c o)
switch_is c None = refl
switch_is c (Some s) = refl

switched : (c : Construct) → NodesNamed (switch_nodes c)
switched c = switch_is c (switch_type_in c.attributes)

labels_are : (c : Construct) (body : TypeSpec) (before ls : List ArmLabel) → NodesNamed (label_nodes c body before ls)
labels_are c body before [] = refl
labels_are c body before (l ∷ ls) = labels_are c body (before ++ l ∷ []) ls

declarators_are : (list : List Declared) (index : ℕ) (ds : List Declared) → NodesNamed (declarator_nodes list index ds)
declarators_are list index [] = refl
declarators_are list index (d ∷ ds) = declarators_are list (index + 1) ds

enumerators_are : (c : Construct) (es : List Enumerator) → NodesNamed (map (λ e. EnumeratorNode c e.name) es)
enumerators_are c [] = refl
enumerators_are c (e ∷ es) = enumerators_are c es

typedefs_are : (c : Construct) (pipe : Bool) (type : TypeSpec) (ds : List Declarator) → NodesNamed (map (typedef_node c pipe type) ds)
typedefs_are c pipe type [] = refl
typedefs_are c pipe type (d ∷ ds) = typedefs_are c pipe type ds

-- ## Types

mutual
  type_is : (c : Construct) (t : TypeSpec) → type_named t ≡ true → NodesNamed (type_nodes c t)
  type_is c (tree.Simple s) h = refl
  type_is c (tree.Name n) h = refl
  type_is c (tree.Tag at kind tag) h = refl
  type_is c (tree.Struct at tag ms) h = both_true h (members_are c (declared_members c ms) 0 ms h)
  type_is c (tree.EncapsulatedUnion at tag d name cases) h =
      let u = tree.EncapsulatedUnion at tag d name cases in
      nodes_join (BodyNode c u ∷ SwitchNode c d.of ∷ label_nodes c u [] (labels_of u)) (case_nodes c cases) (both_true h (labels_are c u [] (labels_of u))) (cases_are c cases h)
  type_is c (tree.NonEncapsulatedUnion at tag arms) h =
      let u = tree.NonEncapsulatedUnion at tag arms in
      nodes_join (BodyNode c u ∷ label_nodes c u [] (labels_of u)) (arms_nodes c arms) (both_true h (labels_are c u [] (labels_of u))) (arms_are c arms h)
  type_is c (tree.Enum at tag es) h = enumerators_are c es

  members_are : (c : Construct) (list : List Declared) (index : ℕ) (ms : Members) → members_named ms ≡ true → NodesNamed (member_nodes c list index ms)
  members_are c list index tree.no_members h = refl
  members_are c list index (tree.next_member at a type ds others) h =
      let here = inside c InMember at a in
      let x = both (type_named type) (are_named ds && members_named others) h in
      let y = both (are_named ds) (members_named others) x.1 in
      let xs = attribute_nodes here in
      let ts = type_nodes here type in
      let dd = declarator_nodes list index (map (declared here type) ds) in
      nodes_join (xs ++ ts ++ dd) (member_nodes c list (index + length ds) others)
      (nodes_join (xs ++ ts) dd (nodes_join xs ts (attributed here) (type_is here type x.0)) (declarators_are list index (map (declared here type) ds)))
      (members_are c list (index + length ds) others y.1)

  cases_are : (c : Construct) (cases : Cases) → cases_named cases ≡ true → NodesNamed (case_nodes c cases)
  cases_are c tree.no_cases h = refl
  cases_are c (tree.next_case labels arm others) h =
      let x = both (arm_named arm) (cases_named others) h in
      nodes_join (arm_nodes c InArm arm) (case_nodes c others) (arm_is c InArm arm x.0) (cases_are c others x.1)

  arms_are : (c : Construct) (arms : Arms) → arms_named arms ≡ true → NodesNamed (arms_nodes c arms)
  arms_are c tree.no_arms h = refl
  arms_are c (tree.next_arm arm others) h =
      let x = both (arm_named arm) (arms_named others) h in
      nodes_join (arm_nodes c InCasedArm arm) (arms_nodes c others) (arm_is c InCasedArm arm x.0) (arms_are c others x.1)

  arm_is : (c : Construct) (position : Position) (arm : Arm) → arm_named arm ≡ true → NodesNamed (arm_nodes c position arm)
  arm_is c position (tree.Empty at a) h =
      let here = inside c position at a in nodes_join (attribute_nodes here) (EmptyArmNode here ∷ []) (attributed here) refl
  arm_is c position (tree.Typed at a type d) h =
      let here = inside c position at a in
      let x = both (type_named type) (is_named d) h in
      let xs = attribute_nodes here in
      let ts = type_nodes here type in
      nodes_join (xs ++ ts) (DeclaratorNode [] 0 (declared here type d) ∷ []) (nodes_join xs ts (attributed here) (type_is here type x.0)) refl

-- ## Declarations

parameters_are : (c : Construct) (list : List Declared) (index : ℕ) (ps : List Parameter) → list_all parameter_named ps ≡ true → NodesNamed (parameter_nodes c list index ps)
parameters_are c list index [] h = refl
parameters_are c list index (p ∷ ps) h =
    let x = both (parameter_named p) (list_all parameter_named ps) h in
    let y = both (type_named p.type) (is_named p.declarator) x.0 in
    let here = parameter_construct c p in
    let xs = attribute_nodes here in
    let ts = type_nodes here p.type in
    nodes_join (xs ++ ts) (DeclaratorNode list index (declared here p.type p.declarator) ∷ parameter_nodes c list (index + 1) ps)
    (nodes_join xs ts (attributed here) (type_is here p.type y.0)) (parameters_are c list (index + 1) ps x.1)

parameters_declared : (c : Construct) (ps : List Parameter) → list_all parameter_named ps ≡ true → list_all is_declared (declared_parameters c ps) ≡ true
parameters_declared c [] h = refl
parameters_declared c (p ∷ ps) h =
    let x = both (parameter_named p) (list_all parameter_named ps) h in
    both_true (both (type_named p.type) (is_named p.declarator) x.0).1 (parameters_declared c ps x.1)

if_main : (b : Bool) (ns : List Node) → NodesNamed ns → NodesNamed (elim b [ true ↦ ns | false ↦ [] ])
if_main true ns h = h
if_main false ns h = refl

export_is : (is_main : Bool) (header : Construct) (e : Export) → export_named e ≡ true → NodesNamed (export_nodes is_main header e)
export_is is_main header (tree.Typedef at a pipe type ds) h =
    let here = inside header InTypedef at a in
    let xs = attribute_nodes here in
    let ss = switch_nodes here in
    let ts = type_nodes here type in
    nodes_join (xs ++ ss ++ ts) (map (typedef_node here pipe type) ds)
    (nodes_join (xs ++ ss) ts (nodes_join xs ss (attributed here) (switched here)) (type_is here type h)) (typedefs_are here pipe type ds)
export_is is_main header (tree.Const at type star name value) h = refl
export_is is_main header (tree.Tagged at a type) h =
    let here = inside header InTaggedType at a in
    let xs = attribute_nodes here in
    let ss = switch_nodes here in
    let ts = type_nodes here type in
    nodes_join (xs ++ ss ++ ts) (TypeNode here type ∷ [])
    (nodes_join (xs ++ ss) ts (nodes_join xs ss (attributed here) (switched here)) (type_is here type h)) refl
export_is is_main header (tree.Operation at a result name ps) h =
    let here = inside header InOperation at a in
    let list = parameters_of ps in
    let x = both (is_identifier name.octets) (type_named result && list_all parameter_named list) h in
    let y = both (type_named result) (list_all parameter_named list) x.1 in
    let xs = attribute_nodes here in
    let ts = type_nodes here result in
    let dd = DeclaratorNode [] 0 (result_of here result name) ∷ parameter_nodes here (declared_parameters here list) 0 list in
    if_main is_main (operation_nodes here result name list)
    (nodes_join (xs ++ ts ++ dd) (OperationNode here name (declared_parameters here list) result ∷ [])
    (nodes_join (xs ++ ts) dd (nodes_join xs ts (attributed here) (type_is here result y.0)) (parameters_are here (declared_parameters here list) 0 list y.1))
    (both_true (both_true x.0 (parameters_declared here list y.1)) refl))

exports_are : (is_main : Bool) (header : Construct) (es : List Export) → list_all export_named es ≡ true → NodesNamed (flat_map (export_nodes is_main header) es)
exports_are is_main header [] h = refl
exports_are is_main header (e ∷ es) h =
    let x = both (export_named e) (list_all export_named es) h in
    ap (list_all node_named) (flat_map-cons (export_nodes is_main header) e es)
    ∙ nodes_join (export_nodes is_main header e) (flat_map (export_nodes is_main header) es) (export_is is_main header e x.0) (exports_are is_main header es x.1)

file_is : (f : Ended) → ended_named f ≡ true → NodesNamed (file_nodes f)
file_is f h =
    let c = header_of f in
    nodes_join (HeaderNode c f.tree.attributes.at ∷ attribute_nodes c) (flat_map (export_nodes (eqb f.file 0) c) f.tree.exports) (attributed c)
    (exports_are (eqb f.file 0) c f.tree.exports (both (is_identifier f.tree.name.octets) (list_all export_named f.tree.exports) h).1)

files_are : (fs : List Ended) → list_all ended_named fs ≡ true → NodesNamed (flat_map file_nodes fs)
files_are [] h = refl
files_are (f ∷ fs) h =
    let x = both (ended_named f) (list_all ended_named fs) h in
    ap (list_all node_named) (flat_map-cons file_nodes f fs) ∙ nodes_join (file_nodes f) (flat_map file_nodes fs) (file_is f x.0) (files_are fs x.1)

-- ## The scene

abbrev pub IsScopedNamed : Scoped → Type 0
IsScopedNamed n = node_named n.node ≡ true

scoped_are : (known : Known) (names : Names) (ns : List Node) → NodesNamed ns → Each IsScopedNamed (scoped_from known names ns)
scoped_are known names [] h = tt
scoped_are known names (n ∷ ns) h =
    let x = both (node_named n) (list_all node_named ns) h in (x.0, scoped_are known (names_behind known names n) ns x.1)

nodes_are : (w : World) → list_all ended_named w.files ≡ true → NodesNamed (nodes w)
unfolding nodes
nodes_are w h = files_are w.files h

pub scene_named : (w : World) → list_all ended_named w.files ≡ true → Each IsScopedNamed (scene_of w).nodes
unfolding scene_of
scene_named w h = scoped_are w.known [] (nodes w) (nodes_are w h)
