-- What is beside the bodies and the operations of files, with the same names.
use Rattle.std.proofs.Common.{◌≡◌, ℕ, ◌+◌, Bool, true, false, inl, inr, List, [], ◌∷◌, ◌++◌, map, length, Option, Some, None, refl, sym, ap, arith, ◌∙◌, subst}
use Rattle.std.specs.Prelude.{eqb}
use Rattle.std.specs.List.{flat_map}
use Rattle.idl_grammar.specs.declared.types.SwitchType.{SwitchType}
use Rattle.idl_grammar.specs.declared.words.Spelling.{Spelling}
use Rattle.idl_grammar.specs.declared.types.Discriminant.{Discriminant}
use Rattle.idl_grammar.specs.Tree.{Attribute, Attributes, Declarator, Enumerator, TypeSpec, Members, Cases, Arms, Arm, Parameter, Export}
use Rattle.idl_grammar.specs.Tree as tree
use Rattle.idl_scope.specs.Known.{Ended, Known}
use Rattle.idl_scope.specs.Steps.{parameters_of}
use Rattle.idl_rule_definitions.specs.Nodes.{World, Construct, Position, InTypedef, InTaggedType, InMember, InParameter, InArm, InCasedArm, InOperation, inside, Declared, declared, ArmLabel, Node}
use Rattle.idl_rule_definitions.specs.Nodes.{HeaderNode, AttributeNode, SwitchNode, TagNode, BodyNode, EnumeratorNode, LabelNode, EmptyArmNode, DeclaratorNode, ConstantNode, TypeNode, OperationNode}
use Rattle.idl_rule_definitions.specs.Nodes.{attribute_nodes, attribute_nodes_from, switch_node, switch_nodes, declared_members, declared_parameters, parameter_construct, declarator_nodes, labels_of}
use Rattle.idl_rule_definitions.specs.Nodes.{label_nodes, type_nodes, member_nodes, case_nodes, arms_nodes, arm_nodes, parameter_nodes, typedef_node, result_of, operation_nodes, export_nodes}
use Rattle.idl_rule_definitions.specs.Nodes.{header_of, file_nodes, nodes}
use Rattle.idl_rule_definitions.specs.Attributes.{switch_type_in}
use Rattle.idl_rule_definitions.specs.Types.{IdlType, Names, type_of}
use Rattle.idl_rule_definitions.specs.Scene.{Scoped, scene_of, is_typedef, names_behind, scoped_from, parts_declared, tag_written}
use Rattle.idl_legal_laws.proofs.Among.{Among, among_left, among_right, Sub, sub_left, sub_right, sub_join, sub_map, Each, each_join}
use Rattle.nd_lemmas.proofs.Lists.{length_map as as_many}

-- ## What is beside a node

-- the type of a tag that is before the body
abbrev pub switch_of : Construct → TypeSpec → List Node
switch_of c (tree.NonEncapsulatedUnion at tag arms) = switch_node c (tag_written c (tree.NonEncapsulatedUnion at tag arms))
switch_of c _ = []

-- declarators that are in no list
abbrev pub lone : List Declared → List Node
lone ds = map (λ d. DeclaratorNode [] 0 d) ds

abbrev pub enumerator_nodes : Construct → List Enumerator → List Node
enumerator_nodes c es = map (λ e. EnumeratorNode c e.name) es

abbrev pub beside_body : Construct → TypeSpec → List Node
beside_body c (tree.Struct at tag ms) = declarator_nodes (declared_members c ms) 0 (declared_members c ms)
beside_body c (tree.EncapsulatedUnion at tag d name cases) =
    SwitchNode c d.of
    ∷ (label_nodes c (tree.EncapsulatedUnion at tag d name cases) [] (labels_of (tree.EncapsulatedUnion at tag d name cases))
    ++ lone (parts_declared c (tree.EncapsulatedUnion at tag d name cases)))
beside_body c (tree.NonEncapsulatedUnion at tag arms) =
    switch_of c (tree.NonEncapsulatedUnion at tag arms)
    ++ (label_nodes c (tree.NonEncapsulatedUnion at tag arms) [] (labels_of (tree.NonEncapsulatedUnion at tag arms))
    ++ lone (parts_declared c (tree.NonEncapsulatedUnion at tag arms)))
beside_body c (tree.Enum at tag es) = enumerator_nodes c es
beside_body c _ = []

-- the members, arms, labels, enumerators and tag of a body; the parameters and the result of an operation
abbrev pub beside : Node → List Node
beside (BodyNode c body) = beside_body c body
beside (OperationNode c name ps result) = DeclaratorNode [] 0 (result_of c result name) ∷ declarator_nodes ps 0 ps
beside _ = []

-- ## Within one declaration

abbrev Quiet : Node → Type 0
Quiet n = (known : Known) (names : Names) → names_behind known names n ≡ names

-- a node declares no name of a type, and what is beside it is in the list
abbrev Fine : List Node → Node → Type 0
Fine all n = Quiet n × Sub (beside n) all

attributes_fine : (all : List Node) (c : Construct) (before attributes : List Attribute) → Each (Fine all) (attribute_nodes_from c before attributes)
attributes_fine all c before [] = tt
attributes_fine all c before (a ∷ more) = ((λ known names. refl, λ x h. absurd h), attributes_fine all c (before ++ a ∷ []) more)

labels_fine : (all : List Node) (c : Construct) (body : TypeSpec) (before ls : List ArmLabel) → Each (Fine all) (label_nodes c body before ls)
labels_fine all c body before [] = tt
labels_fine all c body before (l ∷ ls) = ((λ known names. refl, λ x h. absurd h), labels_fine all c body (before ++ l ∷ []) ls)

enumerators_fine : (all : List Node) (c : Construct) (es : List Enumerator) → Each (Fine all) (enumerator_nodes c es)
enumerators_fine all c [] = tt
enumerators_fine all c (e ∷ es) = ((λ known names. refl, λ x h. absurd h), enumerators_fine all c es)

switch_fine : (all : List Node) (c : Construct) (o : Option SwitchType) → Each (Fine all) (switch_node c o)
switch_fine all c None = tt
switch_fine all c (Some t) = ((λ known names. refl, λ x h. absurd h), tt)

members_fine : (all : List Node) (list : List Declared) (index : ℕ) (c : Construct) (at : ℕ) (a : Option Attributes) (type : TypeSpec) (ds : List Declarator)
    → Each (Fine all) (declarator_nodes list index (map (declared (inside c InMember at a) type) ds))
members_fine all list index c at a type [] = tt
members_fine all list index c at a type (d ∷ ds) = ((λ known names. refl, λ x h. absurd h), members_fine all list (index + 1) c at a type ds)

-- ## Declarators of lists

further : (list : List Declared) (index : ℕ) (xs ys : List Declared)
    → declarator_nodes list index (xs ++ ys) ≡ declarator_nodes list index xs ++ declarator_nodes list (index + length xs) ys
further list index [] ys = let e : index ≡ index + 0 = omega (arith) in ap (λ i. declarator_nodes list i ys) e
further list index (x ∷ xs) ys =
    let e : (index + 1) + length xs ≡ index + length (x ∷ xs) = omega (arith) in
    ap (λ ns. DeclaratorNode list index x ∷ ns) (further list (index + 1) xs ys)
    ∙ ap (λ i. DeclaratorNode list index x ∷ (declarator_nodes list (index + 1) xs ++ declarator_nodes list i ys)) e

members_there : (c : Construct) (list : List Declared) (index : ℕ) (ms : Members) → Sub (declarator_nodes list index (declared_members c ms)) (member_nodes c list index ms)
members_there c list index tree.no_members = λ x h. absurd h
members_there c list index (tree.next_member at a type ds others) =
    let mine = map (declared (inside c InMember at a) type) ds in
    let here = declarator_nodes list index mine in
    let front = attribute_nodes (inside c InMember at a) ++ type_nodes (inside c InMember at a) type in
    let rest = member_nodes c list (index + length ds) others in
    let e = further list index mine (declared_members c others)
    ∙ ap (λ n. here ++ declarator_nodes list (index + n) (declared_members c others)) (as_many (declared (inside c InMember at a) type) ds) in
    subst (λ xs. Sub xs (front ++ here ++ rest)) (sym e)
    (sub_join here (declarator_nodes list (index + length ds) (declared_members c others)) (front ++ here ++ rest)
    (λ x i. among_left x (front ++ here) rest (among_right x front here i))
    (λ x i. among_right x (front ++ here) rest (members_there c list (index + length ds) others x i)))

arms_there : (c : Construct) (at : ℕ) (tag : Option Spelling) (arms : Arms) → Sub (lone (parts_declared c (tree.NonEncapsulatedUnion at tag arms))) (arms_nodes c arms)
arms_there c at tag tree.no_arms x h = absurd h
arms_there c at tag (tree.next_arm (tree.Empty at_arm a) others) x h =
    among_right x (arm_nodes c InCasedArm (tree.Empty at_arm a)) (arms_nodes c others) (arms_there c at tag others x h)
arms_there c at tag (tree.next_arm (tree.Typed at_arm a type d) others) x (inl e) =
    among_left x (arm_nodes c InCasedArm (tree.Typed at_arm a type d)) (arms_nodes c others)
    (among_right x (attribute_nodes (inside c InCasedArm at_arm a) ++ type_nodes (inside c InCasedArm at_arm a) type)
    (DeclaratorNode [] 0 (declared (inside c InCasedArm at_arm a) type d) ∷ []) (inl e))
arms_there c at tag (tree.next_arm (tree.Typed at_arm a type d) others) x (inr h) =
    among_right x (arm_nodes c InCasedArm (tree.Typed at_arm a type d)) (arms_nodes c others) (arms_there c at tag others x h)

cases_there : (c : Construct) (at : ℕ) (tag : Option Spelling) (d : Discriminant) (name : Option Spelling) (cases : Cases)
    → Sub (lone (parts_declared c (tree.EncapsulatedUnion at tag d name cases))) (case_nodes c cases)
cases_there c at tag d name tree.no_cases x h = absurd h
cases_there c at tag d name (tree.next_case labels (tree.Empty at_arm a) others) x h =
    among_right x (arm_nodes c InArm (tree.Empty at_arm a)) (case_nodes c others) (cases_there c at tag d name others x h)
cases_there c at tag d name (tree.next_case labels (tree.Typed at_arm a type dd) others) x (inl e) =
    among_left x (arm_nodes c InArm (tree.Typed at_arm a type dd)) (case_nodes c others)
    (among_right x (attribute_nodes (inside c InArm at_arm a) ++ type_nodes (inside c InArm at_arm a) type)
    (DeclaratorNode [] 0 (declared (inside c InArm at_arm a) type dd) ∷ []) (inl e))
cases_there c at tag d name (tree.next_case labels (tree.Typed at_arm a type dd) others) x (inr h) =
    among_right x (arm_nodes c InArm (tree.Typed at_arm a type dd)) (case_nodes c others) (cases_there c at tag d name others x h)

-- ## Types

abbrev Nested : List Node → Construct → Position → Type 0
Nested all c position = (at : ℕ) (a : Option Attributes) (t : TypeSpec) → Sub (switch_of (inside c position at a) t) all

in_member : (all : List Node) (c : Construct) → Nested all c InMember
in_member all c at a (tree.NonEncapsulatedUnion at_body tag arms) x h = absurd h
in_member all c at a _ x h = absurd h

in_arm : (all : List Node) (c : Construct) → Nested all c InArm
in_arm all c at a (tree.NonEncapsulatedUnion at_body tag arms) x h = absurd h
in_arm all c at a _ x h = absurd h

in_cased_arm : (all : List Node) (c : Construct) → Nested all c InCasedArm
in_cased_arm all c at a (tree.NonEncapsulatedUnion at_body tag arms) x h = absurd h
in_cased_arm all c at a _ x h = absurd h

in_parameter : (all : List Node) (c : Construct) → Nested all c InParameter
in_parameter all c at a (tree.NonEncapsulatedUnion at_body tag arms) x h = absurd h
in_parameter all c at a _ x h = absurd h

in_operation : (all : List Node) (c : Construct) → Nested all c InOperation
in_operation all c at a (tree.NonEncapsulatedUnion at_body tag arms) x h = absurd h
in_operation all c at a _ x h = absurd h

quiet_by : (known : Known) (names : Names) (d : Declared) (b : Bool) → b ≡ false
    → elim b [ true ↦ names ++ (d.declarator.name.octets, type_of known names d) ∷ [] | false ↦ names ] ≡ names
quiet_by known names d true e = absurd (cc)
quiet_by known names d false e = refl

first_one : (x n : Node) (ns : List Node) → Among x (n ∷ []) → Among x (n ∷ ns)
first_one x n ns (inl e) = inl e
first_one x n ns (inr h) = absurd h

mutual
  type_fine : (all : List Node) (c : Construct) (t : TypeSpec) → Sub (switch_of c t) all → Sub (type_nodes c t) all → Each (Fine all) (type_nodes c t)
  type_fine all c (tree.Simple s) w h = tt
  type_fine all c (tree.Name n) w h = tt
  type_fine all c (tree.Tag at kind tag) w h = ((λ known names. refl, λ x i. absurd i), tt)
  type_fine all c (tree.Struct at tag ms) w h =
      ((λ known names. refl, λ x i. h x (inr (members_there c (declared_members c ms) 0 ms x i))), all_members_fine all c (declared_members c ms) 0 ms (λ x i. h x (inr i)))
  type_fine all c (tree.EncapsulatedUnion at tag d name cases) w h =
      let body = tree.EncapsulatedUnion at tag d name cases in
      let labels = label_nodes c body [] (labels_of body) in
      let behind : Sub (labels ++ case_nodes c cases) all = λ x i. h x (inr (inr i)) in (
        (
          λ known names. refl,
          sub_join (SwitchNode c d.of ∷ []) (labels ++ lone (parts_declared c body)) all (λ x i. h x (inr (first_one x (SwitchNode c d.of) (labels ++ case_nodes c cases) i)))
              (sub_join labels (lone (parts_declared c body)) all (sub_left labels (case_nodes c cases) all behind)
              (λ x i. sub_right labels (case_nodes c cases) all behind x (cases_there c at tag d name cases x i))),
        ),
        (
          (λ known names. refl, λ x i. absurd i),
          each_join (Fine all) labels (case_nodes c cases) (labels_fine all c body [] (labels_of body)) (cases_fine all c cases (sub_right labels (case_nodes c cases) all behind)),
        ),
      )
  type_fine all c (tree.NonEncapsulatedUnion at tag arms) w h =
      let body = tree.NonEncapsulatedUnion at tag arms in
      let labels = label_nodes c body [] (labels_of body) in
      let behind : Sub (labels ++ arms_nodes c arms) all = λ x i. h x (inr i) in (
        (
          λ known names. refl,
          sub_join (switch_of c body) (labels ++ lone (parts_declared c body)) all w
              (sub_join labels (lone (parts_declared c body)) all (sub_left labels (arms_nodes c arms) all behind)
              (λ x i. sub_right labels (arms_nodes c arms) all behind x (arms_there c at tag arms x i))),
        ),
        each_join (Fine all) labels (arms_nodes c arms) (labels_fine all c body [] (labels_of body)) (arms_fine all c arms (sub_right labels (arms_nodes c arms) all behind)),
      )
  type_fine all c (tree.Enum at tag es) w h = ((λ known names. refl, λ x i. h x (inr i)), enumerators_fine all c es)

  all_members_fine : (all : List Node) (c : Construct) (list : List Declared) (index : ℕ) (ms : Members) → Sub (member_nodes c list index ms) all
      → Each (Fine all) (member_nodes c list index ms)
  all_members_fine all c list index tree.no_members h = tt
  all_members_fine all c list index (tree.next_member at a type ds others) h =
      let cc_ = inside c InMember at a in
      let a_ = attribute_nodes cc_ in
      let t_ = type_nodes cc_ type in
      let d_ = declarator_nodes list index (map (declared cc_ type) ds) in
      let m_ = member_nodes c list (index + length ds) others in
      each_join (Fine all) (a_ ++ t_ ++ d_) m_
      (each_join (Fine all) (a_ ++ t_) d_
      (each_join (Fine all) a_ t_ (attributes_fine all cc_ [] cc_.attributes)
      (type_fine all cc_ type (in_member all c at a type) (sub_right a_ t_ all (sub_left (a_ ++ t_) d_ all (sub_left (a_ ++ t_ ++ d_) m_ all h)))))
      (members_fine all list index c at a type ds))
      (all_members_fine all c list (index + length ds) others (sub_right (a_ ++ t_ ++ d_) m_ all h))

  cases_fine : (all : List Node) (c : Construct) (cases : Cases) → Sub (case_nodes c cases) all → Each (Fine all) (case_nodes c cases)
  cases_fine all c tree.no_cases h = tt
  cases_fine all c (tree.next_case labels arm others) h =
      each_join (Fine all) (arm_nodes c InArm arm) (case_nodes c others)
      (arm_fine all c InArm arm refl (in_arm all c) (sub_left (arm_nodes c InArm arm) (case_nodes c others) all h))
      (cases_fine all c others (sub_right (arm_nodes c InArm arm) (case_nodes c others) all h))

  arms_fine : (all : List Node) (c : Construct) (arms : Arms) → Sub (arms_nodes c arms) all → Each (Fine all) (arms_nodes c arms)
  arms_fine all c tree.no_arms h = tt
  arms_fine all c (tree.next_arm arm others) h =
      each_join (Fine all) (arm_nodes c InCasedArm arm) (arms_nodes c others)
      (arm_fine all c InCasedArm arm refl (in_cased_arm all c) (sub_left (arm_nodes c InCasedArm arm) (arms_nodes c others) all h))
      (arms_fine all c others (sub_right (arm_nodes c InCasedArm arm) (arms_nodes c others) all h))

  arm_fine : (all : List Node) (c : Construct) (position : Position) (arm : Arm) → is_typedef position ≡ false → Nested all c position → Sub (arm_nodes c position arm) all
      → Each (Fine all) (arm_nodes c position arm)
  arm_fine all c position (tree.Empty at a) e nested h =
      each_join (Fine all) (attribute_nodes (inside c position at a)) (EmptyArmNode (inside c position at a) ∷ [])
      (attributes_fine all (inside c position at a) [] (inside c position at a).attributes) ((λ known names. refl, λ x i. absurd i), tt)
  arm_fine all c position (tree.Typed at a type d) e nested h =
      let cc_ = inside c position at a in
      let a_ = attribute_nodes cc_ in
      let t_ = type_nodes cc_ type in
      let d_ = DeclaratorNode [] 0 (declared cc_ type d) ∷ [] in
      each_join (Fine all) (a_ ++ t_) d_
      (each_join (Fine all) a_ t_ (attributes_fine all cc_ [] cc_.attributes) (type_fine all cc_ type (nested at a type) (sub_right a_ t_ all (sub_left (a_ ++ t_) d_ all h))))
      ((λ known names. quiet_by known names (declared cc_ type d) (is_typedef position) e, λ x i. absurd i), tt)

-- ## Scenes

abbrev pub scope : Names → Node → Scoped
scope names n = record { names = names; node = n }

-- what is beside a node is in the scene, with the same names
abbrev pub Good : List Scoped → Scoped → Type 0
Good total n = Sub (map (scope n.names) (beside n.node)) total

abbrev Whole : List Node → Type 0
Whole ns = (known : Known) (names : Names) (total : List Scoped) → Sub (scoped_from known names ns) total → Each (Good total) (scoped_from known names ns)

-- the names after a list
abbrev behind_all : Known → Names → List Node → Names
behind_all known names [] = names
behind_all known names (n ∷ ns) = behind_all known (names_behind known names n) ns

scoped_join : (known : Known) (names : Names) (xs ys : List Node)
    → scoped_from known names (xs ++ ys) ≡ scoped_from known names xs ++ scoped_from known (behind_all known names xs) ys
scoped_join known names [] ys = refl
scoped_join known names (x ∷ xs) ys = ap (λ ns. scope names x ∷ ns) (scoped_join known (names_behind known names x) xs ys)

whole_join : (xs ys : List Node) → Whole xs → Whole ys → Whole (xs ++ ys)
whole_join xs ys h i known names total sub =
    let e = scoped_join known names xs ys in
    let front = scoped_from known names xs in
    let back = scoped_from known (behind_all known names xs) ys in
    let sub_both : Sub (front ++ back) total = subst (λ ns. Sub ns total) e sub in
    subst (Each (Good total)) (sym e)
    (each_join (Good total) front back (h known names total (sub_left front back total sub_both)) (i known (behind_all known names xs) total (sub_right front back total sub_both)))

whole_none : Whole []
whole_none known names total sub = tt

whole_flat : {X : Type 0} (f : X → List Node) → ((x : X) → Whole (f x)) → (xs : List X) → Whole (flat_map f xs)
whole_flat f h [] = whole_none
whole_flat f h (x ∷ xs) = whole_join (f x) (flat_map f xs) (h x) (whole_flat f h xs)

same_names : (all : List Node) (known : Known) (names : Names) (xs : List Node) → Each (Fine all) xs → scoped_from known names xs ≡ map (scope names) xs
same_names all known names [] h = refl
same_names all known names (x ∷ xs) h =
    ap (λ ns. scope names x ∷ scoped_from known ns xs) (h.0.0 known names) ∙ ap (λ ns. scope names x ∷ ns) (same_names all known names xs h.1)

good_all : (all : List Node) (names : Names) (total : List Scoped) → Sub (map (scope names) all) total → (xs : List Node) → Each (Fine all) xs → Each (Good total) (map (scope names) xs)
good_all all names total sub [] h = tt
good_all all names total sub (x ∷ xs) h = (λ n i. sub n (sub_map (scope names) (beside x) all h.0.1 n i), good_all all names total sub xs h.1)

-- a list within which all is beside
whole_fine : (xs : List Node) → Each (Fine xs) xs → Whole xs
whole_fine xs h known names total sub =
    let e = same_names xs known names xs h in
    subst (Each (Good total)) (sym e) (good_all xs names total (subst (λ ns. Sub ns total) e sub) xs h)

-- a list of which nothing is beside any
abbrev Bare : Node → Type 0
Bare n = beside n ≡ []

whole_bare : (xs : List Node) → Each Bare xs → Whole xs
whole_bare [] h known names total sub = tt
whole_bare (x ∷ xs) h known names total sub =
    (λ n i. absurd (subst (λ ns. Among n (map (scope names) ns)) h.0 i), whole_bare xs h.1 known (names_behind known names x) total (λ n i. sub n (inr i)))

typedefs_bare : (c : Construct) (pipe : Bool) (type : TypeSpec) (ds : List Declarator) → Each Bare (map (typedef_node c pipe type) ds)
typedefs_bare c pipe type [] = tt
typedefs_bare c pipe type (d ∷ ds) = (refl, typedefs_bare c pipe type ds)

-- ## Declarations

-- a type of a declaration with its attributes and its switch_type
head_fine : (c : Construct) (type : TypeSpec) → ((all : List Node) → Sub (switch_nodes c) all → Sub (switch_of c type) all)
    → Each (Fine (attribute_nodes c ++ switch_nodes c ++ type_nodes c type)) (attribute_nodes c ++ switch_nodes c ++ type_nodes c type)
head_fine c type f =
    let a_ = attribute_nodes c in
    let s_ = switch_nodes c in
    let t_ = type_nodes c type in
    let all = a_ ++ s_ ++ t_ in
    each_join (Fine all) (a_ ++ s_) t_
    (each_join (Fine all) a_ s_ (attributes_fine all c [] c.attributes) (switch_fine all c (switch_type_in c.attributes)))
    (type_fine all c type (f all (λ x i. among_left x (a_ ++ s_) t_ (among_right x a_ s_ i))) (λ x i. among_right x (a_ ++ s_) t_ i))

typedef_switch : (header : Construct) (at : ℕ) (a : Option Attributes) (t : TypeSpec) (all : List Node) → Sub (switch_nodes (inside header InTypedef at a)) all
    → Sub (switch_of (inside header InTypedef at a) t) all
typedef_switch header at a (tree.NonEncapsulatedUnion at_body tag arms) all h = h
typedef_switch header at a _ all h = λ x i. absurd i

tagged_switch : (header : Construct) (at : ℕ) (a : Option Attributes) (t : TypeSpec) (all : List Node) → Sub (switch_nodes (inside header InTaggedType at a)) all
    → Sub (switch_of (inside header InTaggedType at a) t) all
tagged_switch header at a (tree.NonEncapsulatedUnion at_body tag arms) all h = h
tagged_switch header at a _ all h = λ x i. absurd i

parameters_there : (c : Construct) (list : List Declared) (index : ℕ) (ps : List Parameter) → Sub (declarator_nodes list index (declared_parameters c ps)) (parameter_nodes c list index ps)
parameters_there c list index [] x h = absurd h
parameters_there c list index (p ∷ ps) x (inl e) =
    among_right x (attribute_nodes (parameter_construct c p) ++ type_nodes (parameter_construct c p) p.type)
    (DeclaratorNode list index (declared (parameter_construct c p) p.type p.declarator) ∷ parameter_nodes c list (index + 1) ps) (inl e)
parameters_there c list index (p ∷ ps) x (inr h) =
    among_right x (attribute_nodes (parameter_construct c p) ++ type_nodes (parameter_construct c p) p.type)
    (DeclaratorNode list index (declared (parameter_construct c p) p.type p.declarator) ∷ parameter_nodes c list (index + 1) ps)
    (inr (parameters_there c list (index + 1) ps x h))

parameters_fine : (all : List Node) (c : Construct) (list : List Declared) (index : ℕ) (ps : List Parameter) → Sub (parameter_nodes c list index ps) all
    → Each (Fine all) (parameter_nodes c list index ps)
parameters_fine all c list index [] h = tt
parameters_fine all c list index (p ∷ ps) h =
    let cc_ = parameter_construct c p in
    let a_ = attribute_nodes cc_ in
    let t_ = type_nodes cc_ p.type in
    let d_ = DeclaratorNode list index (declared cc_ p.type p.declarator) in
    let r_ = parameter_nodes c list (index + 1) ps in
    each_join (Fine all) (a_ ++ t_) (d_ ∷ r_)
    (each_join (Fine all) a_ t_ (attributes_fine all cc_ [] cc_.attributes)
    (type_fine all cc_ p.type (in_parameter all c p.at p.attributes p.type) (sub_right a_ t_ all (sub_left (a_ ++ t_) (d_ ∷ r_) all h))))
    ((λ known names. refl, λ x i. absurd i), parameters_fine all c list (index + 1) ps (λ x i. sub_right (a_ ++ t_) (d_ ∷ r_) all h x (inr i)))

operation_fine : (header : Construct) (at : ℕ) (a : Option Attributes) (result : TypeSpec) (name : Spelling) (ps : List Parameter)
    → Each (Fine (operation_nodes (inside header InOperation at a) result name ps)) (operation_nodes (inside header InOperation at a) result name ps)
operation_fine header at a result name ps =
    let c = inside header InOperation at a in
    let list = declared_parameters c ps in
    let a_ = attribute_nodes c in
    let t_ = type_nodes c result in
    let d_ = DeclaratorNode [] 0 (result_of c result name) in
    let p_ = parameter_nodes c list 0 ps in
    let o_ = OperationNode c name list result in
    let all = operation_nodes c result name ps in
    each_join (Fine all) (a_ ++ t_ ++ (d_ ∷ p_)) (o_ ∷ [])
    (each_join (Fine all) (a_ ++ t_) (d_ ∷ p_)
    (each_join (Fine all) a_ t_ (attributes_fine all c [] c.attributes)
    (type_fine all c result (in_operation all header at a result) (λ x i. among_left x (a_ ++ t_ ++ (d_ ∷ p_)) (o_ ∷ []) (among_left x (a_ ++ t_) (d_ ∷ p_) (among_right x a_ t_ i))))) (
      (λ known names. refl, λ x i. absurd i),
      parameters_fine all c list 0 ps (λ x i. among_left x (a_ ++ t_ ++ (d_ ∷ p_)) (o_ ∷ []) (among_right x (a_ ++ t_) (d_ ∷ p_) (inr i))),
    )) (
      (
        λ known names. refl,
        sub_join (d_ ∷ []) (declarator_nodes list 0 list) all
            (λ x i. among_left x (a_ ++ t_ ++ (d_ ∷ p_)) (o_ ∷ []) (among_right x (a_ ++ t_) (d_ ∷ p_) (first_one x d_ p_ i)))
            (λ x i. among_left x (a_ ++ t_ ++ (d_ ∷ p_)) (o_ ∷ []) (among_right x (a_ ++ t_) (d_ ∷ p_) (inr (parameters_there c list 0 ps x i)))),
      ),
      tt,
    )

export_whole : (is_main : Bool) (header : Construct) (e : Export) → Whole (export_nodes is_main header e)
export_whole is_main header (tree.Typedef at a pipe type ds) =
    let c = inside header InTypedef at a in
    let xs = attribute_nodes c ++ switch_nodes c ++ type_nodes c type in
    whole_join xs (map (typedef_node c pipe type) ds) (whole_fine xs (head_fine c type (typedef_switch header at a type)))
    (whole_bare (map (typedef_node c pipe type) ds) (typedefs_bare c pipe type ds))
export_whole is_main header (tree.Const at type star name value) = whole_bare (ConstantNode (inside header InTypedef at None) type star value ∷ []) (refl, tt)
export_whole is_main header (tree.Tagged at a type) =
    let c = inside header InTaggedType at a in
    let xs = attribute_nodes c ++ switch_nodes c ++ type_nodes c type in
    whole_join xs (TypeNode c type ∷ []) (whole_fine xs (head_fine c type (tagged_switch header at a type))) (whole_bare (TypeNode c type ∷ []) (refl, tt))
export_whole true header (tree.Operation at a result name ps) =
    whole_fine (operation_nodes (inside header InOperation at a) result name (parameters_of ps)) (operation_fine header at a result name (parameters_of ps))
export_whole false header (tree.Operation at a result name ps) = whole_none

file_whole : (f : Ended) → Whole (file_nodes f)
file_whole f =
    let c = header_of f in
    let xs = HeaderNode c f.tree.attributes.at ∷ attribute_nodes c in
    whole_join xs (flat_map (export_nodes (eqb f.file 0) c) f.tree.exports)
    (whole_fine xs ((λ known names. refl, λ x i. absurd i), attributes_fine xs c [] c.attributes))
    (whole_flat (export_nodes (eqb f.file 0) c) (export_whole (eqb f.file 0) c) f.tree.exports)

-- what is beside a node of files is in their scene, with the same names
pub whole : (w : World) → Each (Good (scene_of w).nodes) (scene_of w).nodes
unfolding scene_of nodes
whole w = whole_flat file_nodes file_whole w.files w.known [] (scoped_from w.known [] (nodes w)) (λ n i. i)

-- ## Names

abbrev pub NamesKeep : (IdlType → Type 0) → Names → Type 0
NamesKeep P names = Each (λ e. P e.1) names

abbrev pub Declares : List Scoped → Known → (IdlType → Type 0) → Type 0
Declares total known P =
    (names : Names) (list : List Declared) (index : ℕ) (d : Declared) → Among (scope names (DeclaratorNode list index d)) total → NamesKeep P names → P (type_of known names d)

typedef_kept : (known : Known) (P : IdlType → Type 0) (names : Names) (d : Declared) (b : Bool) → NamesKeep P names → P (type_of known names d)
    → NamesKeep P (elim b [ true ↦ names ++ (d.declarator.name.octets, type_of known names d) ∷ [] | false ↦ names ])
typedef_kept known P names d true h i = each_join (λ e. P e.1) names ((d.declarator.name.octets, type_of known names d) ∷ []) h (i, tt)
typedef_kept known P names d false h i = h

names_step : (total : List Scoped) (known : Known) (P : IdlType → Type 0) → Declares total known P → (names : Names) (n : Node) → Among (scope names n) total → NamesKeep P names
    → NamesKeep P (names_behind known names n)
names_step total known P f names (DeclaratorNode list index d) i h = typedef_kept known P names d (is_typedef d.construct.position) h (f names list index d i h)
names_step total known P f names (HeaderNode c at) i h = h
names_step total known P f names (AttributeNode c before a) i h = h
names_step total known P f names (SwitchNode c t) i h = h
names_step total known P f names (TagNode c kind tag) i h = h
names_step total known P f names (BodyNode c body) i h = h
names_step total known P f names (EnumeratorNode c name) i h = h
names_step total known P f names (LabelNode c body before l) i h = h
names_step total known P f names (EmptyArmNode c) i h = h
names_step total known P f names (ConstantNode c t star value) i h = h
names_step total known P f names (TypeNode c t) i h = h
names_step total known P f names (OperationNode c name ps result) i h = h

names_kept : (total : List Scoped) (known : Known) (P : IdlType → Type 0) → Declares total known P → (names : Names) (ns : List Node) → Sub (scoped_from known names ns) total
    → NamesKeep P names → Each (λ n. NamesKeep P n.names) (scoped_from known names ns)
names_kept total known P f names [] sub h = tt
names_kept total known P f names (n ∷ ns) sub h =
    (h, names_kept total known P f (names_behind known names n) ns (λ m i. sub m (inr i)) (names_step total known P f names n (sub (scope names n) (inl refl)) h))

-- what holds of a declarator's type if it holds of the types that are named before holds of all types that are named
pub named : (w : World) (P : IdlType → Type 0) → Declares (scene_of w).nodes w.known P → Each (λ n. NamesKeep P n.names) (scene_of w).nodes
unfolding scene_of
named w P f = names_kept (scoped_from w.known [] (nodes w)) w.known P f [] (nodes w) (λ n i. i) tt
