-- What rule 39 counts, by the nodes of the program.
use Rattle.std.proofs.Common.{◌≡◌, ◌∙◌, ℕ, zero, suc, List, [], ◌∷◌, ◌++◌, Option, Some, drop, map, length, replicate, append-nil, refl, ap, ap₂, sym, Vec}
use Rattle.std.specs.List.{flat_map}
use Rattle.std.proofs.lemmas.List.Concat.{flat_map-cons}
use Rattle.std.proofs.lemmas.Grind.{flat_map-append}
use Rattle.std.proofs.lemmas.List.{map-append}
use Rattle.idl_grammar.specs.Tree.{Attribute, TypeSpec, Enumerator}
use Rattle.idl_grammar.specs.Seen.{seen_type, seen_enumerator}
use Rattle.idl_scope.specs.Known.{Known}
use Rattle.idl_declared_types.specs.declared.kinds.Kind.{Kind}
use Rattle.idl_declared_types.specs.declared.numbering.Own.{Own}
use Rattle.idl_declared_types.specs.declared.numbering.Numbers.{Numbers}
use Rattle.idl_constructs.specs.declared.nodes.Declared as declared
use Rattle.idl_constructs.specs.declared.nodes.Returned as returned
use Rattle.idl_constructs.specs.declared.nodes.Node as program_node
use Rattle.idl_constructs.specs.declared.nodes.Node.TheVariants as node
use Rattle.idl_constructs.specs.declared.nodes.Nodes as program_nodes
use Rattle.idl_rule_definitions.specs.Nodes.{World, Construct, Position, InMember, Node, AttributeNode, EnumeratorNode, LabelNode, ArmLabel, attribute_nodes_from, label_nodes, labels_of}
use Rattle.idl_rule_definitions.specs.Noted.{noted}
use Rattle.idl_rule_definitions.specs.Rules.{Breach, breach}
use Rattle.idl_rule_definitions.specs.Types.{Names}
use Rattle.idl_rule_definitions.specs.Scene.{Scene, scoped_from, names_behind}
use Rattle.idl_rule_definitions.specs.Numbering.{Needed, own_types}
use Rattle.idl_rule_definitions.specs.DeclarationRules.{first_past, operation_in, parameters_in, member_of, part_in}
use Rattle.idl_constructs.specs.SeenNodes.{seen_construct, seen_declared, seen_result, seen_node, seen_nodes, list_found, list_at, or_empty}
use Rattle.idl_declared_types.specs.SeenTypes.{scene_seen}
use Rattle.idl_declared_types.specs.SeenNumbers.{seen_own, seen_needed, AreNumbers}
use Rattle.idl_value_rules.specs.SeenCounts.{numbered, one_too_many, operations_at, parameters_at, parts_at}
use Rattle.idl_rule_definitions.proofs.Noted.{noted_more}
use Rattle.idl_value_rules.proofs.Passes.{drop_none, none_past, none_numbered}
use Rattle.idl_rule_definitions.specs.declared.rule.TheConstants as Rule

-- ## Parameters of one operation

by_past : (n : ℕ) (ds : List declared.Declared)
    → map one_too_many (first_past n (map (λ p. p.construct) (map seen_declared ds))) ≡ map (λ d. one_too_many (seen_construct d.construct)) (first_past n ds)
by_past zero [] = refl
by_past zero (d ∷ ds) = refl
by_past (suc n) [] = refl
by_past (suc n) (d ∷ ds) = by_past n ds

pub parameters_are : {A : Type 0} (lists : List (Vec declared.Declared A)) (limit : ℕ) (n : program_node.Node) (it : returned.Returned) (p : ℕ) (ds : List declared.Declared)
    → n ≡ node.Operation it p → Some (map seen_declared ds) ≡ list_found lists p
    → map (λ d. one_too_many (seen_construct d.construct)) (first_past limit ds) ≡ map one_too_many (parameters_at lists limit n)
parameters_are lists limit n it p ds e h =
    sym (ap (λ m. map one_too_many (parameters_at lists limit m)) e
    ∙ ap (λ l. map one_too_many (first_past limit (map (λ q. q.construct) (or_empty l)))) (sym h)
    ∙ by_past limit ds)

-- ## Types

pub types_are : (ks : List Kind) (n : ℕ) (firsts : List Needed) (os : List Own) → map seen_needed firsts ≡ map (seen_own ks) os
    → map one_too_many (first_past n (map (λ m. m.construct) firsts)) ≡ map (λ o. breach Rule.COUNTS o.place) (first_past n os)
types_are ks n [] [] e = ap (map one_too_many) (none_past n [] refl) ∙ sym (ap (map (λ (o : Own). breach Rule.COUNTS o.place)) (none_past n [] refl))
types_are ks n [] (o ∷ os) e = absurd (let f : [] ≡ seen_own ks o ∷ map (seen_own ks) os = e in cc)
types_are ks n (m ∷ ms) [] e = absurd (let f : seen_needed m ∷ map seen_needed ms ≡ [] = e in cc)
types_are ks zero (m ∷ ms) (o ∷ os) e =
    let f : seen_needed m ≡ seen_own ks o = cc in
    ap (λ r. breach Rule.COUNTS r.1 ∷ []) f
types_are ks (suc n) (m ∷ ms) (o ∷ os) e = let g : map seen_needed ms ≡ map (seen_own ks) os = cc in types_are ks n ms os g

-- ## Nodes

-- what is asked of nodes alone needs no names
pub scoped_is : {X : Type 0} (of : Node → List X) (known : Known) (names : Names) (ns : List Node) → flat_map (λ n. of n.node) (scoped_from known names ns) ≡ flat_map of ns
scoped_is of known names [] = refl
scoped_is of known names (n ∷ ns) =
    flat_map-cons (λ m. of m.node) (record { names = names; node = n }) (scoped_from known (names_behind known names n) ns)
    ∙ ap (λ l. of n ++ l) (scoped_is of known (names_behind known names n) ns)
    ∙ sym (flat_map-cons of n ns)

pub seen_is : {A X : Type 0} (lists : List (Vec declared.Declared A)) (of : Node → List X) (at : program_node.Node → List X)
    → ((n : program_node.Node) → flat_map of (seen_node lists n) ≡ at n) → (ns : List program_node.Node) → flat_map of (flat_map (seen_node lists) ns) ≡ flat_map at ns
seen_is lists of at h [] = refl
seen_is lists of at h (n ∷ ns) =
    ap (flat_map of) (flat_map-cons (seen_node lists) n ns) ∙ flat_map-append of (seen_node lists n) (flat_map (seen_node lists) ns)
    ∙ ap₂ (λ l k. l ++ k) (h n) (seen_is lists of at h ns) ∙ sym (flat_map-cons at n ns)

attributes_none : (c : Construct) (before more : List Attribute) → flat_map operation_in (attribute_nodes_from c before more) ≡ []
attributes_none c before [] = refl
attributes_none c before (a ∷ more) = attributes_none c (before ++ a ∷ []) more

enumerators_none : (c : Construct) (es : List Enumerator) → flat_map operation_in (map (λ e. EnumeratorNode c e.name) es) ≡ []
enumerators_none c [] = refl
enumerators_none c (e ∷ es) = enumerators_none c es

labels_none : (c : Construct) (body : TypeSpec) (before ls : List ArmLabel) → flat_map operation_in (label_nodes c body before ls) ≡ []
labels_none c body before [] = refl
labels_none c body before (l ∷ ls) = labels_none c body (before ++ l ∷ []) ls

pub operations_of : {A : Type 0} (lists : List (Vec declared.Declared A)) (n : program_node.Node) → flat_map operation_in (seen_node lists n) ≡ operations_at n
operations_of lists (node.Attributes c) = attributes_none (seen_construct c) [] (seen_construct c).attributes
operations_of lists (node.Enumerators c list) = enumerators_none (seen_construct c) (map seen_enumerator list.now)
operations_of lists (node.Labels c body) = labels_none (seen_construct c) (seen_type body.now) [] (labels_of (seen_type body.now))
operations_of lists _ = refl

attributes_no_part : (c : Construct) (before more : List Attribute) → flat_map part_in (attribute_nodes_from c before more) ≡ []
attributes_no_part c before [] = refl
attributes_no_part c before (a ∷ more) = attributes_no_part c (before ++ a ∷ []) more

enumerators_no_part : (c : Construct) (es : List Enumerator) → flat_map part_in (map (λ e. EnumeratorNode c e.name) es) ≡ []
enumerators_no_part c [] = refl
enumerators_no_part c (e ∷ es) = enumerators_no_part c es

label_parts : (c : Construct) (body : TypeSpec) (before ls : List ArmLabel) → flat_map part_in (label_nodes c body before ls) ≡ replicate (length ls) c
label_parts c body before [] = refl
label_parts c body before (l ∷ ls) = ap (λ k. c ∷ k) (label_parts c body (before ++ l ∷ []) ls)

-- a result is a member in no place but its own
pub member_alike : (p : Position) (due : ℕ) (c d : Construct) → one_too_many c ≡ one_too_many d
    → map one_too_many (numbered due (member_of p c)) ≡ map one_too_many (numbered due (member_of p d))
member_alike InMember zero c d e = refl
member_alike InMember (suc zero) c d e = ap (λ b. b ∷ []) e
member_alike InMember (suc (suc due)) c d e = ap (map one_too_many) (none_past due [] refl) ∙ sym (ap (map one_too_many) (none_past due [] refl))
member_alike _ due c d e = refl

pub parts_of : {A : Type 0} (lists : List (Vec declared.Declared A)) (n : program_node.Node) → flat_map part_in (seen_node lists n) ≡ parts_at n
parts_of lists (node.Attributes c) = attributes_no_part (seen_construct c) [] (seen_construct c).attributes
parts_of lists (node.Enumerators c list) = enumerators_no_part (seen_construct c) (map seen_enumerator list.now)
parts_of lists (node.Labels c body) = label_parts (seen_construct c) (seen_type body.now) [] (labels_of (seen_type body.now))
parts_of lists (node.Declarator list index it) = append-nil (member_of (seen_construct it.construct).position (seen_construct it.construct))
parts_of lists (node.Result it) = append-nil (member_of (seen_result it).construct.position (seen_result it).construct)
parts_of lists _ = refl

-- the first parameter of a node past a limit
abbrev pub parameter_past : ℕ → Node → List Construct
parameter_past limit n = first_past limit (parameters_in n)

no_parameters : (limit : ℕ) (n : Node) (more : List Node) → parameters_in n ≡ [] → flat_map (parameter_past limit) more ≡ [] → flat_map (parameter_past limit) (n ∷ more) ≡ []
no_parameters limit n more e h = flat_map-cons (parameter_past limit) n more ∙ ap₂ (λ l k. l ++ k) (none_past limit (parameters_in n) e) h

attributes_no_parameter : (limit : ℕ) (c : Construct) (before more : List Attribute) → flat_map (parameter_past limit) (attribute_nodes_from c before more) ≡ []
attributes_no_parameter limit c before [] = refl
attributes_no_parameter limit c before (a ∷ more) =
    no_parameters limit (AttributeNode c before a) (attribute_nodes_from c (before ++ a ∷ []) more) refl (attributes_no_parameter limit c (before ++ a ∷ []) more)

enumerators_no_parameter : (limit : ℕ) (c : Construct) (es : List Enumerator) → flat_map (parameter_past limit) (map (λ e. EnumeratorNode c e.name) es) ≡ []
enumerators_no_parameter limit c [] = refl
enumerators_no_parameter limit c (e ∷ es) = no_parameters limit (EnumeratorNode c e.name) (map (λ f. EnumeratorNode c f.name) es) refl (enumerators_no_parameter limit c es)

labels_no_parameter : (limit : ℕ) (c : Construct) (body : TypeSpec) (before ls : List ArmLabel) → flat_map (parameter_past limit) (label_nodes c body before ls) ≡ []
labels_no_parameter limit c body before [] = refl
labels_no_parameter limit c body before (l ∷ ls) =
    no_parameters limit (LabelNode c body before l) (label_nodes c body (before ++ l ∷ []) ls) refl (labels_no_parameter limit c body (before ++ l ∷ []) ls)

pub parameters_of : {A : Type 0} (lists : List (Vec declared.Declared A)) (limit : ℕ) (n : program_node.Node) → flat_map (parameter_past limit) (seen_node lists n) ≡ parameters_at lists limit n
parameters_of lists limit (node.Attributes c) = attributes_no_parameter limit (seen_construct c) [] (seen_construct c).attributes
parameters_of lists limit (node.Enumerators c list) = enumerators_no_parameter limit (seen_construct c) (map seen_enumerator list.now)
parameters_of lists limit (node.Labels c body) = labels_no_parameter limit (seen_construct c) (seen_type body.now) [] (labels_of (seen_type body.now))
parameters_of lists limit (node.Operation it p) = append-nil (first_past limit (map (λ q. q.construct) (list_at lists p)))
parameters_of lists limit _ = ap (λ (l : List Construct). l ++ []) (none_past limit [] refl)

-- ## All

-- what is too many, with other limits
abbrev pub too_many_past : ℕ → ℕ → ℕ → ℕ → Scene → List Construct
too_many_past types operations parameters parts s =
    first_past types (map (λ n. n.construct) (own_types s)) ++ first_past operations (flat_map (λ n. operation_in n.node) s.nodes)
    ++ flat_map (λ n. first_past parameters (parameters_in n.node)) s.nodes ++ first_past parts (flat_map (λ n. part_in n.node) s.nodes)

four : (w : World) (a b c d : List Construct) (zeroth first second third fourth : Option Breach)
    → first ≡ noted w zeroth (map one_too_many a) → second ≡ noted w first (map one_too_many b) → third ≡ noted w second (map one_too_many c) → fourth ≡ noted w third (map one_too_many d)
    → fourth ≡ noted w zeroth (map one_too_many (a ++ b ++ c ++ d))
four w a b c d zeroth first second third fourth e f g h =
    h ∙ ap (λ o. noted w o (map one_too_many d)) (g ∙ ap (λ o. noted w o (map one_too_many c)) (f ∙ ap (λ o. noted w o (map one_too_many b)) e ∙ both a b) ∙ both (a ++ b) c)
    ∙ both (a ++ b ++ c) d where
      both : (l k : List Construct) → noted w (noted w zeroth (map one_too_many l)) (map one_too_many k) ≡ noted w zeroth (map one_too_many (l ++ k))
      both l k = sym (noted_more w zeroth (map one_too_many l) (map one_too_many k)) ∙ ap (noted w zeroth) (sym (map-append one_too_many l k))

pub all_too_many : (w : World) (known : Known) (ks : List Kind) (n : program_nodes.Nodes) (t : Numbers) (types operations parameters parts : ℕ) (zeroth first second third fourth : Option Breach)
    → AreNumbers (scene_seen known n) ks t
    → first ≡ noted w zeroth (map (λ o. breach Rule.COUNTS o.place) (first_past types t.own.items))
    → second ≡ noted w first (map one_too_many (numbered (suc operations) (flat_map operations_at n.items.items)))
    → third ≡ noted w second (map one_too_many (flat_map (parameters_at n.lists.items parameters) n.items.items))
    → fourth ≡ noted w third (map one_too_many (numbered (suc parts) (flat_map parts_at n.items.items)))
    → fourth ≡ noted w zeroth (map one_too_many (too_many_past types operations parameters parts (scene_seen known n)))
all_too_many w known ks n t types operations parameters parts zeroth first second third fourth are e f g h =
    let s = scene_seen known n in
    let lists = n.lists.items in
    four w (first_past types (map (λ m. m.construct) (own_types s))) (first_past operations (flat_map (λ m. operation_in m.node) s.nodes))
    (flat_map (λ m. first_past parameters (parameters_in m.node)) s.nodes)
    (first_past parts (flat_map (λ m. part_in m.node) s.nodes)) zeroth first second third fourth
    (e ∙ ap (noted w zeroth) (sym (types_are ks types (own_types s) t.own.items are.own)))
    (f ∙ ap (λ l. noted w first (map one_too_many (first_past operations l)))
    (sym (scoped_is operation_in known [] (seen_nodes n) ∙ seen_is lists operation_in operations_at (operations_of lists) n.items.items)))
    (g ∙ ap (λ l. noted w second (map one_too_many l))
    (sym (scoped_is (parameter_past parameters) known [] (seen_nodes n) ∙ seen_is lists (parameter_past parameters) (parameters_at lists parameters) (parameters_of lists parameters) n.items.items)))
    (h ∙ ap (λ l. noted w third (map one_too_many (first_past parts l)))
    (sym (scoped_is part_in known [] (seen_nodes n) ∙ seen_is lists part_in parts_at (parts_of lists) n.items.items)))
