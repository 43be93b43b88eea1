-- What the nodes of the program break, but for rule 11.
use Rattle.std.proofs.Common.{◌≡◌, ◌∙◌, ℕ, ◌+◌, Bool, true, false, List, [], ◌∷◌, ◌++◌, map, Vec, Option, Some, slice_get, refl, ap, ap₂, sym, append-nil}
use Rattle.std.specs.List.{flat_map}
use Rattle.std.proofs.lemmas.List.Concat.{flat_map-cons}
use Rattle.std.proofs.lemmas.Grind.{flat_map-append}
use Rattle.idl_grammar.specs.Seen.{seen_type, seen_enumerator, seen_init}
use Rattle.idl_grammar.specs.Tree.{Attribute, TypeSpec}
use Rattle.idl_grammar.specs.Tree as tree
use Rattle.idl_scope.specs.Known.{Known}
use Rattle.idl_constructs.specs.declared.nodes.Declared as declared
use Rattle.idl_constructs.specs.declared.nodes.Node as program_node
use Rattle.idl_constructs.specs.declared.nodes.Node.TheVariants as node
use Rattle.idl_constructs.specs.declared.nodes.Nodes as program_nodes
use Rattle.idl_rule_definitions.specs.Nodes.{World, Construct, ArmLabel, Node, HeaderNode, AttributeNode, SwitchNode, TagNode, BodyNode, EnumeratorNode, LabelNode, EmptyArmNode, DeclaratorNode}
use Rattle.idl_rule_definitions.specs.Nodes.{ConstantNode, TypeNode, OperationNode, attribute_nodes_from, label_nodes, labels_of}
use Rattle.idl_rule_definitions.specs.DeclarationRules.{is_out_of_place, is_repeated, is_large_version, is_second_class, lacks_uuid_and_local, has_no_body, is_large_enumerator, is_bad_label}
use Rattle.idl_rule_definitions.specs.DeclarationRules.{is_wrong_constant, is_void_constant, is_handle_constant, lacks_switch_type}
use Rattle.idl_rule_definitions.specs.Types.{Names, switch_type}
use Rattle.idl_rule_definitions.specs.Scene.{Scene, Scoped, Body, body_by, scoped_from, names_behind, use_of, tag_type}
use Rattle.idl_rule_definitions.specs.Rules.{Breach, broken_at, broken_in, breaches_at, breaches_of_use, breaches_of_body}
use Rattle.idl_rule_definitions.specs.TypeRules.{contains_itself, is_deep_body}
use Rattle.idl_constructs.specs.SeenNodes.{seen_construct, seen_declared, seen_result, list_at, seen_node}
use Rattle.idl_declared_types.specs.SeenTypes.{names_at, scoped_front}
use Rattle.idl_rule_definitions.specs.Noted.{noted, of_others}
use Rattle.idl_rule_definitions.specs.OthersOf.{others_of}
use Rattle.idl_rule_definitions.specs.OtherBreaches.{other_breaches_at}
use Rattle.idl_rules.specs.Asked.{body_breaches, switch_breaches, empty_arm_breaches}
use Rattle.idl_value_rules.specs.RestBreaches.{but_cycles, rest_breaches_at, rest_breaches}
use Rattle.idl_rules.specs.Asked.{program_breaches}
use Rattle.idl_declared_types.proofs.Fronts.{scoped_front_next}
use Rattle.idl_rule_definitions.proofs.Noted.{noted_more}
use Rattle.idl_rule_definitions.proofs.OtherNotes.{others_append, kept, dropped, other_cons, other_one, three_kept, last_kept}
use Rattle.idl_rules.proofs.UseNotes.{use_kept, body_kept, switch_kept, arm_kept, cycles_append, no_cycle, more_others, more_rest}
use Rattle.idl_rule_definitions.specs.declared.rule.TheConstants as Rule

-- ## One node

-- a list that is kept
same_part : (bs others : List Breach) → of_others bs ≡ others → but_cycles others ≡ others → but_cycles (of_others bs) ≡ of_others bs
same_part bs others e f = ap but_cycles e ∙ f ∙ sym e

pub body_rest : (s : Scene) (b : Body) → but_cycles (of_others (breaches_of_body s b)) ≡ body_breaches s b
body_rest s b =
    let c = b.construct in
    let own = broken_in c Rule.NO_TYPE_IN_ITSELF (contains_itself s b) in
    let deep = broken_in c Rule.NESTING (is_deep_body s b) in
    let lacks = broken_in c Rule.CASES (lacks_switch_type c b.body) in
    ap but_cycles (three_kept c c.at 11 12 23 (contains_itself s b) (is_deep_body s b) (lacks_switch_type c b.body) refl refl refl)
    ∙ cycles_append (own ++ deep) lacks
    ∙ ap₂ (λ l m. l ++ m)
    (cycles_append own deep ∙ ap₂ (λ l m. l ++ m) (gone (contains_itself s b)) (no_cycle c 12 c.at (is_deep_body s b) refl))
    (no_cycle c 23 c.at (lacks_switch_type c b.body) refl) where
      gone : (t : Bool) → but_cycles (broken_in b.construct Rule.NO_TYPE_IN_ITSELF t) ≡ []
      gone true = refl
      gone false = refl

attribute_rest : (s : Scene) (names : Names) (c : Construct) (before : List Attribute) (a : Attribute)
    → but_cycles (of_others (breaches_at s names (AttributeNode c before a))) ≡ of_others (breaches_at s names (AttributeNode c before a))
attribute_rest s names c before a =
    same_part (breaches_at s names (AttributeNode c before a)) (broken_in c Rule.CLASSES_ON_POINTERS (is_second_class before a))
    (last_kept c a.at c.at 1 2 4 26 (is_out_of_place c.position a) (is_repeated before a) (is_large_version a) (is_second_class before a) refl refl refl refl)
    (no_cycle c 26 c.at (is_second_class before a) refl)

one_rest : (c : Construct) (rule at : ℕ) (t : Bool) → of_others (broken_at c rule at t) ≡ broken_at c rule at t
    → but_cycles (broken_at c rule at t) ≡ broken_at c rule at t → but_cycles (of_others (broken_at c rule at t)) ≡ of_others (broken_at c rule at t)
one_rest c rule at t e f = same_part (broken_at c rule at t) (broken_at c rule at t) e f

constant_rest : (c : Construct) (a b d : Bool)
    → but_cycles (of_others (broken_in c Rule.VOID a ++ broken_in c Rule.HANDLE b ++ broken_in c Rule.CONSTANTS d))
    ≡ of_others (broken_in c Rule.VOID a ++ broken_in c Rule.HANDLE b ++ broken_in c Rule.CONSTANTS d)
constant_rest c a b d =
    same_part (broken_in c Rule.VOID a ++ broken_in c Rule.HANDLE b ++ broken_in c Rule.CONSTANTS d) (broken_in c Rule.VOID a ++ broken_in c Rule.HANDLE b ++ broken_in c Rule.CONSTANTS d)
    (three_kept c c.at 6 7 38 a b d refl refl refl)
    (more_rest (broken_in c Rule.VOID a ++ broken_in c Rule.HANDLE b) c 38 d (more_rest (broken_in c Rule.VOID a) c 7 b (no_cycle c 6 c.at a refl) refl) refl)

-- ## Nodes side by side

-- one node before others that stand where the same names do
step : (s : Scene) (names : Names) (n : Node) (ns : List Node) → but_cycles (of_others (breaches_at s names n)) ≡ of_others (breaches_at s names n)
    → names_behind s.known names n ≡ names
    → rest_breaches s (scoped_from s.known names ns) ≡ others_of s names ns → rest_breaches s (scoped_from s.known names (n ∷ ns)) ≡ others_of s names (n ∷ ns)
step s names n ns e same h =
    flat_map-cons (rest_breaches_at s) (record { names = names; node = n }) (scoped_from s.known (names_behind s.known names n) ns)
    ∙ ap₂ (λ l m. l ++ m) e (ap (λ x. rest_breaches s (scoped_from s.known x ns)) same ∙ h)
    ∙ sym (other_cons s names n ns)

attributes_rest : (s : Scene) (names : Names) (c : Construct) (before more : List Attribute)
    → rest_breaches s (scoped_from s.known names (attribute_nodes_from c before more)) ≡ others_of s names (attribute_nodes_from c before more)
attributes_rest s names c before [] = refl
attributes_rest s names c before (a ∷ more) =
    step s names (AttributeNode c before a) (attribute_nodes_from c (before ++ a ∷ []) more) (attribute_rest s names c before a) refl
    (attributes_rest s names c (before ++ a ∷ []) more)

labels_rest : (s : Scene) (names : Names) (c : Construct) (body : TypeSpec) (before ls : List ArmLabel)
    → rest_breaches s (scoped_from s.known names (label_nodes c body before ls)) ≡ others_of s names (label_nodes c body before ls)
labels_rest s names c body before [] = refl
labels_rest s names c body before (l ∷ ls) =
    let bad = is_bad_label s (tag_type c names body) before l in
    step s names (LabelNode c body before l) (label_nodes c body (before ++ l ∷ []) ls)
    (one_rest c 22 l.at bad (kept c 22 l.at bad refl) (no_cycle c 22 l.at bad refl)) refl
    (labels_rest s names c body (before ++ l ∷ []) ls)

enumerators_rest : (s : Scene) (names : Names) (c : Construct) (es : List tree.Enumerator)
    → rest_breaches s (scoped_from s.known names (map (λ e. EnumeratorNode c e.name) es)) ≡ others_of s names (map (λ e. EnumeratorNode c e.name) es)
enumerators_rest s names c [] = refl
enumerators_rest s names c (e ∷ es) =
    let large = is_large_enumerator s.known e.name in
    step s names (EnumeratorNode c e.name) (map (λ e. EnumeratorNode c e.name) es)
    (one_rest c 13 e.name.at large (kept c 13 e.name.at large refl) (no_cycle c 13 e.name.at large refl)) refl
    (enumerators_rest s names c es)

-- one node alone
alone : (s : Scene) (names : Names) (n : Node) → but_cycles (of_others (breaches_at s names n)) ≡ of_others (breaches_at s names n)
    → rest_breaches s (scoped_from s.known names (n ∷ [])) ≡ others_of s names (n ∷ [])
alone s names n e =
    flat_map-cons (rest_breaches_at s) (record { names = names; node = n }) []
    ∙ append-nil (but_cycles (of_others (breaches_at s names n)))
    ∙ e ∙ sym (other_one s names n)

-- a node that is no body breaks no rule 11
pub node_rest : (s : Scene) (names : Names) (n : Node) → body_by names n ≡ [] → but_cycles (of_others (breaches_at s names n)) ≡ of_others (breaches_at s names n)
node_rest s names (HeaderNode c at) h =
    let lacks = lacks_uuid_and_local c in
    same_part (broken_at c Rule.UUID_OR_LOCAL at lacks) [] (dropped c 3 at lacks refl) refl
node_rest s names (AttributeNode c before a) h = attribute_rest s names c before a
node_rest s names (SwitchNode c of) h =
    let t = switch_type names of in
    same_part (switch_breaches c t) (switch_breaches c t) (switch_kept of_others refl more_others c t) (switch_kept but_cycles refl more_rest c t)
node_rest s names (TagNode c kind tag) h = refl
node_rest s names (BodyNode c body) h = absurd (let e : (record { construct = c; names = names; body = body }) ∷ [] ≡ [] = h in cc)
node_rest s names (EnumeratorNode c name) h =
    let large = is_large_enumerator s.known name in
    one_rest c 13 name.at large (kept c 13 name.at large refl) (no_cycle c 13 name.at large refl)
node_rest s names (LabelNode c body before l) h =
    let bad = is_bad_label s (tag_type c names body) before l in
    one_rest c 22 l.at bad (kept c 22 l.at bad refl) (no_cycle c 22 l.at bad refl)
node_rest s names (EmptyArmNode c) h =
    same_part (empty_arm_breaches c) (empty_arm_breaches c) (arm_kept of_others refl more_others c) (arm_kept but_cycles refl more_rest c)
node_rest s names (DeclaratorNode list index d) h =
    let u = use_of s.known names list index d in
    same_part (breaches_of_use s u) (breaches_of_use s u) (use_kept of_others refl more_others s u) (use_kept but_cycles refl more_rest s u)
node_rest s names (ConstantNode c of star value) h = constant_rest c (is_void_constant of value) (is_handle_constant of) (is_wrong_constant s.known of star value)
node_rest s names (TypeNode c of) h =
    let bare = has_no_body of in
    one_rest c 5 c.at bare (kept c 5 c.at bare refl) (no_cycle c 5 c.at bare refl)
node_rest s names (OperationNode c name parameters result) h = refl

-- what a node of the program stands for
pub program_rest : {A : Type 0} (s : Scene) (names : Names) (lists : List (Vec declared.Declared A)) (n : program_node.Node)
    → rest_breaches s (scoped_from s.known names (seen_node lists n)) ≡ program_breaches s names lists n
program_rest s names lists (node.Header c) = let n = HeaderNode (seen_construct c) c.at in alone s names n (node_rest s names n refl)
program_rest s names lists (node.Attributes c) = attributes_rest s names (seen_construct c) [] (seen_construct c).attributes
program_rest s names lists (node.Switch c of) = let n = SwitchNode (seen_construct c) of.now in alone s names n (node_rest s names n refl)
program_rest s names lists (node.Tag c kind tag) = let n = TagNode (seen_construct c) kind tag.now in alone s names n (node_rest s names n refl)
program_rest s names lists (node.Body c body) =
    let b : Body = record { construct = seen_construct c; names = names; body = seen_type body.now } in
    flat_map-cons (rest_breaches_at s) (record { names = names; node = BodyNode (seen_construct c) (seen_type body.now) }) []
    ∙ append-nil (but_cycles (of_others (breaches_of_body s b)))
    ∙ body_rest s b
program_rest s names lists (node.Enumerators c list) = enumerators_rest s names (seen_construct c) (map seen_enumerator list.now)
program_rest s names lists (node.Labels c body) = labels_rest s names (seen_construct c) (seen_type body.now) [] (labels_of (seen_type body.now))
program_rest s names lists (node.EmptyArm c) = let n = EmptyArmNode (seen_construct c) in alone s names n (node_rest s names n refl)
program_rest s names lists (node.Declarator list index it) =
    let n = DeclaratorNode (list_at lists list) index (seen_declared it) in alone s names n (node_rest s names n refl)
program_rest s names lists (node.Result it) = let n = DeclaratorNode [] 0 (seen_result it) in alone s names n (node_rest s names n refl)
program_rest s names lists (node.Constant c of star value) =
    let n = ConstantNode (seen_construct c) of star (seen_init value.now) in alone s names n (node_rest s names n refl)
program_rest s names lists (node.Type c of) = let n = TypeNode (seen_construct c) (seen_type of.now) in alone s names n (node_rest s names n refl)
program_rest s names lists (node.Operation it parameters) =
    let n = OperationNode (seen_construct it.construct) it.name.now (list_at lists parameters) (seen_type it.of.now) in alone s names n (node_rest s names n refl)

-- ## The loop over the nodes of the program

-- one more is noted
pub node_noted : (w : World) (s : Scene) (n : program_nodes.Nodes) (i : ℕ) (it : program_node.Node) (start before after : Option Breach)
    → slice_get n.items.items i ≡ Some it → before ≡ noted w start (rest_breaches s (scoped_front s.known n i))
    → after ≡ noted w before (program_breaches s (names_at s.known n i) n.lists.items it)
    → after ≡ noted w start (rest_breaches s (scoped_front s.known n (i + 1)))
node_noted w s n i it start before after h e f =
    let names = names_at s.known n i in
    let front = scoped_front s.known n i in
    let new = scoped_from s.known names (seen_node n.lists.items it) in
    f
    ∙ ap (λ o. noted w o (program_breaches s names n.lists.items it)) e
    ∙ ap (λ l. noted w (noted w start (rest_breaches s front)) l) (sym (program_rest s names n.lists.items it))
    ∙ sym (noted_more w start (rest_breaches s front) (rest_breaches s new))
    ∙ ap (λ l. noted w start l) (sym (ap (rest_breaches s) (scoped_front_next s.known n i it h) ∙ flat_map-append (rest_breaches_at s) front new))
