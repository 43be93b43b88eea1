-- The types that the first nodes of the program need.
use Rattle.std.proofs.Common.{◌≡◌, ℕ, ◌+◌, ◌≤◌, true, false, List, [], ◌∷◌, ◌++◌, map, length, Option, Some, slice_get, refl, sym, ap, ◌∙◌, subst, append-nil, Vec, true≢false}
use Rattle.std.specs.List.{flat_map}
use Rattle.std.proofs.lemmas.Grind.{flat_map-append}
use Rattle.idl_grammar.specs.declared.types.TagKind.{TagKind}
use Rattle.idl_grammar.specs.declared.types.TagKind.TheVariants as tag_kind
use Rattle.idl_grammar.specs.Tree.{Attribute, TypeSpec, Enumerator}
use Rattle.idl_grammar.specs.Tree as tree
use Rattle.idl_grammar.specs.Seen.{seen_type, seen_enumerator}
use Rattle.nd_base.specs.declared.octets.Place.{Place}
use Rattle.idl_scope.specs.Known.{Known}
use Rattle.idl_declared_types.specs.declared.kinds.Kind.{Kind}
use Rattle.idl_constructs.specs.declared.nodes.Declared as declared
use Rattle.idl_constructs.specs.declared.nodes.Node as program_node
use Rattle.idl_constructs.specs.declared.nodes.Node.TheVariants as node
use Rattle.idl_constructs.specs.declared.nodes.Nodes as program_nodes
use Rattle.idl_declared_types.specs.declared.numbering.Numbers.{Numbers}
use Rattle.idl_declared_types.specs.declared.types.Typed.{Typed}
use Rattle.idl_declared_types.specs.declared.types.Types as program_types
use Rattle.idl_rule_definitions.specs.Nodes.{Construct, Node, EnumeratorNode, ArmLabel, attribute_nodes_from, label_nodes, labels_of}
use Rattle.idl_rule_definitions.specs.Types.{IdlType, Names, tagged_type, type_of_tag, type_of}
use Rattle.idl_rule_definitions.specs.Scene.{Scene, Scoped, scoped_from, type_of_body}
use Rattle.idl_rule_definitions.specs.Numbering.{Needed, needed, built, needed_by, needed_types}
use Rattle.idl_constructs.specs.SeenNodes.{seen_construct, seen_declared, seen_result, list_at, seen_node}
use Rattle.idl_declared_types.specs.SeenTypes.{IsTyped, IsTypes, names_at, scoped_front, scene_seen}
use Rattle.idl_declared_types.specs.Kinds.{type_at}
use Rattle.idl_declared_types.specs.SeenNumbers.{AreNumbers, IsClosed, Shows, grown, built_in, needed_at}
use Rattle.idl_declared_types.proofs.Fronts.{scoped_front_next, scoped_front_all}
use Rattle.idl_declared_types.proofs.Grown.{grown-append, closed_behind}
use Rattle.idl_declared_types.proofs.Numbered.{are_numbers}

abbrev pub needed_from : Known → Names → List Node → List Needed
needed_from known names ns = flat_map (λ x. needed_by known x.names x.node) (scoped_from known names ns)

attributes_need_none : (known : Known) (names : Names) (c : Construct) (before more : List Attribute) → needed_from known names (attribute_nodes_from c before more) ≡ []
attributes_need_none known names c before [] = refl
attributes_need_none known names c before (a ∷ more) = attributes_need_none known names c (before ++ a ∷ []) more

enumerators_need_none : (known : Known) (names : Names) (c : Construct) (es : List Enumerator) → needed_from known names (map (λ e. EnumeratorNode c e.name) es) ≡ []
enumerators_need_none known names c [] = refl
enumerators_need_none known names c (e ∷ es) = enumerators_need_none known names c es

labels_need_none : (known : Known) (names : Names) (c : Construct) (body : TypeSpec) (before more : List ArmLabel) → needed_from known names (label_nodes c body before more) ≡ []
labels_need_none known names c body before [] = refl
labels_need_none known names c body before (l ∷ more) = labels_need_none known names c body (before ++ l ∷ []) more

tag_alone : (kind : TagKind) (place : Place) → built (tagged_type kind place) ≡ tagged_type kind place ∷ []
tag_alone tag_kind.Struct place = refl
tag_alone tag_kind.Union place = refl
tag_alone tag_kind.Enum place = refl

body_alone : (c : Construct) (names : Names) (body : TypeSpec)
    → built (type_of_body (record { construct = c; names = names; body = body })) ≡ type_of_body (record { construct = c; names = names; body = body }) ∷ []
body_alone c names (tree.Struct at tag _) = refl
body_alone c names (tree.Enum at tag es) = refl
body_alone c names _ = refl

one_alone : (c : Construct) (t u : IdlType) → t ≡ u → built u ≡ u ∷ [] → needed c u ∷ [] ≡ map (needed c) (built t)
one_alone c t u e alone = sym (ap (λ v. map (needed c) (built v)) e ∙ ap (map (needed c)) alone)

all_built : (c : Construct) (t u : IdlType) → t ≡ u → map (needed c) (built u) ++ [] ≡ map (needed c) (built t)
all_built c t u e = append-nil (map (needed c) (built u)) ∙ sym (ap (λ v. map (needed c) (built v)) e)

-- what a node of the program needs
of_node : {A : Type 0} (s : Scene) (names : Names) (ks : List Kind) (lists : List (Vec declared.Declared A)) (it : program_node.Node) (t : Typed) → IsTyped s names ks lists it t
    → needed_from s.known names (seen_node lists it) ≡ needed_at ks it t
of_node s names ks lists (node.Header c) t h = refl
of_node s names ks lists (node.Attributes c) t h = attributes_need_none s.known names (seen_construct c) [] (seen_construct c).attributes
of_node s names ks lists (node.Switch c of) t h = refl
of_node s names ks lists (node.Tag c kind tag) t h = one_alone (seen_construct c) (type_at ks t.of) (type_of_tag s.known c.file kind tag.now) h (tag_alone kind _)
of_node s names ks lists (node.Body c body) t h =
    one_alone (seen_construct c) (type_at ks t.of) (type_of_body (record { construct = seen_construct c; names = names; body = seen_type body.now })) h
    (body_alone (seen_construct c) names (seen_type body.now))
of_node s names ks lists (node.Enumerators c list) t h = enumerators_need_none s.known names (seen_construct c) (map seen_enumerator list.now)
of_node s names ks lists (node.Labels c body) t h = labels_need_none s.known names (seen_construct c) (seen_type body.now) [] (labels_of (seen_type body.now))
of_node s names ks lists (node.EmptyArm c) t h = refl
of_node s names ks lists (node.Declarator list index it) t h = all_built (seen_construct it.construct) (type_at ks t.of) (type_of s.known names (seen_declared it)) h.of
of_node s names ks lists (node.Result it) t h = all_built (seen_result it).construct (type_at ks t.of) (type_of s.known names (seen_result it)) h.of
of_node s names ks lists (node.Constant c of star value) t h = refl
of_node s names ks lists (node.Type c of) t h = refl
of_node s names ks lists (node.Operation it parameters) t h = refl

closed_node : (ks : List Kind) (firsts : List Needed) (it : program_node.Node) (t : Typed) → IsClosed firsts → IsClosed (grown firsts (needed_at ks it t))
closed_node ks firsts (node.Tag c kind tag) t h = closed_behind firsts (seen_construct c) (type_at ks t.of) h
closed_node ks firsts (node.Body c body) t h = closed_behind firsts (seen_construct c) (type_at ks t.of) h
closed_node ks firsts (node.Declarator list index it) t h = closed_behind firsts (seen_construct it.construct) (type_at ks t.of) h
closed_node ks firsts (node.Result it) t h = closed_behind firsts (seen_result it).construct (type_at ks t.of) h
closed_node ks firsts _ t h = h

-- the types with numbers after the first i nodes
abbrev pub numbered : Known → program_nodes.Nodes → ℕ → List Needed
numbered known n i = grown [] (flat_map (λ x. needed_by known x.names x.node) (scoped_front known n i))

-- the first i nodes have what they need
pub record Reaches (known : Known) (n : program_nodes.Nodes) (ks : List Kind) (i : ℕ) (t : Numbers) : Type 0 where
  pub shows : Shows ks (numbered known n i) t
  pub closed : IsClosed (numbered known n i)

pub reaches_none : (known : Known) (n : program_nodes.Nodes) (ks : List Kind) (t : Numbers) → Shows ks [] t → Reaches known n ks 0 t
reaches_none known n ks t s = record { shows = s; closed = λ t h. absurd (true≢false (sym h)) }

pub reaches_next : (known : Known) (n : program_nodes.Nodes) (types : program_types.Types) (i : ℕ) (it : program_node.Node) (typed : Typed) (old new : Numbers)
    → IsTypes (scene_seen known n) n types → slice_get n.items.items i ≡ Some it → slice_get types.typed.items i ≡ Some typed
    → ((firsts : List Needed) → Shows types.kinds firsts old → IsClosed firsts → Shows types.kinds (grown firsts (needed_at types.kinds it typed)) new)
    → Reaches known n types.kinds i old → Reaches known n types.kinds (i + 1) new
reaches_next known n types i it typed old new are h g step r = record {
  shows = subst (λ l. Shows types.kinds l new) (sym e) (step (numbered known n i) r.shows r.closed);
  closed = subst IsClosed (sym e) (closed_node types.kinds (numbered known n i) it typed r.closed);
} where
  s : Scene
  s = scene_seen known n

  e : numbered known n (i + 1) ≡ grown (numbered known n i) (needed_at types.kinds it typed)
  e = ap (λ l. grown [] (flat_map (λ x. needed_by known x.names x.node) l)) (scoped_front_next known n i it h)
      ∙ ap (grown []) (flat_map-append (λ x. needed_by known x.names x.node) (scoped_front known n i) (scoped_from known (names_at known n i) (seen_node n.lists.items it)))
      ∙ grown-append [] (flat_map (λ x. needed_by known x.names x.node) (scoped_front known n i)) (needed_from known (names_at known n i) (seen_node n.lists.items it))
      ∙ ap (grown (numbered known n i)) (of_node (scene_seen known n) (names_at known n i) types.kinds n.lists.items it typed (are.typed i it typed h g))

needed_all : (known : Known) (n : program_nodes.Nodes) → flat_map (λ x. needed_by known x.names x.node) (scoped_front known n (length n.items.items)) ≡ needed_types (scene_seen known n)
unfolding needed_types
needed_all known n = ap (flat_map (λ x. needed_by known x.names x.node)) (scoped_front_all known n)

pub reaches_all : (known : Known) (n : program_nodes.Nodes) (ks : List Kind) (i : ℕ) (t : Numbers) → i ≡ length n.items.items → Reaches known n ks i t → AreNumbers (scene_seen known n) ks t
reaches_all known n ks i t e r =
    are_numbers (scene_seen known n) ks t (subst (λ l. Shows ks l t) (ap (numbered known n) e ∙ ap (grown []) (needed_all known n)) r.shows)
