-- One more operation is read, and one more tag.
use Rattle.std.proofs.Common.{◌≡◌, ℕ, ◌+◌, ◌<◌, ◌≤◌, Bool, true, false, ltb, List, [], ◌∷◌, ◌++◌, map, length, Option, Some, None, option_map, slice_get, refl, sym, ap, ◌∙◌, subst, arith, Vec}
use Rattle.std.specs.List.{flat_map}
use Rattle.std.proofs.lemmas.Grind.{flat_map-append}
use Rattle.std.proofs.lemmas.List.{length-append, append-nil}
use Rattle.std.proofs.lemmas.Option.{slice_get_within}
use Rattle.std.proofs.lemmas.Bool.{ltb-true, lt-ltb}
use Rattle.idl_grammar.specs.Tree.{Attribute, TypeSpec, Enumerator}
use Rattle.idl_grammar.specs.Seen.{seen_type, seen_enumerator}
use Rattle.idl_scope.specs.Known.{Known}
use Rattle.idl_declared_types.specs.declared.kinds.Kind.{Kind}
use Rattle.idl_constructs.specs.declared.nodes.Declared as declared
use Rattle.idl_constructs.specs.declared.nodes.Node as program_node
use Rattle.idl_constructs.specs.declared.nodes.Node.TheVariants as node
use Rattle.idl_constructs.specs.declared.nodes.Nodes as program_nodes
use Rattle.idl_declared_types.specs.declared.types.BodyTypes.{BodyTypes}
use Rattle.idl_declared_types.specs.declared.types.OperationTypes.{OperationTypes}
use Rattle.idl_rule_definitions.specs.Nodes.{Construct, ArmLabel, EnumeratorNode, attribute_nodes_from, label_nodes, labels_of}
use Rattle.idl_rule_definitions.specs.Types.{Names}
use Rattle.idl_rule_definitions.specs.Scene.{Scoped, Body, scoped_from, tag_type}
use Rattle.idl_declared_types.specs.Kinds.{type_at, Keeps}
use Rattle.idl_declared_types.specs.SeenNames.{are_below}
use Rattle.idl_constructs.specs.SeenNodes.{seen_node, seen_construct}
use Rattle.idl_declared_types.specs.SeenTypes.{names_at, scoped_front, bare, body_at}
use Rattle.idl_declared_types.specs.SeenOperations.{Called, called_by, called_at, IsOperation}
use Rattle.idl_typing.specs.ReadTypes.{bodies_front, is_tag_below, TagsOver, TagsRead, called_in, called_front, OperationsOver, OperationsRead}
use Rattle.idl_declared_types.proofs.Fronts.{scoped_front_next}
use Rattle.idl_declared_types.proofs.NameLists.{le-keeps, type_at-keeps}
use Rattle.idl_typing.proofs.PartTypes.{types-keeps, below-le}
use Rattle.idl_typing.proofs.ReadNames.{body_list, bodies_front_next}
use Rattle.idl_typing.proofs.ReadSteps.{last_or_before}

-- ## Tags

tag_keeps : (old new : List Kind) (o : Option ℕ) → Keeps old new → is_tag_below (length old) o ≡ true → option_map (type_at new) o ≡ option_map (type_at old) o
tag_keeps old new None keeps below = refl
tag_keeps old new (Some k) keeps below = ap Some (type_at-keeps old new k keeps (ltb-true k (length old) below))

tag_le : (old new : List Kind) (o : Option ℕ) → Keeps old new → is_tag_below (length old) o ≡ true → is_tag_below (length new) o ≡ true
tag_le old new None keeps below = refl
tag_le old new (Some k) keeps below = let le = le-keeps old new keeps in lt-ltb k (length new) (omega (arith, ltb-true k (length old) below))

pub tag_still : (old new : List Kind) (o : Option ℕ) → Keeps old new → is_tag_below (length old) o ≡ true
    → (option_map (type_at new) o ≡ option_map (type_at old) o) × (is_tag_below (length new) o ≡ true)
tag_still old new o keeps below = (tag_keeps old new o keeps below, tag_le old new o keeps below)

pub tags_keeps : (front : List Body) (old new : List Kind) (noted : List BodyTypes) → Keeps old new → TagsOver front old noted → TagsOver front new noted
tags_keeps front old new noted keeps h = record {
  count = h.count;
  tag = λ j body b x y. tag_keeps old new b.tag keeps (h.within j b y) ∙ h.tag j body b x y;
  within = λ j b y. tag_le old new b.tag keeps (h.within j b y);
}

pub tags_none : (known : Known) (n : program_nodes.Nodes) (i : ℕ) (ks : List Kind) (noted : List BodyTypes) (it : program_node.Node)
    → slice_get n.items.items i ≡ Some it → body_at (names_at known n i) (Some it) ≡ None → TagsRead known n i ks noted → TagsRead known n (i + 1) ks noted
tags_none known n i ks noted it here none h =
    let e = bodies_front_next known n i it here ∙ ap (λ o. bodies_front known n i ++ body_list o) none ∙ append-nil (bodies_front known n i) in
    subst (λ (front : List Body). TagsOver front ks noted) (sym e) h

tags_more : (front : List Body) (ks : List Kind) (noted : List BodyTypes) (body : Body) (b : BodyTypes) → TagsOver front ks noted
    → option_map (type_at ks) b.tag ≡ tag_type body.construct body.names body.body → is_tag_below (length ks) b.tag ≡ true → TagsOver (front ++ body ∷ []) ks (noted ++ b ∷ [])
tags_more front ks noted body b h tag below = record {
  count = length-append noted (b ∷ []) ∙ ap (λ c. c + 1) h.count ∙ sym (length-append front (body ∷ []));
  tag = λ j other c x y. last_or_before front body j other x
      (λ e. last_or_before noted b j c y (λ f. h.tag j other c e f) (λ f s. absurd (omega (arith, slice_get_within front j other e, h.count))))
      (λ e s. last_or_before noted b j c y (λ f. absurd (omega (arith, slice_get_within noted j c f, h.count)))
      (λ f t. subst (λ (o : Body). option_map (type_at ks) c.tag ≡ tag_type o.construct o.names o.body) s
      (subst (λ (d : BodyTypes). option_map (type_at ks) d.tag ≡ tag_type body.construct body.names body.body) t tag)));
  within = λ j c y. last_or_before noted b j c y (λ f. h.within j c f) (λ e s. subst (λ (d : BodyTypes). is_tag_below (length ks) d.tag ≡ true) s below);
}

pub tags_next : (known : Known) (n : program_nodes.Nodes) (i : ℕ) (ks : List Kind) (noted : List BodyTypes) (it : program_node.Node) (body : Body) (b : BodyTypes)
    → slice_get n.items.items i ≡ Some it → body_at (names_at known n i) (Some it) ≡ Some body → TagsRead known n i ks noted
    → option_map (type_at ks) b.tag ≡ tag_type body.construct body.names body.body → is_tag_below (length ks) b.tag ≡ true → TagsRead known n (i + 1) ks (noted ++ b ∷ [])
tags_next known n i ks noted it body b here at h tag below =
    let e = bodies_front_next known n i it here ∙ ap (λ o. bodies_front known n i ++ body_list o) at in
    subst (λ (front : List Body). TagsOver front ks (noted ++ b ∷ [])) (sym e) (tags_more (bodies_front known n i) ks noted body b h tag below)

-- ## Operations

abbrev pub called_list : Option Called → List Called
called_list (Some o) = o ∷ []
called_list None = []

attributes_none : (known : Known) (names : Names) (c : Construct) (before rest : List Attribute) → called_in (scoped_from known names (attribute_nodes_from c before rest)) ≡ []
attributes_none known names c before [] = refl
attributes_none known names c before (a ∷ rest) = attributes_none known names c (before ++ a ∷ []) rest

labels_none : (known : Known) (names : Names) (c : Construct) (body : TypeSpec) (before rest : List ArmLabel) → called_in (scoped_from known names (label_nodes c body before rest)) ≡ []
labels_none known names c body before [] = refl
labels_none known names c body before (l ∷ rest) = labels_none known names c body (before ++ l ∷ []) rest

enumerators_none : (known : Known) (names : Names) (c : Construct) (es : List Enumerator) → called_in (scoped_from known names (map (λ e. EnumeratorNode c e.name) es)) ≡ []
enumerators_none known names c [] = refl
enumerators_none known names c (e ∷ es) = enumerators_none known names c es

called_of : {A : Type 0} (known : Known) (names : Names) (lists : List (Vec declared.Declared A)) (it : program_node.Node)
    → called_in (scoped_from known names (seen_node lists it)) ≡ called_list (called_at lists names (Some it))
called_of known names lists (node.Header c) = refl
called_of known names lists (node.Attributes c) = attributes_none known names (seen_construct c) [] (seen_construct c).attributes
called_of known names lists (node.Switch c of) = refl
called_of known names lists (node.Tag c kind tag) = refl
called_of known names lists (node.Body c body) = refl
called_of known names lists (node.Enumerators c list) = enumerators_none known names (seen_construct c) (map seen_enumerator list.now)
called_of known names lists (node.Labels c body) = labels_none known names (seen_construct c) (seen_type body.now) [] (labels_of (seen_type body.now))
called_of known names lists (node.EmptyArm c) = refl
called_of known names lists (node.Declarator list index d) = refl
called_of known names lists (node.Result r) = refl
called_of known names lists (node.Constant c of star value) = refl
called_of known names lists (node.Type c of) = refl
called_of known names lists (node.Operation r parameters) = refl

called_front_next : (known : Known) (n : program_nodes.Nodes) (i : ℕ) (it : program_node.Node) → slice_get n.items.items i ≡ Some it
    → called_front known n (i + 1) ≡ called_front known n i ++ called_list (called_at n.lists.items (names_at known n i) (Some it))
called_front_next known n i it h =
    ap called_in (scoped_front_next known n i it h)
    ∙ flat_map-append (λ (m : Scoped). called_by m.names m.node) (scoped_front known n i) (scoped_from known (names_at known n i) (seen_node n.lists.items it))
    ∙ ap (λ l. called_front known n i ++ l) (called_of known (names_at known n i) n.lists.items it)

operation_keeps : (known : Known) (n : program_nodes.Nodes) (old new : List Kind) (o : Called) (t : OperationTypes) → Keeps old new → are_below (length old) t.parameters.items ≡ true
    → t.result < length old → IsOperation (bare known) n old o t → IsOperation (bare known) n new o t
operation_keeps known n old new o t keeps parameters below h = record {
  parameters = types-keeps old new t.parameters.items keeps parameters ∙ h.parameters;
  result = type_at-keeps old new t.result keeps below ∙ h.result;
  node = h.node;
}

pub operations_keeps : (known : Known) (n : program_nodes.Nodes) (front : List Called) (old new : List Kind) (noted : List OperationTypes) → Keeps old new
    → OperationsOver known n front old noted → OperationsOver known n front new noted
operations_keeps known n front old new noted keeps h = record {
  count = h.count;
  operation = λ j o t x y. operation_keeps known n old new o t keeps (h.parameters j t y) (h.result j t y) (h.operation j o t x y);
  parameters = λ j t y. below-le old new t.parameters.items keeps (h.parameters j t y);
  result = λ j t y. omega (arith, h.result j t y, le-keeps old new keeps);
}

pub operations_none : (known : Known) (n : program_nodes.Nodes) (i : ℕ) (ks : List Kind) (noted : List OperationTypes) (it : program_node.Node)
    → slice_get n.items.items i ≡ Some it → called_at n.lists.items (names_at known n i) (Some it) ≡ None → OperationsRead known n i ks noted → OperationsRead known n (i + 1) ks noted
operations_none known n i ks noted it here none h =
    let e = called_front_next known n i it here ∙ ap (λ o. called_front known n i ++ called_list o) none ∙ append-nil (called_front known n i) in
    subst (λ (front : List Called). OperationsOver known n front ks noted) (sym e) h

operations_more : (known : Known) (n : program_nodes.Nodes) (front : List Called) (ks : List Kind) (noted : List OperationTypes) (o : Called) (t : OperationTypes)
    → OperationsOver known n front ks noted → IsOperation (bare known) n ks o t → are_below (length ks) t.parameters.items ≡ true → t.result < length ks
    → OperationsOver known n (front ++ o ∷ []) ks (noted ++ t ∷ [])
operations_more known n front ks noted o t h is parameters below = record {
  count = length-append noted (t ∷ []) ∙ ap (λ c. c + 1) h.count ∙ sym (length-append front (o ∷ []));
  operation = λ j other u x y. last_or_before front o j other x
      (λ e. last_or_before noted t j u y (λ f. h.operation j other u e f) (λ f s. absurd (omega (arith, slice_get_within front j other e, h.count))))
      (λ e s. last_or_before noted t j u y (λ f. absurd (omega (arith, slice_get_within noted j u f, h.count)))
      (λ f r. subst (λ (p : Called). IsOperation (bare known) n ks p u) s (subst (λ (v : OperationTypes). IsOperation (bare known) n ks o v) r is)));
  parameters = λ j u y. last_or_before noted t j u y (λ f. h.parameters j u f) (λ e s. subst (λ (v : OperationTypes). are_below (length ks) v.parameters.items ≡ true) s parameters);
  result = λ j u y. last_or_before noted t j u y (λ f. h.result j u f) (λ e s. subst (λ (v : OperationTypes). v.result < length ks) s below);
}

pub operations_next : (known : Known) (n : program_nodes.Nodes) (i : ℕ) (ks : List Kind) (noted : List OperationTypes) (it : program_node.Node) (o : Called) (t : OperationTypes)
    → slice_get n.items.items i ≡ Some it → called_at n.lists.items (names_at known n i) (Some it) ≡ Some o → OperationsRead known n i ks noted → IsOperation (bare known) n ks o t
    → are_below (length ks) t.parameters.items ≡ true → t.result < length ks → OperationsRead known n (i + 1) ks (noted ++ t ∷ [])
operations_next known n i ks noted it o t here at h is parameters below =
    let e = called_front_next known n i it here ∙ ap (λ p. called_front known n i ++ called_list p) at in
    subst (λ (front : List Called). OperationsOver known n front ks (noted ++ t ∷ [])) (sym e) (operations_more known n (called_front known n i) ks noted o t h is parameters below)

pub not_operation : {A : Type 0} (lists : List (Vec declared.Declared A)) (names : Names) (it : program_node.Node) → ((r : _) (parameters : ℕ) → it ≡ node.Operation r parameters → ⊥)
    → called_at lists names (Some it) ≡ None
not_operation lists names (node.Operation r parameters) h = absurd (h r parameters refl)
not_operation lists names it h = refl
