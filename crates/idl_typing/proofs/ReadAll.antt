-- All nodes are read.
use Rattle.std.proofs.Common.{◌≡◌, ℕ, ◌≤◌, List, [], ◌∷◌, length, Some, None, slice_get, refl, sym, ap, ◌∙◌, subst, arith, Vec}
use Rattle.std.proofs.lemmas.Option.{none-some}
use Rattle.nd_base.specs.declared.octets.Place.{Place}
use Rattle.idl_scope.specs.Known.{Known}
use Rattle.idl_constructs.specs.declared.nodes.Declared as declared
use Rattle.idl_constructs.specs.declared.nodes.Node as program_node
use Rattle.idl_constructs.specs.declared.nodes.Node.TheVariants as node
use Rattle.idl_constructs.specs.declared.nodes.Nodes as program_nodes
use Rattle.idl_declared_types.specs.declared.kinds.Kind.{Kind}
use Rattle.idl_declared_types.specs.declared.types.BodyTypes.{BodyTypes}
use Rattle.idl_declared_types.specs.declared.types.Typed.{Typed}
use Rattle.idl_declared_types.specs.declared.types.Types.{Types}
use Rattle.idl_rule_definitions.specs.Types.{Names}
use Rattle.idl_rule_definitions.specs.Scene.{Scene, Scoped, Body, Use, bodies, body_of}
use Rattle.idl_declared_types.specs.SeenTypes.{bare, scene_seen, scoped_front, IsTypedUse, IsTyped, IsBody, IsTypes}
use Rattle.idl_typing.specs.ReadTypes.{NamesRead, TypedRead, BodiesOver, BodiesRead, TagsOver, TagsRead, OperationsOver, OperationsRead, AreRead, bodies_in, bodies_front, called_in, called_front}
use Rattle.idl_declared_types.specs.declared.types.OperationTypes.{OperationTypes}
use Rattle.idl_declared_types.specs.SeenOperations.{Called, called, IsOperation, HasTags, HasOperations}
use Rattle.idl_declared_types.proofs.Fronts.{scoped_front_all}

-- before the first node
pub none_read : (known : Known) (n : program_nodes.Nodes) (t : Types) (names : List (List ℕ × ℕ)) → names ≡ [] → t.typed.items ≡ [] → t.bodies.items ≡ [] → t.by_place ≡ [] → t.operations.items ≡ []
    → AreRead known n 0 t names
none_read known n t names none typed bodies places operations = record {
  names_read = subst (λ (l : List (List ℕ × ℕ)). NamesRead known n 0 t.kinds l) (sym none) (record { within = refl; agree = λ x. refl });
  typed_read = subst (λ (l : List Typed). TypedRead known n 0 t.kinds l) (sym typed)
      (record { count = refl; typed = λ j it u a b. absurd (none-some u b); within = λ j u b. absurd (none-some u b) });
  bodies_read = subst (λ (l : List BodyTypes). BodiesRead known n 0 t.kinds l t.by_place) (sym bodies)
      (subst (λ (p : List (Place × ℕ)). BodiesRead known n 0 t.kinds [] p) (sym places)
      (record { count = refl; body = λ j body b x y. absurd (none-some b y); within = λ j b y. absurd (none-some b y); first = λ place. refl; inside = λ place j f. absurd (none-some j f) }));
  tags_read = subst (λ (l : List BodyTypes). TagsRead known n 0 t.kinds l) (sym bodies)
      (record { count = refl; tag = λ j body b x y. absurd (none-some b y); within = λ j b y. absurd (none-some b y) });
  operations_read = subst (λ (l : List OperationTypes). OperationsRead known n 0 t.kinds l) (sym operations)
      (record { count = refl; operation = λ j o u x y. absurd (none-some u y); parameters = λ j u y. absurd (none-some u y); result = λ j u y. absurd (none-some u y) });
}

use_in : (known : Known) (nodes : List Scoped) (ks : List Kind) (u : Use) (t : Typed) → IsTypedUse (bare known) ks u t → IsTypedUse (record { known = known; nodes = nodes }) ks u t
use_in known nodes ks u t h = record { declared_as = h.declared_as; of = h.of; no_variable = h.no_variable; wrong_variable = h.wrong_variable; wrong_switch_variable = h.wrong_switch_variable }

typed_in : {A : Type 0} (known : Known) (nodes : List Scoped) (names : Names) (ks : List Kind) (lists : List (Vec declared.Declared A)) (it : program_node.Node) (t : Typed)
    → IsTyped (bare known) names ks lists it t → IsTyped (record { known = known; nodes = nodes }) names ks lists it t
typed_in known nodes names ks lists (node.Declarator list index d) t h = use_in known nodes ks _ t h
typed_in known nodes names ks lists (node.Result r) t h = use_in known nodes ks _ t h
typed_in known nodes names ks lists (node.Switch c of) t h = h
typed_in known nodes names ks lists (node.Tag c kind tag) t h = h
typed_in known nodes names ks lists (node.Body c body) t h = h
typed_in known nodes names ks lists (node.Labels c body) t h = h
typed_in known nodes names ks lists (node.Header c) t h = tt
typed_in known nodes names ks lists (node.Attributes c) t h = tt
typed_in known nodes names ks lists (node.Enumerators c list) t h = tt
typed_in known nodes names ks lists (node.EmptyArm c) t h = tt
typed_in known nodes names ks lists (node.Constant c of star value) t h = tt
typed_in known nodes names ks lists (node.Type c of) t h = tt
typed_in known nodes names ks lists (node.Operation r parameters) t h = tt

body_in : (known : Known) (nodes : List Scoped) (n : program_nodes.Nodes) (ks : List Kind) (body : Body) (b : BodyTypes) → IsBody (bare known) n ks body b
    → IsBody (record { known = known; nodes = nodes }) n ks body b
body_in known nodes n ks body b h = record { place = h.place; nonencapsulated = h.nonencapsulated; parts = h.parts; values = h.values; node = h.node }

-- after the last node
pub all_read : (known : Known) (n : program_nodes.Nodes) (i : ℕ) (t : Types) (names : List (List ℕ × ℕ)) → i ≡ length n.items.items → AreRead known n i t names
    → IsTypes (scene_seen known n) n t
all_read known n i t names end h =
    let nodes = (scene_seen known n).nodes in
    let front : bodies_front known n i ≡ bodies (scene_seen known n) = ap (bodies_front known n) end ∙ ap bodies_in (scoped_front_all known n) in
    let over = subst (λ (l : List Body). BodiesOver known n l t.kinds t.bodies.items t.by_place) front h.bodies_read in
    record {
      count = h.typed_read.count ∙ end;
      typed = λ j it u a b. typed_in known nodes _ t.kinds n.lists.items it u (h.typed_read.typed j it u a b);
      body_count = over.count;
      body = λ j body b x y. body_in known nodes n t.kinds body b (over.body j body b x y);
      first = over.first;
    }

pub all_tags : (known : Known) (n : program_nodes.Nodes) (i : ℕ) (t : Types) (names : List (List ℕ × ℕ)) → i ≡ length n.items.items → AreRead known n i t names
    → HasTags (scene_seen known n) t
all_tags known n i t names end h =
    let front : bodies_front known n i ≡ bodies (scene_seen known n) = ap (bodies_front known n) end ∙ ap bodies_in (scoped_front_all known n) in
    let over = subst (λ (l : List Body). TagsOver l t.kinds t.bodies.items) front h.tags_read in
    record { tag = over.tag }

operation_in : (known : Known) (nodes : List Scoped) (n : program_nodes.Nodes) (ks : List Kind) (o : Called) (t : OperationTypes) → IsOperation (bare known) n ks o t
    → IsOperation (record { known = known; nodes = nodes }) n ks o t
operation_in known nodes n ks o t h = record { parameters = h.parameters; result = h.result; node = h.node }

pub all_operations : (known : Known) (n : program_nodes.Nodes) (i : ℕ) (t : Types) (names : List (List ℕ × ℕ)) → i ≡ length n.items.items → AreRead known n i t names
    → HasOperations (scene_seen known n) n t
all_operations known n i t names end h =
    let nodes = (scene_seen known n).nodes in
    let front : called_front known n i ≡ called (scene_seen known n) = ap (called_front known n) end ∙ ap called_in (scoped_front_all known n) in
    let over = subst (λ (l : List Called). OperationsOver known n l t.kinds t.operations.items) front h.operations_read in
    record { count = over.count; operation = λ j o u x y. operation_in known nodes n t.kinds o u (over.operation j o u x y) }
