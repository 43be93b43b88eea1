-- Nodes that no rule on attribute lists speaks of.
use Rattle.std.proofs.Common.{◌≡◌, ℕ, List, [], ◌∷◌, ◌++◌, map, Vec, refl}
use Rattle.idl_grammar.specs.Tree.{TypeSpec, Enumerator}
use Rattle.idl_constructs.specs.declared.nodes.Construct as program
use Rattle.idl_constructs.specs.declared.nodes.Declared as declared
use Rattle.idl_constructs.specs.declared.nodes.Node as program_node
use Rattle.idl_constructs.specs.declared.nodes.Node.TheVariants as node
use Rattle.idl_rule_definitions.specs.Nodes.{Construct, ArmLabel, EnumeratorNode, label_nodes, labels_of}
use Rattle.idl_constructs.specs.SeenNodes.{seen_construct, seen_node}
use Rattle.idl_grammar.specs.Seen.{seen_type, seen_enumerator}
use Rattle.idl_constructs.specs.ListBreaches.{list_breaches}

of_enumerators : (c : Construct) (es : List Enumerator) → list_breaches (map (λ e. EnumeratorNode c e.name) es) ≡ []
of_enumerators c [] = refl
of_enumerators c (e ∷ es) = of_enumerators c es

of_labels : (c : Construct) (body : TypeSpec) (before ls : List ArmLabel) → list_breaches (label_nodes c body before ls) ≡ []
of_labels c body before [] = refl
of_labels c body before (l ∷ ls) = of_labels c body (before ++ l ∷ []) ls

pub nothing_there : {A : Type 0} (lists : List (Vec declared.Declared A)) (n : program_node.Node)
    → ((x : program.Construct) → n ≡ node.Header x → ⊥) → ((x : program.Construct) → n ≡ node.Attributes x → ⊥) → list_breaches (seen_node lists n) ≡ []
nothing_there lists (node.Header c) h a = absurd (h c refl)
nothing_there lists (node.Attributes c) h a = absurd (a c refl)
nothing_there lists (node.Switch c of) h a = refl
nothing_there lists (node.Tag c kind tag) h a = refl
nothing_there lists (node.Body c body) h a = refl
nothing_there lists (node.Enumerators c list) h a = of_enumerators (seen_construct c) (map seen_enumerator list.now)
nothing_there lists (node.Labels c body) h a = of_labels (seen_construct c) (seen_type body.now) [] (labels_of (seen_type body.now))
nothing_there lists (node.EmptyArm c) h a = refl
nothing_there lists (node.Declarator list index it) h a = refl
nothing_there lists (node.Result it) h a = refl
nothing_there lists (node.Constant c of star value) h a = refl
nothing_there lists (node.Type c of) h a = refl
nothing_there lists (node.Operation it parameters) h a = refl
