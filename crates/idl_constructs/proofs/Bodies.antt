-- The nodes of a type, from what its form is.
use Rattle.std.proofs.Common.{◌≡◌, ◌∙◌, ℕ, refl, sym, ap, subst, List, [], ◌∷◌, ◌++◌, map, append_assoc, Option}
use Rattle.idl_grammar.specs.declared.words.Spelling.{Spelling}
use Rattle.idl_grammar.specs.declared.types.Discriminant.{Discriminant}
use Rattle.idl_grammar.specs.Tree.{TypeSpec, Members, Cases, Arms, Arm, Attributes, Declarator, Enumerator, Parameter}
use Rattle.idl_grammar.specs.Tree as tree
use Rattle.idl_rule_definitions.specs.Nodes.{Construct, BodyNode, SwitchNode, EnumeratorNode, type_nodes, member_nodes, declared_members, label_nodes, labels_of, case_nodes, arms_nodes, Position}
use Rattle.idl_rule_definitions.specs.Nodes.{Declared, Node, DeclaratorNode, OperationNode, attribute_nodes, switch_nodes, arm_nodes, inside, declared, result_of, parameter_nodes, declared_parameters}
use Rattle.idl_rule_definitions.specs.Nodes.{operation_nodes}

pub struct_nodes : (c : Construct) (t : TypeSpec) (at : ℕ) (tag : Option Spelling) (ms : Members) → t ≡ tree.Struct at tag ms
    → (BodyNode c t ∷ []) ++ member_nodes c (declared_members c ms) 0 ms ≡ type_nodes c t
struct_nodes c t at tag ms e = subst (λ (t : TypeSpec). (BodyNode c t ∷ []) ++ member_nodes c (declared_members c ms) 0 ms ≡ type_nodes c t) (sym e) refl

pub switched_nodes : (c : Construct) (t : TypeSpec) (at : ℕ) (tag : Option Spelling) (d : Discriminant) (name : Option Spelling) (cs : Cases) → t ≡ tree.EncapsulatedUnion at tag d name cs
    → (BodyNode c t ∷ []) ++ (SwitchNode c d.of ∷ []) ++ label_nodes c t [] (labels_of t) ++ case_nodes c cs ≡ type_nodes c t
switched_nodes c t at tag d name cs e =
    subst (λ (t : TypeSpec). (BodyNode c t ∷ []) ++ (SwitchNode c d.of ∷ []) ++ label_nodes c t [] (labels_of t) ++ case_nodes c cs ≡ type_nodes c t) (sym e) refl

pub union_nodes : (c : Construct) (t : TypeSpec) (at : ℕ) (tag : Option Spelling) (arms : Arms) → t ≡ tree.NonEncapsulatedUnion at tag arms
    → (BodyNode c t ∷ []) ++ label_nodes c t [] (labels_of t) ++ arms_nodes c arms ≡ type_nodes c t
union_nodes c t at tag arms e = subst (λ (t : TypeSpec). (BodyNode c t ∷ []) ++ label_nodes c t [] (labels_of t) ++ arms_nodes c arms ≡ type_nodes c t) (sym e) refl

pub enum_nodes : (c : Construct) (t : TypeSpec) (at : ℕ) (tag : Option Spelling) (es : List Enumerator) → t ≡ tree.Enum at tag es
    → (BodyNode c t ∷ []) ++ map (λ e. EnumeratorNode c e.name) es ≡ type_nodes c t
enum_nodes c t at tag es e = subst (λ (t : TypeSpec). (BodyNode c t ∷ []) ++ map (λ e. EnumeratorNode c e.name) es ≡ type_nodes c t) (sym e) refl

pub typed_nodes : (k : Construct) (p : Position) (x : Arm) (at : ℕ) (a : Option Attributes) (t : TypeSpec) (d : Declarator) (i : Construct) (r : Declared) → x ≡ tree.Typed at a t d
    → i ≡ inside k p at a
    → r ≡ declared i t d → attribute_nodes i ++ type_nodes i t ++ (DeclaratorNode [] 0 r ∷ []) ≡ arm_nodes k p x
typed_nodes k p x at a t d i r is here e =
    ap (λ (s : Declared). attribute_nodes i ++ type_nodes i t ++ (DeclaratorNode [] 0 s ∷ [])) e
    ∙ (ap (λ (j : Construct). attribute_nodes j ++ type_nodes j t ++ (DeclaratorNode [] 0 (declared j t d) ∷ [])) here ∙ sym (ap (λ (y : Arm). arm_nodes k p y) is))

pub operation_is : (k : Construct) (t : TypeSpec) (name : Spelling) (ps : List Parameter)
    → attribute_nodes k ++ type_nodes k t ++ (DeclaratorNode [] 0 (result_of k t name) ∷ []) ++ parameter_nodes k (declared_parameters k ps) 0 ps
    ++ (OperationNode k name (declared_parameters k ps) t ∷ [])
    ≡ operation_nodes k t name ps
operation_is k t name ps =
    regroup (attribute_nodes k) (type_nodes k t) (DeclaratorNode [] 0 (result_of k t name)) (parameter_nodes k (declared_parameters k ps) 0 ps) (OperationNode k name (declared_parameters k ps) t)
  where
    regroup : (a b : List Node) (x : Node) (l : List Node) (y : Node) → a ++ b ++ (x ∷ []) ++ l ++ (y ∷ []) ≡ a ++ b ++ x ∷ l ++ y ∷ []
    regroup a b x l y = simp append_assoc
