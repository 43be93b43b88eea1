-- Where no rule is broken, what a rule asks of each declarator's type holds of each type in the table.
use Rattle.std.proofs.Common.{◌≡◌, ℕ, Bool, true, false, not, ◌||◌, ◌&&◌, List, [], ◌∷◌, ◌++◌, map, refl, ap, ◌∙◌}
use Rattle.std.specs.List.{list_any, list_all, flat_map}
use Rattle.std.proofs.lemmas.List.Folds.{list_all-append, list_all-map}
use Rattle.nd_base.specs.declared.octets.Place.{Place}
use Rattle.idl_grammar.specs.declared.types.TagKind.{TagKind}
use Rattle.idl_grammar.specs.declared.types.TagKind.TheVariants as tag_kind
use Rattle.idl_grammar.specs.declared.words.Spelling.{Spelling}
use Rattle.idl_grammar.specs.Tree.{TypeSpec}
use Rattle.idl_grammar.specs.Tree as tree
use Rattle.idl_scope.specs.Known.{Known}
use Rattle.idl_rule_definitions.specs.Nodes.{Construct, place_in, Node, HeaderNode, AttributeNode, SwitchNode, TagNode, BodyNode, EnumeratorNode, LabelNode, EmptyArmNode, DeclaratorNode, ConstantNode}
use Rattle.idl_rule_definitions.specs.Nodes.{TypeNode, OperationNode}
use Rattle.idl_rule_definitions.specs.Types.{IdlType, Void, Handle, ContextHandle, Basic, Struct, Union, Enum, Array, Text, Pointer, Pipe, Names, type_of, type_of_tag}
use Rattle.idl_rule_definitions.specs.Scene.{Scoped, Scene, Use, use_of, chain, type_of_body}
use Rattle.idl_rule_definitions.specs.Rules.{breach, breaches_at, breaches_in}
use Rattle.idl_rule_definitions.specs.DeclarationRules.{too_many}
use Rattle.idl_rule_definitions.specs.Numbering.{Needed, needed, built, needed_by, needed_types, own_types, first_needed, has_own_number, same_type}
use Rattle.idl_rule_definitions.specs.TypeRules.{refers_to_reference}
use Rattle.idl_rule_definitions.specs.Kept.{KeepsUse}
use Rattle.idl_legal_laws.proofs.Kept.{neither, keeps_use}
use Rattle.idl_rule_definitions.specs.declared.rule.TheConstants as Rule
use Rattle.std.proofs.lemmas.Bool.{and_parts as apart, or_parts as none_of, and_from}

-- ## From nodes to the types that they need

abbrev pub all_are : (IdlType → Bool) → List Needed → Bool
all_are p ns = list_all (λ n. p n.type) ns

abbrev Each : Scene → (IdlType → Bool) → Type 0
Each s p = (names : Names) (node : Node) → breaches_at s names node ≡ [] → all_are p (needed_by s.known names node) ≡ true

all_needed : (s : Scene) (p : IdlType → Bool) → Each s p → (ns : List Scoped) → flat_map (λ n. breaches_at s n.names n.node) ns ≡ []
    → all_are p (flat_map (λ n. needed_by s.known n.names n.node) ns) ≡ true
all_needed s p each [] h = refl
all_needed s p each (n ∷ ns) h =
    let parts = neither (breaches_at s n.names n.node) (flat_map (λ m. breaches_at s m.names m.node) ns) h in
    list_all-append (λ m. p m.type) (needed_by s.known n.names n.node) (flat_map (λ m. needed_by s.known m.names m.node) ns)
    ∙ and_from (all_are p (needed_by s.known n.names n.node)) (all_are p (flat_map (λ m. needed_by s.known m.names m.node) ns))
    (each n.names n.node parts.0) (all_needed s p each ns parts.1)

kept_or_not : (p : IdlType → Bool) (n : Needed) (ns others : List Needed) (b : Bool) → p n.type ≡ true → all_are p ns ≡ true → all_are p others ≡ true
    → all_are p (elim b [ true ↦ n ∷ ns | false ↦ others ]) ≡ true
kept_or_not p n ns others true h i j = and_from (p n.type) (all_are p ns) h i
kept_or_not p n ns others false h i j = j

pub all_first : (p : IdlType → Bool) (before : List IdlType) (ns : List Needed) → all_are p ns ≡ true → all_are p (first_needed before ns) ≡ true
all_first p before [] h = refl
all_first p before (n ∷ ns) h =
    let parts = apart (p n.type) (all_are p ns) h in
    kept_or_not p n (first_needed (n.type ∷ before) ns) (first_needed before ns) (has_own_number n.type && not (list_any (same_type n.type) before)) parts.0
    (all_first p (n.type ∷ before) ns parts.1) (all_first p before ns parts.1)

-- what holds of the types of each node holds of all types in the table
pub all_own : (s : Scene) (p : IdlType → Bool) → Each s p → breaches_in s ≡ [] → all_are p (own_types s) ≡ true
unfolding own_types needed_types
all_own s p each h =
    let parts = neither (flat_map (λ n. breaches_at s n.names n.node) s.nodes) (map (λ c. breach Rule.COUNTS (place_in c c.at)) (too_many s)) h in
    all_first p [] (needed_types s) (all_needed s p each s.nodes parts.0)

-- ## Rules that go through all parts of a type

-- a fault that no struct, union or enum is by itself
pub record IsOfDerived (bad : IdlType → Bool) : Type 0 where
  pub structs : (p : Place) → bad (Struct p) ≡ false
  pub unions : (p : Place) → bad (Union p) ≡ false
  pub enums : (p : Place) → bad (Enum p) ≡ false

abbrev pub is_good : (IdlType → Bool) → IdlType → Bool
is_good bad t = not (bad t)

good : (bad : IdlType → Bool) (t : IdlType) → bad t ≡ false → is_good bad t ≡ true
good bad t h = ap not h

pub one_good : (bad : IdlType → Bool) (c : Construct) (t : IdlType) → bad t ≡ false → all_are (is_good bad) (needed c t ∷ []) ≡ true
one_good bad c t h = and_from (is_good bad t) true (good bad t h) refl

behind : (bad : IdlType → Bool) (ts : List IdlType) (t : IdlType) → list_all (is_good bad) ts ≡ true → bad t ≡ false → list_all (is_good bad) (ts ++ t ∷ []) ≡ true
behind bad ts t h i = list_all-append (is_good bad) ts (t ∷ []) ∙ and_from (list_all (is_good bad) ts) (is_good bad t && true) h (and_from (is_good bad t) true (good bad t i) refl)

alone : (bad : IdlType → Bool) (t : IdlType) → (bad t || false) ≡ false → list_all (is_good bad) (t ∷ []) ≡ true
alone bad t h = and_from (is_good bad t) true (good bad t (none_of (bad t) false h).0) refl

pub built_good : (bad : IdlType → Bool) (t : IdlType) → list_any bad (chain t) ≡ false → list_all (is_good bad) (built t) ≡ true
built_good bad (Array t m v) h = let e = none_of (bad (Array t m v)) (list_any bad (chain t)) h in behind bad (built t) (Array t m v) (built_good bad t e.1) e.0
built_good bad (Text t m) h = let e = none_of (bad (Text t m)) (list_any bad (chain t)) h in behind bad (built t) (Text t m) (built_good bad t e.1) e.0
built_good bad (Pointer c t) h = let e = none_of (bad (Pointer c t)) (list_any bad (chain t)) h in behind bad (built t) (Pointer c t) (built_good bad t e.1) e.0
built_good bad (Pipe t) h = let e = none_of (bad (Pipe t)) (list_any bad (chain t)) h in behind bad (built t) (Pipe t) (built_good bad t e.1) e.0
built_good bad Void h = alone bad Void h
built_good bad Handle h = alone bad Handle h
built_good bad ContextHandle h = alone bad ContextHandle h
built_good bad (Basic p) h = alone bad (Basic p) h
built_good bad (Struct p) h = alone bad (Struct p) h
built_good bad (Union p) h = alone bad (Union p) h
built_good bad (Enum p) h = alone bad (Enum p) h

pub tag_good : (bad : IdlType → Bool) → IsOfDerived bad → (known : Known) (file : ℕ) (kind : TagKind) (tag : Spelling) → bad (type_of_tag known file kind tag) ≡ false
tag_good bad is known file tag_kind.Struct tag = is.structs _
tag_good bad is known file tag_kind.Union tag = is.unions _
tag_good bad is known file tag_kind.Enum tag = is.enums _

pub body_good : (bad : IdlType → Bool) → IsOfDerived bad → (c : Construct) (names : Names) (body : TypeSpec) → bad (type_of_body (record { construct = c; names = names; body = body })) ≡ false
body_good bad is c names (tree.Struct at tag ms) = is.structs _
body_good bad is c names (tree.Enum at tag es) = is.enums _
body_good bad is c names (tree.EncapsulatedUnion at tag d name cases) = is.unions _
body_good bad is c names (tree.NonEncapsulatedUnion at tag arms) = is.unions _
body_good bad is c names (tree.Simple t) = is.unions _
body_good bad is c names (tree.Name n) = is.unions _
body_good bad is c names (tree.Tag at kind tag) = is.unions _

by_node : (s : Scene) (bad : IdlType → Bool) → IsOfDerived bad → ((u : Use) → KeepsUse s u → list_any bad (chain u.type) ≡ false) → Each s (is_good bad)
by_node s bad is uses names (TagNode c kind tag) h = one_good bad c (type_of_tag s.known c.file kind tag) (tag_good bad is s.known c.file kind tag)
by_node s bad is uses names (BodyNode c body) h = one_good bad c (type_of_body (record { construct = c; names = names; body = body })) (body_good bad is c names body)
by_node s bad is uses names (DeclaratorNode list index d) h =
    let u = use_of s.known names list index d in
    list_all-map (λ m. is_good bad m.type) (needed d.construct) (built (type_of s.known names d)) ∙ built_good bad (type_of s.known names d) (uses u (keeps_use s u h))
by_node s bad is uses names (HeaderNode c at) h = refl
by_node s bad is uses names (AttributeNode c before a) h = refl
by_node s bad is uses names (SwitchNode c t) h = refl
by_node s bad is uses names (EnumeratorNode c name) h = refl
by_node s bad is uses names (LabelNode c body before l) h = refl
by_node s bad is uses names (EmptyArmNode c) h = refl
by_node s bad is uses names (ConstantNode c t star value) h = refl
by_node s bad is uses names (TypeNode c t) h = refl
by_node s bad is uses names (OperationNode c name ps result) h = refl

-- a rule that goes through all parts of each declarator's type holds of each type in the table
pub all_own_good : (s : Scene) (bad : IdlType → Bool) → IsOfDerived bad → ((u : Use) → KeepsUse s u → list_any bad (chain u.type) ≡ false) → breaches_in s ≡ []
    → all_are (is_good bad) (own_types s) ≡ true
all_own_good s bad is uses h = all_own s (is_good bad) (by_node s bad is uses) h

-- no pointer in the table points to a reference pointer
pub no_pointer_to_reference : (s : Scene) → breaches_in s ≡ [] → all_are (is_good refers_to_reference) (own_types s) ≡ true
no_pointer_to_reference s h =
    all_own_good s refers_to_reference (record { structs = λ p. refl; unions = λ p. refl; enums = λ p. refl }) (λ u k. k.referents) h
