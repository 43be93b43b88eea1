-- In the table no pointer points to a reference pointer.
use Rattle.std.proofs.Common.{◌≡◌, ℕ, Bool, true, false, not, ◌||◌, ◌&&◌, List, [], ◌∷◌, ◌++◌, map, Option, Some, None, refl, sym, ap, ◌∙◌, subst}
use Rattle.std.specs.List.{list_any, list_all, flat_map}
use Rattle.std.proofs.lemmas.List.Folds.{list_any-append, list_all-append, list_all-map}
use Rattle.nd_types.specs.declared.types.Field.{Field}
use Rattle.nd_types.specs.Table.{Table}
use Rattle.nd_types.specs.Kinds as kinds
use Rattle.nd_types.specs.Kinds.{basic_types}
use Rattle.nd_types.specs.Legal.{refers_to_no_reference}
use Rattle.idl_grammar.specs.declared.attributes.PointerClass.TheVariants as class
use Rattle.idl_grammar.specs.declared.types.TagKind.{TagKind}
use Rattle.idl_grammar.specs.declared.types.TagKind.TheVariants as tag_kind
use Rattle.idl_grammar.specs.declared.words.Spelling.{Spelling}
use Rattle.idl_grammar.specs.Tree.{TypeSpec}
use Rattle.idl_grammar.specs.Tree as tree
use Rattle.idl_scope.specs.Known.{Known}
use Rattle.idl_rule_definitions.specs.Nodes.{Construct, Node, HeaderNode, AttributeNode, SwitchNode, TagNode, BodyNode, EnumeratorNode, LabelNode, EmptyArmNode, DeclaratorNode, ConstantNode, TypeNode}
use Rattle.idl_rule_definitions.specs.Nodes.{OperationNode}
use Rattle.idl_rule_definitions.specs.Types.{IdlType, Void, Handle, ContextHandle, Basic, Struct, Union, Enum, Array, Text, Pointer, Pipe, Names, type_of, type_of_tag, is_void, is_handle}
use Rattle.idl_rule_definitions.specs.Types.{is_reference}
use Rattle.idl_rule_definitions.specs.Scene.{Scoped, Scene, Body, body_of, type_of_body}
use Rattle.idl_rule_definitions.specs.Rules.{breaches_in}
use Rattle.idl_rule_definitions.specs.TypeRules.{refers_to_reference}
use Rattle.idl_rule_definitions.specs.Numbering.{Needed, needed, built, needed_by, needed_types, own_types, same_type, is_numbered, is_numbered_or_none}
use Rattle.idl_rule_definitions.specs.Meaning.{definition, types_of, struct_of, defined_by, defined_at, body_if, is_struct, is_union, is_enum}
use Rattle.idl_rule_definitions.proofs.Equal.{type_is}
use Rattle.idl_legal_laws.proofs.Numbers.{at_its_number}
use Rattle.idl_rule_definitions.proofs.Needed.{itself, is_among, each_one, all_among}
use Rattle.std.proofs.lemmas.Bool.{or_right as right, and_parts as parts, not-true as untrue, or_left as left, and_from}
use Rattle.idl_legal_laws.proofs.KeptTypes.{all_are, all_first, no_pointer_to_reference}
use Rattle.idl_legal_laws.proofs.Inner.{is_hollow, all_solid}

-- ## What a needed type is made of is needed

-- what a type is made of, or points to; a type that is made of none itself
abbrev pub inner_of : IdlType → IdlType
inner_of (Array t m v) = t
inner_of (Text t m) = t
inner_of (Pointer c t) = t
inner_of (Pipe t) = t
inner_of t = t

abbrev stands : List IdlType → IdlType → Bool
stands us t = list_any (λ u. same_type u t) us

in_front : (us : List IdlType) (x t : IdlType) → stands us t ≡ true → stands (us ++ x ∷ []) t ≡ true
in_front us x t h = list_any-append (λ u. same_type u t) us (x ∷ []) ∙ left (stands us t) (stands (x ∷ []) t) h

at_end : (us : List IdlType) (x : IdlType) → stands (us ++ x ∷ []) x ≡ true
at_end us x = list_any-append (λ u. same_type u x) us (x ∷ []) ∙ right (stands us x) (stands (x ∷ []) x) (left (same_type x x) false (itself x))

pub last : (t : IdlType) → stands (built t) t ≡ true
last (Array t m v) = at_end (built t) (Array t m v)
last (Text t m) = at_end (built t) (Text t m)
last (Pointer c t) = at_end (built t) (Pointer c t)
last (Pipe t) = at_end (built t) (Pipe t)
last Void = refl
last Handle = refl
last ContextHandle = refl
last (Basic p) = left (same_type (Basic p) (Basic p)) false (itself (Basic p))
last (Struct p) = left (same_type (Struct p) (Struct p)) false (itself (Struct p))
last (Union p) = left (same_type (Union p) (Union p)) false (itself (Union p))
last (Enum p) = left (same_type (Enum p) (Enum p)) false (itself (Enum p))

either_front : (us : List IdlType) (x t : IdlType) → (stands us t ≡ true → stands us (inner_of t) ≡ true) → stands us (inner_of x) ≡ true
    → (b : Bool) → stands us t ≡ b → (b || (same_type x t || false)) ≡ true → stands us (inner_of t) ≡ true
either_front us x t ih l true e h = ih e
either_front us x t ih l false e h = subst (λ y. stands us (inner_of y) ≡ true) (type_is x t (one (same_type x t) h)) l
  where
    one : (a : Bool) → (a || false) ≡ true → a ≡ true
    one true h = refl
    one false h = h

step : (us : List IdlType) (x t : IdlType) → (stands us t ≡ true → stands us (inner_of t) ≡ true) → stands us (inner_of x) ≡ true → stands (us ++ x ∷ []) t ≡ true
    → stands (us ++ x ∷ []) (inner_of t) ≡ true
step us x t ih l h =
    in_front us x (inner_of t) (either_front us x t ih l (stands us t) refl (sym (list_any-append (λ u. same_type u t) us (x ∷ [])) ∙ h))

single : (x t : IdlType) → inner_of x ≡ x → (same_type x t || false) ≡ true → stands (x ∷ []) (inner_of t) ≡ true
single x t e h = subst (λ y. stands (x ∷ []) (inner_of y) ≡ true) (type_is x t (one (same_type x t) h)) (subst (λ y. stands (x ∷ []) y ≡ true) (sym e) (left (same_type x x) false (itself x)))
  where
    one : (a : Bool) → (a || false) ≡ true → a ≡ true
    one true h = refl
    one false h = h

closed : (x t : IdlType) → stands (built x) t ≡ true → stands (built x) (inner_of t) ≡ true
closed (Array u m v) t h = step (built u) (Array u m v) t (closed u t) (last u) h
closed (Text u m) t h = step (built u) (Text u m) t (closed u t) (last u) h
closed (Pointer c u) t h = step (built u) (Pointer c u) t (closed u t) (last u) h
closed (Pipe u) t h = step (built u) (Pipe u) t (closed u t) (last u) h
closed Void t h = single Void t refl h
closed Handle t h = single Handle t refl h
closed ContextHandle t h = single ContextHandle t refl h
closed (Basic p) t h = single (Basic p) t refl h
closed (Struct p) t h = single (Struct p) t refl h
closed (Union p) t h = single (Union p) t refl h
closed (Enum p) t h = single (Enum p) t refl h

pub as_list : (c : Construct) (us : List IdlType) (t : IdlType) → is_among (map (needed c) us) t ≡ stands us t
as_list c [] t = refl
as_list c (u ∷ us) t = ap (λ b. same_type u t || b) (as_list c us t)

of_tag : (t : IdlType) → inner_of t ≡ t → (c : Construct) (u : IdlType) → is_among (needed c t ∷ []) u ≡ true → is_among (needed c t ∷ []) (inner_of u) ≡ true
of_tag t e c u h = single t u e h

tag_alone : (known : Known) (file : ℕ) (kind : TagKind) (tag : Spelling) → inner_of (type_of_tag known file kind tag) ≡ type_of_tag known file kind tag
tag_alone known file tag_kind.Struct tag = refl
tag_alone known file tag_kind.Union tag = refl
tag_alone known file tag_kind.Enum tag = refl

body_alone : (c : Construct) (names : Names) (body : TypeSpec)
    → inner_of (type_of_body (record { construct = c; names = names; body = body })) ≡ type_of_body (record { construct = c; names = names; body = body })
body_alone c names (tree.Struct at tag ms) = refl
body_alone c names (tree.Enum at tag es) = refl
body_alone c names (tree.EncapsulatedUnion at tag d name cases) = refl
body_alone c names (tree.NonEncapsulatedUnion at tag arms) = refl
body_alone c names (tree.Simple t) = refl
body_alone c names (tree.Name n) = refl
body_alone c names (tree.Tag at kind tag) = refl

none : (t : IdlType) → is_among [] t ≡ true → is_among [] (inner_of t) ≡ true
none t h = absurd (let e : false ≡ true = h in cc)

by_node : (known : Known) (names : Names) (node : Node) (t : IdlType) → is_among (needed_by known names node) t ≡ true → is_among (needed_by known names node) (inner_of t) ≡ true
by_node known names (TagNode c kind tag) t h = of_tag (type_of_tag known c.file kind tag) (tag_alone known c.file kind tag) c t h
by_node known names (BodyNode c body) t h = of_tag (type_of_body (record { construct = c; names = names; body = body })) (body_alone c names body) c t h
by_node known names (DeclaratorNode list index d) t h =
    as_list d.construct (built (type_of known names d)) (inner_of t) ∙ closed (type_of known names d) t (sym (as_list d.construct (built (type_of known names d)) t) ∙ h)
by_node known names (HeaderNode c at) t h = none t h
by_node known names (AttributeNode c before a) t h = none t h
by_node known names (SwitchNode c u) t h = none t h
by_node known names (EnumeratorNode c name) t h = none t h
by_node known names (LabelNode c body before l) t h = none t h
by_node known names (EmptyArmNode c) t h = none t h
by_node known names (ConstantNode c u star value) t h = none t h
by_node known names (TypeNode c u) t h = none t h
by_node known names (OperationNode c name ps result) t h = none t h

either : (a b c d : Bool) → (a ≡ true → c ≡ true) → (b ≡ true → d ≡ true) → (a || b) ≡ true → (c || d) ≡ true
either true b c d f g h = left c d (f refl)
either false b c d f g h = right c d (g h)

closed_all : (known : Known) (ns : List Scoped) (t : IdlType) → is_among (flat_map (λ n. needed_by known n.names n.node) ns) t ≡ true
    → is_among (flat_map (λ n. needed_by known n.names n.node) ns) (inner_of t) ≡ true
closed_all known [] t h = none t h
closed_all known (n ∷ ns) t h =
    let here = needed_by known n.names n.node in
    let rest = flat_map (λ m. needed_by known m.names m.node) ns in
    list_any-append (λ m. same_type m.type (inner_of t)) here rest
    ∙ either (is_among here t) (is_among rest t) (is_among here (inner_of t)) (is_among rest (inner_of t)) (by_node known n.names n.node t) (closed_all known ns t)
    (sym (list_any-append (λ m. same_type m.type t) here rest) ∙ h)

inner_needed : (s : Scene) (t : IdlType) → is_among (needed_types s) t ≡ true → is_among (needed_types s) (inner_of t) ≡ true
unfolding needed_types
inner_needed s t h = closed_all s.known s.nodes t h

-- what a type in the table is made of has a number
pub inner_numbered : (s : Scene) → all_are (λ t. is_numbered_or_none s (inner_of t)) (own_types s) ≡ true
unfolding own_types
inner_numbered s =
    all_first (λ t. is_numbered_or_none s (inner_of t)) [] (needed_types s)
    (all_among (λ t. is_numbered_or_none s (inner_of t)) (needed_types s) (λ t h. each_one s (inner_of t) (inner_needed s t h)))

-- ## Pointers in the table

pub numbered : (s : Scene) (t : IdlType) → (is_void t || is_handle t) ≡ false → is_numbered_or_none s t ≡ true → is_numbered s t ≡ true
numbered s Void h i = absurd (let e : true ≡ false = h in cc)
numbered s Handle h i = absurd (let e : true ≡ false = h in cc)
numbered s ContextHandle h i = i
numbered s (Basic p) h i = i
numbered s (Struct p) h i = i
numbered s (Union p) h i = i
numbered s (Enum p) h i = i
numbered s (Array t m v) h i = i
numbered s (Text t m) h i = i
numbered s (Pointer c t) h i = i
numbered s (Pipe t) h i = i

struct_none : (fs : List Field) → kinds.is_reference (Some (struct_of fs)) ≡ false
struct_none [] = refl
struct_none (f ∷ fs) = refl

body_none : (s : Scene) (b : Body) (t : TypeSpec) → kinds.is_reference (Some (defined_by s b t)) ≡ false
body_none s b (tree.Struct at tag ms) = struct_none _
body_none s b (tree.EncapsulatedUnion at tag d name cases) = refl
body_none s b (tree.NonEncapsulatedUnion at tag arms) = refl
body_none s b (tree.Enum at tag es) = refl
body_none s b (tree.Simple t) = refl
body_none s b (tree.Name n) = refl
body_none s b (tree.Tag at kind tag) = refl

found_none : (s : Scene) (o : Option Body) → kinds.is_reference (Some (defined_at s o)) ≡ false
found_none s None = refl
found_none s (Some b) = body_none s b b.body

alike : (s : Scene) (t : IdlType) → kinds.is_reference (Some (definition s t)) ≡ is_reference t
alike s (Pointer None t) = refl
alike s (Pointer (Some class.Reference) t) = refl
alike s (Pointer (Some class.Unique) t) = refl
alike s (Pointer (Some class.Full) t) = refl
alike s (Struct p) = found_none s (body_if is_struct (body_of s p))
alike s (Union p) = found_none s (body_if is_union (body_of s p))
alike s (Enum p) = found_none s (body_if is_enum (body_of s p))
alike s (Array t m v) = refl
alike s (Text t m) = refl
alike s (Pipe t) = refl
alike s Void = refl
alike s Handle = refl
alike s ContextHandle = refl
alike s (Basic p) = refl

struct_points : (types : Table) (fs : List Field) → refers_to_no_reference types (struct_of fs) ≡ true
struct_points types [] = refl
struct_points types (f ∷ fs) = refl

body_points : (types : Table) (s : Scene) (b : Body) (t : TypeSpec) → refers_to_no_reference types (defined_by s b t) ≡ true
body_points types s b (tree.Struct at tag ms) = struct_points types _
body_points types s b (tree.EncapsulatedUnion at tag d name cases) = refl
body_points types s b (tree.NonEncapsulatedUnion at tag arms) = refl
body_points types s b (tree.Enum at tag es) = refl
body_points types s b (tree.Simple t) = refl
body_points types s b (tree.Name n) = refl
body_points types s b (tree.Tag at kind tag) = refl

found_points : (types : Table) (s : Scene) (o : Option Body) → refers_to_no_reference types (defined_at s o) ≡ true
found_points types s None = refl
found_points types s (Some b) = body_points types s b b.body

fact : (s : Scene) (t : IdlType) → not (refers_to_reference t) ≡ true → not (is_hollow t) ≡ true → is_numbered_or_none s (inner_of t) ≡ true
    → refers_to_no_reference (types_of s) (definition s t) ≡ true
fact s (Pointer c t) h i j =
    let n = numbered s t (untrue (is_void t || is_handle t) i) j in
    ap (λ d. not (kinds.is_reference d) && true) (at_its_number s t n) ∙ ap (λ b. not b && true) (alike s t ∙ untrue (is_reference t) h)
fact s (Struct p) h i j = found_points (types_of s) s (body_if is_struct (body_of s p))
fact s (Union p) h i j = found_points (types_of s) s (body_if is_union (body_of s p))
fact s (Enum p) h i j = found_points (types_of s) s (body_if is_enum (body_of s p))
fact s (Array t m v) h i j = refl
fact s (Text t m) h i j = refl
fact s (Pipe t) h i j = refl
fact s Void h i j = refl
fact s Handle h i j = refl
fact s ContextHandle h i j = refl
fact s (Basic p) h i j = refl

together : (p q r z : IdlType → Bool) → ((t : IdlType) → p t ≡ true → q t ≡ true → r t ≡ true → z t ≡ true) → (ns : List Needed) → all_are p ns ≡ true → all_are q ns ≡ true
    → all_are r ns ≡ true → all_are z ns ≡ true
together p q r z f [] h i j = refl
together p q r z f (n ∷ ns) h i j =
    let a = parts (p n.type) (all_are p ns) h in
    let b = parts (q n.type) (all_are q ns) i in
    let c = parts (r n.type) (all_are r ns) j in
    and_from (z n.type) (all_are z ns) (f n.type a.0 b.0 c.0) (together p q r z f ns a.1 b.1 c.1)

-- where no rule is broken, no pointer in the table points to a reference pointer
pub table_referents : (s : Scene) → breaches_in s ≡ [] → list_all (refers_to_no_reference (types_of s)) (types_of s) ≡ true
table_referents s h =
    let own =
    together (λ t. not (refers_to_reference t)) (λ t. not (is_hollow t)) (λ t. is_numbered_or_none s (inner_of t))
    (λ t. refers_to_no_reference (types_of s) (definition s t)) (fact s) (own_types s) (no_pointer_to_reference s h) (all_solid s h) (inner_numbered s) in
    list_all-append (refers_to_no_reference (types_of s)) basic_types (map (λ n. definition s n.type) (own_types s))
    ∙ (list_all-map (refers_to_no_reference (types_of s)) (λ n. definition s n.type) (own_types s) ∙ own)
