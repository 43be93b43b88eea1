-- Where no rule is broken: what is known of a member or parameter where it stands, and of its type in the table.
use Rattle.std.proofs.Common.{◌≡◌, ℕ, Bool, true, false, ◌&&◌, List, [], ◌∷◌, map, Option, Some, None, refl, sym, ap, arith, ◌∙◌}
use Rattle.std.specs.List.{list_all, list_any, flat_map}
use Rattle.std.proofs.lemmas.List.Folds.{list_all-map}
use Rattle.std.proofs.lemmas.Option.{slice_get_past}
use Rattle.nd_types.specs.declared.types.TypeDef.{TypeDef}
use Rattle.nd_types.specs.declared.types.Field.{Field}
use Rattle.nd_types.specs.declared.TheConstants.{HANDLE}
use Rattle.nd_types.specs.Table.{type_at}
use Rattle.nd_types.specs.Kinds.{pointee, pointee_by}
use Rattle.idl_grammar.specs.Tree.{TypeSpec}
use Rattle.idl_grammar.specs.Tree as tree
use Rattle.idl_rule_definitions.specs.Nodes.{World, Position, InMember, InParameter, place_in, Declared, attribute_nodes, DeclaratorNode}
use Rattle.idl_rule_definitions.specs.Types.{IdlType, Void, Handle, ContextHandle, Basic, Struct, Union, Enum, Array, Text, Pointer, Pipe, Names, type_of, is_void}
use Rattle.idl_rule_definitions.specs.Scene.{Scoped, Scene, scene_of, use_of, Body, body_of, chain}
use Rattle.idl_rule_definitions.specs.Rules.{Breach, breach, breaches_at, breaches_in, breaches}
use Rattle.idl_rule_definitions.specs.DeclarationRules.{too_many}
use Rattle.idl_rule_definitions.specs.TypeRules.{without_void}
use Rattle.idl_rule_definitions.specs.Kept.{KeepsUse}
use Rattle.idl_rule_definitions.specs.Numbering.{needed, built, needed_by, needed_types, number_of_type, is_numbered_or_none}
use Rattle.idl_rule_definitions.specs.Meaning.{definition, types_of, struct_of, defined_by, defined_at, body_if, is_struct, is_union, is_enum}
use Rattle.idl_legal_laws.proofs.Kept.{neither, keeps_use}
use Rattle.std.proofs.lemmas.Bool.{or_parts as none_of, and_parts as both_of, and_from}
use Rattle.idl_rule_definitions.proofs.Needed.{all_numbered}
use Rattle.idl_legal_laws.proofs.Numbers.{at_its_number}
use Rattle.idl_legal_laws.proofs.Few.{few_types}
use Rattle.idl_legal_laws.proofs.fields.FromNodes.{Test, stands_in, one_passes, node_passes, split_all, members_and_parameters_pass}
use Rattle.idl_rule_definitions.specs.declared.rule.TheConstants as Rule

-- ## The test of a node: it breaks no rule, and the types that it needs have numbers

abbrev pub is_nothing : List Breach → Bool
is_nothing [] = true
is_nothing (b ∷ bs) = false

pub nothing_is : (bs : List Breach) → is_nothing bs ≡ true → bs ≡ []
nothing_is [] h = refl
nothing_is (b ∷ bs) h = absurd (let e : false ≡ true = h in cc)

-- a node that breaks no rule, with types that have numbers
abbrev pub node_keeps : Scene → Test
node_keeps s names node = is_nothing (breaches_at s names node) && list_all (λ n. is_numbered_or_none s n.type) (needed_by s.known names node)

keeps_all : (s : Scene) (ns : List Scoped) → flat_map (λ n. breaches_at s n.names n.node) ns ≡ []
    → list_all (λ m. is_numbered_or_none s m.type) (flat_map (λ n. needed_by s.known n.names n.node) ns) ≡ true → list_all (λ n. node_keeps s n.names n.node) ns ≡ true
keeps_all s [] h i = refl
keeps_all s (n ∷ ns) h i =
    let x = neither (breaches_at s n.names n.node) (flat_map (λ m. breaches_at s m.names m.node) ns) h in
    let y = split_all (λ m. is_numbered_or_none s m.type) (needed_by s.known n.names n.node) (flat_map (λ m. needed_by s.known m.names m.node) ns) i in
    and_from (node_keeps s n.names n.node) (list_all (λ m. node_keeps s m.names m.node) ns)
    (and_from (is_nothing (breaches_at s n.names n.node)) (list_all (λ m. is_numbered_or_none s m.type) (needed_by s.known n.names n.node)) (ap is_nothing x.0) y.0)
    (keeps_all s ns x.1 y.1)

each_keeps : (s : Scene) → breaches_in s ≡ [] → list_all (λ n. node_keeps s n.names n.node) s.nodes ≡ true
unfolding needed_types
each_keeps s h =
    let x = neither (flat_map (λ n. breaches_at s n.names n.node) s.nodes) (map (λ c. breach Rule.COUNTS (place_in c c.at)) (too_many s)) h in
    keeps_all s s.nodes x.0 (all_numbered s)

-- where the files break no rule, so do the members of each struct and the parameters and result of each operation
pub all_keep : (w : World) → breaches w ≡ [] → list_all (λ n. node_passes (node_keeps (scene_of w)) n.names n.node) (scene_of w).nodes ≡ true
unfolding breaches
all_keep w h = members_and_parameters_pass w (node_keeps (scene_of w)) (each_keeps (scene_of w) h)

-- ## A declarator

-- the pointee of a pointer, and any other type itself
abbrev pub referent : IdlType → IdlType
referent (Pointer c t) = t
referent t = t

-- what a type is in the table; `handle_t` is not there
abbrev pub meant : Scene → IdlType → Option TypeDef
meant s Handle = None
meant s t = Some (definition s t)

-- a member or parameter where it stands
pub record Stands (s : Scene) (names : Names) (is_param : Bool) (list : List Declared) (index : ℕ) (d : Declared) : Type 0 where
  pub keeps : KeepsUse s (use_of s.known names list index d)
  -- what a declarator needs has numbers
  pub numbered : list_all (is_numbered_or_none s) (built (type_of s.known names d)) ≡ true
  pub attributes : list_all (node_keeps s names) (attribute_nodes d.construct) ≡ true
  pub position : stands_in is_param d.construct.position ≡ true

pub stands : (s : Scene) (names : Names) (is_param : Bool) (list : List Declared) (index : ℕ) (d : Declared) → one_passes (node_keeps s) names is_param list index d ≡ true
    → Stands s names is_param list index d
stands s names is_param list index d h =
    let n = DeclaratorNode list index d in
    let x = both_of (node_keeps s names n) (list_all (node_keeps s names) (attribute_nodes d.construct) && stands_in is_param d.construct.position) h in
    let y = both_of (is_nothing (breaches_at s names n)) (list_all (λ m. is_numbered_or_none s m.type) (needed_by s.known names n)) x.0 in
    let z = both_of (list_all (node_keeps s names) (attribute_nodes d.construct)) (stands_in is_param d.construct.position) x.1 in
    record {
      keeps = keeps_use s (use_of s.known names list index d) (nothing_is (breaches_at s names n) y.0);
      numbered = sym (list_all-map (λ m. is_numbered_or_none s m.type) (needed d.construct) (built (type_of s.known names d))) ∙ y.1;
      attributes = z.0;
      position = z.1;
    }

-- ## Types in the table

-- a type is the last of those of which it is built
pub last_of : (p : IdlType → Bool) (t : IdlType) → list_all p (built t) ≡ true → p t ≡ true
last_of p (Array t m v) h = (both_of (p (Array t m v)) true (split_all p (built t) (Array t m v ∷ []) h).1).0
last_of p (Text t m) h = (both_of (p (Text t m)) true (split_all p (built t) (Text t m ∷ []) h).1).0
last_of p (Pointer c t) h = (both_of (p (Pointer c t)) true (split_all p (built t) (Pointer c t ∷ []) h).1).0
last_of p (Pipe t) h = (both_of (p (Pipe t)) true (split_all p (built t) (Pipe t ∷ []) h).1).0
last_of p Void h = (both_of (p Void) true h).0
last_of p Handle h = (both_of (p Handle) true h).0
last_of p ContextHandle h = (both_of (p ContextHandle) true h).0
last_of p (Basic q) h = (both_of (p (Basic q)) true h).0
last_of p (Struct q) h = (both_of (p (Struct q)) true h).0
last_of p (Union q) h = (both_of (p (Union q)) true h).0
last_of p (Enum q) h = (both_of (p (Enum q)) true h).0

-- and the first of its chain
pub first_of : (p : IdlType → Bool) (t : IdlType) → list_any p (chain t) ≡ false → p t ≡ false
first_of p (Array t m v) h = (none_of (p (Array t m v)) (list_any p (chain t)) h).0
first_of p (Text t m) h = (none_of (p (Text t m)) (list_any p (chain t)) h).0
first_of p (Pointer c t) h = (none_of (p (Pointer c t)) (list_any p (chain t)) h).0
first_of p (Pipe t) h = (none_of (p (Pipe t)) (list_any p (chain t)) h).0
first_of p Void h = (none_of (p Void) false h).0
first_of p Handle h = (none_of (p Handle) false h).0
first_of p ContextHandle h = (none_of (p ContextHandle) false h).0
first_of p (Basic q) h = (none_of (p (Basic q)) false h).0
first_of p (Struct q) h = (none_of (p (Struct q)) false h).0
first_of p (Union q) h = (none_of (p (Union q)) false h).0
first_of p (Enum q) h = (none_of (p (Enum q)) false h).0

-- `handle_t` has a number past each table
handle_past : (s : Scene) → breaches_in s ≡ [] → type_at (types_of s) HANDLE.0 ≡ None
handle_past s h = slice_get_past (types_of s) HANDLE.0 (let e = few_types s h in omega (arith, e))

own_type : (s : Scene) → breaches_in s ≡ [] → (t : IdlType) → is_void t ≡ false → is_numbered_or_none s t ≡ true → type_at (types_of s) (number_of_type s t) ≡ meant s t
own_type s b Void h i = absurd (let e : true ≡ false = h in cc)
own_type s b Handle h i = handle_past s b
own_type s b ContextHandle h i = at_its_number s ContextHandle i
own_type s b (Basic p) h i = at_its_number s (Basic p) i
own_type s b (Struct p) h i = at_its_number s (Struct p) i
own_type s b (Union p) h i = at_its_number s (Union p) i
own_type s b (Enum p) h i = at_its_number s (Enum p) i
own_type s b (Array t m v) h i = at_its_number s (Array t m v) i
own_type s b (Text t m) h i = at_its_number s (Text t m) i
own_type s b (Pointer c t) h i = at_its_number s (Pointer c t) i
own_type s b (Pipe t) h i = at_its_number s (Pipe t) i

-- structs, unions and enums are no pointers
pub by_struct : (n : ℕ) (fs : List Field) → pointee_by n (Some (struct_of fs)) ≡ n
by_struct n [] = refl
by_struct n (f ∷ fs) = refl

pub by_body : (n : ℕ) (s : Scene) (b : Body) (t : TypeSpec) → pointee_by n (Some (defined_by s b t)) ≡ n
by_body n s b (tree.Struct at tag ms) = by_struct n _
by_body n s b (tree.EncapsulatedUnion at tag d name cases) = refl
by_body n s b (tree.NonEncapsulatedUnion at tag arms) = refl
by_body n s b (tree.Enum at tag es) = refl
by_body n s b (tree.Simple t) = refl
by_body n s b (tree.Name m) = refl
by_body n s b (tree.Tag at kind tag) = refl

pub by_found : (n : ℕ) (s : Scene) (o : Option Body) → pointee_by n (Some (defined_at s o)) ≡ n
by_found n s None = refl
by_found n s (Some b) = by_body n s b b.body

-- what the table has at a type's number, and at that of its pointee
pub record Typed (s : Scene) (t : IdlType) : Type 0 where
  pub own : type_at (types_of s) (number_of_type s t) ≡ meant s t
  pub subject : type_at (types_of s) (pointee (types_of s) (number_of_type s t)) ≡ meant s (referent t)

plain_typed : (s : Scene) (t : IdlType) → referent t ≡ t → pointee_by (number_of_type s t) (meant s t) ≡ number_of_type s t
    → type_at (types_of s) (number_of_type s t) ≡ meant s t → Typed s t
plain_typed s t r e o = record {
  own = o;
  subject = ap (type_at (types_of s)) (ap (pointee_by (number_of_type s t)) o ∙ e) ∙ o ∙ ap (meant s) (sym r);
}

pub typed : (s : Scene) → breaches_in s ≡ [] → (t : IdlType) → list_all (is_numbered_or_none s) (built t) ≡ true → list_any is_void (chain t) ≡ false → Typed s t
typed s b (Pointer c t) h v =
    let o = own_type s b (Pointer c t) refl (last_of (is_numbered_or_none s) (Pointer c t) h) in
    let x = split_all (is_numbered_or_none s) (built t) (Pointer c t ∷ []) h in
    let i = own_type s b t (first_of is_void t v) (last_of (is_numbered_or_none s) t x.0) in
    record { own = o; subject = ap (type_at (types_of s)) (ap (pointee_by (number_of_type s (Pointer c t))) o) ∙ i }
typed s b Void h v = absurd (let e : true ≡ false = v in cc)
typed s b Handle h v = plain_typed s Handle refl refl (handle_past s b)
typed s b ContextHandle h v = plain_typed s ContextHandle refl refl (own_type s b ContextHandle refl (last_of (is_numbered_or_none s) ContextHandle h))
typed s b (Basic p) h v = plain_typed s (Basic p) refl refl (own_type s b (Basic p) refl (last_of (is_numbered_or_none s) (Basic p) h))
typed s b (Struct p) h v =
    plain_typed s (Struct p) refl (by_found _ s (body_if is_struct (body_of s p))) (own_type s b (Struct p) refl (last_of (is_numbered_or_none s) (Struct p) h))
typed s b (Union p) h v =
    plain_typed s (Union p) refl (by_found _ s (body_if is_union (body_of s p))) (own_type s b (Union p) refl (last_of (is_numbered_or_none s) (Union p) h))
typed s b (Enum p) h v =
    plain_typed s (Enum p) refl (by_found _ s (body_if is_enum (body_of s p))) (own_type s b (Enum p) refl (last_of (is_numbered_or_none s) (Enum p) h))
typed s b (Array t m w) h v = plain_typed s (Array t m w) refl refl (own_type s b (Array t m w) refl (last_of (is_numbered_or_none s) (Array t m w) h))
typed s b (Text t m) h v = plain_typed s (Text t m) refl refl (own_type s b (Text t m) refl (last_of (is_numbered_or_none s) (Text t m) h))
typed s b (Pipe t) h v = plain_typed s (Pipe t) refl refl (own_type s b (Pipe t) refl (last_of (is_numbered_or_none s) (Pipe t) h))

no_void : (is_param : Bool) (position : Position) (t : IdlType) → stands_in is_param position ≡ true → list_any is_void (without_void position t) ≡ false → list_any is_void (chain t) ≡ false
no_void true InParameter t e h = h
no_void false InMember t e h = h
no_void _ _ t e h = absurd (let f : false ≡ true = e in cc)

-- of a member or parameter
pub field_typed : (s : Scene) → breaches_in s ≡ [] → (names : Names) (is_param : Bool) (list : List Declared) (index : ℕ) (d : Declared) → Stands s names is_param list index d
    → Typed s (type_of s.known names d)
field_typed s b names is_param list index d st =
    typed s b (type_of s.known names d) st.numbered (no_void is_param d.construct.position (type_of s.known names d) st.position st.keeps.no_void)
