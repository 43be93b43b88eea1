-- One more node is read.
use Rattle.std.proofs.Common.{◌≡◌, ℕ, zero, suc, ◌+◌, ◌<◌, Bool, true, false, cond, ◌&&◌, ltb, List, [], ◌∷◌, ◌++◌, length, Option, Some, None, option_map, is_some, slice_get, refl, sym, ap, ◌∙◌}
use Rattle.std.proofs.Common.{subst, arith, Vec}
use Rattle.std.specs.Str.{bytes_eq}
use Rattle.std.proofs.lemmas.Option.{none-some, same_Some}
use Rattle.std.proofs.lemmas.List.{map-append, length-append}
use Rattle.std.proofs.lemmas.List.Folds.{list_all-append}
use Rattle.std.proofs.lemmas.Bool.{lt-ltb}
use Rattle.std.proofs.lemmas.Slice.Eq.{bytes_eq-Decides}
use Rattle.idl_scope.specs.Known.{Known, found}
use Rattle.idl_declared_types.specs.declared.kinds.Kind.{Kind}
use Rattle.idl_constructs.specs.declared.nodes.Declared as declared
use Rattle.idl_constructs.specs.declared.nodes.Node as program_node
use Rattle.idl_constructs.specs.declared.nodes.Node.TheVariants as node
use Rattle.idl_constructs.specs.declared.nodes.Nodes as program_nodes
use Rattle.idl_declared_types.specs.declared.types.Typed.{Typed}
use Rattle.idl_rule_definitions.specs.Nodes.{Declared, Position, InHeader, InTypedef, InTaggedType, InMember, InParameter, InArm, InCasedArm, InOperation}
use Rattle.idl_rule_definitions.specs.Types.{IdlType, Names, type_of}
use Rattle.idl_rule_definitions.specs.Scene.{is_typedef, Use}
use Rattle.idl_declared_types.specs.Kinds.{type_at, Keeps}
use Rattle.idl_declared_types.specs.SeenNames.{seen_names, are_within, and_name, declared_in, names_with}
use Rattle.idl_constructs.specs.SeenNodes.{seen_construct, seen_declared, seen_result, list_at}
use Rattle.idl_grammar.specs.Seen.{seen_type}
use Rattle.idl_declared_types.specs.SeenTypes.{names_at, bare, IsTypedUse, IsTyped, AreTypedWithin}
use Rattle.idl_typing.specs.ReadTypes.{NamesRead, TypedRead}
use Rattle.idl_declared_types.proofs.NameLists.{le-keeps, type_at-keeps, are_within-keeps, seen_names-keeps, found_seen}
use Rattle.idl_typing.proofs.Agreed.{Same, declared_same, type_same, switch_same, tag_same, wrong_same, wrong_switch_same}
use Rattle.idl_declared_types.proofs.Fronts.{names_at_next}
use Rattle.idl_typing.proofs.ReadNames.{names_behind_node, names_of}

-- ## What is noted of a node

use_keeps : (known : Known) (old new : List Kind) (u : Use) (t : Typed) → Keeps old new → AreTypedWithin (length old) t → IsTypedUse (bare known) old u t → IsTypedUse (bare known) new u t
use_keeps known old new u t keeps within h = record {
  declared_as = type_at-keeps old new t.declared_as keeps within.0 ∙ h.declared_as;
  of = type_at-keeps old new t.of keeps within.1 ∙ h.of;
  no_variable = h.no_variable;
  wrong_variable = h.wrong_variable;
  wrong_switch_variable = h.wrong_switch_variable;
}

pub typed_keeps : {A : Type 0} (known : Known) (names : Names) (old new : List Kind) (lists : List (Vec declared.Declared A)) (it : program_node.Node) (t : Typed)
    → Keeps old new → AreTypedWithin (length old) t → IsTyped (bare known) names old lists it t → IsTyped (bare known) names new lists it t
typed_keeps known names old new lists (node.Declarator list index d) t keeps within h = use_keeps known old new _ t keeps within h
typed_keeps known names old new lists (node.Result r) t keeps within h = use_keeps known old new _ t keeps within h
typed_keeps known names old new lists (node.Switch c of) t keeps within h = type_at-keeps old new t.of keeps within.1 ∙ h
typed_keeps known names old new lists (node.Tag c kind tag) t keeps within h = type_at-keeps old new t.of keeps within.1 ∙ h
typed_keeps known names old new lists (node.Body c body) t keeps within h = type_at-keeps old new t.of keeps within.1 ∙ h
typed_keeps known names old new lists (node.Labels c body) t keeps within h = ap (λ u. elim t.has_tag [ true ↦ Some u | false ↦ None ]) (type_at-keeps old new t.of keeps within.1) ∙ h
typed_keeps known names old new lists (node.Header c) t keeps within h = tt
typed_keeps known names old new lists (node.Attributes c) t keeps within h = tt
typed_keeps known names old new lists (node.Enumerators c list) t keeps within h = tt
typed_keeps known names old new lists (node.EmptyArm c) t keeps within h = tt
typed_keeps known names old new lists (node.Constant c of star value) t keeps within h = tt
typed_keeps known names old new lists (node.Type c of) t keeps within h = tt
typed_keeps known names old new lists (node.Operation r parameters) t keeps within h = tt

-- names that say the same
pub typed_same : {A : Type 0} (known : Known) (a b : Names) (ks : List Kind) (lists : List (Vec declared.Declared A)) (it : program_node.Node) (t : Typed)
    → Same a b → IsTyped (bare known) a ks lists it t → IsTyped (bare known) b ks lists it t
typed_same known a b ks lists (node.Declarator list index d) t same h = record {
  declared_as = h.declared_as ∙ declared_same known a b (seen_declared d) same;
  of = h.of ∙ type_same known a b (seen_declared d) same;
  no_variable = h.no_variable;
  wrong_variable = h.wrong_variable ∙ wrong_same (bare known) a b (list_at lists list) index (seen_declared d) same;
  wrong_switch_variable = h.wrong_switch_variable ∙ wrong_switch_same (bare known) a b (list_at lists list) index (seen_declared d) same;
}
typed_same known a b ks lists (node.Result r) t same h = record {
  declared_as = h.declared_as ∙ declared_same known a b (seen_result r) same;
  of = h.of ∙ type_same known a b (seen_result r) same;
  no_variable = h.no_variable;
  wrong_variable = h.wrong_variable;
  wrong_switch_variable = h.wrong_switch_variable;
}
typed_same known a b ks lists (node.Switch c of) t same h = h ∙ switch_same a b of.now same
typed_same known a b ks lists (node.Tag c kind tag) t same h = h
typed_same known a b ks lists (node.Body c body) t same h = h
typed_same known a b ks lists (node.Labels c body) t same h = h ∙ tag_same (seen_construct c) a b (seen_type body.now) same
typed_same known a b ks lists (node.Header c) t same h = tt
typed_same known a b ks lists (node.Attributes c) t same h = tt
typed_same known a b ks lists (node.Enumerators c list) t same h = tt
typed_same known a b ks lists (node.EmptyArm c) t same h = tt
typed_same known a b ks lists (node.Constant c of star value) t same h = tt
typed_same known a b ks lists (node.Type c of) t same h = tt
typed_same known a b ks lists (node.Operation r parameters) t same h = tt

-- an item of a list with one more
pub last_or_before : {X : Type 0} (xs : List X) (y : X) (j : ℕ) (x : X) {P : Type 0} → slice_get (xs ++ y ∷ []) j ≡ Some x
    → (slice_get xs j ≡ Some x → P) → (j ≡ length xs → y ≡ x → P) → P
last_or_before [] y zero x h before last = last refl (same_Some y x h)
last_or_before [] y (suc j) x h before last = absurd (none-some x h)
last_or_before (z ∷ xs) y zero x h before last = before h
last_or_before (z ∷ xs) y (suc j) x h before last = last_or_before xs y j x h before (λ e s. last (ap suc e ∙ omega arith) s)

pub typed_read_keeps : (known : Known) (n : program_nodes.Nodes) (i : ℕ) (old new : List Kind) (noted : List Typed) → Keeps old new → TypedRead known n i old noted → TypedRead known n i new noted
typed_read_keeps known n i old new noted keeps h = record {
  count = h.count;
  typed = λ j it t a b. typed_keeps known (names_at known n j) old new n.lists.items it t keeps (h.within j t b) (h.typed j it t a b);
  within = λ j t b. (omega (arith, (h.within j t b).0, le-keeps old new keeps), omega (arith, (h.within j t b).1, le-keeps old new keeps));
}

pub typed_read_next : (known : Known) (n : program_nodes.Nodes) (i : ℕ) (ks : List Kind) (noted : List Typed) (it : program_node.Node) (t : Typed)
    → TypedRead known n i ks noted → slice_get n.items.items i ≡ Some it → IsTyped (bare known) (names_at known n i) ks n.lists.items it t → AreTypedWithin (length ks) t
    → TypedRead known n (i + 1) ks (noted ++ t ∷ [])
typed_read_next known n i ks noted it t h here typed within = record {
  count = length-append noted (t ∷ []) ∙ ap (λ c. c + 1) h.count;
  typed = λ j other u a b. last_or_before noted t j u b (λ c. h.typed j other u a c) (λ e s. last j other u a (e ∙ h.count) s);
  within = λ j u b. last_or_before noted t j u b (λ c. h.within j u c) (λ e s. subst (AreTypedWithin (length ks)) s within);
}
  where
    last : (j : ℕ) (other : program_node.Node) (u : Typed) → slice_get n.items.items j ≡ Some other → j ≡ i → t ≡ u → IsTyped (bare known) (names_at known n j) ks n.lists.items other u
    last j other u a e s =
        let same : it ≡ other = same_Some it other (sym here ∙ ap (λ k. slice_get n.items.items k) (sym e) ∙ a) in
        subst (λ (k : ℕ). IsTyped (bare known) (names_at known n k) ks n.lists.items other u) (sym e)
        (subst (λ (o : program_node.Node). IsTyped (bare known) (names_at known n i) ks n.lists.items o u) same
        (subst (λ (v : Typed). IsTyped (bare known) (names_at known n i) ks n.lists.items it v) s typed))

-- ## Names

last_of : Option IdlType → Bool → IdlType → Option IdlType
last_of (Some t) b u = Some t
last_of None b u = cond b (Some u) None

found_more : (es : Names) (x name : List ℕ) (u : IdlType) → found x (es ++ (name, u) ∷ []) ≡ last_of (found x es) (bytes_eq x name) u
unfolding last_of
found_more [] x name u = refl
found_more (e ∷ es) x name u = by (bytes_eq x e.0) (found_more es x name u)
  where
    by : (b : Bool) → found x (es ++ (name, u) ∷ []) ≡ last_of (found x es) (bytes_eq x name) u
        → cond b (Some e.1) (found x (es ++ (name, u) ∷ [])) ≡ last_of (cond b (Some e.1) (found x es)) (bytes_eq x name) u
    by true h = refl
    by false h = h

and_agree : (ks : List Kind) (a : Names) (table : List (List ℕ × ℕ)) (name : List ℕ) (u : IdlType) (of : ℕ) → Same a (seen_names ks table) → type_at ks of ≡ u
    → Same (a ++ (name, u) ∷ []) (seen_names ks (and_name table name of))
unfolding last_of
and_agree ks a table name u of same type x = by (found name table) refl
  where
    there : (k : ℕ) → found name table ≡ Some k → (o : Option IdlType) → found x a ≡ o → (b : Bool) → bytes_eq x name ≡ b → last_of o b u ≡ o
    there k h (Some t) p b e = refl
    there k h None p false e = refl
    there k h None p true e =
        let is : x ≡ name = (bytes_eq-Decides x name).0 e in
        let here : found name a ≡ Some (type_at ks k) = same name ∙ found_seen ks table name ∙ ap (option_map (type_at ks)) h in
        absurd (none-some (type_at ks k) (sym p ∙ ap (λ y. found y a) is ∙ here))

    by : (o : Option ℕ) → found name table ≡ o → found x (a ++ (name, u) ∷ []) ≡ found x (seen_names ks (and_name table name of))
    by None h =
        found_more a x name u ∙ ap (λ o. last_of o (bytes_eq x name) u) (same x) ∙ ap (λ v. last_of (found x (seen_names ks table)) (bytes_eq x name) v) (sym type)
        ∙ sym (ap (λ o. found x (seen_names ks (elim (is_some o) [ true ↦ table | false ↦ table ++ (name, of) ∷ [] ]))) h
        ∙ ap (found x) (map-append (λ (e : List ℕ × ℕ). (e.0, type_at ks e.1)) table ((name, of) ∷ []))
        ∙ found_more (seen_names ks table) x name (type_at ks of))
    by (Some k) h =
        found_more a x name u ∙ there k h (found x a) refl (bytes_eq x name) refl ∙ same x
        ∙ sym (ap (λ o. found x (seen_names ks (elim (is_some o) [ true ↦ table | false ↦ table ++ (name, of) ∷ [] ]))) h)

declare_agree : (p : Position) (ks : List Kind) (a : Names) (table : List (List ℕ × ℕ)) (name : List ℕ) (u : IdlType) (of : ℕ) → Same a (seen_names ks table) → type_at ks of ≡ u
    → Same (elim (is_typedef p) [ true ↦ a ++ (name, u) ∷ [] | false ↦ a ]) (seen_names ks (declared_in table p name of))
declare_agree InTypedef ks a table name u of same type = and_agree ks a table name u of same type
declare_agree InHeader ks a table name u of same type = same
declare_agree InTaggedType ks a table name u of same type = same
declare_agree InMember ks a table name u of same type = same
declare_agree InParameter ks a table name u of same type = same
declare_agree InArm ks a table name u of same type = same
declare_agree InCasedArm ks a table name u of same type = same
declare_agree InOperation ks a table name u of same type = same

node_agree : {A : Type 0} (known : Known) (ks : List Kind) (a : Names) (table : List (List ℕ × ℕ)) (lists : List (Vec declared.Declared A)) (it : program_node.Node) (t : Typed)
    → Same a (seen_names ks table) → IsTyped (bare known) a ks lists it t → Same (names_behind_node known a it) (seen_names ks (names_with table it t.of))
node_agree known ks a table lists (node.Declarator list index d) t same h =
    declare_agree (seen_declared d).construct.position ks a table d.declarator.now.name.octets (type_of known a (seen_declared d)) t.of same h.of
node_agree known ks a table lists (node.Result r) t same h = declare_agree (seen_result r).construct.position ks a table r.name.now.octets (type_of known a (seen_result r)) t.of same h.of
node_agree known ks a table lists (node.Switch c of) t same h = same
node_agree known ks a table lists (node.Tag c kind tag) t same h = same
node_agree known ks a table lists (node.Body c body) t same h = same
node_agree known ks a table lists (node.Labels c body) t same h = same
node_agree known ks a table lists (node.Header c) t same h = same
node_agree known ks a table lists (node.Attributes c) t same h = same
node_agree known ks a table lists (node.Enumerators c list) t same h = same
node_agree known ks a table lists (node.EmptyArm c) t same h = same
node_agree known ks a table lists (node.Constant c of star value) t same h = same
node_agree known ks a table lists (node.Type c of) t same h = same
node_agree known ks a table lists (node.Operation r parameters) t same h = same

and_within : (n : ℕ) (table : List (List ℕ × ℕ)) (name : List ℕ) (of : ℕ) → are_within n table ≡ true → of < n → are_within n (and_name table name of) ≡ true
and_within n table name of h below = by (is_some (found name table))
  where
    by : (b : Bool) → are_within n (elim b [ true ↦ table | false ↦ table ++ (name, of) ∷ [] ]) ≡ true
    by true = h
    by false =
        let last : ltb of n ≡ true = lt-ltb of n below in
        list_all-append (λ (e : List ℕ × ℕ). ltb e.1 n) table ((name, of) ∷ []) ∙ ap (λ b. b && (ltb of n && true)) h ∙ ap (λ b. b && true) last

declared_within : (p : Position) (n : ℕ) (table : List (List ℕ × ℕ)) (name : List ℕ) (of : ℕ) → are_within n table ≡ true → of < n → are_within n (declared_in table p name of) ≡ true
declared_within InTypedef n table name of h below = and_within n table name of h below
declared_within InHeader n table name of h below = h
declared_within InTaggedType n table name of h below = h
declared_within InMember n table name of h below = h
declared_within InParameter n table name of h below = h
declared_within InArm n table name of h below = h
declared_within InCasedArm n table name of h below = h
declared_within InOperation n table name of h below = h

node_within : (n : ℕ) (table : List (List ℕ × ℕ)) (it : program_node.Node) (of : ℕ) → are_within n table ≡ true → of < n → are_within n (names_with table it of) ≡ true
node_within n table (node.Declarator list index d) of h below = declared_within (seen_declared d).construct.position n table d.declarator.now.name.octets of h below
node_within n table (node.Result r) of h below = declared_within (seen_result r).construct.position n table r.name.now.octets of h below
node_within n table (node.Switch c of') of h below = h
node_within n table (node.Tag c kind tag) of h below = h
node_within n table (node.Body c body) of h below = h
node_within n table (node.Labels c body) of h below = h
node_within n table (node.Header c) of h below = h
node_within n table (node.Attributes c) of h below = h
node_within n table (node.Enumerators c list) of h below = h
node_within n table (node.EmptyArm c) of h below = h
node_within n table (node.Constant c of' star value) of h below = h
node_within n table (node.Type c of') of h below = h
node_within n table (node.Operation r parameters) of h below = h

pub names_read_keeps : (known : Known) (n : program_nodes.Nodes) (i : ℕ) (old new : List Kind) (names : List (List ℕ × ℕ)) → Keeps old new → NamesRead known n i old names
    → NamesRead known n i new names
names_read_keeps known n i old new names keeps h = record {
  within = are_within-keeps old new names keeps h.within;
  agree = λ x. h.agree x ∙ ap (found x) (sym (seen_names-keeps old new names keeps h.within));
}

pub names_read_next : (known : Known) (n : program_nodes.Nodes) (i : ℕ) (ks : List Kind) (names : List (List ℕ × ℕ)) (it : program_node.Node) (t : Typed)
    → NamesRead known n i ks names → slice_get n.items.items i ≡ Some it → IsTyped (bare known) (names_at known n i) ks n.lists.items it t → t.of < length ks
    → NamesRead known n (i + 1) ks (names_with names it t.of)
names_read_next known n i ks names it t h here typed below = record {
  within = node_within (length ks) names it t.of h.within below;
  agree = λ x. ap (found x) (names_at_next known n i it here ∙ names_of known (names_at known n i) n.lists.items it)
      ∙ node_agree known ks (names_at known n i) names n.lists.items it t h.agree typed x;
}
