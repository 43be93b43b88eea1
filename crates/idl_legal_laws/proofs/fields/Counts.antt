-- The rules of counts, as facts of fields.
use Rattle.std.proofs.Common.{◌≡◌, ℕ, Bool, true, false, not, ◌||◌, ◌&&◌, List, [], Option, Some, None, ℤ, codes, refl, sym, ap, ap₂, ◌∙◌, subst}
use Rattle.nd_types.specs.declared.types.Attr.TheVariants as attr
use Rattle.nd_types.specs.Table.{type_at}
use Rattle.nd_types.specs.Kinds as kinds
use Rattle.nd_types.specs.Fields.{are_ordered, has_attr, has_size, has_range_attr, subject_type}
use Rattle.nd_types.specs.Legal.{implies}
use Rattle.idl_grammar.specs.declared.attributes.PointerClass.{PointerClass}
use Rattle.idl_grammar.specs.Tree.{Attribute}
use Rattle.idl_rule_definitions.specs.Attributes.{has, has_one_of, class_in, sizes, lengths, string_word}
use Rattle.idl_rule_definitions.specs.Nodes.{Position, InMember, InParameter, Declared}
use Rattle.idl_rule_definitions.specs.Types.{IdlType, Array, Text, Pointer, Names, type_of, declared_type, with_attributes, class_or, text_of, sized, is_text, is_conformant_array}
use Rattle.idl_rule_definitions.specs.Types.{is_conformant_text, is_varying_array}
use Rattle.idl_rule_definitions.specs.Scene.{Scene}
use Rattle.idl_rule_definitions.specs.Rules.{breaches_in}
use Rattle.idl_rule_definitions.specs.VariableRules.{may_be_sized, may_vary, has_two_sizes, has_two_lengths, is_listed}
use Rattle.idl_rule_definitions.specs.Meaning.{field, types_of}
use Rattle.idl_legal_laws.proofs.fields.FromNodes.{stands_in}
use Rattle.idl_legal_laws.proofs.fields.Standing.{Stands, field_typed, referent, meant}
use Rattle.idl_legal_laws.proofs.fields.Fields.{OfFields}
use Rattle.idl_legal_laws.proofs.fields.Words.{ordered_vars, of_size, of_max, of_first, of_length, of_last}
use Rattle.idl_legal_laws.proofs.fields.Alike as alike

pub implied : (a b : Bool) → (a ≡ true → b ≡ true) → (not a || b) ≡ true
implied true b f = f refl
implied false b f = refl

-- ## Attributes of fields

one_of_two : (a b c : Bool) → (a || b) ≡ true → (a || (b || (c || false))) ≡ true
one_of_two true b c h = refl
one_of_two false true c h = refl
one_of_two false false c h = absurd (let e : false ≡ true = h in cc)

one_of_three : (a b c d : Bool) → (a || (b || c)) ≡ true → (a || (b || (c || (d || false)))) ≡ true
one_of_three true b c d h = refl
one_of_three false b c d h = one_of_two b c d h

-- a field that has one of these has one of the attributes in the text
pub size_is : (s : Scene) (names : Names) (list : List Declared) (d : Declared) → has_size (field s names list d) ≡ true → has_one_of sizes d.construct.attributes ≡ true
size_is s names list d h =
    one_of_two (has (codes "size_is") d.construct.attributes) (has (codes "max_is") d.construct.attributes) (has (codes "any_size") d.construct.attributes)
    (sym (ap₂ (λ a b. a || b) (of_size s names list d) (of_max s names list d)) ∙ h)

pub range_is : (s : Scene) (names : Names) (list : List Declared) (d : Declared) → has_range_attr (field s names list d) ≡ true → has_one_of lengths d.construct.attributes ≡ true
range_is s names list d h =
    one_of_three (has (codes "first_is") d.construct.attributes) (has (codes "length_is") d.construct.attributes) (has (codes "last_is") d.construct.attributes)
    (has (codes "any_length") d.construct.attributes)
    (sym (ap₂ (λ a b. a || b) (of_first s names list d) (ap₂ (λ a b. a || b) (of_length s names list d) (of_last s names list d))) ∙ h)

-- ## What attributes make of a type

abbrev pointee_by : Bool → Bool → Bool → IdlType → IdlType
pointee_by string size length t = elim string [ true ↦ text_of t | false ↦ elim size [ true ↦ sized length t | false ↦ t ] ]

abbrev array_by : Bool → Bool → IdlType → Option ℤ → Bool → IdlType
array_by string length t count varying = elim string [ true ↦ Text t count | false ↦ Array t count (varying || length) ]

abbrev with_by : Option PointerClass → Bool → Bool → Bool → IdlType → IdlType
with_by class string size length (Pointer c to) = Pointer (class_or class c) (pointee_by string size length to)
with_by class string size length (Array t count varying) = array_by string length t count varying
with_by class string size length t = t

with_is : (list : List Attribute) (t : IdlType) → with_attributes list t ≡ with_by (class_in list) (has string_word list) (has_one_of sizes list) (has_one_of lengths list) t
with_is list (Pointer c to) = refl
with_is list (Array t count varying) = refl
with_is list _ = refl

abbrev is_conformant : IdlType → Bool
is_conformant t = is_conformant_array t || is_conformant_text t

text_conforms : (t : IdlType) → is_conformant (text_of t) ≡ true
text_conforms (Text t None) = refl
text_conforms (Text t (Some n)) = refl
text_conforms _ = refl

sized_conforms : (length : Bool) (t : IdlType) → is_conformant (sized length t) ≡ true
sized_conforms length (Text t None) = refl
sized_conforms length (Text t (Some n)) = refl
sized_conforms length (Array t None v) = refl
sized_conforms length (Array t (Some n) v) = refl
sized_conforms length _ = refl

array_conforms : (string length : Bool) (t : IdlType) (m : Option ℤ) (v : Bool) → (is_conformant_array (Array t m v) || false) ≡ true → is_conformant (referent (array_by string length t m v)) ≡ true
array_conforms true length t None v h = refl
array_conforms false length t None v h = refl
array_conforms string length t (Some n) v h = absurd (let e : false ≡ true = h in cc)

pointee_conforms : (string length : Bool) (t : IdlType) → is_conformant (pointee_by string true length t) ≡ true
pointee_conforms true length t = text_conforms t
pointee_conforms false length t = sized_conforms length t

conforms : (class : Option PointerClass) (string length : Bool) (t : IdlType) → may_be_sized t ≡ true → is_conformant (referent (with_by class string true length t)) ≡ true
conforms class string length (Pointer c to) h = pointee_conforms string length to
conforms class string length (Array t m v) h = array_conforms string length t m v h
conforms class string length (Text t m) h = h
conforms class string length _ h = absurd (let e : false ≡ true = h in cc)

text_is : (t : IdlType) → is_text (text_of t) ≡ true
text_is (Text t None) = refl
text_is (Text t (Some n)) = refl
text_is _ = refl

sized_varies : (t : IdlType) → not (is_text (sized true t)) ≡ true → is_varying_array (sized true t) ≡ true
sized_varies (Text t None) h = absurd (let e : false ≡ true = h in cc)
sized_varies (Text t (Some n)) h = refl
sized_varies (Array t None v) h = refl
sized_varies (Array t (Some n) v) h = refl
sized_varies _ h = refl

pointee_varies : (string size : Bool) (t : IdlType) → (size && not (is_text (pointee_by string size true t))) ≡ true → is_varying_array (pointee_by string size true t) ≡ true
pointee_varies true true t h = absurd (let e : true ≡ false = sym h ∙ ap not (text_is t) in cc)
pointee_varies true false t h = absurd (let e : false ≡ true = h in cc)
pointee_varies false true t h = sized_varies t h
pointee_varies false false t h = absurd (let e : false ≡ true = h in cc)

pub or_true : (a : Bool) → (a || true) ≡ true
or_true true = refl
or_true false = refl

array_varies : (string size : Bool) (t : IdlType) (m : Option ℤ) (v : Bool) → may_vary size (array_by string true t m v) ≡ true → is_varying_array (referent (array_by string true t m v)) ≡ true
array_varies true size t m v h = absurd (let e : false ≡ true = h in cc)
array_varies false size t m v h = or_true v

varies : (class : Option PointerClass) (string size : Bool) (t : IdlType) → may_vary size (with_by class string size true t) ≡ true
    → is_varying_array (referent (with_by class string size true t)) ≡ true
varies class string size (Pointer c to) h = pointee_varies string size to h
varies class string size (Array t m v) h = array_varies string size t m v h
varies class string size _ h = absurd (let e : false ≡ true = h in cc)

-- ## Rules as tests of truth values

sizes_right : (a m x y : Bool) → a ≡ true → elim a [ true ↦ not m || x | false ↦ y ] ≡ false → m ≡ true
sizes_right true true x y e h = refl
sizes_right true false x y e h = absurd (let f : true ≡ false = h in cc)
sizes_right false m x y e h = absurd (let f : false ≡ true = e in cc)

not_both : (a b z m y : Bool) → elim (a || (b || (z || false))) [ true ↦ not m || ((a && b) || (z && (a || b))) | false ↦ y ] ≡ false → not (a && b) ≡ true
not_both false b z m y h = refl
not_both true false z m y h = refl
not_both true true z true y h = absurd (let f : true ≡ false = h in cc)
not_both true true z false y h = absurd (let f : true ≡ false = h in cc)

varying_right : (a m x : Bool) → a ≡ true → (a && (not m || x)) ≡ false → m ≡ true
varying_right true true x e h = refl
varying_right true false x e h = absurd (let f : true ≡ false = h in cc)
varying_right false m x e h = absurd (let f : false ≡ true = e in cc)

not_both_lengths : (f l k z m : Bool) → ((f || (l || (k || (z || false)))) && (not m || ((l && k) || (z && (f || (l || k)))))) ≡ false → not (l && k) ≡ true
not_both_lengths f false k z m h = refl
not_both_lengths f true false z m h = refl
not_both_lengths true true true z true h = absurd (let e : true ≡ false = h in cc)
not_both_lengths true true true z false h = absurd (let e : true ≡ false = h in cc)
not_both_lengths false true true z true h = absurd (let e : true ≡ false = h in cc)
not_both_lengths false true true z false h = absurd (let e : true ≡ false = h in cc)

-- ## Facts

pub ordered_fact : (s : Scene) → OfFields s (λ p. are_ordered p.field.vars)
ordered_fact s names is_param list whole index d st = ordered_vars s names d.construct list st.attributes

conforms_alike : (s : Scene) (t : IdlType) → (kinds.is_conformant_array (meant s t) || kinds.is_conformant_text (meant s t)) ≡ is_conformant t
conforms_alike s t = ap₂ (λ a b. a || b) (alike.conformant_array s t) (alike.conformant_text s t)

pub sized_fact : (s : Scene) → breaches_in s ≡ []
    → OfFields s (λ p. implies (has_size p.field) (kinds.is_conformant_array (subject_type (types_of s) p.field) || kinds.is_conformant_text (subject_type (types_of s) p.field)))
sized_fact s b names is_param list whole index d st =
    let list_of = d.construct.attributes in
    let t = declared_type s.known names d in
    let f = field s names list d in
    let ty = field_typed s b names is_param list index d st in
    implied (has_size f) (kinds.is_conformant_array (subject_type (types_of s) f) || kinds.is_conformant_text (subject_type (types_of s) f))
    (λ h.
    let sz : has_one_of sizes list_of ≡ true = size_is s names list d h in
    let m = sizes_right (has_one_of sizes list_of) (may_be_sized t) (has_two_sizes list_of)
    (is_listed d.construct.position && is_conformant_array (type_of s.known names d)) sz st.keeps.sizes in
    ap (λ o. kinds.is_conformant_array o || kinds.is_conformant_text o) ty.subject
    ∙ conforms_alike s (referent (type_of s.known names d))
    ∙ ap (λ u. is_conformant (referent u)) (with_is list_of t)
    ∙ ap (λ z. is_conformant (referent (with_by (class_in list_of) (has string_word list_of) z (has_one_of lengths list_of) t))) sz
    ∙ conforms (class_in list_of) (has string_word list_of) (has_one_of lengths list_of) t m)

pub one_size_fact : (s : Scene) → OfFields s (λ p. not (has_attr attr.Size p.field && has_attr attr.Max p.field))
one_size_fact s names is_param list whole index d st =
    let list_of = d.construct.attributes in
    ap₂ (λ a b. not (a && b)) (of_size s names list d) (of_max s names list d)
    ∙ not_both (has (codes "size_is") list_of) (has (codes "max_is") list_of) (has (codes "any_size") list_of) (may_be_sized (declared_type s.known names d))
    (is_listed d.construct.position && is_conformant_array (type_of s.known names d)) st.keeps.sizes

-- what a field may vary that has first_is, length_is or last_is
may_vary_here : (s : Scene) (names : Names) (is_param : Bool) (list : List Declared) (index : ℕ) (d : Declared) → Stands s names is_param list index d
    → has_one_of lengths d.construct.attributes ≡ true → may_vary (has_one_of sizes d.construct.attributes) (type_of s.known names d) ≡ true
may_vary_here s names is_param list index d st h =
    let list_of = d.construct.attributes in
    varying_right (has_one_of lengths list_of) (may_vary (has_one_of sizes list_of) (type_of s.known names d)) (has_two_lengths list_of) h
    st.keeps.varying

pub varying_fact : (s : Scene) → breaches_in s ≡ [] → OfFields s (λ p. implies (has_range_attr p.field) (kinds.is_varying_array (subject_type (types_of s) p.field)))
varying_fact s b names is_param list whole index d st =
    let list_of = d.construct.attributes in
    let t = declared_type s.known names d in
    let f = field s names list d in
    let ty = field_typed s b names is_param list index d st in
    let by : Bool → IdlType = λ z. with_by (class_in list_of) (has string_word list_of) (has_one_of sizes list_of) z t in
    implied (has_range_attr f) (kinds.is_varying_array (subject_type (types_of s) f))
    (λ h.
    let ln : has_one_of lengths list_of ≡ true = range_is s names list d h in
    let m = may_vary_here s names is_param list index d st ln in
    let e : type_of s.known names d ≡ by true = with_is list_of t ∙ ap by ln in
    ap kinds.is_varying_array ty.subject ∙ alike.varying_array s (referent (type_of s.known names d)) ∙ ap (λ u. is_varying_array (referent u)) e
    ∙ varies (class_in list_of) (has string_word list_of) (has_one_of sizes list_of) t (subst (λ u. may_vary (has_one_of sizes list_of) u ≡ true) e m))

pub one_length_fact : (s : Scene) → OfFields s (λ p. not (has_attr attr.Length p.field && has_attr attr.Last p.field))
one_length_fact s names is_param list whole index d st =
    let list_of = d.construct.attributes in
    ap₂ (λ a b. not (a && b)) (of_length s names list d) (of_last s names list d)
    ∙ not_both_lengths (has (codes "first_is") list_of) (has (codes "length_is") list_of) (has (codes "last_is") list_of) (has (codes "any_length") list_of)
    (may_vary (has_one_of sizes list_of) (type_of s.known names d)) st.keeps.varying
