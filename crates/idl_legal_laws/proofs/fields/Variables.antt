-- The rules of variables and of switch_is, as facts of fields.
use Rattle.std.proofs.Common.{◌≡◌, ℕ, zero, suc, ◌+◌, ◌<◌, Bool, true, false, not, ◌||◌, ◌&&◌, List, [], ◌∷◌, ◌++◌, map, length, Option, Some, None, codes, refl, sym, ap, arith, ◌∙◌, subst}
use Rattle.std.specs.Prelude.{◌==◌, eqb, nat_lt, option_map}
use Rattle.std.specs.List.{list_all, list_any, slice_get}
use Rattle.std.specs.Str.{bytes_eq}
use Rattle.std.proofs.lemmas.List.{length-map}
use Rattle.std.proofs.lemmas.List.Folds.{list_any-append, list_all-map}
use Rattle.std.proofs.lemmas.Slice.Eq.{bytes_eq-Decides}
use Rattle.std.proofs.lemmas.Option.{slice_get_within, slice_get-map}
use Rattle.std.proofs.lemmas.Bool.Decides.{nat_tests}
use Rattle.nd_types.specs.declared.types.TypeDef.{TypeDef}
use Rattle.nd_types.specs.declared.types.Field.{Field}
use Rattle.nd_types.specs.declared.types.AttrVar.{AttrVar}
use Rattle.nd_types.specs.declared.types.Attr.{Attr}
use Rattle.nd_types.specs.declared.types.Attr.TheVariants as attr
use Rattle.nd_types.specs.Table.{Table, type_at}
use Rattle.nd_types.specs.Kinds as kinds
use Rattle.nd_types.specs.Kinds.{pointee_by, referent_type, reference_by}
use Rattle.nd_types.specs.Fields.{has_attr, variable_type, all_variables}
use Rattle.nd_types.specs.Legal.{implies, has_other_variables, is_switch_attr}
use Rattle.nd_types.specs.Legal as legal
use Rattle.idl_grammar.specs.declared.attributes.PointerClass.TheVariants as class
use Rattle.idl_grammar.specs.declared.attributes.Variable.{Variable}
use Rattle.idl_grammar.specs.Tree.{Attribute}
use Rattle.idl_rule_definitions.specs.Attributes.{has, sizes, lengths, switch_is_word, variable_said}
use Rattle.idl_rule_definitions.specs.Nodes.{Position, InMember, InParameter, Declared}
use Rattle.idl_rule_definitions.specs.Types.{IdlType, Void, Handle, ContextHandle, Basic, Struct, Union, Enum, Array, Text, Pointer, Pipe, Names, type_of}
use Rattle.idl_rule_definitions.specs.Scene.{Scene, use_of, is_nonencapsulated, chain}
use Rattle.idl_rule_definitions.specs.Rules.{breaches_in}
use Rattle.idl_rule_definitions.specs.DeclarationRules.{is_parameter}
use Rattle.idl_rule_definitions.specs.VariableRules.{Listed, listed_from, passes, passes_listed, is_right_variable, variable_if, variables, is_integer, may_be_switched, is_switched, is_switched_place}
use Rattle.idl_rule_definitions.specs.VariableRules.{below_pointer, is_other}
use Rattle.idl_rule_definitions.specs.Numbering.{number_of_type}
use Rattle.idl_rule_definitions.specs.Meaning.{index_in, attr_var, vars_of, field_vars, field, types_of}
use Rattle.std.proofs.lemmas.Bool.{or_parts as none_of, and_parts as both_of, and_from}
use Rattle.nd_lemmas.proofs.Lists.{join_all}
use Rattle.idl_legal_laws.proofs.fields.FromNodes.{stands_in, one_passes, they_pass}
use Rattle.idl_legal_laws.proofs.fields.Standing.{node_keeps, Stands, stands, Typed, field_typed, referent, meant, first_of}
use Rattle.idl_legal_laws.proofs.fields.Fields.{OfFields, field_here}
use Rattle.idl_legal_laws.proofs.fields.Words.{none_is, has_is, switch_is_has, of_switch}
use Rattle.idl_legal_laws.proofs.fields.Counts.{implied}
use Rattle.idl_legal_laws.proofs.fields.Alike as alike

-- ## The variables of one word among those of more

good_of : (b : Bool) → (not b || false) ≡ false → (b && true) ≡ true
good_of true h = refl
good_of false h = absurd (let e : true ≡ false = h in cc)

by_flags : (good : Variable → Bool) (b c : Bool) (v : Variable) → (c ≡ true → b ≡ true) → list_any (λ x. not (good x)) (elim b [ true ↦ v ∷ [] | false ↦ [] ]) ≡ false
    → list_all good (elim (c || false) [ true ↦ v ∷ [] | false ↦ [] ]) ≡ true
by_flags good b false v f h = refl
by_flags good true true v f h = good_of (good v) h
by_flags good false true v f h = absurd (let e : false ≡ true = f refl in cc)

by_said : (good : Variable → Bool) (word : List ℕ) (words : List (List ℕ)) → list_any (bytes_eq word) words ≡ true → (o : Option (List ℕ × Variable))
    → list_any (λ x. not (good x)) (variable_if words o) ≡ false → list_all good (variable_if (word ∷ []) o) ≡ true
by_said good word words i None h = refl
by_said good word words i (Some e) h =
    by_flags good (list_any (bytes_eq e.0) words) (bytes_eq e.0 word) e.1 (λ j. ap (λ w. list_any (bytes_eq w) words) ((bytes_eq-Decides e.0 word).0 j) ∙ i) h

-- what no variable of these words fails, each of one of them passes
narrow : (good : Variable → Bool) (word : List ℕ) (words : List (List ℕ)) → list_any (bytes_eq word) words ≡ true → (marks : List Attribute)
    → list_any (λ x. not (good x)) (variables words marks) ≡ false → list_all good (variables (word ∷ []) marks) ≡ true
narrow good word words i [] h = refl
narrow good word words i (a ∷ more) h =
    let x = none_of (list_any (λ v. not (good v)) (variable_if words (variable_said a.kind))) (list_any (λ v. not (good v)) (variables words more))
    (sym (list_any-append (λ v. not (good v)) (variable_if words (variable_said a.kind)) (variables words more)) ∙ h) in
    join_all good (variable_if (word ∷ []) (variable_said a.kind)) (variables (word ∷ []) more)
    (by_said good word words i (variable_said a.kind) x.0) (narrow good word words i more x.1)

-- ## All variables of a field

all_by : {X : Type 0} (p : X → Bool) → ((x : X) → p x ≡ true) → (xs : List X) → list_all p xs ≡ true
all_by p f [] = refl
all_by p f (x ∷ xs) = and_from (p x) (list_all p xs) (f x) (all_by p f xs)

all_where : {X : Type 0} (p q : X → Bool) → ((x : X) → p x ≡ true → q x ≡ true) → (xs : List X) → list_all p xs ≡ true → list_all q xs ≡ true
all_where p q f [] h = refl
all_where p q f (x ∷ xs) h = let e = both_of (p x) (list_all p xs) h in and_from (q x) (list_all q xs) (f x e.0) (all_where p q f xs e.1)

all_both : {X : Type 0} (p q : X → Bool) (xs : List X) → list_all p xs ≡ true → list_all q xs ≡ true → list_all (λ x. p x && q x) xs ≡ true
all_both p q [] h i = refl
all_both p q (x ∷ xs) h i =
    let e = both_of (p x) (list_all p xs) h in
    let f = both_of (q x) (list_all q xs) i in
    and_from (p x && q x) (list_all (λ y. p y && q y) xs) (and_from (p x) (q x) e.0 f.0) (all_both p q xs e.1 f.1)

-- a test of the variables of one attribute
abbrev Passing : (AttrVar → Bool) → List Declared → List Attribute → List ℕ → Attr → Type 0
Passing p list marks word a = list_all (λ v. p (attr_var list a v)) (variables (word ∷ []) marks) ≡ true

six_pass : (p : AttrVar → Bool) (list : List Declared) (marks : List Attribute) → Passing p list marks (codes "size_is") attr.Size → Passing p list marks (codes "max_is") attr.Max
    → Passing p list marks (codes "first_is") attr.First → Passing p list marks (codes "length_is") attr.Length → Passing p list marks (codes "last_is") attr.Last
    → Passing p list marks (codes "switch_is") attr.Switch → list_all p (field_vars list marks) ≡ true
six_pass p list marks ha hb hc hd he hf =
    let v = λ (word : List ℕ). variables (word ∷ []) marks in
    let a = vars_of list marks (codes "size_is") attr.Size in
    let b = vars_of list marks (codes "max_is") attr.Max in
    let c = vars_of list marks (codes "first_is") attr.First in
    let d = vars_of list marks (codes "length_is") attr.Length in
    let e = vars_of list marks (codes "last_is") attr.Last in
    let f = vars_of list marks (codes "switch_is") attr.Switch in
    join_all p (a ++ b ++ c ++ d ++ e) f
    (join_all p (a ++ b ++ c ++ d) e
    (join_all p (a ++ b ++ c) d
    (join_all p (a ++ b) c
    (join_all p a b (list_all-map p (attr_var list attr.Size) (v (codes "size_is")) ∙ ha) (list_all-map p (attr_var list attr.Max) (v (codes "max_is")) ∙ hb))
    (list_all-map p (attr_var list attr.First) (v (codes "first_is")) ∙ hc))
    (list_all-map p (attr_var list attr.Length) (v (codes "length_is")) ∙ hd))
    (list_all-map p (attr_var list attr.Last) (v (codes "last_is")) ∙ he))
    (list_all-map p (attr_var list attr.Switch) (v (codes "switch_is")) ∙ hf)

-- ## Where a variable stands

record At (k : ℕ) (list : List Declared) (l : Listed) : Type 0 where
  place : ℕ
  index : l.index ≡ k + place
  entry : slice_get list place ≡ Some l.it

at_by : (name : List ℕ) (k : ℕ) (x : Declared) (xs : List Declared) (l : Listed) (b : Bool)
    → elim b [ true ↦ Some (record { index = k; it = x }) | false ↦ listed_from (k + 1) xs name ] ≡ Some l → (listed_from (k + 1) xs name ≡ Some l → At (k + 1) xs l) → At k (x ∷ xs) l
at_by name k x xs l true h next =
    let here : Listed = record { index = k; it = x } in
    let e : here ≡ l = let f : Some here ≡ Some l = h in cc in
    record {
      place = 0;
      index = sym (ap (λ m. m.index) e) ∙ omega (arith);
      entry = ap (λ m. Some m.it) e;
    }
at_by name k x xs l false h next =
    let a = next h in
    record {
      place = suc a.place;
      index = a.index ∙ omega (arith);
      entry = a.entry;
    }

listed_at : (name : List ℕ) (k : ℕ) (list : List Declared) (l : Listed) → listed_from k list name ≡ Some l → At k list l
listed_at name k [] l h = absurd (let e : None ≡ Some l = h in cc)
listed_at name k (x ∷ xs) l h = at_by name k x xs l (bytes_eq name x.declarator.name.octets) h (listed_at name (k + 1) xs l)

-- what is at a place of a list of which all stand
standing : (s : Scene) (names : Names) (is_param : Bool) (list : List Declared) (index : ℕ) (ds : List Declared) → they_pass (node_keeps s) names is_param list index ds ≡ true
    → (place : ℕ) (d : Declared) → slice_get ds place ≡ Some d → Stands s names is_param list (index + place) d
standing s names is_param list index [] h place d e = absurd (let f : None ≡ Some d = e in cc)
standing s names is_param list index (x ∷ xs) h zero d e =
    let y = both_of (one_passes (node_keeps s) names is_param list index x) (they_pass (node_keeps s) names is_param list (index + 1) xs) h in
    let f : x ≡ d = let g : Some x ≡ Some d = e in cc in
    let i : index ≡ index + 0 = omega (arith) in
    subst (λ n. Stands s names is_param list n d) i (subst (λ z. Stands s names is_param list index z) f (stands s names is_param list index x y.0))
standing s names is_param list index (x ∷ xs) h (suc place) d e =
    let y = both_of (one_passes (node_keeps s) names is_param list index x) (they_pass (node_keeps s) names is_param list (index + 1) xs) h in
    let i : (index + 1) + place ≡ index + suc place = omega (arith) in
    subst (λ n. Stands s names is_param list n d) i (standing s names is_param list (index + 1) xs y.1 place d e)

-- ## Another of the same list

other_index : (i n k : ℕ) → i < n → not (eqb i k) ≡ true → (nat_lt i n && not (i == k)) ≡ true
other_index i n k h e = and_from (nat_lt i n) (not (i == k)) (grind (arith, nat_tests, h)) e

is_another : (s : Scene) (names : Names) (list : List Declared) (index : ℕ) (name : List ℕ) (o : Option Listed) → listed_from 0 list name ≡ o → is_other index o ≡ true
    → (nat_lt (index_in o) (length (map (field s names list) list)) && not (index_in o == index)) ≡ true
is_another s names list index name None e h = absurd (let f : false ≡ true = h in cc)
is_another s names list index name (Some l) e h =
    let a = listed_at name 0 list l e in
    let w = slice_get_within list a.place l.it a.entry in
    let n = length-map list (field s names list) in
    let i = a.index in
    other_index l.index (length (map (field s names list) list)) index (omega (arith, w, n, i)) h

-- the words of rule 36
abbrev all_words : List (List ℕ)
all_words = switch_is_word ∷ sizes ++ lengths

abbrev is_other_of : List Declared → ℕ → Variable → Bool
is_other_of list index v = is_other index (listed_from 0 list v.name.octets)

others : (s : Scene) (names : Names) (is_param : Bool) (list : List Declared) (index : ℕ) (d : Declared) → Stands s names is_param list index d → (word : List ℕ)
    → list_any (bytes_eq word) all_words ≡ true → list_all (is_other_of list index) (variables (word ∷ []) d.construct.attributes) ≡ true
others s names is_param list index d st word i = narrow (is_other_of list index) word all_words i d.construct.attributes st.keeps.variables

another_of : (s : Scene) (names : Names) (is_param : Bool) (list : List Declared) (index : ℕ) (d : Declared) → Stands s names is_param list index d → (word : List ℕ)
    → list_any (bytes_eq word) all_words ≡ true → (a : Attr)
    → Passing (λ v. nat_lt v.var (length (map (field s names list) list)) && not (v.var == index)) list d.construct.attributes word a
another_of s names is_param list index d st word i a =
    all_where (is_other_of list index)
    (λ v. nat_lt (index_in (listed_from 0 list v.name.octets)) (length (map (field s names list) list)) && not (index_in (listed_from 0 list v.name.octets) == index))
    (λ v h. is_another s names list index v.name.octets (listed_from 0 list v.name.octets) refl h) (variables (word ∷ []) d.construct.attributes)
    (others s names is_param list index d st word i)

pub variables_fact : (s : Scene) → OfFields s has_other_variables
variables_fact s names is_param list whole index d st =
    six_pass (λ v. nat_lt v.var (length (map (field s names list) list)) && not (v.var == index)) list d.construct.attributes
    (another_of s names is_param list index d st (codes "size_is") refl attr.Size) (another_of s names is_param list index d st (codes "max_is") refl attr.Max)
    (another_of s names is_param list index d st (codes "first_is") refl attr.First) (another_of s names is_param list index d st (codes "length_is") refl attr.Length)
    (another_of s names is_param list index d st (codes "last_is") refl attr.Last) (another_of s names is_param list index d st (codes "switch_is") refl attr.Switch)

-- ## Types of variables

abbrev variable_by : Table → Bool → Bool → Option Field → Option TypeDef
variable_by table is_param false (Some f) = type_at table f.of.0
variable_by table true true (Some f) = referent_type table f.of.0
variable_by table _ _ _ = None

-- a test of types, and that of types in the table that it implies
abbrev Implies : Scene → (IdlType → Bool) → (Option TypeDef → Bool) → Type 0
Implies s test of_table = (t : IdlType) → test t ≡ true → of_table (meant s t) ≡ true

passed : (s : Scene) (test : IdlType → Bool) (of_table : Option TypeDef → Bool) → Implies s test of_table → (is_param star : Bool) (t : IdlType) → Typed s t
    → passes test is_param star t ≡ true → (f : Field) → f.of.0 ≡ number_of_type s t → of_table (variable_by (types_of s) is_param star (Some f)) ≡ true
passed s test of_table i true false t ty h f e = ap (λ n. of_table (type_at (types_of s) n)) e ∙ ap of_table ty.own ∙ i t h
passed s test of_table i false false t ty h f e = ap (λ n. of_table (type_at (types_of s) n)) e ∙ ap of_table ty.own ∙ i t h
passed s test of_table i true true (Pointer (Some class.Reference) t) ty h f e =
    ap (λ n. of_table (referent_type (types_of s) n)) e ∙ ap (λ o. of_table (reference_by (types_of s) o)) ty.own
    ∙ ap of_table (sym (ap (λ o. type_at (types_of s) (pointee_by (number_of_type s (Pointer (Some class.Reference) t)) o)) ty.own) ∙ ty.subject) ∙ i t h
passed s test of_table i true true _ ty h f e = absurd (let g : false ≡ true = h in cc)
passed s test of_table i false true t ty h f e = absurd (let g : false ≡ true = h in cc)

pub param_is : (is_param : Bool) (position : Position) → stands_in is_param position ≡ true → is_parameter position ≡ is_param
param_is true InParameter h = refl
param_is false InMember h = refl
param_is true InMember h = absurd (let e : false ≡ true = h in cc)
param_is false InParameter h = absurd (let e : false ≡ true = h in cc)
param_is true _ h = absurd (let e : false ≡ true = h in cc)
param_is false _ h = absurd (let e : false ≡ true = h in cc)

found_passes : (s : Scene) → breaches_in s ≡ [] → (test : IdlType → Bool) (of_table : Option TypeDef → Bool) → Implies s test of_table
    → (names : Names) (is_param : Bool) (list : List Declared) → they_pass (node_keeps s) names is_param list 0 list ≡ true
    → (index : ℕ) (d : Declared) (name : List ℕ) (star : Bool) (o : Option Listed) → listed_from 0 list name ≡ o → is_other index o ≡ true
    → passes_listed s (use_of s.known names list index d) test star o ≡ true
    → of_table (variable_by (types_of s) is_param star (slice_get (map (field s names list) list) (index_in o))) ≡ true
found_passes s b test of_table i names is_param list whole index d name star None e h p = absurd (let f : false ≡ true = h in cc)
found_passes s b test of_table i names is_param list whole index d name star (Some l) e h p =
    let a = listed_at name 0 list l e in
    let st = standing s names is_param list 0 list whole a.place l.it a.entry in
    let ty = field_typed s b names is_param list (0 + a.place) l.it st in
    let place : l.index ≡ a.place = let k = a.index in omega (arith, k) in
    let entry : slice_get (map (field s names list) list) l.index ≡ Some (field s names list l.it) =
    ap (slice_get (map (field s names list) list)) place ∙ slice_get-map (field s names list) list a.place ∙ ap (option_map (field s names list)) a.entry in
    let q : passes test is_param star (type_of s.known names l.it) ≡ true =
    ap (λ z. passes test z star (type_of s.known names l.it)) (sym (param_is is_param l.it.construct.position st.position)) ∙ p in
    ap (λ f. of_table (variable_by (types_of s) is_param star f)) entry ∙ passed s test of_table i is_param star (type_of s.known names l.it) ty q (field s names list l.it) refl

-- the variables of a word, each another one and of a right type
of_right_type : (s : Scene) → breaches_in s ≡ [] → (test : IdlType → Bool) (of_table : Option TypeDef → Bool) → Implies s test of_table
    → (names : Names) (is_param : Bool) (list : List Declared) → they_pass (node_keeps s) names is_param list 0 list ≡ true
    → (index : ℕ) (d : Declared) → Stands s names is_param list index d → (word : List ℕ) → list_any (bytes_eq word) all_words ≡ true
    → list_all (is_right_variable s (use_of s.known names list index d) test) (variables (word ∷ []) d.construct.attributes) ≡ true
    → (a : Attr) → Passing (λ v. of_table (variable_type (types_of s) (field_here s names is_param list index d) v)) list d.construct.attributes word a
of_right_type s b test of_table i names is_param list whole index d st word w r a =
    let right = is_right_variable s (use_of s.known names list index d) test in
    all_where (λ v. is_other_of list index v && right v)
    (λ v. of_table (variable_by (types_of s) is_param v.star (slice_get (map (field s names list) list) (index_in (listed_from 0 list v.name.octets)))))
    (λ v h.
    let x = both_of (is_other_of list index v) (right v) h in
    found_passes s b test of_table i names is_param list whole index d v.name.octets v.star (listed_from 0 list v.name.octets) refl x.0 x.1) (variables (word ∷ []) d.construct.attributes)
    (all_both (is_other_of list index) right (variables (word ∷ []) d.construct.attributes) (others s names is_param list index d st word w) r)

integers : (s : Scene) → Implies s is_integer kinds.is_integer
integers s t h = alike.integer s t ∙ h

pub count_variables_fact : (s : Scene) → breaches_in s ≡ [] → OfFields s (all_variables (λ a. not (is_switch_attr a)) kinds.is_integer (types_of s))
count_variables_fact s b names is_param list whole index d st =
    let u = use_of s.known names list index d in
    let marks = d.construct.attributes in
    let one = λ (word : List ℕ) (i : list_any (bytes_eq word) (sizes ++ lengths) ≡ true) (w : list_any (bytes_eq word) all_words ≡ true) (a : Attr).
    of_right_type s b is_integer kinds.is_integer (integers s) names is_param list whole index d st word w
    (narrow (is_right_variable s u is_integer) word (sizes ++ lengths) i marks st.keeps.variable_types) a in
    six_pass (λ v. not (not (is_switch_attr v.attr)) || kinds.is_integer (variable_type (types_of s) (field_here s names is_param list index d) v)) list marks
    (one (codes "size_is") refl refl attr.Size) (one (codes "max_is") refl refl attr.Max) (one (codes "first_is") refl refl attr.First)
    (one (codes "length_is") refl refl attr.Length) (one (codes "last_is") refl refl attr.Last)
    (all_by (λ v. true) (λ v. refl) (variables (codes "switch_is" ∷ []) marks))

-- ## switch_is

switch_right : (a m x : Bool) → a ≡ true → (a && (not m || x)) ≡ false → (m ≡ true) × (x ≡ false)
switch_right true true x e h = (refl, h)
switch_right true false x e h = absurd (let f : true ≡ false = h in cc)
switch_right false m x e h = absurd (let f : false ≡ true = e in cc)

-- the variable of switch_is, if it is there
switched_by : (s : Scene) (names : Names) (is_param : Bool) (list : List Declared) (index : ℕ) (d : Declared) → Stands s names is_param list index d
    → (b : Bool) → has switch_is_word d.construct.attributes ≡ b
    → list_all (is_right_variable s (use_of s.known names list index d) may_be_switched) (variables (switch_is_word ∷ []) d.construct.attributes) ≡ true
switched_by s names is_param list index d st true e =
    let u = use_of s.known names list index d in
    let right = is_right_variable s u may_be_switched in
    let x = switch_right (has switch_is_word d.construct.attributes) (is_switched s (type_of s.known names d))
    (list_any (λ v. not (right v)) (variables (switch_is_word ∷ []) d.construct.attributes)) e
    st.keeps.switches in
    narrow right switch_is_word (switch_is_word ∷ []) refl d.construct.attributes x.1
switched_by s names is_param list index d st false e =
    let u = use_of s.known names list index d in
    ap (list_all (is_right_variable s u may_be_switched)) (none_is (variables (switch_is_word ∷ []) d.construct.attributes) (has_is switch_is_word switch_is_has d.construct.attributes ∙ e))

pub switch_variables_fact : (s : Scene) → breaches_in s ≡ [] → OfFields s (all_variables is_switch_attr kinds.is_switch_type (types_of s))
switch_variables_fact s b names is_param list whole index d st =
    let marks = d.construct.attributes in
    let none = λ (word : List ℕ). all_by (λ (v : Variable). true) (λ v. refl) (variables (word ∷ []) marks) in
    six_pass (λ v. not (is_switch_attr v.attr) || kinds.is_switch_type (variable_type (types_of s) (field_here s names is_param list index d) v)) list marks
    (none (codes "size_is")) (none (codes "max_is")) (none (codes "first_is")) (none (codes "length_is")) (none (codes "last_is"))
    (of_right_type s b may_be_switched kinds.is_switch_type (alike.switched s) names is_param list whole index d st (codes "switch_is") refl
    (switched_by s names is_param list index d st (has switch_is_word marks) refl) attr.Switch)

switched_place : (is_param : Bool) (position : Position) (b : Bool) → stands_in is_param position ≡ true → is_switched_place position b ≡ b
switched_place true InParameter b h = refl
switched_place false InMember b h = refl
switched_place _ _ b h = absurd (let e : false ≡ true = h in cc)

-- a pointee that passes is in the chain
referent_first : (p : IdlType → Bool) (t : IdlType) → list_any p (chain t) ≡ false → p (referent t) ≡ false
referent_first p (Pointer c t) h = first_of p t (none_of (p (Pointer c t)) (list_any p (chain t)) h).1
referent_first p (Array t m v) h = first_of p (Array t m v) h
referent_first p (Text t m) h = first_of p (Text t m) h
referent_first p (Pipe t) h = first_of p (Pipe t) h
referent_first p Void h = first_of p Void h
referent_first p Handle h = first_of p Handle h
referent_first p ContextHandle h = first_of p ContextHandle h
referent_first p (Basic q) h = first_of p (Basic q) h
referent_first p (Struct q) h = first_of p (Struct q) h
referent_first p (Union q) h = first_of p (Union q) h
referent_first p (Enum q) h = first_of p (Enum q) h

has_switch : (s : Scene) (t : IdlType) (b : Bool) → list_any (is_nonencapsulated s) (elim b [ true ↦ below_pointer t | false ↦ chain t ]) ≡ false
    → is_nonencapsulated s (referent t) ≡ true → b ≡ true
has_switch s t true h i = refl
has_switch s t false h i = absurd (let e : false ≡ true = sym (referent_first (is_nonencapsulated s) t h) ∙ i in cc)

switched_is : (s : Scene) (t : IdlType) → is_switched s t ≡ is_nonencapsulated s (referent t)
switched_is s (Pointer c t) = refl
switched_is s _ = refl

-- whether the table has a non-encapsulated union there, or a pointer to one
table_switched : (s : Scene) → breaches_in s ≡ [] → (names : Names) (is_param : Bool) (list : List Declared) (index : ℕ) (d : Declared) → Stands s names is_param list index d
    → legal.is_switched (types_of s) (field s names list d).of.0 ≡ is_nonencapsulated s (referent (type_of s.known names d))
table_switched s b names is_param list index d st =
    ap kinds.is_nonencapsulated (field_typed s b names is_param list index d st).subject ∙ alike.nonencapsulated s (referent (type_of s.known names d))

pub switched_fact : (s : Scene) → breaches_in s ≡ [] → OfFields s (λ p. implies (legal.is_switched (types_of s) p.field.of.0) (has_attr attr.Switch p.field))
switched_fact s b names is_param list whole index d st =
    let t = type_of s.known names d in
    let f = field s names list d in
    let h = has switch_is_word d.construct.attributes in
    implied (legal.is_switched (types_of s) f.of.0) (has_attr attr.Switch f)
    (λ e.
    of_switch s names list d
    ∙ has_switch s t h
    (ap (λ z. list_any (is_nonencapsulated s) (elim z [ true ↦ below_pointer t | false ↦ chain t ])) (sym (switched_place is_param d.construct.position h st.position)) ∙ st.keeps.no_union)
    (sym (table_switched s b names is_param list index d st) ∙ e))

pub switches_fact : (s : Scene) → breaches_in s ≡ [] → OfFields s (λ p. implies (has_attr attr.Switch p.field) (legal.is_switched (types_of s) p.field.of.0))
switches_fact s b names is_param list whole index d st =
    let t = type_of s.known names d in
    let f = field s names list d in
    let u = use_of s.known names list index d in
    implied (has_attr attr.Switch f) (legal.is_switched (types_of s) f.of.0)
    (λ e.
    let x = switch_right (has switch_is_word d.construct.attributes) (is_switched s t)
    (list_any (λ v. not (is_right_variable s u may_be_switched v)) (variables (switch_is_word ∷ []) d.construct.attributes)) (sym (of_switch s names list d) ∙ e) st.keeps.switches in
    table_switched s b names is_param list index d st ∙ sym (switched_is s t) ∙ x.0)
