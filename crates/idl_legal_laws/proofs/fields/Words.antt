-- The attributes of a field are those of its declaration: each once, and in order.
use Rattle.std.proofs.Common.{◌≡◌, ℕ, Bool, true, false, ◌||◌, List, [], ◌∷◌, ◌++◌, map, Option, Some, None, codes, refl, sym, ap, ◌∙◌, subst, append-nil}
use Rattle.std.specs.Prelude.{◌==◌, nat_lt}
use Rattle.std.specs.List.{list_all, list_any}
use Rattle.std.specs.Str.{bytes_eq}
use Rattle.std.proofs.lemmas.List.Folds.{list_any-append}
use Rattle.std.proofs.lemmas.Slice.Eq.{bytes_eq-Decides}
use Rattle.nd_types.specs.declared.types.AttrVar.{AttrVar}
use Rattle.nd_types.specs.declared.types.Attr.{Attr}
use Rattle.nd_types.specs.declared.types.Attr.TheVariants as attr
use Rattle.nd_types.specs.Fields.{attr_rank, are_ordered, has_attr}
use Rattle.idl_grammar.specs.declared.attributes.PointerClass.TheVariants as class
use Rattle.idl_grammar.specs.declared.attributes.VariableWord.TheVariants as variable
use Rattle.idl_grammar.specs.declared.attributes.Variable.{Variable}
use Rattle.idl_grammar.specs.Tree.{Attribute, AttributeKind}
use Rattle.idl_grammar.specs.Tree as tree
use Rattle.idl_rule_definitions.specs.Attributes.{word_of, is_word, has, variable_said}
use Rattle.idl_rule_definitions.specs.Nodes.{Construct, Declared, attribute_nodes, attribute_nodes_from, AttributeNode}
use Rattle.idl_rule_definitions.specs.Types.{Names}
use Rattle.idl_rule_definitions.specs.Scene.{Scene}
use Rattle.idl_rule_definitions.specs.Rules.{broken_at, broken_in, breaches_at}
use Rattle.idl_rule_definitions.specs.DeclarationRules.{is_out_of_place, is_repeated, is_large_version, is_second_class}
use Rattle.idl_rule_definitions.specs.VariableRules.{variable_if, variables}
use Rattle.idl_rule_definitions.specs.Meaning.{attr_var, vars_of, field_vars, field}
use Rattle.idl_legal_laws.proofs.Kept.{neither}
use Rattle.std.proofs.lemmas.Bool.{or_right as right, and_parts as both_of, and_from}
use Rattle.nd_lemmas.proofs.Lists.{join_all}
use Rattle.idl_legal_laws.proofs.fields.Standing.{node_keeps, nothing_is, is_nothing}
use Rattle.idl_rule_definitions.specs.declared.rule.TheConstants as Rule

abbrev pub is_any : {X : Type 0} → List X → Bool
is_any [] = false
is_any (x ∷ xs) = true

-- ## A word and its variables

-- The attributes of a word are those with variables.
abbrev pub HasVariables : List ℕ → Type 0
HasVariables word = (k : AttributeKind) → is_any (variable_if (word ∷ []) (variable_said k)) ≡ bytes_eq word (word_of k)

pub size_is_has : HasVariables (codes "size_is")
size_is_has (tree.Class class.Reference) = refl
size_is_has (tree.Class class.Unique) = refl
size_is_has (tree.Class class.Full) = refl
size_is_has (tree.Of variable.SizeIs v) = refl
size_is_has (tree.Of variable.MaxIs v) = refl
size_is_has (tree.Of variable.LengthIs v) = refl
size_is_has (tree.Of variable.FirstIs v) = refl
size_is_has (tree.Of variable.LastIs v) = refl
size_is_has (tree.Of variable.SwitchIs v) = refl
size_is_has _ = refl

pub max_is_has : HasVariables (codes "max_is")
max_is_has (tree.Class class.Reference) = refl
max_is_has (tree.Class class.Unique) = refl
max_is_has (tree.Class class.Full) = refl
max_is_has (tree.Of variable.SizeIs v) = refl
max_is_has (tree.Of variable.MaxIs v) = refl
max_is_has (tree.Of variable.LengthIs v) = refl
max_is_has (tree.Of variable.FirstIs v) = refl
max_is_has (tree.Of variable.LastIs v) = refl
max_is_has (tree.Of variable.SwitchIs v) = refl
max_is_has _ = refl

pub first_is_has : HasVariables (codes "first_is")
first_is_has (tree.Class class.Reference) = refl
first_is_has (tree.Class class.Unique) = refl
first_is_has (tree.Class class.Full) = refl
first_is_has (tree.Of variable.SizeIs v) = refl
first_is_has (tree.Of variable.MaxIs v) = refl
first_is_has (tree.Of variable.LengthIs v) = refl
first_is_has (tree.Of variable.FirstIs v) = refl
first_is_has (tree.Of variable.LastIs v) = refl
first_is_has (tree.Of variable.SwitchIs v) = refl
first_is_has _ = refl

pub length_is_has : HasVariables (codes "length_is")
length_is_has (tree.Class class.Reference) = refl
length_is_has (tree.Class class.Unique) = refl
length_is_has (tree.Class class.Full) = refl
length_is_has (tree.Of variable.SizeIs v) = refl
length_is_has (tree.Of variable.MaxIs v) = refl
length_is_has (tree.Of variable.LengthIs v) = refl
length_is_has (tree.Of variable.FirstIs v) = refl
length_is_has (tree.Of variable.LastIs v) = refl
length_is_has (tree.Of variable.SwitchIs v) = refl
length_is_has _ = refl

pub last_is_has : HasVariables (codes "last_is")
last_is_has (tree.Class class.Reference) = refl
last_is_has (tree.Class class.Unique) = refl
last_is_has (tree.Class class.Full) = refl
last_is_has (tree.Of variable.SizeIs v) = refl
last_is_has (tree.Of variable.MaxIs v) = refl
last_is_has (tree.Of variable.LengthIs v) = refl
last_is_has (tree.Of variable.FirstIs v) = refl
last_is_has (tree.Of variable.LastIs v) = refl
last_is_has (tree.Of variable.SwitchIs v) = refl
last_is_has _ = refl

pub switch_is_has : HasVariables (codes "switch_is")
switch_is_has (tree.Class class.Reference) = refl
switch_is_has (tree.Class class.Unique) = refl
switch_is_has (tree.Class class.Full) = refl
switch_is_has (tree.Of variable.SizeIs v) = refl
switch_is_has (tree.Of variable.MaxIs v) = refl
switch_is_has (tree.Of variable.LengthIs v) = refl
switch_is_has (tree.Of variable.FirstIs v) = refl
switch_is_has (tree.Of variable.LastIs v) = refl
switch_is_has (tree.Of variable.SwitchIs v) = refl
switch_is_has _ = refl

or_any : {X : Type 0} (xs ys : List X) → is_any (xs ++ ys) ≡ (is_any xs || is_any ys)
or_any [] ys = refl
or_any (x ∷ xs) ys = refl

-- a word is in a list exactly if it has variables
pub has_is : (word : List ℕ) → HasVariables word → (marks : List Attribute) → is_any (variables (word ∷ []) marks) ≡ has word marks
has_is word w [] = refl
has_is word w (a ∷ more) =
    or_any (variable_if (word ∷ []) (variable_said a.kind)) (variables (word ∷ []) more)
    ∙ ap (λ b. b || is_any (variables (word ∷ []) more)) (w a.kind) ∙ ap (λ b. bytes_eq word (word_of a.kind) || b) (has_is word w more)

-- ## Each attribute once

pub broken_is : (c : Construct) (rule at : ℕ) (b : Bool) → broken_at c rule at b ≡ [] → b ≡ false
broken_is c rule at false h = refl
broken_is c rule at true h = absurd (cc)

once : (s : Scene) (names : Names) (c : Construct) (before : List Attribute) (a : Attribute) → node_keeps s names (AttributeNode c before a) ≡ true → has (word_of a.kind) before ≡ false
once s names c before a h =
    let x = both_of (is_nothing (breaches_at s names (AttributeNode c before a))) true h in
    let one = broken_at c Rule.ATTRIBUTES_IN_PLACE a.at (is_out_of_place c.position a) in
    let two = broken_at c Rule.NO_WORD_TWICE a.at (is_repeated before a) in
    let four = broken_at c Rule.VERSION_NUMBERS a.at (is_large_version a) in
    let more = broken_in c Rule.CLASSES_ON_POINTERS (is_second_class before a) in
    let y = neither (one ++ two ++ four) more (nothing_is (breaches_at s names (AttributeNode c before a)) x.0) in
    let z = neither (one ++ two) four y.0 in
    let w = neither one two z.0 in
    broken_is c 2 a.at (is_repeated before a) w.1

abbrev is_one_or_none : {X : Type 0} → List X → Bool
is_one_or_none (x ∷ y ∷ more) = false
is_one_or_none _ = true

pub none_is : {X : Type 0} (xs : List X) → is_any xs ≡ false → xs ≡ []
none_is [] h = refl
none_is (x ∷ xs) h = absurd (let e : true ≡ false = h in cc)

-- a word of a list stands nowhere after
gone_by : (word : List ℕ) (before : List Attribute) (a : Attribute) (more : List Attribute) → has word before ≡ true → has (word_of a.kind) before ≡ false
    → (b : Bool) → bytes_eq word (word_of a.kind) ≡ b → has word more ≡ false → (b || has word more) ≡ false
gone_by word before a more h i true e next =
    absurd (let f : true ≡ false = sym h ∙ ap (λ w. has w before) ((bytes_eq-Decides word (word_of a.kind)).0 e) ∙ i in cc)
gone_by word before a more h i false e next = next

in_front : (word : List ℕ) (before : List Attribute) (a : Attribute) → has word before ≡ true → has word (before ++ a ∷ []) ≡ true
in_front word before a h = list_any-append (is_word word) before (a ∷ []) ∙ ap (λ b. b || has word (a ∷ [])) h

at_end : (word : List ℕ) (before : List Attribute) (a : Attribute) → bytes_eq word (word_of a.kind) ≡ true → has word (before ++ a ∷ []) ≡ true
at_end word before a h =
    list_any-append (is_word word) before (a ∷ []) ∙ right (has word before) (bytes_eq word (word_of a.kind) || false) (ap (λ b. b || false) h)

gone : (s : Scene) (names : Names) (c : Construct) (word : List ℕ) (before marks : List Attribute) → has word before ≡ true
    → list_all (node_keeps s names) (attribute_nodes_from c before marks) ≡ true → has word marks ≡ false
gone s names c word before [] h i = refl
gone s names c word before (a ∷ more) h i =
    let x = both_of (node_keeps s names (AttributeNode c before a)) (list_all (node_keeps s names) (attribute_nodes_from c (before ++ a ∷ []) more)) i in
    gone_by word before a more h (once s names c before a x.0) (bytes_eq word (word_of a.kind)) refl
    (gone s names c word (before ++ a ∷ []) more (in_front word before a h) x.1)

by_flag : (b : Bool) (v : Variable) (rest : List Variable) → (is_any (elim b [ true ↦ v ∷ [] | false ↦ [] ]) ≡ true → rest ≡ []) → is_one_or_none rest ≡ true
    → is_one_or_none (elim b [ true ↦ v ∷ [] | false ↦ [] ] ++ rest) ≡ true
by_flag true v rest f h = ap (λ r. is_one_or_none (v ∷ r)) (f refl)
by_flag false v rest f h = h

by_said : (word : List ℕ) (o : Option (List ℕ × Variable)) (rest : List Variable) → (is_any (variable_if (word ∷ []) o) ≡ true → rest ≡ []) → is_one_or_none rest ≡ true
    → is_one_or_none (variable_if (word ∷ []) o ++ rest) ≡ true
by_said word None rest f h = h
by_said word (Some e) rest f h = by_flag (list_any (bytes_eq e.0) (word ∷ [])) e.1 rest f h

pub one_at_most : (s : Scene) (names : Names) (c : Construct) (word : List ℕ) → HasVariables word → (before marks : List Attribute)
    → list_all (node_keeps s names) (attribute_nodes_from c before marks) ≡ true → is_one_or_none (variables (word ∷ []) marks) ≡ true
one_at_most s names c word w before [] h = refl
one_at_most s names c word w before (a ∷ more) h =
    let x = both_of (node_keeps s names (AttributeNode c before a)) (list_all (node_keeps s names) (attribute_nodes_from c (before ++ a ∷ []) more)) h in
    by_said word (variable_said a.kind) (variables (word ∷ []) more)
    (λ e.
    none_is (variables (word ∷ []) more)
    (has_is word w more ∙ gone s names c word (before ++ a ∷ []) more (at_end word before a (sym (w a.kind) ∙ e)) x.1))
    (one_at_most s names c word w (before ++ a ∷ []) more x.1)

-- ## In order

last_in_order : (xs : List AttrVar) (y : AttrVar) → are_ordered xs ≡ true → list_all (λ x. nat_lt (attr_rank x.attr) (attr_rank y.attr)) xs ≡ true → are_ordered (xs ++ y ∷ []) ≡ true
last_in_order [] y h i = refl
last_in_order (x ∷ []) y h i = and_from (nat_lt (attr_rank x.attr) (attr_rank y.attr)) true (both_of (nat_lt (attr_rank x.attr) (attr_rank y.attr)) true i).0 refl
last_in_order (x ∷ z ∷ more) y h i =
    let e = both_of (nat_lt (attr_rank x.attr) (attr_rank z.attr)) (are_ordered (z ∷ more)) h in
    let f = both_of (nat_lt (attr_rank x.attr) (attr_rank y.attr)) (list_all (λ u. nat_lt (attr_rank u.attr) (attr_rank y.attr)) (z ∷ more)) i in
    and_from (nat_lt (attr_rank x.attr) (attr_rank z.attr)) (are_ordered (z ∷ more ++ y ∷ [])) e.0 (last_in_order (z ∷ more) y e.1 f.1)

behind : (list : List Declared) (a : Attr) (xs : List AttrVar) (vs : List Variable) → are_ordered xs ≡ true → list_all (λ x. nat_lt (attr_rank x.attr) (attr_rank a)) xs ≡ true
    → is_one_or_none vs ≡ true → are_ordered (xs ++ map (attr_var list a) vs) ≡ true
behind list a xs [] h i j = subst (λ l. are_ordered l ≡ true) (sym (append-nil xs)) h
behind list a xs (v ∷ []) h i j = last_in_order xs (attr_var list a v) h i
behind list a xs (v ∷ w ∷ more) h i j = absurd (let e : false ≡ true = j in cc)

-- these stand before what has a greater rank
low : (list : List Declared) (k : ℕ) (a : Attr) → nat_lt (attr_rank a) k ≡ true → (vs : List Variable) → list_all (λ x. nat_lt (attr_rank x.attr) k) (map (attr_var list a) vs) ≡ true
low list k a h [] = refl
low list k a h (v ∷ vs) = and_from (nat_lt (attr_rank a) k) (list_all (λ x. nat_lt (attr_rank x.attr) k) (map (attr_var list a) vs)) h (low list k a h vs)

pub ordered_vars : (s : Scene) (names : Names) (c : Construct) (list : List Declared) → list_all (node_keeps s names) (attribute_nodes c) ≡ true
    → are_ordered (field_vars list c.attributes) ≡ true
ordered_vars s names c list h =
    let marks = c.attributes in
    let va = variables (codes "size_is" ∷ []) marks in
    let vb = variables (codes "max_is" ∷ []) marks in
    let vc = variables (codes "first_is" ∷ []) marks in
    let vd = variables (codes "length_is" ∷ []) marks in
    let ve = variables (codes "last_is" ∷ []) marks in
    let vf = variables (codes "switch_is" ∷ []) marks in
    let a = map (attr_var list attr.Size) va in
    let b = map (attr_var list attr.Max) vb in
    let d = map (attr_var list attr.First) vc in
    let e = map (attr_var list attr.Length) vd in
    let f = map (attr_var list attr.Last) ve in
    let below = λ (k : ℕ) (x : AttrVar). nat_lt (attr_rank x.attr) k in
    let o_a = behind list attr.Size [] va refl refl (one_at_most s names c (codes "size_is") size_is_has [] marks h) in
    let o_b = behind list attr.Max a vb o_a (low list 1 attr.Size refl va) (one_at_most s names c (codes "max_is") max_is_has [] marks h) in
    let o_c =
    behind list attr.First (a ++ b) vc o_b (join_all (below 2) a b (low list 2 attr.Size refl va) (low list 2 attr.Max refl vb))
    (one_at_most s names c (codes "first_is") first_is_has [] marks h) in
    let o_d =
    behind list attr.Length (a ++ b ++ d) vd o_c
    (join_all (below 3) (a ++ b) d (join_all (below 3) a b (low list 3 attr.Size refl va) (low list 3 attr.Max refl vb)) (low list 3 attr.First refl vc))
    (one_at_most s names c (codes "length_is") length_is_has [] marks h) in
    let o_e =
    behind list attr.Last (a ++ b ++ d ++ e) ve o_d
    (join_all (below 4) (a ++ b ++ d) e
    (join_all (below 4) (a ++ b) d (join_all (below 4) a b (low list 4 attr.Size refl va) (low list 4 attr.Max refl vb)) (low list 4 attr.First refl vc))
    (low list 4 attr.Length refl vd))
    (one_at_most s names c (codes "last_is") last_is_has [] marks h) in
    behind list attr.Switch (a ++ b ++ d ++ e ++ f) vf o_e
    (join_all (below 5) (a ++ b ++ d ++ e) f
    (join_all (below 5) (a ++ b ++ d) e
    (join_all (below 5) (a ++ b) d (join_all (below 5) a b (low list 5 attr.Size refl va) (low list 5 attr.Max refl vb)) (low list 5 attr.First refl vc))
    (low list 5 attr.Length refl vd))
    (low list 5 attr.Last refl ve))
    (one_at_most s names c (codes "switch_is") switch_is_has [] marks h)

-- ## Which attributes a field has

same_rank : (list : List Declared) (k : ℕ) (b : Attr) → (attr_rank b == k) ≡ true → (vs : List Variable) → list_any (λ v. attr_rank v.attr == k) (map (attr_var list b) vs) ≡ is_any vs
same_rank list k b h [] = refl
same_rank list k b h (v ∷ vs) = ap (λ t. t || list_any (λ x. attr_rank x.attr == k) (map (attr_var list b) vs)) h

other_rank : (list : List Declared) (k : ℕ) (b : Attr) → (attr_rank b == k) ≡ false → (vs : List Variable) → list_any (λ v. attr_rank v.attr == k) (map (attr_var list b) vs) ≡ false
other_rank list k b h [] = refl
other_rank list k b h (v ∷ vs) = ap (λ t. t || list_any (λ x. attr_rank x.attr == k) (map (attr_var list b) vs)) h ∙ other_rank list k b h vs

abbrev one_of_six : Bool → Bool → Bool → Bool → Bool → Bool → Bool
one_of_six a b c d e f = a || b || c || d || e || f

-- the six lists, one after the other
abbrev six : (AttrVar → Bool) → List AttrVar → List AttrVar → List AttrVar → List AttrVar → List AttrVar → List AttrVar → Bool
six p a b c d e f = list_any p a || list_any p b || list_any p c || list_any p d || list_any p e || list_any p f

six_is : (p : AttrVar → Bool) (a b c d e f : List AttrVar) → list_any p (a ++ b ++ c ++ d ++ e ++ f) ≡ six p a b c d e f
six_is p a b c d e f =
    list_any-append p (a ++ b ++ c ++ d ++ e) f
    ∙ ap (λ t. t || list_any p f)
    (list_any-append p (a ++ b ++ c ++ d) e
    ∙ ap (λ t. t || list_any p e)
    (list_any-append p (a ++ b ++ c) d
    ∙ ap (λ t. t || list_any p d)
    (list_any-append p (a ++ b) c ∙ ap (λ t. t || list_any p c) (list_any-append p a b))))

pick_size : {a b c d e f x : Bool} → a ≡ x → b ≡ false → c ≡ false → d ≡ false → e ≡ false → f ≡ false → one_of_six a b c d e f ≡ x
pick_size {a} {b} {c} {d} {e} {f} {x} ha hb hc hd he hf =
    let h : one_of_six a b c d e f ≡ one_of_six x false false false false false = cc in h ∙ only x
  where
    only : (x : Bool) → one_of_six x false false false false false ≡ x
    only true = refl
    only false = refl

pub of_size : (s : Scene) (names : Names) (list : List Declared) (d : Declared) → has_attr attr.Size (field s names list d) ≡ has (codes "size_is") d.construct.attributes
of_size s names list d =
    let marks = d.construct.attributes in
    let p : AttrVar → Bool = λ v. attr_rank v.attr == 0 in
    let v = λ (word : List ℕ). variables (word ∷ []) marks in
    six_is p (vars_of list marks (codes "size_is") attr.Size) (vars_of list marks (codes "max_is") attr.Max) (vars_of list marks (codes "first_is") attr.First)
    (vars_of list marks (codes "length_is") attr.Length) (vars_of list marks (codes "last_is") attr.Last) (vars_of list marks (codes "switch_is") attr.Switch)
    ∙ pick_size
    (same_rank list 0 attr.Size refl (v (codes "size_is")) ∙ has_is (codes "size_is") size_is_has marks)
    (other_rank list 0 attr.Max refl (v (codes "max_is")))
    (other_rank list 0 attr.First refl (v (codes "first_is")))
    (other_rank list 0 attr.Length refl (v (codes "length_is")))
    (other_rank list 0 attr.Last refl (v (codes "last_is")))
    (other_rank list 0 attr.Switch refl (v (codes "switch_is")))

pick_max : {a b c d e f x : Bool} → a ≡ false → b ≡ x → c ≡ false → d ≡ false → e ≡ false → f ≡ false → one_of_six a b c d e f ≡ x
pick_max {a} {b} {c} {d} {e} {f} {x} ha hb hc hd he hf =
    let h : one_of_six a b c d e f ≡ one_of_six false x false false false false = cc in h ∙ only x
  where
    only : (x : Bool) → one_of_six false x false false false false ≡ x
    only true = refl
    only false = refl

pub of_max : (s : Scene) (names : Names) (list : List Declared) (d : Declared) → has_attr attr.Max (field s names list d) ≡ has (codes "max_is") d.construct.attributes
of_max s names list d =
    let marks = d.construct.attributes in
    let p : AttrVar → Bool = λ v. attr_rank v.attr == 1 in
    let v = λ (word : List ℕ). variables (word ∷ []) marks in
    six_is p (vars_of list marks (codes "size_is") attr.Size) (vars_of list marks (codes "max_is") attr.Max) (vars_of list marks (codes "first_is") attr.First)
    (vars_of list marks (codes "length_is") attr.Length) (vars_of list marks (codes "last_is") attr.Last) (vars_of list marks (codes "switch_is") attr.Switch)
    ∙ pick_max
    (other_rank list 1 attr.Size refl (v (codes "size_is")))
    (same_rank list 1 attr.Max refl (v (codes "max_is")) ∙ has_is (codes "max_is") max_is_has marks)
    (other_rank list 1 attr.First refl (v (codes "first_is")))
    (other_rank list 1 attr.Length refl (v (codes "length_is")))
    (other_rank list 1 attr.Last refl (v (codes "last_is")))
    (other_rank list 1 attr.Switch refl (v (codes "switch_is")))

pick_first : {a b c d e f x : Bool} → a ≡ false → b ≡ false → c ≡ x → d ≡ false → e ≡ false → f ≡ false → one_of_six a b c d e f ≡ x
pick_first {a} {b} {c} {d} {e} {f} {x} ha hb hc hd he hf =
    let h : one_of_six a b c d e f ≡ one_of_six false false x false false false = cc in h ∙ only x
  where
    only : (x : Bool) → one_of_six false false x false false false ≡ x
    only true = refl
    only false = refl

pub of_first : (s : Scene) (names : Names) (list : List Declared) (d : Declared) → has_attr attr.First (field s names list d) ≡ has (codes "first_is") d.construct.attributes
of_first s names list d =
    let marks = d.construct.attributes in
    let p : AttrVar → Bool = λ v. attr_rank v.attr == 2 in
    let v = λ (word : List ℕ). variables (word ∷ []) marks in
    six_is p (vars_of list marks (codes "size_is") attr.Size) (vars_of list marks (codes "max_is") attr.Max) (vars_of list marks (codes "first_is") attr.First)
    (vars_of list marks (codes "length_is") attr.Length) (vars_of list marks (codes "last_is") attr.Last) (vars_of list marks (codes "switch_is") attr.Switch)
    ∙ pick_first
    (other_rank list 2 attr.Size refl (v (codes "size_is")))
    (other_rank list 2 attr.Max refl (v (codes "max_is")))
    (same_rank list 2 attr.First refl (v (codes "first_is")) ∙ has_is (codes "first_is") first_is_has marks)
    (other_rank list 2 attr.Length refl (v (codes "length_is")))
    (other_rank list 2 attr.Last refl (v (codes "last_is")))
    (other_rank list 2 attr.Switch refl (v (codes "switch_is")))

pick_length : {a b c d e f x : Bool} → a ≡ false → b ≡ false → c ≡ false → d ≡ x → e ≡ false → f ≡ false → one_of_six a b c d e f ≡ x
pick_length {a} {b} {c} {d} {e} {f} {x} ha hb hc hd he hf =
    let h : one_of_six a b c d e f ≡ one_of_six false false false x false false = cc in h ∙ only x
  where
    only : (x : Bool) → one_of_six false false false x false false ≡ x
    only true = refl
    only false = refl

pub of_length : (s : Scene) (names : Names) (list : List Declared) (d : Declared) → has_attr attr.Length (field s names list d) ≡ has (codes "length_is") d.construct.attributes
of_length s names list d =
    let marks = d.construct.attributes in
    let p : AttrVar → Bool = λ v. attr_rank v.attr == 3 in
    let v = λ (word : List ℕ). variables (word ∷ []) marks in
    six_is p (vars_of list marks (codes "size_is") attr.Size) (vars_of list marks (codes "max_is") attr.Max) (vars_of list marks (codes "first_is") attr.First)
    (vars_of list marks (codes "length_is") attr.Length) (vars_of list marks (codes "last_is") attr.Last) (vars_of list marks (codes "switch_is") attr.Switch)
    ∙ pick_length
    (other_rank list 3 attr.Size refl (v (codes "size_is")))
    (other_rank list 3 attr.Max refl (v (codes "max_is")))
    (other_rank list 3 attr.First refl (v (codes "first_is")))
    (same_rank list 3 attr.Length refl (v (codes "length_is")) ∙ has_is (codes "length_is") length_is_has marks)
    (other_rank list 3 attr.Last refl (v (codes "last_is")))
    (other_rank list 3 attr.Switch refl (v (codes "switch_is")))

pick_last : {a b c d e f x : Bool} → a ≡ false → b ≡ false → c ≡ false → d ≡ false → e ≡ x → f ≡ false → one_of_six a b c d e f ≡ x
pick_last {a} {b} {c} {d} {e} {f} {x} ha hb hc hd he hf =
    let h : one_of_six a b c d e f ≡ one_of_six false false false false x false = cc in h ∙ only x
  where
    only : (x : Bool) → one_of_six false false false false x false ≡ x
    only true = refl
    only false = refl

pub of_last : (s : Scene) (names : Names) (list : List Declared) (d : Declared) → has_attr attr.Last (field s names list d) ≡ has (codes "last_is") d.construct.attributes
of_last s names list d =
    let marks = d.construct.attributes in
    let p : AttrVar → Bool = λ v. attr_rank v.attr == 4 in
    let v = λ (word : List ℕ). variables (word ∷ []) marks in
    six_is p (vars_of list marks (codes "size_is") attr.Size) (vars_of list marks (codes "max_is") attr.Max) (vars_of list marks (codes "first_is") attr.First)
    (vars_of list marks (codes "length_is") attr.Length) (vars_of list marks (codes "last_is") attr.Last) (vars_of list marks (codes "switch_is") attr.Switch)
    ∙ pick_last
    (other_rank list 4 attr.Size refl (v (codes "size_is")))
    (other_rank list 4 attr.Max refl (v (codes "max_is")))
    (other_rank list 4 attr.First refl (v (codes "first_is")))
    (other_rank list 4 attr.Length refl (v (codes "length_is")))
    (same_rank list 4 attr.Last refl (v (codes "last_is")) ∙ has_is (codes "last_is") last_is_has marks)
    (other_rank list 4 attr.Switch refl (v (codes "switch_is")))

pick_switch : {a b c d e f x : Bool} → a ≡ false → b ≡ false → c ≡ false → d ≡ false → e ≡ false → f ≡ x → one_of_six a b c d e f ≡ x
pick_switch {a} {b} {c} {d} {e} {f} {x} ha hb hc hd he hf =
    let h : one_of_six a b c d e f ≡ one_of_six false false false false false x = cc in h ∙ only x
  where
    only : (x : Bool) → one_of_six false false false false false x ≡ x
    only true = refl
    only false = refl

pub of_switch : (s : Scene) (names : Names) (list : List Declared) (d : Declared) → has_attr attr.Switch (field s names list d) ≡ has (codes "switch_is") d.construct.attributes
of_switch s names list d =
    let marks = d.construct.attributes in
    let p : AttrVar → Bool = λ v. attr_rank v.attr == 5 in
    let v = λ (word : List ℕ). variables (word ∷ []) marks in
    six_is p (vars_of list marks (codes "size_is") attr.Size) (vars_of list marks (codes "max_is") attr.Max) (vars_of list marks (codes "first_is") attr.First)
    (vars_of list marks (codes "length_is") attr.Length) (vars_of list marks (codes "last_is") attr.Last) (vars_of list marks (codes "switch_is") attr.Switch)
    ∙ pick_switch
    (other_rank list 5 attr.Size refl (v (codes "size_is")))
    (other_rank list 5 attr.Max refl (v (codes "max_is")))
    (other_rank list 5 attr.First refl (v (codes "first_is")))
    (other_rank list 5 attr.Length refl (v (codes "length_is")))
    (other_rank list 5 attr.Last refl (v (codes "last_is")))
    (same_rank list 5 attr.Switch refl (v (codes "switch_is")) ∙ has_is (codes "switch_is") switch_is_has marks)
