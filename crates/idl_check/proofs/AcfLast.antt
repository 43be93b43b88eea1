-- The fortieth rule comes after all others: the first of all is the first of those, and where there is none the first of its own.
use Rattle.std.proofs.Common.{◌≡◌, ◌∙◌, ℕ, Bool, true, false, not, ◌&&◌, ◌||◌, eqb, ltb, List, [], ◌∷◌, ◌++◌, map, Option, Some, None, refl, ap, sym, subst, arith}
use Rattle.std.specs.Prelude.{⊤}
use Rattle.std.specs.List.{flat_map, list_any}
use Rattle.std.proofs.lemmas.Bool.Decides.{nat_tests}
use Rattle.std.proofs.lemmas.List.Concat.{flat_map-cons}
use Rattle.idl_grammar.specs.Tree.{Export, Tree}
use Rattle.idl_grammar.specs.Tree as idl
use Rattle.idl_scope.specs.Known.{Known}
use Rattle.acf_reader.specs.declared.tree.Attribute.{Attribute}
use Rattle.acf_reader.specs.Grammar.{Parameter, BodyElement, Include, Types, Operation, Acf}
use Rattle.idl_rule_definitions.specs.Nodes.{Construct, place_in, Node, HeaderNode, AttributeNode, SwitchNode, TagNode, BodyNode, EnumeratorNode, LabelNode, EmptyArmNode, DeclaratorNode, ConstantNode}
use Rattle.idl_rule_definitions.specs.Nodes.{TypeNode, OperationNode, World}
use Rattle.idl_rule_definitions.specs.Types.{Names, switch_type, is_void, is_handle, is_pipe, is_context}
use Rattle.idl_rule_definitions.specs.DeclarationRules.{is_out_of_place, is_repeated, lacks_uuid_and_local, is_large_version, is_second_class, has_no_body, lacks_switch_type, is_wrongly_cased}
use Rattle.idl_rule_definitions.specs.DeclarationRules.{has_class, has_string, lacks_direction, is_large_enumerator, has_lower_bounds, is_bad_label, is_wrong_constant, is_void_constant}
use Rattle.idl_rule_definitions.specs.DeclarationRules.{is_handle_constant, too_many}
use Rattle.idl_rule_definitions.specs.TypeRules.{holds_void, holds_handle, holds_pipe, is_no_context_handle, holds_context_handle, in_tag, contains_itself, is_deep_body, holds_deep_array}
use Rattle.idl_rule_definitions.specs.TypeRules.{is_wrong_result, has_wrong_counts, has_wrong_dimensions, has_wrong_elements, hoists_before_last, is_hoisting_arm, holds_wrong_pipe}
use Rattle.idl_rule_definitions.specs.TypeRules.{has_class_without_pointer, holds_pointer_without_class, holds_pointer_to_reference, is_nullable_out, is_wrong_out}
use Rattle.idl_rule_definitions.specs.VariableRules.{may_not_be_switched, holds_nonencapsulated_union, has_wrong_switch, is_wrong_text, is_wrongly_sized, is_wrongly_varying, has_no_variable}
use Rattle.idl_rule_definitions.specs.VariableRules.{has_wrong_variable}
use Rattle.idl_rule_definitions.specs.Meaning.{main_among}
use Rattle.idl_rule_definitions.specs.Scene.{Scene, Scoped, Use, Body, use_of, tag_type, scene_of}
use Rattle.idl_rule_definitions.specs.Rules.{Breach, breach, broken_at, broken_in, breaches_at, breaches_of_use, breaches_of_body, breaches_in, breaches, comes_before, rank, earlier, first_of}
use Rattle.idl_rule_definitions.specs.Rules.{first_broken, IsLeast}
use Rattle.idl_rule_definitions.proofs.Order as order
use Rattle.idl_check.specs.AcfRules as acf
use Rattle.idl_check.specs.AcfRules.{is_misplaced, is_of_type, is_of_operation, is_of_parameter, is_no_type, is_no_parameter, attribute_list, parameters_found, breaches_of_parameter}
use Rattle.idl_check.specs.AcfRules.{breaches_of_operation, breaches_of_element, breaks_header, breaches_beside, acf_breaches, all_breaches, first_of_all, or_else}

-- ## The other rules are less than 40

-- each breach is of a lesser rule
data Low : List Breach → Type 0 where
  none_low : Low []
  next_low : (b : Breach) (bs : List Breach) → ltb b.rule 40 ≡ true → Low bs → Low (b ∷ bs)

both : {xs ys : List Breach} → Low xs → Low ys → Low (xs ++ ys)
both none_low h = h
both {ys = ys} (next_low b bs is rest) h = next_low b (bs ++ ys) is (both rest h)

low : (c : Construct) (rule at : ℕ) (b : Bool) → ltb rule 40 ≡ true → Low (broken_at c rule at b)
low c rule at false e = none_low
low c rule at true e = next_low (breach rule (place_in c at)) [] e none_low

low_of_use : (s : Scene) (u : Use) → Low (breaches_of_use s u)
low_of_use s u =
    both (both
    (both (both
    (both (both
    (both (both (both (both (both (both (both (both (both (both (both (both (both (both (both (both (both (both (both (both (both ((low u.construct 6 u.construct.at (holds_void u) refl))
    (low u.construct 7 u.construct.at (holds_handle u) refl))
    (low u.construct 8 u.construct.at (holds_pipe u) refl))
    (low u.construct 9 u.construct.at (is_no_context_handle u) refl))
    (low u.construct 10 u.construct.at (holds_context_handle u) refl))
    (low u.construct 12 u.construct.at (holds_deep_array s u) refl))
    (low u.construct 14 u.construct.at (has_wrong_counts u) refl))
    (low u.construct 15 u.construct.at (has_lower_bounds s.known u.it) refl))
    (low u.construct 16 u.construct.at (has_wrong_dimensions u) refl))
    (low u.construct 17 u.construct.at (has_wrong_elements s u) refl))
    (low u.construct 18 u.construct.at (hoists_before_last s u) refl))
    (low u.construct 19 u.construct.at (is_hoisting_arm s u) refl))
    (low u.construct 20 u.construct.at (holds_wrong_pipe s u) refl))
    (low u.construct 23 u.construct.at (is_wrongly_cased u.construct) refl))
    (low u.construct 24 u.construct.at (holds_nonencapsulated_union s u) refl))
    (low u.construct 25 u.construct.at (has_wrong_switch s u) refl))
    (low u.construct 26 u.construct.at (has_class_without_pointer u) refl))
    (low u.construct 27 u.construct.at (holds_pointer_without_class u) refl))
    (low u.construct 28 u.construct.at (holds_pointer_to_reference u) refl))
    (low u.construct 29 u.construct.at (is_nullable_out u) refl))
    (low u.construct 30 u.construct.at (lacks_direction u.construct) refl))
    (low u.construct 31 u.construct.at (is_wrong_out u) refl))
    (low u.construct 32 u.construct.at (is_wrong_result u) refl))
    (low u.construct 33 u.construct.at (is_wrong_text u) refl))
    (low u.construct 34 u.construct.at (is_wrongly_sized u) refl))
    (low u.construct 35 u.construct.at (is_wrongly_varying u) refl))
    (low u.construct 36 u.construct.at (has_no_variable u) refl))
    (low u.construct 37 u.construct.at (has_wrong_variable s u) refl)

low_of_body : (s : Scene) (b : Body) → Low (breaches_of_body s b)
low_of_body s b = both (both (low b.construct 11 b.construct.at (contains_itself s b) refl) (low b.construct 12 b.construct.at (is_deep_body s b) refl))
    (low b.construct 23 b.construct.at (lacks_switch_type b.construct b.body) refl)

low_at : (s : Scene) (names : Names) (n : Node) → Low (breaches_at s names n)
low_at s names (HeaderNode c at) = low c 3 at (lacks_uuid_and_local c) refl
low_at s names (AttributeNode c before a) =
    (both (both (both (low c 1 a.at (is_out_of_place c.position a) refl) (low c 2 a.at (is_repeated before a) refl)) (low c 4 a.at (is_large_version a) refl))
    (low c 26 c.at (is_second_class before a) refl))
low_at s names (SwitchNode c type) =
    both (both (both (both (low c 6 c.at (in_tag is_void (switch_type names type)) refl) (low c 7 c.at (in_tag is_handle (switch_type names type)) refl))
    (low c 8 c.at (in_tag is_pipe (switch_type names type)) refl)) (low c 10 c.at (in_tag is_context (switch_type names type)) refl))
    (low c 21 c.at (may_not_be_switched (switch_type names type)) refl)
low_at s names (TagNode c kind tag) = none_low
low_at s names (BodyNode c body) = low_of_body s (record { construct = c; names = names; body = body })
low_at s names (EnumeratorNode c name) = low c 13 name.at (is_large_enumerator s.known name) refl
low_at s names (LabelNode c body before label) = low c 22 label.at (is_bad_label s (tag_type c names body) before label) refl
low_at s names (EmptyArmNode c) = both (both (low c 23 c.at (is_wrongly_cased c) refl) (low c 26 c.at (has_class c) refl)) (low c 33 c.at (has_string c) refl)
low_at s names (DeclaratorNode list index d) = low_of_use s (use_of s.known names list index d)
low_at s names (ConstantNode c type star value) =
    both (both (low c 6 c.at (is_void_constant type value) refl) (low c 7 c.at (is_handle_constant type) refl)) (low c 38 c.at (is_wrong_constant s.known type star value) refl)
low_at s names (TypeNode c type) = low c 5 c.at (has_no_body type) refl
low_at s names (OperationNode c name parameters result) = none_low

low_of_nodes : (s : Scene) (ns : List Scoped) → Low (flat_map (λ n. breaches_at s n.names n.node) ns)
low_of_nodes s [] = none_low
low_of_nodes s (n ∷ ns) =
    subst (λ l. Low l) (sym (flat_map-cons (λ m. breaches_at s m.names m.node) n ns)) (both (low_at s n.names n.node) (low_of_nodes s ns))

low_of_counts : (cs : List Construct) → Low (map (λ c. breach 39 (place_in c c.at)) cs)
low_of_counts [] = none_low
low_of_counts (c ∷ cs) = next_low (breach 39 (place_in c c.at)) (map (λ d. breach 39 (place_in d d.at)) cs) refl (low_of_counts cs)

all_low : (w : World) → Low (breaches w)
unfolding breaches
all_low w = both (low_of_nodes (scene_of w) (scene_of w).nodes) (low_of_counts (too_many (scene_of w)))

-- ## Those of attribute configuration files are of the fortieth

data Last : List Breach → Type 0 where
  none_last : Last []
  next_last : (b : Breach) (bs : List Breach) → b.rule ≡ 40 → Last bs → Last (b ∷ bs)

both_last : {xs ys : List Breach} → Last xs → Last ys → Last (xs ++ ys)
both_last none_last h = h
both_last {ys = ys} (next_last b bs is rest) h = next_last b (bs ++ ys) is (both_last rest h)

last : (at : ℕ) (b : Bool) → Last (acf.broken_at at b)
last at false = none_last
last at true = next_last (breach 40 (record { file = acf.acf_file; at = at })) [] refl none_last

last_of_parameters : (qs : List idl.Parameter) (ps : List Parameter) → Last (flat_map (breaches_of_parameter qs) ps)
last_of_parameters qs [] = none_last
last_of_parameters qs (p ∷ ps) =
    subst (λ l. Last l) (sym (flat_map-cons (breaches_of_parameter qs) p ps))
    (both_last (last p.at (is_misplaced is_of_parameter (attribute_list p.attributes) || is_no_parameter qs p.name)) (last_of_parameters qs ps))

last_of_operation : (at : ℕ) (attributes : List Attribute) (ps : List Parameter) (found : Option (List idl.Parameter)) → Last (breaches_of_operation at attributes ps found)
last_of_operation at attributes ps None = last at true
last_of_operation at attributes ps (Some qs) = both_last (last at (is_misplaced is_of_operation attributes)) (last_of_parameters qs ps)

last_of_element : (known : Known) (main : Tree) (e : BodyElement) → Last (breaches_of_element known main e)
last_of_element known main (Include at files) = none_last
last_of_element known main (Types at a names) = last at (is_misplaced is_of_type a.list || list_any (is_no_type known) names)
last_of_element known main (Operation at a name ps) = last_of_operation at (attribute_list a) ps (parameters_found name main.exports)

last_of_body : (known : Known) (main : Tree) (es : List BodyElement) → Last (flat_map (breaches_of_element known main) es)
last_of_body known main [] = none_last
last_of_body known main (e ∷ es) =
    subst (λ l. Last l) (sym (flat_map-cons (breaches_of_element known main) e es)) (both_last (last_of_element known main e) (last_of_body known main es))

last_beside : (known : Known) (f : Acf) (ts : List Tree) → Last (flat_map (breaches_beside known f) ts)
last_beside known f [] = none_last
last_beside known f (t ∷ ts) =
    subst (λ l. Last l) (sym (flat_map-cons (breaches_beside known f) t ts))
    (both_last (both_last (last f.at (breaks_header known t f)) (last_of_body known t f.body)) (last_beside known f ts))

all_last : (w : World) (f : Option Acf) → Last (acf_breaches w f)
unfolding acf_breaches
all_last w None = none_last
all_last w (Some f) = last_beside w.known f (main_among w.files)

-- ## The first of both

abbrev IsLast : Option Breach → Type 0
IsLast None = ⊤
IsLast (Some b) = b.rule ≡ 40

abbrev rule_chosen : Breach → Breach → Bool → ℕ
rule_chosen a b true = a.rule
rule_chosen a b false = b.rule

chosen_rule : (a b : Breach) (t : Bool) → rule_chosen a b t ≡ 40 → (u : Breach) → u ≡ elim t [ true ↦ a | false ↦ b ] → u.rule ≡ 40
chosen_rule a b true h u e = ap (λ x. x.rule) e ∙ h
chosen_rule a b false h u e = ap (λ x. x.rule) e ∙ h

earlier_last : (w : World) (b : Breach) → b.rule ≡ 40 → (o : Option Breach) → IsLast o → IsLast (Some (earlier w b o))
earlier_last w b is None h = is
earlier_last w b is (Some a) h = by (comes_before w a b) refl where
  by : (t : Bool) → comes_before w a b ≡ t → (earlier w b (Some a)).rule ≡ 40
  by true e = chosen_rule a b true h (earlier w b (Some a)) (ap (λ t. elim t [ true ↦ a | false ↦ b ]) e)
  by false e = chosen_rule a b false is (earlier w b (Some a)) (ap (λ t. elim t [ true ↦ a | false ↦ b ]) e)

first_last : (w : World) (bs : List Breach) → Last bs → IsLast (first_of w bs)
first_last w [] none_last = tt
first_last w (b ∷ bs) (next_last _ _ is rest) = earlier_last w b is (first_of w bs) (first_last w bs rest)

not_before_low : (w : World) (a b : Breach) → ltb a.rule 40 ≡ true → b.rule ≡ 40 → comes_before w b a ≡ false
not_before_low w a b h i = by_numbers a.rule (rank w a.place.file) a.place.at b.rule (rank w b.place.file) b.place.at h i where
  by_numbers : (r k p s l q : ℕ) → ltb r 40 ≡ true → s ≡ 40 → (ltb s r || eqb s r && (ltb l k || eqb l k && ltb q p)) ≡ false
  by_numbers r k p s l q h i = grind (arith, nat_tests, h, i)

stays : (w : World) (b : Breach) → ltb b.rule 40 ≡ true → (l o : Option Breach) → IsLast o → earlier w b (or_else l o) ≡ earlier w b l
stays w b e None None h = refl
stays w b e None (Some a) h = ap (λ t. elim t [ true ↦ a | false ↦ b ]) (not_before_low w b a e h)
stays w b e (Some l) o h = refl

first_of_two : (w : World) (xs ys : List Breach) → Low xs → Last ys → first_of w (xs ++ ys) ≡ or_else (first_of w xs) (first_of w ys)
first_of_two w [] ys none_low h = refl
first_of_two w (b ∷ xs) ys (next_low _ _ is rest) h =
    ap (λ o. Some (earlier w b o)) (first_of_two w xs ys rest h) ∙ ap (λ x. Some x) (stays w b is (first_of w xs) (first_of w ys) (first_last w ys h))

pub acf_behind : (w : World) (f : Option Acf) → first_of_all w f ≡ or_else (first_broken w) (first_of w (acf_breaches w f))
acf_behind w f = first_of_two w (breaches w) (acf_breaches w f) (all_low w) (all_last w f)

same : (o : Option Breach) → or_else o None ≡ o
same None = refl
same (Some b) = refl

pub none_beside : (w : World) → first_of_all w None ≡ first_broken w
unfolding acf_breaches
none_beside w = acf_behind w None ∙ same (first_broken w)

pub least_of_all : (w : World) (f : Option Acf) → IsLeast w (all_breaches w f) (first_of_all w f)
least_of_all w f = order.least w (all_breaches w f)
