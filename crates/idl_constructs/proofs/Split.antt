-- The breaches of all rules are those of the rules on attribute lists, those of the other rules node by node, and those of rule 39.
use Rattle.std.proofs.Common.{◌≡◌, ◌∙◌, ℕ, Bool, true, false, ltb, List, [], ◌∷◌, ◌++◌, map, append-nil, refl, ap, ap₂, sym}
use Rattle.std.specs.List.{flat_map}
use Rattle.std.proofs.lemmas.List.Concat.{flat_map-cons}
use Rattle.idl_rule_definitions.specs.Nodes.{Construct, place_in, Node, HeaderNode, AttributeNode, SwitchNode, TagNode, BodyNode, EnumeratorNode, LabelNode, EmptyArmNode, DeclaratorNode, ConstantNode}
use Rattle.idl_rule_definitions.specs.Nodes.{TypeNode, OperationNode}
use Rattle.idl_rule_definitions.specs.Types.{Names, switch_type, is_void, is_handle, is_pipe, is_context}
use Rattle.idl_rule_definitions.specs.Scene.{Scene, Scoped, Use, Body, use_of, tag_type}
use Rattle.idl_rule_definitions.specs.Rules.{Breach, breach, broken_at, breaches_at, breaches_of_use, breaches_of_body, breaches_in}
use Rattle.idl_rule_definitions.specs.DeclarationRules.{is_out_of_place, is_repeated, lacks_uuid_and_local, is_large_version, is_second_class, has_no_body, lacks_switch_type, is_wrongly_cased}
use Rattle.idl_rule_definitions.specs.DeclarationRules.{has_class, has_string, lacks_direction, is_large_enumerator, has_lower_bounds, is_bad_label, is_wrong_constant, is_void_constant}
use Rattle.idl_rule_definitions.specs.DeclarationRules.{is_handle_constant, too_many}
use Rattle.idl_rule_definitions.specs.TypeRules.{holds_void, holds_handle, holds_pipe, is_no_context_handle, holds_context_handle, in_tag, contains_itself, is_deep_body, holds_deep_array}
use Rattle.idl_rule_definitions.specs.TypeRules.{is_wrong_result, has_wrong_counts, has_wrong_dimensions, has_wrong_elements, hoists_before_last, is_hoisting_arm, holds_wrong_pipe}
use Rattle.idl_rule_definitions.specs.TypeRules.{has_class_without_pointer, holds_pointer_without_class, holds_pointer_to_reference, is_nullable_out, is_wrong_out}
use Rattle.idl_rule_definitions.specs.VariableRules.{may_not_be_switched, holds_nonencapsulated_union, has_wrong_switch, is_wrong_text, is_wrongly_sized, is_wrongly_varying, has_no_variable}
use Rattle.idl_rule_definitions.specs.VariableRules.{has_wrong_variable}
use Rattle.idl_rule_definitions.specs.Noted.{is_of_lists, of_lists, of_others}
use Rattle.idl_constructs.specs.ListBreaches.{list_breaches_at, list_breaches}
use Rattle.idl_rule_definitions.specs.OtherBreaches.{other_breaches}
use Rattle.idl_rule_definitions.specs.declared.rule.TheConstants as Rule
use Rattle.idl_rule_definitions.proofs.OtherNotes.{others_append}

-- ## Two parts of a list

lists_append : (xs ys : List Breach) → of_lists (xs ++ ys) ≡ of_lists xs ++ of_lists ys
lists_append [] ys = refl
lists_append (b ∷ xs) ys = by (is_of_lists b) (lists_append xs ys) where
  by : (t : Bool) → of_lists (xs ++ ys) ≡ of_lists xs ++ of_lists ys
      → elim t [ true ↦ b ∷ of_lists (xs ++ ys) | false ↦ of_lists (xs ++ ys) ] ≡ (elim t [ true ↦ b ∷ of_lists xs | false ↦ of_lists xs ]) ++ of_lists ys
  by true rest = ap (λ l. b ∷ l) rest
  by false rest = rest

lists_of_all : (f : Scoped → List Breach) (ns : List Scoped) → of_lists (flat_map f ns) ≡ flat_map (λ n. of_lists (f n)) ns
lists_of_all f [] = refl
lists_of_all f (n ∷ ns) =
    ap of_lists (flat_map-cons f n ns) ∙ lists_append (f n) (flat_map f ns) ∙ ap (λ l. of_lists (f n) ++ l) (lists_of_all f ns)
    ∙ sym (flat_map-cons (λ m. of_lists (f m)) n ns)

others_of_all : (f : Scoped → List Breach) (ns : List Scoped) → of_others (flat_map f ns) ≡ flat_map (λ n. of_others (f n)) ns
others_of_all f [] = refl
others_of_all f (n ∷ ns) =
    ap of_others (flat_map-cons f n ns) ∙ others_append (f n) (flat_map f ns) ∙ ap (λ l. of_others (f n) ++ l) (others_of_all f ns)
    ∙ sym (flat_map-cons (λ m. of_others (f m)) n ns)

-- ## Rule 39 is no rule on lists

no_lists_39 : (cs : List Construct) → of_lists (map (λ c. breach Rule.COUNTS (place_in c c.at)) cs) ≡ []
no_lists_39 [] = refl
no_lists_39 (c ∷ cs) = no_lists_39 cs

others_39 : (cs : List Construct) → of_others (map (λ c. breach Rule.COUNTS (place_in c c.at)) cs) ≡ map (λ c. breach Rule.COUNTS (place_in c c.at)) cs
others_39 [] = refl
others_39 (c ∷ cs) = ap (λ l. breach Rule.COUNTS (place_in c c.at) ∷ l) (others_39 cs)

-- ## What a node breaks of the rules on lists

-- this is what of some breaches is of the rules on lists
record IsPart (bs part : List Breach) : Type 0 where
  is : of_lists bs ≡ part

-- a rule that is none of these
other : (c : Construct) (rule at : ℕ) (b : Bool) → ltb rule Rule.BODY ≡ false → IsPart (broken_at c rule at b) []
other c rule at false e = record { is = refl }
other c rule at true e = record { is = ap (λ t. elim t [ true ↦ breach rule (place_in c at) ∷ [] | false ↦ [] ]) e }

-- a rule on lists
own : (c : Construct) (rule at : ℕ) (b : Bool) → ltb rule Rule.BODY ≡ true → IsPart (broken_at c rule at b) (broken_at c rule at b)
own c rule at false e = record { is = refl }
own c rule at true e = record { is = ap (λ t. elim t [ true ↦ breach rule (place_in c at) ∷ [] | false ↦ [] ]) e }

joined : {xs ys ps qs : List Breach} → IsPart xs ps → IsPart ys qs → IsPart (xs ++ ys) (ps ++ qs)
joined {xs = xs} {ys = ys} h i = record { is = lists_append xs ys ∙ ap₂ (λ a b. a ++ b) h.is i.is }

-- two without such rules
both : {xs ys : List Breach} → IsPart xs [] → IsPart ys [] → IsPart (xs ++ ys) []
both h i = joined h i

no_lists_of_use : (s : Scene) (u : Use) → IsPart (breaches_of_use s u) []
no_lists_of_use s u =
    both (both
    (both (both
    (both (both
    (both (both (both (both (both (both (both (both (both (both (both (both (both (both (both (both (both (both (both (both (both ((other u.construct 6 u.construct.at (holds_void u) refl))
    (other u.construct 7 u.construct.at (holds_handle u) refl))
    (other u.construct 8 u.construct.at (holds_pipe u) refl))
    (other u.construct 9 u.construct.at (is_no_context_handle u) refl))
    (other u.construct 10 u.construct.at (holds_context_handle u) refl))
    (other u.construct 12 u.construct.at (holds_deep_array s u) refl))
    (other u.construct 14 u.construct.at (has_wrong_counts u) refl))
    (other u.construct 15 u.construct.at (has_lower_bounds s.known u.it) refl))
    (other u.construct 16 u.construct.at (has_wrong_dimensions u) refl))
    (other u.construct 17 u.construct.at (has_wrong_elements s u) refl))
    (other u.construct 18 u.construct.at (hoists_before_last s u) refl))
    (other u.construct 19 u.construct.at (is_hoisting_arm s u) refl))
    (other u.construct 20 u.construct.at (holds_wrong_pipe s u) refl))
    (other u.construct 23 u.construct.at (is_wrongly_cased u.construct) refl))
    (other u.construct 24 u.construct.at (holds_nonencapsulated_union s u) refl))
    (other u.construct 25 u.construct.at (has_wrong_switch s u) refl))
    (other u.construct 26 u.construct.at (has_class_without_pointer u) refl))
    (other u.construct 27 u.construct.at (holds_pointer_without_class u) refl))
    (other u.construct 28 u.construct.at (holds_pointer_to_reference u) refl))
    (other u.construct 29 u.construct.at (is_nullable_out u) refl))
    (other u.construct 30 u.construct.at (lacks_direction u.construct) refl))
    (other u.construct 31 u.construct.at (is_wrong_out u) refl))
    (other u.construct 32 u.construct.at (is_wrong_result u) refl))
    (other u.construct 33 u.construct.at (is_wrong_text u) refl))
    (other u.construct 34 u.construct.at (is_wrongly_sized u) refl))
    (other u.construct 35 u.construct.at (is_wrongly_varying u) refl))
    (other u.construct 36 u.construct.at (has_no_variable u) refl))
    (other u.construct 37 u.construct.at (has_wrong_variable s u) refl)

no_lists_of_body : (s : Scene) (b : Body) → IsPart (breaches_of_body s b) []
no_lists_of_body s b = both (both (other b.construct 11 b.construct.at (contains_itself s b) refl) (other b.construct 12 b.construct.at (is_deep_body s b) refl))
    (other b.construct 23 b.construct.at (lacks_switch_type b.construct b.body) refl)

ended : {xs ps : List Breach} → IsPart xs (ps ++ []) → IsPart xs ps
ended {ps = ps} h = record { is = h.is ∙ append-nil ps }

part_at : (s : Scene) (names : Names) (n : Node) → IsPart (breaches_at s names n) (list_breaches_at n)
part_at s names (HeaderNode c at) = own c 3 at (lacks_uuid_and_local c) refl
part_at s names (AttributeNode c before a) =
    ended (joined (joined (joined (own c 1 a.at (is_out_of_place c.position a) refl) (own c 2 a.at (is_repeated before a) refl)) (own c 4 a.at (is_large_version a) refl))
    (other c 26 c.at (is_second_class before a) refl))
part_at s names (SwitchNode c type) =
    both (both (both (both (other c 6 c.at (in_tag is_void (switch_type names type)) refl) (other c 7 c.at (in_tag is_handle (switch_type names type)) refl))
    (other c 8 c.at (in_tag is_pipe (switch_type names type)) refl)) (other c 10 c.at (in_tag is_context (switch_type names type)) refl))
    (other c 21 c.at (may_not_be_switched (switch_type names type)) refl)
part_at s names (TagNode c kind tag) = record { is = refl }
part_at s names (BodyNode c body) = no_lists_of_body s (record { construct = c; names = names; body = body })
part_at s names (EnumeratorNode c name) = other c 13 name.at (is_large_enumerator s.known name) refl
part_at s names (LabelNode c body before label) = other c 22 label.at (is_bad_label s (tag_type c names body) before label) refl
part_at s names (EmptyArmNode c) = both (both (other c 23 c.at (is_wrongly_cased c) refl) (other c 26 c.at (has_class c) refl)) (other c 33 c.at (has_string c) refl)
part_at s names (DeclaratorNode list index d) = no_lists_of_use s (use_of s.known names list index d)
part_at s names (ConstantNode c type star value) =
    both (both (other c 6 c.at (is_void_constant type value) refl) (other c 7 c.at (is_handle_constant type) refl)) (other c 38 c.at (is_wrong_constant s.known type star value) refl)
part_at s names (TypeNode c type) = other c 5 c.at (has_no_body type) refl
part_at s names (OperationNode c name parameters result) = record { is = refl }

pub lists_at : (s : Scene) (names : Names) (n : Node) → of_lists (breaches_at s names n) ≡ list_breaches_at n
lists_at s names n = (part_at s names n).is

-- ## All nodes

all_lists : (s : Scene) (ns : List Scoped) → flat_map (λ n. of_lists (breaches_at s n.names n.node)) ns ≡ list_breaches (map (λ n. n.node) ns)
all_lists s [] = refl
all_lists s (n ∷ ns) =
    flat_map-cons (λ m. of_lists (breaches_at s m.names m.node)) n ns
    ∙ ap₂ (λ a b. a ++ b) (lists_at s n.names n.node) (all_lists s ns)
    ∙ sym (flat_map-cons list_breaches_at n.node (map (λ m. m.node) ns))

pub lists_in : (s : Scene) → of_lists (breaches_in s) ≡ list_breaches (map (λ n. n.node) s.nodes)
lists_in s =
    lists_append (flat_map (λ n. breaches_at s n.names n.node) s.nodes) (map (λ c. breach Rule.COUNTS (place_in c c.at)) (too_many s))
    ∙ ap₂ (λ a b. a ++ b) (lists_of_all (λ n. breaches_at s n.names n.node) s.nodes ∙ all_lists s s.nodes) (no_lists_39 (too_many s))
    ∙ append-nil (list_breaches (map (λ n. n.node) s.nodes))

pub others_in : (s : Scene) → of_others (breaches_in s) ≡ other_breaches s ++ map (λ c. breach Rule.COUNTS (place_in c c.at)) (too_many s)
others_in s =
    others_append (flat_map (λ n. breaches_at s n.names n.node) s.nodes) (map (λ c. breach Rule.COUNTS (place_in c c.at)) (too_many s))
    ∙ ap₂ (λ a b. a ++ b) (others_of_all (λ n. breaches_at s n.names n.node) s.nodes) (others_39 (too_many s))
