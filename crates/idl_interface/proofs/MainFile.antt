-- The main file, and what its header says.
use Rattle.std.proofs.Common.{◌≡◌, ℕ, ◌+◌, ◌≤◌, Bool, true, false, ◌||◌, eqb, List, [], ◌∷◌, ◌++◌, drop, Option, Some, None, refl, sym, ap, arith, ◌∙◌, subst}
use Rattle.std.specs.List.{slice_get, flat_map}
use Rattle.std.proofs.lemmas.Bool.{ltb-false, or_parts}
use Rattle.std.proofs.lemmas.Grind.{flat_map-append}
use Rattle.std.proofs.lemmas.List.{drop_more}
use Rattle.std.proofs.lemmas.Option.{slice_get_within, get_or_from_slice_get}
use Rattle.idl_lexer.specs.Pieces.{number_of}
use Rattle.idl_grammar.specs.Tree.{Tree, Attribute, AttributeKind}
use Rattle.idl_grammar.specs.Tree as tree
use Rattle.idl_scope.specs.Known.{Ended, has_ended}
use Rattle.idl_rule_definitions.specs.Nodes.{World, Construct, attribute_nodes, attribute_nodes_from, export_nodes, header_of, file_nodes, nodes}
use Rattle.idl_rule_definitions.specs.Attributes.{first_said}
use Rattle.idl_rule_definitions.specs.DeclarationRules.{is_out_of_place, is_repeated, is_past_65535, is_large_minor, is_large_version_in, is_large_version, lacks_uuid_and_local}
use Rattle.idl_constructs.specs.ListBreaches.{attribute_breaches, list_breaches_at, list_breaches}
use Rattle.idl_rule_definitions.specs.Noted.{of_lists}
use Rattle.idl_rule_definitions.specs.Rules.{broken_at, breaches}
use Rattle.idl_rule_definitions.specs.Scene.{Scene, scene_of}
use Rattle.idl_constructs.proofs.Judgement.{scene_nodes, nodes_are}
use Rattle.idl_legal_laws.proofs.Kept.{neither}
use Rattle.idl_constructs.proofs.Split.{lists_in}
use Rattle.nd_types.specs.Meant.{Meant}
use Rattle.idl_rule_definitions.specs.Meaning.{main_among, header_meant, uuid_said, major_said, minor_said, or_none, types_of, operations_of}
use Rattle.idl_legal_laws.proofs.fields.Words.{broken_is as at_fails}

drop_is : (fs : List Ended) (i : ℕ) (f : Ended) → slice_get fs i ≡ Some f → drop i fs ≡ f ∷ drop (i + 1) fs
drop_is fs i f h = drop_more fs i f (slice_get_within fs i f h) ∙ ap (λ y. y ∷ drop (i + 1) fs) (get_or_from_slice_get fs i f f h)

-- the file here is the main file
pub main_first : (fs : List Ended) (i : ℕ) (f : Ended) → slice_get fs i ≡ Some f → eqb f.file 0 ≡ true → main_among (drop i fs) ≡ f.tree ∷ []
main_first fs i f h e = ap main_among (drop_is fs i f h) ∙ ap (λ b. elim b [ true ↦ f.tree ∷ [] | false ↦ main_among (drop (i + 1) fs) ]) e

-- it is another
pub main_later : (fs : List Ended) (i : ℕ) (f : Ended) → slice_get fs i ≡ Some f → eqb f.file 0 ≡ false → main_among (drop i fs) ≡ main_among (drop (i + 1) fs)
main_later fs i f h e = ap main_among (drop_is fs i f h) ∙ ap (λ b. elim b [ true ↦ f.tree ∷ [] | false ↦ main_among (drop (i + 1) fs) ]) e

-- files among which number 0 is have a main file
pub has_main : (fs : List Ended) → has_ended fs 0 ≡ true → main_among fs ≡ [] → ⊥
has_main [] h none = cc
has_main (f ∷ fs) h none = by (eqb f.file 0) h none (has_main fs)
  where
    by : (b : Bool) → (b || has_ended fs 0) ≡ true → ◌≡◌ {A = List Tree} (elim b [ true ↦ f.tree ∷ [] | false ↦ main_among fs ]) []
        → (has_ended fs 0 ≡ true → main_among fs ≡ [] → ⊥) → ⊥
    by true h none more = cc
    by false h none more = more h none

-- all parts of what a header means
pub meant_is : (s : Scene) (t : Tree) (m : Meant) → m.name ≡ t.name.octets → m.uuid ≡ first_said uuid_said t.attributes.list
    → m.major ≡ or_none (first_said major_said t.attributes.list) → m.minor ≡ or_none (first_said minor_said t.attributes.list)
    → m.types ≡ types_of s → m.operations ≡ operations_of s → header_meant s t ≡ m
meant_is s t m name uuid major minor types operations =
    ap (λ x. record (header_meant s t) { name = x }) (sym name)
    ∙ (ap (λ x. record (header_meant s t) { name = m.name; uuid = x }) (sym uuid)
    ∙ (ap (λ x. record (header_meant s t) { name = m.name; uuid = m.uuid; major = x }) (sym major)
    ∙ (ap (λ x. record (header_meant s t) { name = m.name; uuid = m.uuid; major = m.major; minor = x }) (sym minor)
    ∙ (ap (λ x. record (header_meant s t) { name = m.name; uuid = m.uuid; major = m.major; minor = m.minor; types = x }) (sym types)
    ∙ ap (λ x. record m { operations = x }) (sym operations)))))

-- ## Its version, of which rule 4 holds

small_in : (c : Construct) (before : List Attribute) (a : Attribute) → attribute_breaches c before a ≡ [] → is_large_version_in a.kind ≡ false
small_in c before a h =
    at_fails c 4 a.at (is_large_version a)
    (neither (broken_at c 1 a.at (is_out_of_place c.position a) ++ broken_at c 2 a.at (is_repeated before a)) (broken_at c 4 a.at (is_large_version a)) h).1

small_number : (o : Option ℕ) (n : ℕ) → is_past_65535 o ≡ false → o ≡ Some n → n ≤ 65535
small_number o n h e = ltb-false 65535 n (sym (ap is_past_65535 e) ∙ h)

-- what an attribute that breaks no rule says is small
abbrev IsSmallSaid : (AttributeKind → Option ℕ) → Type 0
IsSmallSaid says = (k : AttributeKind) (n : ℕ) → is_large_version_in k ≡ false → says k ≡ Some n → n ≤ 65535

pub small_major : IsSmallSaid major_said
small_major (tree.Version major minor) n h e = small_number (number_of major.octets) n (or_parts (is_past_65535 (number_of major.octets)) (is_large_minor minor) h).0 e
small_major _ n h e = absurd (cc)

pub small_minor : IsSmallSaid minor_said
small_minor (tree.Version major None) n h e = let f : Some 0 ≡ Some n = e in let g : 0 ≡ n = cc in omega (arith, g)
small_minor (tree.Version major (Some minor)) n h e =
    small_number (number_of minor.octets) n (or_parts (is_past_65535 (number_of major.octets)) (is_large_minor (Some minor)) h).1 e
small_minor _ n h e = absurd (cc)

small_by : (says : AttributeKind → Option ℕ) → IsSmallSaid says → (k : AttributeKind) (more : List Attribute) → is_large_version_in k ≡ false → or_none (first_said says more) ≤ 65535
    → (o : Option ℕ) → says k ≡ o → or_none (elim o [ Some x ↦ Some x | None ↦ first_said says more ]) ≤ 65535
small_by says f k more h i None e = i
small_by says f k more h i (Some n) e = f k n h e

small_said : (says : AttributeKind → Option ℕ) → IsSmallSaid says → (c : Construct) (before list : List Attribute) → list_breaches (attribute_nodes_from c before list) ≡ []
    → or_none (first_said says list) ≤ 65535
small_said says f c before [] h = omega (arith)
small_said says f c before (a ∷ more) h =
    let x = neither (attribute_breaches c before a) (list_breaches (attribute_nodes_from c (before ++ a ∷ []) more)) h in
    small_by says f a.kind more (small_in c before a x.0) (small_said says f c (before ++ a ∷ []) more x.1) (says a.kind) refl

-- the attributes of a file
small_file : (says : AttributeKind → Option ℕ) → IsSmallSaid says → (f : Ended) → list_breaches (file_nodes f) ≡ [] → or_none (first_said says f.tree.attributes.list) ≤ 65535
small_file says small f h =
    let c = header_of f in
    let exports = flat_map (export_nodes (eqb f.file 0) c) f.tree.exports in
    let x = neither (broken_at c 3 f.tree.attributes.at (lacks_uuid_and_local c)) (list_breaches (attribute_nodes c ++ exports)) h in
    let y = neither (list_breaches (attribute_nodes c)) (list_breaches exports) (sym (flat_map-append list_breaches_at (attribute_nodes c) exports) ∙ x.1) in
    small_said says small c [] c.attributes y.0

small_one : (says : AttributeKind → Option ℕ) (f : Ended) (fs : List Ended) (t : Tree) → or_none (first_said says f.tree.attributes.list) ≤ 65535
    → (main_among fs ≡ t ∷ [] → or_none (first_said says t.attributes.list) ≤ 65535) → (b : Bool) → elim b [ true ↦ f.tree ∷ [] | false ↦ main_among fs ] ≡ t ∷ []
    → or_none (first_said says t.attributes.list) ≤ 65535
small_one says f fs t here more true e =
    let x : f.tree ∷ [] ≡ t ∷ [] = e in
    let same : f.tree ≡ t = cc in
    subst (λ (u : Tree). or_none (first_said says u.attributes.list) ≤ 65535) same here
small_one says f fs t here more false e = more e

-- those of the main file
small_among : (says : AttributeKind → Option ℕ) → IsSmallSaid says → (fs : List Ended) (t : Tree) → list_breaches (flat_map file_nodes fs) ≡ [] → main_among fs ≡ t ∷ []
    → or_none (first_said says t.attributes.list) ≤ 65535
small_among says small [] t h e = absurd (let x : [] ≡ t ∷ [] = e in cc)
small_among says small (f ∷ fs) t h e =
    let both = neither (list_breaches (file_nodes f)) (list_breaches (flat_map file_nodes fs)) (sym (flat_map-append list_breaches_at (file_nodes f) (flat_map file_nodes fs)) ∙ h) in
    small_one says f fs t (small_file says small f both.0) (small_among says small fs t both.1) (eqb f.file 0) e

none_of_lists : (w : World) → breaches w ≡ [] → list_breaches (nodes w) ≡ []
unfolding breaches
none_of_lists w h = ap list_breaches (sym (scene_nodes w)) ∙ sym (lists_in (scene_of w)) ∙ ap of_lists h

-- a number of the version of the main file of files that break no rule
pub small_version : (says : AttributeKind → Option ℕ) → IsSmallSaid says → (w : World) (t : Tree) → breaches w ≡ [] → main_among w.files ≡ t ∷ []
    → or_none (first_said says t.attributes.list) ≤ 65535
small_version says small w t h e = small_among says small w.files t (ap list_breaches (nodes_are w) ∙ none_of_lists w h) e
