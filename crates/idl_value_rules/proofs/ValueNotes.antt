-- What is noted of enumerators, constants and classes.
use Rattle.std.proofs.Common.{◌≡◌, ◌∙◌, ℕ, ℤ, ◌+◌, ◌<◌, ◌≤◌, Bool, true, false, ◌||◌, List, [], ◌∷◌, ◌++◌, map, take, drop, length, get_or, Option, Some, None, refl, ap, ap₂, sym, codes}
use Rattle.std.proofs.lemmas.Option.{none-some, same_Some}
use Rattle.std.proofs.lemmas.List.{drop_more, drop_all}
use Rattle.nd_types.specs.declared.types.Primitive.{Primitive}
use Rattle.nd_types.specs.Table.{in_range}
use Rattle.idl_grammar.specs.declared.types.Enumerator as program
use Rattle.idl_grammar.specs.declared.attributes.Attribute as attribute
use Rattle.idl_grammar.specs.declared.types.SimpleType.{SimpleType}
use Rattle.idl_grammar.specs.Seen.{seen_enumerator, seen_attribute}
use Rattle.idl_grammar.specs.Tree.{Attribute, Init}
use Rattle.idl_scope.specs.Known.{Known}
use Rattle.idl_rule_definitions.specs.Nodes.{World, Construct, EnumeratorNode, ConstantNode, AttributeNode, attribute_nodes_from}
use Rattle.idl_rule_definitions.specs.Attributes.{has, is_word, has_one_of, classes, is_class}
use Rattle.idl_rule_definitions.specs.DeclarationRules.{is_out_of_place, is_repeated, is_large_version, is_second_class, holds, is_large_enumerator, is_void_constant, is_handle_constant}
use Rattle.idl_rule_definitions.specs.DeclarationRules.{is_wrong_constant}
use Rattle.idl_rule_definitions.specs.Types.{IdlType, Void, Handle, ContextHandle, Basic, Struct, Union, Enum, Array, Text, Pointer, Pipe, Names}
use Rattle.idl_declared_types.specs.Kinds.{basic_in}
use Rattle.idl_rule_definitions.specs.Scene.{Scene}
use Rattle.idl_rule_definitions.specs.Rules.{Breach, broken_at}
use Rattle.idl_rule_definitions.specs.Noted.{noted}
use Rattle.idl_rule_definitions.specs.OthersOf.{others_of}
use Rattle.idl_constructs.proofs.ListNotes.{any_last, before_next}
use Rattle.idl_rule_definitions.proofs.OtherNotes.{kept, other_cons, other_one, three_kept, last_kept}
use Rattle.idl_rule_definitions.specs.declared.rule.TheConstants as Rule

-- ## Constants

pub held_some : (t : IdlType) (p : Primitive) (z : ℤ) → Some p ≡ basic_in t → in_range p z ≡ holds t z
held_some (Basic q) p z h = ap (λ x. in_range x z) (same_Some p q h)
held_some Void p z h = absurd (none-some p (sym h))
held_some Handle p z h = absurd (none-some p (sym h))
held_some ContextHandle p z h = absurd (none-some p (sym h))
held_some (Struct place) p z h = absurd (none-some p (sym h))
held_some (Union place) p z h = absurd (none-some p (sym h))
held_some (Enum place) p z h = absurd (none-some p (sym h))
held_some (Array t count varying) p z h = absurd (none-some p (sym h))
held_some (Text t count) p z h = absurd (none-some p (sym h))
held_some (Pointer class to) p z h = absurd (none-some p (sym h))
held_some (Pipe t) p z h = absurd (none-some p (sym h))

pub held_none : (t : IdlType) (z : ℤ) → None ≡ basic_in t → false ≡ holds t z
held_none (Basic q) z h = absurd (none-some q h)
held_none Void z h = refl
held_none Handle z h = refl
held_none ContextHandle z h = refl
held_none (Struct place) z h = refl
held_none (Union place) z h = refl
held_none (Enum place) z h = refl
held_none (Array t count varying) z h = refl
held_none (Text t count) z h = refl
held_none (Pointer class to) z h = refl
held_none (Pipe t) z h = refl

abbrev pub constant_breaches : Known → Construct → SimpleType → Bool → Init → List Breach
constant_breaches known c type star value =
    broken_at c Rule.VOID c.at (is_void_constant type value) ++ broken_at c Rule.HANDLE c.at (is_handle_constant type) ++ broken_at c Rule.CONSTANTS c.at (is_wrong_constant known type star value)

pub constant_others : (s : Scene) (names : Names) (known : Known) (c : Construct) (type : SimpleType) (star : Bool) (value : Init) → s.known ≡ known
    → constant_breaches known c type star value ≡ others_of s names (ConstantNode c type star value ∷ [])
constant_others s names known c type star value is =
    ap (λ k. constant_breaches k c type star value) (sym is)
    ∙ sym (other_one s names (ConstantNode c type star value)
    ∙ three_kept c c.at 6 7 38 (is_void_constant type value) (is_handle_constant type) (is_wrong_constant s.known type star value) refl refl refl)

-- ## Enumerators

abbrev pub enumerator_breaches : Scene → Names → Construct → List program.Enumerator → List Breach
enumerator_breaches s names c es = others_of s names (map (λ e. EnumeratorNode c e.name) (map seen_enumerator es))

abbrev pub enumerator_breach : Scene → Construct → program.Enumerator → List Breach
enumerator_breach s c e = broken_at c Rule.ENUMERATORS e.name.at (is_large_enumerator s.known e.name)

pub enumerators_cons : (s : Scene) (names : Names) (c : Construct) (e : program.Enumerator) (more : List program.Enumerator)
    → enumerator_breaches s names c (e ∷ more) ≡ enumerator_breach s c e ++ enumerator_breaches s names c more
enumerators_cons s names c e more =
    other_cons s names (EnumeratorNode c e.name) (map (λ e. EnumeratorNode c e.name) (map seen_enumerator more))
    ∙ ap (λ l. l ++ enumerator_breaches s names c more) (kept c 13 e.name.at (is_large_enumerator s.known e.name) refl)

-- ## Classes

or_three : (a b d e f g : Bool) → ((a || e) || ((b || f) || ((d || g) || false))) ≡ ((a || (b || (d || false))) || ((e || false) || ((f || false) || ((g || false) || false))))
or_three true b d e f g = refl
or_three false true d true f g = refl
or_three false true d false f g = refl
or_three false false true true f g = refl
or_three false false true false true g = refl
or_three false false true false false g = refl
or_three false false false true f g = refl
or_three false false false false true g = refl
or_three false false false false false true = refl
or_three false false false false false false = refl

-- a class is in the list, or at its end
pub classes_more : (before : List Attribute) (a : Attribute) → has_one_of classes (before ++ a ∷ []) ≡ (has_one_of classes before || is_class a)
classes_more before a =
    ap₂ (λ x y. x || y) (any_last (is_word (codes "ref")) before a)
    (ap₂ (λ x y. x || y) (any_last (is_word (codes "unique")) before a) (ap (λ x. x || false) (any_last (is_word (codes "ptr")) before a)))
    ∙ or_three (has (codes "ref") before) (has (codes "unique") before) (has (codes "ptr") before) (is_word (codes "ref") a) (is_word (codes "unique") a) (is_word (codes "ptr") a)

abbrev pub class_breaches : Scene → Names → Construct → List attribute.Attribute → ℕ → List Breach
class_breaches s names c xs i = others_of s names (attribute_nodes_from c (map seen_attribute (take i xs)) (map seen_attribute (drop i xs)))

abbrev pub has_class_before : List attribute.Attribute → ℕ → Bool
has_class_before xs i = has_one_of classes (map seen_attribute (take i xs))

pub class_next : (xs : List attribute.Attribute) (i : ℕ) (x : attribute.Attribute) (found class : Bool) → i < length xs → x ≡ get_or xs i x
    → found ≡ has_class_before xs i → class ≡ is_class (seen_attribute x) → (found || class) ≡ has_class_before xs (i + 1)
class_next xs i x found class below is f e =
    ap₂ (λ a b. a || b) f e ∙ sym (ap (has_one_of classes) (before_next xs i x below is) ∙ classes_more (map seen_attribute (take i xs)) (seen_attribute x))

pub classes_left : (s : Scene) (names : Names) (c : Construct) (xs : List attribute.Attribute) (i : ℕ) (x : attribute.Attribute) → i < length xs → x ≡ get_or xs i x
    → class_breaches s names c xs i ≡ broken_at c Rule.CLASSES_ON_POINTERS c.at (is_second_class (map seen_attribute (take i xs)) (seen_attribute x)) ++ class_breaches s names c xs (i + 1)
classes_left s names c xs i x below is =
    let before = map seen_attribute (take i xs) in
    let a = seen_attribute x in
    let more = map seen_attribute (drop (i + 1) xs) in
    ap (λ l. others_of s names (attribute_nodes_from c before (map seen_attribute l))) (drop_more xs i x below ∙ ap (λ y. y ∷ drop (i + 1) xs) (sym is))
    ∙ other_cons s names (AttributeNode c before a) (attribute_nodes_from c (before ++ a ∷ []) more)
    ∙ ap₂ (λ l m. l ++ m) (last_kept c a.at c.at 1 2 4 26 (is_out_of_place c.position a) (is_repeated before a) (is_large_version a) (is_second_class before a) refl refl refl refl)
    (ap (λ b. others_of s names (attribute_nodes_from c b more)) (sym (before_next xs i x below is)))

pub no_class_left : (w : World) (s : Scene) (names : Names) (c : Construct) (xs : List attribute.Attribute) (i : ℕ) (first all : Option Breach) → length xs ≤ i
    → noted w first (class_breaches s names c xs i) ≡ all → first ≡ all
no_class_left w s names c xs i first all past h =
    sym (ap (λ l. noted w first (others_of s names (attribute_nodes_from c (map seen_attribute (take i xs)) (map seen_attribute l)))) (drop_all i xs past)) ∙ h
