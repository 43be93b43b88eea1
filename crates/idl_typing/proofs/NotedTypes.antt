-- What is noted of nodes.
use Rattle.std.proofs.Common.{◌≡◌, ℕ, ◌<◌, Bool, true, false, List, [], ◌∷◌, length, Option, Some, None, option_map, refl, sym, ap, ◌∙◌, subst}
use Rattle.std.specs.Prelude.{Result, Ok, Err, IfOk, OnOk}
use Rattle.idl_grammar.specs.Tree.{TypeSpec}
use Rattle.idl_grammar.specs.declared.words.Spelling.{Spelling}
use Rattle.idl_scope.specs.Known.{Known}
use Rattle.idl_declared_types.specs.declared.kinds.Kind.{Kind}
use Rattle.idl_declared_types.specs.declared.types.Typed.{Typed}
use Rattle.idl_rule_definitions.specs.Nodes.{Construct, Declared, result_of}
use Rattle.idl_rule_definitions.specs.Types.{IdlType, Void, Handle, ContextHandle, Basic, Struct, Union, Enum, Array, Text, Pointer, Pipe, Names, with_attributes, written_type, declared_type, type_of}
use Rattle.idl_rule_definitions.specs.Scene.{Scene, Use, use_of}
use Rattle.idl_rule_definitions.specs.VariableRules.{has_no_variable, has_wrong_variable}
use Rattle.idl_declared_types.specs.Kinds.{type_at, Stands, Keeps}
use Rattle.idl_declared_types.specs.SeenNames.{seen_names, are_within}
use Rattle.idl_declared_types.specs.SeenTypes.{bare, has_wrong_switch_variable, IsTypedUse, AreTypedWithin}
use Rattle.idl_declared_types.proofs.KindLists.{type_at-stands}
use Rattle.idl_declared_types.proofs.NameLists.{within_stands, are_within-keeps, seen_names-keeps}

-- attributes that say nothing
pub without_attributes : (t : IdlType) → with_attributes [] t ≡ t
without_attributes Void = refl
without_attributes Handle = refl
without_attributes ContextHandle = refl
without_attributes (Basic p) = refl
without_attributes (Struct place) = refl
without_attributes (Union place) = refl
without_attributes (Enum place) = refl
without_attributes (Array t count true) = refl
without_attributes (Array t count false) = refl
without_attributes (Text t count) = refl
without_attributes (Pointer class to) = refl
without_attributes (Pipe t) = refl

abbrev pub noted : ℕ → Typed
noted of = record { declared_as = of; of = of; has_tag = false; no_variable = false; wrong_variable = false; wrong_switch_variable = false }

-- the result of an operation
pub result_is : (known : Known) (names : Names) (ks : List Kind) (c : Construct) (type : TypeSpec) (name : Spelling) (n : ℕ) → Stands ks n (written_type known names c.file type)
    → IsTypedUse (bare known) ks (use_of known names [] 0 (result_of c type name)) (noted n)
result_is known names ks c type name n stands = record {
  declared_as = type_at-stands ks n (written_type known names c.file type) stands;
  of = type_at-stands ks n (written_type known names c.file type) stands ∙ sym (without_attributes (written_type known names c.file type));
  no_variable = refl;
  wrong_variable = refl;
  wrong_switch_variable = refl;
}

pub noted_within : (ks : List Kind) (n : ℕ) (t : IdlType) (x : Typed) → Stands ks n t → x ≡ noted n → AreTypedWithin (length ks) x
noted_within ks n t x stands is = let within = within_stands ks n t stands in subst (AreTypedWithin (length ks)) (sym is) (within, within)

-- a declarator with its list, where kinds come between
pub listed_is : (known : Known) (table : List (List ℕ × ℕ)) (first second third last : List Kind) (list : List Declared) (d : Declared) (index : ℕ) (none wrong wrong_switch : Bool)
    (declared_as of : ℕ)
    → are_within (length first) table ≡ true → Keeps first second → Keeps second third
    → none ≡ has_no_variable (use_of known (seen_names first table) list index d)
    → wrong ≡ has_wrong_variable (bare known) (use_of known (seen_names first table) list index d)
    → wrong_switch ≡ has_wrong_switch_variable (bare known) (use_of known (seen_names second table) list index d)
    → type_at last declared_as ≡ declared_type known (seen_names third table) d → type_at last of ≡ type_of known (seen_names third table) d
    → IsTypedUse (bare known) last (use_of known (seen_names first table) list index d)
    (record { declared_as = declared_as; of = of; has_tag = false; no_variable = none; wrong_variable = wrong; wrong_switch_variable = wrong_switch })
listed_is known table first second third last list d index none wrong wrong_switch declared_as of within one two nv w ws da o =
    let e = seen_names-keeps first second table one within in
    let f = seen_names-keeps second third table two (are_within-keeps first second table one within) ∙ e in
    record {
      declared_as = da ∙ ap (λ n. declared_type known n d) f;
      of = o ∙ ap (λ n. type_of known n d) f;
      no_variable = nv;
      wrong_variable = w;
      wrong_switch_variable = ws ∙ ap (λ n. has_wrong_switch_variable (bare known) (use_of known n list index d)) e;
    }

pub ok_then : {A E : Type 0} (r : Result A E) {P Q : A → Type 0} → IfOk r P → ((x : A) → P x → Q x) → IfOk r Q
ok_then (Ok x) h next = next x h
ok_then (Err e) h next = tt

pub on_ok_then : {A E : Type 0} (r : Result A E) {P Q : Type 0} → OnOk r P → (P → Q) → OnOk r Q
on_ok_then (Ok x) h next = next h
on_ok_then (Err e) h next = tt

pub on_ok_both : {A E : Type 0} (r : Result A E) {P Q R : Type 0} → OnOk r P → OnOk r Q → (P → Q → R) → OnOk r R
on_ok_both (Ok x) h g next = next h g
on_ok_both (Err e) h g next = tt
