-- Marks of types, one by one.
use Rattle.std.proofs.Common.{◌≡◌, ℕ, zero, suc, ◌+◌, ◌<◌, Bool, true, false, ltb, List, [], ◌∷◌, ◌++◌, length, slice_get, Some, refl, ap, sym, subst, arith}
use Rattle.std.proofs.lemmas.Bool.{ltb-true, ltb-false}
use Rattle.std.proofs.lemmas.Option.{slice_get_past}
use Rattle.idl_declared_types.specs.declared.kinds.Kind.{Kind}
use Rattle.idl_value_rules.specs.declared.marks.Mark.{Mark}
use Rattle.idl_value_rules.specs.declared.marks.TheConstants.{OF_VOID}
use Rattle.idl_rule_definitions.specs.Types.{IdlType, Void}
use Rattle.idl_rule_definitions.specs.Scene.{Scene, hoists}
use Rattle.idl_rule_definitions.specs.TypeRules.{is_too_deep}
use Rattle.idl_declared_types.specs.Kinds.{type_at}
use Rattle.idl_value_rules.specs.SeenMarks.{IsMark, or_void_mark}
use Rattle.idl_declared_types.proofs.Held.{void_past}
use Rattle.nd_lemmas.proofs.Lists.{get_in_front as before}

abbrev pub MarksTo : Scene → List Kind → ℕ → List Mark → Type 0
MarksTo s ks number items = (n : ℕ) → n < number → IsMark s (type_at ks n) (or_void_mark (slice_get items n))

last : {X : Type 0} (xs : List X) (x : X) (n : ℕ) → n ≡ length xs → slice_get (xs ++ x ∷ []) n ≡ Some x
last [] x n e = ap (λ j. slice_get (x ∷ []) j) e
last (y ∷ xs) x zero e = absurd (omega (arith, e))
last (y ∷ xs) x (suc n) e = last xs x n (omega (arith, e))

pub one_more : (s : Scene) (ks : List Kind) (number : ℕ) (items : List Mark) (m : Mark) → length items ≡ number → MarksTo s ks number items
    → IsMark s (type_at ks number) m → MarksTo s ks (number + 1) (items ++ m ∷ [])
one_more s ks number items m size marks is n below = by (ltb n number) refl where
  by : (t : Bool) → ltb n number ≡ t → IsMark s (type_at ks n) (or_void_mark (slice_get (items ++ m ∷ []) n))
  by true e =
      let h = ltb-true n number e in
      subst (λ (o : _). IsMark s (type_at ks n) (or_void_mark o)) (sym (before items (m ∷ []) n (omega (arith, h, size)))) (marks n h)
  by false e =
      let h = ltb-false n number e in
      let same : n ≡ number = omega (arith, h, below) in
      subst (λ (o : _). IsMark s (type_at ks n) (or_void_mark o)) (sym (last items m n (omega (arith, same, size))))
      (subst (λ (k : ℕ). IsMark s (type_at ks k) m) (sym same) is)

void_mark : (s : Scene) → IsMark s Void OF_VOID
unfolding hoists is_too_deep
void_mark s = record {
  holds_void = refl;
  holds_handle = refl;
  holds_pipe = refl;
  holds_context = refl;
  holds_classless = refl;
  holds_reference_behind = refl;
  holds_wrong_count = refl;
  holds_many_not_fixed = refl;
  holds_nonencapsulated = refl;
  holds_wrong_element = refl;
  holds_wrong_pipe = refl;
  holds_deep_array = refl;
  many_dimensions = refl;
  nonencapsulated = refl;
  hoists = refl;
  too_deep = refl;
}

pub all_marks : (s : Scene) (ks : List Kind) (items : List Mark) → length items ≡ length ks → MarksTo s ks (length ks) items
    → (n : ℕ) → IsMark s (type_at ks n) (or_void_mark (slice_get items n))
all_marks s ks items size marks n = by (ltb n (length ks)) refl where
  by : (t : Bool) → ltb n (length ks) ≡ t → IsMark s (type_at ks n) (or_void_mark (slice_get items n))
  by true e = marks n (ltb-true n (length ks) e)
  by false e =
      let h = ltb-false n (length ks) e in
      subst (λ (t : IdlType). IsMark s t (or_void_mark (slice_get items n))) (sym (void_past ks n h))
      (subst (λ (o : _). IsMark s Void (or_void_mark o)) (sym (slice_get_past items n (omega (arith, h, size)))) (void_mark s))
