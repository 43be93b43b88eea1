-- Searches through lists, one item further.
use Rattle.std.proofs.Common.{◌≡◌, ◌≤◌, ℕ, ◌+◌, ℤ, Bool, true, false, List, length, drop, Option, Some, None, sym, ap, ◌∙◌}
use Rattle.std.specs.Prelude.{◌||◌, ◌==◌, if◌then◌else◌}
use Rattle.std.specs.List.{list_any, slice_get}
use Rattle.std.specs.Ordering.{int_eq}
use Rattle.nd_types.specs.declared.types.Primitive.{Primitive}
use Rattle.nd_types.specs.declared.types.Primitive.TheVariants.{Short}
use Rattle.nd_grammar.specs.Refusal.{is_enumerator as is_one_of}
use Rattle.ndr_code.specs.declared.lists.EnumList.{EnumList}
use Rattle.ndr_code.specs.Code.{enumerators}
use Rattle.ndr_decoder_laws.specs.steps.Steps.{form_by}
use Rattle.ndr_code.specs.Fields.{prim_of}
use Rattle.nd_lemmas.proofs.Lists.{drop_next as drop-get, drop_past as drop-past}

-- ## Lists from a place on

-- ## Enumerated types

pub list_found : (es : List EnumList) (t i : ℕ) (e : EnumList) → slice_get es i ≡ Some e → (e.of.0 == t) ≡ true → enumerators (drop i es) t ≡ Some e.values
list_found es t i e there h =
    ap (λ xs. enumerators xs t) (drop-get es i e there) ∙ ap (λ (b : Bool). if b then Some e.values else enumerators (drop (i + 1) es) t) h

pub list_next : (es : List EnumList) (t i : ℕ) (e : EnumList) → slice_get es i ≡ Some e → (e.of.0 == t) ≡ false
    → enumerators (drop i es) t ≡ enumerators (drop (i + 1) es) t
list_next es t i e there h =
    ap (λ xs. enumerators xs t) (drop-get es i e there) ∙ ap (λ (b : Bool). if b then Some e.values else enumerators (drop (i + 1) es) t) h

pub list_none : (es : List EnumList) (t i : ℕ) → length es ≤ i → enumerators (drop i es) t ≡ None
list_none es t i h = ap (λ xs. enumerators xs t) (drop-past es i h)

-- the exits of a search through the lists
pub is_one_found : (es : List EnumList) (t i : ℕ) (e : EnumList) (v : ℤ) (b : Bool) → enumerators es t ≡ enumerators (drop i es) t → slice_get es i ≡ Some e
    → (e.of.0 == t) ≡ true → b ≡ list_any (int_eq v) e.values → b ≡ is_one_of (enumerators es t) v
is_one_found es t i e v b inv there h is = is ∙ ap (λ (o : Option (List ℤ)). is_one_of o v) (sym (inv ∙ list_found es t i e there h))

pub is_one_none : (es : List EnumList) (t i : ℕ) (v : ℤ) → enumerators es t ≡ enumerators (drop i es) t → length es ≤ i → true ≡ is_one_of (enumerators es t) v
is_one_none es t i v inv h = ap (λ (o : Option (List ℤ)). is_one_of o v) (sym (inv ∙ list_none es t i h))

pub carrier_found : (es : List EnumList) (t i : ℕ) (e : EnumList) → enumerators es t ≡ enumerators (drop i es) t → slice_get es i ≡ Some e
    → (e.of.0 == t) ≡ true → Short ≡ (form_by t (enumerators es t)).prim
carrier_found es t i e inv there h = ap (λ (o : Option (List ℤ)). (form_by t o).prim) (sym (inv ∙ list_found es t i e there h))

pub carrier_none : (es : List EnumList) (t i : ℕ) (p : Primitive) → enumerators es t ≡ enumerators (drop i es) t → length es ≤ i → p ≡ prim_of t
    → p ≡ (form_by t (enumerators es t)).prim
carrier_none es t i p inv h is = is ∙ ap (λ (o : Option (List ℤ)). (form_by t o).prim) (sym (inv ∙ list_none es t i h))

-- ## Numbers

module _ (z : ℤ) where
  pub any_found : (vs : List ℤ) (i : ℕ) (v : ℤ) → slice_get vs i ≡ Some v → int_eq z v ≡ true → list_any (int_eq z) (drop i vs) ≡ true
  any_found vs i v e h = ap (list_any (int_eq z)) (drop-get vs i v e) ∙ ap (λ b. b || list_any (int_eq z) (drop (i + 1) vs)) h

  pub any_next : (vs : List ℤ) (i : ℕ) (v : ℤ) → slice_get vs i ≡ Some v → int_eq z v ≡ false
      → list_any (int_eq z) (drop i vs) ≡ list_any (int_eq z) (drop (i + 1) vs)
  any_next vs i v e h = ap (list_any (int_eq z)) (drop-get vs i v e) ∙ ap (λ b. b || list_any (int_eq z) (drop (i + 1) vs)) h
