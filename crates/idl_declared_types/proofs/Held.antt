-- Numbers of types, and of what they hold in their place.
use Rattle.std.proofs.Common.{◌≡◌, ◌∙◌, ℕ, suc, ◌+◌, ◌<◌, ◌≤◌, true, ltb, List, [], ◌∷◌, ◌++◌, map, take, length, get_or, ap, ap₂, sym, arith}
use Rattle.std.proofs.lemmas.Option.{slice_get_past}
use Rattle.std.proofs.lemmas.List.{take_more, map-append}
use Rattle.idl_declared_types.specs.declared.kinds.Kind.{Kind}
use Rattle.idl_rule_definitions.specs.Types.{Void}
use Rattle.idl_declared_types.specs.Kinds.{type_at}
use Rattle.idl_declared_types.specs.InPlace.{AreHeld}
use Rattle.idl_declared_types.proofs.KindLists.{none_at}
use Rattle.idl_declared_types.proofs.Grown.{all_more as all_last}

-- a number past all types stands for `void`
pub void_past : (ks : List Kind) (n : ℕ) → length ks ≤ n → type_at ks n ≡ Void
void_past ks n past = none_at ks n (slice_get_past ks n past)

pub same_past : (ks : List Kind) (count n : ℕ) → length ks ≡ count → count ≤ n → type_at ks count ≡ type_at ks n
same_past ks count n size past = void_past ks count (omega (arith, size)) ∙ sym (void_past ks n (omega (arith, size, past)))

-- one more number
pub held_more : (ks : List Kind) (count : ℕ) (held numbers : List ℕ) (i d y : ℕ) → i < length numbers
    → AreHeld ks count held (map (type_at ks) (take i numbers)) → type_at ks y ≡ type_at ks (get_or numbers i d) → ltb y (suc count) ≡ true
    → AreHeld ks count (held ++ y ∷ []) (map (type_at ks) (take (i + 1) numbers))
held_more ks count held numbers i d y below h same within = record {
  seen =
      map-append (type_at ks) held (y ∷ [])
      ∙ ap₂ (λ a b. a ++ b ∷ []) h.seen same
      ∙ sym (ap (map (type_at ks)) (take_more numbers i d below) ∙ map-append (type_at ks) (take i numbers) (get_or numbers i d ∷ []));
  within = all_last (λ p. ltb p (suc count)) held y h.within within;
}
