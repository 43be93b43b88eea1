-- What numbers mean.
use Rattle.std.proofs.Common.{◌≡◌, ◌∙◌, ℕ, zero, suc, ◌<◌, ◌≤◌, List, length, Option, Some, None, Bool, true, false, ◌&&◌, is_some, nat_lt, IsSomeAnd, refl, sym, ap, subst, arith}
use Rattle.std.specs.List.{slice_get}
use Rattle.std.proofs.lemmas.Bool.{lt-ltb}
use Rattle.std.proofs.lemmas.Option.{slice_get_past}
use Rattle.std.proofs.Math.Bool.{and-false}
use Rattle.nd_lemmas.proofs.Lists.{item_at}
use Rattle.nd_base.specs.declared.octets.Order.{Order}
use Rattle.nd_types.specs.declared.interface.Interface.{Interface}
use Rattle.nd_types.specs.declared.types.Operation.{Operation}
use Rattle.nd_types.specs.declared.types.Side.{Side}
use Rattle.library_answers.specs.Answers.{side_numbered, order_numbered, OfSide, OfOrder, is_side, is_stream, is_layout}

-- what is there has what holds of it
pub there_and : {T : Type 0} (o : Option T) (x : T) (P : T → Type 0) → o ≡ Some x → P x → IsSomeAnd o P
there_and o x P is holds = subst (λ h. IsSomeAnd h P) (sym is) holds

pub of_side : (i : Interface) (operation side : ℕ) (s : Side) (P : Operation → Side → Type 0) → operation < length i.operations → Some s ≡ side_numbered side
    → ((o : Operation) → slice_get i.operations operation ≡ Some o → P o s) → OfSide i operation side P
of_side i operation side s P low is holds =
    let o = item_at i.operations operation low in
    there_and (slice_get i.operations operation) o.0 (λ x. IsSomeAnd (side_numbered side) (P x)) o.1 (there_and (side_numbered side) s (P o.0) (sym is) (holds o.0 o.1))

pub of_order : (order : ℕ) (r : Order) (P : Order → Type 0) → Some r ≡ order_numbered order → P r → OfOrder order P
of_order order r P is holds = there_and (order_numbered order) r P (sym is) holds

-- ## Numbers that mean nothing

pub no_side : (i : Interface) (operation side : ℕ) → None ≡ side_numbered side → is_side i operation side ≡ false
no_side i operation side is = ap (λ (s : Option Side). is_some s && is_some (slice_get i.operations operation)) (sym is)

pub no_operation : (i : Interface) (operation side : ℕ) → length i.operations ≤ operation → is_side i operation side ≡ false
no_operation i operation side past =
    ap (λ (o : Option Operation). is_some (side_numbered side) && is_some o) (slice_get_past i.operations operation past) ∙ and-false (is_some (side_numbered side))

pub no_stream_side : (i : Interface) (operation side order : ℕ) → None ≡ side_numbered side → is_stream i operation side order ≡ false
no_stream_side i operation side order is =
    ap (λ (s : Option Side). is_some s && (is_some (order_numbered order) && is_some (slice_get i.operations operation))) (sym is)

pub no_stream_order : (i : Interface) (operation side order : ℕ) → None ≡ order_numbered order → is_stream i operation side order ≡ false
no_stream_order i operation side order is =
    ap (λ (r : Option Order). is_some (side_numbered side) && (is_some r && is_some (slice_get i.operations operation))) (sym is)
    ∙ and-false (is_some (side_numbered side))

pub no_stream_operation : (i : Interface) (operation side order : ℕ) → length i.operations ≤ operation → is_stream i operation side order ≡ false
no_stream_operation i operation side order past =
    ap (λ (o : Option Operation). is_some (side_numbered side) && (is_some (order_numbered order) && is_some o)) (slice_get_past i.operations operation past)
    ∙ ap (λ (b : Bool). is_some (side_numbered side) && b) (and-false (is_some (order_numbered order))) ∙ and-false (is_some (side_numbered side))

pub no_layout_order : (order chunk : ℕ) → None ≡ order_numbered order → is_layout order chunk ≡ false
no_layout_order order chunk is = ap (λ (r : Option Order). is_some r && nat_lt 0 chunk) (sym is)

pub no_chunk : (order chunk : ℕ) → chunk ≡ 0 → is_layout order chunk ≡ false
no_chunk order chunk is = ap (λ n. is_some (order_numbered order) && nat_lt 0 n) is ∙ and-false (is_some (order_numbered order))

-- ## Numbers that mean something

module _ (i : Interface) (operation side : ℕ) (s : Side) (low : operation < length i.operations) (side_is : Some s ≡ side_numbered side) where
  there : is_some (slice_get i.operations operation) ≡ true
  there = let o = item_at i.operations operation low in ap (λ (x : Option Operation). is_some x) o.1

  pub side_there : is_side i operation side ≡ true
  side_there = ap (λ (x : Option Side). is_some x && is_some (slice_get i.operations operation)) (sym side_is) ∙ there

  pub stream_there : (order : ℕ) (r : Order) → Some r ≡ order_numbered order → is_stream i operation side order ≡ true
  stream_there order r order_is =
      ap (λ (x : Option Side). is_some x && (is_some (order_numbered order) && is_some (slice_get i.operations operation))) (sym side_is)
      ∙ ap (λ (x : Option Order). is_some x && is_some (slice_get i.operations operation)) (sym order_is) ∙ there

pub order_is : (order : ℕ) (r : Order) → Some r ≡ order_numbered order → is_some (order_numbered order) ≡ true
order_is order r is = ap (λ (x : Option Order). is_some x) (sym is)

positive : (n : ℕ) → (n ≡ 0 → ⊥) → 0 < n
positive zero some = absurd (some refl)
positive (suc n) some = omega arith

pub layout_is : (order chunk : ℕ) (r : Order) → Some r ≡ order_numbered order → (chunk ≡ 0 → ⊥) → is_layout order chunk ≡ true
layout_is order chunk r is some = ap (λ (x : Option Order). is_some x && nat_lt 0 chunk) (sym is) ∙ lt-ltb 0 chunk (positive chunk some)

-- ## What functions that are given numbers name

pub ruleset no_values = (no_side, no_operation, side_there)

pub ruleset no_stream = (no_stream_side, no_stream_order, no_stream_operation, stream_there)

pub ruleset layouts = (no_layout_order, no_chunk, layout_is)
