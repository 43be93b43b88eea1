use Rattle.std.proofs.Common.{◌≡◌, ℕ, ℤ, suc, refl, ◌+◌, ◌-◌, ◌<◌, ◌≤◌, false, List, length, drop, map, option_map, Option, Some, slice_get, sym, ap, ◌∙◌, subst, arith}
use Rattle.std.proofs.lemmas.Option.{slice_get_read}
use Rattle.idl_grammar.specs.Tree.{Bound}
use Rattle.idl_grammar.specs.Seen.{seen_bound}
use Rattle.idl_scope.specs.Seen.{known_in}
use Rattle.idl_scope.specs.Known.{Known}
use Rattle.idl_declared_types.specs.declared.kinds.Kind.{Kind}
use Rattle.idl_rule_definitions.specs.Types.{IdlType, Array, with_dimensions, count_of}
use Rattle.idl_declared_types.specs.Kinds.{type_at, Stands, Keeps}
use Rattle.idl_declared_types.proofs.KindLists.{type_at-stands}
use Rattle.idl_declared_types.proofs.NameLists.{within_stands, stands_within}
use Rattle.idl_declared_types.proofs.Dimensions.{dimension_next}
use Rattle.idl_declared_types.proofs.typing.with_dimensions.Goals as goal

-- one dimension more
more : {B : Type 0} (new : List Kind) (number : ℕ) (known : Known) (t u : IdlType) (f : B → Option Bound) (xs : List B) (done at : ℕ) (x : B) (count : Option ℤ) → at ≡ length xs - 1 - done
    → done < length xs
    → slice_get xs at ≡ Some x → count ≡ count_of known (f x) → u ≡ with_dimensions known t (map f (drop (length xs - done) xs))
    → Stands new number (Array u count false) → type_at new number ≡ with_dimensions known t (map f (drop (length xs - (done + 1)) xs))
more new number known t u f xs done at x count place below here counted is stands =
    let next : suc at ≡ length xs - done = omega arith in
    let same : at ≡ length xs - (done + 1) = omega arith in
    type_at-stands new number (Array u count false) stands
    ∙ ap (λ v. Array v count false) (is ∙ ap (λ i. with_dimensions known t (map f (drop i xs))) (sym next))
    ∙ ap (λ n. Array (with_dimensions known t (map f (drop (suc at) xs))) n false) counted
    ∙ sym (dimension_next known t f xs at x here)
    ∙ ap (λ i. with_dimensions known t (map f (drop i xs))) same

pub loop-done-preserved : goal.loop-done-preserved
loop-done-preserved c = record {
  within = within_stands c.add.new.self c.in_ok-element.element _ c.in_ok-element.ensures.stands;
  keeps = λ n t h. c.in_ok-element.ensures.keeps n t (c.loop-done.invariant.keeps n t h);
  is =
      let xs = c.args.dimensions.now in
      let at = length xs - 1 - c.loop-done.done in
      let x = c.index-dimensions-dimensions.result in
      let within : at < length xs = omega arith in
      more c.add.new.self c.in_ok-element.element (known_in c.args.scope.now) (type_at c.args.kinds.now c.args.of) (type_at c.loop-done.kinds c.loop-done.element)
      (option_map seen_bound) xs c.loop-done.done at x c.count_of-count.result refl c.loop-done-test.true (slice_get_read xs (length xs) at x refl within c.index-dimensions-dimensions.is)
      c.count_of-count.ensures c.loop-done.invariant.is c.in_ok-element.ensures.stands;
}

pub returns-clause-stands : goal.returns-clause-stands
returns-clause-stands c =
    let xs = c.args.dimensions.now in
    let none : length xs - c.loop-done.done ≡ 0 = omega arith in
    stands_within c.loop-done.kinds c.loop-done.element c.loop-done.invariant.within
    ∙ ap Some (c.loop-done.invariant.is ∙ ap (λ i. with_dimensions (known_in c.args.scope.now) (type_at c.args.kinds.now c.args.of) (map (option_map seen_bound) (drop i xs))) none)
