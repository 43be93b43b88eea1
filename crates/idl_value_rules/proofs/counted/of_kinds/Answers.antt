use Rattle.std.proofs.Common.{◌≡◌, ◌∙◌, ℕ, ◌<◌, ◌+◌, ◌++◌, ◌∷◌, [], List, length, true, ap, sym, subst, arith, length-append}
use Rattle.std.proofs.lemmas.Option.{none-some}
use Rattle.idl_value_rules.specs.declared.counted.Counted.{Counted}
use Rattle.idl_declared_types.specs.Kinds.{seen_types, type_by, is_inside}
use Rattle.idl_value_rules.specs.Counted.{AreCounted}
use Rattle.idl_value_rules.proofs.CountedTypes.{counted_more}
use Rattle.idl_value_rules.proofs.counted.of_kinds.Goals as goal

pub loop-number-init : goal.loop-number-init
loop-number-init c = (
  ap length c.new-counts.ensures.items,
  subst (λ (l : List Counted). AreCounted (seen_types c.args.kinds.now) l) (sym c.new-counts.ensures.items) (λ n x h. absurd (none-some x h)),
)

pub loop-number-preserved : goal.loop-number-preserved
loop-number-preserved c =
    let types = seen_types c.args.kinds.now in
    let kind = c.kind-kind.result in
    let counts = c.loop-number.counts.items in
    let inside = subst (λ (n : ℕ). is_inside n kind ≡ true) (sym c.loop-number.invariant.0) c.kind-kind.ensures.inside in
    let inner = c.inner.ensures types (subst (λ (l : List Counted). AreCounted types l) (sym c.as_slice.ensures.value) c.loop-number.invariant.1)
    (subst (λ (l : List Counted). is_inside (length l) kind ≡ true) (sym c.as_slice.ensures.value) inside) in (
      ap length c.in-Ok.ensures.items ∙ length-append counts (c.of-counted.result ∷ []) ∙ ap (λ n. n + 1) c.loop-number.invariant.0,
      subst (λ (l : List Counted). AreCounted types l) (sym c.in-Ok.ensures.items)
          (counted_more types counts c.of-counted.result c.loop-number.number (type_by types kind) c.loop-number.invariant.0 c.loop-number.invariant.1
          c.kind-kind.ensures.seen (c.of-counted.ensures types inner)),
    )

pub returns-clause-count : goal.returns-clause-count
returns-clause-count c =
    let all = c.loop-number.invariant.0 in
    let past = c.loop-number-test.false in
    let within = c.loop-number.auto.number-end in
    let size = c.len-number-end.ensures.count in
    omega (arith, all, past, within, size)

pub returns-clause-each : goal.returns-clause-each
returns-clause-each c = c.loop-number.invariant.1
