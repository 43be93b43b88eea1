use Rattle.std.proofs.Common.{◌≡◌, ◌∙◌, ℕ, ◌<◌, ◌+◌, ◌++◌, ◌∷◌, [], List, Some, length, slice_get, get_or, refl, ap, sym, subst, arith, length-append}
use Rattle.std.proofs.lemmas.Option.{slice_get_read}
use Rattle.idl_value_rules.specs.declared.counted.Counted.{Counted}
use Rattle.idl_value_rules.specs.declared.marks.Mark.{Mark}
use Rattle.idl_value_rules.proofs.MarkLists.{MarksTo, one_more, all_marks}
use Rattle.idl_value_rules.proofs.marks.of_types.Goals as goal

pub loop-number-init : goal.loop-number-init
loop-number-init c = (ap length c.new.ensures.items, (λ s n is k below. absurd (omega (arith, below))))

pub loop-number-preserved : goal.loop-number-preserved
loop-number-preserved c =
    let ks = c.args.types.now.kinds in
    let number = c.loop-number.number in
    let size : length ks ≡ c.len-count.result = sym c.len-count.ensures.count in
    let below : number < c.len-count.result = c.loop-number-test.true in
    let counted = c.in_ok-counted.counted.items in
    let sized = c.in_ok-counted.ensures.count in
    let one : slice_get counted number ≡ Some c.in-Some.one.now =
    slice_get_read counted (length counted) number c.in-Some.one.now refl (omega (arith, below, sized, size))
    (c.in-Some.ensures.lookup.1 ∙ ap (λ l. get_or l number c.in-Some.one.now) c.deref.ensures.value) in (
      ap length c.in-Ok.ensures.items ∙ length-append c.loop-number.marks.items.items (c.next_mark-mark.result ∷ []) ∙ ap (λ k. k + 1) c.loop-number.invariant.0,
      (λ s n is. subst (λ (l : List Mark). MarksTo s ks (number + 1) l) (sym c.in-Ok.ensures.items)
          (one_more s ks number c.loop-number.marks.items.items c.next_mark-mark.result c.loop-number.invariant.0 (c.loop-number.invariant.1 s n is)
          (c.next_mark-mark.ensures s n c.len-count.result is size below (c.in_ok-properties.ensures s n is size) (c.in_ok-counted.ensures.each number c.in-Some.one.now one)
          (c.loop-number.invariant.1 s n is)))),
    )

pub returns : goal.returns
returns c s n is =
    let ks = c.args.types.now.kinds in
    let size : c.len-count.result ≡ length ks = c.len-count.ensures.count in
    let past = c.loop-number-test.false in
    let within = c.loop-number.auto.number-end in
    let all : c.loop-number.number ≡ length ks = omega (arith, past, within, size) in
    all_marks s ks c.loop-number.marks.items.items (c.loop-number.invariant.0 ∙ all)
    (subst (λ (k : ℕ). MarksTo s ks k c.loop-number.marks.items.items) all (c.loop-number.invariant.1 s n is))
