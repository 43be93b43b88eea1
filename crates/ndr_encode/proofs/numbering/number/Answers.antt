use Rattle.std.proofs.Common.{rules, refl, ◌≡◌, ◌+◌, ◌<◌, ◌≤◌, ◌^◌, sym, ◌∙◌, get_or, length, arith, subst}
use Rattle.ndr_encode.proofs.NamedCells.{same_default, positive}
use Rattle.ndr_encode.proofs.Numbers.{in_numbers, numbered_known, numbered_new, next_fits}
use Rattle.ndr_encode.proofs.numbering.number.Goals as goal

pub returns-then-index-ne0 : goal.returns-then-index-ne0
returns-then-index-ne0 c n names low high x =
    let there : c.args.cell.0 < length c.args.numbers.now.items = in_numbers n names c.args.numbers.now.items c.args.named.now c.args.cell.0 low high x in
    let e : c.index.result.now ≡ get_or c.args.numbers.now.items c.args.cell.0 0 = c.index.ensures ∙ same_default c.args.numbers.now.items c.args.cell.0 _ 0 there in
    numbered_known n names c.args.numbers.now.items c.args.named.now c.args.cell.0 low high x (subst (λ v. 0 < v) e (positive c.index.result.now c.if-index-ne0.true))

pub overflow_add-named : goal.overflow_add-named
overflow_add-named c =
    let (n, names, few, low, high, x) = c.requires in
    let there : c.args.cell.0 < length c.args.numbers.now.items = in_numbers n names c.args.numbers.now.items c.args.named.now c.args.cell.0 low high x in
    let e : c.index.result.now ≡ get_or c.args.numbers.now.items c.args.cell.0 0 = c.index.ensures ∙ same_default c.args.numbers.now.items c.args.cell.0 _ 0 there in
    let fits : c.args.named.now + 1 ≤ n = next_fits n names c.args.numbers.now.items c.args.named.now c.args.cell.0 low high x (sym e ∙ c.if-index-ne0.false) in
    let small : c.args.named.now + 1 < 2 ^ 32 = omega (arith, fits, few) in
    search rules

pub returns : goal.returns
returns c n names low high x =
    let there : c.args.cell.0 < length c.args.numbers.now.items = in_numbers n names c.args.numbers.now.items c.args.named.now c.args.cell.0 low high x in
    let e : c.index.result.now ≡ get_or c.args.numbers.now.items c.args.cell.0 0 = c.index.ensures ∙ same_default c.args.numbers.now.items c.args.cell.0 _ 0 there in
    numbered_new n names c.args.numbers.now.items c.args.named.now c.args.cell.0 low high x (sym e ∙ c.if-index-ne0.false) (c.args.named.now + 1) refl
