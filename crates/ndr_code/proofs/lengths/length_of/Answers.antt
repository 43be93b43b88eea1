use Rattle.std.proofs.Common.{◌≡◌, ◌<◌, ◌≤◌, ◌+◌, ◌*◌, ◌-◌, ◌∙◌, ap, arith, sym}
use Rattle.nd_grammar.specs.Entry.{gap}
use Rattle.ndr_code.specs.Lengths.{field_len, form_width}
use Rattle.ndr_code.proofs.Measured.{measured_more, measured_whole}
use Rattle.ndr_code.proofs.lengths.length_of.Goals as goal

pub loop-left-preserved : goal.loop-left-preserved
loop-left-preserved c =
    let l = c.loop-left in
    let f = c.in-Some.field in
    let len1 = l.len + (c.in-Some-repeated_gap.gap + c.form_width.result) in
    let wide : c.form_width.result ≡ form_width f.form = c.form_width.ensures.is in
    let some : 0 < l.left = c.loop-left-test.true in
    let most : len1 ≤ 64 = c.if-len-gt-MOST.false in
    let sum : l.next + l.left ≡ c.args.pc + c.args.members = l.invariant.1.1 in (
      λ k.
          let place : 8 * k + (c.args.at + l.len) ≡ 8 * k + c.args.at + l.len = omega arith in
          let a_gap : c.in-Some-repeated_gap.gap ≡ gap (8 * k + c.args.at + l.len) f.to = c.in-Some-repeated_gap.ensures.gap k ∙ ap (λ n. gap n f.to) place in
          let len_is : len1 ≡ l.len + field_len (8 * k + c.args.at + l.len) f = omega (arith, a_gap, wide) in
          measured_more c.args.code.now c.args.pc (8 * k + c.args.at) c.args.members l.next l.left l.len len1 f (l.invariant.0 k) some (sym c.member_at.ensures ∙ c.in-Some.is) len_is,
      (most, omega (arith, sum, some)),
    )

pub returns-clause-fields : goal.returns-clause-fields
returns-clause-fields c = λ k.
    let l = c.loop-left in
    let none : l.left ≡ 0 = let h = c.loop-left-test.false in omega (arith, h) in
    measured_whole c.args.code.now c.args.pc (8 * k + c.args.at) c.args.members l.next l.left l.len (l.invariant.0 k) none (c.closes.ensures c.if-not-closes.false)
