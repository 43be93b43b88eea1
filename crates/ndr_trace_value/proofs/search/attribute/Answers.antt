use Rattle.std.proofs.Common.{◌≡◌, ◌∙◌, ◌+◌, ◌≤◌, rules, true, false, suc, drop, length, refl, sym, ap, arith}
use Rattle.ndr_trace_value.specs.Attributes.{first_of}
use Rattle.ndr_trace_value.proofs.Attributes.{first_here, first_later, first_none}
use Rattle.ndr_trace_value.proofs.search.attribute.Goals as goal

pub loop-at-init : goal.loop-at-init
loop-at-init c = refl

pub loop-at-preserved : goal.loop-at-preserved
loop-at-preserved c =
    let no : c.speaks_of.result ≡ false = search rules in
    let next : suc c.loop-at.at ≡ c.loop-at.at + 1 = omega arith in
    c.loop-at.invariant ∙ first_later c.args.kind c.args.vars.now c.loop-at.at c.in-Some.by.now c.in-Some.ensures.some (sym c.speaks_of.ensures ∙ no)
    ∙ ap (λ n. first_of c.args.kind (drop n c.args.vars.now)) next

pub returns-then-speaks_of : goal.returns-then-speaks_of
returns-then-speaks_of c =
    let yes : c.speaks_of.result ≡ true = search rules in
    sym (c.loop-at.invariant ∙ first_here c.args.kind c.args.vars.now c.loop-at.at c.in-Some.by.now c.in-Some.ensures.some (sym c.speaks_of.ensures ∙ yes))

pub returns : goal.returns
returns c =
    let all : length c.args.vars.now ≤ c.loop-at.at = omega (arith, c.len-at-end.ensures) in
    sym (c.loop-at.invariant ∙ first_none c.args.kind c.args.vars.now c.loop-at.at all)
