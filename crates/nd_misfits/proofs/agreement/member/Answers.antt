use Rattle.std.proofs.Common.{◌≡◌, ◌+◌, drop, None, Some, ap, sym, ◌∙◌}
use Rattle.nd_value.specs.Tree.{trees}
use Rattle.nd_value.specs.Seen.{tree_of}
use Rattle.nd_value.specs.Agreement.{agreement, number_in, member_agreements}
use Rattle.nd_value.specs.Conforms.{disagreement_of}
use Rattle.nd_misfits.specs.Disagreeing.{subject_in}
use Rattle.nd_misfits.proofs.Attributes.{member_next, stated_holds, stated_fails}
use Rattle.nd_misfits.proofs.agreement.member.Goals as goal

pub returns-in-Some-attribute : goal.returns-in-Some-attribute
returns-in-Some-attribute c =
    let ss = subject_in c.args.graph.now (tree_of c.args.val.now) in
    let ks = trees c.args.vals.now in
    let vars = c.args.vars.now in
    let a = c.in-Some.var.now in
    let now = agreement a.attr (number_in ks a.var) in
    let fails : disagreement_of ss now ≡ Some c.in-Some-attribute.reason =
    ap (λ n. disagreement_of ss (agreement a.attr n)) (sym c.number_in.ensures) ∙ sym c.in-Some-attribute.ensures in
    sym (c.loop-at.invariant ∙ ap (disagreement_of ss) (member_next ks vars c.loop-at.at a c.in-Some.ensures.some)
    ∙ stated_fails ss now (member_agreements ks (drop (c.loop-at.at + 1) vars)) c.in-Some-attribute.reason fails)

pub loop-at-preserved : goal.loop-at-preserved
loop-at-preserved c =
    let ss = subject_in c.args.graph.now (tree_of c.args.val.now) in
    let ks = trees c.args.vals.now in
    let vars = c.args.vars.now in
    let a = c.in-Some.var.now in
    let now = agreement a.attr (number_in ks a.var) in
    let holds : disagreement_of ss now ≡ None =
    ap (λ n. disagreement_of ss (agreement a.attr n)) (sym c.number_in.ensures) ∙ sym c.in_default-attribute.ensures in
    c.loop-at.invariant ∙ ap (disagreement_of ss) (member_next ks vars c.loop-at.at a c.in-Some.ensures.some)
    ∙ stated_holds ss now (member_agreements ks (drop (c.loop-at.at + 1) vars)) holds
