use Rattle.std.proofs.Common.{ap, sym, ◌∙◌}
use Rattle.nd_value.specs.Seen.{tree_of}
use Rattle.nd_value.specs.Conforms.{disagreement_of}
use Rattle.nd_value.specs.Agreement.{root_agreements}
use Rattle.nd_misfits.specs.Disagreeing.{subject_in, home_vars}
use Rattle.nd_misfits.proofs.AgreementWalk.{none_stated}
use Rattle.nd_misfits.proofs.Numbered.{agreements_are}
use Rattle.nd_misfits.proofs.disagreeing.own.Goals as goal

pub returns-in-Some : goal.returns-in-Some
returns-in-Some c w op are =
    let g = c.args.graph.now in
    let ss = subject_in g (tree_of c.args.home.val.now) in
    c.parameter.ensures
    ∙ ap (disagreement_of ss) (agreements_are w g c.args.numbers.now are c.in-Some.vars.now)
    ∙ ap (λ vs. disagreement_of ss (root_agreements w g vs)) (sym c.in-Some.ensures.some ∙ ap (λ o. home_vars o c.args.home.param) (sym op))

pub returns-in-None : goal.returns-in-None
returns-in-None c w op are =
    let g = c.args.graph.now in
    let ss = subject_in g (tree_of c.args.home.val.now) in
    sym (ap (λ vs. disagreement_of ss (root_agreements w g vs)) (ap (λ o. home_vars o c.args.home.param) op ∙ c.in-None.ensures.none) ∙ none_stated ss)
