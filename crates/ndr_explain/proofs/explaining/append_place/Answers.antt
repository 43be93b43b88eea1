use Rattle.std.proofs.Common.{◌++◌, Option, ap₂, ◌∙◌, subst}
use Rattle.std.proofs.lemmas.Result.{on_ok_weaker}
use Rattle.ndr_explain.specs.Explained.{home_paths, path_in}
use Rattle.ndr_explain.specs.Cursors.{IsFound}
use Rattle.ndr_explain.specs.declared.located.Located.{Located}
use Rattle.ndr_explain.proofs.explaining.append_place.Goals as goal

pub returns-in-Some : goal.returns-in-Some
returns-in-Some c =
    let g = c.args.fit.now.graph in
    let x = c.args.item.now in
    let text = c.args.text.now in
    on_ok_weaker c.append_found.result
    (λ k w s found.
    let q = subst (λ (r : Option Located). IsFound w g x.home x.node r) c.in-Some.is found in
    k w g q.0.0 ∙ ap₂ (λ h n. text ++ path_in (home_paths w g h) n) q.0.1 q.1)
    c.append_found.ensures
