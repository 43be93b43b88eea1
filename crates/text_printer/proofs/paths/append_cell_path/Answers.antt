use Rattle.std.proofs.Common.{◌≡◌, ◌++◌, ◌∷◌, List, ℕ, codes, decimal, ap, ◌∙◌, option_map}
use Rattle.std.proofs.lemmas.Result.{IfOk-weaker}
use Rattle.nd_value.specs.Seen.{cell_of}
use Rattle.text_printer.proofs.HomePaths.{cell_home_path}
use Rattle.text_printer.proofs.paths.append_cell_path.Goals as goal

pub returns : goal.returns
returns c =
    IfOk-weaker c.append_cell_steps.result _ _
    (λ x steps empty w table p h.
    let n = decimal c.args.cell.0 in
    let named : c.append_count.new.text ≡ 64 ∷ n =
    c.in_ok-append_count.ensures ∙ ap (λ (t : List ℕ). t ++ n) (c.in_ok-append.ensures.ok ∙ ap (λ (t : List ℕ). t ++ codes "@") empty) in
    steps p
    (cell_home_path w c.args.types.now c.args.graph.now c.args.cell c.append_count.new.text (option_map (λ k. cell_of k.now) c.cell_at.result) c.args.node p table named
    c.cell_at.ensures h))
    c.append_cell_steps.ensures
