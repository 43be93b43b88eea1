use Rattle.std.proofs.Common.{◌∙◌, ◌<◌, ◌^◌, map}
use Rattle.std.proofs.lemmas.Result.{err_from_is_err_and, IfErr-weaker, on_ok_weaker}
use Rattle.nd_value.specs.Fitting.{setting_beside}
use Rattle.nd_value.proofs.LocalPass.{local_first, tells_first, tells_later, later_left}
use Rattle.nd_value.specs.Tree.{Tree, Referent, node_count, more, none}
use Rattle.nd_value.proofs.Misfits.{all_left, all_right}
use Rattle.nd_misfits.proofs.local.local_misfit.Goals as goal

-- a value whose nodes are few
abbrev Few : Tree → Type 0
Few t = node_count (more t none) < 2 ^ 32

pub roots-requires-clause-few : goal.roots-requires-clause-few
roots-requires-clause-few c = let g = c.args.graph.now in all_left Few g.roots (map (λ (x : Referent). x.val) g.cells) c.requires.few_nodes

pub cells-requires-clause-few_nodes : goal.cells-requires-clause-few_nodes
cells-requires-clause-few_nodes c = let g = c.args.graph.now in all_right Few g.roots (map (λ (x : Referent). x.val) g.cells) c.requires.few_nodes

pub returns-in_err-roots-clause-first : goal.returns-in_err-roots-clause-first
returns-in_err-roots-clause-first c =
    let p = err_from_is_err_and c.from_residual.result c.from_residual.ensures.1 in
    rw (p.1, p.2) (λ o q there.
    tells_first _ _ _ _ (local_first (setting_beside c.args.interface.now o c.args.side q) c.args.graph.now) (c.in_err-roots.ensures.first o there))

pub returns-clause-none : goal.returns-clause-none
returns-clause-none c =
    on_ok_weaker c.cells.result
    (λ none o q there. later_left _ _ _ (local_first (setting_beside c.args.interface.now o c.args.side q) c.args.graph.now) (c.in_ok-roots.ensures.none o there) ∙ none)
    c.cells.ensures.none

pub returns-clause-first : goal.returns-clause-first
returns-clause-first c =
    IfErr-weaker c.cells.result _ _
    (λ e told o q there. tells_later _ _ _ e (local_first (setting_beside c.args.interface.now o c.args.side q) c.args.graph.now) (c.in_ok-roots.ensures.none o there) told)
    c.cells.ensures.first

pub returns-clause-machine : goal.returns-clause-machine
returns-clause-machine c = on_ok_weaker c.cells.result (λ cells. record { roots = c.in_ok-roots.ensures.machine; cells = cells }) c.cells.ensures.machine
