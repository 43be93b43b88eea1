use Rattle.std.proofs.Common.{◌+◌, ◌∙◌, length, map, replicate, None, sym, ap}
use Rattle.nd_misfits.specs.declared.shared.Naming.TheVariants.{NotYet}
use Rattle.std.proofs.lemmas.Result.{err_from_is_err_and, IfErr-weaker, on_ok_weaker}
use Rattle.nd_misfits.specs.HomeList.{home_tree, cell_homes}
use Rattle.nd_misfits.specs.Pointers.{pointers_of_homes}
use Rattle.nd_value.specs.Fitting.{setting_beside}
use Rattle.nd_lemmas.proofs.Lists.{item_at}
use Rattle.nd_misfits.proofs.Walkable.{walkable}
use Rattle.nd_misfits.proofs.Sharing.{tells_same, tells_memory, roots_walkable, cells_walkable, clash_is_shared}
use Rattle.nd_misfits.proofs.shared.shared_cell.Goals as goal

pub among-requires : goal.among-requires
among-requires c =
    let i = c.args.interface.now in
    let g = c.args.graph.now in
    let (o, there) = item_at i.operations c.args.op c.requires.known in
    let w = setting_beside i o c.args.side None in
    record {
      walkable =
          roots_walkable w g (length g.cells + 1) _ _ (c.in_ok-names.ensures ∙ ap (λ n. replicate (n + 1) NotYet) c.len.ensures)
          (ap (map home_tree) c.as_slice.ensures.value ∙ c.in_ok-roots.ensures o there)
          (walkable w g i.legal.enumerators c.requires.few_nodes (c.requires.local o None there));
    }

pub among_cells-requires : goal.among_cells-requires
among_cells-requires c =
    let i = c.args.interface.now in
    let g = c.args.graph.now in
    let (o, there) = item_at i.operations c.args.op c.requires.known in
    let w = setting_beside i o c.args.side None in
    record {
      few = c.requires.few_cells;
      walkable =
          cells_walkable w g (length g.cells + 1) _ _ (c.in_ok-names.ensures ∙ ap (λ n. replicate (n + 1) NotYet) c.len.ensures)
          (ap (map home_tree) c.as_slice.ensures.value ∙ c.in_ok-roots.ensures o there)
          (walkable w g i.legal.enumerators c.requires.few_nodes (c.requires.local o None there)) _ c.in_ok-among.ensures.length;
    }

pub returns-in_err-roots-clause-first : goal.returns-in_err-roots-clause-first
returns-in_err-roots-clause-first c =
    let p = err_from_is_err_and c.from_residual.result c.from_residual.ensures.1 in
    rw (p.1) (λ o q there. tells_memory _ _ p.2)

pub returns-in_err-names-clause-first : goal.returns-in_err-names-clause-first
returns-in_err-names-clause-first c =
    let p = err_from_is_err_and c.from_residual-in_err-names.result c.from_residual-in_err-names.ensures.1 in
    rw (p.1) (λ o q there. tells_memory _ _ p.2)

pub returns-in_err-among-clause-first : goal.returns-in_err-among-clause-first
returns-in_err-among-clause-first c =
    let p = err_from_is_err_and c.from_residual-in_err-among.result c.from_residual-in_err-among.ensures.1 in
    let i = c.args.interface.now in
    let g = c.args.graph.now in
    rw (p.1, p.2)
    (λ o q there.
    let w = setting_beside i o c.args.side q in
    tells_same _ _ _
    (sym (clash_is_shared w g (length g.cells + 1) _ _ (c.in_ok-names.ensures ∙ ap (λ n. replicate (n + 1) NotYet) c.len.ensures)
    (ap (map home_tree) c.as_slice.ensures.value ∙ c.in_ok-roots.ensures o there)
    (walkable w g i.legal.enumerators c.requires.few_nodes (c.requires.local o q there))))
    (c.in_err-among.ensures.first (pointers_of_homes i.types (cell_homes 1 g.cells))))

pub returns-clause-none : goal.returns-clause-none
returns-clause-none c =
    let i = c.args.interface.now in
    let g = c.args.graph.now in
    on_ok_weaker c.among_cells.result
    (λ none o q there.
    let w = setting_beside i o c.args.side q in
    sym (clash_is_shared w g (length g.cells + 1) _ _ (c.in_ok-names.ensures ∙ ap (λ n. replicate (n + 1) NotYet) c.len.ensures)
    (ap (map home_tree) c.as_slice.ensures.value ∙ c.in_ok-roots.ensures o there)
    (walkable w g i.legal.enumerators c.requires.few_nodes (c.requires.local o q there)))
    ∙ c.in_ok-among.ensures.none (pointers_of_homes i.types (cell_homes 1 g.cells)) ∙ none)
    c.among_cells.ensures.none

pub returns-clause-first : goal.returns-clause-first
returns-clause-first c =
    let i = c.args.interface.now in
    let g = c.args.graph.now in
    IfErr-weaker c.among_cells.result _ _
    (λ e told o q there.
    let w = setting_beside i o c.args.side q in
    tells_same _ _ e
    (sym (clash_is_shared w g (length g.cells + 1) _ _ (c.in_ok-names.ensures ∙ ap (λ n. replicate (n + 1) NotYet) c.len.ensures)
    (ap (map home_tree) c.as_slice.ensures.value ∙ c.in_ok-roots.ensures o there)
    (walkable w g i.legal.enumerators c.requires.few_nodes (c.requires.local o q there)))
    ∙ c.in_ok-among.ensures.none (pointers_of_homes i.types (cell_homes 1 g.cells)))
    told)
    c.among_cells.ensures.first
