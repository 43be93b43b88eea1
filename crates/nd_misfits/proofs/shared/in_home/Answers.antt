use Rattle.std.proofs.Common.{◌++◌, ◌∙◌, sym, ap}
use Rattle.std.proofs.lemmas.Result.{err_from_is_err_and, IfErr-weaker, on_ok_weaker}
use Rattle.nd_misfits.specs.Pointers.{first_clash}
use Rattle.nd_misfits.proofs.Sharing.{tells_same, tells_memory}
use Rattle.nd_misfits.proofs.HomeWalk.{named_in}
use Rattle.nd_misfits.proofs.shared.in_home.Goals as goal

pub cell_pointers-requires : goal.cell_pointers-requires
cell_pointers-requires c = record { few = c.requires.walkable.few; formed = c.requires.walkable.formed }

pub note-requires : goal.note-requires
note-requires c = record { within = named_in _ _ _ (c.as_slice.ensures.value ∙ c.in_ok-cell_pointers.ensures) c.requires.walkable.named }

pub returns-in_err-cell_pointers-clause-first : goal.returns-in_err-cell_pointers-clause-first
returns-in_err-cell_pointers-clause-first c =
    let p = err_from_is_err_and c.from_residual.result c.from_residual.ensures.1 in
    rw (p.1) (λ rest. tells_memory _ _ p.2)

pub returns-clause-none : goal.returns-clause-none
returns-clause-none c =
    on_ok_weaker c.note.result
    (λ none rest. ap (λ ps. first_clash c.args.names.now.items (ps ++ rest)) (sym (c.as_slice.ensures.value ∙ c.in_ok-cell_pointers.ensures)) ∙ none rest)
    c.note.ensures.none

pub returns-clause-first : goal.returns-clause-first
returns-clause-first c =
    IfErr-weaker c.note.result _ _
    (λ e told rest.
    tells_same _ _ e
    (ap (λ ps. first_clash c.args.names.now.items (ps ++ rest)) (sym (c.as_slice.ensures.value ∙ c.in_ok-cell_pointers.ensures)))
    (told rest))
    c.note.ensures.first
