use Rattle.std.proofs.Common.{◌++◌, ◌+◌, ◌∙◌, drop, refl, ap, arith}
use Rattle.std.proofs.lemmas.List.{drop_more, drop_all}
use Rattle.std.proofs.lemmas.Result.{err_from_is_err_and}
use Rattle.nd_misfits.specs.Pointers.{first_clash}
use Rattle.nd_misfits.proofs.Sharing.{tells_same}
use Rattle.nd_misfits.proofs.shared.note.Goals as goal

pub loop-at-init : goal.loop-at-init
loop-at-init c = record { length = refl; left = λ rest. refl }

pub returns-in_err-note_one-clause-first : goal.returns-in_err-note_one-clause-first
returns-in_err-note_one-clause-first c =
    let p = err_from_is_err_and c.from_residual.result c.from_residual.ensures.1 in
    let found = c.args.found.now in
    rw (p.1, p.2) (λ rest.
    tells_same _ _ _
    (c.loop-at.invariant.left rest ∙ ap (λ xs. first_clash c.loop-at.names.items (xs ++ rest)) (drop_more found c.loop-at.at _ (omega (arith, c.loop-at-test.true))))
    (c.in_err-note_one.ensures.first (drop (c.loop-at.at + 1) found ++ rest)))

pub loop-at-preserved : goal.loop-at-preserved
loop-at-preserved c = record {
  length = c.in_ok-note_one.ensures.length ∙ c.loop-at.invariant.length;
  left = λ rest.
      let found = c.args.found.now in
      c.loop-at.invariant.left rest ∙ ap (λ xs. first_clash c.loop-at.names.items (xs ++ rest)) (drop_more found c.loop-at.at _ (omega (arith, c.loop-at-test.true)))
      ∙ c.in_ok-note_one.ensures.none (drop (c.loop-at.at + 1) found ++ rest);
}

pub returns-clause-none : goal.returns-clause-none
returns-clause-none c rest =
    c.loop-at.invariant.left rest ∙ ap (λ xs. first_clash c.loop-at.names.items (xs ++ rest)) (drop_all c.loop-at.at c.args.found.now (omega (arith, c.loop-at-test.false)))
