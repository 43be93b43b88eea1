use Rattle.std.proofs.Common.{◌≡◌, ◌<◌, ◌+◌, ◌*◌, ℕ, List, length, ap, sym, ◌∙◌, subst, arith}
use Rattle.std.specs.List.{slice_get}
use Rattle.std.proofs.lemmas.Option.{get_or_from_slice_get}
use Rattle.ndr_code.specs.Code.{line_at, side_number}
use Rattle.ndr_encode.proofs.FirstLine.{side_start, side_within}
use Rattle.ndr_encode.proofs.making.first_line.Goals as goal

pub bounds-as_slice-op : goal.bounds-as_slice-op
bounds-as_slice-op c =
    let number : c.number_of.result ≡ side_number c.args.fit.now.side = c.number_of.ensures ∙ ap side_number c.side.ensures in
    subst (λ (xs : List ℕ). c.op.result * 2 + c.number_of.result < length xs) (sym c.as_slice.ensures)
    (side_within c.args.plan.now c.op.result c.args.fit.now.side c.number_of.result number (omega (arith, c.op.ensures, c.requires.known)))

pub returns-clause-line : goal.returns-clause-line
returns-clause-line c o e =
    let number : c.number_of.result ≡ side_number c.args.fit.now.side = c.number_of.ensures ∙ ap side_number c.side.ensures in
    get_or_from_slice_get c.as_slice.result.now (c.op.result * 2 + c.number_of.result)
    (line_at c.args.plan.now.tie.types c.args.plan.now.tie.operations c.args.fit.now.op o c.args.fit.now.side) 0
    (ap (λ (xs : List ℕ). slice_get xs (c.op.result * 2 + c.number_of.result)) c.as_slice.ensures
    ∙ ap (λ (i : ℕ). slice_get c.args.plan.now.sides (i * 2 + c.number_of.result)) c.op.ensures
    ∙ side_start c.args.plan.now c.args.fit.now.op c.args.fit.now.side c.number_of.result number o e)
