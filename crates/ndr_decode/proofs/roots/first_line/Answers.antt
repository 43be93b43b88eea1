use Rattle.std.proofs.Common.{◌<◌, ◌+◌, ◌*◌, ℕ, List, length, ap, sym, ◌∙◌, subst}
use Rattle.std.specs.List.{slice_get}
use Rattle.std.proofs.lemmas.Option.{get_or_from_slice_get}
use Rattle.ndr_code.specs.Code.{line_at}
use Rattle.ndr_decode.proofs.RootLines.{side_start, side_within}
use Rattle.ndr_decode.proofs.roots.first_line.Goals as goal

pub bounds-as_slice-op : goal.bounds-as_slice-op
bounds-as_slice-op c =
    subst (λ (xs : List ℕ). c.args.op * 2 + c.number_of.result < length xs) (sym c.as_slice.ensures)
    (side_within c.args.plan.now c.args.op c.args.side c.number_of.result c.number_of.ensures c.requires.known)

pub returns : goal.returns
returns c o e =
    get_or_from_slice_get c.as_slice.result.now (c.args.op * 2 + c.number_of.result) (line_at c.args.plan.now.tie.types c.args.plan.now.tie.operations c.args.op o c.args.side) 0
    (ap (λ (xs : List ℕ). slice_get xs (c.args.op * 2 + c.number_of.result)) c.as_slice.ensures ∙ side_start c.args.plan.now c.args.op c.args.side c.number_of.result c.number_of.ensures o e)
