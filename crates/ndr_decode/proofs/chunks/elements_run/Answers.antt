use Rattle.std.proofs.Common.{◌≡◌, ℕ, sym, ◌∙◌, subst}
use Rattle.std.specs.Prelude.{Some, slice_get}
use Rattle.ndr_code.specs.declared.lists.PlanLine.TheVariants as line
use Rattle.ndr_decode.specs.Piping.{CallsPipe}
use Rattle.ndr_decode.proofs.PipeLines.{entry_read, same_side}
use Rattle.ndr_decode.proofs.chunks.elements_run.Goals as goal

pub called_elements-requires : goal.called_elements-requires
called_elements-requires c =
    let there : slice_get c.args.plan.now.entries c.args.line ≡ Some (line.Entry c.args.op c.args.side c.in-Entry.name c.in-Entry.at) =
    entry_read c.args.plan.now c.as_slice.result.now c.args.line c.index-as_slice-line.result c.args.op c.in-Entry.of c.args.side c.in-Entry.on c.in-Entry.name c.in-Entry.at c.as_slice.ensures
    c.requires.there
    c.index-as_slice-line.is c.in-Entry.is c.if-of-op.false (same_side c.in-Entry.on c.args.side (sym c.if-ne.false ∙ c.ne.ensures)) in
    record { pipe = subst (λ code. (elem : ℕ) × CallsPipe code c.in-Entry.at elem) (sym c.as_slice-2.ensures) (c.requires.pipe c.in-Entry.name c.in-Entry.at there) }

pub returns : goal.returns
returns c = record {
  name = c.in-Entry.name;
  at = c.in-Entry.at;
  entry = entry_read c.args.plan.now c.as_slice.result.now c.args.line c.index-as_slice-line.result c.args.op c.in-Entry.of c.args.side c.in-Entry.on c.in-Entry.name c.in-Entry.at c.as_slice.ensures
      c.requires.there
      c.index-as_slice-line.is c.in-Entry.is c.if-of-op.false (same_side c.in-Entry.on c.args.side (sym c.if-ne.false ∙ c.ne.ensures));
  calls = subst (λ code. CallsPipe code c.in-Entry.at c.called_elements.result) c.as_slice-2.ensures c.called_elements.ensures;
}
