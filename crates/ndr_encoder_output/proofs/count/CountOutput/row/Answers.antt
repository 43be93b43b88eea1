use Rattle.std.proofs.Common.{◌≡◌, ℕ, ◌+◌, ◌*◌, length, ap, ap₂, ◌∙◌}
use Rattle.nd_types.specs.Table.{width}
use Rattle.nd_grammar.specs.Entry.{gap}
use Rattle.nd_flat.specs.FlatForm.{row_numbers}
use Rattle.nd_flat.proofs.RowLaws.{length_row_values}
use Rattle.ndr_encoder_output.specs.Counting.{names_of}
use Rattle.ndr_encoder_output.proofs.Counted.{row_gap_fits, row_end_fits, row_same, row_can}
use Rattle.ndr_encoder_output.proofs.count.CountOutput.row.Goals as goal

pub overflow_add-start : goal.overflow_add-start
overflow_add-start c =
    let r = c.args.row.now in
    let at : ℕ = c.args.self.now.at in
    row_gap_fits c.args.prim (row_numbers r) at r.count c.gap_of.result _ _ c.requires.some (length_row_values r.order r.of r.count r.octets.now)
    (c.gap_of.ensures ∙ ap (gap at) c.width_of.ensures.value) c.requires.able.1.can_follow

pub overflow_add-self : goal.overflow_add-self
overflow_add-self c =
    let r = c.args.row.now in
    let at : ℕ = c.args.self.now.at in
    row_end_fits c.args.prim (row_numbers r) at r.count c.gap_of.result c.row_length.result _ _ c.requires.some (length_row_values r.order r.of r.count r.octets.now)
    (c.gap_of.ensures ∙ ap (gap at) c.width_of.ensures.value) c.row_length.ensures c.requires.able.1.can_follow

pub returns : goal.returns
returns c = λ qs.
    let r = c.args.row.now in
    let at : ℕ = c.args.self.now.at in
    let end : ℕ = at + c.gap_of.result + c.row_length.result in
    let many : length (row_numbers r) ≡ r.count = length_row_values r.order r.of r.count r.octets.now in
    let is : end ≡ at + gap at (width c.args.prim) + r.count * width c.args.prim =
    ap₂ (λ g k. at + g + k) (c.gap_of.ensures ∙ ap (gap at) c.width_of.ensures.value) c.row_length.ensures in
    record {
      able = row_can c.args.prim (row_numbers r) at end r.count (names_of c.args.self.now.names.items) c.requires.some many is qs;
      same = row_same c.args.prim (row_numbers r) at end r.count (names_of c.args.self.now.names.items) c.requires.some many is qs;
    }
