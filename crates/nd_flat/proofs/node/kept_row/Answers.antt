use Rattle.std.proofs.Common.{ap, sym, ◌∙◌, ℕ, List, length, subst}
use Rattle.nd_flat.specs.FlatForm.{row_flats, HasRow}
use Rattle.nd_flat.specs.declared.row.KeptRow.{KeptRow}
use Rattle.nd_flat.proofs.RowLaws.{kept_row_there, kept_numbers}
use Rattle.nd_flat.proofs.node.kept_row.Goals as goal

pub returns-clause-within : goal.returns-clause-within
returns-clause-within c =
    let r : KeptRow = record { order = c.args.row.now.order; of = c.args.row.now.of; count = c.args.row.now.count; from = length c.as_slice-from.result.now } in (
      subst (λ (os : List ℕ). HasRow os r) (sym c.in_ok-append.ensures.ok)
          (kept_row_there c.args.octets.now c.args.row.now.octets.now r (ap length c.as_slice-from.ensures) c.requires.whole),
      c.requires.some,
    )

pub returns-clause-node : goal.returns-clause-node
returns-clause-node c =
    let r : KeptRow = record { order = c.args.row.now.order; of = c.args.row.now.of; count = c.args.row.now.count; from = length c.as_slice-from.result.now } in
    ap (λ (os : List ℕ). row_flats os r) c.in_ok-append.ensures.ok
    ∙ kept_numbers c.args.octets.now c.args.row.now.octets.now r (ap length c.as_slice-from.ensures)
