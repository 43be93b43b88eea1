use Rattle.std.proofs.Common.{◌≡◌, ◌++◌, ◌-◌, length, rules, refl, ap, sym, ◌∙◌}
use Rattle.nd_value.specs.Tree.{flat}
use Rattle.nd_flat.specs.FlatForm.{row_numbers}
use Rattle.nd_flat.proofs.RowLaws.{length_row_values}
use Rattle.ndr_encoder_laws.specs.pieces.Pieces.{number_pieces, row_pieces}
use Rattle.ndr_encoder_laws.specs.written.Run.{here, later, num_in, numbers}
use Rattle.ndr_encoder_value.proofs.Going.{able_from, moves_from}
use Rattle.ndr_encoder_value.proofs.NextNumbers.{row_first, rest_first, one_first}
use Rattle.ndr_encoder_value.proofs.numbers.write_some.Goals as goal

pub row-requires-in-Some-clause-able : goal.row-requires-in-Some-clause-able
row-requires-in-Some-clause-able g c =
    let r = c.in-Some.row in
    let many : length (row_numbers r) ≡ r.count = length_row_values r.order r.of r.count r.octets.now in (
      row_pieces c.args.prim (numbers (c.args.most - r.count) (flat c.row.new.self)) ++ c.requires.able.0,
      able_from g.O.Output.can g.O.Output.whole _ _ _
          (row_first c.args.prim (row_numbers r) _ _ r.count c.args.most c.requires.able.0 c.in-Some.ensures.some many c.in-Some.ensures.count.1) c.requires.able.1,
    )

pub returns-in-Some-clause-written : goal.returns-in-Some-clause-written
returns-in-Some-clause-written g c = λ qs.
    let r = c.in-Some.row in
    let many : length (row_numbers r) ≡ r.count = length_row_values r.order r.of r.count r.octets.now in
    moves_from g.O.Output.can g.O.Output.whole _ _ _ _ _
    (row_first c.args.prim (row_numbers r) _ _ r.count c.args.most qs c.in-Some.ensures.some many c.in-Some.ensures.count.1)
    (c.row-in-Some.ensures (row_pieces c.args.prim (numbers (c.args.most - r.count) (flat c.row.new.self)) ++ qs))

pub returns-in-Some-clause-rest : goal.returns-in-Some-clause-rest
returns-in-Some-clause-rest g c =
    let r = c.in-Some.row in
    rest_first (row_numbers r) _ _ r.count c.args.most c.in-Some.ensures.some (length_row_values r.order r.of r.count r.octets.now) c.in-Some.ensures.count.1

pub write_one-requires : goal.write_one-requires
write_one-requires g c =
    let p = c.args.prim in
    let fs = flat c.args.walk.now in
    let same : c.row.new.self ≡ c.args.walk.now = search rules in
    let qs = row_pieces p (numbers (c.args.most - 1) (later fs)) ++ c.requires.able.0 in (
      qs,
      able_from g.O.Output.can g.O.Output.whole _ _ _
          (one_first p fs (later fs) c.args.most c.requires.able.0 refl c.requires.some ∙ ap (λ w. number_pieces p (num_in (here (flat w)).0) ++ qs) (sym same)) c.requires.able.1,
    )
