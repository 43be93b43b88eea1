use Rattle.std.proofs.Common.{◌≡◌, ℕ, ◌+◌, ◌++◌, ℤ, List, length, take, ap, ◌∙◌, arith}
use Rattle.std.specs.Prelude.{replicate, get_or}
use Rattle.nd_types.specs.Table.{width}
use Rattle.nd_grammar.specs.Entry.{gap}
use Rattle.nd_flat.specs.FlatForm.{row_numbers}
use Rattle.nd_flat.proofs.RowLaws.{length_row_values}
use Rattle.ndr_encoder_laws.specs.pieces.Pieces.{row_pieces}
use Rattle.ndr_encoder_output.proofs.Rows.{row_ranged}
use Rattle.ndr_encoder_output.proofs.Filled.{row_room, row_written, pieces_same, pieces_can}
use Rattle.ndr_encoder_output.proofs.fill.FillOutput.row.Goals as goal

pub write_gap-start-requires-clause-room : goal.write_gap-start-requires-clause-room
write_gap-start-requires-clause-room c =
    let r = c.args.row.now in
    let s = c.args.self.now in
    let room = row_room c.args.prim (row_numbers r) s.at r.count c.width_of.result s.out.now _ _ c.requires.some (length_row_values r.order r.of r.count r.octets.now)
    c.width_of.ensures.value c.requires.able.1.can_follow in
    omega (arith, room)

pub write_row-self-requires-clause-range : goal.write_row-self-requires-clause-range
write_row-self-requires-clause-range c = row_ranged c.args.prim (row_numbers c.args.row.now) _ _ c.requires.able.1.can_follow.1

pub write_row-self-requires-clause-room : goal.write_row-self-requires-clause-room
write_row-self-requires-clause-room c =
    let r = c.args.row.now in
    let s = c.args.self.now in
    let room = row_room c.args.prim (row_numbers r) s.at r.count c.width_of.result s.out.now _ _ c.requires.some (length_row_values r.order r.of r.count r.octets.now)
    c.width_of.ensures.value c.requires.able.1.can_follow in
    omega (arith, room, c.write_gap-start.ensures.end, c.write_gap-start.auto.out)

pub returns : goal.returns
returns c = λ qs.
    let r = c.args.row.now in
    let s = c.args.self.now in
    let p = c.args.prim in
    let zs : List ℤ = row_numbers r in
    let num : ℕ → ℕ = λ k. get_or s.numbers.now k 0 in
    let os : List ℕ = s.out.now in
    let mid : List ℕ = c.write_gap-start.new.out in
    let new : List ℕ = c.write_row-self.new.out in
    let start : ℕ = c.write_gap-start.result in
    let end : ℕ = c.write_row-self.result in
    let wide = c.width_of.ensures.value in
    let many : length zs ≡ r.count = length_row_values r.order r.of r.count r.octets.now in
    let from : start ≡ s.at + gap s.at (width p) = c.write_gap-start.ensures.end ∙ ap (λ w. s.at + gap s.at w) wide in
    let zeros : take start mid ≡ take s.at os ++ replicate {A = ℕ} (gap s.at (width p)) 0 =
    c.write_gap-start.ensures.front ∙ ap (λ w. take s.at os ++ replicate {A = ℕ} (gap s.at w) 0) wide in
    let is = row_written s.order num p zs s.at start end r.count os mid new c.requires.some many from c.write_row-self.ensures.end zeros c.write_row-self.ensures.front in
    let long : length new ≡ length os = c.write_row-self.auto.out ∙ c.write_gap-start.auto.out in
    record {
      able = pieces_can s.out.ghost_name s.order num s.at end os new (row_pieces p zs) is.0 long is.1 qs;
      same = pieces_same s.out.ghost_name s.order num s.at end os new (row_pieces p zs) is.0 long is.1 qs;
    }
