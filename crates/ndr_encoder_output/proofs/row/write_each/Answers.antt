use Rattle.std.proofs.Common.{◌≡◌, ℕ, ◌+◌, ◌-◌, ◌*◌, suc, ap, ◌∙◌, arith, rules}
use Rattle.std.proofs.lemmas.Int.{to_z-of_z}
use mir.Val.{SFits}
use mir.Syntax.{w128}
use Rattle.nd_types.specs.Table.{width}
use Rattle.nd_types.specs.Number.{value_of_octets}
use Rattle.nd_flat.proofs.RowLaws.{one_cut}
use Rattle.ndr_encoder_output.proofs.Rows.{next_ranged, rest_ranged, next_written}
use Rattle.ndr_encoder_output.proofs.row.write_each.Goals as goal

pub write_figure-end-requires-clause-range : goal.write_figure-end-requires-clause-range
write_figure-end-requires-clause-range c =
    let r = c.args.row.now in
    let from : ℕ = c.loop-at.from in
    let next : ℕ = from + c.width_of-wide.result in
    let n : ℕ = r.count - c.loop-at._at in
    let m : ℕ = r.count - (c.loop-at._at + 1) in
    let more : n ≡ suc m = omega (arith, c.loop-at-test.true) in
    let wide : next ≡ from + width r.of = ap (λ w. from + w) c.width_of-wide.ensures.value in
    let fits : SFits w128 c.read_num-value.result = search rules in
    let is = to_z-of_z w128 c.read_num-value.result fits ∙ c.read_num-value.ensures
    ∙ ap (value_of_octets r.order r.of) (one_cut from next (width r.of) r.octets.now wide) in
    next_ranged r.order r.of r.octets.now from next m n more wide c.args.prim _ is c.loop-at.invariant.range

pub loop-at-preserved : goal.loop-at-preserved
loop-at-preserved c =
    let r = c.args.row.now in
    let from : ℕ = c.loop-at.from in
    let next : ℕ = from + c.width_of-wide.result in
    let n : ℕ = r.count - c.loop-at._at in
    let m : ℕ = r.count - (c.loop-at._at + 1) in
    let more : n ≡ suc m = omega (arith, c.loop-at-test.true) in
    let wide : next ≡ from + width r.of = ap (λ w. from + w) c.width_of-wide.ensures.value in
    let fits : SFits w128 c.read_num-value.result = search rules in
    let is = to_z-of_z w128 c.read_num-value.result fits ∙ c.read_num-value.ensures
    ∙ ap (value_of_octets r.order r.of) (one_cut from next (width r.of) r.octets.now wide) in
    let read : n * width r.of ≡ width r.of + m * width r.of = ap (λ k. k * width r.of) more ∙ omega arith in
    let room : n * width c.args.prim ≡ width c.args.prim + m * width c.args.prim = ap (λ k. k * width c.args.prim) more ∙ omega arith in
    record {
      read = omega (arith, c.loop-at.invariant.read, read, wide);
      room = omega (arith, c.loop-at.invariant.room, room, c.write_figure-end.ensures.end);
      range = rest_ranged r.order r.of r.octets.now from next m n more wide c.args.prim c.loop-at.invariant.range;
      written = next_written r.order r.of r.octets.now from next m n more wide c.args.order c.args.prim _ _ _ _ is c.write_figure-end.ensures.front c.loop-at.invariant.written;
    }
