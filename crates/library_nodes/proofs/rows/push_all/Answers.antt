use mir.Val.{SFits}
use mir.Syntax.{w128}
use Rattle.std.proofs.lemmas.Int.{to_z-of_z}
use Rattle.std.proofs.Common.{rules, ◌≡◌, ℕ, ◌+◌, ◌-◌, ◌*◌, ◌∙◌, suc, map, ap, ap₂, arith}
use Rattle.nd_types.specs.Number.{value_of_octets}
use Rattle.nd_types.specs.Table.{width}
use Rattle.nd_flat.specs.FlatForm.{row_numbers}
use Rattle.nd_flat.proofs.RowLaws.{one_cut}
use Rattle.library_types.specs.Low.{low}
use Rattle.library_nodes.proofs.Many.{row_pushed}
use Rattle.library_nodes.proofs.rows.push_all.Goals as goal

pub loop-at-preserved : goal.loop-at-preserved
loop-at-preserved c =
    let r = c.args.row.now in
    let from : ℕ = c.loop-at.from in
    let next : ℕ = from + c.width_of-wide.result in
    let n : ℕ = r.count - c.loop-at._at in
    let m : ℕ = r.count - (c.loop-at._at + 1) in
    let more : n ≡ suc m = omega (arith, c.loop-at-test.true) in
    let wide : next ≡ from + width r.of = ap (λ w. from + w) (c.width_of-wide.ensures.value ∙ ap width c.requires.of) in
    let fits : SFits w128 c.read_num.result = search rules in
    let is = c.low-number.ensures
    ∙ ap low
    (to_z-of_z w128 c.read_num.result fits ∙ c.read_num.ensures
    ∙ ap₂ (λ p os. value_of_octets r.order p os) c.requires.of (one_cut from next (width r.of) r.octets.now wide)) in
    let read : n * width r.of ≡ width r.of + m * width r.of = ap (λ k. k * width r.of) more ∙ omega arith in
    record {
      read = omega (arith, c.loop-at.invariant.read, read, wide);
      listed =
          row_pushed r.order r.of r.octets.now from next m n c.args.numbers.now.items c.loop-at.numbers.items c.push.new.list.items (map low (row_numbers r)) c.low-number.result more wide is
          c.in_ok-push.ensures.ok c.loop-at.invariant.listed;
    }
