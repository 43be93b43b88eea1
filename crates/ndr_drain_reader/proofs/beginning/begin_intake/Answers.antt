use Rattle.std.proofs.Common.{ℕ, ◌-◌, refl, ap, arith}
use Rattle.nd_flat.specs.Building.{Building}
use Rattle.ndr_drain_reader.proofs.SidePipes.{at_first}
use Rattle.ndr_drain_reader.proofs.beginning.begin_intake.Goals as goal

pub returns-clause-begun : goal.returns-clause-begun
returns-clause-begun c o there =
    let is = c.find_pipes-found.ensures o there in
    let values = is.values in
    let all = is.all in
    record {
      interface_is = refl;
      op_is = refl;
      side_is = refl;
      order_is = refl;
      none_given = ap (λ (b : Building). b.given) c.begin.ensures;
      phase = refl;
      spot = ap (λ (n : ℕ). record { place = 0; root = n; node = 1 }) is.values;
      left = omega (arith, values, all);
    }

pub returns-clause-ready : goal.returns-clause-ready
returns-clause-ready c = record {
  known = c.requires.known;
  place = refl;
  node = refl;
  at_pipe = λ o there. (
      let is = c.find_pipes-found.ensures o there in
      let values = is.values in
      record {
        after_values = omega (arith, values);
        all = is.all;
        line = at_first c.args.plan.now c.args.op c.args.side o there c.find_pipes-found.result.values c.find_pipes-found.result.pipes c.find_pipes-found.result.line is.values is.line;
      });
  first = λ o there. (c.find_pipes-found.ensures o there).values;
}
