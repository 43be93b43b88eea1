use Rattle.std.proofs.Common.{refl}
use Rattle.std.specs.Prelude.{option_map}
use Rattle.nd_value.specs.Fitting.{setting_beside}
use Rattle.nd_value.specs.Setting.{Setting}
use Rattle.ndr_trace_value.specs.declared.progress.Ground.{Ground}
use Rattle.ndr_trace.proofs.TracedWhole.{whole_trace}
use Rattle.ndr_trace.proofs.tracing.trace.Goals as goal

pub returns : goal.returns
returns c o there legal fetched more split bad own logged =
    let w : Setting = setting_beside c.args.interface.now o c.args.side (option_map (λ f. f.now.graph) c.args.given) in
    let u : Ground = record {
      alloc = c.args.alloc;
      interface = c.args.interface;
      op = c.args.op;
      side = c.args.side;
      given = c.args.given;
      order = c.args.order;
      octets = c.args.octets;
      items = c.args.items;
      sought = c.find_agreement-sought.result;
    } in
    whole_trace w c.args.order fetched c.args.place c.args.why bad legal own more u c.are_octets.ensures split logged refl refl c.find_agreement-sought.ensures.disagrees
    c.find_agreement-sought.ensures.at c.find_agreement-sought.ensures.finds c.find_agreement-sought.ensures.its
    (record { operation = o; there = there; request = option_map (λ f. f.now.graph) c.args.given; setting = refl }) c.in_ok-walker.walker.progress
    c.in_ok-walker.ensures _ _ c.in_ok-traced.ensures.lines c.in_ok-traced.ensures.path
