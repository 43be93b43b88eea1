use Rattle.std.proofs.lemmas.Result.{on_ok_weaker}
use Rattle.nd_value.specs.Seen.{tree_of}
use Rattle.nd_flat.proofs.Rooted.{filled}
use Rattle.nd_fit.proofs.graph.fill_one.Goals as goal

pub returns : goal.returns
returns c =
    on_ok_weaker c.add_value.result (λ a. filled c.args.cell.0 (tree_of c.args.val.now) c.args.builder.now c.fill.new.self c.add_value.new.builder c.fill.ensures a) c.add_value.ensures
