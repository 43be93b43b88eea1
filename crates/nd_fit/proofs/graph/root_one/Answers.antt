use Rattle.std.proofs.lemmas.Result.{on_ok_weaker}
use Rattle.nd_value.specs.Seen.{tree_of}
use Rattle.nd_flat.proofs.Rooted.{rooted}
use Rattle.nd_fit.proofs.graph.root_one.Goals as goal

pub returns : goal.returns
returns c =
    on_ok_weaker c.add_value.result (λ a. rooted (tree_of c.args.val.now) c.args.builder.now c.root.new.self c.add_value.new.builder c.in_ok-root.ensures.ok a) c.add_value.ensures
