use Rattle.std.proofs.Common.{◌≡◌, ◌∷◌, [], ap, ◌∙◌, subst}
use Rattle.nd_value.specs.declared.value.Graph.{Graph}
use Rattle.nd_value.specs.Setting.{root_at}
use Rattle.nd_value.specs.Tree as tree
use Rattle.nd_value.specs.Tree.{flat, more, node, none, take_trees, trees}
use Rattle.nd_flat.specs.Building.{closed}
use Rattle.nd_flat.specs.FlatForm.{flat_seen}
use Rattle.nd_flat.specs.declared.node.Seen.{Seen}
use Rattle.nd_flat.proofs.Typed.{walked_some}
use Rattle.nd_flat.proofs.Rebuilding.{ok_as}
use Rattle.ndr_drain_reader.proofs.Walked.{pipe_walked}
use Rattle.ndr_drain_reader.proofs.elements.elements_of.Goals as goal

pub values-requires : goal.values-requires
values-requires c =
    let walked : flat c.root_walk-walk.result ≡ (tree.Pipe, c.in-Some-Pipe.number) ∷ flat c.step.new.self =
    subst (λ (s : Seen). flat c.root_walk-walk.result ≡ flat_seen s ∷ flat c.step.new.self) c.in-Some-Pipe.field-0-is c.in-Some-Pipe.ensures.some in
    record { some = walked_some c.root_walk-walk.result c.step.new.self (tree.Pipe, c.in-Some-Pipe.number) walked }

pub returns : goal.returns
returns c =
    let walked : flat c.root_walk-walk.result ≡ (tree.Pipe, c.in-Some-Pipe.number) ∷ flat c.step.new.self =
    subst (λ (s : Seen). flat c.root_walk-walk.result ≡ flat_seen s ∷ flat c.step.new.self) c.in-Some-Pipe.field-0-is c.in-Some-Pipe.ensures.some in
    let at : c.root_walk-walk.result ≡ more (root_at (closed c.args.builder) 0) none = c.root_walk-walk.ensures ∙ ap (λ (g : Graph). more (root_at g 0) none) c.into_graph-graph.ensures in
    ok_as c.values.result (λ vs. trees vs ≡ take_trees c.in-Some-Pipe.number c.step.new.self) (λ vs. (closed c.args.builder).roots ≡ node tree.Pipe (trees vs) ∷ [])
    (λ vs e. pipe_walked (closed c.args.builder) c.requires.pipe.0 c.root_walk-walk.result c.step.new.self c.in-Some-Pipe.number vs c.requires.pipe.1 at walked e) c.values.ensures.values
