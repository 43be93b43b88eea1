use Rattle.std.proofs.Common.{◌∙◌, sym, subst, [], ◌∷◌, map}
use Rattle.std.proofs.lemmas.List.{map-append}
use Rattle.std.proofs.lemmas.Option.{slice_get_within}
use Rattle.std.proofs.lemmas.Iterator.Consumers.{YieldsList-from_first, YieldsList-end}
use Rattle.nd_types.specs.Roots.{root_value, named_roots}
use Rattle.ndr_plan.specs.Parts.{HasRuns, pipe_run, pipe_line}
use Rattle.ndr_plan.proofs.Walked.{runs_none, runs_more}
use Rattle.ndr_plan.proofs.side_code.Parts.push_pipes.Goals as goal

pub params-root-items-requires : goal.params-root-items-requires
params-root-items-requires c =
    let side = c.args.side.now in
    slice_get_within side.interface.now.operations side.op side.operation.now side.known

pub loop-root-init : goal.loop-root-init
loop-root-init c =
    let side = c.args.side.now in
    runs_none c.args.self.now (pipe_run side.interface.now.types) (pipe_line side.op side.operation.now side.side)

pub loop-root-preserved : goal.loop-root-preserved
loop-root-preserved c =
    let l = c.loop-root in
    let side = c.args.side.now in
    let run = pipe_run side.interface.now.types in
    let line = pipe_line side.op side.operation.now side.side in
    subst (HasRuns c.args.self.now _ run line) (sym (map-append root_value l.yielded (c.in-Some.root ∷ [])))
    (runs_more c.args.self.now l.self _ run line (map root_value l.yielded) (root_value c.in-Some.root) l.invariant c.in_ok-push_pipe.ensures)

pub returns : goal.returns
returns c =
    let l = c.loop-root in
    let side = c.args.side.now in
    let i = side.interface.now in
    let o = side.operation.now in
    let run = pipe_run i.types in
    let line = pipe_line side.op side.operation.now side.side in
    let all = named_roots i.types side.side o in
    let walk = YieldsList-from_first root_value (λ w. w) all (c.into_iter-root-iterator.ensures.into_iter_gives ∙ c.params-root-items.ensures o side.known) in
    let end = YieldsList-end walk l.yielded _ l.yielded_by _ _ c.in-None.is c.next.ensures.steps in
    subst (HasRuns c.args.self.now l.self run line) end.0 l.invariant
