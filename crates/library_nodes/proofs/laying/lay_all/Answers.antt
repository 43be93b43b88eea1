use Rattle.std.proofs.Common.{◌++◌}
use Rattle.std.proofs.lemmas.Result.{on_ok_weaker}
use Rattle.nd_value.specs.Tree.{flat}
use Rattle.nd_flat.specs.FlatForm.{flat_seen, num_flats, row_numbers}
use Rattle.library_nodes.proofs.Adding.{closed}
use Rattle.library_nodes.proofs.Walked.{walks_from, walks_on, walks_far, walks_all}
use Rattle.library_nodes.proofs.laying.lay_all.Goals as goal

pub loop-seen-init : goal.loop-seen-init
loop-seen-init c a fs o = walks_from fs (flat c.args.walk.now) a c.args.list.now c.args.begun o

pub loop-seen-preserved : goal.loop-seen-preserved
loop-seen-preserved c a fs o =
    let w = walks_on (fs ++ flat c.args.walk.now) (flat c.loop-seen.walk) (flat c.step.new.self) (flat_seen c.in-Some.seen) a c.loop-seen.list c.add.new.list
    c.loop-seen.unfinished c.in_ok-unfinished.unfinished c.in-Some.ensures.some c.in_ok-unfinished.ensures (c.loop-seen.invariant a fs o) in
    rw c.in_default-next_row.ensures.none w

pub loop-seen-preserved-in-Some-next_row : goal.loop-seen-preserved-in-Some-next_row
loop-seen-preserved-in-Some-next_row c a fs o =
    let w = walks_on (fs ++ flat c.args.walk.now) (flat c.loop-seen.walk) (flat c.step.new.self) (flat_seen c.in-Some.seen) a c.loop-seen.list c.add.new.list
    c.loop-seen.unfinished c.in_ok-unfinished.unfinished c.in-Some.ensures.some c.in_ok-unfinished.ensures (c.loop-seen.invariant a fs o) in
    walks_far (fs ++ flat c.args.walk.now) (flat c.step.new.self) (flat c.next_row.new.walk) (num_flats (row_numbers c.in-Some-next_row.row)) a c.add.new.list c.add_row.new.list
    c.in_ok-unfinished.unfinished c.in_ok-unfinished-2.unfinished c.in-Some-next_row.ensures.some c.in_ok-unfinished-2.ensures w

pub returns : goal.returns
returns c =
    on_ok_weaker c.close.result
    (λ e a fs o.
    closed (fs ++ flat c.args.walk.now) a c.loop-seen.list c.close.new.list c.loop-seen.unfinished e c.close.ensures.numbers c.close.ensures.octets
    (walks_all (fs ++ flat c.args.walk.now) c.loop-seen.walk a c.loop-seen.list c.loop-seen.unfinished c.in_default.ensures.none (c.loop-seen.invariant a fs o)))
    c.close.ensures.nodes
