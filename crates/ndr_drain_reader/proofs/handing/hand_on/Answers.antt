use Rattle.std.proofs.Common.{◌∙◌}
use Rattle.ndr_drain_reader.proofs.Handed.{hands_err, noted_more, some_noted}
use Rattle.ndr_drain_reader.proofs.handing.hand_on.Goals as goal

pub returns-in_default-after_nodes : goal.returns-in_default-after_nodes
returns-in_default-after_nodes c = some_noted c.args.before c.loop-at.at c.args.own.now.items c.args.items.now c.loop-at.items c.loop-at.invariant

pub returns-in_err-note : goal.returns-in_err-note
returns-in_err-note c =
    hands_err c.args.before c.args.own.now.items c.args.items.now c.note.new.self _ c.from_residual.result c.from_residual.ensures.1
    (some_noted c.args.before c.loop-at.at c.args.own.now.items c.args.items.now c.note.new.self (c.in_err-note.ensures.err ∙ c.loop-at.invariant))

pub loop-at-preserved : goal.loop-at-preserved
loop-at-preserved c =
    noted_more c.args.before c.loop-at.at c.args.own.now.items c.args.items.now c.loop-at.items c.loop-at.invariant c.in-Some.item.now c.in-Some-after_nodes.moved c.in-Some.ensures.some
    c.in-Some-after_nodes.ensures c.note.new.self
    c.in_ok-note.ensures.ok
