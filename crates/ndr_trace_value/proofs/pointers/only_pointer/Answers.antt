use Rattle.std.proofs.Common.{◌∙◌, ap, sym}
use Rattle.nd_types.specs.declared.types.Class.{Class}
use Rattle.ndr_trace_value.specs.Naming.{only_spot}
use Rattle.ndr_trace_value.proofs.NamedCells.{spot_is}
use Rattle.ndr_trace_value.proofs.pointers.only_pointer.Goals as goal

pub returns-in_ok-at-in-Ref : goal.returns-in_ok-at-in-Ref
returns-in_ok-at-in-Ref c k u sp =
    spot_is k c.in_ok-at-in-Ref.at c.args.spot.now.home c.args.node c.in_ok-at-in-Ref.ensures.home c.in_ok-at-in-Ref.ensures.node (c.in_ok-at-in-Ref.ensures.variable k u c.args.node sp)
    ∙ ap (λ (x : Class). only_spot k x c.args.spot.now.home c.args.node) (sym c.in-Ref.is)

pub returns-in_ok-at-in-Unique : goal.returns-in_ok-at-in-Unique
returns-in_ok-at-in-Unique c k u sp =
    spot_is k c.in_ok-at-in-Unique.at c.args.spot.now.home c.args.node c.in_ok-at-in-Unique.ensures.home c.in_ok-at-in-Unique.ensures.node (c.in_ok-at-in-Unique.ensures.variable k u c.args.node sp)
    ∙ ap (λ (x : Class). only_spot k x c.args.spot.now.home c.args.node) (sym c.in-Unique.is)

pub returns-in-Full : goal.returns-in-Full
returns-in-Full c k u sp = ap (λ (x : Class). only_spot k x c.args.spot.now.home c.args.node) (sym c.in-Full.is)
