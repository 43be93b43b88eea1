use Rattle.std.proofs.Common.{◌-◌}
use Rattle.nd_value.specs.Tree.{flat}
use Rattle.ndr_encoder_output.specs.Outputs.{Moves}
use Rattle.ndr_encoder_value.specs.Elements.{elements_pieces}
use Rattle.ndr_encoder_value.proofs.struct_arrays.write_elements.Given as goal

abbrev pub invariant-loop-at : goal.invariant-loop-at
invariant-loop-at g l =
    Moves g.O.Output.can g.O.Output.whole l.initial.out l.out (elements_pieces l.of l.count (flat l.initial.walk)) (elements_pieces l.of (l.count - l._at) (flat l.walk))
