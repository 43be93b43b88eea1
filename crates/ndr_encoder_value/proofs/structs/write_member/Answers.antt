use Rattle.std.proofs.Common.{◌∷◌, ◌++◌, ap}
use Rattle.nd_value.specs.Tree.{flat, cell_in}
use Rattle.ndr_encoder_laws.specs.pieces.Pieces.{Name}
use Rattle.ndr_encoder_laws.specs.written.Run.{here}
use Rattle.ndr_encoder_output.specs.Structs.{member_pieces}
use Rattle.ndr_encoder_value.proofs.Going.{able_from, able_on, moves_from, moves_on}
use Rattle.ndr_encoder_value.proofs.structs.write_member.Goals as goal

pub pointer-requires : goal.pointer-requires
pointer-requires g c =
    let f = here (flat c.args.walk.now) in
    let qs = c.requires.0 in (
      qs,
      able_on g.O.Output.can g.O.Output.whole _ _ _ _ (c.gap.ensures (Name (cell_in f.0) c.in-Pointer.run' ∷ qs))
          (able_from g.O.Output.can g.O.Output.whole _ _ _ (ap (λ x. member_pieces x f ++ qs) c.in-Pointer.is) c.requires.1),
    )

pub returns-in_ok-pointer-in-Pointer-clause-written :
    goal.returns-in_ok-pointer-in-Pointer-clause-written
returns-in_ok-pointer-in-Pointer-clause-written g c = λ qs.
    let f = here (flat c.args.walk.now) in
    moves_from g.O.Output.can g.O.Output.whole _ _ _ _ _ (ap (λ x. member_pieces x f ++ qs) c.in-Pointer.is)
    (moves_on g.O.Output.can g.O.Output.whole _ _ _ _ _ _ (c.gap.ensures (Name (cell_in f.0) c.in-Pointer.run' ∷ qs)) (c.in_ok-pointer-in-Pointer.ensures.written qs))
