use Rattle.std.proofs.Common.{◌∷◌, ◌++◌, ap, ◌∙◌}
use Rattle.nd_value.specs.Seen.{cell_number}
use Rattle.nd_value.specs.Tree.{flat}
use Rattle.ndr_encoder_laws.specs.pieces.Pieces.{Name}
use Rattle.ndr_encoder_laws.specs.written.Run.{here}
use Rattle.ndr_encoder_output.specs.Structs.{member_pieces}
use Rattle.ndr_encoder_output.specs.declared.members.Member.TheVariants.{Pointer}
use Rattle.ndr_encoder_value.proofs.Going.{able_from, able_on, moves_from, moves_on}
use Rattle.ndr_encoder_value.proofs.plain.write_plain_member.Goals as goal

pub name-requires : goal.name-requires
name-requires g c =
    let f = here (flat c.args.nodes.now) in
    let qs = c.requires.0 in (
      qs,
      able_on g.O.Output.can g.O.Output.whole _ _ _ _ (c.gap.ensures (Name (cell_number c.in-Some-pointer.cell) c.in-Pointer.run' ∷ qs))
          (able_from g.O.Output.can g.O.Output.whole _ _ _
          (ap (λ x. member_pieces x f ++ qs) c.in-Pointer.is ∙ ap (λ fs. member_pieces (Pointer c.in-Pointer.run') (here fs) ++ qs) c.in-Some-pointer.ensures.some) c.requires.1),
    )

pub returns-in_ok-name-in-Pointer-clause-written : goal.returns-in_ok-name-in-Pointer-clause-written
returns-in_ok-name-in-Pointer-clause-written g c done qs =
    let f = here (flat c.args.nodes.now) in
    moves_from g.O.Output.can g.O.Output.whole _ _ _ _ _
    (ap (λ x. member_pieces x f ++ qs) c.in-Pointer.is ∙ ap (λ fs. member_pieces (Pointer c.in-Pointer.run') (here fs) ++ qs) c.in-Some-pointer.ensures.some)
    (moves_on g.O.Output.can g.O.Output.whole _ _ _ _ _ _ (c.gap.ensures (Name (cell_number c.in-Some-pointer.cell) c.in-Pointer.run' ∷ qs))
    (c.in_ok-name-in-Pointer.ensures.moves qs))
