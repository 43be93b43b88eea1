use Rattle.std.proofs.Common.{ℕ, ◌+◌, List, ◌∷◌, length, ap, sym, ◌∙◌}
use Rattle.nd_value.specs.Tree.{flat}
use Rattle.ndr_encoder_laws.specs.pieces.Pieces.{Raw, four}
use Rattle.ndr_encoder_laws.specs.written.Run.{here, octets_in}
use Rattle.ndr_encoder_value.proofs.Going.{able_from, able_on, moves_from, moves_on}
use Rattle.ndr_encoder_value.proofs.writing.text.Goals as goal

pub text-requires : goal.text-requires
text-requires g c =
    let os : List ℕ = octets_in (here (flat c.args.walk.now)).0 in
    let qs = c.requires.0 in (
      qs,
      able_from g.O.Output.can g.O.Output.whole _ _ _ (ap (λ o. four (length o + 1) ∷ Raw o ∷ qs) (sym (c.octets_of.ensures ∙ ap (λ f. octets_in f.0) c.next_node-node.ensures.node)))
          (able_on g.O.Output.can g.O.Output.whole _ _ _ _ (c.four.ensures (four (length os + 1) ∷ Raw os ∷ qs)) c.requires.1),
    )

pub returns-clause-written : goal.returns-clause-written
returns-clause-written g c = λ qs.
    let os : List ℕ = octets_in (here (flat c.args.walk.now)).0 in
    moves_on g.O.Output.can g.O.Output.whole _ _ _ _ _ _ (c.four.ensures (four (length os + 1) ∷ Raw os ∷ qs))
    (moves_from g.O.Output.can g.O.Output.whole _ _ _ _ _ (ap (λ o. four (length o + 1) ∷ Raw o ∷ qs) (sym (c.octets_of.ensures ∙ ap (λ f. octets_in f.0) c.next_node-node.ensures.node)))
    (c.text.ensures qs))
