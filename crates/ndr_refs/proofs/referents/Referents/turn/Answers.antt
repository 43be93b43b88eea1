use Rattle.std.proofs.Common.{◌∙◌, sym}
use Rattle.ndr_refs.proofs.Turns.{turned}
use Rattle.ndr_refs.proofs.referents.Referents.turn.Goals as goal

pub returns : goal.returns
returns c =
    let index = c.get_index_of.ensures in
    turned c.args.number c.self.inside.entries.entries c.args.self.now c.in-Some.at _ c.pair_mut-known.result.1.now c.self.view_is (sym index.index ∙ c.in-Some.is)
    (rw c.in-Some.is at index.value) c.pair_mut-known.ensures.value
