use Rattle.std.proofs.Common.{ap, sym, ◌∙◌}
use Rattle.nd_types.specs.Number.{unsigned}
use Rattle.ndr_prim.proofs.Octets.{big_number-whole, little_number-whole}
use Rattle.ndr_decoder_state.proofs.octets.read_count.Goals as goal

pub returns-in-Big : goal.returns-in-Big
returns-in-Big c =
    c.read_u32.ensures ∙ big_number-whole 4 c.args.from.now c.requires ∙ ap (λ o. unsigned o c.args.from.now) (sym c.in-Big.is)

pub returns-in-Little : goal.returns-in-Little
returns-in-Little c =
    c.read_u32-in-Little.ensures ∙ little_number-whole 4 c.args.from.now c.requires ∙ ap (λ o. unsigned o c.args.from.now) (sym c.in-Little.is)
