use Rattle.std.proofs.Common.{ap, sym, ◌∙◌}
use Rattle.uuid.specs.Parts.{swap_fields}
use Rattle.ndr_prim.specs.Context.{identifier}
use Rattle.ndr_prim.proofs.Contexts.{big_identifier_is, little_identifier_is}
use Rattle.ndr_prim.proofs.context.read_id.Goals as goal

pub returns-in-Big : goal.returns-in-Big
returns-in-Big c =
    c.from_bytes.ensures ∙ c.copy_from_slice.ensures.after ∙ big_identifier_is c.args.from.now c.requires
    ∙ ap (λ o. identifier o c.args.from.now) (sym c.in-Big.is)

pub returns-in-Little : goal.returns-in-Little
returns-in-Little c =
    c.from_bytes_le.ensures ∙ ap swap_fields c.copy_from_slice.ensures.after ∙ little_identifier_is c.args.from.now c.requires
    ∙ ap (λ o. identifier o c.args.from.now) (sym c.in-Little.is)
