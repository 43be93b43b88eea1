use Rattle.std.proofs.Common.{rules, ◌≡◌, length, ap, sym, ◌∙◌}
use Rattle.ndr_prim.specs.Context.{identifier_octets}
use Rattle.ndr_prim.proofs.Contexts.{big_octets_is, little_octets_is}
use Rattle.ndr_prim.proofs.context.id_octets.Goals as goal

pub returns-in-Big : goal.returns-in-Big
returns-in-Big c =
    let wide : length c.args.id ≡ 16 = search rules in
    c.into_bytes.ensures ∙ big_octets_is c.args.id wide ∙ ap (λ o. identifier_octets o c.args.id) (sym c.in-Big.is)

pub returns-in-Little : goal.returns-in-Little
returns-in-Little c =
    let wide : length c.args.id ≡ 16 = search rules in
    c.to_bytes_le.ensures ∙ little_octets_is c.args.id wide ∙ ap (λ o. identifier_octets o c.args.id) (sym c.in-Little.is)
