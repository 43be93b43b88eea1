use Rattle.std.proofs.Common.{length, ap, refl, sym, ◌∙◌}
use Rattle.nd_types.specs.Number.{spelling}
use Rattle.ndr_prim.proofs.Octets.{big_bytes-spelling, little_bytes-spelling, over_whole, pow-256}
use Rattle.ndr_prim.proofs.number.write_unsigned.Goals as goal

pub write_uint-requires-clause-fits : goal.write_uint-requires-clause-fits
write_uint-requires-clause-fits c = rw (pow-256 (length c.args.to.now)) c.requires.fits

pub write_uint-requires-in-Little-clause-fits : goal.write_uint-requires-in-Little-clause-fits
write_uint-requires-in-Little-clause-fits c = rw (pow-256 (length c.args.to.now)) c.requires.fits

pub returns-in-Big : goal.returns-in-Big
returns-in-Big c =
    over_whole _ c.write_uint.new.buf c.args.to.now _ refl c.write_uint.ensures
    ∙ big_bytes-spelling (length c.args.to.now) c.args.number
    ∙ ap (λ o. spelling o (length c.args.to.now) c.args.number) (sym c.in-Big.is)

pub returns-in-Little : goal.returns-in-Little
returns-in-Little c =
    over_whole _ c.write_uint-in-Little.new.buf c.args.to.now _ refl c.write_uint-in-Little.ensures
    ∙ little_bytes-spelling (length c.args.to.now) c.args.number
    ∙ ap (λ o. spelling o (length c.args.to.now) c.args.number) (sym c.in-Little.is)
