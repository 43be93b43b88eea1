use Rattle.idl_interface.proofs.UuidDigits.{next_fits}
use Rattle.idl_interface.proofs.header.uuid_of.Goals as goal

pub with_octet-number-requires : goal.with_octet-number-requires
with_octet-number-requires c =
    next_fits c.loop-octet.number c.loop-octet.octet-index c.args.octets.now c.requires c.loop-octet-test.true c.loop-octet.invariant
