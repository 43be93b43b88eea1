use Rattle.ndr_code.specs.declared.instr.Instr.TheVariants as op
use Rattle.ndr_decoder_fast.proofs.ElementsTaken.{address_fits}
use Rattle.ndr_decoder_fast.proofs.leaping.leap_elements.Goals as goal

pub begins_with_pointer-requires : goal.begins_with_pointer-requires
begins_with_pointer-requires g c = record { code = address_fits c.args.code.now c.args.machine.now.pc (op.Record c.args.members) c.requires.here c.requires.short }
