-- The faults of an intake, as a drain answers them.
use Rattle.ndr_decoder_state.specs.declared.fault.DecodeFault.{DecodeFault}
use Rattle.ndr_decoder_state.specs.declared.fault.DecodeFault.TheVariants as decode
use Rattle.ndr_drain.specs.declared.fault.DrainFault.{DrainFault}
use Rattle.ndr_drain.specs.declared.fault.DrainFault.TheVariants as fault

abbrev pub fault_of : DecodeFault → DrainFault
fault_of decode.Memory = fault.Memory
fault_of decode.ReadFault = fault.ReadFault
fault_of (decode.Bad place why) = fault.Bad place why
