use Rattle.std.proofs.Common.{◌≡◌, drop}
use Rattle.idl_rule_definitions.specs.Meaning.{uuid_from}
use Rattle.idl_interface.proofs.header.uuid_of.Given as goal

-- the number so far, with what is left
abbrev pub invariant-loop-octet : goal.invariant-loop-octet
invariant-loop-octet l = uuid_from l.number (drop l.octet-index l.octets) ≡ uuid_from 0 l.octets
