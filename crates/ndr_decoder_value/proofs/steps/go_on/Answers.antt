use Rattle.ndr_decoder_value.proofs.steps.go_on.Goals as goal

pub returns-else-reads_octets-clause-noted : goal.returns-else-reads_octets-clause-noted
returns-else-reads_octets-clause-noted g c = c.act.ensures.noted c.args.values.now c.args.order c.args.octets.now
