use Rattle.command_line.specs.declared.command.Reading.TheVariants.{Decode, Explain, Trace, Drain}
use Rattle.dceidl.proofs.Labels.{made_reading}
use Rattle.dceidl.proofs.reading.read_values.Goals as goal

pub returns-in-Decode-clause-done : goal.returns-in-Decode-clause-done
returns-in-Decode-clause-done g c o there =
    made_reading _ _ _ _ c.args.how Decode c.in-Decode.is c.print_octets.result (c.print_octets.ensures.printed o there)

pub returns-in-Drain-clause-done : goal.returns-in-Drain-clause-done
returns-in-Drain-clause-done g c o there =
    made_reading _ _ _ _ c.args.how Drain c.in-Drain.is c.drain_octets.result (c.drain_octets.ensures.printed o there)

pub returns-in-Explain-clause-done : goal.returns-in-Explain-clause-done
returns-in-Explain-clause-done g c o there =
    made_reading _ _ _ _ c.args.how Explain c.in-Explain.is c.explain_octets.result (c.explain_octets.ensures.explained o there)

pub returns-in-Trace-clause-done : goal.returns-in-Trace-clause-done
returns-in-Trace-clause-done g c o there =
    made_reading _ _ _ _ c.args.how Trace c.in-Trace.is c.traced_alone.result (c.traced_alone.ensures.explained o there)
