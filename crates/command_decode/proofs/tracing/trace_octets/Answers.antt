use Rattle.command_decode.proofs.tracing.trace_octets.Goals as goal
