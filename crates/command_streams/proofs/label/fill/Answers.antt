use Rattle.std.proofs.Common.{List, ℕ, subst, arith}
use Rattle.std.specs.Io.KnownBytes.{Consumes}
use Rattle.std.proofs.lemmas.List.{take_all}
use Rattle.command_streams.proofs.label.fill.Goals as goal

pub returns-clause-taken : goal.returns-clause-taken
returns-clause-taken g c =
    let i = c.loop-came.invariant in
    let some = i.0 in
    let past = c.loop-came-test.false in
    let long = i.1.1.1 in
    subst (λ (os : List ℕ). Consumes (g.S.Source.seen c.args.input.now).left (g.S.Source.seen c.loop-came.input).left os)
    (take_all c.loop-came.came c.loop-came.octets (omega (arith, some, past, long))) i.1.0
