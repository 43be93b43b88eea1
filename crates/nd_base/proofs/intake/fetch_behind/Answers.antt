use Rattle.std.proofs.Common.{◌≡◌, ◌≤◌, ◌+◌, ◌-◌, length, take, arith, rules}
use Rattle.nd_base.proofs.Taken.{came_behind}
use Rattle.std.proofs.lemmas.List.{length-take-le as came_long}
use Rattle.nd_base.proofs.intake.fetch_behind.Goals as goal

pub returns-in-Ok-clause-came : goal.returns-in-Ok-clause-came
returns-in-Ok-clause-came g c =
    let wide : length c.fetch.new.buf ≡ c.args.len + c.args.room - c.args.len = search rules in
    let few : c.in-Ok.came ≤ length c.fetch.new.buf = search rules in
    let within : c.args.len ≤ length c.args.buffer.now = omega (arith, c.requires.within) in (
      take c.in-Ok.came c.fetch.new.buf,
      (
        came_long c.in-Ok.came c.fetch.new.buf few,
        (
          c.in-Ok.ensures.octets.0,
          came_behind c.args.len (c.args.len + c.args.room - c.args.len) c.in-Ok.came c.args.buffer.now c.fetch.new.buf within few,
        ),
      ),
    )
