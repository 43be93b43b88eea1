use Rattle.std.proofs.Common.{◌≡◌, ◌≤◌, ◌-◌, arith, rules}
use Rattle.library_nodes.specs.Laying.{lacking}
use Rattle.library_nodes.proofs.rows.with_more.Goals as goal

pub longer-requires : goal.longer-requires
longer-requires c =
    let e = c.in-Some-Array.elements in
    let left : c.args.more ≤ lacking c.args.unfinished.now = c.requires.fits in
    let same : lacking c.args.unfinished.now ≡ e.count - e.numbers = search rules in
    omega (arith, left, same, c.requires.some)

pub longer-requires-in-Some-Pipe : goal.longer-requires-in-Some-Pipe
longer-requires-in-Some-Pipe c =
    let e = c.in-Some-Pipe.elements in
    let left : c.args.more ≤ lacking c.args.unfinished.now = c.requires.fits in
    let same : lacking c.args.unfinished.now ≡ e.count - e.numbers = search rules in
    omega (arith, left, same, c.requires.some)
