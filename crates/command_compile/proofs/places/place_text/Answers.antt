use Rattle.std.proofs.Common.{subst}
use Rattle.idl_compat_place.specs.Differences.{IsFound}
use Rattle.command_compile.proofs.Explained.{lines_of}
use Rattle.command_compile.proofs.places.place_text.Goals as goal

pub returns-in-Some : goal.returns-in-Some
returns-in-Some c = λ k f.
    lines_of c.args.older.now c.args.newer.now c.in-Some.difference (subst (IsFound c.args.older.now c.args.newer.now) c.in-Some.is c.in_ok-difference.ensures)
    c.difference_lines.result c.difference_lines.ensures
