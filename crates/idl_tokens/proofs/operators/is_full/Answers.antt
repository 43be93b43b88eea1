use Rattle.std.proofs.Common.{◌≡◌, ◌≤◌, arith, sym}
use Rattle.idl_tokens.proofs.Signs.{none_before}
use Rattle.idl_tokens.proofs.operators.is_full.Goals as goal

pub loop-place-init : goal.loop-place-init
loop-place-init c = (sym (none_before c.args.parser.now c.args.start c.args.start (omega arith)), omega arith)
