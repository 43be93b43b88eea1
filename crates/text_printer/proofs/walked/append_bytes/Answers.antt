use Rattle.std.proofs.Common.{◌≡◌, ◌+◌, subst, refl, arith}
use Rattle.text_printer.specs.Walks.{WritesBytes}
use Rattle.text_printer.proofs.Walking.{no_bytes}
use Rattle.text_printer.proofs.RowTexts.{bytes_on}
use Rattle.text_printer.proofs.walked.append_bytes.Goals as goal

pub loop-turn-init : goal.loop-turn-init
loop-turn-init c = record { turns = omega arith; most = omega arith; written = no_bytes c.args.text.now c.args.walk.now }

pub loop-turn-preserved : goal.loop-turn-preserved
loop-turn-preserved c =
    let l = c.loop-turn.invariant in record {
      turns = omega (arith, l.turns, c.in_ok-some.ensures.some);
      most = omega (arith, l.most, c.in_ok-some.ensures.most);
      written =
          bytes_on c.loop-turn.done c.in_ok-some.some (c.loop-turn.done + c.in_ok-some.some) c.args.text.now c.loop-turn.text c.append_some_bytes.new.text
          c.args.walk.now c.loop-turn.walk c.append_some_bytes.new.walk refl l.written c.in_ok-some.ensures.text;
    }

pub returns : goal.returns
returns c =
    let l = c.loop-turn.invariant in
    let same : c.loop-turn.done ≡ c.args.count = omega (arith, l.turns, l.most, c.loop-turn-test.false) in
    subst (λ n. WritesBytes n c.args.text.now c.args.walk.now c.loop-turn.text c.loop-turn.walk) same l.written
