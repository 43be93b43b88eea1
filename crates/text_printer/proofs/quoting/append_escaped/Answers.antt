use Rattle.std.proofs.Common.{◌≡◌, ◌+◌, length, Some, slice_get, refl, arith}
use Rattle.std.proofs.lemmas.Option.{slice_get_read}
use Rattle.std.proofs.lemmas.Result.{on_ok_weaker}
use Rattle.text_printer.proofs.Characters.{plain_none, plain_more, piece_then, all_written}
use Rattle.text_printer.proofs.quoting.append_escaped.Goals as goal

pub loop-at-preserved-then-is_plain : goal.loop-at-preserved-then-is_plain
loop-at-preserved-then-is_plain c =
    let l = c.loop-at.invariant in
    let x = c.in-Some.octet.now in
    let there : slice_get c.args.octets.now c.loop-at.at ≡ Some x = slice_get_read c.args.octets.now _ c.loop-at.at x refl c.in-Some.ensures.lookup.3.0 c.in-Some.ensures.lookup.1 in
    record {
      within = omega (arith, l.within);
      plain = plain_more c.args.octets.now c.loop-at.from c.loop-at.at x l.within there (c.is_plain.ensures c.if-is_plain.true) l.plain;
      written = l.written;
    }

pub loop-at-preserved : goal.loop-at-preserved
loop-at-preserved c =
    let l = c.loop-at.invariant in
    let x = c.in-Some.octet.now in
    let there : slice_get c.args.octets.now c.loop-at.at ≡ Some x = slice_get_read c.args.octets.now _ c.loop-at.at x refl c.in-Some.ensures.lookup.3.0 c.in-Some.ensures.lookup.1 in
    record {
      within = omega arith;
      plain = plain_none c.args.octets.now (c.loop-at.at + 1);
      written =
          piece_then c.args.octets.now c.loop-at.from c.loop-at.at x c.args.text.now c.loop-at.text c.append.new.self c.append_character.new.text l.within there l.plain l.written
          c.in_ok-append.ensures.ok c.in_ok-append_character.ensures;
    }

pub returns : goal.returns
returns c =
    let l = c.loop-at.invariant in
    let same : length c.args.octets.now ≡ c.loop-at.at = omega (arith, c.loop-at-test.false, c.loop-at.auto.at-end) in
    on_ok_weaker c.append-2.result
    (λ e. all_written c.args.octets.now c.loop-at.from c.loop-at.at (length c.args.octets.now) c.args.text.now c.loop-at.text c.append-2.new.self
    l.within same (omega (arith, same)) l.plain l.written e)
    c.append-2.ensures.ok
