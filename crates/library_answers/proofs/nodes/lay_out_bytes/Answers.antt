use Rattle.std.proofs.Common.{◌≡◌, ◌<◌, ◌≤◌, length, arith}
use Rattle.library_answers.proofs.Buffers.{rest_more, rest_all}
use Rattle.library_answers.proofs.Copies.{octets_more, octets_all}
use Rattle.library_answers.proofs.nodes.lay_out_bytes.Goals as goal

pub loop-at-preserved : goal.loop-at-preserved
loop-at-preserved c =
    let xs = c.args.numbers.now in
    let low : c.loop-at.at < length xs = omega arith in
    let wide : length c.put_octet.new.out ≡ length c.loop-at.out = c.put_octet.ensures.wide in
    let room : length xs ≤ length c.loop-at.out = c.loop-at.invariant.room in
    record {
      within = omega (arith, low);
      room = omega (arith, room, wide);
      front = octets_more xs c.loop-at.out c.put_octet.new.out c.loop-at.at low c.loop-at.invariant.front c.put_octet.ensures.front;
      rest = rest_more c.args.out.now c.loop-at.out c.put_octet.new.out c.loop-at.at c.put_octet.ensures.rest c.loop-at.invariant.rest;
    }

pub returns-clause-done : goal.returns-clause-done
returns-clause-done c ok =
    let past : length c.args.numbers.now ≤ c.loop-at.at = omega arith in
    octets_all c.args.numbers.now c.loop-at.out c.loop-at.at past c.loop-at.invariant.within c.loop-at.invariant.front

pub returns-clause-rest : goal.returns-clause-rest
returns-clause-rest c ok =
    let past : length c.args.numbers.now ≤ c.loop-at.at = omega arith in
    rest_all c.args.out.now c.loop-at.out c.loop-at.at (length c.args.numbers.now) past c.loop-at.invariant.within c.loop-at.invariant.rest
