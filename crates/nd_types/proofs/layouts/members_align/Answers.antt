use Rattle.std.proofs.Common.{◌∙◌, sym, ap, max, map, drop, ◌+◌, arith}
use Rattle.std.proofs.Math.Nat.{le-max_right}
use Rattle.nd_types.specs.Layout.{largest}
use Rattle.nd_types.specs.Rounds.{align_in}
use Rattle.nd_types.proofs.Largest.{one_max, some_largest, member_more, member_end}
use Rattle.nd_types.proofs.layouts.members_align.Goals as goal

pub loop-member-init : goal.loop-member-init
loop-member-init c =
    let all = map (λ f. align_in c.args.layouts.now f.of.0) c.args.members.now in
    record { some = omega arith; all = one_max (largest all) (some_largest all) }

pub loop-member-preserved : goal.loop-member-preserved
loop-member-preserved c =
    let l = c.loop-member in
    let known = c.args.layouts.now in
    let m = c.member-item.result in
    record {
      some = let more = le-max_right (align_in known m.of.0) l.align in omega (arith, c.larger-align.ensures, more, c.align_in.ensures, l.invariant.some);
      all =
          ap (λ n. max n (largest (map (λ f. align_in known f.of.0) (drop (l.member-index + 1) c.args.members.now))))
          (c.larger-align.ensures ∙ ap (λ n. max n l.align) c.align_in.ensures)
          ∙ member_more (λ f. align_in known f.of.0) c.args.members.now l.member-index m l.align c.loop-member-test.true c.member-item.is
          ∙ l.invariant.all;
    }

pub returns : goal.returns
returns c =
    let l = c.loop-member in
    sym (member_end (λ f. align_in c.args.layouts.now f.of.0) c.args.members.now l.member-index l.align l.invariant.some (omega arith)) ∙ l.invariant.all
