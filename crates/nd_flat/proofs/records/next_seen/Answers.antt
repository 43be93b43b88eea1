use Rattle.std.proofs.Common.{ap, ◌∙◌, ◌∷◌, ◌<◌, ◌≤◌, arith, rules}
use Rattle.std.proofs.lemmas.Int.{to_z-of_z}
use mir.Val.{SFits}
use mir.Syntax.{w128}
use Rattle.nd_value.specs.Tree as tree
use Rattle.nd_flat.specs.Records.{records_left}
use Rattle.nd_flat.proofs.RecordLaws.{member_there, next_there, number_seen, struct_seen}
use Rattle.nd_flat.proofs.records.next_seen.Goals as goal

pub next_number-number-requires-clause-there : goal.next_number-number-requires-clause-there
next_number-number-requires-clause-there c =
    let h = c.if-next-len.true in
    member_there c.args.octets.now c.args.records.now c.requires.there (omega (arith, h))

pub pass_member-requires-clause-there : goal.pass_member-requires-clause-there
pass_member-requires-clause-there c =
    let h = c.if-next-len.true in
    member_there c.args.octets.now c.args.records.now c.requires.there (omega (arith, h))

pub returns-then-next-len-clause-there : goal.returns-then-next-len-clause-there
returns-then-next-len-clause-there c =
    let h = c.if-next-len.true in
    let l : c.args.records.now.next < c.args.records.now.members.len = omega (arith, h) in
    (number_seen c.args.octets.now c.args.records.now c.pass_member.new.records c.next_number-number.result c.requires.there l c.pass_member.ensures c.next_number-number.ensures).0

pub returns-then-next-len-clause-next : goal.returns-then-next-len-clause-next
returns-then-next-len-clause-next c =
    let h = c.if-next-len.true in
    let l : c.args.records.now.next < c.args.records.now.members.len = omega (arith, h) in
    let z = c.next_number-number.result in
    let fits : SFits w128 z = search rules in
    ap (λ y. (tree.Num y, 0) ∷ records_left c.args.octets.now c.pass_member.new.records) (to_z-of_z w128 z fits)
    ∙ (number_seen c.args.octets.now c.args.records.now c.pass_member.new.records z c.requires.there l c.pass_member.ensures c.next_number-number.ensures).1

pub begin_next-requires-clause-some : goal.begin_next-requires-clause-some
begin_next-requires-clause-some c =
    let h = c.if-next-len.false in
    c.requires.some (omega (arith, h))

pub begin_next-requires-clause-there : goal.begin_next-requires-clause-there
begin_next-requires-clause-there c =
    let h = c.if-next-len.false in
    next_there c.args.octets.now c.args.records.now c.requires.there (c.requires.some (omega (arith, h)))

pub returns-clause-there : goal.returns-clause-there
returns-clause-there c =
    let h = c.if-next-len.false in
    let over : c.args.records.now.members.len ≤ c.args.records.now.next = omega (arith, h) in
    (struct_seen c.args.octets.now c.args.records.now c.begin_next.new.records c.requires.there over (c.requires.some over) c.begin_next.ensures).0

pub returns-clause-next : goal.returns-clause-next
returns-clause-next c =
    let h = c.if-next-len.false in
    let over : c.args.records.now.members.len ≤ c.args.records.now.next = omega (arith, h) in
    (struct_seen c.args.octets.now c.args.records.now c.begin_next.new.records c.requires.there over (c.requires.some over) c.begin_next.ensures).1
