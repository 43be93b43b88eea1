use Rattle.std.proofs.Common.{◌+◌, ◌≤◌, ◌<◌, length, arith}
use Rattle.ndr_explain.proofs.LevelPaths.{members_over, some_members, member_types_on, member_paths_on}
use Rattle.ndr_explain.proofs.LevelPlaces.{member_places_on, member_places_over}
use Rattle.ndr_explain.proofs.levels.member_after.Goals as goal

pub returns-then-next-len-clause-is : goal.returns-then-next-len-clause-is
returns-then-next-len-clause-is c =
    let last : length c.args.members.now ≤ c.args.at + 1 = omega arith in
    members_over c.args.members.now c.args.at last

pub returns-then-at-len-clause-places : goal.returns-then-at-len-clause-places
returns-then-at-len-clause-places c =
    let last : length c.args.members.now ≤ c.args.at + 1 = omega arith in
    member_places_over c.args.members.now c.args.at last

pub returns-then-next-len-clause-places : goal.returns-then-next-len-clause-places
returns-then-next-len-clause-places c =
    let last : length c.args.members.now ≤ c.args.at + 1 = omega arith in
    member_places_over c.args.members.now c.args.at last

pub returns-clause-is : goal.returns-clause-is
returns-clause-is c =
    let fs = c.args.members.now in
    let i = c.args.at in
    let more : i + 1 < length fs = omega arith in
    ((some_members fs (i + 1) more, member_types_on fs i), λ p. member_paths_on p fs i)

pub returns-clause-places : goal.returns-clause-places
returns-clause-places c = member_places_on c.args.members.now c.args.at
