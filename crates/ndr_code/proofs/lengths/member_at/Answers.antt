use Rattle.std.proofs.Common.{◌≡◌, Some, rules, slice_get, sym}
use Rattle.ndr_code.proofs.lengths.member_at.Goals as goal

pub returns-in-Some : goal.returns-in-Some
returns-in-Some c =
    let got : slice_get c.args.fields.now c.args.at ≡ Some c.in-Some.field = search rules in sym (c.requires c.args.at c.in-Some.field got)
