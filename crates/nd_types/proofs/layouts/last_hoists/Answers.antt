use Rattle.std.proofs.Common.{◌∙◌, sym, ap}
use Rattle.std.specs.Option.{option_copied}
use Rattle.nd_types.specs.Rounds.{hoists_in}
use Rattle.nd_types.proofs.LastMember.{last_by}
use Rattle.nd_types.proofs.layouts.last_hoists.Goals as goal

pub returns-in-Some : goal.returns-in-Some
returns-in-Some c =
    let found = sym (ap option_copied c.in-Some.is) ∙ c.last.ensures.value in
    c.hoists_in.ensures ∙ sym (last_by (hoists_in c.args.layouts.now) c.args.members.now c.in-Some.member.now (sym found))
