use Rattle.ndr_explain.proofs.LevelPaths.{member_first}
use Rattle.ndr_explain.proofs.levels.type_of.Goals as goal

pub returns-in-Members : goal.returns-in-Members
returns-in-Members c = rw c.in-Members.is (λ h. member_first c.in-Members.members.now c.in-Members.at c.member_type.result c.member_type.ensures h)
