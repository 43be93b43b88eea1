use Rattle.std.proofs.Common.{rules, ap, subst}
use Rattle.idl_compat.specs.Comparison.{IsCompared}
use Rattle.command_compile.specs.Compat.{fault_of}
use Rattle.command_compile.proofs.Parts.{answered, difference_refused}
use Rattle.command_compile.proofs.versions.answer.Goals as goal
use Rattle.command_compile.proofs.versions.answer.Goals.{in-Yes+in_ok-line-in-Yes, in-OtherUuid, in-OtherMajor, in-OlderMinor, in-Fewer, in-Differs}

pub returns-clause-refused : goal.returns-clause-refused
returns-clause-refused c =
    let i = c.args.older.now in
    let j = c.args.newer.now in
    let d = c.in_ok-compare.field-0 in
    let compared = c.in_ok-compare.ensures.compared in
    elim c.match-branch-2.branch [
      | in-Yes+in_ok-line-in-Yes w ↦ rw w.result-is (search rules)
      | in-OtherUuid w ↦ rw w.result-is (answered i j d compared _ (ap (fault_of i) w.in-OtherUuid.is))
      | in-OtherMajor w ↦ rw w.result-is (answered i j d compared _ (ap (fault_of i) w.in-OtherMajor.is))
      | in-OlderMinor w ↦ rw w.result-is (answered i j d compared _ (ap (fault_of i) w.in-OlderMinor.is))
      | in-Fewer w ↦ rw w.result-is (answered i j d compared _ (ap (fault_of i) w.in-Fewer.is))
      | in-Differs w ↦ rw w.result-is (
          difference_refused i j w.in-Differs.op (subst (IsCompared i j) w.in-Differs.is compared) w.difference.result w.difference.ensures
          )
    ]
