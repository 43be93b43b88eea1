use Rattle.std.proofs.Common.{ap, subst}
use Rattle.idl_compat.specs.Comparison.{IsCompared}
use Rattle.command_compile.specs.Compat.{fault_of}
use Rattle.command_compile.proofs.Parts.{answered, difference_refused}
use Rattle.library_calls.proofs.comparing.verdict.Goals as goal

pub returns-in-Yes-clause-compatible : goal.returns-in-Yes-clause-compatible
returns-in-Yes-clause-compatible c = λ j h. (_, subst (IsCompared c.args.older.now j) c.in-Yes.is h)

pub returns-in-OtherUuid-clause-refused : goal.returns-in-OtherUuid-clause-refused
returns-in-OtherUuid-clause-refused c =
    let i = c.args.older.now in
    λ j h. answered i j c.args.compared.now h _ (ap (fault_of i) c.in-OtherUuid.is)

pub returns-in-OtherMajor-clause-refused : goal.returns-in-OtherMajor-clause-refused
returns-in-OtherMajor-clause-refused c =
    let i = c.args.older.now in
    λ j h. answered i j c.args.compared.now h _ (ap (fault_of i) c.in-OtherMajor.is)

pub returns-in-OlderMinor-clause-refused : goal.returns-in-OlderMinor-clause-refused
returns-in-OlderMinor-clause-refused c =
    let i = c.args.older.now in
    λ j h. answered i j c.args.compared.now h _ (ap (fault_of i) c.in-OlderMinor.is)

pub returns-in-Fewer-clause-refused : goal.returns-in-Fewer-clause-refused
returns-in-Fewer-clause-refused c =
    let i = c.args.older.now in
    λ j h. answered i j c.args.compared.now h _ (ap (fault_of i) c.in-Fewer.is)

pub difference-requires : goal.difference-requires
difference-requires c = (subst (IsCompared c.args.older.now c.requires.0) c.in-Differs.is c.requires.1).first.is_there

pub returns-in-Differs-clause-refused : goal.returns-in-Differs-clause-refused
returns-in-Differs-clause-refused c =
    let i = c.args.older.now in
    λ j h. difference_refused i j c.in-Differs.op (subst (IsCompared i j) c.in-Differs.is h) c.difference.result c.difference.ensures
