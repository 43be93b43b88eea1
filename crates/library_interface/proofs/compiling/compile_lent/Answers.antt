use Rattle.std.proofs.Common.{option_map}
use Rattle.idl_grammar.specs.Files.{seen_idl}
use Rattle.command_refusals.specs.declared.refusal.Refusal.TheVariants as refusal
use Rattle.library_interface.specs.CompiledOf.{IsCompiledOf, IsCompileFault}
use Rattle.library_interface.specs.declared.fault.CompileFault.TheVariants.{Refused}
use Rattle.library_interface.proofs.Results.{same_ok, same_err}
use Rattle.library_interface.proofs.compiling.compile_lent.Goals as goal

pub returns-in-Ok-clause-compiled : goal.returns-in-Ok-clause-compiled
returns-in-Ok-clause-compiled c held same =
    same_ok c.with_plan.result c.in-Ok.interface (IsCompiledOf held (seen_idl c.args.idl) (option_map (λ a. a.now) c.args.acf)) c.with_plan.ensures.ok (c.in-Ok.ensures.compiled held same)

pub returns-in-Ok-clause-refused : goal.returns-in-Ok-clause-refused
returns-in-Ok-clause-refused c files held same =
    same_err c.with_plan.result (Refused refusal.Memory) (IsCompileFault files held (seen_idl c.args.idl) (option_map (λ a. a.now) c.args.acf)) c.with_plan.ensures.err tt

pub returns-clause-refused : goal.returns-clause-refused
returns-clause-refused c files held same = c.in-Err.ensures.refused held same
