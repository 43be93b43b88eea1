use Rattle.std.proofs.Common.{None}
use Rattle.library_interface.specs.Named.{named_after, HasBadName}
use Rattle.library_interface.proofs.Results.{any_ok}
use Rattle.library_interface.proofs.compiling.compile_files.Goals as goal

pub returns-in-Ok-clause-compiled : goal.returns-in-Ok-clause-compiled
returns-in-Ok-clause-compiled c = c.compile_lent.ensures.compiled (λ name. named_after c.args.files.now name None) c.in-Ok.ensures.held

pub returns-in-Ok-clause-refused : goal.returns-in-Ok-clause-refused
returns-in-Ok-clause-refused c = c.compile_lent.ensures.refused c.args.files.now (λ name. named_after c.args.files.now name None) c.in-Ok.ensures.held

pub returns-in-Ok-clause-good : goal.returns-in-Ok-clause-good
returns-in-Ok-clause-good c = any_ok c.compile_lent.result (HasBadName c.args.files.now → ⊥) c.in-Ok.ensures.good
