use Rattle.std.proofs.Common.{[]}
use Rattle.library_interface.specs.Held.{content_under}
use Rattle.library_interface.proofs.Loaded.{compiled_of, cause_of}
use Rattle.library_interface.proofs.compiling.compile_interface.Goals as goal

pub returns-in-Ok-clause-compiled : goal.returns-in-Ok-clause-compiled
returns-in-Ok-clause-compiled c held same = compiled_of (content_under c.args.lent.now) held same _ _ _ _ _ _ c.in-Ok.ensures.ok

pub returns-in-Err-clause-refused : goal.returns-in-Err-clause-refused
returns-in-Err-clause-refused c held same = cause_of (content_under c.args.lent.now) held same _ _ [] [] _ _ c.in-Err.ensures.err
