use Rattle.idl_names.proofs.Loads.{fault_within}
use Rattle.command_compile.proofs.Compiled.{unparsed_main}
use Rattle.command_compile.proofs.interface.tree_of.Goals as goal

pub no_file-requires : goal.no_file-requires
no_file-requires c = fault_within c.args.language c.in-Ok.tokens c.in-Err-parse.fault c.in-Err-parse.ensures.answer

pub returns-clause-fault : goal.returns-clause-fault
returns-clause-fault c =
    unparsed_main c.args.language c.args.text.now c.in-Ok.tokens c.in-Ok.ensures.text c.in-Ok.ensures.tokens c.in-Err-parse.fault c.in-Err-parse.ensures.answer
    c.no_file.result c.no_file.ensures
