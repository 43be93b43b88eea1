use Rattle.std.proofs.Common.{option_map}
use Rattle.idl_grammar.specs.Files.{seen_idl}
use Rattle.nd_base.specs.Over.{files_over}
use Rattle.command_compile.specs.Compiled.{FileNames}
use Rattle.dceidl.proofs.compared.compared.Goals as goal

pub returns-in-Err-clause-outcome : goal.returns-in-Err-clause-outcome
returns-in-Err-clause-outcome g c =
    let f = files_over g.F.Files.seen c.args.files.now c.compat_why.new.files in
    let old : FileNames = record { idl = seen_idl c.args.versions.old; acf = option_map (λ a. a.now) c.args.versions.old_acf } in
    let new : FileNames = record { idl = seen_idl c.args.versions.new; acf = option_map (λ a. a.now) c.args.versions.new_acf } in
    c.incompatible.ensures f old new c.in-Err.ensures.refused
