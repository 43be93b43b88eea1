use Rattle.std.proofs.Common.{option_map}
use Rattle.idl_grammar.specs.Files.{seen_idl}
use Rattle.nd_base.specs.Over.{files_over}
use Rattle.command_compile.specs.Compiled.{FileNames}
use Rattle.command_compile.proofs.Explained.{incompatible}
use Rattle.command_compile.proofs.places.compat_why.Goals as goal

pub returns-clause-refused : goal.returns-clause-refused
returns-clause-refused g c =
    let f = files_over g.F.Files.seen c.args.files.now c.compile_both.new.files in
    let old : FileNames = record { idl = seen_idl c.args.old; acf = option_map (λ a. a.now) c.args.old_acf } in
    let new : FileNames = record { idl = seen_idl c.args.new; acf = option_map (λ a. a.now) c.args.new_acf } in
    let v = c.in-Ok.versions in
    incompatible f old new v.older v.newer c.in-Ok.ensures.compiled c.explained.result c.in-Err-answer.refusal c.in-Err-answer.ensures.refused
    (c.explained.ensures c.in-Err-answer.ensures.refused)
