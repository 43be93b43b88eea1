use Rattle.std.proofs.Common.{option_map}
use Rattle.idl_grammar.specs.Files.{seen_idl}
use Rattle.nd_base.specs.Over.{files_over}
use Rattle.command_compile.specs.Compiled.{FileNames}
use Rattle.command_compile.proofs.Parts.{compared_done, compared_refused}
use Rattle.command_compile.proofs.versions.compat.Goals as goal

pub returns-clause-done : goal.returns-clause-done
returns-clause-done g c =
    let f = files_over g.F.Files.seen c.args.files.now c.compile_both.new.files in
    let old : FileNames = record { idl = seen_idl c.args.old; acf = option_map (λ a. a.now) c.args.old_acf } in
    let new : FileNames = record { idl = seen_idl c.args.new; acf = option_map (λ a. a.now) c.args.new_acf } in
    let v = c.in_ok-versions.versions in
    compared_done f old new v.older v.newer c.in_ok-versions.ensures.compiled c.answer.result c.answer.ensures.done

pub returns-clause-refused : goal.returns-clause-refused
returns-clause-refused g c =
    let f = files_over g.F.Files.seen c.args.files.now c.compile_both.new.files in
    let old : FileNames = record { idl = seen_idl c.args.old; acf = option_map (λ a. a.now) c.args.old_acf } in
    let new : FileNames = record { idl = seen_idl c.args.new; acf = option_map (λ a. a.now) c.args.new_acf } in
    let v = c.in_ok-versions.versions in
    compared_refused f old new v.older v.newer c.in_ok-versions.ensures.compiled c.answer.result c.answer.ensures.refused
