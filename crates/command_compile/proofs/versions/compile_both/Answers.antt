use Rattle.std.proofs.Common.{option_map, refl}
use Rattle.std.proofs.lemmas.Result.{err_from_is_err_and}
use Rattle.idl_grammar.specs.Files.{seen_idl}
use Rattle.nd_base.specs.Over.{files_over}
use Rattle.command_compile.specs.Compiled.{FileNames}
use Rattle.command_compile.proofs.Parts.{Follows, both_asked, both_compiled, both_refused}
use Rattle.command_compile.proofs.versions.compile_both.Goals as goal

pub returns-in_err-newer-clause-asked : goal.returns-in_err-newer-clause-asked
returns-in_err-newer-clause-asked g c =
    let f1 = files_over g.F.Files.seen c.args.files.now c.compile.new.files in
    let f2 = files_over g.F.Files.seen c.compile.new.files c.compile-2.new.files in
    let follows : Follows f1 f2 =
    record { held = c.in_ok-older.ensures.same; asked = refl; absences = refl; faults = refl; later = c.in_ok-older.ensures.later; absences_later = c.in_ok-older.ensures.absences_later } in
    let old : FileNames = record { idl = seen_idl c.args.old; acf = option_map (λ a. a.now) c.args.old_acf } in
    let new : FileNames = record { idl = seen_idl c.args.new; acf = option_map (λ a. a.now) c.args.new_acf } in
    both_asked f1 f2 follows old new c.in_ok-older.older c.in_ok-older.ensures.ok c.in_err-newer.ensures.asked

pub returns-in_err-newer-clause-refused : goal.returns-in_err-newer-clause-refused
returns-in_err-newer-clause-refused g c =
    let p = err_from_is_err_and c.from_residual-in_err-newer.result c.from_residual-in_err-newer.ensures.1 in
    let f1 = files_over g.F.Files.seen c.args.files.now c.compile.new.files in
    let f2 = files_over g.F.Files.seen c.compile.new.files c.compile-2.new.files in
    let follows : Follows f1 f2 =
    record { held = c.in_ok-older.ensures.same; asked = refl; absences = refl; faults = refl; later = c.in_ok-older.ensures.later; absences_later = c.in_ok-older.ensures.absences_later } in
    let old : FileNames = record { idl = seen_idl c.args.old; acf = option_map (λ a. a.now) c.args.old_acf } in
    let new : FileNames = record { idl = seen_idl c.args.new; acf = option_map (λ a. a.now) c.args.new_acf } in
    rw (p.1, p.2) (both_refused f1 f2 follows old new c.in_ok-older.older c.in_ok-older.ensures.ok _ c.in_err-newer.ensures.err)

pub returns-clause-asked : goal.returns-clause-asked
returns-clause-asked g c =
    let f1 = files_over g.F.Files.seen c.args.files.now c.compile.new.files in
    let f2 = files_over g.F.Files.seen c.compile.new.files c.compile-2.new.files in
    let follows : Follows f1 f2 =
    record { held = c.in_ok-older.ensures.same; asked = refl; absences = refl; faults = refl; later = c.in_ok-older.ensures.later; absences_later = c.in_ok-older.ensures.absences_later } in
    let old : FileNames = record { idl = seen_idl c.args.old; acf = option_map (λ a. a.now) c.args.old_acf } in
    let new : FileNames = record { idl = seen_idl c.args.new; acf = option_map (λ a. a.now) c.args.new_acf } in
    both_asked f1 f2 follows old new c.in_ok-older.older c.in_ok-older.ensures.ok c.in_ok-newer.ensures.asked

pub returns-clause-compiled : goal.returns-clause-compiled
returns-clause-compiled g c =
    let f1 = files_over g.F.Files.seen c.args.files.now c.compile.new.files in
    let f2 = files_over g.F.Files.seen c.compile.new.files c.compile-2.new.files in
    let follows : Follows f1 f2 =
    record { held = c.in_ok-older.ensures.same; asked = refl; absences = refl; faults = refl; later = c.in_ok-older.ensures.later; absences_later = c.in_ok-older.ensures.absences_later } in
    let old : FileNames = record { idl = seen_idl c.args.old; acf = option_map (λ a. a.now) c.args.old_acf } in
    let new : FileNames = record { idl = seen_idl c.args.new; acf = option_map (λ a. a.now) c.args.new_acf } in
    both_compiled f1 f2 follows old new c.in_ok-older.older c.in_ok-older.ensures.ok c.in_ok-newer.newer c.in_ok-newer.ensures.ok
