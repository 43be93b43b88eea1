use Rattle.std.proofs.Common.{None, option_map, refl, inl}
use Rattle.std.proofs.lemmas.Result.{err_from_is_err_and}
use Rattle.idl_grammar.specs.Files.{seen_idl}
use Rattle.nd_base.specs.Over.{files_over, source_over}
use Rattle.dceidl.proofs.Calling.{called_done, called_refused}
use Rattle.dceidl.proofs.call.request.Goals as goal

pub returns-in_err-interface-clause-refused : goal.returns-in_err-interface-clause-refused
returns-in_err-interface-clause-refused g c =
    let p = err_from_is_err_and c.from_residual.result c.from_residual.ensures.1 in
    rw (p.1, p.2) (inl (c.in_err-interface.ensures.err, record { nothing_taken = refl; no_fault = refl }))

pub returns-clause-done : goal.returns-clause-done
returns-clause-done g c =
    let f = files_over g.F.Files.seen c.args.files.now c.compile.new.files in
    let s = source_over g.S.Source.seen c.args.input.now c.print_call.new.input in
    called_done f s (seen_idl c.args.idl) (option_map (λ a. a.now) c.args.acf) None c.in_ok-interface.interface None
    (record { compiled = c.in_ok-interface.ensures.ok; numbered = refl }) c.print_call.result c.print_call.ensures.printed

pub returns-clause-refused : goal.returns-clause-refused
returns-clause-refused g c =
    let f = files_over g.F.Files.seen c.args.files.now c.compile.new.files in
    let s = source_over g.S.Source.seen c.args.input.now c.print_call.new.input in
    called_refused f s (seen_idl c.args.idl) (option_map (λ a. a.now) c.args.acf) None c.in_ok-interface.interface None
    (record { compiled = c.in_ok-interface.ensures.ok; numbered = refl }) c.print_call.result c.print_call.ensures.refused
