use Rattle.std.proofs.Common.{◌≡◌, ◌∙◌, ◌+◌, refl, ap, arith, [], length, Err}
use Rattle.idl_names.specs.Walk.{and_source}
use Rattle.idl_names.specs.Loads.{IsLoadFault, told_load}
use Rattle.idl_names.proofs.Loads.{short_fault, unloaded_fault, loaded_ok, loaded_err, one_more}
use Rattle.idl_names.proofs.Going.{at_error, one_asked}
use Rattle.idl_names.proofs.loading.load.Goals as goal

pub returns-in_err-file-clause-err : goal.returns-in_err-file-clause-err
returns-in_err-file-clause-err g c =
    let held = (g.F.Files.seen c.args.files.now).held in
    at_error c.from_residual.result c.in_err-file.field-0.0 (IsLoadFault c.args.language held c.args.sources.now c.args.name.now c.begin.new.sources) c.from_residual.ensures.1
    (short_fault c.args.language held c.args.sources.now c.args.name.now c.begin.new.sources c.in_err-file.field-0.0 c.in_err-file.ensures.err c.in_err-file.ensures.fault)

pub returns-in-Ok-clause-ok : goal.returns-in-Ok-clause-ok
returns-in-Ok-clause-ok g c =
    let filled = c.read.ensures.filled c.args.sources.now c.args.name.now c.in_ok-file.ensures.number c.in_ok-file.ensures.ok in
    loaded_ok c.args.language (g.F.Files.seen c.args.files.now).held c.args.sources.now c.args.name.now c.in_ok-file.file c.in-Ok.text c.read.new.sources c.read.result
    c.in_ok-file.ensures.number c.in-Ok.ensures.content filled c.read.ensures.number c.read.ensures.tree

pub returns-in-Ok-clause-err : goal.returns-in-Ok-clause-err
returns-in-Ok-clause-err g c =
    let filled = c.read.ensures.filled c.args.sources.now c.args.name.now c.in_ok-file.ensures.number c.in_ok-file.ensures.ok in
    loaded_err c.args.language (g.F.Files.seen c.args.files.now).held c.args.sources.now c.args.name.now c.in_ok-file.file c.in-Ok.text c.read.new.sources c.read.result
    c.in_ok-file.ensures.number c.in-Ok.ensures.content filled c.read.ensures.fault

pub returns-in-Ok-clause-asked : goal.returns-in-Ok-clause-asked
returns-in-Ok-clause-asked g c =
    one_asked c.args.name.now c.in-Ok.text c.in-Ok.ensures.asked (c.read.ensures.filled c.args.sources.now c.args.name.now c.in_ok-file.ensures.number c.in_ok-file.ensures.ok)

pub returns-in-Ok-clause-few : goal.returns-in-Ok-clause-few
returns-in-Ok-clause-few g c =
    let filled = c.read.ensures.filled c.args.sources.now c.args.name.now c.in_ok-file.ensures.number c.in_ok-file.ensures.ok in
    let more = one_more c.args.sources.now c.read.new.sources c.args.name.now c.in-Ok.text filled in
    omega (arith, more, c.requires)

pub returns-in-Ok-clause-more : goal.returns-in-Ok-clause-more
returns-in-Ok-clause-more g c =
    let filled = c.read.ensures.filled c.args.sources.now c.args.name.now c.in_ok-file.ensures.number c.in_ok-file.ensures.ok in
    let more = one_more c.args.sources.now c.read.new.sources c.args.name.now c.in-Ok.text filled in
    omega (arith, more)

pub returns-in-Err-clause-err : goal.returns-in-Err-clause-err
returns-in-Err-clause-err g c =
    unloaded_fault c.args.language (g.F.Files.seen c.args.files.now).held c.args.sources.now c.args.name.now c.in-Err.fault c.begin.new.sources c.unloaded.result
    (λ e. c.in-Err.ensures.absent (ap (λ f. Err f) e)) c.in_ok-file.ensures.ok (c.unloaded.ensures ∙ ap (λ n. told_load n c.in-Err.fault) c.in_ok-file.ensures.number)

pub returns-in-Err-clause-asked : goal.returns-in-Err-clause-asked
returns-in-Err-clause-asked g c = one_asked c.args.name.now [] c.in-Err.ensures.asked c.in_ok-file.ensures.ok
