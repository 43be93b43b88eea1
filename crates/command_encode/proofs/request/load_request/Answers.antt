use Rattle.std.proofs.Common.{sym, subst}
use Rattle.nd_base.specs.Over.{IsContent, files_over}
use Rattle.command_encode.proofs.Requests.{text_held, text_refused}
use Rattle.command_encode.proofs.request.load_request.Goals as goal

pub returns-clause-request : goal.returns-clause-request
returns-clause-request g c o w there own =
    let f = files_over g.F.Files.seen c.args.files.now c.load.new.files in
    text_held f c.args.name.now w c.as_slice.result.now (subst (IsContent f.held c.args.name.now) (sym c.as_slice.ensures) c.in_ok-text.ensures.content)
    c.fit_request.result (c.fit_request.ensures.request o w there own)

pub returns-clause-refused : goal.returns-clause-refused
returns-clause-refused g c o w there own =
    let f = files_over g.F.Files.seen c.args.files.now c.load.new.files in
    text_refused f c.args.name.now w c.as_slice.result.now (subst (IsContent f.held c.args.name.now) (sym c.as_slice.ensures) c.in_ok-text.ensures.content)
    c.fit_request.result (c.fit_request.ensures.refused o w there own)
