use Rattle.nd_value.specs.Fitting.{setting_beside}
use Rattle.nd_lemmas.proofs.Lists.{item_at}
use Rattle.nd_fit.proofs.Inputs.{given_request}
use Rattle.nd_fit.proofs.Told.{told_no_fit, fits_of}
use Rattle.nd_fit.proofs.fitting.fit.Goals as goal

pub of-requires : goal.of-requires
of-requires c =
    let (o, there) = item_at c.args.interface.now.operations c.args.op c.requires.known in
    fits_of c.args.interface.now c.tie.result c.args.op o c.args.side _ _ c.args.graph c.in-Ok.flat there c.in-Ok.ensures.graph c.tie.ensures c.beside.ensures.graph
    (c.in-Ok.ensures.conforms o there) (given_request c.args.interface.now c.args.op o c.args.side c.args.given (λ f. f.now) there c.beside.ensures.conforms c.requires.request)

pub returns-in-Err-clause-not_conforming : goal.returns-in-Err-clause-not_conforming
returns-in-Err-clause-not_conforming c o there =
    told_no_fit (setting_beside c.args.interface.now o c.args.side _) c.args.graph _ (c.in-Err.ensures.misfit o there)
