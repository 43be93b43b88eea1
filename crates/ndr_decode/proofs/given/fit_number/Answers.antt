use Rattle.ndr_decode.proofs.GivenNumbers.{if_keepable}
use Rattle.ndr_decode.proofs.given.fit_number.Goals as goal

pub returns-clause-keepable : goal.returns-clause-keepable
returns-clause-keepable c = if_keepable c.args.fit.now _ c.number_in.result c.args.star c.args.root c.flat.ensures.conforms c.flat.ensures.graph c.number_in.ensures
