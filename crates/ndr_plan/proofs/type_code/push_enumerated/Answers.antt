use Rattle.ndr_plan.proofs.type_code.push_enumerated.Goals as goal

pub returns : goal.returns
returns c = c.in_ok-append.ensures.ok
