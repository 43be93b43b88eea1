use Rattle.library_calls.proofs.comparing.compare_versions.Goals as goal

pub verdict-requires : goal.verdict-requires
verdict-requires c = (c.args.newer.now, c.in-Ok.ensures.compared)

pub returns-in-Ok-clause-compatible : goal.returns-in-Ok-clause-compatible
returns-in-Ok-clause-compatible c = c.verdict.ensures.compatible c.args.newer.now c.in-Ok.ensures.compared

pub returns-in-Ok-clause-refused : goal.returns-in-Ok-clause-refused
returns-in-Ok-clause-refused c = c.verdict.ensures.refused c.args.newer.now c.in-Ok.ensures.compared
