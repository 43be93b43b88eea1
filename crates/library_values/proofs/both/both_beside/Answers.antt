use Rattle.library_values.proofs.both.both_beside.Goals as goal

pub returns-in-Ok-clause-logged : goal.returns-in-Ok-clause-logged
returns-in-Ok-clause-logged c o there = c.in-Ok.ensures.logged o there c.keeping-items.ensures
