use Rattle.library_values.proofs.logging.log_lent.Goals as goal

pub returns-in-Ok-clause-logged : goal.returns-in-Ok-clause-logged
returns-in-Ok-clause-logged c i o is there = c.in-Ok.ensures.logged i o is there c.keeping-items.ensures
