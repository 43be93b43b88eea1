use Rattle.nd_flat.proofs.node.kept_text.Goals as goal

pub returns-then-text-le-SHORT_TEXT-clause-within : goal.returns-then-text-le-SHORT_TEXT-clause-within
returns-then-text-le-SHORT_TEXT-clause-within c = c.short_text.ensures.within _
