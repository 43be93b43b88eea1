use Rattle.nd_flat.proofs.node.kept_node.Goals as goal

pub returns-in-Num-clause-within : goal.returns-in-Num-clause-within
returns-in-Num-clause-within c = c.kept_number.ensures.within _

pub returns-in-Union-clause-within : goal.returns-in-Union-clause-within
returns-in-Union-clause-within c = c.kept_tag.ensures.within _

pub returns-in-Ptr-clause-within : goal.returns-in-Ptr-clause-within
returns-in-Ptr-clause-within c = c.kept_pointer.ensures.within _
