use Rattle.std.proofs.lemmas.Option.{slice_get_within}
use Rattle.nd_types.specs.Roots.{root_value}
use Rattle.library_answers.proofs.Places.{of_root}
use Rattle.library_answers.proofs.parts.write_root.Goals as goal

pub root_at-requires : goal.root_at-requires
root_at-requires c = slice_get_within _ _ _ c.in-Some-get.ensures.some

pub returns-in-Some-root_at-clause-written : goal.returns-in-Some-root_at-clause-written
returns-in-Some-root_at-clause-written c ok =
    of_root c.args.compiled.now c.interface-interface.result.now c.args.operation c.args.side c.args.at c.in-Some.side _ (root_value c.in-Some-root_at.root) _
    c.in-Some-get.ensures.some c.in-Some-root_at.ensures.some c.in-Some.ensures c.interface-interface.ensures (c.fill_root.ensures.about ok, c.fill_root.ensures.written ok)

pub returns-in-Some-root_at-clause-short : goal.returns-in-Some-root_at-clause-short
returns-in-Some-root_at-clause-short c short =
    of_root c.args.compiled.now c.interface-interface.result.now c.args.operation c.args.side c.args.at c.in-Some.side _ (root_value c.in-Some-root_at.root) _
    c.in-Some-get.ensures.some c.in-Some-root_at.ensures.some c.in-Some.ensures c.interface-interface.ensures (c.fill_root.ensures.len short, c.fill_root.ensures.short short)
