use Rattle.std.proofs.Common.{rules, ◌≡◌, ap, ◌∙◌}
use Rattle.ndr_code.specs.Code.{code_of}
use Rattle.ndr_encode.proofs.Works.{turns_there, work_can, work_long, work_chosen}
use Rattle.ndr_encode.proofs.encoding.encode_with.Goals as goal

pub fill_turns-requires-clause-there : goal.fill_turns-requires-clause-there
fill_turns-requires-clause-there c =
    let (k, x) = c.requires.made in
    let same : c.as_slice-code.result.now ≡ code_of c.args.fit.now.interface.types c.args.fit.now.interface.operations =
    c.as_slice-code.ensures ∙ c.args.plan.now.planned.code_is ∙ ap (λ i. code_of i.types i.operations) c.requires.tied in
    let turns : c.as_slice-turns.result.now ≡ c.args.work.now.turns = search rules in
    let chunk : c.work.inside.chunk ≡ c.args.work.now.chunk = search rules in
    turns_there c.args.fit.now k c.args.work.now c.flat-conforming.ensures.conforms x c.as_slice-code.result.now same c.as_slice-turns.result.now turns c.work.inside.chunk chunk

pub fill_turns-requires-clause-can : goal.fill_turns-requires-clause-can
fill_turns-requires-clause-can c =
    let (k, x) = c.requires.made in
    let same : c.as_slice-code.result.now ≡ code_of c.args.fit.now.interface.types c.args.fit.now.interface.operations =
    c.as_slice-code.ensures ∙ c.args.plan.now.planned.code_is ∙ ap (λ i. code_of i.types i.operations) c.requires.tied in
    let turns : c.as_slice-turns.result.now ≡ c.args.work.now.turns = search rules in
    let chunk : c.work.inside.chunk ≡ c.args.work.now.chunk = search rules in
    work_can c.args.fit.now k c.args.work.now c.flat-conforming.ensures.conforms x c.as_slice-code.result.now same c.as_slice-turns.result.now turns c.work.inside.chunk chunk
    c.args.out.now c.requires.room

pub fill_turns-requires-clause-long : goal.fill_turns-requires-clause-long
fill_turns-requires-clause-long c =
    let (k, x) = c.requires.made in
    let same : c.as_slice-code.result.now ≡ code_of c.args.fit.now.interface.types c.args.fit.now.interface.operations =
    c.as_slice-code.ensures ∙ c.args.plan.now.planned.code_is ∙ ap (λ i. code_of i.types i.operations) c.requires.tied in
    let turns : c.as_slice-turns.result.now ≡ c.args.work.now.turns = search rules in
    let chunk : c.work.inside.chunk ≡ c.args.work.now.chunk = search rules in
    work_long c.args.fit.now k c.args.work.now c.flat-conforming.ensures.conforms x c.as_slice-code.result.now same c.as_slice-turns.result.now turns c.work.inside.chunk chunk
    c.args.out.now c.requires.room

pub returns-clause-chosen : goal.returns-clause-chosen
returns-clause-chosen c =
    let (k, x) = c.requires.made in
    let same : c.as_slice-code.result.now ≡ code_of c.args.fit.now.interface.types c.args.fit.now.interface.operations =
    c.as_slice-code.ensures ∙ c.args.plan.now.planned.code_is ∙ ap (λ i. code_of i.types i.operations) c.requires.tied in
    let turns : c.as_slice-turns.result.now ≡ c.args.work.now.turns = search rules in
    let numbers : c.as_slice-numbers.result.now ≡ c.args.work.now.numbers = search rules in
    let chunk : c.work.inside.chunk ≡ c.args.work.now.chunk = search rules in
    work_chosen c.args.fit.now k c.args.work.now c.flat-conforming.ensures.conforms x c.as_slice-code.result.now same c.as_slice-turns.result.now turns c.work.inside.chunk chunk
    c.args.order c.as_slice-numbers.result.now c.fill_turns.new.out numbers c.fill_turns.ensures
