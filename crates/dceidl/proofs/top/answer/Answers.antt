use Rattle.std.proofs.Common.{◌≡◌, ◌∙◌, List, ℕ, Some, map, option_map, refl, sym, ap}
use Rattle.std.specs.String.{string_bytes}
use Rattle.nd_base.specs.Over.{files_over, source_over}
use Rattle.ndr_pipe.specs.Ends.{ends_over}
use Rattle.dceidl.specs.Asked.{seen_over}
use Rattle.dceidl.proofs.Explanations.{explained_outcome, explained_asks}
use Rattle.dceidl.proofs.top.answer.Goals as goal

pub returns-in-Some-clause-asked : goal.returns-in-Some-clause-asked
returns-in-Some-clause-asked g c =
    let x = seen_over (files_over g.F.Files.seen c.args.files.now c.args.files.now)
    (source_over g.S.Source.seen c.args.input.now c.args.input.now) (ends_over g.E.PipeEnd.seen c.args.ends.now c.args.ends.now)
    in
    explained_asks x c.args.words.now (map string_bytes c.in-Some.asked.now) (ap (option_map (λ words. map string_bytes words.now)) (sym c.in-Some.is) ∙ c.why.ensures)
    (record {
      files = record { none_asked = refl; none_absent = refl; no_fault = refl };
      input = record { nothing_taken = refl; no_fault = refl };
      ends = refl;
    })

pub returns-in-Some-clause-outcome : goal.returns-in-Some-clause-outcome
returns-in-Some-clause-outcome g c =
    let x = seen_over (files_over g.F.Files.seen c.args.files.now c.args.files.now)
    (source_over g.S.Source.seen c.args.input.now c.args.input.now) (ends_over g.E.PipeEnd.seen c.args.ends.now c.args.ends.now)
    in
    explained_outcome x c.args.words.now (map string_bytes c.in-Some.asked.now) (ap (option_map (λ words. map string_bytes words.now)) (sym c.in-Some.is) ∙ c.why.ensures)
    c.explanation.result c.explanation.ensures
