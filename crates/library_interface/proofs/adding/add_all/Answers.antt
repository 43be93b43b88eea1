use Rattle.std.proofs.Common.{◌≡◌, ◌≤◌, ◌∙◌, List, [], Err, length, drop, refl, ap, arith}
use Rattle.std.proofs.lemmas.List.{drop_all}
use Rattle.library_interface.specs.declared.file.File.{File}
use Rattle.library_interface.proofs.Sure.{one_more, bad_later, bad_left, none_bad}
use Rattle.library_interface.proofs.adding.add_all.Goals as goal

pub loop-at-init : goal.loop-at-init
loop-at-init c = (λ name. refl, refl, λ bad. bad)

pub loop-at-preserved : goal.loop-at-preserved
loop-at-preserved c = (
  one_more c.args.files.now c.loop-at.at _ _ _ _ _ c.name_at.ensures c.text_at.ensures c.in_ok-add_file.ensures.ok c.loop-at.invariant.0,
  c.in_ok-add_file.ensures.calls ∙ c.loop-at.invariant.1,
  λ bad. bad_left c.args.files.now c.loop-at.at _ _ c.name_at.ensures c.text_at.ensures c.in_ok-add_file.ensures.good (c.loop-at.invariant.2 bad),
)

pub returns-in_err-add_file-clause-bad : goal.returns-in_err-add_file-clause-bad
returns-in_err-add_file-clause-bad c =
    bad_later c.args.files.now c.loop-at.at _ _ c.from_residual.result c.in_err-add_file.field-0.0 c.name_at.ensures c.text_at.ensures c.from_residual.ensures.1
    (λ q. c.in_err-add_file.ensures.bad (ap (λ x. Err x) q))

pub returns-clause-good : goal.returns-clause-good
returns-clause-good c =
    let files : List File = c.args.files.now in
    let past : length files ≤ c.loop-at.at = omega arith in
    let over : drop c.loop-at.at files ≡ [] = drop_all c.loop-at.at files past in
    λ bad. none_bad (drop c.loop-at.at files) over (c.loop-at.invariant.2 bad)
