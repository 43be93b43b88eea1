use Rattle.std.proofs.Common.{◌≡◌, ◌≤◌, List, [], length, drop, arith}
use Rattle.std.proofs.lemmas.List.{drop_all}
use Rattle.library_interface.specs.declared.file.File.{File}
use Rattle.library_interface.proofs.Sure.{name_left, bad_named, none_bad}
use Rattle.library_interface.proofs.adding.has_bad_name.Goals as goal

pub loop-at-init : goal.loop-at-init
loop-at-init c = λ bad. bad

pub loop-at-preserved : goal.loop-at-preserved
loop-at-preserved c = λ bad. name_left c.args.files.now c.loop-at.at _ c.name_at.ensures (c.is_bad.ensures.no c.if-is_bad.false) (c.loop-at.invariant bad)

pub returns-then-is_bad-clause-yes : goal.returns-then-is_bad-clause-yes
returns-then-is_bad-clause-yes c = λ _. bad_named c.args.files.now c.loop-at.at _ c.name_at.ensures (c.is_bad.ensures.yes c.if-is_bad.true)

pub returns-clause-no : goal.returns-clause-no
returns-clause-no c =
    let files : List File = c.args.files.now in
    let past : length files ≤ c.loop-at.at = omega arith in
    let over : drop c.loop-at.at files ≡ [] = drop_all c.loop-at.at files past in
    λ _ bad. none_bad (drop c.loop-at.at files) over (c.loop-at.invariant bad)
