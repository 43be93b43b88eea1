use Rattle.std.proofs.Common.{◌≡◌, ◌≢◌, ◌∙◌, sym}
use Rattle.idl_scope.specs.Seen.{seen_file, seen_files}
use Rattle.idl_names.proofs.Spelled.{first_is, first_is_not}
use Rattle.nd_lemmas.proofs.Lists.{drop_next as item_at}
use Rattle.idl_names.proofs.resolving.has_ended.Goals as goal

pub returns-then-from-number : goal.returns-then-from-number
returns-then-from-number c =
    let files = seen_files c.args.files.now in
    let ended = seen_file c.in-Some.ended.now in
    sym (c.loop-at.invariant ∙ first_is files c.loop-at.at ended c.args.number (item_at files c.loop-at.at ended (sym c.in-Some.ensures)) (sym c.from.ensures ∙ c.if-from-number.true))

pub loop-at-preserved : goal.loop-at-preserved
loop-at-preserved c =
    let files = seen_files c.args.files.now in
    let ended = seen_file c.in-Some.ended.now in
    c.loop-at.invariant ∙ first_is_not files c.loop-at.at ended c.args.number (item_at files c.loop-at.at ended (sym c.in-Some.ensures)) (λ h. c.if-from-number.false (c.from.ensures ∙ h))
