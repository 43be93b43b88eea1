use Rattle.std.proofs.Common.{◌∙◌, ap, ◌++◌}
use Rattle.idl_listing.proofs.WordByWord.{one_behind}
use Rattle.idl_listing.proofs.words.word.Goals as goal

pub returns : goal.returns
returns c = c.in_ok-append-2.ensures.ok ∙ ap (λ t. t ++ c.args.word.now) c.in_ok-append.ensures.ok ∙ one_behind c.args.text.now c.args.word.now
