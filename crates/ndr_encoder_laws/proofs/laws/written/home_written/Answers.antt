use Rattle.std.proofs.Common.{sym, ◌∙◌}
use Rattle.nd_value.specs.Tree.{none, more, node}
use Rattle.nd_grammar.specs.Entry.{hoisted_max}
use Rattle.ndr_encoder_laws.proofs.pieces.Showing.{shown_whole}
use Rattle.ndr_encoder_laws.proofs.written.Runs as runs
use Rattle.ndr_encoder_laws.proofs.laws.written.home_written.Goals as goal

pub returns : goal.returns
returns c table operations d t h l ks shaped shallow k limit enough =
    runs.home_written table operations (hoisted_max 0 (more (node l ks) none)) k d t l ks shaped shallow limit enough ∙ sym (shown_whole table h t l ks)
