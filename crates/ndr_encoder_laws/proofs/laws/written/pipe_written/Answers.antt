use Rattle.std.proofs.Common.{ap, sym, ◌∙◌}
use Rattle.nd_value.specs.Tree as tree
use Rattle.nd_value.specs.Tree.{node, count}
use Rattle.nd_grammar.specs.Stream.{cut_of}
use Rattle.ndr_encoder_laws.specs.pieces.Shown.{pipe_pieces}
use Rattle.ndr_encoder_laws.proofs.written.Pipes as pipes
use Rattle.ndr_encoder_laws.proofs.laws.written.pipe_written.Goals as goal

pub returns : goal.returns
returns c table operations d t at elem ks s is shaped room m k limit some enough =
    pipes.pipe_written table operations m k d t at elem ks s is shaped room limit some enough
    ∙ sym (ap (λ D. pipe_pieces table D (cut_of k (count ks)) (node tree.Pipe ks)) is)
