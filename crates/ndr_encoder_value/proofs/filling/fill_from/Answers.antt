use Rattle.std.proofs.Common.{ℕ, List, [], ◌++◌, get_or, ap, ◌∙◌}
use Rattle.ndr_encoder_laws.specs.pieces.Pieces.{Piece}
use Rattle.ndr_encoder_output.specs.Filling.{fill_whole}
use Rattle.ndr_encoder_output.proofs.Filled.{all_filled}
use Rattle.ndr_encoder_value.specs.Turns.{turn_pairs, written_turns}
use Rattle.ndr_encoder_value.proofs.filling.fill_from.Goals as goal

pub returns-clause-filled : goal.returns-clause-filled
returns-clause-filled c =
    let ps : List Piece = written_turns c.args.code.now c.args.chunk c.args.fit.now.graph (turn_pairs c.args.turns.now) in
    let old = c.args.fill.now in
    let new = c.write_turns.new.out in
    let num : ℕ → ℕ = λ b. get_or old.numbers.now b 0 in
    let more : ℕ → ℕ = λ b. get_or new.numbers.now b 0 in
    (all_filled old.out.ghost_name new.out.ghost_name old.order new.order num more new.at old.out.now new.out.now ps c.requires.long
    (c.in-Ok.ensures.written.same [] ∙ ap (λ k. fill_whole old.out.ghost_name old.order num k old.out.now (ps ++ [])) c.requires.front)).1

pub write_turns-requires-clause-known : goal.write_turns-requires-clause-known
write_turns-requires-clause-known c = c.new-known.ensures c.args.code.now
