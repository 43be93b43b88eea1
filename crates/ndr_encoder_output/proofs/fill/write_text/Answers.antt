use Rattle.ndr_encoder_output.proofs.Filled.{text_is}
use Rattle.ndr_encoder_output.proofs.fill.write_text.Goals as goal

pub returns-clause-front : goal.returns-clause-front
returns-clause-front c = text_is _ _ _ _ _ _ c.write_four-start.ensures.front c.write_raw-end.ensures.front c.write_one.ensures.front
