use Rattle.library_answers.proofs.Texts.{reply_is}
use Rattle.library_answers.proofs.reading.read_response.Goals as goal

pub returns-in-Ok-clause-read : goal.returns-in-Ok-clause-read
returns-in-Ok-clause-read c ok =
    reply_is c.args.given.now c.args.text.now c.in-Ok.made c.fill_values.new.values.value c.in-Ok.ensures.read c.in-Ok.ensures.of (c.fill_values.ensures.filled ok)
