use Rattle.acf_reader.proofs.Harmless.{no_banned_word}
use Rattle.acf_reader.proofs.laws.no_file_holds_a_banned_word.Goals as goal

pub returns : goal.returns
returns c = no_banned_word
