use Rattle.idl_grammar.proofs.BannedWords.{banned_word_answers}
use Rattle.idl_grammar.proofs.CleanFile.{no_banned_word}
use Rattle.idl_grammar.proofs.laws.no_file_holds_a_banned_word.Goals as goal

pub returns : goal.returns
returns c = record { holds_none = no_banned_word; answered = banned_word_answers }
