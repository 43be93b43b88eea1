use Rattle.idl_words.proofs.FileTurns.{file_replaced}
use Rattle.idl_words.proofs.Prefixes.{none_left, same_beginning}
use Rattle.idl_words.proofs.laws.words_move_no_refusal.Goals as goal

pub returns : goal.returns
returns c = record { replaced = file_replaced; none = none_left; continued = same_beginning }
