-- That the token that is due does not come.
-- `v` is a version, `d` a due, `ds` are dues, `t` is a token.
use Rattle.std.specs.Prelude.{◌≡◌, ℕ, List, length, Err}
use Rattle.text_grammar.specs.declared.version.Version.{Version}
use Rattle.text_grammar.specs.declared.fault.TextReason.{TextReason}
use Rattle.text_grammar.specs.declared.fault.TextReason.TheVariants as reason
use Rattle.text_grammar.specs.Tokens.{Cutting, skip}
use Rattle.text_grammar.specs.Reads.{Lexeme, Cut, End, Bad, IsNext}
use Rattle.text_grammar.specs.Dues.{Due, AUuid, Reading, taken}
use Rattle.text_parser.specs.declared.stop.Stop.{Stop}
use Rattle.text_parser.specs.declared.stop.Stop.TheVariants as stop
use Rattle.text_parser.specs.Lexemes.{plain, for_uuid}

-- what comes next is not the token that is due
abbrev pub IsWrong : Due → Lexeme → TextReason → Type 0
IsWrong d (Cut t) why = (x : Reading) (ds : List Due) → taken x d t ds ≡ Err why
IsWrong d End why = why ≡ reason.Expected
IsWrong d Bad why = why ≡ reason.BadToken

pub record MissesBy (how : Cutting) (d : Due) (text : List ℕ) (left : ℕ) (why : TextReason) : Type 0 where
  pub left_is : left ≡ length (skip text)
  pub next : Lexeme
  pub is_next : IsNext how text next
  pub wrong : IsWrong d next why

abbrev pub Misses : Version → Due → List ℕ → Stop → Type 0
Misses v d text stop.Memory = Unit {0}
Misses v d text (stop.At left why) = MissesBy (plain v) d text left why

-- the same where a UUID is due
abbrev pub MissesUuid : Version → List ℕ → Stop → Type 0
MissesUuid v text stop.Memory = Unit {0}
MissesUuid v text (stop.At left why) = MissesBy (for_uuid v) AUuid text left why
