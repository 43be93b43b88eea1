-- What may follow in a literal, by what is due there.
use Rattle.std.specs.Prelude.{◌≡◌, ◌≢◌, ◌⊎◌, ℕ, ◌+◌, ◌<◌, ◌≤◌, Bool, true, false, List, [], ◌∷◌, ◌++◌, length, slice_range, slice_index}
use Rattle.idl_lexer.specs.declared.tokens.TokenKind.{TokenKind}
use Rattle.idl_lexer.specs.declared.tokens.TokenKind.TheVariants as token
use Rattle.idl_lexer.specs.declared.literals.Unended.{Unended}
use Rattle.idl_lexer.specs.declared.literals.Unended.TheVariants as unended
use Rattle.idl_lexer.specs.Pieces.{closes, string_goes_on, string_escape_goes_on, char_goes_on, char_escape_goes_on}
use Rattle.idl_lexer.specs.declared.tokens.LexKind.TheVariants as fault
use Rattle.idl_lexer.specs.declared.cut.Refusal.{Refusal}
use Rattle.idl_lexer.specs.declared.literals.Due.{Due}
use Rattle.idl_lexer.specs.declared.literals.Due.TheVariants as due
use Rattle.idl_lexer.specs.declared.literals.Step.{Step}
use Rattle.idl_lexer.specs.declared.literals.Step.TheVariants as step

-- the octets that complete a literal from there
abbrev pub completes : Due → List ℕ → Bool
completes due.Characters octets = string_goes_on octets
completes due.Escape octets = string_escape_goes_on octets
completes due.OneCharacter octets = char_goes_on octets
completes due.OneEscape octets = char_escape_goes_on octets
completes due.Quote octets = closes 39 octets

abbrev pub is_empty : List ℕ → Bool
is_empty [] = true
is_empty (c ∷ cs) = false

-- the octets that complete a literal after an octet
abbrev pub completes_after : Step → List ℕ → Bool
completes_after (step.Goes next) octets = completes next octets
completes_after step.Closed octets = is_empty octets
completes_after step.Bad octets = false

-- the scan of a literal from a place on has come to another, where this is due
pub record Reaches (text : List ℕ) (start : Due) (first : ℕ) (now : Due) (at : ℕ) : Type 0 where
  pub after : first ≤ at
  pub same : (rest : List ℕ) → completes start (slice_range text first at ++ rest) ≡ completes now rest
  pub one_line : (k : ℕ) → first ≤ k → k < at → slice_index text k ≢ 10

-- a literal ends there
pub record IsEnd (text : List ℕ) (start : Due) (first to : ℕ) : Type 0 where
  pub after : first < to
  pub within : to ≤ length text
  pub same : (rest : List ℕ) → completes start (slice_range text first to ++ rest) ≡ is_empty rest

-- nothing more can end the literal: a line feed or the text's end comes first, or a bad octet
pub record IsOpen (text : List ℕ) (start : Due) (first : ℕ) : Type 0 where
  pub stop : ℕ
  pub now : Due
  pub reaches : Reaches text start first now stop
  pub within : stop ≤ length text
  pub ended : (stop ≡ length text) ⊎ (slice_index text stop ≡ 10)

pub record IsBadAt (text : List ℕ) (start : Due) (first at : ℕ) : Type 0 where
  pub within : at < length text
  pub now : Due
  pub reaches : Reaches text start first now at
  pub no_feed : slice_index text at ≢ 10
  pub none : (rest : List ℕ) → completes start (slice_range text first (at + 1) ++ rest) ≡ false

abbrev pub IsUnended : List ℕ → Due → ℕ → Unended → Type 0
IsUnended text start first unended.Open = IsOpen text start first
IsUnended text start first (unended.Bad at) = IsBadAt text start first at

-- the reason, and where it is said
abbrev pub refusal_of : ℕ → Unended → Refusal
refusal_of from unended.Open = record { at = from; kind = fault.OpenText }
refusal_of from (unended.Bad at) = record { at = at; kind = fault.BadOctet }

-- a quote opens a literal of a kind, in which this is due next
abbrev pub Opens : TokenKind → Due → ℕ → Type 0
Opens kind start quote =
    ((kind ≡ token.Str) × (start ≡ due.Characters) × (quote ≡ 34)) ⊎ ((kind ≡ token.Char) × (start ≡ due.OneCharacter) × (quote ≡ 39))
