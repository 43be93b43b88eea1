-- The tokens of a whole text, or its first fault.
use Rattle.std.specs.Prelude.{◌≡◌, ◌≢◌, ◌⊎◌, ℕ, ◌+◌, ◌<◌, ◌≤◌, true, false, List, [], ◌∷◌, ◌++◌, length, slice_index, slice_range, IsSome, Some}
use Rattle.std.specs.Prelude.{is_some, option_map, unwrap_or, slice_get, Result, Ok, Err}
use Rattle.std.specs.List.{All, AllByRecursion, flat_map}
use Rattle.nd_base.specs.Text.{is_identifier}
use Rattle.idl_lexer.specs.declared.tokens.LexKind.{LexKind}
use Rattle.idl_lexer.specs.declared.tokens.LexKind.TheVariants as fault
use Rattle.idl_lexer.specs.declared.tokens.TokenKind.TheVariants as token
use Rattle.idl_lexer.specs.declared.cut.Piece.{Piece}
use Rattle.idl_lexer.specs.declared.cut.PieceKind.{PieceKind}
use Rattle.idl_lexer.specs.declared.cut.PieceKind.TheVariants as piece
use Rattle.idl_lexer.specs.declared.tokens.TokenKind.{TokenKind}
use Rattle.idl_lexer.specs.declared.tokens.Token.{Token}
use Rattle.idl_lexer.specs.declared.tokens.LexFault.{LexFault}
use Rattle.idl_lexer.specs.declared.tokens.LexFault.TheVariants as errors
use Rattle.idl_lexer.specs.Pieces.{number_of, IsOf, IsUuid}

-- ## What is cut at a place of a text, or why nothing can be

-- a piece of a kind is there, and no longer piece of any kind begins there
pub record IsLongest (text : List ℕ) (kind : PieceKind) (from to : ℕ) : Type 0 where
  pub forward : from < to
  pub within : to ≤ length text
  pub is : IsOf kind (slice_range text from to)
  pub longest : (other : PieceKind) (n : ℕ) → n ≤ length text → IsOf other (slice_range text from n) → n ≤ to

-- `/*` is there
abbrev pub OpensComment : List ℕ → ℕ → Type 0
OpensComment text from = (slice_index text from ≡ 47) × (slice_index text (from + 1) ≡ 42)

-- The longest piece: a word of at most 31 octets, a number by form and value, or another. Where `/*` stands
-- it is a comment.
pub record IsCut (text : List ℕ) (cut : Piece) : Type 0 where
  pub stands : IsLongest text cut.kind cut.from cut.to
  pub short : cut.kind ≡ piece.Token token.Word → cut.to ≤ cut.from + 31
  pub number : cut.kind ≡ piece.Token token.Number → IsSome (number_of (slice_range text cut.from cut.to))
  pub comment : OpensComment text cut.from → cut.kind ≡ piece.Comment

-- some piece begins with these octets
abbrev pub Begins : List ℕ → Type 0
Begins octets = (kind : PieceKind) × (rest : List ℕ) × IsOf kind (octets ++ rest)

-- no piece is there
abbrev pub IsStuck : List ℕ → ℕ → Type 0
IsStuck text from = (kind : PieceKind) (to : ℕ) → to ≤ length text → IsOf kind (slice_range text from to) → ⊥

-- No piece is at from: the octets up to `at` begin one, and with the one at `at` they begin none. No line
-- feed comes before.
pub record IsBadOctet (text : List ℕ) (from at : ℕ) : Type 0 where
  pub stuck : IsStuck text from
  pub after : from ≤ at
  pub within : at < length text
  pub begins : Begins (slice_range text from at)
  pub ends : Begins (slice_range text from (at + 1)) → ⊥
  pub one_line : (k : ℕ) → from ≤ k → k ≤ at → slice_index text k ≢ 10

-- No piece is at from: the octets up to a line feed or to the text's end begin one.
pub record IsOpenText (text : List ℕ) (from : ℕ) : Type 0 where
  pub stuck : IsStuck text from
  pub stop : ℕ
  pub after : from < stop
  pub within : stop ≤ length text
  pub begins : Begins (slice_range text from stop)
  pub ended : (stop ≡ length text) ⊎ (slice_index text stop ≡ 10)

-- Why nothing can be cut at from, and where that is said: at the octet that cannot stand there, else at from.
abbrev pub IsRefused : List ℕ → ℕ → ℕ → LexKind → Type 0
IsRefused text from at fault.BadOctet = IsBadOctet text from at
IsRefused text from at fault.OpenText = (at ≡ from) × IsOpenText text from
IsRefused text from at fault.OpenComment =
    (at ≡ from) × OpensComment text from × ((to : ℕ) → to ≤ length text → IsOf piece.Comment (slice_range text from to) → ⊥)
IsRefused text from at fault.LongName = (at ≡ from) × ((to : ℕ) × IsLongest text (piece.Token token.Word) from to × (from + 31 < to))
IsRefused text from at fault.BadNumber =
    (at ≡ from) × ((to : ℕ) × IsLongest text (piece.Token token.Number) from to × (is_some (number_of (slice_range text from to)) ≡ false))
IsRefused text from at fault.TooLong = ⊥

-- ## A text and its tokens

pub record Lexed : Type 0 where
  pub text : List ℕ
  pub tokens : List Token

-- A text of at most 1,048,576 octets, with no more tokens than octets, each of which lies in it.
pub record AreWithin (text : List ℕ) (tokens : List Token) : Type 0 where
  pub short : length text ≤ 1048576
  pub few : length tokens ≤ length text
  pub each : All (λ t. (t.from ≤ t.to) × (t.to ≤ length text)) tokens

-- a token of a text: a word is an identifier, and a UUID has its form
pub record IsFormed (text : List ℕ) (t : Token) : Type 0 where
  pub word : t.kind ≡ token.Word → is_identifier (slice_range text t.from t.to) ≡ true
  pub uuid : t.kind ≡ token.Uuid → IsUuid (slice_range text t.from t.to)

-- each token of a text is so
abbrev pub AreFormed : Lexed → Type 0
AreFormed lexed = AllByRecursion (IsFormed lexed.text) lexed.tokens

-- the octet where a token begins, or the text's length
abbrev pub place_of : Lexed → ℕ → ℕ
place_of lexed k = unwrap_or (option_map (λ t. t.from) (slice_get lexed.tokens k)) (length lexed.text)

abbrev pub IsKindOf : Lexed → ℕ → TokenKind → Type 0
IsKindOf lexed k kind = option_map (λ t. t.kind) (slice_get lexed.tokens k) ≡ Some kind

abbrev pub IsTextOf : Lexed → ℕ → List ℕ → Type 0
IsTextOf lexed k octets = option_map (λ t. slice_range lexed.text t.from t.to) (slice_get lexed.tokens k) ≡ Some octets

-- ## The tokens of a whole text, or its first fault

-- the greatest number of octets of a text
abbrev pub text_limit : ℕ
text_limit = 1048576

-- pieces one after the other, from a place to another
abbrev pub AreCut : List ℕ → ℕ → List Piece → ℕ → Type 0
AreCut text from [] to = to ≡ from
AreCut text from (p ∷ ps) to = (p.from ≡ from) × IsCut text p × AreCut text p.to ps to

-- the token that a piece is, if it is one
abbrev pub token_of : Piece → List Token
token_of p = elim p.kind [ piece.Space ↦ [] | piece.Comment ↦ [] | piece.Token kind ↦ (record { kind = kind; from = p.from; to = p.to }) ∷ [] ]

-- the whole text is cut, and these are its tokens, in order
pub record AreTokens (text : List ℕ) (tokens : List Token) : Type 0 where
  pub short : length text ≤ text_limit
  pub pieces : List Piece
  pub cut : AreCut text 0 pieces (length text)
  pub are : tokens ≡ flat_map token_of pieces

-- the text is cut up to a place, where nothing can be cut
pub record IsFirstFault (text : List ℕ) (at : ℕ) (kind : LexKind) : Type 0 where
  pub short : length text ≤ text_limit
  pub from : ℕ
  pub within : from < length text
  pub pieces : List Piece
  pub cut : AreCut text 0 pieces from
  pub refused : IsRefused text from at kind

pub data Verdict : Type 0 where
  Cut : (tokens : List Token) → Verdict
  Refused : (at : ℕ) (kind : LexKind) → Verdict

-- What is right to say of a text: a text that is too long is cut nowhere.
abbrev pub IsVerdict : List ℕ → Verdict → Type 0
IsVerdict text (Cut tokens) = AreTokens text tokens
IsVerdict text (Refused at fault.TooLong) = (text_limit < length text) × (at ≡ text_limit)
IsVerdict text (Refused at kind) = IsFirstFault text at kind

-- A text has a verdict.
pub record HasVerdict (text : List ℕ) : Type 0 where
  pub verdict : Verdict
  pub right : IsVerdict text verdict

-- an error of `lex`: the first fault, unless memory was wanting
abbrev pub IsFault : List ℕ → LexFault → Type 0
IsFault text errors.Memory = Unit {0}
IsFault text (errors.At at kind) = IsVerdict text (Refused at kind)

-- what `lex` answered is a verdict, unless memory was wanting
abbrev pub Answers : Verdict → Result Lexed LexFault → Type 0
Answers v (Ok lexed) = v ≡ Cut lexed.tokens
Answers v (Err errors.Memory) = Unit {0}
Answers v (Err (errors.At at kind)) = v ≡ Refused at kind
