-- What a script is: lines, each with a line feed.
use Rattle.std.specs.Prelude.{◌≡◌, ◌≢◌, ◌⊎◌, ℕ, suc, ◌+◌, Bool, List, [], ◌∷◌, length, take, drop, position, Option, Some, None, option_map, nat_le}
use Rattle.std.specs.Prelude.{◌==◌, ◌&&◌, if◌then◌else◌, codes}
use Rattle.std.specs.List.{list_all}
use Rattle.uuid.specs.Text.{parsed}
use Rattle.ctx_session.specs.Numbers.{is_word, number_of}

-- a line: a resource is opened for a client under an identifier; a text is applied to one; one is ended; all of a client are ended
pub data Line : Type 0 where
  Open : (client : ℕ) (id : List ℕ) → Line
  Use : (id text : List ℕ) → Line
  Close : (id : List ℕ) → Line
  Down : (client : ℕ) → Line

-- the client that a word names: 0 to 4294967295, in decimal digits without a leading zero
abbrev pub client_of : List ℕ → Option ℕ
client_of word = number_of 0 4294967295 word

-- the identifier that a word names: 36 octets, the form with hyphens, its digits in either case
abbrev pub id_of : List ℕ → Option (List ℕ)
id_of word = if length word == 36 then parsed word else None

-- an octet of a text
abbrev pub is_printable : ℕ → Bool
is_printable c = nat_le 32 c && nat_le c 126

-- what follows a word at the front
abbrev pub after : List ℕ → List ℕ → Option (List ℕ)
after word octets = if is_word (take (length word) octets) word then Some (drop (length word) octets) else None

abbrev pub open_by : Option ℕ → Option (List ℕ) → Option Line
open_by (Some client) (Some id) = Some (Open client id)
open_by client id = None

abbrev pub use_by : Option (List ℕ) → Option (List ℕ) → Option Line
use_by (Some id) (Some text) = if list_all is_printable text then Some (Use id text) else None
use_by id text = None

-- a client before a place, and an identifier after it
abbrev pub opened_at : Option ℕ → List ℕ → Option Line
opened_at None rest = None
opened_at (Some at) rest = open_by (client_of (take at rest)) (id_of (drop (at + 1) rest))

-- what follows `open `: a client, a space, an identifier
abbrev pub opened : List ℕ → Option Line
opened rest = opened_at (position (λ c. c == 32) rest) rest

-- what follows `use `: an identifier, a space, a text
abbrev pub used : List ℕ → Option Line
used rest = use_by (id_of (take 36 rest)) (after (codes " ") (drop 36 rest))

-- what follows `close `: an identifier
abbrev pub closed : List ℕ → Option Line
closed rest = option_map Close (id_of rest)

-- what follows `down `: a client
abbrev pub downed : List ℕ → Option Line
downed rest = option_map Down (client_of rest)

abbrev pub line_by : Option (List ℕ) → Option (List ℕ) → Option (List ℕ) → Option (List ℕ) → Option Line
line_by (Some rest) b c d = opened rest
line_by None (Some rest) c d = used rest
line_by None None (Some rest) d = closed rest
line_by None None None (Some rest) = downed rest
line_by None None None None = None

-- the line that octets without a line feed are, if they are one
abbrev pub line_of : List ℕ → Option Line
line_of octets = line_by (after (codes "open ") octets) (after (codes "use ") octets) (after (codes "close ") octets) (after (codes "down ") octets)

-- the place of the first line feed
abbrev pub feed_of : List ℕ → Option ℕ
feed_of octets = position (λ c. c == 10) octets

-- Octets begin with this line, which ends at the line feed at this place.
pub record BeginsWith (octets : List ℕ) (at : ℕ) (line : Line) : Type 0 where
  pub feed : feed_of octets ≡ Some at
  pub line_is : line_of (take at octets) ≡ Some line

-- octets begin with a line
abbrev pub HasLine : List ℕ → Type 0
HasLine octets = (at : ℕ) × (line : Line) × BeginsWith octets at line

-- Octets are these lines, each with its line feed.
pub data AreLines : List ℕ → List Line → Type 0 where
  none : AreLines [] []
  more : {octets : List ℕ} {at : ℕ} {line : Line} {lines : List Line} → BeginsWith octets at line → AreLines (drop (at + 1) octets) lines
      → AreLines octets (line ∷ lines)

-- Octets begin with what is no line: they have no line feed, or what is before the first one is no line.
pub record IsOther (octets : List ℕ) : Type 0 where
  pub some : octets ≢ []
  pub other : (feed_of octets ≡ None) ⊎ ((at : ℕ) × (feed_of octets ≡ Some at) × (line_of (take at octets) ≡ None))

-- Octets are so many lines, counted from 1, up to what is no line.
pub data IsBadLine : List ℕ → ℕ → Type 0 where
  here : {octets : List ℕ} → IsOther octets → IsBadLine octets 1
  later : {octets : List ℕ} {at n : ℕ} {line : Line} → BeginsWith octets at line → IsBadLine (drop (at + 1) octets) n → IsBadLine octets (suc n)

-- whether a line opens a resource, as a number
abbrev pub opens_of : Line → ℕ
opens_of (Open client id) = 1
opens_of (Use id text) = 0
opens_of (Close id) = 0
opens_of (Down client) = 0

-- how many lines open a resource
abbrev pub opens_in : List Line → ℕ
opens_in [] = 0
opens_in (line ∷ lines) = opens_of line + opens_in lines

-- Octets are a script of so many lines, of which so many open a resource.
pub record AreScript (octets : List ℕ) (count opens : ℕ) : Type 0 where
  pub lines : List Line
  pub are_lines : AreLines octets lines
  pub count_is : count ≡ length lines
  pub opens_is : opens ≡ opens_in lines
