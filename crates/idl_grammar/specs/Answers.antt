-- What is answered on a whole text: its tree, or the first fault.
use Rattle.std.specs.Prelude.{◌≡◌, ◌⊎◌, ℕ, ◌+◌, Bool, true, false, not, ◌&&◌, if◌then◌else◌, ◌==◌, nat_le, [], ◌∷◌, ◌++◌, length, take, Result, Ok}
use Rattle.std.specs.Prelude.{Err}
use Rattle.idl_grammar.specs.Text.{Text, the_end, Rule, Depth, Ban, Lifted, Phrase, symbol_at, is}
use Rattle.idl_grammar.specs.ReadPhrases.{Fault, Syntax, Passes, Read}
use Rattle.idl_grammar.specs.Symbols as symbol
use Rattle.idl_grammar.specs.Tree.{Tree}
use Rattle.idl_grammar.specs.Reading.{file_read}

-- ## The answer on the phrases of any grammar

-- A text begins with the first n tokens of t. The end counts as a token: with n = count + 1 this says x ≡ t.
abbrev pub begins : Text → ℕ → Text → Type 0
begins t n x = take n (x ++ the_end ∷ []) ≡ take n (t ++ the_end ∷ [])

-- a text is a phrase, with these rules lifted
abbrev pub derives : {A : Type 0} → (A → Phrase) → Lifted → A → Text → Type 0
derives p lifted a x = p a lifted x 0 (length x)

abbrev pub is_rule : Rule → Rule → Bool
is_rule Depth Depth = true
is_rule Ban Ban = true
is_rule Depth Ban = false
is_rule Ban Depth = false

-- every rule stands
abbrev pub strict : Lifted
strict rule i = false

-- none does
abbrev pub lax : Lifted
lax rule i = true

-- the limits stand before token k alone, and the bans stand
abbrev pub limits_before : ℕ → Lifted
limits_before k Depth i = nat_le k i
limits_before k Ban i = false

-- the same, but that a rule does not stand at k
abbrev pub limits_before_but : Rule → ℕ → Lifted
limits_before_but Depth k rule i = limits_before k rule i
limits_before_but Ban k Depth i = nat_le k i
limits_before_but Ban k Ban i = i == k

-- one rule is at one token alone
abbrev pub all_but : Rule → ℕ → Lifted
all_but rule k other i = not (is_rule other rule && i == k)

-- Some text of the language begins with the first k tokens, and none with the next one too.
pub record IsSyntax {A : Type 0} (p : A → Phrase) (t : Text) (k : ℕ) : Type 0 where
  pub some : (x : Text) × (a : A) × begins t k x × derives p (limits_before k) a x
  pub none : (x : Text) (a : A) → begins t (k + 1) x → derives p lax a x → ⊥

-- Token k goes on, but for a rule that refuses it.
pub record IsRefused {A : Type 0} (p : A → Phrase) (t : Text) (rule : Rule) (k : ℕ) : Type 0 where
  pub some : (x : Text) × (a : A) × begins t (k + 1) x × derives p (limits_before_but rule k) a x
  pub none : (x : Text) (a : A) → begins t (k + 1) x → derives p (all_but rule k) a x → ⊥

-- a tree of the text, and no other, whatever is lifted
pub record IsTree {A : Type 0} (p : A → Phrase) (t : Text) (a : A) : Type 0 where
  pub derived : derives p strict a t
  pub only : (b : A) → derives p lax b t → b ≡ a

abbrev pub Judges : {A : Type 0} → (A → Phrase) → Text → Result A Fault → Type 0
Judges p t (Ok a) = IsTree p t a
Judges p t (Err (Syntax k)) = IsSyntax p t k
Judges p t (Err (Passes rule k)) = IsRefused p t rule k

-- a phrase that ends where the text does
abbrev pub whole_read : {A : Type 0} → Read A → Text → Result A Fault
whole_read (Err f) t = Err f
whole_read (Ok x) t = if x.1 == length t then Ok x.0 else Err (Syntax x.1)

-- ## The answer on the tokens of a file: its tree, or the first fault

-- A word that is banned anywhere is named as such where any other token would be a fault of syntax.

-- token k is a word that is banned anywhere
unfoldable pub is_banned : Text → ℕ → Bool
is_banned t k = is (symbol_at t k) symbol.Banned

-- Token k is a banned word in its place: no text goes on with it, since it is banned anywhere; or a text goes on with it, but for
-- its ban where an attribute begins.
pub record IsBanned {A : Type 0} (p : A → Phrase) (t : Text) (k : ℕ) : Type 0 where
  pub place : (IsSyntax p t k × (is_banned t k ≡ true)) ⊎ IsRefused p t Ban k

-- a right answer
abbrev pub Answers : {A : Type 0} → (A → Phrase) → Text → Result A Fault → Type 0
Answers p t (Ok a) = IsTree p t a
Answers p t (Err (Syntax k)) = IsSyntax p t k × (is_banned t k ≡ false)
Answers p t (Err (Passes Depth k)) = IsRefused p t Depth k
Answers p t (Err (Passes Ban k)) = IsBanned p t k

-- a fault of syntax as it is named
abbrev pub named_fault : Text → Fault → Fault
named_fault t (Syntax k) = if is_banned t k then Passes Ban k else Syntax k
named_fault t (Passes rule k) = Passes rule k

abbrev pub named : {A : Type 0} → Text → Result A Fault → Result A Fault
named t (Ok a) = Ok a
named t (Err f) = Err (named_fault t f)

-- what is answered on the tokens of a file, with so many levels for types and for expressions
unfoldable pub file_answer : ℕ → ℕ → Text → Result Tree Fault
file_answer fuel nesting t = named t (whole_read (file_read fuel nesting t 0) t)
