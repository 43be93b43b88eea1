-- Which kinds of piece an octet may begin.
use Rattle.std.proofs.Common.{◌≡◌, ◌≢◌, ℕ, ◌<◌, ◌≤◌, Bool, true, false, not, ◌||◌, ◌⊎◌, inl, inr, List, [], ◌∷◌, length, refl, sym, ap, arith, ◌∙◌}
use Rattle.std.specs.Prelude.{slice_index, eqb, codes}
use Rattle.std.specs.List.{list_all}
use Rattle.std.proofs.lemmas.Bool.Decides.{nat_tests, eqb_tells}
use Rattle.idl_lexer.specs.declared.tokens.TokenKind.TheVariants as token
use Rattle.idl_lexer.specs.declared.cut.PieceKind.{PieceKind}
use Rattle.idl_lexer.specs.declared.cut.PieceKind.TheVariants as piece
use Rattle.nd_base.specs.Text.{is_letter, is_digit, is_hex_digit, is_word_octet}
use Rattle.idl_lexer.specs.Pieces.{is_space, is_one_of, is_mark_octet, are, are_mark, IsOf, char_goes_on, string_goes_on}
use Rattle.std.proofs.lemmas.Bool.{and_parts as both, not-true as not_true, or_left, or_right}
use Rattle.nd_lemmas.proofs.Booleans.{clash}

pub one_of_passes : (p : ℕ → Bool) (octets : List ℕ) (c : ℕ) → list_all p octets ≡ true → is_one_of octets c ≡ true → p c ≡ true
one_of_passes p [] c all one = clash false one refl
one_of_passes p (d ∷ ds) c all one = elim (eqb_tells c d) as (λ _. p c ≡ true) [
  | inl e ↦ ap p e.1 ∙ (both (p d) (list_all p ds) all).0
  | inr n ↦ one_of_passes p ds c (both (p d) (list_all p ds) all).1 (sym (ap (λ (b : Bool). b || is_one_of ds c) n.0) ∙ one)
]

-- the octets that may begin a piece of a kind
abbrev pub may_begin : PieceKind → ℕ → Bool
may_begin piece.Space c = is_space c
may_begin piece.Comment c = eqb c 47
may_begin (piece.Token token.Word) c = is_letter c
may_begin (piece.Token token.Number) c = is_digit c
may_begin (piece.Token token.Uuid) c = is_hex_digit c
may_begin (piece.Token token.Char) c = eqb c 39
may_begin (piece.Token token.Str) c = eqb c 34
may_begin (piece.Token token.Mark) c = is_mark_octet c

pub are_equal : (c d : ℕ) (text : List ℕ) → are c d text ≡ true → (c ≡ slice_index text 0) × (d ≡ slice_index text 1)
are_equal c d text h = grind (arith, nat_tests, h)

-- the first octet of a mark of two is a mark
mark_begins : (c d : ℕ) → are_mark c d ≡ true → is_mark_octet c ≡ true
mark_begins c d h = grind (arith, nat_tests, h)

pub begins : (kind : PieceKind) (octets : List ℕ) → IsOf kind octets → may_begin kind (slice_index octets 0) ≡ true
begins piece.Space octets is = is.1
begins piece.Comment octets is = ap (λ (c : ℕ). eqb c 47) is.opens.0
begins (piece.Token token.Word) octets is = is.begins
begins (piece.Token token.Number) octets is = is.begins
begins (piece.Token token.Uuid) octets is = is.each 0 (omega arith)
begins (piece.Token token.Char) [] is = clash false is refl
begins (piece.Token token.Char) (c ∷ cs) is = (both (eqb c 39) (char_goes_on cs) is).0
begins (piece.Token token.Str) [] is = clash false is refl
begins (piece.Token token.Str) (c ∷ cs) is = (both (eqb c 34) (string_goes_on cs) is).0
begins (piece.Token token.Mark) [] is = clash false is refl
begins (piece.Token token.Mark) (c ∷ []) is = is
begins (piece.Token token.Mark) (c ∷ d ∷ []) is = mark_begins c d is
begins (piece.Token token.Mark) (c ∷ d ∷ e ∷ cs) is = clash false is refl

pub is_some : (kind : PieceKind) (octets : List ℕ) → IsOf kind octets → 0 < length octets
is_some piece.Space octets is = omega (arith, is.0)
is_some piece.Comment octets is = omega (arith, is.long)
is_some (piece.Token token.Word) octets is = is.some
is_some (piece.Token token.Number) octets is = is.some
is_some (piece.Token token.Uuid) octets is = omega (arith, is.long)
is_some (piece.Token token.Char) [] is = clash false is refl
is_some (piece.Token token.Char) (c ∷ cs) is = omega arith
is_some (piece.Token token.Str) [] is = clash false is refl
is_some (piece.Token token.Str) (c ∷ cs) is = omega arith
is_some (piece.Token token.Mark) [] is = clash false is refl
is_some (piece.Token token.Mark) (c ∷ cs) is = omega arith

-- ## the classes apart

-- marks are no letters, digits, spaces or quotes
abbrev is_apart : ℕ → Bool
is_apart c = (is_word_octet c || is_space c) || (eqb c 34 || eqb c 39)

mark_apart : (c : ℕ) → is_mark_octet c ≡ true → is_apart c ≡ false
mark_apart c h = not_true (is_apart c) (one_of_passes (λ d. not (is_apart d)) (codes "[](){},;:=*.+-/%~!&|^<>?") c refl h)

pub mark_no_word : (c : ℕ) → is_mark_octet c ≡ true → is_word_octet c ≡ true → ⊥
mark_no_word c m w = clash (is_apart c) (or_left (is_word_octet c || is_space c) (eqb c 34 || eqb c 39) (or_left (is_word_octet c) (is_space c) w)) (mark_apart c m)

pub mark_no_space : (c : ℕ) → is_mark_octet c ≡ true → is_space c ≡ true → ⊥
mark_no_space c m w = clash (is_apart c) (or_left (is_word_octet c || is_space c) (eqb c 34 || eqb c 39) (or_right (is_word_octet c) (is_space c) w)) (mark_apart c m)

space_low : (c : ℕ) → is_space c ≡ true → c < 33
space_low c h = grind (arith, nat_tests, h)

word_high : (c : ℕ) → is_word_octet c ≡ true → 48 ≤ c
word_high c h = grind (arith, nat_tests, h)

pub space_no_word : (c : ℕ) → is_space c ≡ true → is_word_octet c ≡ true → ⊥
space_no_word c s w = let a = space_low c s in let b = word_high c w in omega arith

pub letter_no_digit : (c : ℕ) → is_letter c ≡ true → is_digit c ≡ true → ⊥
letter_no_digit c l d = grind (arith, nat_tests, l, d)

pub hex_word : (c : ℕ) → is_hex_digit c ≡ true → is_word_octet c ≡ true
hex_word c h = grind (arith, nat_tests, h)

pub equal_octets : (c d : ℕ) → eqb c d ≡ true → c ≡ d
equal_octets c d h = elim (eqb_tells c d) as (λ _. c ≡ d) [ inl e ↦ e.1 | inr n ↦ clash (eqb c d) h n.0 ]

-- a word octet is none that its own test refuses
pub no_word_at : (c d : ℕ) → is_word_octet d ≡ false → eqb c d ≡ true → is_word_octet c ≡ true → ⊥
no_word_at c d none e w = clash (is_word_octet d) (sym (ap is_word_octet (equal_octets c d e)) ∙ w) none

-- ## the kinds that an octet may begin

-- words, numbers and UUIDs
abbrev pub IsRunKind : PieceKind → Type 0
IsRunKind (piece.Token token.Word) = Unit {0}
IsRunKind (piece.Token token.Number) = Unit {0}
IsRunKind (piece.Token token.Uuid) = Unit {0}
IsRunKind _ = ⊥

pub word_kind : (kind : PieceKind) (c : ℕ) → is_word_octet c ≡ true → may_begin kind c ≡ true → IsRunKind kind
word_kind piece.Space c w b = space_no_word c b w
word_kind piece.Comment c w b = no_word_at c 47 refl b w
word_kind (piece.Token token.Word) c w b = tt
word_kind (piece.Token token.Number) c w b = tt
word_kind (piece.Token token.Uuid) c w b = tt
word_kind (piece.Token token.Char) c w b = no_word_at c 39 refl b w
word_kind (piece.Token token.Str) c w b = no_word_at c 34 refl b w
word_kind (piece.Token token.Mark) c w b = mark_no_word c b w

pub space_kind : (kind : PieceKind) (c : ℕ) → is_space c ≡ true → may_begin kind c ≡ true → kind ≡ piece.Space
space_kind piece.Space c s b = refl
space_kind piece.Comment c s b = clash (is_space c) s (ap is_space (equal_octets c 47 b))
space_kind (piece.Token token.Word) c s b = absurd (space_no_word c s (or_left (is_letter c) (is_digit c) b))
space_kind (piece.Token token.Number) c s b = absurd (space_no_word c s (or_right (is_letter c) (is_digit c) b))
space_kind (piece.Token token.Uuid) c s b = absurd (space_no_word c s (hex_word c b))
space_kind (piece.Token token.Char) c s b = clash (is_space c) s (ap is_space (equal_octets c 39 b))
space_kind (piece.Token token.Str) c s b = clash (is_space c) s (ap is_space (equal_octets c 34 b))
space_kind (piece.Token token.Mark) c s b = absurd (mark_no_space c b s)

pub string_kind : (kind : PieceKind) → may_begin kind 34 ≡ true → kind ≡ piece.Token token.Str
string_kind piece.Space b = clash false b refl
string_kind piece.Comment b = clash false b refl
string_kind (piece.Token token.Word) b = clash false b refl
string_kind (piece.Token token.Number) b = clash false b refl
string_kind (piece.Token token.Uuid) b = clash false b refl
string_kind (piece.Token token.Char) b = clash false b refl
string_kind (piece.Token token.Str) b = refl
string_kind (piece.Token token.Mark) b = clash false b refl

pub char_kind : (kind : PieceKind) → may_begin kind 39 ≡ true → kind ≡ piece.Token token.Char
char_kind piece.Space b = clash false b refl
char_kind piece.Comment b = clash false b refl
char_kind (piece.Token token.Word) b = clash false b refl
char_kind (piece.Token token.Number) b = clash false b refl
char_kind (piece.Token token.Uuid) b = clash false b refl
char_kind (piece.Token token.Char) b = refl
char_kind (piece.Token token.Str) b = clash false b refl
char_kind (piece.Token token.Mark) b = clash false b refl

pub mark_kind : (kind : PieceKind) (c : ℕ) → is_mark_octet c ≡ true → may_begin kind c ≡ true → ((kind ≡ piece.Comment) × (c ≡ 47)) ⊎ (kind ≡ piece.Token token.Mark)
mark_kind piece.Space c m b = absurd (mark_no_space c m b)
mark_kind piece.Comment c m b = inl (refl, equal_octets c 47 b)
mark_kind (piece.Token token.Word) c m b = absurd (mark_no_word c m (or_left (is_letter c) (is_digit c) b))
mark_kind (piece.Token token.Number) c m b = absurd (mark_no_word c m (or_right (is_letter c) (is_digit c) b))
mark_kind (piece.Token token.Uuid) c m b = absurd (mark_no_word c m (hex_word c b))
mark_kind (piece.Token token.Char) c m b = clash (is_mark_octet c) m (ap is_mark_octet (equal_octets c 39 b))
mark_kind (piece.Token token.Str) c m b = clash (is_mark_octet c) m (ap is_mark_octet (equal_octets c 34 b))
mark_kind (piece.Token token.Mark) c m b = inr refl

-- an octet of no class begins nothing
pub nothing_begins : (kind : PieceKind) (c : ℕ) → is_space c ≡ false → is_word_octet c ≡ false → eqb c 34 ≡ false → eqb c 39 ≡ false → is_mark_octet c ≡ false → may_begin kind c ≡ true → ⊥
nothing_begins piece.Space c s w q a m b = clash (is_space c) b s
nothing_begins piece.Comment c s w q a m b = clash (is_mark_octet c) (ap is_mark_octet (equal_octets c 47 b)) m
nothing_begins (piece.Token token.Word) c s w q a m b = clash (is_word_octet c) (or_left (is_letter c) (is_digit c) b) w
nothing_begins (piece.Token token.Number) c s w q a m b = clash (is_word_octet c) (or_right (is_letter c) (is_digit c) b) w
nothing_begins (piece.Token token.Uuid) c s w q a m b = clash (is_word_octet c) (hex_word c b) w
nothing_begins (piece.Token token.Char) c s w q a m b = clash (eqb c 39) b a
nothing_begins (piece.Token token.Str) c s w q a m b = clash (eqb c 34) b q
nothing_begins (piece.Token token.Mark) c s w q a m b = clash (is_mark_octet c) b m

pub unequal : (c d : ℕ) → c ≢ d → eqb c d ≡ false
unequal c d h = elim (eqb_tells c d) as (λ _. eqb c d ≡ false) [ inl e ↦ absurd (h e.1) | inr n ↦ n.0 ]
