-- What a function of a parser returned is what a reading gives, unless memory was wanting.
use Rattle.std.specs.Prelude.{◌≡◌, ◌≢◌, ◌<◌, ℕ, length, Result, Ok, Err}
use Rattle.idl_grammar.specs.Text.{Text, lexeme_at, the_end, Depth, Ban}
use Rattle.idl_grammar.specs.declared.refusal.Refusal.{Refusal}
use Rattle.idl_grammar.specs.declared.refusal.Refusal.TheVariants as refusal
use Rattle.idl_grammar.specs.ReadPhrases.{Fault, Syntax, Passes, Read}

abbrev pub Fails : {Y : Type 0} → Refusal → Result Y Fault → Type 0
Fails refusal.Memory read = Unit {0}
Fails (refusal.Syntax k) read = read ≡ Err (Syntax k)
Fails (refusal.Deep k) read = read ≡ Err (Passes Depth k)
Fails (refusal.Banned k) read = read ≡ Err (Passes Ban k)

-- a value and the next place, the value as a view sees it
abbrev pub Gives : {X Y : Type 0} → (X → Y) → Result (X × ℕ) Refusal → Read Y → Type 0
Gives view (Ok x) read = read ≡ Ok (view x.0, x.1)
Gives view (Err e) read = Fails e read

-- the same of a whole text
abbrev pub GivesWhole : {X Y : Type 0} → (X → Y) → Result X Refusal → Result Y Fault → Type 0
GivesWhole view (Ok x) read = read ≡ Ok (view x)
GivesWhole view (Err e) read = Fails e read

-- no token is the end
abbrev pub IsText : Text → Type 0
IsText t = (i : ℕ) → i < length t → lexeme_at t i ≢ the_end

-- the next place alone
abbrev pub GivesPlace : Result ℕ Refusal → Read (Unit {0}) → Type 0
GivesPlace (Ok m) read = read ≡ Ok (tt, m)
GivesPlace (Err e) read = Fails e read
