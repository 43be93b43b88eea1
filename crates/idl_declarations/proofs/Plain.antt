-- Attributes of one word.
use Rattle.std.proofs.Common.{◌≡◌, ℕ, ◌+◌, ◌<◌, Bool, true, false, ◌||◌, cond, eqb, length, refl, sym, ap, ◌∙◌, List, [], ◌∷◌, Ok, Err, Option, Some, None, option_map}
use Rattle.std.proofs.Math.Bool.{or-false}
use Rattle.idl_grammar.specs.Text.{Text, symbol_at, is, is_in, Ban}
use Rattle.idl_grammar.specs.ReadPhrases.{Read, Syntax, Passes, mark_read}
use Rattle.idl_grammar.specs.Symbols as symbol
use Rattle.idl_grammar.specs.Tree as tree
use Rattle.idl_grammar.specs.declared.attributes.AttributeKind.{AttributeKind}
use Rattle.idl_grammar.specs.Seen.{seen_kind}
use Rattle.idl_grammar.specs.Reading.{one_of_read, plain_words, local_read}
use Rattle.idl_tokens.specs.Found.{found}
use Rattle.idl_tokens.proofs.Basics.{one_of_found, one_of_none, found_within}

pub plain_found : (t : Text) (i : ℕ) (o : Option AttributeKind) (k : AttributeKind) → option_map seen_kind o ≡ found plain_words (symbol_at t i) → o ≡ Some k
    → one_of_read tree.Maybe plain_words t i ≡ Ok (seen_kind k, i + 1)
plain_found t i o k h e = one_of_found tree.Maybe plain_words t i (seen_kind k) (sym h ∙ ap (option_map seen_kind) e)

pub plain_none : (t : Text) (i : ℕ) (o : Option AttributeKind) → option_map seen_kind o ≡ found plain_words (symbol_at t i) → o ≡ None → one_of_read tree.Maybe plain_words t i ≡ Err (Syntax i)
plain_none t i o h e = one_of_none tree.Maybe plain_words t i (sym h ∙ ap (option_map seen_kind) e)

pub plain_within : (t : Text) (i : ℕ) (o : Option AttributeKind) (k : AttributeKind) → option_map seen_kind o ≡ found plain_words (symbol_at t i) → o ≡ Some k → i < length t
plain_within t i o k h e = found_within plain_words t i (seen_kind k) refl (sym h ∙ ap (option_map seen_kind) e)

pub banned_here : (t : Text) (i : ℕ) → is (symbol_at t i) symbol.BannedAttribute ≡ true → local_read t i ≡ Err (Passes Ban i)
banned_here t i h = rw h (by_case (is (symbol_at t i) symbol.Local)) where
  by_case : (b : Bool) → cond {A = Read (Unit {0})} (b || true) (Err (Passes Ban i)) (Err (Syntax i)) ≡ Err (Passes Ban i)
  by_case true = refl
  by_case false = refl

abbrev here : ℕ → Bool → Read (Unit {0})
here i b = cond b (Ok (tt, i + 1)) (Err (Syntax i))

pub not_banned : (t : Text) (i : ℕ) → is (symbol_at t i) symbol.BannedAttribute ≡ false → local_read t i ≡ mark_read symbol.Local t i
not_banned t i h = rw h (ap (here i) (or-false (is (symbol_at t i) symbol.Local)))
