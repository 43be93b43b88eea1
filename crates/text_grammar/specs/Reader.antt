-- What comes of a text when it is read token by token: it is read to its end, or it stops at the first token that cannot follow.
-- `x` and `y` are what has been read, `t` is a token, `e` what comes of it.
use Rattle.std.specs.Prelude.{◌≡◌, ℕ, true, false, List, [], ◌∷◌, length, Ok, Err}
use Rattle.nd_types.specs.Table.{Table}
use Rattle.text_grammar.specs.declared.fault.TextReason.{TextReason}
use Rattle.text_grammar.specs.declared.fault.TextReason.TheVariants as reason
use Rattle.text_grammar.specs.Tokens.{Token, skip, cutting, IsCut}
use Rattle.text_grammar.specs.Reads.{IsNext, Bad}
use Rattle.text_grammar.specs.Dues.{Reading, next_read, may_end}

-- the whole text is read; or it stops where so many octets are left, for a reason
pub data Ending : Type 0 where
  Whole : (x : Reading) → Ending
  Stopped : (left : ℕ) (why : TextReason) → Ending

-- where a text ends nothing more may be due
abbrev pub at_end : Reading → Ending
at_end x = elim (may_end x) [ true ↦ Whole x | false ↦ Stopped 0 reason.Expected ]

-- After tokens, of which the last comes first, a text comes to this ending.
pub data ComesTo (table : Table) : Reading → List Token → List ℕ → Ending → Type 0 where
  goes_on : {x : Reading} {before : List Token} {text : List ℕ} {e : Ending} (y : Reading) (t : Token) (rest : List ℕ)
      → IsCut (cutting before) text t rest
      → next_read table x t ≡ Ok y
      → ComesTo table y (t ∷ before) rest e
      → ComesTo table x before text e
  refused : {x : Reading} {before : List Token} {text : List ℕ} (t : Token) (rest : List ℕ) (why : TextReason)
      → IsCut (cutting before) text t rest
      → next_read table x t ≡ Err why
      → ComesTo table x before text (Stopped (length (skip text)) why)
  no_token : {x : Reading} {before : List Token} {text : List ℕ}
      → IsNext (cutting before) text Bad
      → ComesTo table x before text (Stopped (length (skip text)) reason.BadToken)
  ended : {x : Reading} {before : List Token} {text : List ℕ}
      → skip text ≡ []
      → ComesTo table x before text (at_end x)
