-- What texts of a side are read as, what is printed, and why a text is refused.
-- `operation` and `side` are numbers, `q` is the request of a response.
use Rattle.std.specs.Prelude.{◌≡◌, ℕ, List, length, Some, None, slice_get}
use Rattle.nd_types.specs.declared.interface.Interface.{Interface}
use Rattle.nd_types.specs.declared.types.Operation.{Operation}
use Rattle.nd_types.specs.declared.types.Side.TheVariants.{Out}
use Rattle.nd_value.specs.Fitting.{Fitting, setting_beside}
use Rattle.text_grammar.specs.Written.{IsText}
use Rattle.text_grammar.specs.Reads.{ReadsAs}
use Rattle.command_refusals.specs.declared.refusal.Refusal.{Refusal}
use Rattle.command_refusals.specs.declared.refusal.Refusal.TheVariants.{Memory}
use Rattle.command_encode.specs.Encoded.{IsTextCause}
use Rattle.library_values.specs.Decoded.{IsOf}
use Rattle.library_answers.specs.Answers.{OfSide}

-- the text reads as the values, which are of that side, beside no request
abbrev pub IsRead : Interface → ℕ → ℕ → List ℕ → Fitting → Type 0
IsRead i operation side text v = OfSide i operation side (λ o s. ReadsAs (setting_beside i o s None) text v.graph × IsOf i operation s None v)

-- the text is refused as one of that side, and memory is not the reason
abbrev pub IsReadRefusal : Interface → ℕ → ℕ → List ℕ → Refusal → Type 0
IsReadRefusal i operation side text e = (e ≡ Memory → ⊥) × OfSide i operation side (λ o s. IsTextCause (setting_beside i o s None) text e)

-- the text reads as the values, which are of the response to the request
abbrev pub IsReply : Fitting → List ℕ → Fitting → Type 0
IsReply q text v =
    ((o : Operation) → slice_get q.interface.operations q.op ≡ Some o → ReadsAs (setting_beside q.interface o Out (Some q.graph)) text v.graph)
    × IsOf q.interface q.op Out (Some q.graph) v

-- the text is refused as one of the response to the request, and memory is not the reason
abbrev pub IsReplyRefusal : Fitting → List ℕ → Refusal → Type 0
IsReplyRefusal q text e =
    (e ≡ Memory → ⊥)
    × ((o : Operation) → slice_get q.interface.operations q.op ≡ Some o → IsTextCause (setting_beside q.interface o Out (Some q.graph)) text e)

-- the text is that of the values
abbrev pub IsTextOf : Fitting → List ℕ → Type 0
IsTextOf v text = (o : Operation) → slice_get v.interface.operations v.op ≡ Some o → IsText (setting_beside v.interface o v.side v.given) v.graph text

-- The text of the values has so many octets.
pub record HasTextLength (v : Fitting) (many : ℕ) : Type 0 where
  pub text : List ℕ
  pub is_text : IsTextOf v text
  pub length_is : many ≡ length text
