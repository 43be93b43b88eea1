-- What is answered of texts, from what the calls below answer.
use Rattle.std.proofs.Common.{◌≡◌, ℕ, ◌<◌, List, length, take, Option, Some, None, IsSomeAnd, refl, sym, subst}
use Rattle.std.specs.List.{slice_get}
use Rattle.nd_types.specs.declared.interface.Interface.{Interface}
use Rattle.nd_types.specs.declared.types.Operation.{Operation}
use Rattle.nd_types.specs.declared.types.Side.{Side}
use Rattle.nd_types.specs.declared.types.Side.TheVariants.{Out}
use Rattle.nd_value.specs.Fitting.{Fitting, setting_beside}
use Rattle.text_grammar.specs.Reads.{ReadsAs}
use Rattle.command_refusals.specs.declared.refusal.Refusal.{Refusal}
use Rattle.command_refusals.specs.declared.refusal.Refusal.TheVariants.{Memory}
use Rattle.command_encode.specs.Encoded.{IsTextCause}
use Rattle.library_handles.specs.declared.held.Held.{Held}
use Rattle.library_values.specs.Decoded.{IsOf}
use Rattle.library_answers.specs.Answers.{side_numbered, values_in, refusal_in}
use Rattle.library_answers.specs.Texts.{IsRead, IsReadRefusal, IsReply, IsReplyRefusal, IsTextOf, HasTextLength}
use Rattle.library_answers.proofs.Numbered.{there_and, of_side}

pub read_is : (i : Interface) (operation side : ℕ) (text : List ℕ) (s : Side) (made : Fitting) (held : Option Held) → operation < length i.operations
    → Some s ≡ side_numbered side → ((o : Operation) → slice_get i.operations operation ≡ Some o → ReadsAs (setting_beside i o s None) text made.graph)
    → IsOf i operation s None made → values_in held ≡ Some made → IsSomeAnd (values_in held) (λ v. IsRead i operation side text v)
read_is i operation side text s made held low side_is reads of filled =
    there_and (values_in held) made (λ v. IsRead i operation side text v) filled (of_side i operation side s _ low side_is (λ o there. (reads o there, of)))

pub read_refused : (i : Interface) (operation side : ℕ) (text : List ℕ) (s : Side) (e : Refusal) (held : Option Held) → operation < length i.operations
    → Some s ≡ side_numbered side → ((o : Operation) → slice_get i.operations operation ≡ Some o → IsTextCause (setting_beside i o s None) text e)
    → (e ≡ Memory → ⊥) → refusal_in held ≡ Some e → IsSomeAnd (refusal_in held) (λ x. IsReadRefusal i operation side text x)
read_refused i operation side text s e held low side_is cause reason filled =
    there_and (refusal_in held) e (λ x. IsReadRefusal i operation side text x) filled (reason, of_side i operation side s _ low side_is cause)

pub reply_is : (q : Fitting) (text : List ℕ) (made : Fitting) (held : Option Held)
    → ((o : Operation) → slice_get q.interface.operations q.op ≡ Some o → ReadsAs (setting_beside q.interface o Out (Some q.graph)) text made.graph)
    → IsOf q.interface q.op Out (Some q.graph) made → values_in held ≡ Some made → IsSomeAnd (values_in held) (λ v. IsReply q text v)
reply_is q text made held reads of filled = there_and (values_in held) made (λ v. IsReply q text v) filled (reads, of)

pub reply_refused : (q : Fitting) (text : List ℕ) (e : Refusal) (held : Option Held)
    → ((o : Operation) → slice_get q.interface.operations q.op ≡ Some o → IsTextCause (setting_beside q.interface o Out (Some q.graph)) text e)
    → (e ≡ Memory → ⊥) → refusal_in held ≡ Some e → IsSomeAnd (refusal_in held) (λ x. IsReplyRefusal q text x)
reply_refused q text e held cause reason filled = there_and (refusal_in held) e (λ x. IsReplyRefusal q text x) filled (reason, cause)

pub text_is : (v : Fitting) (text out : List ℕ) (many : ℕ) → IsTextOf v text → take many out ≡ text → IsTextOf v (take many out)
text_is v text out many is front = subst (λ t. IsTextOf v t) (sym front) is

pub text_length : (v : Fitting) (text : List ℕ) (many : ℕ) → IsTextOf v text → many ≡ length text → HasTextLength v many
text_length v text many is so_many = record { text = text; is_text = is; length_is = so_many }
