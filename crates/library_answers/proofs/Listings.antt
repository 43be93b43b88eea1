-- What is answered of listings, from what the calls below answer.
use Rattle.std.proofs.Common.{◌≡◌, ◌∙◌, ℕ, ◌<◌, ◌≤◌, List, length, Option, Some, None, Bool, true, false, ◌&&◌, is_some, nat_lt, nat_le, IsSomeAnd, refl, sym, ap, subst}
use Rattle.std.specs.List.{slice_get}
use Rattle.std.proofs.lemmas.Bool.{lt-leb}
use Rattle.nd_types.specs.declared.interface.Interface.{Interface}
use Rattle.nd_types.specs.declared.types.Operation.{Operation}
use Rattle.nd_types.specs.declared.types.Side.{Side}
use Rattle.nd_types.specs.declared.types.Side.TheVariants.{In, Out}
use Rattle.nd_value.specs.declared.value.Graph.{Graph}
use Rattle.nd_value.specs.Fitting.{Fitting, setting_beside}
use Rattle.nd_value.specs.Setting.{Setting}
use Rattle.command_refusals.specs.declared.refusal.Refusal.{Refusal}
use Rattle.command_refusals.specs.declared.refusal.Refusal.TheVariants.{Memory}
use Rattle.library_nodes.specs.declared.fault.BuildFault.TheVariants.{WrongNode, Refused}
use Rattle.library_nodes.specs.declared.listing.Listing.{Listing}
use Rattle.library_nodes.specs.Built.{Says, IsWrong, IsSaidBadly, IsBuildCause, has_too_many}
use Rattle.library_handles.specs.declared.held.Held.{Held}
use Rattle.library_values.specs.Decoded.{IsOf}
use Rattle.library_answers.specs.Answers.{side_numbered, values_in, refusal_in, is_side}
use Rattle.library_answers.specs.Building.{IsBuild, IsBuildRefusal, IsWrongNode, IsBuiltReply, IsBuiltReplyRefusal, IsWrongReplyNode, has_cell}
use Rattle.library_answers.proofs.Numbered.{there_and, of_side, side_there}
use Rattle.library_answers.proofs.Numbered as numbered

-- why a graph is refused, if memory is not the reason
said_badly : (w : Setting) (l : Listing) (e : Refusal) → IsBuildCause w l (Refused e) → (e ≡ Memory → ⊥) → IsSaidBadly w l e
said_badly w l Memory cause reason = absurd (reason refl)
said_badly w l e cause reason = cause

-- ## Requests, and responses beside none

pub built_is : (i : Interface) (operation side : ℕ) (l : Listing) (s : Side) (made : Fitting) (held : Option Held) → operation < length i.operations
    → Some s ≡ side_numbered side → ((o : Operation) → slice_get i.operations operation ≡ Some o → Says (setting_beside i o s None) l made.graph)
    → IsOf i operation s None made → values_in held ≡ Some made → IsSomeAnd (values_in held) (λ v. IsBuild i operation side l v)
built_is i operation side l s made held low side_is says of filled =
    there_and (values_in held) made (λ v. IsBuild i operation side l v) filled (of_side i operation side s _ low side_is (λ o there. (says o there, of)))

pub build_refused : (i : Interface) (operation side : ℕ) (l : Listing) (s : Side) (e : Refusal) (held : Option Held) → operation < length i.operations
    → Some s ≡ side_numbered side → ((o : Operation) → slice_get i.operations operation ≡ Some o → IsBuildCause (setting_beside i o s None) l (Refused e))
    → (e ≡ Memory → ⊥) → refusal_in held ≡ Some e → IsSomeAnd (refusal_in held) (λ x. IsBuildRefusal i operation side l x)
build_refused i operation side l s e held low side_is cause reason filled =
    there_and (refusal_in held) e (λ x. IsBuildRefusal i operation side l x) filled
    (reason, of_side i operation side s _ low side_is (λ o there. said_badly (setting_beside i o s None) l e (cause o there) reason))

pub wrong_node : (i : Interface) (operation side : ℕ) (l : Listing) (s : Side) (node : ℕ) → operation < length i.operations → Some s ≡ side_numbered side
    → ((o : Operation) → slice_get i.operations operation ≡ Some o → IsBuildCause (setting_beside i o s None) l (WrongNode node)) → IsWrongNode i operation side l node
wrong_node i operation side l s node low side_is cause = of_side i operation side s _ low side_is cause

-- ## Responses

pub reply_is : (q : Fitting) (l : Listing) (made : Fitting) (held : Option Held)
    → ((o : Operation) → slice_get q.interface.operations q.op ≡ Some o → Says (setting_beside q.interface o Out (Some q.graph)) l made.graph)
    → IsOf q.interface q.op Out (Some q.graph) made → values_in held ≡ Some made → IsSomeAnd (values_in held) (λ v. IsBuiltReply q l v)
reply_is q l made held says of filled = there_and (values_in held) made (λ v. IsBuiltReply q l v) filled (says, of)

pub reply_refused : (q : Fitting) (l : Listing) (e : Refusal) (held : Option Held)
    → ((o : Operation) → slice_get q.interface.operations q.op ≡ Some o → IsBuildCause (setting_beside q.interface o Out (Some q.graph)) l (Refused e))
    → (e ≡ Memory → ⊥) → refusal_in held ≡ Some e → IsSomeAnd (refusal_in held) (λ x. IsBuiltReplyRefusal q l x)
reply_refused q l e held cause reason filled =
    there_and (refusal_in held) e (λ x. IsBuiltReplyRefusal q l x) filled
    (reason, λ o there. said_badly (setting_beside q.interface o Out (Some q.graph)) l e (cause o there) reason)

pub wrong_reply : (q : Fitting) (l : Listing) (node : ℕ)
    → ((o : Operation) → slice_get q.interface.operations q.op ≡ Some o → IsBuildCause (setting_beside q.interface o Out (Some q.graph)) l (WrongNode node))
    → IsWrongReplyNode q l node
wrong_reply q l node cause = cause

-- ## Numbers that mean nothing

pub no_side : (i : Interface) (operation side : ℕ) (l : Listing) → None ≡ side_numbered side → is_side i operation side ≡ true → has_too_many l ≡ true
no_side i operation side l is side_there = let wrong : is_side i operation side ≡ false = numbered.no_side i operation side is in cc

pub no_operation : (i : Interface) (operation side : ℕ) (l : Listing) → length i.operations ≤ operation → is_side i operation side ≡ true → has_too_many l ≡ true
no_operation i operation side l past side_there = let wrong : is_side i operation side ≡ false = numbered.no_operation i operation side past in cc

pub no_request : (q : Fitting) (l : Listing) → q.side ≡ Out → q.side ≡ In → has_too_many l ≡ true
no_request q l out is = cc

-- ## Cells

pub no_cell : (g : Graph) (c : ℕ) → c ≡ 0 → has_cell g c ≡ false
no_cell g c is = ap (λ (n : ℕ). nat_lt 0 n && nat_le n (length g.cells)) is

pub past_cells : (g : Graph) (c : ℕ) → length g.cells < c → has_cell g c ≡ false
past_cells g c past = ap (λ (b : Bool). nat_lt 0 c && b) (lt-leb c (length g.cells) past) ∙ false_last (nat_lt 0 c) where
  false_last : (b : Bool) → (b && false) ≡ false
  false_last true = refl
  false_last false = refl

-- ## What functions that build name

pub ruleset builds = (no_side, no_operation, side_there, built_is, build_refused, wrong_node)

pub ruleset replies = (no_request, reply_is, reply_refused, wrong_reply)
