-- The request of a file, from what the steps answer.
use Rattle.std.proofs.Common.{ℕ, List, Result, Ok, Err, IfOk, IfErr}
use Rattle.nd_base.specs.Over.{IsContent, FilesOver}
use Rattle.nd_value.specs.Setting.{Setting}
use Rattle.nd_value.specs.Fitting.{Fitting}
use Rattle.command_refusals.specs.declared.refusal.Refusal.{Refusal}
use Rattle.command_refusals.specs.declared.refusal.Refusal.TheVariants.{Memory, Absent, FileFailed, BadIdl, NoOperation, ReadFault, BadOctets, BadText, BadValue, TooLong, BadRequest, BadLabel}
use Rattle.command_refusals.specs.declared.refusal.Refusal.TheVariants.{ShortLabel, TooFewEnds, EndFailed}
use Rattle.command_refusals.specs.declared.refusal.Refusal.TheVariants.{BadPdu, NotCompatible, BadScript, LongScript}
use Rattle.command_encode.specs.Encoded.{IsRequestText, IsTextRefusal, HoldsRequest, HoldsNoRequest}

module _ (f : FilesOver) (name : List ℕ) (w : Setting) where
  module _ (text : List ℕ) (content : IsContent f.held name text) where
    unread : (r : Refusal) → IsTextRefusal w text r → HoldsNoRequest f name w r
    unread (BadRequest why) cause = (text, content, cause)
    unread Memory cause = tt
    unread (Absent file) cause = absurd cause
    unread (FileFailed file) cause = absurd cause
    unread (BadIdl file line column why) cause = absurd cause
    unread NoOperation cause = absurd cause
    unread (TooLong many) cause = absurd cause
    unread ReadFault cause = absurd cause
    unread (BadOctets place why) cause = absurd cause
    unread (BadText line column why) cause = absurd cause
    unread (BadValue path why) cause = absurd cause
    unread (BadLabel fault) cause = absurd cause
    unread ShortLabel cause = absurd cause
    unread (TooFewEnds wanted found) cause = absurd cause
    unread (EndFailed which) cause = absurd cause
    unread (BadPdu spot because) cause = absurd cause
    unread (NotCompatible differing) cause = absurd cause
    unread (BadScript row) cause = absurd cause
    unread LongScript cause = absurd cause

    pub text_refused : (result : Result Fitting Refusal) → IfErr result (IsTextRefusal w text) → IfErr result (HoldsNoRequest f name w)
    text_refused (Ok fit) cause = tt
    text_refused (Err e) cause = unread e cause

    pub text_held : (result : Result Fitting Refusal) → IfOk result (λ q. IsRequestText w text q.graph) → IfOk result (λ q. HoldsRequest f name w q.graph)
    text_held (Ok fit) is = (text, content, is)
    text_held (Err e) is = tt
