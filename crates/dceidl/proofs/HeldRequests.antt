-- What is accepted beside the request of a file that is held, and how it is refused where no load fails.
use Rattle.std.proofs.Common.{◌≡◌, ℕ, List, Option, Some, None, refl, sym, ◌∙◌, ap, subst, inl, inr, ◌⊎◌}
use Rattle.nd_base.specs.Over.{FilesOver, HasRisen}
use Rattle.nd_value.specs.declared.value.Graph.{Graph}
use Rattle.nd_value.specs.Setting.{Setting}
use Rattle.nd_grammar.specs.LegalSide.{IsLegalSide}
use Rattle.command_refusals.specs.declared.refusal.Refusal.{Refusal}
use Rattle.command_refusals.specs.declared.refusal.Refusal.TheVariants.{Memory, Absent, FileFailed, BadIdl, NoOperation, ReadFault, BadOctets, BadText, BadValue, TooLong, BadRequest, BadLabel}
use Rattle.command_refusals.specs.declared.refusal.Refusal.TheVariants.{ShortLabel, TooFewEnds, EndFailed}
use Rattle.command_refusals.specs.declared.refusal.Refusal.TheVariants.{BadPdu, NotCompatible, BadScript, LongScript}
use Rattle.command_refusals.specs.declared.refusal.RequestFault.{RequestFault}
use Rattle.command_encode.specs.Encoded.{inputs, beside, IsRequestText, IsRequestFault, HoldsRequest, HoldsNoRequest}
use Rattle.command_encode.proofs.OneText.{request_or_fault, one_request, one_request_fault}
use Rattle.dceidl.specs.Ready.{IsReadyBeside, IsAllReady, IsUnready, HasAsked, up_to}
use Rattle.dceidl.specs.Held.{IsHeld}
use Rattle.dceidl.specs.Rows.{IsAccepted, IsAcceptedBeside, AreAccepted, MustBeUnready, MustBeNoRequest}
use Rattle.command_line.specs.Words.{Subject}
use Rattle.dceidl.proofs.HeldFiles.{held_only, held_there, one_setting, accepted_cause, unready, unready_cause}
use Rattle.nd_grammar.proofs.LegalSides.{interface_side as legal_side_of}

-- the side of what is accepted is legal, and so are the inputs of its operation
pub legal_of : (f : FilesOver) (of : Subject) (w : Setting) → IsAccepted f of w → IsLegalSide w
legal_of f of w a = subst IsLegalSide (sym a.setting_is) (legal_side_of a.interface a.number a.operation of.side a.named.is_there)

legal_inputs : (w : Setting) → IsLegalSide w → IsLegalSide (inputs w)
legal_inputs w legal = record { operations = legal.operations; legal = legal.legal; operation = legal.operation }

legal_beside : (w : Setting) (q : Graph) → IsLegalSide w → IsLegalSide (beside w q)
legal_beside w q legal = record { operations = legal.operations; legal = legal.legal; operation = legal.operation }

pub legal_all : (f : FilesOver) (of : Subject) (given : Option (List ℕ)) (w : Setting) → AreAccepted f of given w → IsLegalSide w
legal_all f of None w a = legal_of f of w a
legal_all f of (Some name) w a = subst IsLegalSide (sym a.setting_is) (legal_beside a.own a.request (legal_of f of a.own a.accepted))

-- Over a part of a run, files mean what they mean over all of it.
module _ (f : FilesOver) (of : Subject) (asked : List (List ℕ)) where
  accepted_up_to : (w : Setting) → IsAccepted f of w → IsAccepted (up_to f asked) of w
  accepted_up_to w a = record {
    file = a.file;
    interface = a.interface;
    number = a.number;
    operation = a.operation;
    held = a.held;
    means = a.means;
    named = a.named;
    setting_is = a.setting_is;
  }

  must_up_to : (r : Refusal) → MustBeUnready f of r → MustBeUnready (up_to f asked) of r
  must_up_to NoOperation must = must
  must_up_to (BadIdl file line column why) must = must
  must_up_to Memory must = absurd must
  must_up_to (Absent file) must = absurd must
  must_up_to (FileFailed file) must = absurd must
  must_up_to ReadFault must = absurd must
  must_up_to (BadOctets place why) must = absurd must
  must_up_to (BadText line column why) must = absurd must
  must_up_to (BadValue path why) must = absurd must
  must_up_to (TooLong many) must = absurd must
  must_up_to (BadRequest why) must = absurd must
  must_up_to (BadLabel fault) must = absurd must
  must_up_to ShortLabel must = absurd must
  must_up_to (TooFewEnds wanted found) must = absurd must
  must_up_to (EndFailed which) must = absurd must
  must_up_to (BadPdu spot because) must = absurd must
  must_up_to (NotCompatible differing) must = absurd must
  must_up_to (BadScript row) must = absurd must
  must_up_to LongScript must = absurd must

module _ (f : FilesOver) (of : Subject) (name : List ℕ) where
  -- what has the request asked for is ready in one way
  one_own : (own w : Setting) → IsAccepted f of own → HasAsked f of name w → w ≡ own
  one_own own w a h = one_setting (up_to f h.earlier) of own w (accepted_up_to f of h.earlier own a) h.ready

  -- the request that is held is the one that was read
  request_here : (w : Setting) (a : IsAcceptedBeside f of name w) (own : Setting) (q : Graph) → own ≡ a.own → HoldsRequest f name own q → q ≡ a.request
  request_here w a own q same (text, content, is) =
      let here : IsRequestText a.own text q = subst (λ u. IsRequestText u text q) same is in
      let there : IsRequestText a.own a.text q = subst (λ t. IsRequestText a.own t q) (held_only f name a.text text a.held content) here in
      one_request a.own (legal_inputs a.own (legal_of f of a.own a.accepted)) a.text q a.request there a.is_request

  beside_one : (w v : Setting) → IsAcceptedBeside f of name w → IsReadyBeside f of name v → v ≡ w
  beside_one w v a r =
      let own : r.own ≡ a.own = one_own a.own r.own a.accepted r.has_asked in
      let same : r.request ≡ a.request = request_here w a r.own r.request own r.holds in
      r.setting_is ∙ ap (λ u. beside u r.request) own ∙ ap (beside a.own) same ∙ sym a.setting_is

  module _ (loads : HasRisen f.faults → ⊥) where
    -- a request that is held and read is not refused
    held_cause : (w own : Setting) (a : IsAcceptedBeside f of name w) → own ≡ a.own → (r : Refusal) → HoldsNoRequest f name own r → r ≡ Memory
    held_cause w own a same Memory cause = refl
    held_cause w own a same (Absent file) (is, rose, missing) = absurd (held_there f name a.text a.held missing)
    held_cause w own a same (FileFailed file) (is, rose) = absurd (loads rose)
    held_cause w own a same (BadRequest why) (text, content, fault) =
        let here : IsRequestFault a.own text why = subst (λ u. IsRequestFault u text why) same fault in
        let there : IsRequestFault a.own a.text why = subst (λ t. IsRequestFault a.own t why) (held_only f name a.text text a.held content) here in
        absurd (request_or_fault a.own (legal_inputs a.own (legal_of f of a.own a.accepted)) a.text a.request why a.is_request there)
    held_cause w own a same (BadIdl file line column why) cause = absurd cause
    held_cause w own a same NoOperation cause = absurd cause
    held_cause w own a same (TooLong many) cause = absurd cause
    held_cause w own a same ReadFault cause = absurd cause
    held_cause w own a same (BadOctets place why) cause = absurd cause
    held_cause w own a same (BadText line column why) cause = absurd cause
    held_cause w own a same (BadValue path why) cause = absurd cause
    held_cause w own a same (BadLabel _) cause = absurd cause
    held_cause w own a same ShortLabel cause = absurd cause
    held_cause w own a same (TooFewEnds _ _) cause = absurd cause
    held_cause w own a same (EndFailed _) cause = absurd cause
    held_cause w own a same (BadPdu spot because) cause = absurd cause
    held_cause w own a same (NotCompatible differing) cause = absurd cause
    held_cause w own a same (BadScript row) cause = absurd cause
    held_cause w own a same LongScript cause = absurd cause

    -- a request that is held and refused is refused in this way alone
    fault_cause : (own w : Setting) (text : List ℕ) (why : RequestFault) → IsAccepted f of own → IsHeld f name text → IsRequestFault own text why → w ≡ own
        → (r : Refusal) → HoldsNoRequest f name w r → (r ≡ Memory) ⊎ (r ≡ BadRequest why)
    fault_cause own w text why a held fault same Memory cause = inl refl
    fault_cause own w text why a held fault same (Absent file) (is, rose, missing) = absurd (held_there f name text held missing)
    fault_cause own w text why a held fault same (FileFailed file) (is, rose) = absurd (loads rose)
    fault_cause own w text why a held fault same (BadRequest because) (other, content, x) =
        let here : IsRequestFault own other because = subst (λ u. IsRequestFault u other because) same x in
        let there : IsRequestFault own text because = subst (λ t. IsRequestFault own t because) (held_only f name text other held content) here in
        inr (one_request_fault own (legal_inputs own (legal_of f of own a)) text why because fault there)
    fault_cause own w text why a held fault same (BadIdl file line column because) cause = absurd cause
    fault_cause own w text why a held fault same NoOperation cause = absurd cause
    fault_cause own w text why a held fault same (TooLong many) cause = absurd cause
    fault_cause own w text why a held fault same ReadFault cause = absurd cause
    fault_cause own w text why a held fault same (BadOctets place because) cause = absurd cause
    fault_cause own w text why a held fault same (BadText line column because) cause = absurd cause
    fault_cause own w text why a held fault same (BadValue path because) cause = absurd cause
    fault_cause own w text why a held fault same (BadLabel _) cause = absurd cause
    fault_cause own w text why a held fault same ShortLabel cause = absurd cause
    fault_cause own w text why a held fault same (TooFewEnds _ _) cause = absurd cause
    fault_cause own w text why a held fault same (EndFailed _) cause = absurd cause
    fault_cause own w text why a held fault same (BadPdu spot because) cause = absurd cause
    fault_cause own w text why a held fault same (NotCompatible differing) cause = absurd cause
    fault_cause own w text why a held fault same (BadScript row) cause = absurd cause
    fault_cause own w text why a held fault same LongScript cause = absurd cause

-- ## With a request or without one

module _ (f : FilesOver) (of : Subject) where
  pub all_one : (given : Option (List ℕ)) (w v : Setting) → AreAccepted f of given w → IsAllReady f of given v → v ≡ w
  all_one None w v a r = one_setting f of w v a r
  all_one (Some name) w v a r = beside_one f of name w v a r

  module _ (loads : HasRisen f.faults → ⊥) where
    pub all_cause : (given : Option (List ℕ)) (w : Setting) → AreAccepted f of given w → (r : Refusal) → IsUnready f of given r → r ≡ Memory
    all_cause None w a r cause = accepted_cause f of loads w a r cause
    all_cause (Some name) w a r (inl cause) = accepted_cause f of loads a.own a.accepted r cause
    all_cause (Some name) w a r (inr u) = held_cause f of name loads w u.own a (one_own f of name a.own u.own a.accepted u.has_asked) r u.cause

    -- what must be refused without a request is not ready with one
    pub all_unready : (given : Option (List ℕ)) (r : Refusal) → MustBeUnready f of r → (w : Setting) → IsAllReady f of given w → ⊥
    all_unready None r must w ready = unready f of loads r must w ready
    all_unready (Some name) r must w ready =
        let h = ready.has_asked in unready (up_to f h.earlier) of loads r (must_up_to f of h.earlier r must) ready.own h.ready

    pub all_unready_cause : (given : Option (List ℕ)) (r : Refusal) → MustBeUnready f of r → (q : Refusal) → IsUnready f of given q → (q ≡ Memory) ⊎ (q ≡ r)
    all_unready_cause None r must q cause = unready_cause f of loads r must q cause
    all_unready_cause (Some name) r must q (inl cause) = unready_cause f of loads r must q cause
    all_unready_cause (Some name) r must q (inr u) =
        let h = u.has_asked in absurd (unready (up_to f h.earlier) of loads r (must_up_to f of h.earlier r must) u.own h.ready)

    -- a request that must be refused is not held, and it is refused in one way
    pub no_request : (given : Option (List ℕ)) (why : RequestFault) → MustBeNoRequest f of given why → (w : Setting) → IsAllReady f of given w → ⊥
    no_request None why must w ready = absurd must
    no_request (Some name) why (own, text, a, held, fault) w ready =
        let (other, content, is) = ready.holds in
        let same : ready.own ≡ own = one_own f of name own ready.own a ready.has_asked in
        let here : IsRequestText own other ready.request = subst (λ u. IsRequestText u other ready.request) same is in
        let there : IsRequestText own text ready.request = subst (λ t. IsRequestText own t ready.request) (held_only f name text other held content) here in
        request_or_fault own (legal_inputs own (legal_of f of own a)) text ready.request why there fault

    pub no_request_cause : (given : Option (List ℕ)) (why : RequestFault) → MustBeNoRequest f of given why → (q : Refusal) → IsUnready f of given q
        → (q ≡ Memory) ⊎ (q ≡ BadRequest why)
    no_request_cause None why must q cause = absurd must
    no_request_cause (Some name) why (own, text, a, held, fault) q (inl cause) = inl (accepted_cause f of loads own a q cause)
    no_request_cause (Some name) why (own, text, a, held, fault) q (inr u) =
        fault_cause f of name loads own u.own text why a held fault (one_own f of name own u.own a u.has_asked) q u.cause
