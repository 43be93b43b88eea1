-- Where the octets of a source are known, what is refused is the answer for all of them.
use Rattle.std.proofs.Common.{◌≡◌, ◌∙◌, ◌⊎◌, inl, inr, ℕ, List, [], ◌∷◌, ◌++◌, Option, Some, None, refl, ap, sym, subst, append-nil}
use Rattle.std.specs.Io.KnownBytes.{Consumes, IsAtEnd}
use Rattle.nd_base.specs.Over.{SourceOver}
use Rattle.rpc_pdu.specs.declared.pdu.Wanted.{Wanted}
use Rattle.rpc_pdu.specs.declared.pdu.Joined.{Joined}
use Rattle.rpc_pdu.specs.declared.pdu.PduReason.{PduReason}
use Rattle.rpc_pdu.specs.declared.pdu.PduReason.TheVariants as why
use Rattle.rpc_pdu.specs.Fragments.{BadPdu, IsEnd, IsRefused}
use Rattle.rpc_pdu.proofs.Verdicts.{bad_stays}

record Rest (left_now : Option (List ℕ)) (os all : List ℕ) : Type 0 where
  pub rest : List ℕ
  pub split : all ≡ os ++ rest
  pub end : IsAtEnd left_now → rest ≡ []

same_list : (xs ys : List ℕ) → Some xs ≡ Some ys → xs ≡ ys
same_list xs ys h = cc

rest_of : (left left_now : Option (List ℕ)) (os all : List ℕ) → Consumes left left_now os → left ≡ Some all → Rest left_now os all
rest_of None n os all c e = cc
rest_of (Some xs) None os all c e = absurd c
rest_of (Some xs) (Some ys) os all c e = record { rest = ys; split = sym (same_list xs all e) ∙ c; end = λ h. h }

-- the octets are too short and the source has ended, or they are not too short
ended_or_not : (s : SourceOver) (w : PduReason) → IsEnd s w → IsAtEnd s.left_now ⊎ (w ≡ why.Short → ⊥)
ended_or_not s why.Short h = inl h.none_left
ended_or_not s why.Version h = inr (λ e. cc)
ended_or_not s why.Kind h = inr (λ e. cc)
ended_or_not s why.Flags h = inr (λ e. cc)
ended_or_not s why.Label h = inr (λ e. cc)
ended_or_not s why.OtherOrder h = inr (λ e. cc)
ended_or_not s why.Length h = inr (λ e. cc)
ended_or_not s why.Auth h = inr (λ e. cc)
ended_or_not s why.OtherCall h = inr (λ e. cc)
ended_or_not s why.OtherOperation h = inr (λ e. cc)
ended_or_not s why.EmptyPiece h = inr (λ e. cc)
ended_or_not s why.StubLong h = inr (λ e. cc)

bad_by : (want : Wanted) (s : SourceOver) (place : ℕ) (w : PduReason) (os all : List ℕ) → BadPdu want os place w → Rest s.left_now os all → IsAtEnd s.left_now ⊎ (w ≡ why.Short → ⊥) → BadPdu
    want all place w
bad_by want s place w os all b r (inl h) = subst (λ (l : List ℕ). BadPdu want l place w) (sym (r.split ∙ ap (λ (l : List ℕ). os ++ l) (r.end h) ∙ append-nil os)) b
bad_by want s place w os all b r (inr h) = subst (λ (l : List ℕ). BadPdu want l place w) (sym r.split) (bad_stays want os r.rest place w b h)

pub known_bad : (want : Wanted) (s : SourceOver) (place : ℕ) (w : PduReason) → IsRefused want s place w → (all : List ℕ) → s.left ≡ Some all → BadPdu want all place w
known_bad want s place w r all e = bad_by want s place w r.octets all r.bad (rest_of s.left s.left_now r.octets all r.taken e) (ended_or_not s w r.end)
