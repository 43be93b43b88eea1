-- What is decoded of the octets of the sample: the same graph, and they are never refused.
use Rattle.std.proofs.Common.{◌≡◌, ◌∙◌, ℕ, List, [], ◌++◌, Option, Some, None, refl, ap, sym, subst}
use Rattle.std.specs.Io.KnownBytes.{Consumes}
use Rattle.std.proofs.lemmas.List.{append-nil}
use Rattle.std.proofs.lemmas.Option.{same_Some}
use Rattle.nd_base.specs.declared.octets.Order.TheVariants.{Little}
use Rattle.nd_base.specs.Over.{SourceOver}
use Rattle.nd_types.specs.declared.interface.Interface.{Interface}
use Rattle.nd_types.specs.declared.types.Side.TheVariants.{In}
use Rattle.nd_value.specs.declared.value.Graph.{Graph}
use Rattle.nd_value.specs.Conforms.{Conforms}
use Rattle.nd_value.specs.Fitting.{setting_beside}
use Rattle.nd_value.specs.Canon.{Same}
use Rattle.nd_value.specs.Setting.{Setting}
use Rattle.nd_grammar.specs.declared.reason.Reason.{Reason}
use Rattle.nd_grammar.specs.Stream.{Represents}
use Rattle.nd_grammar.proofs.OneGraph.{one_graph}
use Rattle.nd_grammar.specs.decoded.Verdict.{DecodingSeen, IsDecoded, IsRefused}
use Rattle.ndr_decoder_laws.proofs.verdict.NeverRefused.{never_refused}
use Rattle.command_sample.specs.Interface.{sample_setting, take}
use Rattle.command_sample.specs.Nodes.{sample_graph}
use Rattle.command_sample.proofs.Conforming.{conforms}
use Rattle.command_sample.specs.Steps.{IsSampleInterface, AreSampleOctets}
use Rattle.command_sample.proofs.Fits.{sample_side, setting_is}
use Rattle.ndr_decode.specs.Decoding.{IsFault}
use Rattle.ndr_decoder_state.specs.declared.fault.DecodeFault.{DecodeFault}
use Rattle.ndr_decoder_state.specs.declared.fault.DecodeFault.TheVariants as fault

-- what follows the octets that were taken
rest_of : (a b : Option (List ℕ)) (fetched octets : List ℕ) → a ≡ Some octets → Consumes a b fetched → (rest : List ℕ) × (octets ≡ fetched ++ rest)
rest_of None b fetched octets e c = cc
rest_of (Some xs) None fetched octets e c = absurd c
rest_of (Some xs) (Some ys) fetched octets e c = (ys, sym (same_Some _ _ e) ∙ c)

module _ (i : Interface) (is : IsSampleInterface i) where
  own_is : setting_beside i take In None ≡ sample_setting
  own_is = setting_is i.types take In None is.types refl refl refl

  module _ (seed n : ℕ) (octets : List ℕ) (are : AreSampleOctets octets seed n) (s : SourceOver) (t : DecodingSeen) where
    pub same_is : (taken : ℕ) (g : Graph) → IsDecoded (setting_beside i take In None) Little s taken g t → s.left ≡ Some octets → Same (sample_graph seed n) g
    same_is taken g d left =
        let r = rest_of s.left s.left_now d.fetched octets left d.left in
        (one_graph sample_setting sample_side Little d.fetched r.0 (sample_graph seed n) g (conforms seed n are.some are.few)
        (subst (λ (w : Setting). Conforms w g) own_is d.graph.conforms)
        (subst (λ (os : List ℕ). Represents sample_setting Little os (sample_graph seed n)) r.1 are.represents)
        (subst (λ (w : Setting). Represents w Little d.fetched g) own_is d.graph.represented)).1

    never_bad : (place : ℕ) (why : Reason) → IsRefused (setting_beside i take In None) Little s place why t → s.left ≡ Some octets → ⊥
    never_bad place why bad left =
        never_refused sample_setting Little s place why t octets [] (sample_graph seed n) (left ∙ ap Some (sym (append-nil octets))) (conforms seed n are.some are.few)
        are.represents (subst (λ (w : Setting). IsRefused w Little s place why t) own_is bad)

    pub never_fault : (e : DecodeFault) (place : ℕ) (why : Reason) → e ≡ fault.Bad place why → IsFault (setting_beside i take In None) Little s e t → s.left ≡ Some octets → ⊥
    never_fault e place why is h left = never_bad place why (subst (λ (x : DecodeFault). IsFault (setting_beside i take In None) Little s x t) is h) left
