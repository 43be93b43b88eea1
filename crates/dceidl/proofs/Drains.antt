-- What a drain of known octets comes to, and which count rose where an end failed.
use Rattle.std.proofs.Common.{◌≡◌, ℕ, zero, suc, ◌<◌, ◌≤◌, List, [], ◌∷◌, ◌++◌, length, map, Some, refl, sym, ◌∙◌, ap, ap₂, subst, inl, inr, ◌⊎◌, arith}
use Rattle.std.proofs.lemmas.Option.{same_Some}
use Rattle.std.specs.List.{slice_get}
use Rattle.std.specs.Prelude.{slice_set}
use Rattle.nd_base.specs.declared.octets.Order.{Order}
use Rattle.nd_base.specs.Over.{Rose, SourceOver, HasRisen}
use Rattle.nd_value.specs.Setting.{Setting, root_list}
use Rattle.ndr_drain_laws.specs.parts.Parts.{Spot, Part, after}
use Rattle.ndr_pipe.specs.Ends.{EndSeen, EndsSeen, change_at}
use Rattle.ndr_drain.specs.Drained.{pipe_count, end_of_root, end_after, ends_after}
use Rattle.command_drain.specs.Printed.{IsPrinted, IsDrainRefusal}
use Rattle.command_decode.proofs.Steps.{refused_is}
use Rattle.command_refusals.specs.declared.refusal.Refusal.{Refusal}
use Rattle.command_refusals.specs.declared.refusal.Refusal.TheVariants.{Memory, Absent, FileFailed, BadIdl, NoOperation, ReadFault, BadOctets, BadText, BadValue, TooLong, BadRequest, BadLabel}
use Rattle.command_refusals.specs.declared.refusal.Refusal.TheVariants.{ShortLabel, TooFewEnds, EndFailed}
use Rattle.command_refusals.specs.declared.refusal.Refusal.TheVariants.{BadPdu, NotCompatible, BadScript, LongScript}
use Rattle.command_refusals.specs.declared.refusal.OctetsFault.TheVariants.{Refused, Trailing}
use Rattle.dceidl.specs.Rows.{AreSound, EndRose}
use Rattle.command_streams.specs.Input.{AreGiven}
use Rattle.dceidl.proofs.OneReading.{IsOctetsCause, refused_here, trailing_here}

-- ## Counts of ends

abbrev counts : List EndSeen → List ℕ
counts ends = map (λ (x : EndSeen). x.faults) ends

-- a change of one end that keeps its count keeps all counts
change_kept : (i : ℕ) (f : EndSeen → EndSeen) → ((x : EndSeen) → (f x).faults ≡ x.faults) → (ends : List EndSeen) → counts (change_at i f ends) ≡ counts ends
change_kept i f kept [] = refl
change_kept zero f kept (x ∷ xs) = ap (λ n. n ∷ counts xs) (kept x)
change_kept (suc i) f kept (x ∷ xs) = ap (λ ns. x.faults ∷ ns) (change_kept i f kept xs)

end_kept : (w : Setting) (s : Spot) (p : Part) (x : EndSeen) → (end_after w s p.elements x).faults ≡ x.faults
end_kept w s p x = by p.elements
  where
    by : (vs : List _) → (end_after w s vs x).faults ≡ x.faults
    by [] = refl
    by (v ∷ vs) = refl

-- chunks that were given keep the counts
given_kept : (w : Setting) (s : Spot) (parts : List Part) (ends : List EndSeen) → counts (ends_after w s parts ends) ≡ counts ends
given_kept w s [] ends = refl
given_kept w s (p ∷ ps) ends =
    given_kept w (after s p) ps (change_at (end_of_root w s.root) (end_after w s p.elements) ends)
    ∙ change_kept (end_of_root w s.root) (end_after w s p.elements) (end_kept w s p) ends

-- ends of equal counts have ends of equal counts at a place
same_count : (xs ys : List EndSeen) → counts xs ≡ counts ys → (i : ℕ) (x : EndSeen) → slice_get xs i ≡ Some x → (y : EndSeen) × (slice_get ys i ≡ Some y) × (y.faults ≡ x.faults)
same_count [] ys same i x there = cc
same_count (a ∷ xs) [] same i x there = cc
same_count (a ∷ xs) (b ∷ ys) same zero x there =
    let one : a ≡ x = same_Some _ _ there in
    let first : a.faults ≡ b.faults = cc in
    (b, refl, sym first ∙ ap (λ (z : EndSeen). z.faults) one)
same_count (a ∷ xs) (b ∷ ys) same (suc i) x there = let more : counts xs ≡ counts ys = cc in same_count xs ys more i x there

set_there : (xs : List EndSeen) (i : ℕ) (was is : EndSeen) → slice_get xs i ≡ Some was → slice_get (slice_set xs i is) i ≡ Some is
set_there [] i was is there = cc
set_there (x ∷ xs) zero was is there = refl
set_there (x ∷ xs) (suc i) was is there = set_there xs i was is there

module _ (s : SourceOver) (e : EndsSeen) (w : Setting) (order : Order) where
  -- the count of an end that failed rose
  pub refused_rose : (which : ℕ) → IsDrainRefusal s e w order (EndFailed which) → EndRose e which
  refused_rose which (enough, (t, h)) =
      let g = h.chunk_read.given in
      let counted : counts h.ends ≡ counts e.before = ap counts g.given ∙ given_kept w _ g.parts e.before in
      let (was, there, same) = same_count h.ends e.before counted which h.failed.was h.failed.there in
      record {
        was = was;
        is = h.failed.is;
        there = there;
        now = ap (λ ends. slice_get ends which) h.failed.set ∙ set_there h.ends which h.failed.was h.failed.is h.failed.there;
        risen = subst (λ n. Rose n h.failed.is.faults) (sym same) h.failed.failed.risen;
      }

  -- octets that are known, with enough ends of which none fails: they are refused as octets
  pub drain_causes : (octets : List ℕ) → AreGiven s octets → AreSound w e → (P : Refusal → Type 0) → P Memory → ((r : Refusal) → IsOctetsCause w order octets r → P r)
      → (r : Refusal) → IsDrainRefusal s e w order r → P r
  drain_causes octets input sound P wanting by Memory cause = wanting
  drain_causes octets input sound P wanting by ReadFault (rose, enough, cause) = absurd (input.reads rose)
  drain_causes octets input sound P wanting by (BadOctets place (Refused why)) (enough, (t, inl h)) =
      by (BadOctets place (Refused why)) (refused_here s octets input w order place why (refused_is s w order place why t h.refused.refused))
  drain_causes octets input sound P wanting by (BadOctets place (Refused why)) (enough, (t, inr c)) =
      by (BadOctets place (Refused why)) (refused_here s octets input w order place why (refused_is s w order place why t c.refused))
  drain_causes octets input sound P wanting by (BadOctets place Trailing) c =
      by (BadOctets place Trailing)
      (trailing_here s octets input w order place
      (record {
        octets = c.octets;
        next = c.next;
        taken = c.taken;
        place_is = c.place_is;
        graph = c.graph;
        represents = c.pipes.represents;
        conforms = c.pipes.conforms;
      }))
  drain_causes octets input sound P wanting by (EndFailed which) cause = absurd (sound.ends which (refused_rose which cause))
  drain_causes octets input sound P wanting by (BadPdu spot because) cause = absurd cause
  drain_causes octets input sound P wanting by (NotCompatible differing) cause = absurd cause
  drain_causes octets input sound P wanting by (BadScript row) cause = absurd cause
  drain_causes octets input sound P wanting by LongScript cause = absurd cause
  drain_causes octets input sound P wanting by (TooFewEnds wanted found) (t, few) =
      let enough = sound.enough in
      let wanted_is = few.wanted_is in
      let found_is = few.found_is in
      let less = few.too_few in
      absurd (omega (arith, enough, wanted_is, found_is, less))
  drain_causes octets input sound P wanting by (Absent other) cause = absurd cause
  drain_causes octets input sound P wanting by (FileFailed other) cause = absurd cause
  drain_causes octets input sound P wanting by (BadIdl file line column reason) cause = absurd cause
  drain_causes octets input sound P wanting by NoOperation cause = absurd cause
  drain_causes octets input sound P wanting by (BadText line column reason) cause = absurd cause
  drain_causes octets input sound P wanting by (BadValue path reason) cause = absurd cause
  drain_causes octets input sound P wanting by (TooLong many) cause = absurd cause
  drain_causes octets input sound P wanting by (BadRequest fault) cause = absurd cause
  drain_causes octets input sound P wanting by (BadLabel fault) cause = absurd cause
  drain_causes octets input sound P wanting by ShortLabel cause = absurd cause

  -- too few ends
  module _ (wanted found : ℕ) (wanted_is : wanted ≡ pipe_count w) (found_is : found ≡ length e.before) (less : found < wanted) where
    never_enough : pipe_count w ≤ length e.before → ⊥
    never_enough enough = omega (arith, enough, wanted_is, found_is, less)

    pub few_made : (text : List ℕ) → IsPrinted s e w order text → ⊥
    few_made text p = never_enough p.pipes.enough

    pub few_cause : (r : Refusal) → IsDrainRefusal s e w order r → (r ≡ Memory) ⊎ (r ≡ TooFewEnds wanted found)
    few_cause Memory cause = inl refl
    few_cause ReadFault (rose, enough, cause) = absurd (never_enough enough)
    few_cause (BadOctets place (Refused why)) (enough, cause) = absurd (never_enough enough)
    few_cause (BadOctets place Trailing) c = absurd (never_enough c.pipes.enough)
    few_cause (EndFailed which) (enough, cause) = absurd (never_enough enough)
    few_cause (BadPdu spot because) cause = absurd cause
    few_cause (NotCompatible differing) cause = absurd cause
    few_cause (BadScript row) cause = absurd cause
    few_cause LongScript cause = absurd cause
    few_cause (TooFewEnds others other) (t, few) = inr (ap₂ TooFewEnds (few.wanted_is ∙ sym wanted_is) (few.found_is ∙ sym found_is))
    few_cause (Absent other) cause = absurd cause
    few_cause (FileFailed other) cause = absurd cause
    few_cause (BadIdl file line column reason) cause = absurd cause
    few_cause NoOperation cause = absurd cause
    few_cause (BadText line column reason) cause = absurd cause
    few_cause (BadValue path reason) cause = absurd cause
    few_cause (TooLong many) cause = absurd cause
    few_cause (BadRequest fault) cause = absurd cause
    few_cause (BadLabel fault) cause = absurd cause
    few_cause ShortLabel cause = absurd cause
