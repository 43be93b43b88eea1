-- The trace of octets that are refused.
-- `w` is a setting, `bad` are octets that are refused, `u` is what the walk is given, `p` how far it came.
use Rattle.std.proofs.Common.{◌≡◌, ◌∙◌, ◌++◌, ℕ, ℤ, Bool, true, false, List, Option, Some, None, refl, sym, ap, subst}
use Rattle.std.specs.Prelude.{IfSome, IsSome, option_map}
use Rattle.std.specs.List.{slice_get}
use Rattle.std.proofs.lemmas.Option.{same_Some}
use Rattle.nd_base.specs.declared.octets.Order.{Order}
use Rattle.nd_types.specs.Number.{AreOctets}
use Rattle.nd_value.specs.declared.item.Item.{Item}
use Rattle.nd_value.specs.Setting.{Setting}
use Rattle.nd_grammar.specs.declared.reason.Reason.{Reason}
use Rattle.nd_grammar.specs.declared.reason.Reason.TheVariants as reason
use Rattle.nd_grammar.specs.Refusal.{Bad}
use Rattle.nd_grammar.specs.Items.{items}
use Rattle.nd_grammar.specs.LegalSide.{IsLegalSide}
use Rattle.ndr_decoder_laws.specs.verdict.InOrder.{HasOwnNumbers}
use Rattle.ndr_trace_value.specs.Untested.{is_test}
use Rattle.ndr_trace_value.proofs.Due.{bad_stops}
use Rattle.ndr_trace_value.specs.declared.progress.Ground.{Ground}
use Rattle.ndr_trace_value.specs.declared.progress.Progress.{Progress}
use Rattle.ndr_trace_value.specs.declared.search.Sought.{Sought}
use Rattle.ndr_trace.specs.Homes.{IsPart}
use Rattle.ndr_trace.specs.Sides.{IsFinished, IsSide, IsStream}
use Rattle.ndr_trace_value.specs.Traces.{IsTraceOf}
use Rattle.ndr_trace_value.specs.Tracing.{IsAt, IsEnded, IsGround, Known}
use Rattle.ndr_trace.proofs.Grounds.{ground_of}
use Rattle.ndr_trace.proofs.Named.{variable_is}
use Rattle.ndr_trace_value.specs.Attributes.{IsItemOf}
use Rattle.ndr_trace.proofs.Subjects.{subject_is}
use Rattle.ndr_trace_value.proofs.Ending.{known_of, traced_plain, traced_test}

module _ (w : Setting) (order : Order) (fetched : List ℕ) (place : ℕ) (why : Reason) (bad : Bad w order fetched place why) where
  part_of : (o : Option ℕ) → IsLegalSide w → IsPart (known_of w order fetched place why bad o)
  part_of o legal = record { legal = legal; partial = bad.is_partial }

  stream_of : (o : Option ℕ) → HasOwnNumbers bad.partial bad.entries → IsStream (known_of w order fetched place why bad o)
  stream_of o own = record { entries = bad.entries; stream = bad.stream; own = own; full = refl; due = bad_stops w order fetched place why bad }

  -- the trace, by what is sought
  ended_trace : IsLegalSide w → (o : Option Sought) (p : Progress) (lines path : List ℕ) → (is_test bad.here.entry.kind ≡ true → IsSome o) → (IsSome o → is_test bad.here.entry.kind ≡ true)
      → IfSome o (λ s. IsAt (items order fetched bad.earlier) s.item place) → IfSome o (λ s. IsItemOf (items order fetched bad.earlier) s) → (u : Ground)
      → IsSide (known_of w order fetched place why bad (option_map (λ (s : Sought). s.item) o)) u
      → IsEnded (known_of w order fetched place why bad (option_map (λ (s : Sought). s.item) o)) p
      → lines ≡ p.lines → IsFinished u o p path → IsTraceOf w order fetched place why bad lines path
  ended_trace legal None p lines path seeks sought at its u side ended same goes = by (is_test bad.here.entry.kind) refl
    where
      by : (b : Bool) → is_test bad.here.entry.kind ≡ b → IsTraceOf w order fetched place why bad lines path
      by true e = let z : false ≡ true = seeks e in cc
      by false e =
          subst (λ q. IsTraceOf w order fetched place why bad lines q) (sym goes)
          (subst (λ ls. IsTraceOf w order fetched place why bad ls p.path) (sym same) (traced_plain w order fetched place why bad None p e ended))
  ended_trace legal (Some s) p lines path seeks sought (i, there, at) its u side ended same (variable, own, kept, pointed, beside, is) =
      subst (λ ls. IsTraceOf w order fetched place why bad ls path) (sym same)
      (traced_test w order fetched place why bad s.item p path variable (sought refl) (i, there, at)
      (λ j got. subject_is w order fetched place why bad legal (Some s.item) (sought refl) s.item j got (ap (λ (y : Item). y.at) (same_Some _ _ (sym got ∙ there)) ∙ at))
      (variable_is w order fetched place why bad legal u s side (sought refl) (i, there, at) its p ended.variable ended.from variable own kept pointed beside) ended is)

  pub whole_trace : IsLegalSide w → HasOwnNumbers bad.partial bad.entries → (more : List ℕ) (u : Ground) → AreOctets u.octets.now → u.octets.now ≡ fetched ++ more
      → u.items.now.items ≡ items order fetched bad.earlier → u.order ≡ order → u.interface.now.types ≡ w.table
      → IfSome u.sought (λ s. (found : ℤ) × (why ≡ reason.Disagrees s.wanted found)) → IfSome u.sought (λ s. IsAt u.items.now.items s.item place)
      → ((wanted found : ℤ) → why ≡ reason.Disagrees wanted found → (n : ℕ) (i : Item) → slice_get u.items.now.items n ≡ Some i → i.at ≡ place → IsSome u.sought)
      → IfSome u.sought (λ s. IsItemOf u.items.now.items s) → IsSide (known_of w order fetched place why bad (option_map (λ (s : Sought). s.item) u.sought)) u → (p : Progress)
      → ((k : Known) → IsGround k u → IsPart k → IsSide k u → IsStream k → IsEnded k p)
      → (lines path : List ℕ) → lines ≡ p.lines → IsFinished u u.sought p path → IsTraceOf w order fetched place why bad lines path
  whole_trace legal own more u small split logged same_order table disagrees at finds its side p walked lines path same_lines goes =
      let o : Option ℕ = option_map (λ (s : Sought). s.item) u.sought in
      let g = ground_of w order fetched more place why bad u small split logged same_order table disagrees at finds its in
      ended_trace legal u.sought p lines path g.seeks g.sought (subst (λ xs. IfSome u.sought (λ s. IsAt xs s.item place)) logged at)
      (subst (λ xs. IfSome u.sought (λ s. IsItemOf xs s)) logged its) u side
      (walked (known_of w order fetched place why bad (option_map (λ (s : Sought). s.item) u.sought)) g (part_of o legal) side (stream_of o own)) same_lines goes
