-- What a command on values answers beside the request of a file, from what its steps answer: the interface is compiled over one part of the run, and
-- the request is loaded over the next.
use Rattle.std.proofs.Common.{◌≡◌, ◌∙◌, ℕ, ◌≤◌, List, [], ◌∷◌, ◌++◌, Option, Some, None, Result, Ok, Err, IfOk, IfErr, refl, sym, ap, subst, inl, inr, arith}
use Rattle.std.proofs.lemmas.List.{append_cancel_left}
use Rattle.nd_base.proofs.Rising.{rose_later}
use Rattle.nd_base.specs.Over.{Rose, IsContent, IsMissing, FilesOver, SourceOver, HasRisen}
use Rattle.nd_types.specs.declared.interface.Interface.{Interface}
use Rattle.nd_types.specs.declared.types.Operation.{Operation}
use Rattle.nd_value.specs.declared.value.Graph.{Graph}
use Rattle.nd_value.specs.Setting.{Setting}
use Rattle.command_refusals.specs.declared.refusal.Refusal.{Refusal}
use Rattle.command_refusals.specs.declared.refusal.Refusal.TheVariants.{Memory, Absent, FileFailed, BadIdl, NoOperation, ReadFault, BadOctets, BadText, BadValue, TooLong, BadRequest, BadLabel}
use Rattle.command_refusals.specs.declared.refusal.Refusal.TheVariants.{ShortLabel, TooFewEnds, EndFailed}
use Rattle.command_refusals.specs.declared.refusal.Refusal.TheVariants.{BadPdu, NotCompatible, BadScript, LongScript}
use Rattle.command_encode.specs.Encoded.{beside, HoldsRequest, HoldsNoRequest}
use Rattle.command_compile.specs.Compiled.{AsksFiles, AreAsked, all_due}
use Rattle.ndr_pipe.specs.Ends.{EndsSeen}
use Rattle.command_line.specs.declared.command.Task.{Task}
use Rattle.dceidl.specs.Asked.{AsksRequest, seen_over}
use Rattle.dceidl.specs.Causes.{IsMade, IsCause}
use Rattle.dceidl.specs.Input.{IsMadeOf, IsTaskCause, IsMadeBeside, IsBesideCause}
use Rattle.dceidl.specs.Ready.{IsFound, IsReady, HasAsked, up_to}
use Rattle.command_line.specs.Words.{Subject, Values}

-- files over one part of a run and then over the next
abbrev pub both_parts : FilesOver → FilesOver → FilesOver
both_parts f g = record {
  held = f.held;
  asked = f.asked;
  asked_now = g.asked_now;
  absences = record { before = f.absences.before; now = g.absences.now };
  faults = record { before = f.faults.before; now = g.faults.now };
}

-- the next part goes on where the first ends
pub record Follows (f g : FilesOver) : Type 0 where
  pub held : g.held ≡ f.held
  pub asked : g.asked ≡ f.asked_now
  pub absences : g.absences.before ≡ f.absences.now
  pub faults : g.faults.before ≡ f.faults.now
  pub later : f.faults.before ≤ f.faults.now
  pub absences_later : f.absences.before ≤ f.absences.now

-- a request was loaded, and then something was made of the input beside it
module _ (f : FilesOver) (s : SourceOver) (e : EndsSeen) (name : List ℕ) (task : Task) (w : Setting) (q : Graph) (holds : HoldsRequest f name w q) where
  pub after_made : (result : Result (List ℕ) Refusal) → IfOk result (IsMadeOf s e task (beside w q)) → IfOk result (IsMadeBeside f s e name task w)
  after_made (Ok made) read = (q, holds, read)
  after_made (Err r) read = tt

  pub after_refused : (result : Result (List ℕ) Refusal) → IfErr result (IsTaskCause s e task (beside w q)) → IfErr result (IsBesideCause f s e name task w)
  after_refused (Ok made) cause = tt
  after_refused (Err r) cause = inr (q, holds, cause)

module _ (f g : FilesOver) (follows : Follows f g) (name : List ℕ) where
  -- a request is held over both parts
  pub held_over : (w : Setting) (q : Graph) → HoldsRequest g name w q → HoldsRequest (both_parts f g) name w q
  held_over w q (text, content, is) = (text, subst (λ h. IsContent h name text) follows.held content, is)

  -- and it is refused over both
  pub refused_over : (w : Setting) (r : Refusal) → HoldsNoRequest g name w r → HoldsNoRequest (both_parts f g) name w r
  refused_over w (Absent file) (is, rose, missing) = (
    is,
    rose_later f.absences.before f.absences.now g.absences.now follows.absences_later (subst (λ n. Rose n g.absences.now) follows.absences rose),
    subst (λ h. IsMissing h name) follows.held missing,
  )
  refused_over w (FileFailed file) (is, rose) =
      (is, rose_later f.faults.before f.faults.now g.faults.now follows.later (subst (λ n. Rose n g.faults.now) follows.faults rose))
  refused_over w (BadRequest why) (text, content, fault) = (text, subst (λ h. IsContent h name text) follows.held content, fault)
  refused_over w Memory cause = tt
  refused_over w (BadIdl file line column why) cause = absurd cause
  refused_over w NoOperation cause = absurd cause
  refused_over w (TooLong many) cause = absurd cause
  refused_over w ReadFault cause = absurd cause
  refused_over w (BadOctets place why) cause = absurd cause
  refused_over w (BadText line column why) cause = absurd cause
  refused_over w (BadValue path why) cause = absurd cause
  refused_over w (BadLabel fault) cause = absurd cause
  refused_over w ShortLabel cause = absurd cause
  refused_over w (TooFewEnds wanted found) cause = absurd cause
  refused_over w (EndFailed which) cause = absurd cause
  refused_over w (BadPdu spot because) cause = absurd cause
  refused_over w (NotCompatible differing) cause = absurd cause
  refused_over w (BadScript row) cause = absurd cause
  refused_over w LongScript cause = absurd cause

  module _ (of : Subject) (asked : g.asked_now ≡ g.asked ++ name ∷ []) where
    -- the request is asked for when it is due
    pub asks_request : (i : Interface) (n : ℕ) (o : Operation) → IsFound f of i n o
        → AsksFiles f (Some (record { idl = of.idl; acf = of.acf })) → AsksRequest (both_parts f g) of name
    asks_request i n o found (names, these, each) =
        let all = all_due found.compiled.means.state.sources of.acf in
        let same : names ≡ all = append_cancel_left f.asked names all (sym these ∙ found.compiled.all_asked) in
        record {
          due = record {
            file = found.compiled.file;
            interface = i;
            number = n;
            loaded = found.compiled.loaded;
            means = found.compiled.means;
            known = found.named.found;
          };
          earlier = all;
          earlier_are = refl;
          each_due = subst (AreAsked f.held of.idl of.acf) same each;
          asked = asked ∙ ap (λ u. u ++ name ∷ []) (follows.asked ∙ found.compiled.all_asked);
        }

    -- what is ready over the first part has the request asked for over both
    pub has_asked : (w : Setting) → IsReady f of w → HasAsked (both_parts f g) of name w
    has_asked w ready = record {
      earlier = f.asked_now;
      ready = record {
        interface = ready.interface;
        number = ready.number;
        operation = ready.operation;
        found = record {
          compiled = record {
            file = ready.found.compiled.file;
            loaded = ready.found.compiled.loaded;
            means = ready.found.compiled.means;
            all_asked = ready.found.compiled.all_asked;
          };
          named = ready.found.named;
        };
        setting_is = ready.setting_is;
      };
      asked = asked ∙ ap (λ u. u ++ name ∷ []) follows.asked;
    }

    module _ (s : SourceOver) (e : EndsSeen) (task : Task) (w : Setting) (ready : IsReady f of w) where
      pub beside_made : (result : Result (List ℕ) Refusal) → IfOk result (IsMadeBeside g s e name task w)
          → IfOk result (IsMade (seen_over (both_parts f g) s e) (Values task of (Some name)))
      beside_made (Ok made) (q, holds, read) = (
        beside w q,
        record { own = w; has_asked = has_asked w ready; request = q; holds = held_over w q holds; setting_is = refl },
        read,
      )
      beside_made (Err r) is = tt

      beside_cause : (r : Refusal) → IsBesideCause g s e name task w r → IsCause (seen_over (both_parts f g) s e) (Values task of (Some name)) r
      beside_cause r (inl (cause, untouched, kept)) =
          inl (inr (record { own = w; has_asked = has_asked w ready; cause = refused_over w r cause }), untouched, kept)
      beside_cause r (inr (q, holds, cause)) = inr (
        beside w q,
        record { own = w; has_asked = has_asked w ready; request = q; holds = held_over w q holds; setting_is = refl },
        cause,
      )

      pub beside_refused : (result : Result (List ℕ) Refusal) → IfErr result (IsBesideCause g s e name task w)
          → IfErr result (IsCause (seen_over (both_parts f g) s e) (Values task of (Some name)))
      beside_refused (Ok made) cause = tt
      beside_refused (Err r) cause = beside_cause r cause
