use Rattle.std.proofs.Common.{◌≡◌, ◌∙◌, Some, None, sym, ap}
use Rattle.library_handles.specs.declared.held.Held.{Held}
use Rattle.library_handles.specs.declared.held.Held.TheVariants as kept
use Rattle.library_answers.specs.Answers.{interface_in}
use Rattle.dceidl_c.proofs.versions.dceidl_compare.Goals as goal
use Rattle.dceidl_c.proofs.versions.dceidl_compare.Goals.{in-Interface, in_default-deref}

pub returns-clause-empty : goal.returns-clause-empty
returns-clause-empty c empty i there =
    elim c.match-deref.branch [
      | in-Interface w ↦ w.compare_with-status.ensures.empty (sym w.status-is ∙ empty)
      | in_default-deref w ↦
          (elim c.in-Some.held.value as (λ (h : Held). c.deref.result.now ≡ h → interface_in (Some h) ≡ Some i → interface_in c.args.newer.now.value ≡ None) [
            | kept.Interface x ↦ λ same e. absurd (w.in_default-deref.not-Interface x same)
            | _ ↦ λ same e. cc
          ]) c.deref.ensures (ap interface_in (sym c.in-Some.ensures.taken) ∙ there)
    ]
