-- One chunk that is read and given.
-- `w` is a setting, `i` an intake, `vs` are the elements of the chunk, `which` is the number of the end.
use Rattle.std.proofs.Common.{◌≡◌, ◌≤◌, ◌∙◌, ap, sym, subst, ℕ, List, [], ◌∷◌, length, Some, None, arith, inr}
use Rattle.std.specs.List.{AllByRecursion}
use Rattle.std.specs.Prelude.{take}
use Rattle.nd_base.specs.Over.{SourceOver}
use Rattle.nd_types.specs.Table.{Table}
use Rattle.nd_value.specs.Nodes.{home_nodes}
use Rattle.nd_value.specs.Setting.{Setting}
use Rattle.nd_value.specs.Tree.{Tree}
use Rattle.text_grammar.specs.Sound.{IsSound}
use Rattle.text_printer.proofs.Fits.{sound_nodes}
use Rattle.nd_grammar.specs.decoded.Verdict.{DecodingSeen}
use Rattle.ndr_drain_laws.specs.parts.Parts.{IsElement, elem_at, no_graph}
use Rattle.ndr_pipe.specs.Ends.{EndSeen, with_octets, ended, FailsAt, change_at}
use Rattle.ndr_drain_reader.specs.Calls.{IsAnswered}
use Rattle.ndr_drain_reader.specs.Seen.{IntakeSeen}
use Rattle.ndr_drain.specs.Drained.{chunk_lines, end_after, end_of_root, lines}
use Rattle.ndr_drain.specs.Turns.{AreCut, HasPassed, IsStepCause}
use Rattle.ndr_drain.specs.declared.fault.DrainFault.TheVariants as fault
use Rattle.ndr_drain.specs.declared.fault.GiveFault.TheVariants as give

-- elements that conform have a text each
pub all_sound : (table : Table) (t : ℕ) (vs : List Tree) → AllByRecursion (IsElement table t) vs → AllByRecursion (IsSound table t) vs
all_sound table t [] a = tt
all_sound table t (v ∷ vs) a = (sound_nodes table no_graph (home_nodes table t v) a.0.local, all_sound table t vs a.1)

-- the elements of a chunk, by the table and the type with which they are printed
pub sound_for : (w : Setting) (types : Table) (r of : ℕ) (vs : List Tree) → w.table ≡ types → of ≡ elem_at w r → AllByRecursion (IsElement w.table (elem_at w r)) vs
    → AllByRecursion (IsSound types of) vs
sound_for w types r of vs same e a =
    let T : Table → Type 0 = λ t. AllByRecursion (IsSound t of) vs in
    let N : ℕ → Type 0 = λ n. AllByRecursion (IsSound w.table n) vs in
    subst T same (subst N (sym e) (all_sound w.table (elem_at w r) vs a))

none_long : 1 ≤ length {A = Tree} [] → ⊥
none_long h = omega (arith, h)

-- a chunk that has elements gives them to its end
lines_after : (w : Setting) (i : IntakeSeen) (vs : List Tree) (which : ℕ) (ends ends_now : List EndSeen) → 1 ≤ length vs → which ≡ end_of_root w i.spot.root
    → ends_now ≡ change_at which (with_octets (chunk_lines w i.spot vs)) ends → ends_now ≡ change_at (end_of_root w i.spot.root) (end_after w i.spot vs) ends
lines_after w i [] which ends ends_now h e g = absurd (none_long h)
lines_after w i (v ∷ vs) which ends ends_now h e g = g ∙ ap (λ n. change_at n (with_octets (chunk_lines w i.spot (v ∷ vs))) ends) e

pub given : (w : Setting) (types : Table) → w.table ≡ types → (i now : IntakeSeen) (s : SourceOver) (t : DecodingSeen) (vs : List Tree) (which of : ℕ) (ends ends_now : List EndSeen)
    → IsAnswered w s t i now (Some vs)
    → which ≡ end_of_root w i.spot.root → of ≡ elem_at w i.spot.root → ends_now ≡ change_at which (with_octets (lines types of vs)) ends
    → HasPassed w i now s (record { before = ends; now = ends_now }) t
given w types same i now s t vs which of ends ends_now a e f g = record {
  elements = vs;
  read = a.0;
  given = lines_after w i vs which ends ends_now a.1 e
      (g ∙ ap (λ (tb : Table). change_at which (with_octets (lines tb of vs)) ends) (sym same) ∙ ap (λ n. change_at which (with_octets (lines w.table n vs)) ends) f);
}

pub finished : (w : Setting) (i now : IntakeSeen) (s : SourceOver) (t : DecodingSeen) (which : ℕ) (ends ends_now : List EndSeen) → IsAnswered w s t i now None
    → which ≡ end_of_root w i.spot.root → ends_now ≡ change_at which ended ends → HasPassed w i now s (record { before = ends; now = ends_now }) t
finished w i now s t which ends ends_now a e g = record { elements = []; read = a; given = g ∙ ap (λ n. change_at n ended ends) e }

pub cut_lines : (w : Setting) (types : Table) → w.table ≡ types → (i now : IntakeSeen) (s : SourceOver) (t : DecodingSeen) (vs : List Tree) (which of : ℕ) (ends ends_now : List EndSeen)
    → IsAnswered w s t i now (Some vs)
    → which ≡ end_of_root w i.spot.root → of ≡ elem_at w i.spot.root → AreCut ends ends_now which (lines types of vs) give.Memory
    → IsStepCause w i s (record { before = ends; now = ends_now }) t fault.Memory
cut_lines w types same i now s t vs which of ends ends_now a e f (cut, g) = inr (record {
  elements = vs;
  now = now;
  read = a.0;
  cut = cut;
  given = g ∙ ap (λ (tb : Table). change_at which (with_octets (take cut (lines tb of vs))) ends) (sym same) ∙ ap (λ n. change_at which (with_octets (take cut (lines w.table n vs))) ends) f
      ∙ ap (λ n. change_at n (with_octets (take cut (chunk_lines w i.spot vs))) ends) e;
})

pub end_failed : (w : Setting) (types : Table) → w.table ≡ types → (i now : IntakeSeen) (s : SourceOver) (t : DecodingSeen) (vs : List Tree) (which of : ℕ) (ends ends_now : List EndSeen)
    → IsAnswered w s t i now (Some vs)
    → which ≡ end_of_root w i.spot.root → of ≡ elem_at w i.spot.root → AreCut ends ends_now which (lines types of vs) give.End
    → IsStepCause w i s (record { before = ends; now = ends_now }) t (fault.EndFailed which)
end_failed w types same i now s t vs which of ends ends_now a e f g = record {
  elements = vs;
  now = now;
  read = a.0;
  which_is = e;
  failed = subst (λ n. FailsAt ends ends_now which (lines w.table n vs)) f (subst (λ (tb : Table). FailsAt ends ends_now which (lines tb of vs)) (sym same) g);
}

pub finish_failed : (w : Setting) (i now : IntakeSeen) (s : SourceOver) (t : DecodingSeen) (which : ℕ) (ends ends_now : List EndSeen) → IsAnswered w s t i now None
    → which ≡ end_of_root w i.spot.root → FailsAt ends ends_now which [] → IsStepCause w i s (record { before = ends; now = ends_now }) t (fault.EndFailed which)
finish_failed w i now s t which ends ends_now a e g = record { elements = []; now = now; read = a; which_is = e; failed = g }
