-- Each walk has an ending.
use Rattle.std.proofs.Common.{◌≡◌, ◌⊎◌, inl, inr, ℕ, zero, suc, ◌+◌, ◌<◌, ◌≤◌, Bool, true, false, refl, sym, ap, subst, ◌∙◌, arith, List, [], ◌∷◌, ◌++◌, length, Option, Some, None, option_map, Result}
use Rattle.std.proofs.Common.{Ok, Err}
use Rattle.std.proofs.Math.Decide.{dec_lt}
use Rattle.std.proofs.lemmas.List.{length-append}
use Rattle.idl_grammar.specs.declared.language.Language.{Language}
use Rattle.nd_base.specs.declared.octets.Place.{Place}
use Rattle.nd_base.specs.Over.{loaded, IsContent, IsMissing}
use Rattle.idl_grammar.specs.Tree.{Tree}
use Rattle.idl_scope.specs.declared.name_fault.NameFault.{NameFault}
use Rattle.idl_scope.specs.declared.name_fault.NameFault.TheVariants as fault
use Rattle.idl_names.specs.Decided.{is_decided, HasEnding, has_memory, FailsAs, HasToldEnding}
use Rattle.idl_scope.specs.Known.{Known, passed, first_undefined, has_ended}
use Rattle.idl_names.specs.Walk.{Source, source, file_number, State, Due, Pass, Load, End, Ending, Done, Stopped, Walk, IsDue, IsResolved, IsRefused, start, all_of, most_files, with_known, with_ended}
use Rattle.idl_names.specs.Walk.{with_source}
use Rattle.idl_scope.specs.Steps.{Step}
use Rattle.idl_names.specs.Walk as walk
use Rattle.idl_names.proofs.Going.{IsOfNames, OfNames, passed_of_names}
use Rattle.command_compile.specs.Read.{IsReadAs, AsFile, AsNoFile, AsUncut}
use Rattle.command_compile.specs.Named.{Comes, ToNames, ToFault}
use Rattle.command_compile.proofs.Read.{each_read}

-- what is held under a name, or that nothing is
abbrev Holds : Option (List ℕ → Option (List ℕ)) → List ℕ → Type 0
Holds held name = ((text : List ℕ) × IsContent held name text) ⊎ IsMissing held name

holds : (held : Option (List ℕ → Option (List ℕ))) (name : List ℕ) → Holds held name
holds None name = inr tt
holds (Some f) name = by_case (f name) refl
  where
    by_case : (o : Option (List ℕ)) → f name ≡ o → Holds (Some f) name
    by_case (Some content) is = inl (loaded content, ap (option_map loaded) is)
    by_case None is = inr is

of_names : (sources : List Source) (f : NameFault) → IsOfNames f → is_decided (Stopped sources f) ≡ true
of_names sources fault.Memory h = absurd h
of_names sources (fault.Failed file) h = absurd h
of_names sources (fault.Absent file) h = absurd h
of_names sources _ h = refl

memory_of_names : (sources : List Source) (f : NameFault) → IsOfNames f → has_memory (Stopped sources f) ≡ true
memory_of_names sources fault.Memory h = absurd h
memory_of_names sources _ h = refl

abbrev none_fails : List ℕ → Bool
none_fails name = false

fails_or_not : {B : Type 0} → false ≡ true → B
fails_or_not e = absurd (cc)

-- an ending in which no load failed
is_told_decided : {held : Option (List ℕ → Option (List ℕ))} {s : State} {dues : List Due} {e : Ending} → has_memory e ≡ true → (w : Walk held s dues e) → FailsAs none_fails w
    → is_decided e ≡ true
is_told_decided p (walk.all_done s) h = refl
is_told_decided p (walk.goes_on s file step k rest e is w) h = is_told_decided p w h
is_told_decided p (walk.faults s file step f rest is) h =
    of_names s.sources f (subst (λ (r : Result Known NameFault). OfNames r) is (passed_of_names file s.known step))
is_told_decided p (walk.ends s file t rest e w) h = is_told_decided p w h
is_told_decided p (walk.cycle s place name rest n known not_done) h = refl
is_told_decided p (walk.again s place name rest e n known done w) h = is_told_decided p w h
is_told_decided p (walk.too_many s place name rest new full) h = refl
is_told_decided p (walk.absent s place name rest due missing) h = refl
is_told_decided p (walk.failed s place name rest due) h = fails_or_not h
is_told_decided p (walk.uncut s place name rest text at kind due content is) h = refl
is_told_decided p (walk.no_file s place name rest text at f due content is) h = refl
is_told_decided p (walk.enters s place name rest e text t due content is w) h = is_told_decided p w h.1
is_told_decided p (walk.short s rest) h = fails_or_not p
is_told_decided p (walk.short_in_load s place name rest due) h = fails_or_not p
is_told_decided p (walk.short_after_load s place name rest text due content) h = fails_or_not p

module _ (held : Option (List ℕ → Option (List ℕ))) (fails : List ℕ → Bool) where
  module _ (n : ℕ) (deeper : (s : State) (dues : List Due) → length s.sources ≤ most_files → most_files + 1 ≤ length s.sources + n → HasToldEnding held fails s dues) where
    by_step : (s : State) (file : ℕ) (step : Step) (rest : List Due) → ((k : Known) → HasToldEnding held fails (with_known s k) rest) → (r : Result Known NameFault)
        → passed file s.known step ≡ r → HasToldEnding held fails s (Pass file step ∷ rest)
    by_step s file step rest more (Ok k) is =
        let e = more k in record { ending = e.ending; memory = e.memory; walk = walk.goes_on s file step k rest e.ending is e.walk; fails_as = e.fails_as }
    by_step s file step rest more (Err f) is = record {
      ending = Stopped s.sources f;
      memory = memory_of_names s.sources f (subst (λ (r : Result Known NameFault). OfNames r) is (passed_of_names file s.known step));
      walk = walk.faults s file step f rest is;
      fails_as = tt;
    }

    module _ (s : State) (place : Place) (name : List ℕ) (rest : List Due) (enough : most_files ≤ length s.sources + n) where
      by_text : fails name ≡ false → IsDue s.sources name → (text : List ℕ) → IsContent held name text → IsReadAs s.language text → HasToldEnding held fails s (Load place name ∷ rest)
      by_text loads due text content (AsFile t is) =
          let size : length (with_source s name text).sources ≡ length s.sources + 1 = length-append s.sources (source name text ∷ []) in
          let e = deeper (with_source s name text) (all_of (length s.sources) t ++ rest) (omega (arith, size, due.room)) (omega (arith, size, enough)) in record {
            ending = e.ending;
            memory = e.memory;
            walk = walk.enters s place name rest e.ending text t due content is e.walk;
            fails_as = (loads, e.fails_as);
          }
      by_text loads due text content (AsNoFile at f is) = record { ending = _; memory = refl; walk = walk.no_file s place name rest text at f due content is; fails_as = loads }
      by_text loads due text content (AsUncut at kind is) = record { ending = _; memory = refl; walk = walk.uncut s place name rest text at kind due content is; fails_as = loads }

      by_content : fails name ≡ false → IsDue s.sources name → Holds held name → HasToldEnding held fails s (Load place name ∷ rest)
      by_content loads due (inl c) = by_text loads due c.0 c.1 (each_read s.language c.0)
      by_content loads due (inr missing) = record { ending = _; memory = refl; walk = walk.absent s place name rest due missing; fails_as = loads }

      by_load : IsDue s.sources name → (b : Bool) → fails name ≡ b → HasToldEnding held fails s (Load place name ∷ rest)
      by_load due true is = record { ending = _; memory = refl; walk = walk.failed s place name rest due; fails_as = is }
      by_load due false is = by_content is due (holds held name)

      by_ended : (m : ℕ) → file_number s.sources name ≡ Some m → HasToldEnding held fails s rest → (b : Bool) → has_ended s.ended m ≡ b → HasToldEnding held fails s (Load place name ∷ rest)
      by_ended m known e true done = record { ending = e.ending; memory = e.memory; walk = walk.again s place name rest e.ending m known done e.walk; fails_as = e.fails_as }
      by_ended m known e false not_done = record { ending = _; memory = refl; walk = walk.cycle s place name rest m known not_done; fails_as = tt }

      by_number : HasToldEnding held fails s rest → (o : Option ℕ) → file_number s.sources name ≡ o → HasToldEnding held fails s (Load place name ∷ rest)
      by_number e (Some m) known = by_ended m known e (has_ended s.ended m) refl
      by_number e None new = elim (dec_lt (length s.sources) most_files) as (λ _. HasToldEnding held fails s (Load place name ∷ rest)) [
        | yes room ↦ by_load (record { new = new; room = room }) (fails name) refl
        | no full ↦ record { ending = _; memory = refl; walk = walk.too_many s place name rest new (omega arith); fails_as = tt }
      ]

    by_dues : (dues : List Due) (s : State) → most_files ≤ length s.sources + n → HasToldEnding held fails s dues
    by_dues [] s enough = record { ending = Done s; memory = refl; walk = walk.all_done s; fails_as = tt }
    by_dues (Pass file step ∷ rest) s enough = by_step s file step rest (λ k. by_dues rest (with_known s k) enough) (passed file s.known step) refl
    by_dues (End file t ∷ rest) s enough =
        let e = by_dues rest (with_ended s file t) enough in record { ending = e.ending; memory = e.memory; walk = walk.ends s file t rest e.ending e.walk; fails_as = e.fails_as }
    by_dues (Load place name ∷ rest) s enough = by_number s place name rest enough (by_dues rest s enough) (file_number s.sources name) refl

  ends_from : (n : ℕ) (s : State) (dues : List Due) → most_files ≤ length s.sources + n → HasToldEnding held fails s dues
  ends_from zero s dues enough = by_dues zero (λ t more few h. absurd (omega (arith, few, h))) dues s enough
  ends_from (suc n) s dues enough = by_dues (suc n) (λ t more few h. ends_from n t more (omega (arith, h))) dues s enough

  pub each_told_walk : (s : State) (dues : List Due) → HasToldEnding held fails s dues
  each_told_walk s dues = ends_from most_files s dues (omega arith)

module _ (held : Option (List ℕ → Option (List ℕ))) where
  pub each_walk : (s : State) (dues : List Due) → HasEnding held s dues
  each_walk s dues =
      let e = each_told_walk held none_fails s dues in record { ending = e.ending; decided = is_told_decided e.memory e.walk e.fails_as; walk = e.walk }

  by_first : (language : Language) (main : List Source) (t : Tree) (s : State) → Walk held (start language main) (all_of 0 t) (Done s) → (o : Option Place)
      → first_undefined s.known s.known.uses ≡ o → Comes language held main t
  by_first language main t s w None is = ToNames s (record { walk = w; whole = is })
  by_first language main t s w (Some place) is = ToFault s.sources (fault.Unknown place) refl (inr (record { state = s; walk = w; sources_are = refl; first = is }))

  by_ending : (language : Language) (main : List Source) (t : Tree) (e : Ending) → is_decided e ≡ true → Walk held (start language main) (all_of 0 t) e → Comes language held main t
  by_ending language main t (Done s) d w = by_first language main t s w (first_undefined s.known s.known.uses) refl
  by_ending language main t (Stopped sources f) d w = ToFault sources f d (inl w)

  pub each_main : (language : Language) (main : List Source) (t : Tree) → Comes language held main t
  each_main language main t = let e = each_walk (start language main) (all_of 0 t) in by_ending language main t e.ending e.decided e.walk
