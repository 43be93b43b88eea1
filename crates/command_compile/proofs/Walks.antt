-- Where a walk ends at a load that is absent or fails.
use Rattle.std.proofs.Common.{◌≡◌, ℕ, zero, suc, Bool, true, false, ℤ, List, [], ◌∷◌, ◌++◌, length, Option, Some, None, Result, Ok, Err, refl, ap, subst}
use Rattle.std.specs.List.{slice_get}
use Rattle.nd_base.specs.declared.octets.Place.{Place}
use Rattle.nd_base.specs.Over.{IsMissing}
use Rattle.idl_scope.specs.declared.fault.ExpressionFault.{ExpressionFault}
use Rattle.idl_scope.specs.declared.fault.ExpressionFault.TheVariants as expression
use Rattle.idl_scope.specs.declared.name_fault.NameFault.{NameFault}
use Rattle.idl_scope.specs.declared.name_fault.NameFault.TheVariants as names
use Rattle.idl_scope.specs.Known.{Known, passed, where_known, where_free, where_valued, in_file, value_in, tag_used, is_type, is_defined, meaning_in, place_in, tag_place, with_tag, with_place}
use Rattle.idl_scope.specs.Known.{with_meaning, place_in_list, found}
use Rattle.idl_scope.specs.Value.{evaluated}
use Rattle.idl_scope.specs.Steps.{Step, UseType, UseTag, DefineTag, Declare, Know, KnowValue, KnowNext, Evaluate, Enlist}
use Rattle.idl_names.specs.Walk.{Source, and_source, source, State, Due, Ending, Done, Stopped, Walk, all_done, goes_on, faults, ends, cycle, again, too_many, absent, failed, uncut, no_file, enters}
use Rattle.idl_names.specs.Walk.{short, short_in_load, short_after_load}

-- the faults of steps: a name or an expression
abbrev IsStepFault : NameFault → Type 0
IsStepFault (names.Unknown p) = Unit {0}
IsStepFault (names.Twice p q) = Unit {0}
IsStepFault (names.Const p x) = Unit {0}
IsStepFault _ = ⊥

known_fault : (b : Bool) (p : Place) (k : Known) (f : NameFault) → where_known b p k ≡ Err f → IsStepFault f
known_fault true p k f e = cc
known_fault false p k f e = let same : names.Unknown p ≡ f = cc in subst IsStepFault same tt

free_fault : (o : Option Place) (p : Place) (k : Known) (f : NameFault) → where_free o p k ≡ Err f → IsStepFault f
free_fault None p k f e = cc
free_fault (Some q) p k f e = let same : names.Twice p q ≡ f = cc in subst IsStepFault same tt

valued_fault : (file : ℕ) (x : Result ℤ ExpressionFault) (next : ℤ → Known) (f : NameFault) → where_valued (in_file file x) next ≡ Err f → IsStepFault f
valued_fault file (Ok z) next f e = cc
valued_fault file (Err (expression.Unknown at)) next f e =
    let same : names.Unknown (record { file = file; at = at }) ≡ f = cc in subst IsStepFault same tt
valued_fault file (Err (expression.Const x)) next f e =
    let same : names.Const (record { file = file; at = x.at }) x.fault ≡ f = cc in subst IsStepFault same tt

pub passed_fault : (file : ℕ) (k : Known) (step : Step) (f : NameFault) → passed file k step ≡ Err f → IsStepFault f
passed_fault file k (UseType name) f e = known_fault (is_type (meaning_in k name.octets)) (place_in file name) k f e
passed_fault file k (UseTag kind tag behind) f e = by (is_defined k kind tag.octets) behind e where
  by : (b c : Bool) → ◌≡◌ {A = Result Known NameFault} (elim b [ true ↦ Ok k | false ↦ tag_used file k kind tag c ]) (Err f) → IsStepFault f
  by true c h = cc
  by false true h = cc
  by false false h = let same : names.Unknown (place_in file tag) ≡ f = cc in subst IsStepFault same tt
passed_fault file k (DefineTag kind tag) f e = free_fault (tag_place k tag.octets) (place_in file tag) _ f e
passed_fault file k (Declare name) f e = free_fault (found name.octets k.places) (place_in file name) _ f e
passed_fault file k (Know name m) f e = cc
passed_fault file k (KnowValue name x) f e = valued_fault file (evaluated (meaning_in k) x) _ f e
passed_fault file k (KnowNext name previous) f e = cc
passed_fault file k (Evaluate x) f e = valued_fault file (evaluated (meaning_in k) x) _ f e
passed_fault file k (Enlist before name) f e = free_fault (place_in_list file before name.octets) (place_in file name) k f e

module _ (held : Option (List ℕ → Option (List ℕ))) where
  abbrev pub at_load : List Source → List ℕ → Ending
  at_load before name = Stopped (and_source before name []) (names.Failed (length before))

  -- a walk that ends at a load that is absent
  pub record IsAbsentAt (s : State) (due : List Due) (sources : List Source) (n : ℕ) : Type 0 where
    pub before : List Source
    pub name : List ℕ
    pub sources_are : sources ≡ and_source before name []
    pub number : n ≡ length before
    pub missing : IsMissing held name
    pub comes : Walk held s due (at_load before name)

  pub walk_absent : (s : State) (due : List Due) (sources : List Source) (n : ℕ) → Walk held s due (Stopped sources (names.Absent n)) → IsAbsentAt s due sources n
  walk_absent st ds sources n (goes_on s file step k rest e a d) =
      let r = walk_absent _ rest sources n d in
      record { before = r.before; name = r.name; sources_are = r.sources_are; number = r.number; missing = r.missing; comes = goes_on s file step k rest _ a r.comes }
  walk_absent st ds sources n (faults s file step f rest a) = absurd (passed_fault file s.known step (names.Absent n) a)
  walk_absent st ds sources n (ends s file t rest e d) =
      let r = walk_absent _ rest sources n d in
      record { before = r.before; name = r.name; sources_are = r.sources_are; number = r.number; missing = r.missing; comes = ends s file t rest _ r.comes }
  walk_absent st ds sources n (again s place name rest e m a b d) =
      let r = walk_absent s rest sources n d in
      record { before = r.before; name = r.name; sources_are = r.sources_are; number = r.number; missing = r.missing; comes = again s place name rest _ m a b r.comes }
  walk_absent st ds sources n (enters s place name rest e text t is_due c v d) =
      let r = walk_absent _ _ sources n d in
      record { before = r.before; name = r.name; sources_are = r.sources_are; number = r.number; missing = r.missing; comes = enters s place name rest _ text t is_due c v r.comes }
  walk_absent st ds sources n (absent s place name rest is_due m) =
      record { before = s.sources; name = name; sources_are = refl; number = refl; missing = m; comes = failed s place name rest is_due }

  -- a walk that ends at a load that fails
  pub record IsFailedAt (sources : List Source) (n : ℕ) : Type 0 where
    pub before : List Source
    pub name : List ℕ
    pub sources_are : sources ≡ and_source before name []
    pub number : n ≡ length before

  pub walk_failed : (s : State) (due : List Due) (sources : List Source) (n : ℕ) → Walk held s due (Stopped sources (names.Failed n)) → IsFailedAt sources n
  walk_failed st ds sources n (goes_on s file step k rest e a d) = walk_failed _ rest sources n d
  walk_failed st ds sources n (faults s file step f rest a) = absurd (passed_fault file s.known step (names.Failed n) a)
  walk_failed st ds sources n (ends s file t rest e d) = walk_failed _ rest sources n d
  walk_failed st ds sources n (again s place name rest e m a b d) = walk_failed s rest sources n d
  walk_failed st ds sources n (enters s place name rest e text t is_due c v d) = walk_failed _ _ sources n d
  walk_failed st ds sources n (failed s place name rest is_due) = record { before = s.sources; name = name; sources_are = refl; number = refl }

-- the last of the sources
pub last_source : (before : List Source) (x : Source) → slice_get (before ++ x ∷ []) (length before) ≡ Some x
last_source [] x = refl
last_source (y ∷ before) x = last_source before x
