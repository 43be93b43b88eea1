-- One file alone is due and missing.
use Rattle.std.proofs.Common.{◌≡◌, ◌∙◌, ℕ, List, [], ◌∷◌, length, Option, Some, refl, sym, ap, subst, inl, inr}
use Rattle.std.proofs.lemmas.Option.{same_Some}
use Rattle.idl_grammar.specs.Files.{Idl}
use Rattle.nd_base.specs.Over.{IsMissing}
use Rattle.idl_grammar.specs.Tree.{Tree}
use Rattle.idl_scope.specs.declared.name_fault.NameFault.TheVariants as names
use Rattle.idl_names.specs.Walk.{Source, and_source, State, Due, Ending, Done, Stopped, Walk, start, all_of, goes_on, faults, ends, again, absent, failed, enters}
use Rattle.idl_names.proofs.Once.{one_ending}
use Rattle.command_compile.specs.Idl.{main_file, name_in, AreResolved, IsDueImport, IsDueAfter}
use Rattle.command_compile.proofs.Compiled.{last_name}
use Rattle.idl_names.proofs.Once.{one_tree}
use Rattle.command_compile.proofs.Walks.{passed_fault}

abbrev absent_name : Ending → List ℕ
absent_name (Stopped sources (names.Absent n)) = name_in sources n
absent_name _ = []

module _ (k : List ℕ → Option (List ℕ)) (idl : Idl) (text : List ℕ) where
  -- where the load of a missing file would fail, it is absent
  due_absent : (s : State) (due : List Due) (sources : List Source) (n : ℕ) (before : List Source) (name : List ℕ) → sources ≡ and_source before name []
      → n ≡ length before → IsMissing (Some k) name → Walk (Some k) s due (Stopped sources (names.Failed n)) → Walk (Some k) s due (Stopped sources (names.Absent n))
  due_absent st ds sources n before name a b m (goes_on s file step known rest e c d) =
      goes_on s file step known rest _ c (due_absent _ rest sources n before name a b m d)
  due_absent st ds sources n before name a b m (faults s file step f rest c) = absurd (passed_fault file s.known step (names.Failed n) c)
  due_absent st ds sources n before name a b m (ends s file t rest e d) = ends s file t rest _ (due_absent _ rest sources n before name a b m d)
  due_absent st ds sources n before name a b m (again s place other rest e j c h d) =
      again s place other rest _ j c h (due_absent s rest sources n before name a b m d)
  due_absent st ds sources n before name a b m (enters s place other rest e body t is_due c v d) =
      enters s place other rest _ body t is_due c v (due_absent _ _ sources n before name a b m d)
  due_absent st ds sources n before name a b m (failed s place other rest is_due) =
      let mine = last_name sources before name n a b in
      let its = last_name sources s.sources other n refl refl in
      absent s place other rest is_due (subst (IsMissing (Some k)) (sym mine ∙ its) m)

  -- a missing import ends the walk
  absent_walk : (file : List ℕ) (due : IsDueImport (Some k) idl text file) → IsMissing (Some k) file
      → Walk (Some k) (start idl.language (main_file idl text)) (all_of 0 due.tree) (Stopped (and_source due.sources file []) (names.Absent (length due.sources)))
  absent_walk file due missing =
      due_absent (start idl.language (main_file idl text)) (all_of 0 due.tree) (and_source due.sources file []) (length due.sources) due.sources file refl refl missing due.comes

  moved : (t u : Tree) (e : Ending) → t ≡ u → Walk (Some k) (start idl.language (main_file idl text)) (all_of 0 u) e → Walk (Some k) (start idl.language (main_file idl text)) (all_of 0 t) e
  moved t u e same w = subst (λ z. Walk (Some k) (start idl.language (main_file idl text)) (all_of 0 z) e) (sym same) w

  one_import : (file other : List ℕ) → IsDueImport (Some k) idl text file → IsMissing (Some k) file → IsDueImport (Some k) idl text other → IsMissing (Some k) other
      → file ≡ other
  one_import file other due missing due' missing' =
      let s = and_source due.sources file [] in
      let s' = and_source due'.sources other [] in
      let n = length due.sources in
      let n' = length due'.sources in
      let same : due.tree ≡ due'.tree = one_tree idl.language text due.tree due'.tree due.parsed due'.parsed in
      let w = absent_walk file due missing in
      let v = moved due.tree due'.tree (Stopped s' (names.Absent n')) same (absent_walk other due' missing') in
      let e : Stopped s (names.Absent n) ≡ Stopped s' (names.Absent n') = one_ending k refl refl w v in
      sym (last_name s due.sources file n refl refl) ∙ ap absent_name e ∙ last_name s' due'.sources other n' refl refl

  import_or_resolved : {B : Type 0} (file : List ℕ) (state : State) → IsDueImport (Some k) idl text file → IsMissing (Some k) file → AreResolved (Some k) idl text state → B
  import_or_resolved file state due missing r =
      let s = and_source due.sources file [] in
      let n = length due.sources in
      let same : due.tree ≡ r.tree = one_tree idl.language text due.tree r.tree due.parsed r.parsed in
      let w = absent_walk file due missing in
      let v = moved due.tree r.tree (Done state) same r.names.walk in
      let e : Stopped s (names.Absent n) ≡ Done state = one_ending k refl refl w v in
      absurd (cc)

  pub one_missing : (acf : Option (List ℕ)) (file other : List ℕ) → IsDueAfter (Some k) idl text acf file → IsMissing (Some k) file
      → IsDueAfter (Some k) idl text acf other → IsMissing (Some k) other → file ≡ other
  one_missing acf file other (inl due) missing (inl due') missing' = one_import file other due missing due' missing'
  one_missing acf file other (inl due) missing (inr due') missing' = import_or_resolved file due'.state due missing due'.resolved
  one_missing acf file other (inr due) missing (inl due') missing' = import_or_resolved other due.state due' missing' due.resolved
  one_missing acf file other (inr due) missing (inr due') missing' = same_Some _ _ (sym due.named ∙ due'.named)
