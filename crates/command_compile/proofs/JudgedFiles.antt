-- Each main file means an interface, or is refused.
use Rattle.std.proofs.Common.{◌≡◌, ℕ, Bool, true, false, ◌||◌, eqb, List, [], ◌∷◌, ◌++◌, map, refl, sym, ap, subst, ◌∙◌, Option, Some, None, Ok}
use Rattle.std.specs.List.{list_any}
use Rattle.std.proofs.lemmas.List.Folds.{list_any-append}
use Rattle.idl_grammar.specs.Files.{Idl}
use Rattle.idl_grammar.specs.declared.language.Language.{Language}
use Rattle.nd_lemmas.proofs.Booleans.{clash}
use Rattle.idl_grammar.specs.Tree.{Tree}
use Rattle.idl_scope.specs.Known.{Ended, ended}
use Rattle.idl_scope.specs.Steps.{attribute_steps, imports_of, declaration_steps}
use Rattle.idl_names.specs.Walk.{IsFile, Source, State, Due, Pass, Load, End, Done, Walk, IsResolved, all_of, load_of, start, with_ended}
use Rattle.idl_names.specs.Walk as walk
use Rattle.idl_rule_definitions.specs.Nodes.{World}
use Rattle.idl_rule_definitions.specs.Rules.{Breach, breaches, first_broken, first_of}
use Rattle.idl_rule_definitions.specs.Scene.{scene_of}
use Rattle.nd_types.specs.Meant.{Meant}
use Rattle.idl_rule_definitions.specs.Meaning.{meaning, main_among, header_meant, types_of, operations_of, HasIdentifiers}
use Rattle.command_compile.specs.Read.{IsReadAs, AsFile, AsNoFile, AsUncut}
use Rattle.command_compile.specs.Named.{Comes, ToNames, ToFault}
use Rattle.command_compile.specs.Judged.{world, MeansLegal, IsJudged, Means, Breaks, main_file, HasOutcome, Interface, Broken, Unnamed, NoFile, Uncut}
use Rattle.command_compile.proofs.Read.{each_read}
use Rattle.command_compile.proofs.Ends.{each_main}
use Rattle.command_compile.proofs.MeantNames.{meant_named}
use Rattle.idl_legal_laws.proofs.legal.All.{all_legal}

-- ## The main file has ended

abbrev has_main : List Ended → Bool
has_main files = list_any (λ e. eqb e.file 0) files

abbrev ends_main : Due → Bool
ends_main (Pass file step) = false
ends_main (Load place name) = false
ends_main (End file t) = eqb file 0

abbrev main_due : List Due → Bool
main_due dues = list_any ends_main dues

or_none : (a : Bool) → (a || false) ≡ a
or_none true = refl
or_none false = refl

or_true : (a : Bool) → (a || true) ≡ true
or_true true = refl
or_true false = refl

or_more : (a b c : Bool) → (a || c) ≡ true → (a || (b || c)) ≡ true
or_more true b c h = refl
or_more false true c h = refl
or_more false false c h = h

-- a file that ends is there afterwards
or_moved : (a b c : Bool) → (a || (b || c)) ≡ true → ((a || (b || false)) || c) ≡ true
or_moved true b c h = refl
or_moved false true c h = refl
or_moved false false c h = h

module _ (held : Option (List ℕ → Option (List ℕ))) (d : State) where
  main_kept : {s : State} {dues : List Due} → Walk held s dues (Done d) → (has_main s.ended || main_due dues) ≡ true → has_main d.ended ≡ true
  main_kept (walk.all_done s) h = sym (or_none (has_main s.ended)) ∙ h
  main_kept (walk.goes_on s file step k rest _ is w) h = main_kept w h
  main_kept (walk.ends s file t rest _ w) h =
      main_kept w (ap (λ b. b || main_due rest) (list_any-append (λ e. eqb e.file 0) s.ended (ended file t ∷ [])) ∙ or_moved (has_main s.ended) (eqb file 0) (main_due rest) h)
  main_kept (walk.again s place name rest _ n is done w) h = main_kept w h
  main_kept (walk.enters s place name rest _ text t due content is w) h =
      main_kept w (ap (λ b. has_main s.ended || b) (list_any-append ends_main (all_of _ t) rest) ∙ or_more (has_main s.ended) (main_due (all_of _ t)) (main_due rest) h)

last_due : (xs : List Due) (t : Tree) → main_due (xs ++ End 0 t ∷ []) ≡ true
last_due xs t = list_any-append ends_main xs (End 0 t ∷ []) ∙ or_true (main_due xs)

main_ended : {language : Language} (held : Option (List ℕ → Option (List ℕ))) (main : List Source) (t : Tree) (s : State) → IsResolved language held main t s → has_main s.ended ≡ true
main_ended held main t s r =
    main_kept held s r.walk (last_due (map (Pass 0) (attribute_steps t.attributes) ++ map (load_of 0) (imports_of t) ++ map (Pass 0) (declaration_steps true t)) t)

-- ## What it means

main_found : (files : List Ended) → has_main files ≡ true → (t : Tree) × (main_among files ≡ t ∷ [])
main_found [] h = clash false h refl
main_found (f ∷ fs) h = by_case (eqb f.file 0) h (main_found fs)
  where
    by_case : (b : Bool) → (b || has_main fs) ≡ true → (has_main fs ≡ true → (t : Tree) × (main_among fs ≡ t ∷ []))
        → (t : Tree) × (elim b [ true ↦ f.tree ∷ [] | false ↦ main_among fs ] ≡ t ∷ [])
    by_case true g later = (f.tree, refl)
    by_case false g later = later g

pub none_broken : (w : World) (bs : List Breach) → first_of w bs ≡ None → bs ≡ []
none_broken w [] h = refl
none_broken w (b ∷ bs) h = absurd (cc)

means_legal : (w : World) → first_broken w ≡ None → (t : Tree) → main_among w.files ≡ t ∷ [] → MeansLegal w (header_meant (scene_of w) t)
unfolding meaning
means_legal w none t is = record { keeps = none; means = ap (map (header_meant (scene_of w))) is; legal = all_legal w (none_broken w (breaches w) none) }

judged : (w : World) → has_main w.files ≡ true → IsJudged w
judged w h = by_case (first_broken w) refl
  where
    by_case : (o : Option Breach) → first_broken w ≡ o → IsJudged w
    by_case (Some b) is = Breaks b is
    by_case None is = let f = main_found w.files h in Means (header_meant (scene_of w) f.0) (means_legal w is f.0 f.1)

pub same_meant : (a b : Meant) → ◌≡◌ {A = List Meant} (a ∷ []) (b ∷ []) → a ≡ b
same_meant a b e = cc

-- what the files mean has the types and operations of their scene
named_by : (w : World) (trees : List Tree) (m : Meant) → map (header_meant (scene_of w)) trees ≡ m ∷ [] → HasIdentifiers (types_of (scene_of w)) (operations_of (scene_of w))
    → HasIdentifiers m.types m.operations
named_by w [] m e h = absurd (cc)
named_by w (t ∷ []) m e h =
    subst (λ (x : Meant). HasIdentifiers x.types x.operations) (same_meant (header_meant (scene_of w) t) m e) h
named_by w (t ∷ u ∷ trees) m e h = absurd (cc)

pub named_as : (w : World) (m : Meant) → meaning w ≡ m ∷ [] → HasIdentifiers (types_of (scene_of w)) (operations_of (scene_of w)) → HasIdentifiers m.types m.operations
unfolding meaning
named_as w m e h = named_by w (main_among w.files) m e h

pub each_resolved : (language : Language) (held : Option (List ℕ → Option (List ℕ))) (main : List Source) (t : Tree) (s : State) → IsResolved language held main t s → IsJudged (world s)
each_resolved language held main t s r = judged (world s) (main_ended held main t s r)

module _ (held : Option (List ℕ → Option (List ℕ))) (idl : Idl) (text : List ℕ) where
  by_judged : (t : Tree) → IsFile idl.language text t → (s : State) → IsResolved idl.language held (main_file idl text) t s → IsJudged (world s) → HasOutcome held idl text
  by_judged t file s r (Means m is) = Interface t file s r m is (is.legal (named_as (world s) m is.means (meant_named held (main_file idl text) text t s file r)))
  by_judged t file s r (Breaks b is) = Broken t file s r b is

  by_names : (t : Tree) → IsFile idl.language text t → Comes idl.language held (main_file idl text) t → HasOutcome held idl text
  by_names t file (ToNames s r) = by_judged t file s r (each_resolved idl.language held (main_file idl text) t s r)
  by_names t file (ToFault sources f decided is) = Unnamed t file sources f decided is

  by_read : IsReadAs idl.language text → HasOutcome held idl text
  by_read (AsFile t file) = by_names t file (each_main held idl.language (main_file idl text) t)
  by_read (AsNoFile at f is) = NoFile at f is
  by_read (AsUncut at kind is) = Uncut at kind is

  pub each_outcome : HasOutcome held idl text
  each_outcome = by_read (each_read idl.language text)
