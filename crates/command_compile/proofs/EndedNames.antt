-- The files whose resolving has ended are files of the language, so they have identifiers for names.
use Rattle.std.proofs.Common.{◌≡◌, ℕ, Bool, true, eqb, List, [], ◌∷◌, ◌++◌, map, length, Option, refl}
use Rattle.std.specs.List.{list_all}
use Rattle.std.specs.Cmp.Derive.{both_true}
use Rattle.std.proofs.lemmas.Bool.{and_parts as both}
use Rattle.idl_grammar.specs.declared.language.Language.{Language}
use Rattle.nd_lemmas.proofs.Lists.{join_all}
use Rattle.idl_grammar.specs.declared.words.Spelling.{Spelling}
use Rattle.idl_grammar.specs.Tree.{Tree}
use Rattle.idl_scope.specs.Known.{Ended, ended}
use Rattle.idl_names.specs.Walk.{IsFile, Source, State, Due, Pass, Load, End, Done, Walk, IsResolved, all_of, load_of}
use Rattle.idl_scope.specs.Steps.{Step, attribute_steps, imports_of, declaration_steps}
use Rattle.idl_names.specs.Walk as walk
use Rattle.command_compile.proofs.TreeNames.{tree_named, file_named}

abbrev pub ended_named : Ended → Bool
ended_named e = tree_named e.tree

abbrev due_named : Due → Bool
due_named (Pass file step) = true
due_named (Load place name) = true
due_named (End file t) = tree_named t

passes : (file : ℕ) (steps : List Step) → list_all due_named (map (Pass file) steps) ≡ true
passes file [] = refl
passes file (s ∷ steps) = passes file steps

loads : (file : ℕ) (imports : List Spelling) → list_all due_named (map (load_of file) imports) ≡ true
loads file [] = refl
loads file (s ∷ imports) = loads file imports

all_due : (file : ℕ) (t : Tree) → tree_named t ≡ true → list_all due_named (all_of file t) ≡ true
all_due file t h =
    let a = map (Pass file) (attribute_steps t.attributes) in
    let i = map (load_of file) (imports_of t) in
    let d = map (Pass file) (declaration_steps (eqb file 0) t) in
    join_all due_named (a ++ i ++ d) (End file t ∷ [])
    (join_all due_named (a ++ i) d (join_all due_named a i (passes file (attribute_steps t.attributes)) (loads file (imports_of t))) (passes file (declaration_steps (eqb file 0) t)))
    (both_true h refl)

module _ (held : Option (List ℕ → Option (List ℕ))) (d : State) where
  all_ended : {s : State} {dues : List Due} → Walk held s dues (Done d) → list_all ended_named s.ended ≡ true → list_all due_named dues ≡ true → list_all ended_named d.ended ≡ true
  all_ended (walk.all_done s) h i = h
  all_ended (walk.goes_on s file step k rest _ is w) h i = all_ended w h i
  all_ended (walk.ends s file t rest _ w) h i =
      let x = both (tree_named t) (list_all due_named rest) i in
      all_ended w (join_all ended_named s.ended (ended file t ∷ []) h (both_true x.0 refl)) x.1
  all_ended (walk.again s place name rest _ n is done w) h i = all_ended w h i
  all_ended (walk.enters s place name rest _ text t due content is w) h i =
      all_ended w h (join_all due_named (all_of (length s.sources) t) rest (all_due (length s.sources) t (file_named text t is)) i)

pub resolved_named : {language : Language} (held : Option (List ℕ → Option (List ℕ))) (main : List Source) (text : List ℕ) (t : Tree) (s : State) → IsFile language text t
    → IsResolved language held main t s
    → list_all ended_named s.ended ≡ true
resolved_named held main text t s is r = all_ended held s r.walk refl (all_due 0 t (file_named text t is))
