-- What compiling answers, from what its steps answer.
use Rattle.std.proofs.Common.{◌≡◌, ◌∙◌, ◌≤◌, ℕ, arith, List, [], ◌∷◌, ◌++◌, append_assoc, length, Option, Some, Err, refl, sym, ap, subst, inl, inr}
use Rattle.idl_grammar.specs.Text.{Depth, Ban, lexemes}
use Rattle.idl_grammar.specs.ReadPhrases.{Syntax, Passes}
use Rattle.idl_lexer.specs.Verdict.{Lexed, AreTokens}
use Rattle.idl_grammar.specs.Grammar as grammar
use Rattle.idl_grammar.specs.Answers.{Answers}
use Rattle.idl_grammar.specs.declared.fault.SyntaxFault.{SyntaxFault}
use Rattle.idl_grammar.specs.declared.fault.SyntaxFault.TheVariants as parser
use Rattle.idl_parser.specs.Answered.{Told}
use Rattle.idl_scope.specs.declared.name_fault.NameFault.{NameFault}
use Rattle.idl_scope.specs.declared.name_fault.NameFault.TheVariants as names
use Rattle.idl_names.specs.Walk.{Source, source, and_source, Walk, start, all_of, Stopped, IsFile, State, names_of, AsksAlong}
use Rattle.idl_names.specs.Causes.{IsAbsent, IsFailed}
use Rattle.command_refusals.specs.declared.refusal.Refusal.{Refusal}
use Rattle.command_refusals.specs.declared.refusal.Refusal.TheVariants.{Memory}
use Rattle.command_compile.specs.Idl.{main_file, IsMainFault, IsNameFault, IsDueImport, by_names, reported_fault, name_in, IsDueAfter, IsIdlFault, Means, AreResolved}
use Rattle.idl_lexer.specs.declared.tokens.LexFault.TheVariants as lexical
use Rattle.nd_base.specs.Over.{IsContent, IsMissing, Rose, FilesOver, HasRisen}
use Rattle.command_refusals.specs.declared.refusal.Refusal.TheVariants.{Absent, FileFailed, BadIdl, NoOperation, ReadFault, BadOctets, BadText, BadValue, TooLong, BadRequest}
use Rattle.command_refusals.specs.declared.refusal.Refusal.TheVariants.{BadLabel, ShortLabel, TooFewEnds, EndFailed, BadPdu, NotCompatible, BadScript, LongScript}
use Rattle.nd_base.proofs.Rising.{rose_later}
use Rattle.command_compile.specs.Compiled.{IsTextCause, IsIdlCause, AreAsked, AsksFiles, all_due, IsCompiled}
use Rattle.command_compile.proofs.Walks.{walk_absent, walk_failed, last_source}
use Rattle.std.specs.Prelude.{drop, option_to_list, IfOk, Result, Ok}
use Rattle.idl_grammar.specs.declared.language.Language.{Language}
use Rattle.idl_grammar.specs.Files.{Idl}
use Rattle.idl_grammar.specs.Tree.{Tree}
use Rattle.nd_types.specs.declared.interface.Interface.{Interface}
use Rattle.command_compile.proofs.AskedFiles.{reached_names, along, all_names, all_asked}
use Rattle.command_refusals.specs.Loads.{IsLoadCause}
use Rattle.command_compile.specs.Reading.{IsReportedUnparsed, IsOrMemory, IsJudged, MeansAfter, AsksAfter, AsksOfImports}

-- tokens that are no file of the language are a main file that is refused
pub unparsed_main : (language : Language) (text : List ℕ) (l : Lexed) → l.text ≡ text → AreTokens text l.tokens → (f : SyntaxFault)
    → Told (λ a. Answers grammar.file (lexemes language l) a) (Err f) → (r : NameFault) → IsReportedUnparsed l f r → IsMainFault language text r
unparsed_main language text l same tokens parser.Memory h r told = subst (IsMainFault language text) (sym told) tt
unparsed_main language text l same tokens (parser.Syntax k) h r told =
    subst (IsMainFault language text) (sym told)
    (refl, record { lexed = l; told = Syntax k; token = k; is_told = (refl, refl); read = record { text_is = same; tokens = tokens; answered = h }; octet = refl })
unparsed_main language text l same tokens (parser.Deep k) h r told =
    subst (IsMainFault language text) (sym told)
    (refl, record { lexed = l; told = Passes Depth k; token = k; is_told = (refl, refl); read = record { text_is = same; tokens = tokens; answered = h }; octet = refl })
unparsed_main language text l same tokens (parser.Banned k) h r told =
    subst (IsMainFault language text) (sym told)
    (refl, record { lexed = l; told = Passes Ban k; token = k; is_told = (refl, refl); read = record { text_is = same; tokens = tokens; answered = h }; octet = refl })

-- one source is a main file
pub one_source : (s : List Source) → length s ≡ 1 → (name : List ℕ) × (text : List ℕ) × ((language : Language) → s ≡ main_file (record { name = name; language = language }) text)
one_source [] e = cc
one_source (x ∷ []) e = (x.name, x.text, λ language. refl)
one_source (x ∷ y ∷ s) e = cc

-- a fault of the main file is of no import
pub main_absent : (language : Language) (before now : ℕ) (text : List ℕ) (f : NameFault) → IsMainFault language text f → IsAbsent before now f
main_absent language before now text names.Memory h = tt
main_absent language before now text (names.Unknown p) h = tt
main_absent language before now text (names.Twice p q) h = tt
main_absent language before now text (names.Const p x) h = tt
main_absent language before now text (names.ImportCycle p) h = tt
main_absent language before now text (names.TooMany p) h = tt
main_absent language before now text (names.Absent n) h = absurd h
main_absent language before now text (names.Failed n) h = absurd h
main_absent language before now text (names.Lex n x) h = tt
main_absent language before now text (names.Syntax n at x) h = tt

pub main_failed : (language : Language) (before now : ℕ) (text : List ℕ) (f : NameFault) → IsMainFault language text f → IsFailed before now f
main_failed language before now text names.Memory h = tt
main_failed language before now text (names.Unknown p) h = tt
main_failed language before now text (names.Twice p q) h = tt
main_failed language before now text (names.Const p x) h = tt
main_failed language before now text (names.ImportCycle p) h = tt
main_failed language before now text (names.TooMany p) h = tt
main_failed language before now text (names.Absent n) h = absurd h
main_failed language before now text (names.Failed n) h = absurd h
main_failed language before now text (names.Lex n x) h = tt
main_failed language before now text (names.Syntax n at x) h = tt

-- ## Faults of names as causes

abbrev Held : Type 0
Held = Option (List ℕ → Option (List ℕ))

pub last_name : (sources before : List Source) (name : List ℕ) (n : ℕ) → sources ≡ and_source before name [] → n ≡ length before → name_in sources n ≡ name
last_name sources before name n same number =
    ap (λ (s : List Source). name_in s n) same ∙ ap (name_in (and_source before name [])) number ∙ named before name
  where
    named : (before : List Source) (name : List ℕ) → name_in (and_source before name []) (length before) ≡ name
    named before name = rw (last_source before (source name [])) refl

-- an import that is absent is due and missing
pub absent_due : (held : Held) (idl : Idl) (text : List ℕ) (sources : List Source) (n : ℕ) → IsNameFault held idl text sources (names.Absent n)
    → IsDueImport held idl text (name_in sources n) × IsMissing held (name_in sources n)
absent_due held idl text sources n (inl (same, never)) = absurd never
absent_due held idl text sources n (inr (tree, parsed, inr never)) = absurd never
absent_due held idl text sources n (inr (tree, parsed, inl walk)) =
    let r = walk_absent held _ _ sources n walk in
    let is : r.name ≡ name_in sources n = sym (last_name sources r.before r.name n r.sources_are r.number) in (
      subst (IsDueImport held idl text) is (record { tree = tree; parsed = parsed; sources = r.before; comes = r.comes }),
      subst (IsMissing held) is r.missing,
    )

-- an import whose load fails is due
pub failed_due : (held : Held) (idl : Idl) (text : List ℕ) (sources : List Source) (n : ℕ) → IsNameFault held idl text sources (names.Failed n)
    → IsDueImport held idl text (name_in sources n)
failed_due held idl text sources n (inl (same, never)) = absurd never
failed_due held idl text sources n (inr (tree, parsed, inr never)) = absurd never
failed_due held idl text sources n (inr (tree, parsed, inl walk)) =
    let r = walk_failed held _ _ sources n walk in
    let is : r.name ≡ name_in sources n = sym (last_name sources r.before r.name n r.sources_are r.number) in
    subst (IsDueImport held idl text) is (record {
      tree = tree;
      parsed = parsed;
      sources = r.before;
      comes = subst (λ (s : List Source). Walk held (start idl.language (main_file idl text)) (all_of 0 tree) (Stopped s (names.Failed (length r.before)))) r.sources_are
          (subst (λ k. Walk held (start idl.language (main_file idl text)) (all_of 0 tree) (Stopped sources (names.Failed k))) r.number walk);
    })

fault_cause : (f : FilesOver) (idl : Idl) (text : List ℕ) (acf : Option (List ℕ)) (sources : List Source) (x : NameFault) → IsNameFault f.held idl text sources x
    → IsAbsent f.absences.before f.absences.now x → IsFailed f.faults.before f.faults.now x → IsTextCause f idl text acf (reported_fault sources x)
fault_cause f idl text acf sources names.Memory h a b = tt
fault_cause f idl text acf sources (names.Unknown p) h a b = by_names sources (names.Unknown p) h refl
fault_cause f idl text acf sources (names.Twice p q) h a b = by_names sources (names.Twice p q) h refl
fault_cause f idl text acf sources (names.Const p c) h a b = by_names sources (names.Const p c) h refl
fault_cause f idl text acf sources (names.ImportCycle p) h a b = by_names sources (names.ImportCycle p) h refl
fault_cause f idl text acf sources (names.TooMany p) h a b = by_names sources (names.TooMany p) h refl
fault_cause f idl text acf sources (names.Absent n) h a b = let d = absent_due f.held idl text sources n h in (a, inl d.0, d.1)
fault_cause f idl text acf sources (names.Failed n) h a b = (b, inl (failed_due f.held idl text sources n h))
fault_cause f idl text acf sources (names.Lex n lexical.Memory) h a b = tt
fault_cause f idl text acf sources (names.Lex n (lexical.At at kind)) h a b = by_names sources (names.Lex n (lexical.At at kind)) h refl
fault_cause f idl text acf sources (names.Syntax n at parser.Memory) h a b = tt
fault_cause f idl text acf sources (names.Syntax n at (parser.Syntax k)) h a b = by_names sources (names.Syntax n at (parser.Syntax k)) h refl
fault_cause f idl text acf sources (names.Syntax n at (parser.Deep k)) h a b = by_names sources (names.Syntax n at (parser.Deep k)) h refl
fault_cause f idl text acf sources (names.Syntax n at (parser.Banned k)) h a b = by_names sources (names.Syntax n at (parser.Banned k)) h refl

pub text_cause : (f : FilesOver) (idl : Idl) (text : List ℕ) (acf : Option (List ℕ)) (sources : List Source) (x : NameFault) → IsNameFault f.held idl text sources x
    → IsAbsent f.absences.before f.absences.now x → IsFailed f.faults.before f.faults.now x → (told : Refusal) → IsOrMemory (reported_fault sources x) told
    → IsTextCause f idl text acf told
text_cause f idl text acf sources x h a b told (inl is) = subst (IsTextCause f idl text acf) (sym is) (fault_cause f idl text acf sources x h a b)
text_cause f idl text acf sources x h a b told (inr is) = subst (IsTextCause f idl text acf) (sym is) tt

-- ## Loads

-- what came after an earlier load
pub after : (f g : FilesOver) (idl : Idl) (text : List ℕ) (acf : Option (List ℕ)) (r : Refusal) → g.held ≡ f.held → f.absences.before ≤ g.absences.before
    → f.absences.now ≡ g.absences.now → f.faults.before ≤ g.faults.before → f.faults.now ≡ g.faults.now → IsTextCause g idl text acf r → IsTextCause f idl text acf r
after f g idl text acf Memory same low now low' now' cause = tt
after f g idl text acf (Absent file) same low now low' now' (rose, due, missing) = (
  subst (Rose f.absences.before) (sym now) (rose_later f.absences.before g.absences.before g.absences.now low rose),
  subst (λ h. IsDueAfter h idl text acf file) same due,
  subst (λ h. IsMissing h file) same missing,
)
after f g idl text acf (FileFailed file) same low now low' now' (rose, due) = (
  subst (Rose f.faults.before) (sym now') (rose_later f.faults.before g.faults.before g.faults.now low' rose),
  subst (λ h. IsDueAfter h idl text acf file) same due,
)
after f g idl text acf (BadIdl file line column why) same low now low' now' cause = subst (λ h. IsIdlFault h idl text acf (BadIdl file line column why)) same cause
after f g idl text acf NoOperation same low now low' now' cause = absurd cause
after f g idl text acf (TooLong many) same low now low' now' cause = absurd cause
after f g idl text acf ReadFault same low now low' now' cause = absurd cause
after f g idl text acf (BadOctets place why) same low now low' now' cause = absurd cause
after f g idl text acf (BadText line column why) same low now low' now' cause = absurd cause
after f g idl text acf (BadValue path why) same low now low' now' cause = absurd cause
after f g idl text acf (BadRequest fault) same low now low' now' cause = absurd cause
after f g idl text acf (BadLabel fault) same low now low' now' cause = absurd cause
after f g idl text acf ShortLabel same low now low' now' cause = absurd cause
after f g idl text acf (TooFewEnds wanted found) same low now low' now' cause = absurd cause
after f g idl text acf (EndFailed which) same low now low' now' cause = absurd cause
after f g idl text acf (BadPdu spot because) same low now low' now' cause = absurd cause
after f g idl text acf (NotCompatible differing) same low now low' now' cause = absurd cause
after f g idl text acf (BadScript row) same low now low' now' cause = absurd cause
after f g idl text acf LongScript same low now low' now' cause = absurd cause

-- why a main file that was loaded means nothing is why the files do
loaded_cause : (f : FilesOver) (idl : Idl) (text : List ℕ) (acf : Option (List ℕ)) (r : Refusal) → IsContent f.held idl.name text → IsTextCause f idl text acf r → IsIdlCause f idl acf r
loaded_cause f idl text acf Memory content cause = tt
loaded_cause f idl text acf (Absent file) content (rose, due, missing) = (rose, inr (text, content, due), missing)
loaded_cause f idl text acf (FileFailed file) content (rose, due) = (rose, inr (text, content, due))
loaded_cause f idl text acf (BadIdl file line column why) content cause = (text, content, cause)
loaded_cause f idl text acf NoOperation content cause = absurd cause
loaded_cause f idl text acf (TooLong many) content cause = absurd cause
loaded_cause f idl text acf ReadFault content cause = absurd cause
loaded_cause f idl text acf (BadOctets place why) content cause = absurd cause
loaded_cause f idl text acf (BadText line column why) content cause = absurd cause
loaded_cause f idl text acf (BadValue path why) content cause = absurd cause
loaded_cause f idl text acf (BadRequest fault) content cause = absurd cause
loaded_cause f idl text acf (BadLabel fault) content cause = absurd cause
loaded_cause f idl text acf ShortLabel content cause = absurd cause
loaded_cause f idl text acf (TooFewEnds wanted found) content cause = absurd cause
loaded_cause f idl text acf (EndFailed which) content cause = absurd cause
loaded_cause f idl text acf (BadPdu spot because) content cause = absurd cause
loaded_cause f idl text acf (NotCompatible differing) content cause = absurd cause
loaded_cause f idl text acf (BadScript row) content cause = absurd cause
loaded_cause f idl text acf LongScript content cause = absurd cause

-- what came after the load of the main file
pub after_load : (f g : FilesOver) (idl : Idl) (text : List ℕ) (acf : Option (List ℕ)) (r : Refusal) → IsContent f.held idl.name text → g.held ≡ f.held
    → f.absences.before ≤ g.absences.before → f.absences.now ≡ g.absences.now → f.faults.before ≤ g.faults.before → f.faults.now ≡ g.faults.now
    → IsTextCause g idl text acf r → IsIdlCause f idl acf r
after_load f g idl text acf r content same low now low' now' cause = loaded_cause f idl text acf r content (after f g idl text acf r same low now low' now' cause)

-- a main file that was not loaded is why the files mean nothing
pub main_not_loaded : (f : FilesOver) (idl : Idl) (acf : Option (List ℕ)) (r : Refusal) → IsLoadCause f idl.name r → IsIdlCause f idl acf r
main_not_loaded f idl acf Memory cause = tt
main_not_loaded f idl acf (Absent file) (same, rose, missing) = (rose, inl same, subst (IsMissing f.held) (sym same) missing)
main_not_loaded f idl acf (FileFailed file) (same, rose) = (rose, inl same)
main_not_loaded f idl acf (BadIdl file line column why) cause = absurd cause
main_not_loaded f idl acf NoOperation cause = absurd cause
main_not_loaded f idl acf (TooLong many) cause = absurd cause
main_not_loaded f idl acf ReadFault cause = absurd cause
main_not_loaded f idl acf (BadOctets place why) cause = absurd cause
main_not_loaded f idl acf (BadText line column why) cause = absurd cause
main_not_loaded f idl acf (BadValue path why) cause = absurd cause
main_not_loaded f idl acf (BadRequest fault) cause = absurd cause
main_not_loaded f idl acf (BadLabel fault) cause = absurd cause
main_not_loaded f idl acf ShortLabel cause = absurd cause
main_not_loaded f idl acf (TooFewEnds wanted found) cause = absurd cause
main_not_loaded f idl acf (EndFailed which) cause = absurd cause
main_not_loaded f idl acf (BadPdu spot because) cause = absurd cause
main_not_loaded f idl acf (NotCompatible differing) cause = absurd cause
main_not_loaded f idl acf (BadScript row) cause = absurd cause
main_not_loaded f idl acf LongScript cause = absurd cause

-- ## Names asked for

-- the main file, and what was asked for after it
pub asks_after : (f g : FilesOver) (idl : Idl) (acf : Option (List ℕ)) → g.held ≡ f.held → g.asked ≡ f.asked ++ idl.name ∷ [] → f.asked_now ≡ g.asked_now → AsksAfter g idl acf
    → AsksFiles f (Some (record { idl = idl; acf = acf }))
asks_after f g idl acf same first now a =
    (idl.name ∷ a.rest, now ∙ a.asked ∙ ap (λ l. l ++ a.rest) first ∙ append_assoc f.asked (idl.name ∷ []) a.rest, subst (λ h. AreAsked h idl acf (idl.name ∷ a.rest)) same a.are_asked)

-- the main file was loaded, and what is after it means an interface
pub compiled_after : (f g : FilesOver) (idl : Idl) (text : List ℕ) (acf : Option (List ℕ)) → IsContent f.held idl.name text → g.held ≡ f.held → g.asked ≡ f.asked ++ idl.name ∷ []
    → f.asked_now ≡ g.asked_now → (i : Interface) → MeansAfter g idl text acf i → IsCompiled f idl acf i
compiled_after f g idl text acf content same first now i m =
    record { file = text; loaded = content; means = moved.0; all_asked = now ∙ m.asked ∙ ap (λ l. l ++ m.rest) first ∙ append_assoc f.asked (idl.name ∷ []) m.rest ∙ ap (λ l. f.asked ++ l) moved.1 }
  where
    moved : (x : Means f.held idl text acf i) × (idl.name ∷ m.rest ≡ all_due x.state.sources acf)
    moved = subst (λ h. (x : Means h idl text acf i) × (idl.name ∷ m.rest ≡ all_due x.state.sources acf)) same (m.means, m.rest_is)

-- names are resolved, and the attribute configuration file was asked for if one is named
pub resolved_asks : (f : FilesOver) (idl : Idl) (text : List ℕ) (acf : Option (List ℕ)) (state : State) → IsContent f.held idl.name text → AreResolved f.held idl text state
    → f.asked_now ≡ (f.asked ++ names_of (drop 1 state.sources)) ++ option_to_list acf → AsksAfter f idl acf
resolved_asks f idl text acf state content resolved now = record {
  rest = names_of (drop 1 state.sources) ++ option_to_list acf;
  asked = now ∙ append_assoc f.asked (names_of (drop 1 state.sources)) (option_to_list acf);
  are_asked = subst (AreAsked f.held idl acf) (sym (all_names f.held idl text content state resolved acf)) (all_asked f.held idl text content state resolved acf);
}

pub resolved_means : (f : FilesOver) (idl : Idl) (text : List ℕ) (acf : Option (List ℕ)) (state : State) → IsContent f.held idl.name text → AreResolved f.held idl text state
    → f.asked_now ≡ (f.asked ++ names_of (drop 1 state.sources)) ++ option_to_list acf → (i : Interface) → IsJudged f.held idl text acf state i → MeansAfter f idl text acf i
resolved_means f idl text acf state content resolved now i j = record {
  means = j.means;
  rest = names_of (drop 1 state.sources) ++ option_to_list acf;
  rest_is = all_names f.held idl text content state resolved acf ∙ ap (λ (s : State). all_due s.sources acf) (sym j.state_is);
  asked = now ∙ append_assoc f.asked (names_of (drop 1 state.sources)) (option_to_list acf);
}

-- imports along a walk
pub imports_asked : (held : Held) (idl : Idl) (text : List ℕ) (tree : Tree) (sources : List Source) (asked asked_now : List (List ℕ)) → IsFile idl.language text tree → sources ≡ main_file idl text
    → AsksAlong idl.language held sources tree asked asked_now → AsksOfImports held idl text asked asked_now
imports_asked held idl text tree sources asked asked_now parsed same a =
    let walk = subst (λ (m : List Source). Walk held (start idl.language m) (all_of 0 tree) (Stopped a.reached names.Memory)) same a.walk in
    record {
      rest = names_of (drop 1 a.reached);
      asked_is = a.asked ∙ ap (λ (m : List Source). asked ++ names_of (drop (length m) a.reached)) same;
      due = λ content acf. subst (AreAsked held idl acf) (reached_names held idl text content tree parsed a.reached walk) (along held idl text content tree parsed a.reached walk acf);
    }

-- what holds in any case holds of an answer
pub always : {T E : Type 0} {P : Type 0} (r : Result T E) → P → IfOk r (λ x. P)
always (Ok x) h = h
always (Err e) h = tt
