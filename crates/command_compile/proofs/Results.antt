-- Each main file, beside the attribute configuration file that may be named, means an interface, or is refused, or a file that is due is missing: one of
-- these alone, and in one way.
use Rattle.std.proofs.Common.{◌≡◌, ◌∙◌, ℕ, Bool, true, false, ◌&&◌, eqb, List, [], ◌∷◌, ◌++◌, map, length, refl, sym, ap, subst, inl, inr, Option, Some, None, option_map, Ok, Err}
use Rattle.std.specs.List.{list_all}
use Rattle.std.specs.Cmp.Derive.{both_true}
use Rattle.std.proofs.lemmas.Bool.{and_parts as both}
use Rattle.idl_grammar.specs.Files.{Idl}
use Rattle.idl_grammar.specs.declared.language.Language.{Language}
use Rattle.nd_lemmas.proofs.Booleans.{clash}
use Rattle.nd_base.specs.declared.octets.Place.{Place}
use Rattle.nd_base.specs.Over.{IsContent, IsMissing, loaded}
use Rattle.nd_base.specs.Text.{is_identifier, position_of}
use Rattle.nd_types.specs.declared.interface.Interface.{Interface}
use Rattle.nd_types.specs.Legal.{IsLegal}
use Rattle.nd_types.specs.Meant.{Meant}
use Rattle.nd_types.specs.Rounds.{layouts_of}
use Rattle.idl_lexer.specs.declared.tokens.LexFault.TheVariants as lexical
use Rattle.idl_grammar.specs.Tree.{Tree}
use Rattle.idl_grammar.specs.declared.fault.SyntaxFault.{SyntaxFault}
use Rattle.idl_grammar.specs.declared.fault.SyntaxFault.TheVariants as syntax
use Rattle.idl_scope.specs.declared.name_fault.NameFault.{NameFault}
use Rattle.idl_scope.specs.declared.name_fault.NameFault.TheVariants as names
use Rattle.idl_scope.specs.Known.{Ended}
use Rattle.idl_names.specs.Decided.{is_decided}
use Rattle.idl_names.specs.Walk.{IsFile, IsNoFile, Source, State, Due, Ending, Done, Stopped, Walk, IsResolved, IsUndefinedFault, IsRefused}
use Rattle.idl_names.specs.Walk as walk
use Rattle.idl_rule_definitions.specs.Nodes.{World}
use Rattle.idl_rule_definitions.specs.Rules.{Breach, breaches, first_broken, first_of}
use Rattle.idl_rule_definitions.specs.Scene.{scene_of}
use Rattle.idl_rule_definitions.specs.Meaning.{meaning, main_among, header_meant}
use Rattle.idl_check.specs.AcfRules.{acf_file, acf_breaches, first_of_all, all_breaches}
use Rattle.command_refusals.specs.declared.refusal.IdlReason.{IdlReason}
use Rattle.command_refusals.specs.declared.refusal.IdlReason.TheVariants as reason
use Rattle.command_refusals.specs.declared.refusal.Refusal.{Refusal}
use Rattle.command_refusals.specs.declared.refusal.Refusal.TheVariants.{Absent, BadIdl}
use Rattle.command_compile.specs.Idl.{AcfFile, IsBeside, tree_beside, main_file, resolved_world, AreResolved, IsNameFault, by_names, by_acf, by_rules, name_in, text_in, word_in, place_of, reported_at}
use Rattle.command_compile.specs.Idl.{reported_by, reported_rule, reported_fault, reported_beside}
use Rattle.command_compile.proofs.Compiled.{absent_due}
use Rattle.command_compile.proofs.Walks.{passed_fault}
use Rattle.command_compile.proofs.OneInterface.{one_interface}
use Rattle.command_compile.proofs.OneMeaning.{never_both, one_bad, absent_or_means, absent_or_bad}
use Rattle.command_compile.specs.Judged.{world, IsJudged, Means, Breaks}
use Rattle.command_compile.specs.Named.{Comes, ToNames, ToFault}
use Rattle.command_compile.specs.Read.{IsReadAs, AsFile, AsNoFile, AsUncut}
use Rattle.command_compile.specs.Results.{HasResult, Meaning, Fault, Missing, result_of}
use Rattle.command_compile.proofs.AcfRead.{IsAcfReadAs, as_acf, as_fault, each_acf_read}
use Rattle.command_compile.proofs.EndedNames.{ended_named, resolved_named}
use Rattle.command_compile.proofs.Ends.{each_main}
use Rattle.command_compile.proofs.JudgedFiles.{none_broken, same_meant, named_as, each_resolved}
use Rattle.command_compile.proofs.MeantNames.{meant_named}
use Rattle.command_compile.proofs.Missing.{one_missing}
use Rattle.command_compile.proofs.Read.{each_read}
use Rattle.command_compile.proofs.TreeNames.{tree_named, export_named}

-- ## No walk ends by tokens or a syntax for which memory ran out

abbrev IsReal : NameFault → Type 0
IsReal (names.Lex n lexical.Memory) = ⊥
IsReal (names.Syntax n at syntax.Memory) = ⊥
IsReal f = Unit {0}

abbrev IsRealEnding : Ending → Type 0
IsRealEnding (Done s) = Unit {0}
IsRealEnding (Stopped sources f) = IsReal f

-- the faults of steps: a name or an expression
abbrev IsStepFault : NameFault → Type 0
IsStepFault (names.Unknown p) = Unit {0}
IsStepFault (names.Twice p q) = Unit {0}
IsStepFault (names.Const p x) = Unit {0}
IsStepFault _ = ⊥

step_real : (f : NameFault) → IsStepFault f → IsReal f
step_real (names.Unknown p) h = tt
step_real (names.Twice p q) h = tt
step_real (names.Const p x) h = tt
step_real names.Memory h = absurd h
step_real (names.ImportCycle p) h = absurd h
step_real (names.TooMany p) h = absurd h
step_real (names.Absent n) h = absurd h
step_real (names.Failed n) h = absurd h
step_real (names.Lex n f) h = absurd h
step_real (names.Syntax n at f) h = absurd h

syntax_real : {language : Language} (text : List ℕ) (n at : ℕ) (f : SyntaxFault) → IsNoFile language text at f → IsReal (names.Syntax n at f)
syntax_real text n at syntax.Memory h = h.is_told
syntax_real text n at (syntax.Syntax k) h = tt
syntax_real text n at (syntax.Deep k) h = tt
syntax_real text n at (syntax.Banned k) h = tt

walk_real : (held : Option (List ℕ → Option (List ℕ))) {s : State} {dues : List Due} {e : Ending} → Walk held s dues e → IsRealEnding e
walk_real held (walk.all_done s) = tt
walk_real held (walk.goes_on s file step k rest e is w) = walk_real held w
walk_real held (walk.faults s file step f rest is) = step_real f (passed_fault file s.known step f is)
walk_real held (walk.ends s file t rest e w) = walk_real held w
walk_real held (walk.cycle s place name rest n known not_done) = tt
walk_real held (walk.again s place name rest e n known done w) = walk_real held w
walk_real held (walk.too_many s place name rest new full) = tt
walk_real held (walk.absent s place name rest due missing) = tt
walk_real held (walk.failed s place name rest due) = tt
walk_real held (walk.uncut s place name rest text at kind due content is) = tt
walk_real held (walk.no_file s place name rest text at f due content is) = syntax_real text (length s.sources) at f is
walk_real held (walk.enters s place name rest e text t due content is w) = walk_real held w
walk_real held (walk.short s rest) = tt
walk_real held (walk.short_in_load s place name rest due) = tt
walk_real held (walk.short_after_load s place name rest text due content) = tt

undefined_real : (language : Language) (held : Option (List ℕ → Option (List ℕ))) (main : List Source) (t : Tree) (sources : List Source) (f : NameFault)
    → IsUndefinedFault language held main t sources f → IsReal f
undefined_real language held main t sources (names.Unknown p) u = tt
undefined_real language held main t sources names.Memory u = absurd u
undefined_real language held main t sources (names.Twice p q) u = absurd u
undefined_real language held main t sources (names.Const p x) u = absurd u
undefined_real language held main t sources (names.ImportCycle p) u = absurd u
undefined_real language held main t sources (names.TooMany p) u = absurd u
undefined_real language held main t sources (names.Absent n) u = absurd u
undefined_real language held main t sources (names.Failed n) u = absurd u
undefined_real language held main t sources (names.Lex n f) u = absurd u
undefined_real language held main t sources (names.Syntax n at f) u = absurd u

refused_real : (language : Language) (held : Option (List ℕ → Option (List ℕ))) (main : List Source) (t : Tree) (sources : List Source) (f : NameFault) → IsRefused language held main t sources f
    → IsReal f
refused_real language held main t sources f (inl w) = walk_real held w
refused_real language held main t sources f (inr u) = undefined_real language held main t sources f u

-- ## What is held

data Held (held : Option (List ℕ → Option (List ℕ))) (name : List ℕ) : Type 0 where
  is_held : (text : List ℕ) → IsContent held name text → Held held name
  is_missing : IsMissing held name → Held held name

each_held : (held : Option (List ℕ → Option (List ℕ))) (name : List ℕ) → Held held name
each_held None name = is_missing tt
each_held (Some k) name = by (k name) refl
  where
    by : (o : Option (List ℕ)) → k name ≡ o → Held (Some k) name
    by None e = is_missing e
    by (Some octets) e = is_held (loaded octets) (ap (option_map loaded) e)

-- ## The interface

abbrev interface_of : (m : Meant) → is_identifier m.name ≡ true → IsLegal m.types m.operations → Interface
interface_of m named legal = record {
  name = m.name;
  uuid = m.uuid;
  major = m.major;
  minor = m.minor;
  types = m.types;
  layouts = layouts_of m.types;
  operations = m.operations;
  named = named;
  legal = legal;
  laid_out = refl;
}

main_named : (files : List Ended) → list_all ended_named files ≡ true → list_all tree_named (main_among files) ≡ true
main_named [] h = refl
main_named (f ∷ fs) h = let x = both (ended_named f) (list_all ended_named fs) h in by (eqb f.file 0) x.0 (main_named fs x.1)
  where
    by : (b : Bool) → tree_named f.tree ≡ true → list_all tree_named (main_among fs) ≡ true
        → list_all tree_named (elim b [ true ↦ f.tree ∷ [] | false ↦ main_among fs ]) ≡ true
    by true here later = both_true here refl
    by false here later = later

name_by : (w : World) (trees : List Tree) (m : Meant) → map (header_meant (scene_of w)) trees ≡ m ∷ [] → list_all tree_named trees ≡ true → is_identifier m.name ≡ true
name_by w [] m e h = absurd (cc)
name_by w (t ∷ []) m e h =
    let all = both (tree_named t) true h in
    let name = both (is_identifier t.name.octets) (list_all export_named t.exports) all.0 in
    subst (λ (x : Meant). is_identifier x.name ≡ true) (same_meant (header_meant (scene_of w) t) m e) name.0
name_by w (t ∷ u ∷ trees) m e h = absurd (cc)

name_as : (w : World) (m : Meant) → meaning w ≡ m ∷ [] → list_all ended_named w.files ≡ true → is_identifier m.name ≡ true
unfolding meaning
name_as w m e h = name_by w (main_among w.files) m e (main_named w.files h)

-- ## Refusals at a line and column

data IsPlaced (r : Refusal) : Type 0 where
  placed : (file : List ℕ) (line column : ℕ) (why : IdlReason) → r ≡ BadIdl file line column why → IsPlaced r

by_placed : (name : List ℕ) (position : ℕ × ℕ) (why : IdlReason) → IsPlaced (reported_by name position why)
by_placed name position why = placed name position.0 position.1 why refl

beside_placed : (s : List Source) (beside : Option AcfFile) (rule : ℕ) (place : Place) → IsPlaced (reported_beside s beside rule place)
beside_placed s None rule place = by_placed (name_in s place.file) (position_of (text_in s place.file) place.at) (reason.Rule rule)
beside_placed s (Some f) rule place = by (eqb place.file acf_file)
  where
    by : (b : Bool) → IsPlaced (elim b [ true ↦ reported_by f.name (position_of f.text place.at) (reason.Rule rule) | false ↦ reported_rule s rule place ])
    by true = by_placed f.name (position_of f.text place.at) (reason.Rule rule)
    by false = by_placed (name_in s place.file) (position_of (text_in s place.file) place.at) (reason.Rule rule)

front_empty : (xs ys : List Breach) → xs ++ ys ≡ [] → xs ≡ []
front_empty [] ys e = refl
front_empty (x ∷ xs) ys e = absurd (cc)

-- ## Each main file

module _ (held : Option (List ℕ → Option (List ℕ))) (idl : Idl) (text : List ℕ) (acf : Option (List ℕ)) where
  at_place : (sources : List Source) (f : NameFault) (p : Place) (why : IdlReason) → IsNameFault held idl text sources f → reported_fault sources f ≡ reported_at sources p why
      → HasResult held idl text acf
  at_place sources f p why is e =
      let at = position_of (text_in sources p.file) p.at in
      Fault (name_in sources p.file) at.0 at.1 why (by_names sources f is (sym e))

  by_fault : (sources : List Source) (f : NameFault) → is_decided (Stopped sources f) ≡ true → IsReal f → IsNameFault held idl text sources f → HasResult held idl text acf
  by_fault sources names.Memory d r is = clash false d refl
  by_fault sources (names.Failed n) d r is = clash false d refl
  by_fault sources (names.Lex n lexical.Memory) d r is = absurd r
  by_fault sources (names.Syntax n at syntax.Memory) d r is = absurd r
  by_fault sources (names.Absent n) d r is = let a = absent_due held idl text sources n is in Missing (name_in sources n) (inl a.0) a.1
  by_fault sources (names.Unknown p) d r is = at_place sources (names.Unknown p) p (reason.Unknown (word_in sources p)) is refl
  by_fault sources (names.Twice p q) d r is = at_place sources (names.Twice p q) p (reason.Twice (word_in sources p)) is refl
  by_fault sources (names.Const p x) d r is = at_place sources (names.Const p x) p (reason.NoValue x) is refl
  by_fault sources (names.ImportCycle p) d r is = at_place sources (names.ImportCycle p) p reason.ImportCycle is refl
  by_fault sources (names.TooMany p) d r is = at_place sources (names.TooMany p) p reason.TooMany is refl
  by_fault sources (names.Lex n (lexical.At at kind)) d r is = at_place sources (names.Lex n (lexical.At at kind)) (place_of n at) (reason.Lexical kind) is refl
  by_fault sources (names.Syntax n at (syntax.Syntax k)) d r is = at_place sources (names.Syntax n at (syntax.Syntax k)) (place_of n at) reason.Syntax is refl
  by_fault sources (names.Syntax n at (syntax.Deep k)) d r is = at_place sources (names.Syntax n at (syntax.Deep k)) (place_of n at) reason.Deep is refl
  by_fault sources (names.Syntax n at (syntax.Banned k)) d r is =
      at_place sources (names.Syntax n at (syntax.Banned k)) (place_of n at) (reason.Banned (word_in sources (place_of n at))) is refl

  -- by the rules
  module _ (state : State) (resolved : AreResolved held idl text state) (beside : Option AcfFile) (read : IsBeside held acf beside) where
    by_breach : (b : Breach) → first_of_all (resolved_world state) (tree_beside beside) ≡ Some b → HasResult held idl text acf
    by_breach b e = told (beside_placed state.sources beside b.rule b.place)
      where
        told : IsPlaced (reported_beside state.sources beside b.rule b.place) → HasResult held idl text acf
        told (placed file line column why is) =
            Fault file line column why
            (by_rules state.sources beside b.rule b.place (record { state = state; resolved = resolved; sources_are = refl; read = read; first = e }) (sym is))

    none_first : first_of_all (resolved_world state) (tree_beside beside) ≡ None → first_broken (resolved_world state) ≡ None
    none_first e =
        let w = resolved_world state in
        ap (first_of w) (front_empty (breaches w) (acf_breaches w (tree_beside beside)) (none_broken w (all_breaches w (tree_beside beside)) e))

    by_judged : first_of_all (resolved_world state) (tree_beside beside) ≡ None → IsJudged (world state) → HasResult held idl text acf
    by_judged e (Means m is) =
        let ended = resolved_named held (main_file idl text) text resolved.tree state resolved.parsed resolved.names in
        let named = name_as (world state) m is.means ended in
        let legal = is.legal (named_as (world state) m is.means (meant_named held (main_file idl text) text resolved.tree state resolved.parsed resolved.names)) in
        Meaning (interface_of m named legal) (record { state = state; resolved = resolved; beside = beside; read = read; meaning = record { keeps = e; means = is.means } })
    by_judged e (Breaks b is) = never (none_first e) is
      where
        never : first_broken (resolved_world state) ≡ None → first_broken (resolved_world state) ≡ Some b → HasResult held idl text acf
        never x y = let c : None ≡ Some b = sym x ∙ y in absurd (cc)

    by_rules_first : (o : Option Breach) → first_of_all (resolved_world state) (tree_beside beside) ≡ o → HasResult held idl text acf
    by_rules_first (Some b) e = by_breach b e
    by_rules_first None e = by_judged e (each_resolved idl.language held (main_file idl text) resolved.tree state resolved.names)

  -- by the attribute configuration file
  module _ (state : State) (resolved : AreResolved held idl text state) where
    by_text : (name body : List ℕ) → acf ≡ Some name → IsContent held name body → IsAcfReadAs body → HasResult held idl text acf
    by_text name body named content (as_acf t is) =
        let f : AcfFile = record { name = name; text = body; tree = t } in
        by_rules_first state resolved (Some f) (subst (λ a. IsBeside held a (Some f)) (sym named) (record { named = refl; loaded = content; read = is }))
        (first_of_all (resolved_world state) (Some t)) refl
    by_text name body named content (as_fault at why is) =
        let p = position_of body at in
        Fault name p.0 p.1 why (by_acf name body at why (record { state = state; resolved = resolved; named = named; loaded = content; fault = is }) refl)

    by_held : (name : List ℕ) → acf ≡ Some name → Held held name → HasResult held idl text acf
    by_held name named (is_held body content) = by_text name body named content (each_acf_read body)
    by_held name named (is_missing missing) = Missing name (inr (record { state = state; resolved = resolved; named = named })) missing

    by_acf_named : (a : Option (List ℕ)) → acf ≡ a → HasResult held idl text acf
    by_acf_named None named =
        by_rules_first state resolved None (subst (λ a. IsBeside held a None) (sym named) tt) (first_of_all (resolved_world state) None) refl
    by_acf_named (Some name) named = by_held name named (each_held held name)

  by_names_of : (t : Tree) → IsFile idl.language text t → Comes idl.language held (main_file idl text) t → HasResult held idl text acf
  by_names_of t file (ToNames s r) = by_acf_named s (record { tree = t; parsed = file; names = r }) acf refl
  by_names_of t file (ToFault sources f decided is) =
      by_fault sources f decided (refused_real idl.language held (main_file idl text) t sources f is) (inr (t, file, is))

  by_read : IsReadAs idl.language text → HasResult held idl text acf
  by_read (AsFile t file) = by_names_of t file (each_main held idl.language (main_file idl text) t)
  by_read (AsNoFile at f is) = no_file f is
    where
      no_file : (f' : SyntaxFault) → IsNoFile idl.language text at f' → HasResult held idl text acf
      no_file f' h = by_fault (main_file idl text) (names.Syntax 0 at f') refl (syntax_real text 0 at f' h) (inl (refl, (refl, h)))
  by_read (AsUncut at kind is) = by_fault (main_file idl text) (names.Lex 0 (lexical.At at kind)) refl tt (inl (refl, (refl, is)))

  pub each_result : HasResult held idl text acf
  each_result = by_read (each_read idl.language text)

-- ## One alone

pub one_result : (k : List ℕ → Option (List ℕ)) (idl : Idl) (text : List ℕ) (acf : Option (List ℕ)) (a b : HasResult (Some k) idl text acf) → result_of a ≡ result_of b
one_result k idl text acf (Meaning i x) (Meaning j y) = ap Ok (one_interface k idl text acf i j x y)
one_result k idl text acf (Meaning i x) (Fault file line column why y) = never_both k idl text acf i (BadIdl file line column why) tt x y
one_result k idl text acf (Meaning i x) (Missing file due missing) = absent_or_means k idl text acf file i due missing x
one_result k idl text acf (Fault file line column why x) (Meaning i y) = never_both k idl text acf i (BadIdl file line column why) tt y x
one_result k idl text acf (Fault file line column why x) (Fault other l c reason y) =
    ap Err (one_bad k idl text acf (BadIdl file line column why) (BadIdl other l c reason) tt tt x y)
one_result k idl text acf (Fault file line column why x) (Missing other due missing) = absent_or_bad k idl text acf other (BadIdl file line column why) tt due missing x
one_result k idl text acf (Missing file due missing) (Meaning i y) = absent_or_means k idl text acf file i due missing y
one_result k idl text acf (Missing file due missing) (Fault other line column why y) = absent_or_bad k idl text acf file (BadIdl other line column why) tt due missing y
one_result k idl text acf (Missing file due missing) (Missing other due' missing') = ap (λ n. Err (Absent n)) (one_missing k idl text acf file other due missing due' missing')
