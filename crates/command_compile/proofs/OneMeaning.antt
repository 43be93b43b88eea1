-- Files mean one interface or are refused for one fault, never both, and neither where a file that is due is missing.
use Rattle.std.proofs.Common.{◌≡◌, ◌∙◌, ℕ, List, [], ◌∷◌, length, Option, Some, None, refl, sym, ap, subst, inl, inr}
use Rattle.std.proofs.lemmas.Option.{same_Some}
use Rattle.idl_grammar.specs.declared.language.Language.{Language}
use Rattle.idl_grammar.specs.Files.{Idl}
use Rattle.nd_base.specs.declared.octets.Place.{Place}
use Rattle.nd_base.specs.Over.{IsContent, IsMissing}
use Rattle.nd_types.specs.declared.interface.Interface.{Interface}
use Rattle.idl_lexer.specs.declared.tokens.LexKind.{LexKind}
use Rattle.idl_lexer.specs.declared.tokens.LexFault.TheVariants as lexical
use Rattle.idl_lexer.specs.Verdict.{IsVerdict, Refused}
use Rattle.idl_grammar.specs.Tree.{Tree}
use Rattle.idl_grammar.specs.declared.fault.SyntaxFault.{SyntaxFault}
use Rattle.idl_scope.specs.declared.name_fault.NameFault.{NameFault}
use Rattle.idl_scope.specs.declared.name_fault.NameFault.TheVariants as names
use Rattle.idl_names.specs.Walk.{IsFile, IsNoFile, Source, and_source, State, Due, Ending, Done, Stopped, Walk, IsUndefinedFault, start, all_of, goes_on, faults, ends, again, absent, failed, enters}
use Rattle.idl_scope.specs.Known.{first_undefined}
use Rattle.idl_rule_definitions.specs.Rules.{Breach, breach}
use Rattle.idl_rule_definitions.specs.Meaning.{meaning}
use Rattle.nd_types.specs.Meant.{meant_by}
use Rattle.idl_check.specs.AcfRules.{first_of_all}
use Rattle.nd_base.specs.Text.{position_of}
use Rattle.command_refusals.specs.declared.refusal.IdlReason.{IdlReason}
use Rattle.command_refusals.specs.declared.refusal.Refusal.{Refusal}
use Rattle.command_refusals.specs.declared.refusal.Refusal.TheVariants.{BadIdl}
use Rattle.command_compile.specs.Idl.{AcfFile, IsAcf, IsLoadedAcf, IsBeside, tree_beside, main_file, resolved_world, AreResolved, Means, IsMainFault, IsNameFault, IsAcfFault, IsBadAcf, IsIdlFault}
use Rattle.command_compile.specs.Idl.{by_names, by_acf, by_rules, reported_by, reported_fault, reported_beside, IsDueImport, IsDueAcf, IsDueAfter}
use Rattle.command_compile.proofs.OneFile.{one_no_file, one_cut, never_cut, never_file, never_uncut}
use Rattle.idl_names.proofs.Once.{one_tree}
use Rattle.command_compile.proofs.OneAcf.{one_acf, one_acf_fault, never_acf}
use Rattle.command_compile.proofs.OneWalk.{IsKept, one_end, one_content, not_missing, none_some}
use Rattle.command_compile.proofs.Compiled.{last_name}
use Rattle.command_compile.proofs.Walks.{passed_fault}

-- ## Faults and endings that the files alone decide

abbrev pub IsSureFault : NameFault → Type 0
IsSureFault names.Memory = ⊥
IsSureFault (names.Failed n) = ⊥
IsSureFault (names.Lex n lexical.Memory) = ⊥
IsSureFault f = Unit {0}

abbrev pub IsSure : Ending → Type 0
IsSure (Done s) = Unit {0}
IsSure (Stopped sources f) = IsSureFault f

sure_kept : (e : Ending) → IsSure e → IsKept e
sure_kept (Done s) p = tt
sure_kept (Stopped s names.Memory) p = absurd p
sure_kept (Stopped s (names.Failed n)) p = absurd p
sure_kept (Stopped s (names.Unknown a)) p = tt
sure_kept (Stopped s (names.Twice a b)) p = tt
sure_kept (Stopped s (names.Const a x)) p = tt
sure_kept (Stopped s (names.ImportCycle a)) p = tt
sure_kept (Stopped s (names.TooMany a)) p = tt
sure_kept (Stopped s (names.Absent n)) p = tt
sure_kept (Stopped s (names.Lex n x)) p = tt
sure_kept (Stopped s (names.Syntax n at x)) p = tt

-- a refusal at a line and column
abbrev pub IsBad : Refusal → Type 0
IsBad (BadIdl file line column why) = Unit {0}
IsBad r = ⊥

sure_told : (s : List Source) (f : NameFault) → IsBad (reported_fault s f) → IsSureFault f
sure_told s names.Memory b = absurd b
sure_told s (names.Failed n) b = absurd b
sure_told s (names.Lex n lexical.Memory) b = absurd b
sure_told s (names.Lex n (lexical.At at kind)) b = tt
sure_told s (names.Unknown a) b = tt
sure_told s (names.Twice a c) b = tt
sure_told s (names.Const a x) b = tt
sure_told s (names.ImportCycle a) b = tt
sure_told s (names.TooMany a) b = tt
sure_told s (names.Absent n) b = tt
sure_told s (names.Syntax n at x) b = tt

-- ## The main file

data MainFault (language : Language) (text : List ℕ) : NameFault → Type 0 where
  main_cut : (n at : ℕ) (kind : LexKind) → n ≡ 0 → IsVerdict text (Refused at kind) → MainFault language text (names.Lex n (lexical.At at kind))
  main_no_file : (n at : ℕ) (f : SyntaxFault) → n ≡ 0 → IsNoFile language text at f → MainFault language text (names.Syntax n at f)

main_view : {language : Language} (text : List ℕ) (f : NameFault) → IsMainFault language text f → IsSureFault f → MainFault language text f
main_view text (names.Lex n (lexical.At at kind)) (z, x) p = main_cut n at kind z x
main_view text (names.Syntax n at f) (z, x) p = main_no_file n at f z x
main_view text (names.Lex n lexical.Memory) x p = absurd p
main_view text names.Memory x p = absurd p
main_view text (names.Failed n) x p = absurd p
main_view text (names.Unknown a) x p = absurd x
main_view text (names.Twice a b) x p = absurd x
main_view text (names.Const a b) x p = absurd x
main_view text (names.ImportCycle a) x p = absurd x
main_view text (names.TooMany a) x p = absurd x
main_view text (names.Absent n) x p = absurd x

one_main : {language : Language} (text : List ℕ) (f g : NameFault) → MainFault language text f → MainFault language text g → f ≡ g
one_main text f g (main_cut n at kind z x) (main_cut m at' kind' z' y) =
    let r = one_cut text at kind at' kind' x y in
    same (z ∙ sym z') r.0 r.1
  where
    same : n ≡ m → at ≡ at' → kind ≡ kind' → names.Lex n (lexical.At at kind) ≡ names.Lex m (lexical.At at' kind')
    same a b c = λ i. names.Lex (a i) (lexical.At (b i) (c i))
one_main text f g (main_cut n at kind z x) (main_no_file m at' s z' y) = never_uncut text at kind at' s x y
one_main text f g (main_no_file n at s z x) (main_cut m at' kind z' y) = never_uncut text at' kind at s y x
one_main text f g (main_no_file n at s z x) (main_no_file m at' s' z' y) =
    let r = one_no_file text at s at' s' x y in
    same (z ∙ sym z') r.0 r.1
  where
    same : n ≡ m → at ≡ at' → s ≡ s' → names.Syntax n at s ≡ names.Syntax m at' s'
    same a b c = λ i. names.Syntax (a i) (b i) (c i)

main_or_file : {B : Type 0} {language : Language} (text : List ℕ) (f : NameFault) (t : Tree) → MainFault language text f → IsFile language text t → B
main_or_file text f t (main_cut n at kind z x) file = never_cut text at kind t x file
main_or_file text f t (main_no_file n at s z x) file = never_file text at s t x file

-- ## How the files come out

module _ (k : List ℕ → Option (List ℕ)) (idl : Idl) (text : List ℕ) where
  -- the main file is at fault, or the walk ends
  data Comes : Ending → Type 0 where
    at_main : (f : NameFault) → IsMainFault idl.language text f → Comes (Stopped (main_file idl text) f)
    by_walk : (t : Tree) (e : Ending) → IsFile idl.language text t → Walk (Some k) (start idl.language (main_file idl text)) (all_of 0 t) e → Comes e

  one_coming : (e e' : Ending) → Comes e → Comes e' → IsSure e → IsSure e' → e ≡ e'
  one_coming e e' (at_main f x) (at_main g y) p q = ap (Stopped (main_file idl text)) (one_main text f g (main_view text f x p) (main_view text g y q))
  one_coming e e' (at_main f x) (by_walk t _ file w) p q = main_or_file text f t (main_view text f x p) file
  one_coming e e' (by_walk t _ file w) (at_main f x) p q = main_or_file text f t (main_view text f x q) file
  one_coming e e' (by_walk t _ file w) (by_walk u _ other v) p q =
      one_end k (start idl.language (main_file idl text)) (all_of 0 t) e e' w
      (subst (λ z. Walk (Some k) (start idl.language (main_file idl text)) (all_of 0 z) e') (sym (one_tree idl.language text t u file other)) v)
      (sure_kept e p) (sure_kept e' q)

  -- what an ending says of a fault
  abbrev Says : Ending → List Source → NameFault → Type 0
  Says (Stopped s g) sources f = (s ≡ sources) × (g ≡ f)
  Says (Done s) sources f = (s.sources ≡ sources) × ((place : Place) × (names.Unknown place ≡ f) × (first_undefined s.known s.known.uses ≡ Some place))

  record Faulty (sources : List Source) (f : NameFault) : Type 0 where
    end : Ending
    comes : Comes end
    sure : IsSure end
    says : Says end sources f

  undefined : (t : Tree) (sources : List Source) (f : NameFault) → IsFile idl.language text t → IsUndefinedFault idl.language (Some k) (main_file idl text) t sources f → Faulty sources f
  undefined t sources (names.Unknown place) file u =
      record { end = Done u.state; comes = by_walk t (Done u.state) file u.walk; sure = tt; says = (sym u.sources_are, (place, refl, u.first)) }
  undefined t sources names.Memory file u = absurd u
  undefined t sources (names.Failed n) file u = absurd u
  undefined t sources (names.Twice a b) file u = absurd u
  undefined t sources (names.Const a b) file u = absurd u
  undefined t sources (names.ImportCycle a) file u = absurd u
  undefined t sources (names.TooMany a) file u = absurd u
  undefined t sources (names.Absent n) file u = absurd u
  undefined t sources (names.Lex n x) file u = absurd u
  undefined t sources (names.Syntax n at x) file u = absurd u

  faulty : (sources : List Source) (f : NameFault) → IsNameFault (Some k) idl text sources f → IsSureFault f → Faulty sources f
  faulty sources f (inl (same, x)) p = record { end = Stopped (main_file idl text) f; comes = at_main f x; sure = p; says = (sym same, refl) }
  faulty sources f (inr (t, file, inl w)) p = record { end = Stopped sources f; comes = by_walk t (Stopped sources f) file w; sure = p; says = (refl, refl) }
  faulty sources f (inr (t, file, inr u)) p = undefined t sources f file u

  same_says : (e : Ending) (s s' : List Source) (f f' : NameFault) → Says e s f → Says e s' f' → (s ≡ s') × (f ≡ f')
  same_says (Stopped sources g) s s' f f' (a, b) (c, d) = (sym a ∙ c, sym b ∙ d)
  same_says (Done state) s s' f f' (a, (p, b, u)) (c, (q, d, v)) = (sym a ∙ c, sym b ∙ ap names.Unknown (same_Some _ _ (sym u ∙ v)) ∙ d)

  one_fault : (s s' : List Source) (f f' : NameFault) → IsNameFault (Some k) idl text s f → IsNameFault (Some k) idl text s' f' → IsSureFault f → IsSureFault f'
      → (s ≡ s') × (f ≡ f')
  one_fault s s' f f' x y p q =
      let a = faulty s f x p in
      let b = faulty s' f' y q in
      same_says a.end s s' f f' a.says (subst (λ e. Says e s' f') (sym (one_coming a.end b.end a.comes b.comes a.sure b.sure)) b.says)

  done_comes : (s : State) → AreResolved (Some k) idl text s → Comes (Done s)
  done_comes s r = by_walk r.tree (Done s) r.parsed r.names.walk

  one_state : (s s' : State) → AreResolved (Some k) idl text s → AreResolved (Some k) idl text s' → s ≡ s'
  one_state s s' r r' = let e : Done s ≡ Done s' = one_coming (Done s) (Done s') (done_comes s r) (done_comes s' r') tt tt in cc

  done_or_faulty : {B : Type 0} (s : State) (sources : List Source) (f : NameFault) → AreResolved (Some k) idl text s → IsNameFault (Some k) idl text sources f
      → IsSureFault f → B
  done_or_faulty {B} s sources f r x p =
      let a = faulty sources f x p in
      let said : Says (Done s) sources f = subst (λ e. Says e sources f) (one_coming a.end (Done s) a.comes (done_comes s r) a.sure tt) a.says in
      none_some _ said.1.0 r.names.whole said.1.2

  -- ## Imports that are due and missing

  due_absent : (s : State) (due : List Due) (sources : List Source) (n : ℕ) (before : List Source) (name : List ℕ) → sources ≡ and_source before name [] → n ≡ length before
      → IsMissing (Some k) name → Walk (Some k) s due (Stopped sources (names.Failed n)) → Walk (Some k) s due (Stopped sources (names.Absent n))
  due_absent st ds sources n before name a b m (goes_on s file step known rest e c d) =
      goes_on s file step known rest _ c (due_absent _ rest sources n before name a b m d)
  due_absent st ds sources n before name a b m (faults s file step f rest c) = absurd (passed_fault file s.known step (names.Failed n) c)
  due_absent st ds sources n before name a b m (ends s file t rest e d) = ends s file t rest _ (due_absent _ rest sources n before name a b m d)
  due_absent st ds sources n before name a b m (again s place other rest e j c h d) =
      again s place other rest _ j c h (due_absent s rest sources n before name a b m d)
  due_absent st ds sources n before name a b m (enters s place other rest e body t is_due c v d) =
      enters s place other rest _ body t is_due c v (due_absent _ _ sources n before name a b m d)
  due_absent st ds sources n before name a b m (failed s place other rest is_due) =
      let mine = last_name sources before name n a b in
      let its = last_name sources s.sources other n refl refl in
      absent s place other rest is_due (subst (IsMissing (Some k)) (sym mine ∙ its) m)

  absent_fault : (file : List ℕ) → IsDueImport (Some k) idl text file → IsMissing (Some k) file → (sources : List Source) × (n : ℕ) × IsNameFault (Some k) idl text sources (names.Absent n)
  absent_fault file due missing =
      let w = due_absent (start idl.language (main_file idl text)) (all_of 0 due.tree) (and_source due.sources file []) (length due.sources) due.sources file refl refl missing due.comes in
      (and_source due.sources file [], length due.sources, inr (due.tree, due.parsed, inl w))

  -- ## The attribute configuration file

  module _ (acf : Option (List ℕ)) where
    -- where one is named it was loaded and read
    named_beside : (beside : Option AcfFile) → IsBeside (Some k) acf beside → (name : List ℕ) → acf ≡ Some name
        → (f : AcfFile) × IsLoadedAcf (Some k) name f × (beside ≡ Some f)
    named_beside beside h name e = by acf beside h e
      where
        by : (a : Option (List ℕ)) (b : Option AcfFile) → IsBeside (Some k) a b → a ≡ Some name → (f : AcfFile) × IsLoadedAcf (Some k) name f × (b ≡ Some f)
        by None b h' e' = absurd (cc)
        by (Some n) None h' e' = absurd h'
        by (Some n) (Some f) h' e' = (f, subst (λ m. IsLoadedAcf (Some k) m f) (same_Some _ _ e') h', refl)

    -- it was not missing
    not_missing_beside : {B : Type 0} (beside : Option AcfFile) → IsBeside (Some k) acf beside → (file : List ℕ) → acf ≡ Some file → IsMissing (Some k) file → B
    not_missing_beside beside h file e missing = let (f, loaded, is) = named_beside beside h file e in not_missing k file f.text missing loaded.loaded

    -- it has no fault
    beside_or_bad : {B : Type 0} (beside : Option AcfFile) → IsBeside (Some k) acf beside → (name body : List ℕ) (at : ℕ) (why : IdlReason)
        → IsBadAcf (Some k) idl text acf name body at why → B
    beside_or_bad beside h name body at why bad =
        let (f, loaded, is) = named_beside beside h name bad.named in
        never_acf body at why f.tree bad.fault (subst (λ t. IsAcf t f.tree) (one_content k name f.text body loaded.loaded bad.loaded) loaded.read)

    -- it is one
    same_files : (f g : AcfFile) → f.name ≡ g.name → f.text ≡ g.text → f.tree ≡ g.tree → f ≡ g
    same_files f g a b c = λ i. record { name = a i; text = b i; tree = c i }

    one_loaded : (name : List ℕ) (f g : AcfFile) → IsLoadedAcf (Some k) name f → IsLoadedAcf (Some k) name g → f ≡ g
    one_loaded name f g x y =
        let same : f.text ≡ g.text = one_content k name f.text g.text x.loaded y.loaded in
        same_files f g (x.named ∙ sym y.named) same (one_acf f.text f.tree g.tree x.read (subst (λ t. IsAcf t g.tree) (sym same) y.read))

    one_beside : (a b : Option AcfFile) → IsBeside (Some k) acf a → IsBeside (Some k) acf b → a ≡ b
    one_beside a b x y = by acf a b x y
      where
        by : (n : Option (List ℕ)) (a' b' : Option AcfFile) → IsBeside (Some k) n a' → IsBeside (Some k) n b' → a' ≡ b'
        by None None None x' y' = refl
        by None None (Some g) x' y' = absurd y'
        by None (Some f) b' x' y' = absurd x'
        by (Some name) None b' x' y' = absurd x'
        by (Some name) (Some f) None x' y' = absurd y'
        by (Some name) (Some f) (Some g) x' y' = ap Some (one_loaded name f g x' y')

    -- one file has one fault
    one_bad_acf : (name name' body body' : List ℕ) (at at' : ℕ) (why why' : IdlReason) → IsBadAcf (Some k) idl text acf name body at why
        → IsBadAcf (Some k) idl text acf name' body' at' why' → reported_by name (position_of body at) why ≡ reported_by name' (position_of body' at') why'
    one_bad_acf name name' body body' at at' why why' x y =
        let names : name ≡ name' = same_Some _ _ (sym x.named ∙ y.named) in
        let bodies : body ≡ body' = one_content k name body body' x.loaded (subst (λ n. IsContent (Some k) n body') (sym names) y.loaded) in
        let fault = one_acf_fault body at at' why why' x.fault (subst (λ t. IsAcfFault t at' why') (sym bodies) y.fault) in
        same names bodies fault.0 fault.1
      where
        same : name ≡ name' → body ≡ body' → at ≡ at' → why ≡ why' → reported_by name (position_of body at) why ≡ reported_by name' (position_of body' at') why'
        same a b c d = λ i. reported_by (a i) (position_of (b i) (c i)) (d i)

    -- ## What the files mean

    pub means_one : (i j : Interface) → Means (Some k) idl text acf i → Means (Some k) idl text acf j → meant_by i ≡ meant_by j
    means_one i j x y =
        let s : x.state ≡ y.state = one_state x.state y.state x.resolved y.resolved in
        let e : meant_by i ∷ [] ≡ meant_by j ∷ [] = sym x.meaning.means ∙ ap (λ z. meaning (resolved_world z)) s ∙ y.meaning.means in
        let same : meant_by i ≡ meant_by j = cc in
        same

    same_breach : (rule rule' : ℕ) (place place' : Place) → breach rule place ≡ breach rule' place' → (rule ≡ rule') × (place ≡ place')
    same_breach rule rule' place place' e = (ap (λ (b : Breach). b.rule) e, ap (λ (b : Breach). b.place) e)

    same_told : (s s' : List Source) (b b' : Option AcfFile) (rule rule' : ℕ) (place place' : Place) → s ≡ s' → b ≡ b' → rule ≡ rule' → place ≡ place'
        → reported_beside s b rule place ≡ reported_beside s' b' rule' place'
    same_told s s' b b' rule rule' place place' e f g h = λ i. reported_beside (e i) (f i) (g i) (h i)

    same_fault : (s s' : List Source) (f f' : NameFault) → s ≡ s' → f ≡ f' → reported_fault s f ≡ reported_fault s' f'
    same_fault s s' f f' a b = λ i. reported_fault (a i) (b i)

    same_first : (s s' : State) (b b' : Option AcfFile) → s ≡ s' → b ≡ b'
        → first_of_all (resolved_world s) (tree_beside b) ≡ first_of_all (resolved_world s') (tree_beside b')
    same_first s s' b b' e f = λ i. first_of_all (resolved_world (e i)) (tree_beside (f i))

    sure_of : (r : Refusal) (s : List Source) (f : NameFault) → IsBad r → r ≡ reported_fault s f → IsSureFault f
    sure_of r s f b e = sure_told s f (subst IsBad e b)

    pub never_both : {B : Type 0} (i : Interface) (r : Refusal) → IsBad r → Means (Some k) idl text acf i → IsIdlFault (Some k) idl text acf r → B
    never_both i r bad x (by_names sources f fault e) = done_or_faulty x.state sources f x.resolved fault (sure_of r sources f bad e)
    never_both i r bad x (by_acf name body at why fault e) = beside_or_bad x.beside x.read name body at why fault
    never_both i r bad x (by_rules sources beside rule place broken e) =
        let s : x.state ≡ broken.state = one_state x.state broken.state x.resolved broken.resolved in
        let b : x.beside ≡ beside = one_beside x.beside beside x.read broken.read in
        none_some _ (breach rule place) (sym (same_first x.state broken.state x.beside beside s b) ∙ x.meaning.keeps) broken.first

    pub one_bad : (r r' : Refusal) → IsBad r → IsBad r' → IsIdlFault (Some k) idl text acf r → IsIdlFault (Some k) idl text acf r' → r ≡ r'
    one_bad r r' b b' (by_names s f x e) (by_names s' f' y e') =
        let one = one_fault s s' f f' x y (sure_of r s f b e) (sure_of r' s' f' b' e') in
        e ∙ same_fault s s' f f' one.0 one.1 ∙ sym e'
    one_bad r r' b b' (by_names s f x e) (by_acf name body at why y e') = done_or_faulty y.state s f y.resolved x (sure_of r s f b e)
    one_bad r r' b b' (by_names s f x e) (by_rules s' beside rule place y e') = done_or_faulty y.state s f y.resolved x (sure_of r s f b e)
    one_bad r r' b b' (by_acf name body at why x e) (by_names s' f y e') = done_or_faulty x.state s' f x.resolved y (sure_of r' s' f b' e')
    one_bad r r' b b' (by_acf name body at why x e) (by_acf name' body' at' why' y e') = e ∙ one_bad_acf name name' body body' at at' why why' x y ∙ sym e'
    one_bad r r' b b' (by_acf name body at why x e) (by_rules s' beside rule place y e') = beside_or_bad beside y.read name body at why x
    one_bad r r' b b' (by_rules s beside rule place x e) (by_names s' f y e') = done_or_faulty x.state s' f x.resolved y (sure_of r' s' f b' e')
    one_bad r r' b b' (by_rules s beside rule place x e) (by_acf name body at why y e') = beside_or_bad beside x.read name body at why y
    one_bad r r' b b' (by_rules s beside rule place x e) (by_rules s' beside' rule' place' y e') =
        let state : x.state ≡ y.state = one_state x.state y.state x.resolved y.resolved in
        let sources : s ≡ s' = x.sources_are ∙ ap (λ (z : State). z.sources) state ∙ sym y.sources_are in
        let file : beside ≡ beside' = one_beside beside beside' x.read y.read in
        let first : breach rule place ≡ breach rule' place' = same_Some _ _ (sym x.first ∙ same_first x.state y.state beside beside' state file ∙ y.first) in
        let both = same_breach rule rule' place place' first in
        e ∙ same_told s s' beside beside' rule rule' place place' sources file both.0 both.1 ∙ sym e'

    -- ## Files that are due and missing

    pub absent_or_means : {B : Type 0} (file : List ℕ) (i : Interface) → IsDueAfter (Some k) idl text acf file → IsMissing (Some k) file
        → Means (Some k) idl text acf i → B
    absent_or_means file i (inl due) missing x =
        let a = absent_fault file due missing in
        done_or_faulty x.state a.0 (names.Absent a.1) x.resolved a.2 tt
    absent_or_means file i (inr due) missing x = not_missing_beside x.beside x.read file due.named missing

    absent_import_or_bad : {B : Type 0} (file : List ℕ) (r : Refusal) → IsBad r → IsDueImport (Some k) idl text file → IsMissing (Some k) file
        → IsIdlFault (Some k) idl text acf r → B
    absent_import_or_bad file r bad due missing (by_names s f x e) =
        let a = absent_fault file due missing in
        let one = one_fault a.0 s (names.Absent a.1) f a.2 x tt (sure_of r s f bad e) in
        absurd (subst IsBad (e ∙ ap (reported_fault s) (sym one.1)) bad)
    absent_import_or_bad file r bad due missing (by_acf name body at why y e) =
        let a = absent_fault file due missing in
        done_or_faulty y.state a.0 (names.Absent a.1) y.resolved a.2 tt
    absent_import_or_bad file r bad due missing (by_rules s beside rule place y e) =
        let a = absent_fault file due missing in
        done_or_faulty y.state a.0 (names.Absent a.1) y.resolved a.2 tt

    absent_acf_or_bad : {B : Type 0} (file : List ℕ) (r : Refusal) → IsBad r → IsDueAcf (Some k) idl text acf file → IsMissing (Some k) file
        → IsIdlFault (Some k) idl text acf r → B
    absent_acf_or_bad file r bad due missing (by_names s f x e) = done_or_faulty due.state s f due.resolved x (sure_of r s f bad e)
    absent_acf_or_bad file r bad due missing (by_acf name body at why y e) =
        let same : name ≡ file = same_Some _ _ (sym y.named ∙ due.named) in
        not_missing k file body missing (subst (λ n. IsContent (Some k) n body) same y.loaded)
    absent_acf_or_bad file r bad due missing (by_rules s beside rule place y e) = not_missing_beside beside y.read file due.named missing

    pub absent_or_bad : {B : Type 0} (file : List ℕ) (r : Refusal) → IsBad r → IsDueAfter (Some k) idl text acf file → IsMissing (Some k) file
        → IsIdlFault (Some k) idl text acf r → B
    absent_or_bad file r bad (inl due) missing x = absent_import_or_bad file r bad due missing x
    absent_or_bad file r bad (inr due) missing x = absent_acf_or_bad file r bad due missing x
