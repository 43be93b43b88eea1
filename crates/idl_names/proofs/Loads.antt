-- Loads: where the token of a fault stands, and how a walk stops at a load.
use Rattle.std.proofs.Common.{◌≡◌, ◌⊎◌, inl, inr, ℕ, ◌+◌, ◌<◌, ◌≤◌, Bool, true, false, cond, eqb, List, [], ◌∷◌, ◌++◌, map, set, get_or, length, refl, sym, ap, subst, ◌∙◌, arith, Option, Result, Ok}
use Rattle.std.proofs.Common.{Err, IfOk, IfErr}
use Rattle.std.proofs.lemmas.List.{length-map, length-append, map-set}
use Rattle.std.proofs.Math.ListN.{get_or-map}
use Rattle.idl_grammar.specs.declared.language.Language.{Language}
use Rattle.idl_grammar.specs.Text.{Text, Rel, Depth, Ban, lexemes}
use Rattle.idl_grammar.specs.ReadPhrases.{Fault, Syntax, Passes, Read}
use Rattle.idl_grammar.specs.Answers.{whole_read, is_banned, Answers, named_fault, named, file_answer}
use Rattle.idl_grammar.proofs.Exact.{front, Exact}
use Rattle.idl_grammar.proofs.Sequences.{stops}
use Rattle.idl_grammar.proofs.Within.{mark_within}
use Rattle.nd_base.specs.declared.octets.Place.{Place}
use Rattle.nd_base.specs.declared.outside.FileFault.{FileFault}
use Rattle.nd_base.specs.declared.outside.FileFault.TheVariants as file_fault
use Rattle.nd_base.specs.Over.{IsContent, IsMissing}
use Rattle.idl_lexer.specs.Verdict.{Lexed, AreTokens}
use Rattle.idl_lexer.specs.declared.tokens.LexFault.TheVariants as lex_fault
use Rattle.idl_grammar.specs.Symbols as symbol
use Rattle.idl_grammar.specs.Tree.{Tree}
use Rattle.idl_grammar.specs.Grammar as grammar
use Rattle.idl_grammar.specs.Reading as grammar_readings
use Rattle.idl_grammar.proofs.FileExact as grammar_exact
use Rattle.idl_grammar.proofs.FileLaws.{file_answered_alone}
use Rattle.idl_grammar.proofs.RealTokens.{lexemes_real}
use Rattle.idl_grammar.specs.declared.fault.SyntaxFault.{SyntaxFault}
use Rattle.idl_grammar.specs.declared.fault.SyntaxFault.TheVariants as syntax
use Rattle.idl_parser.specs.Answered.{Told}
use Rattle.idl_scope.specs.declared.name_fault.NameFault.{NameFault}
use Rattle.idl_scope.specs.declared.name_fault.NameFault.TheVariants as fault
use Rattle.idl_scope.specs.declared.scope.FileTree.{FileTree}
use Rattle.idl_names.specs.Walk.{IsFile, Source, and_source, State, Due, Load, Stopped, Walk, IsDue}
use Rattle.idl_scope.specs.Seen.{seen_file}
use Rattle.idl_grammar.specs.Seen.{seen_tree}
use Rattle.idl_names.specs.Loads.{IsLoaded, IsFaultOf, IsOfText, told_syntax, told_load, IsLoadFault}
use Rattle.idl_names.specs.Walk as walk

pub token_count : (language : Language) (l : Lexed) → length (lexemes language l) ≡ length l.tokens
token_count language l = simp length-map refl

pub same_fault : {A : Type 0} (f g : Fault) → ◌≡◌ {A = Result A Fault} (Err f) (Err g) → f ≡ g
same_fault f g e = cc

pub clash_results : {A B : Type 0} (a : A) (f : Fault) → ◌≡◌ {A = Result A Fault} (Ok a) (Err f) → B
clash_results a f e = absurd (cc)

-- of what is read exactly
pub fault_front : {A : Type 0} (P : Rel A) (t : Text) (r : Read A) → Exact P (stops []) t 0 r → (f : Fault) → whole_read r t ≡ Err f → front f ≤ length t
fault_front P t (Err g) x f e = subst (λ (h : Fault). front h ≤ length t) (same_fault g f e) x.within
fault_front {A = A} P t (Ok a) x f e = by_case (eqb a.1 (length t)) e where
  by_case : (b : Bool) → ◌≡◌ {A = Result A Fault} (cond b (Ok a.0) (Err (Syntax a.1))) (Err f) → front f ≤ length t
  by_case true g = clash_results a.0 f g
  by_case false g = subst (λ (h : Fault). front h ≤ length t) (same_fault (Syntax a.1) f g) x.within

-- ## The token of a fault is one of the text, or its end

module _ (language : Language) (l : Lexed) where
  -- a word that is banned anywhere is in the text
  pub banned_within : (k : ℕ) → is_banned (lexemes language l) k ≡ true → k < length (lexemes language l)
  unfolding is_banned
  banned_within k h = mark_within (lexemes language l) k symbol.Banned refl h

  pub named_within : (g : Fault) → front g ≤ length (lexemes language l) → front (named_fault (lexemes language l) g) ≤ length (lexemes language l)
  named_within (Syntax k) h = by_case (is_banned (lexemes language l) k) refl where
    by_case : (b : Bool) → is_banned (lexemes language l) k ≡ b → front (cond b (Passes Ban k) (Syntax k)) ≤ length (lexemes language l)
    by_case true e = let p = banned_within k e in omega (arith, p)
    by_case false e = h
  named_within (Passes rule k) h = h

  named_front : (r : Result Tree Fault) → ((g : Fault) → r ≡ Err g → front g ≤ length (lexemes language l)) → (f : Fault) → named (lexemes language l) r ≡ Err f
      → front f ≤ length (lexemes language l)
  named_front (Ok a) h f e = clash_results a f e
  named_front (Err g) h f e =
      subst (λ (k : Fault). front k ≤ length (lexemes language l)) (same_fault (named_fault (lexemes language l) g) f e) (named_within g (h g refl))

  module _ (fuel nesting : ℕ) (enough : 129 ≤ nesting) (fueled : 64 ≤ fuel) where
    answer_front : (f : Fault) → Answers grammar.file (lexemes language l) (Err f) → front f ≤ length l.tokens
    unfolding file_answer
    answer_front f h =
        let t = lexemes language l in
        let e = file_answered_alone fuel nesting enough fueled t (lexemes_real language l) (Err f) h in
        subst (λ (n : ℕ). front f ≤ n) (token_count language l)
        (named_front (whole_read (grammar_readings.file_read fuel nesting t 0) t)
        (fault_front grammar.file t (grammar_readings.file_read fuel nesting t 0) (grammar_exact.file_exact fuel nesting enough fueled t 0 (omega arith)))
        f (sym e))

  pub fault_within : (f : SyntaxFault) → Told (λ a. Answers grammar.file (lexemes language l) a) (Err f) → IsOfText l f
  fault_within syntax.Memory h = tt
  fault_within (syntax.Syntax k) h = answer_front 64 129 (omega arith) (omega arith) (Syntax k) h
  fault_within (syntax.Deep k) h = let p : k + 1 ≤ length l.tokens = answer_front 64 129 (omega arith) (omega arith) (Passes Depth k) h in omega (arith, p)
  fault_within (syntax.Banned k) h = let p : k + 1 ≤ length l.tokens = answer_front 64 129 (omega arith) (omega arith) (Passes Ban k) h in omega (arith, p)

  -- ## What is reported of a file

  pub told_is : (text : List ℕ) (file : ℕ) (f : SyntaxFault) → l.text ≡ text → AreTokens text l.tokens → Told (λ a. Answers grammar.file (lexemes language l) a) (Err f)
      → IsFaultOf language file text (told_syntax file l f)
  told_is text file syntax.Memory e a h = tt
  told_is text file (syntax.Syntax k) e a h = (
    refl,
    record { lexed = l; told = Syntax k; token = k; is_told = (refl, refl); read = record { text_is = e; tokens = a; answered = h }; octet = refl },
  )
  told_is text file (syntax.Deep k) e a h = (
    refl,
    record { lexed = l; told = Passes Depth k; token = k; is_told = (refl, refl); read = record { text_is = e; tokens = a; answered = h }; octet = refl },
  )
  told_is text file (syntax.Banned k) e a h = (
    refl,
    record { lexed = l; told = Passes Ban k; token = k; is_told = (refl, refl); read = record { text_is = e; tokens = a; answered = h }; octet = refl },
  )

-- ## How a walk stops at a load

module _ (held : Option (List ℕ → Option (List ℕ))) (s : State) (place : Place) (name : List ℕ) (rest : List Due) (due : IsDue s.sources name) where
  module _ (text : List ℕ) (content : IsContent held name text) where
    pub stops_at : (f : NameFault) → IsFaultOf s.language (length s.sources) text f → Walk held s (Load place name ∷ rest) (Stopped (and_source s.sources name text) f)
    stops_at fault.Memory h = walk.short_after_load s place name rest text due content
    stops_at (fault.Lex n (lex_fault.At at kind)) h =
        subst (λ (m : ℕ). Walk held s (Load place name ∷ rest) (Stopped (and_source s.sources name text) (fault.Lex m (lex_fault.At at kind)))) (sym h.0)
        (walk.uncut s place name rest text at kind due content h.1)
    stops_at (fault.Syntax n at f) h =
        subst (λ (m : ℕ). Walk held s (Load place name ∷ rest) (Stopped (and_source s.sources name text) (fault.Syntax m at f))) (sym h.0)
        (walk.no_file s place name rest text at f due content h.1)
    stops_at _ h = absurd h

  pub unloaded_at : (load : FileFault) → (load ≡ file_fault.Absent → IsMissing held name)
      → Walk held s (Load place name ∷ rest) (Stopped (and_source s.sources name []) (told_load (length s.sources) load))
  unloaded_at file_fault.Absent h = walk.absent s place name rest due (h refl)
  unloaded_at file_fault.Failed h = walk.failed s place name rest due
  unloaded_at file_fault.Memory h = walk.short_in_load s place name rest due

module _ (language : Language) (held : Option (List ℕ → Option (List ℕ))) (before : List Source) (name : List ℕ) where
  -- the same from the state of any walk with these sources
  at_sources : (after added : List Source) (f g : NameFault) → after ≡ added → f ≡ g
      → ((s : State) (place : Place) (rest : List Due) → s.language ≡ language → s.sources ≡ before → IsDue s.sources name → Walk held s (Load place name ∷ rest) (Stopped added g))
      → IsLoadFault language held before name after f
  at_sources after added f g e h w = λ s place rest in_language at due.
      subst (λ (x : List Source). Walk held s (Load place name ∷ rest) (Stopped x f)) (sym e)
      (subst (λ (x : NameFault). Walk held s (Load place name ∷ rest) (Stopped added x)) (sym h) (w s place rest in_language at (subst (λ (b : List Source). IsDue b name) (sym at) due)))

  pub short_fault : (after : List Source) (f : NameFault) → after ≡ before → f ≡ fault.Memory → IsLoadFault language held before name after f
  short_fault after f e h = at_sources after before f fault.Memory e h (λ s place rest in_language at due.
      subst (λ (b : List Source). Walk held s (Load place name ∷ rest) (Stopped b fault.Memory)) at (walk.short s (Load place name ∷ rest)))

  pub read_fault : (text : List ℕ) (after : List Source) (f : NameFault) → IsContent held name text → after ≡ and_source before name text → IsFaultOf language (length before) text f
      → IsLoadFault language held before name after f
  read_fault text after f content e h = at_sources after (and_source before name text) f f e refl (λ s place rest in_language at due.
      subst (λ (b : List Source). Walk held s (Load place name ∷ rest) (Stopped (and_source b name text) f)) at
      (stops_at held s place name rest due text content f
      (subst (λ (z : Language). IsFaultOf z (length s.sources) text f) (sym in_language) (subst (λ (b : List Source). IsFaultOf language (length b) text f) (sym at) h))))

  pub unloaded_fault : (load : FileFault) (after : List Source) (f : NameFault) → (load ≡ file_fault.Absent → IsMissing held name) → after ≡ and_source before name []
      → f ≡ told_load (length before) load → IsLoadFault language held before name after f
  unloaded_fault load after f missing e h = at_sources after (and_source before name []) f (told_load (length before) load) e h (λ s place rest in_language at due.
      subst (λ (b : List Source). Walk held s (Load place name ∷ rest) (Stopped (and_source b name []) (told_load (length b) load))) at (unloaded_at held s place name rest due load missing))

  -- ## Results

  pub loaded_ok : (file : ℕ) (text : List ℕ) (after : List Source) (r : Result FileTree NameFault) → file ≡ length before → IsContent held name text
      → after ≡ and_source before name text → IfOk r (λ f. f.file ≡ file) → IfOk r (λ f. IsFile language text (seen_tree f.tree)) → IfOk r (λ f. IsLoaded language held before name after (seen_file f))
  loaded_ok file text after (Ok f) at content e number is =
      record { text = text; content = content; read = record { is_file = is; number = number ∙ at; sources = e } }
  loaded_ok file text after (Err f) at content e number is = tt

  pub loaded_err : {A : Type 0} (file : ℕ) (text : List ℕ) (after : List Source) (r : Result A NameFault) → file ≡ length before → IsContent held name text
      → after ≡ and_source before name text → IfErr r (IsFaultOf language file text) → IfErr r (IsLoadFault language held before name after)
  loaded_err file text after (Ok a) at content e h = tt
  loaded_err file text after (Err f) at content e h = read_fault text after f content e (subst (λ (n : ℕ). IsFaultOf language n text f) at h)

-- ## Sources

pub one_more : (before after : List Source) (name text : List ℕ) → after ≡ and_source before name text → length after ≡ length before + 1
one_more before after name text e = ap length e ∙ length-append before (record { name = name; text = text } ∷ [])

last_is : (xs : List Source) (i : ℕ) (a d : Source) → i ≡ length xs → get_or (xs ++ a ∷ []) i d ≡ a
last_is [] i a d e = ap (λ n. get_or (a ∷ []) n d) e
last_is (x ∷ xs) i a d e = ap (λ n. get_or (x ∷ (xs ++ a ∷ [])) n d) e ∙ last_is xs (length xs) a d refl

last_set : (xs : List Source) (i : ℕ) (a b : Source) → i ≡ length xs → set (xs ++ a ∷ []) i b ≡ xs ++ b ∷ []
last_set [] i a b e = ap (λ n. set (a ∷ []) n b) e
last_set (x ∷ xs) i a b e = ap (λ n. set (x ∷ (xs ++ a ∷ [])) n b) e ∙ ap (λ l. x ∷ l) (last_set xs (length xs) a b refl)

-- The last source gets its text.
pub last_filled : {A : Type 0} (f : A → Source) (xs : List A) (i : ℕ) (old new : A) (before : List Source) (name text : List ℕ) → i ≡ length before
    → map f xs ≡ and_source before name [] → old ≡ get_or xs i old → (f new).name ≡ (f old).name → (f new).text ≡ text → map f (set xs i new) ≡ and_source before name text
last_filled f xs i old new before name text at is item same filled =
    let here : f old ≡ record { name = name; text = [] } =
    ap f item ∙ (sym (get_or-map f xs i old) ∙ (ap (λ l. get_or l i (f old)) is ∙ last_is before i (record { name = name; text = [] }) (f old) at)) in
    let now : f new ≡ record { name = name; text = text } =
    ap (λ n. record { name = n; text = (f new).text }) (same ∙ ap (λ s. s.name) here) ∙ ap (λ t. record { name = name; text = t }) filled in
    map-set f xs i new ∙ (ap (λ l. set l i (f new)) is ∙ (last_set before i (record { name = name; text = [] }) (f new) at ∙ ap (λ y. before ++ y ∷ []) now))
