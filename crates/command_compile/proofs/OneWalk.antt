-- A walk ends in one way, except where memory runs out or a load fails.
use Rattle.std.proofs.Common.{◌≡◌, ◌∙◌, ℕ, true, false, List, ◌++◌, length, Option, Some, None, Result, Ok, Err, refl, sym, ap, subst, arith}
use Rattle.std.proofs.lemmas.Option.{same_Some}
use Rattle.std.specs.Prelude.{option_map}
use Rattle.nd_base.specs.declared.octets.Place.{Place}
use Rattle.nd_base.specs.Over.{IsContent, IsMissing, loaded}
use Rattle.idl_lexer.specs.declared.tokens.LexKind.{LexKind}
use Rattle.idl_lexer.specs.declared.tokens.LexFault.TheVariants as lexical
use Rattle.idl_lexer.specs.Verdict.{IsVerdict, Refused}
use Rattle.idl_grammar.specs.Tree.{Tree}
use Rattle.idl_scope.specs.declared.name_fault.NameFault.{NameFault}
use Rattle.idl_scope.specs.declared.name_fault.NameFault.TheVariants as names
use Rattle.idl_grammar.specs.declared.fault.SyntaxFault.{SyntaxFault}
use Rattle.idl_names.specs.Walk.{IsFile, IsNoFile, Source, and_source, State, Due, Ending, Done, Stopped, Walk, with_source, all_of, all_done, goes_on, faults, ends, cycle, again, too_many, absent}
use Rattle.idl_names.specs.Walk.{failed, uncut, no_file, enters, short, short_in_load, short_after_load}
use Rattle.idl_scope.specs.Known.{Known, has_ended}
use Rattle.command_compile.proofs.OneFile.{one_no_file, one_cut, never_cut, never_file, never_uncut}
use Rattle.idl_names.proofs.Once.{one_tree}

-- an ending that is told by the files alone
abbrev pub IsKept : Ending → Type 0
IsKept (Done s) = Unit {0}
IsKept (Stopped sources names.Memory) = ⊥
IsKept (Stopped sources (names.Failed n)) = ⊥
IsKept (Stopped sources f) = Unit {0}

pub none_some : {X : Type 0} {B : Type 0} (o : Option X) (x : X) → o ≡ None → o ≡ Some x → B
none_some o x e f = let never : None ≡ Some x = sym e ∙ f in absurd (cc)

module _ (k : List ℕ → Option (List ℕ)) where
  pub one_content : (name a b : List ℕ) → IsContent (Some k) name a → IsContent (Some k) name b → a ≡ b
  one_content name a b e f = same_Some _ _ (sym e ∙ f)

  pub not_missing : {B : Type 0} (name a : List ℕ) → IsMissing (Some k) name → IsContent (Some k) name a → B
  not_missing name a e f = none_some (option_map loaded (k name)) a (ap (option_map loaded) e) f

  one_uncut_end : (sources : List Source) (name text text' : List ℕ) (at at' : ℕ) (kind kind' : LexKind) → text ≡ text' → at ≡ at' → kind ≡ kind'
      → Stopped (and_source sources name text) (names.Lex (length sources) (lexical.At at kind))
      ≡ Stopped (and_source sources name text') (names.Lex (length sources) (lexical.At at' kind'))
  one_uncut_end sources name text text' at at' kind kind' a b c = λ i. Stopped (and_source sources name (a i)) (names.Lex (length sources) (lexical.At (b i) (c i)))

  one_no_file_end : (sources : List Source) (name text text' : List ℕ) (at at' : ℕ) (f f' : SyntaxFault) → text ≡ text' → at ≡ at' → f ≡ f'
      → Stopped (and_source sources name text) (names.Syntax (length sources) at f) ≡ Stopped (and_source sources name text') (names.Syntax (length sources) at' f')
  one_no_file_end sources name text text' at at' f f' a b c = λ i. Stopped (and_source sources name (a i)) (names.Syntax (length sources) (b i) (c i))

  same_walk : (s : State) (place : Place) (name : List ℕ) (rest : List Due) (e : Ending) (text text' : List ℕ) (t t' : Tree) → text ≡ text' → t ≡ t'
      → Walk (Some k) (with_source s name text') (all_of (length s.sources) t' ++ rest) e
      → Walk (Some k) (with_source s name text) (all_of (length s.sources) t ++ rest) e
  same_walk s place name rest e text text' t t' a b w =
      subst (λ x. Walk (Some k) (with_source s name x) (all_of (length s.sources) t ++ rest) e) (sym a)
      (subst (λ x. Walk (Some k) (with_source s name text') (all_of (length s.sources) x ++ rest) e) (sym b) w)

  pub one_end : (s : State) (due : List Due) (e e' : Ending) → Walk (Some k) s due e → Walk (Some k) s due e' → IsKept e → IsKept e' → e ≡ e'
  one_end st ds g h (short s rest) w x y = absurd x
  one_end st ds g h (short_in_load s place name rest due) w x y = absurd x
  one_end st ds g h (short_after_load s place name rest text due c) w x y = absurd x
  one_end st ds g h (failed s place name rest due) w x y = absurd x
  one_end st ds g h w (short s rest) x y = absurd y
  one_end st ds g h w (short_in_load s place name rest due) x y = absurd y
  one_end st ds g h w (short_after_load s place name rest text due c) x y = absurd y
  one_end st ds g h w (failed s place name rest due) x y = absurd y
  one_end st ds g h (all_done s) (all_done s') x y = refl
  one_end st ds g h (ends s file t rest e d) (ends s' file' t' rest' e' d') x y = one_end _ rest g h d d' x y
  one_end st ds g h (goes_on s file step m rest e a d) (goes_on s' file' step' m' rest' e' a' d') x y =
      let same : m ≡ m' = let both : Ok m ≡ Ok m' = sym a ∙ a' in cc in
      one_end _ rest g h d (subst (λ z. Walk (Some k) (record st { known = z }) rest h) (sym same) d') x y
  one_end st ds g h (goes_on s file step m rest e a d) (faults s' file' step' f rest' a') x y =
      let both : Ok m ≡ Err f = sym a ∙ a' in
      absurd (cc)
  one_end st ds g h (faults s file step f rest a) (goes_on s' file' step' m rest' e' a' d') x y =
      let both : Err f ≡ Ok m = sym a ∙ a' in
      absurd (cc)
  one_end st ds g h (faults s file step f rest a) (faults s' file' step' f' rest' a') x y =
      let both : ◌≡◌ {A = Result Known NameFault} (Err f) (Err f') = sym a ∙ a' in
      let same : f ≡ f' = cc in
      ap (Stopped st.sources) same
  one_end st ds g h (cycle s place name rest n a b) (cycle s' place' name' rest' n' a' b') x y = refl
  one_end st ds g h (cycle s place name rest n a b) (again s' place' name' rest' e' n' a' b' d') x y = let m : n ≡ n' = same_Some _ _ (sym a ∙ a') in let never : false ≡ true =
      sym b ∙ ap (has_ended st.ended) m ∙ b' in absurd (cc)
  one_end st ds g h (cycle s place name rest n a b) (too_many s' place' name' rest' a' b') x y = none_some _ n a' a
  one_end st ds g h (cycle s place name rest n a b) (absent s' place' name' rest' due' m') x y = none_some _ n due'.new a
  one_end st ds g h (cycle s place name rest n a b) (uncut s' place' name' rest' text' at' kind' due' c' v') x y = none_some _ n due'.new a
  one_end st ds g h (cycle s place name rest n a b) (no_file s' place' name' rest' text' at' f' due' c' v') x y = none_some _ n due'.new a
  one_end st ds g h (cycle s place name rest n a b) (enters s' place' name' rest' e' text' t' due' c' v' d') x y = none_some _ n due'.new a
  one_end st ds g h (again s place name rest e n a b d) (cycle s' place' name' rest' n' a' b') x y = let m : n ≡ n' = same_Some _ _ (sym a ∙ a') in let never : true ≡ false =
      sym b ∙ ap (has_ended st.ended) m ∙ b' in absurd (cc)
  one_end st ds g h (again s place name rest e n a b d) (again s' place' name' rest' e' n' a' b' d') x y = one_end st rest g h d d' x y
  one_end st ds g h (again s place name rest e n a b d) (too_many s' place' name' rest' a' b') x y = none_some _ n a' a
  one_end st ds g h (again s place name rest e n a b d) (absent s' place' name' rest' due' m') x y = none_some _ n due'.new a
  one_end st ds g h (again s place name rest e n a b d) (uncut s' place' name' rest' text' at' kind' due' c' v') x y = none_some _ n due'.new a
  one_end st ds g h (again s place name rest e n a b d) (no_file s' place' name' rest' text' at' f' due' c' v') x y = none_some _ n due'.new a
  one_end st ds g h (again s place name rest e n a b d) (enters s' place' name' rest' e' text' t' due' c' v' d') x y = none_some _ n due'.new a
  one_end st ds g h (too_many s place name rest a b) (cycle s' place' name' rest' n' a' b') x y = none_some _ n' a a'
  one_end st ds g h (too_many s place name rest a b) (again s' place' name' rest' e' n' a' b' d') x y = none_some _ n' a a'
  one_end st ds g h (too_many s place name rest a b) (too_many s' place' name' rest' a' b') x y = refl
  one_end st ds g h (too_many s place name rest a b) (absent s' place' name' rest' due' m') x y = absurd (omega (arith, b, due'.room))
  one_end st ds g h (too_many s place name rest a b) (uncut s' place' name' rest' text' at' kind' due' c' v') x y = absurd (omega (arith, b, due'.room))
  one_end st ds g h (too_many s place name rest a b) (no_file s' place' name' rest' text' at' f' due' c' v') x y = absurd (omega (arith, b, due'.room))
  one_end st ds g h (too_many s place name rest a b) (enters s' place' name' rest' e' text' t' due' c' v' d') x y = absurd (omega (arith, b, due'.room))
  one_end st ds g h (absent s place name rest due m) (cycle s' place' name' rest' n' a' b') x y = none_some _ n' due.new a'
  one_end st ds g h (absent s place name rest due m) (again s' place' name' rest' e' n' a' b' d') x y = none_some _ n' due.new a'
  one_end st ds g h (absent s place name rest due m) (too_many s' place' name' rest' a' b') x y = absurd (omega (arith, b', due.room))
  one_end st ds g h (absent s place name rest due m) (absent s' place' name' rest' due' m') x y = refl
  one_end st ds g h (absent s place name rest due m) (uncut s' place' name' rest' text' at' kind' due' c' v') x y = not_missing name text' m c'
  one_end st ds g h (absent s place name rest due m) (no_file s' place' name' rest' text' at' f' due' c' v') x y = not_missing name text' m c'
  one_end st ds g h (absent s place name rest due m) (enters s' place' name' rest' e' text' t' due' c' v' d') x y = not_missing name text' m c'
  one_end st ds g h (uncut s place name rest text at kind due c v) (cycle s' place' name' rest' n' a' b') x y = none_some _ n' due.new a'
  one_end st ds g h (uncut s place name rest text at kind due c v) (again s' place' name' rest' e' n' a' b' d') x y = none_some _ n' due.new a'
  one_end st ds g h (uncut s place name rest text at kind due c v) (too_many s' place' name' rest' a' b') x y = absurd (omega (arith, b', due.room))
  one_end st ds g h (uncut s place name rest text at kind due c v) (absent s' place' name' rest' due' m') x y = not_missing name text m' c
  one_end st ds g h (uncut s place name rest text at kind due c v) (uncut s' place' name' rest' text' at' kind' due' c' v') x y = let same : text ≡ text' = one_content name text text' c c' in let r =
      one_cut text at kind at' kind' v (subst (λ z. IsVerdict z (Refused at' kind')) (sym same) v') in one_uncut_end st.sources name text text' at at' kind kind' same r.0 r.1
  one_end st ds g h (uncut s place name rest text at kind due c v) (no_file s' place' name' rest' text' at' f' due' c' v') x y = let same : text ≡ text' =
      one_content name text text' c c' in never_uncut text at kind at' f' v (subst (λ z. IsNoFile st.language z at' f') (sym same) v')
  one_end st ds g h (uncut s place name rest text at kind due c v) (enters s' place' name' rest' e' text' t' due' c' v' d') x y = let same : text ≡ text' =
      one_content name text text' c c' in never_cut text at kind t' v (subst (λ z. IsFile st.language z t') (sym same) v')
  one_end st ds g h (no_file s place name rest text at f due c v) (cycle s' place' name' rest' n' a' b') x y = none_some _ n' due.new a'
  one_end st ds g h (no_file s place name rest text at f due c v) (again s' place' name' rest' e' n' a' b' d') x y = none_some _ n' due.new a'
  one_end st ds g h (no_file s place name rest text at f due c v) (too_many s' place' name' rest' a' b') x y = absurd (omega (arith, b', due.room))
  one_end st ds g h (no_file s place name rest text at f due c v) (absent s' place' name' rest' due' m') x y = not_missing name text m' c
  one_end st ds g h (no_file s place name rest text at f due c v) (uncut s' place' name' rest' text' at' kind' due' c' v') x y = let same : text ≡ text' =
      one_content name text text' c c' in never_uncut text at' kind' at f (subst (λ z. IsVerdict z (Refused at' kind')) (sym same) v') v
  one_end st ds g h (no_file s place name rest text at f due c v) (no_file s' place' name' rest' text' at' f' due' c' v') x y = let same : text ≡ text' = one_content name text text' c c' in let r =
      one_no_file text at f at' f' v (subst (λ z. IsNoFile st.language z at' f') (sym same) v') in one_no_file_end st.sources name text text' at at' f f' same r.0 r.1
  one_end st ds g h (no_file s place name rest text at f due c v) (enters s' place' name' rest' e' text' t' due' c' v' d') x y = let same : text ≡ text' =
      one_content name text text' c c' in never_file text at f t' v (subst (λ z. IsFile st.language z t') (sym same) v')
  one_end st ds g h (enters s place name rest e text t due c v d) (cycle s' place' name' rest' n' a' b') x y = none_some _ n' due.new a'
  one_end st ds g h (enters s place name rest e text t due c v d) (again s' place' name' rest' e' n' a' b' d') x y = none_some _ n' due.new a'
  one_end st ds g h (enters s place name rest e text t due c v d) (too_many s' place' name' rest' a' b') x y = absurd (omega (arith, b', due.room))
  one_end st ds g h (enters s place name rest e text t due c v d) (absent s' place' name' rest' due' m') x y = not_missing name text m' c
  one_end st ds g h (enters s place name rest e text t due c v d) (uncut s' place' name' rest' text' at' kind' due' c' v') x y = let same : text ≡ text' =
      one_content name text text' c c' in never_cut text at' kind' t (subst (λ z. IsVerdict z (Refused at' kind')) (sym same) v') v
  one_end st ds g h (enters s place name rest e text t due c v d) (no_file s' place' name' rest' text' at' f' due' c' v') x y = let same : text ≡ text' =
      one_content name text text' c c' in never_file text at' f' t (subst (λ z. IsNoFile st.language z at' f') (sym same) v') v
  one_end st ds g h (enters s place name rest e text t due c v d) (enters s' place' name' rest' e' text' t' due' c' v' d') x y = let same : text ≡ text' =
      one_content name text text' c c' in let tree : t ≡ t' =
      one_tree st.language text t t' v (subst (λ z. IsFile st.language z t') (sym same) v') in one_end _ _ g h d (same_walk st place name rest h text text' t t' same tree d') x y
