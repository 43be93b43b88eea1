-- Parts of a walk, one after the other.
use Rattle.std.proofs.Common.{◌≡◌, ℕ, ◌+◌, ◌-◌, ◌<◌, ◌≤◌, Bool, true, false, eqb, refl, sym, ap, subst, ◌∙◌, arith, List, [], ◌∷◌, ◌++◌, map, drop, length, get_or, Option, Some, None, Result, Ok, Err}
use Rattle.std.proofs.Common.{IfErr}
use Rattle.std.specs.List.{flat_map}
use Rattle.std.specs.Result.{IsErrAnd}
use Rattle.std.proofs.lemmas.List.{append_assoc, append-nil, map-append, drop_more, drop_all}
use Rattle.std.proofs.lemmas.List.Concat.{flat_map-cons}
use Rattle.std.proofs.Math.Seq.{drop-append_seam}
use Rattle.nd_base.specs.declared.octets.Place.{Place}
use Rattle.idl_grammar.specs.declared.language.Language.{Language}
use Rattle.idl_grammar.specs.declared.words.Spelling.{Spelling}
use Rattle.idl_grammar.specs.declared.files.Import as import
use Rattle.idl_grammar.specs.Seen.{seen_import}
use Rattle.idl_grammar.specs.Tree.{Tree}
use Rattle.idl_scope.specs.declared.fault.ExpressionFault.{ExpressionFault}
use Rattle.idl_scope.specs.declared.fault.ExpressionFault.TheVariants as expression_fault
use Rattle.idl_scope.specs.declared.name_fault.NameFault.{NameFault}
use Rattle.idl_scope.specs.declared.name_fault.NameFault.TheVariants as fault
use Rattle.idl_names.specs.Causes.{IsAbsent, IsFailed}
use Rattle.idl_scope.specs.Known.{Ended, ended, has_ended, Known, nothing, passed, and_then, walked, where_known, where_free, where_valued, in_file, expression_fault_in, tag_used}
use Rattle.idl_names.specs.Going.{Point, Asked, Leads, Went}
use Rattle.idl_names.specs.Loads.{IsLoaded}
use Rattle.idl_names.specs.Walk.{Source, file_number, and_source, State, Due, Pass, Load, End, Ending, Done, Stopped, Walk, load_of, all_of, with_known, with_ended, start, names_of, AsksAlong}
use Rattle.idl_names.specs.Walk.{most_files}
use Rattle.idl_scope.specs.Steps as step
use Rattle.idl_scope.specs.Steps.{Step, attribute_steps, imports_of, declaration_steps}
use Rattle.idl_scope.specs.Kept.{is_memory, IsRight}
use Rattle.idl_names.specs.Walk as walk
use Rattle.nd_base.proofs.Rising.{rose_later as rose_before}

-- ## Counts

absent_before : (a b c : ℕ) (f : NameFault) → a ≤ b → IsAbsent b c f → IsAbsent a c f
absent_before a b c (fault.Absent file) h r = rose_before a b c h r
absent_before a b c _ h r = tt

failed_before : (a b c : ℕ) (f : NameFault) → a ≤ b → IsFailed b c f → IsFailed a c f
failed_before a b c (fault.Failed file) h r = rose_before a b c h r
failed_before a b c _ h r = tt

absent_result : {A : Type 0} (a b c : ℕ) (r : Result A NameFault) → a ≤ b → IfErr r (IsAbsent b c) → IfErr r (IsAbsent a c)
absent_result a b c (Ok x) h r = tt
absent_result a b c (Err f) h r = absent_before a b c f h r

failed_result : {A : Type 0} (a b c : ℕ) (r : Result A NameFault) → a ≤ b → IfErr r (IsFailed b c) → IfErr r (IsFailed a c)
failed_result a b c (Ok x) h r = tt
failed_result a b c (Err f) h r = failed_before a b c f h r

-- ## Names that were asked for

pub none_asked : (a : List (List ℕ)) (s : List Source) → Asked a s a s
none_asked a s = record { added = []; sources_are = sym (append-nil s); asked_are = sym (append-nil a) }

pub asked_on : {a b c : List (List ℕ)} {s t u : List Source} → Asked a s b t → Asked b t c u → Asked a s c u
asked_on {a} {b} {c} {s} {t} {u} f g = record {
  added = f.added ++ g.added;
  sources_are = g.sources_are ∙ (ap (λ x. x ++ g.added) f.sources_are ∙ append_assoc s f.added g.added);
  asked_are = g.asked_are
      ∙ (ap (λ x. x ++ names_of g.added) f.asked_are
      ∙ (append_assoc a (names_of f.added) (names_of g.added)
      ∙ ap (λ x. a ++ x) (sym (map-append (λ s. s.name) f.added g.added))));
}

pub one_asked : {a b : List (List ℕ)} {s t : List Source} (name text : List ℕ) → b ≡ a ++ name ∷ [] → t ≡ and_source s name text → Asked a s b t
one_asked name text e h = record { added = record { name = name; text = text } ∷ []; sources_are = h; asked_are = e }

-- ## Parts

leads_on : {A B : Type 0} (held : Option (List ℕ → Option (List ℕ))) (s t u : State) (all x left : List Due) (a : A) (r : Result B NameFault)
    → Leads held s all t (x ++ left) (Ok a) → Leads held t x u [] r → Leads held s all u left r
leads_on held s t u all x left a (Ok b) f g = λ rest e w. f rest e (subst (λ (l : List Due). Walk held t l e) (sym (append_assoc x left rest)) (g (left ++ rest) e w))
leads_on held s t u all x left a (Err b) f g = λ rest. f rest (Stopped u.sources b) (subst (λ (l : List Due). Walk held t l (Stopped u.sources b)) (sym (append_assoc x left rest)) (g (left ++ rest)))

pub goes_on : {A B : Type 0} (p q r : Point) (all x left : List Due) (a : A) (result : Result B NameFault)
    → Went p all q (x ++ left) (Ok a) → Went q x r [] result → Went p all r left result
goes_on p q r all x left a result f g = record {
  leads = leads_on p.held p.state q.state r.state all x left a result f.leads
      (subst (λ (h : Option (List ℕ → Option (List ℕ))). Leads h q.state x r.state [] result) f.same g.leads);
  same = g.same ∙ f.same;
  asked = asked_on f.asked g.asked;
  absent = absent_result p.absences q.absences r.absences result f.absences_later g.absent;
  failed = failed_result p.faults q.faults r.faults result f.later g.failed;
  later = omega (arith, f.later, g.later);
  absences_later = omega (arith, f.absences_later, g.absences_later);
  more = omega (arith, f.more, g.more);
  few = g.few;
}

pub at_first : {A : Type 0} (p : Point) (all : List Due) (a : A) → length p.state.sources ≤ most_files → Went p all p all (Ok a)
at_first p all a few = record {
  leads = λ rest e w. w;
  same = refl;
  asked = none_asked p.asked p.state.sources;
  absent = tt;
  failed = tt;
  later = omega arith;
  absences_later = omega arith;
  more = omega arith;
  few = few;
}

-- ## Faults of names

-- not of a load, and not of memory
abbrev pub IsOfNames : NameFault → Type 0
IsOfNames fault.Memory = ⊥
IsOfNames (fault.Absent file) = ⊥
IsOfNames (fault.Failed file) = ⊥
IsOfNames _ = Unit {0}

abbrev pub OfNames : {A : Type 0} → Result A NameFault → Type 0
OfNames (Ok a) = Unit {0}
OfNames (Err f) = IsOfNames f

known_of_names : (b : Bool) (place : _) (k : Known) → OfNames (where_known b place k)
known_of_names true place k = tt
known_of_names false place k = tt

free_of_names : (o : Option _) (place : _) (k : Known) → OfNames (where_free o place k)
free_of_names None place k = tt
free_of_names (Some first) place k = tt

expression_of_names : (file : ℕ) (f : ExpressionFault) → IsOfNames (expression_fault_in file f)
expression_of_names file (expression_fault.Unknown at) = tt
expression_of_names file (expression_fault.Const f) = tt

valued_of_names : (file : ℕ) (r : Result _ ExpressionFault) (next : _ → Known) → OfNames (where_valued (in_file file r) next)
valued_of_names file (Ok z) next = tt
valued_of_names file (Err f) next = expression_of_names file f

tag_of_names : (file : ℕ) (k : Known) (kind : _) (tag : Spelling) (b : Bool) → OfNames (tag_used file k kind tag b)
tag_of_names file k kind tag true = tt
tag_of_names file k kind tag false = tt

pub passed_of_names : (file : ℕ) (k : Known) (s : Step) → OfNames (passed file k s)
passed_of_names file k (step.UseType name) = known_of_names _ _ k
passed_of_names file k (step.UseTag kind tag behind) = by _
  where
    by : (b : Bool) → OfNames (elim b [ true ↦ Ok k | false ↦ tag_used file k kind tag behind ])
    by true = tt
    by false = tag_of_names file k kind tag behind
passed_of_names file k (step.DefineTag kind tag) = free_of_names _ _ _
passed_of_names file k (step.Declare name) = free_of_names _ _ _
passed_of_names file k (step.Know name m) = tt
passed_of_names file k (step.KnowValue name e) = valued_of_names file _ _
passed_of_names file k (step.KnowNext name previous) = tt
passed_of_names file k (step.Evaluate e) = valued_of_names file _ _
passed_of_names file k (step.Enlist before name) = free_of_names _ _ k

walked_of_names : (file : ℕ) (k : Known) (steps : List Step) → OfNames (walked file k steps)
walked_of_names file k [] = tt
walked_of_names file k (s ∷ steps) = by (passed file k s) (passed_of_names file k s) (λ next. walked_of_names file next steps)
  where
    by : (r : Result Known NameFault) → OfNames r → ((next : Known) → OfNames (walked file next steps)) → OfNames (and_then r (λ next. walked file next steps))
    by (Ok next) h more = more next
    by (Err f) h more = h

names_absent : (a b : ℕ) (f : NameFault) → IsOfNames f → IsAbsent a b f
names_absent a b (fault.Absent file) h = absurd h
names_absent a b _ h = tt

names_failed : (a b : ℕ) (f : NameFault) → IsOfNames f → IsFailed a b f
names_failed a b (fault.Failed file) h = absurd h
names_failed a b _ h = tt

-- ## Steps

is_memory_is : (f : NameFault) → is_memory f ≡ true → f ≡ fault.Memory
is_memory_is fault.Memory h = refl
is_memory_is _ h = absurd (cc)

module _ (held : Option (List ℕ → Option (List ℕ))) (file : ℕ) where
  pass_all : (s : State) (steps : List Step) (after : Known) (rest : List Due) (e : Ending) → walked file s.known steps ≡ Ok after
      → Walk held (with_known s after) rest e → Walk held s (map (Pass file) steps ++ rest) e
  pass_all s [] after rest e h w = subst (λ (k : Known). Walk held (with_known s k) rest e) (sym (same_known h)) w
    where
      same_known : {k n : Known} → ◌≡◌ {A = Result Known NameFault} (Ok k) (Ok n) → k ≡ n
      same_known p = cc
  pass_all s (x ∷ steps) after rest e h w = by (passed file s.known x) refl (λ k g. pass_all (with_known s k) steps after rest e g w) h
    where
      by : (r : Result Known NameFault) → passed file s.known x ≡ r
          → ((k : Known) → walked file k steps ≡ Ok after → Walk held (with_known s k) (map (Pass file) steps ++ rest) e)
          → and_then r (λ next. walked file next steps) ≡ Ok after
          → Walk held s (Pass file x ∷ (map (Pass file) steps ++ rest)) e
      by (Ok k) is more g = walk.goes_on s file x k (map (Pass file) steps ++ rest) e is (more k g)
      by (Err f) is more g = absurd (cc)

  pass_fault : (s : State) (steps : List Step) (f : NameFault) (rest : List Due) → walked file s.known steps ≡ Err f
      → Walk held s (map (Pass file) steps ++ rest) (Stopped s.sources f)
  pass_fault s [] f rest h = absurd (cc)
  pass_fault s (x ∷ steps) f rest h = by (passed file s.known x) refl (λ k g. pass_fault (with_known s k) steps f rest g) h
    where
      same_fault : {g n : NameFault} → ◌≡◌ {A = Result Known NameFault} (Err g) (Err n) → g ≡ n
      same_fault p = cc

      by : (r : Result Known NameFault) → passed file s.known x ≡ r
          → ((k : Known) → walked file k steps ≡ Err f → Walk held (with_known s k) (map (Pass file) steps ++ rest) (Stopped s.sources f))
          → and_then r (λ next. walked file next steps) ≡ Err f
          → Walk held s (Pass file x ∷ (map (Pass file) steps ++ rest)) (Stopped s.sources f)
      by (Ok k) is more g = walk.goes_on s file x k (map (Pass file) steps ++ rest) (Stopped s.sources f) is (more k g)
      by (Err n) is more g = subst (λ (m : NameFault). Walk held s (Pass file x ∷ (map (Pass file) steps ++ rest)) (Stopped s.sources m)) (same_fault g)
          (walk.faults s file x n (map (Pass file) steps ++ rest) is)

abbrev pub at_state : Point → State → Point
at_state p s = record p { state = s }

-- a walk stops where it is
pub stops : {A : Type 0} (p q : Point) (dues : List Due) (f : NameFault) → ((rest : List Due) → Walk p.held p.state (dues ++ rest) (Stopped q.state.sources f))
    → q.held ≡ p.held → Asked p.asked p.state.sources q.asked q.state.sources → IsAbsent p.absences q.absences f → IsFailed p.faults q.faults f → p.faults ≤ q.faults → p.absences ≤ q.absences
    → length p.state.sources ≤ length q.state.sources → length q.state.sources ≤ most_files → Went {A = A} p dues q [] (Err f)
stops p q dues f leads same asked absent failed later absences_later more few = record {
  leads = leads;
  same = same;
  asked = asked;
  absent = absent;
  failed = failed;
  later = later;
  absences_later = absences_later;
  more = more;
  few = few;
}

-- what is left does not matter at a fault
pub any_left : {A : Type 0} (p q : Point) (dues left other : List Due) (f : NameFault) → Went {A = A} p dues q left (Err f) → Went {A = A} p dues q other (Err f)
any_left p q dues left other f w = record {
  leads = w.leads;
  same = w.same;
  asked = w.asked;
  absent = w.absent;
  failed = w.failed;
  later = w.later;
  absences_later = w.absences_later;
  more = w.more;
  few = w.few;
}

pub stops_short : {A : Type 0} (p : Point) (dues : List Due) (f : NameFault) → f ≡ fault.Memory → length p.state.sources ≤ most_files → Went {A = A} p dues p [] (Err f)
stops_short {A} p dues f is few = subst (λ (g : NameFault). Went {A = A} p dues p [] (Err g)) (sym is)
    (stops p p dues fault.Memory (λ rest. walk.short p.state (dues ++ rest)) refl (none_asked p.asked p.state.sources) tt tt (omega arith) (omega arith) (omega arith) few)

pub steps_went : {A : Type 0} (p : Point) (file : ℕ) (steps : List Step) (after : Known) (r : Result A NameFault) → length p.state.sources ≤ most_files
    → IsRight after r (walked file p.state.known steps) → Went p (map (Pass file) steps) (at_state p (with_known p.state after)) [] r
steps_went p file steps after (Ok a) few h = record {
  leads = λ rest e w. pass_all p.held file p.state steps after rest e h w;
  same = refl;
  asked = none_asked p.asked p.state.sources;
  absent = tt;
  failed = tt;
  later = omega arith;
  absences_later = omega arith;
  more = omega arith;
  few = few;
}
steps_went {A} p file steps after (Err f) few h = by (is_memory f) refl
  where
    goal : NameFault → Type 0
    goal g = Went {A = A} p (map (Pass file) steps) (at_state p (with_known p.state after)) [] (Err g)

    by : (b : Bool) → is_memory f ≡ b → Went {A = A} p (map (Pass file) steps) (at_state p (with_known p.state after)) [] (Err f)
    by true is = subst (λ (g : NameFault). Went {A = A} p (map (Pass file) steps) (at_state p (with_known p.state after)) [] (Err g)) (sym (is_memory_is f is))
        (stops p (at_state p (with_known p.state after)) (map (Pass file) steps) fault.Memory (λ rest. walk.short p.state (map (Pass file) steps ++ rest)) refl
        (none_asked p.asked p.state.sources) tt tt (omega arith) (omega arith) (omega arith) few)
    by false is =
        let e : walked file p.state.known steps ≡ Err f = h is in
        let n : OfNames {A = Known} (Err f) = subst (λ (r : Result Known NameFault). OfNames r) e (walked_of_names file p.state.known steps) in
        stops p (at_state p (with_known p.state after)) (map (Pass file) steps) f (λ rest. pass_fault p.held file p.state steps f rest e) refl (none_asked p.asked p.state.sources)
        (names_absent p.absences p.absences f n) (names_failed p.faults p.faults f n) (omega arith) (omega arith) (omega arith) few

pub end_went : {A : Type 0} (p : Point) (file : ℕ) (t : Tree) (a : A) → length p.state.sources ≤ most_files → Went p (End file t ∷ []) (at_state p (with_ended p.state file t)) [] (Ok a)
end_went p file t a few = record {
  leads = λ rest e w. walk.ends p.state file t rest e w;
  same = refl;
  asked = none_asked p.asked p.state.sources;
  absent = tt;
  failed = tt;
  later = omega arith;
  absences_later = omega arith;
  more = omega arith;
  few = few;
}

-- what was answered at Ok does not matter
pub any_value : {A B : Type 0} (p q : Point) (dues left : List Due) (a : A) (b : B) → Went p dues q left (Ok a) → Went p dues q left (Ok b)
any_value p q dues left a b w = record {
  leads = w.leads;
  same = w.same;
  asked = w.asked;
  absent = tt;
  failed = tt;
  later = w.later;
  absences_later = w.absences_later;
  more = w.more;
  few = w.few;
}

-- ## Lists of items

module _ {X : Type 0} (F : List X → List Due) (D : X → List Due) (none : F [] ≡ []) (one : (x : X) (xs : List X) → F (x ∷ xs) ≡ D x ++ F xs) (xs : List X) where
  pub next_item : {A B : Type 0} (p q r : Point) (all : List Due) (i : ℕ) (x : X) (a : A) (result : Result B NameFault) → i < length xs → x ≡ get_or xs i x
      → Went p all q (F (drop i xs)) (Ok a) → Went q (D x) r [] result → Went p all r (F (drop (i + 1) xs)) result
  next_item {A} p q r all i x a result below is f g =
      let e : F (drop i xs) ≡ D x ++ F (drop (i + 1) xs) = ap F (drop_more xs i x below ∙ ap (λ y. y ∷ drop (i + 1) xs) (sym is)) ∙ one x (drop (i + 1) xs) in
      goes_on p q r all (D x) (F (drop (i + 1) xs)) a result (subst (λ (l : List Due). Went {A = A} p all q l (Ok a)) e f) g

  pub no_item : {A : Type 0} (p q : Point) (all : List Due) (i : ℕ) (a : A) → length xs ≤ i → Went p all q (F (drop i xs)) (Ok a) → Went p all q [] (Ok a)
  no_item {A} p q all i a past f = subst (λ (l : List Due). Went {A = A} p all q l (Ok a)) (ap F (drop_all i xs past) ∙ none) f

-- ## A file

-- what is due of a file after its attributes
abbrev pub behind_attributes : ℕ → Tree → List Due
behind_attributes file t = map (load_of file) (imports_of t) ++ (map (Pass file) (declaration_steps (eqb file 0) t) ++ End file t ∷ [])

pub all_is : (file : ℕ) (t : Tree) → all_of file t ≡ map (Pass file) (attribute_steps t.attributes) ++ behind_attributes file t
all_is file t =
    append_assoc (map (Pass file) (attribute_steps t.attributes) ++ map (load_of file) (imports_of t)) (map (Pass file) (declaration_steps (eqb file 0) t)) (End file t ∷ [])
    ∙ append_assoc (map (Pass file) (attribute_steps t.attributes)) (map (load_of file) (imports_of t)) (map (Pass file) (declaration_steps (eqb file 0) t) ++ End file t ∷ [])

pub attributes_went : {A : Type 0} (p : Point) (file : ℕ) (t : Tree) (r : Result A NameFault) → length p.state.sources ≤ most_files
    → IsRight p.state.known r (walked file p.state.known (attribute_steps t.attributes)) → Went p (all_of file t) p (behind_attributes file t) r
attributes_went p file t r few h =
    goes_on p p p (all_of file t) (map (Pass file) (attribute_steps t.attributes)) (behind_attributes file t) 0 r
    (subst (λ (l : List Due). Went {A = ℕ} p (all_of file t) p l (Ok 0)) (all_is file t) (at_first p (all_of file t) 0 few))
    (steps_went p file (attribute_steps t.attributes) p.state.known r few h)

abbrev pub behind_imports : ℕ → Tree → List Due
behind_imports file t = map (Pass file) (declaration_steps (eqb file 0) t) ++ End file t ∷ []

pub imports_went : {A B : Type 0} (p q : Point) (file : ℕ) (t : Tree) (strings : List Spelling) (a : A) (r : Result B NameFault) → strings ≡ imports_of t
    → Went p (all_of file t) p (behind_attributes file t) (Ok a) → Went p (map (load_of file) strings) q [] r → Went p (all_of file t) q (behind_imports file t) r
imports_went p q file t strings a r is f g =
    goes_on p p q (all_of file t) (map (load_of file) (imports_of t)) (behind_imports file t) a r f
    (subst (λ (l : List Spelling). Went p (map (load_of file) l) q [] r) is g)

pub exports_went : {A B : Type 0} (p q : Point) (file : ℕ) (t : Tree) (after : Known) (a : A) (r : Result B NameFault)
    → Went p (all_of file t) q (behind_imports file t) (Ok a) → IsRight after r (walked file q.state.known (declaration_steps (eqb file 0) t))
    → Went p (all_of file t) (at_state q (with_known q.state after)) (End file t ∷ []) r
exports_went p q file t after a r f h =
    goes_on p q (at_state q (with_known q.state after)) (all_of file t) (map (Pass file) (declaration_steps (eqb file 0) t)) (End file t ∷ []) a r f
    (steps_went q file (declaration_steps (eqb file 0) t) after r f.few h)

pub ended_went : {A B : Type 0} (p q : Point) (file : ℕ) (t : Tree) (files : List Ended) (a : A) (b : B) → files ≡ q.state.ended ++ ended file t ∷ []
    → Went p (all_of file t) q (End file t ∷ []) (Ok a) → Went p (all_of file t) (at_state q (record q.state { ended = files })) [] (Ok b)
ended_went {B = B} p q file t files a b is f =
    subst (λ (l : List Ended). Went {A = B} p (all_of file t) (at_state q (record q.state { ended = l })) [] (Ok b)) (sym is)
    (goes_on p q (at_state q (with_ended q.state file t)) (all_of file t) (End file t ∷ []) [] a (Ok b) f (end_went q file t b f.few))

pub unended_went : {A B : Type 0} (p q : Point) (file : ℕ) (t : Tree) (files : List Ended) (a : A) (f : NameFault) → f ≡ fault.Memory
    → Went p (all_of file t) q (End file t ∷ []) (Ok a) → Went {A = B} p (all_of file t) (at_state q (record q.state { ended = files })) [] (Err f)
unended_went {B = B} p q file t files a f is w =
    subst (λ (g : NameFault). Went {A = B} p (all_of file t) (at_state q (record q.state { ended = files })) [] (Err g)) (sym is)
    (goes_on p q (at_state q (record q.state { ended = files })) (all_of file t) (End file t ∷ []) [] a (Err fault.Memory) w
    (stops q (at_state q (record q.state { ended = files })) (End file t ∷ []) fault.Memory (λ rest. walk.short q.state (End file t ∷ rest)) refl (none_asked q.asked q.state.sources) tt tt
    (omega arith) (omega arith) (omega arith) w.few))

-- a fault that is passed on
pub passed_on : {A : Type 0} (p q : Point) (dues left : List Due) (r : Result A NameFault) (f : NameFault) → IsErrAnd r (λ y. y ≡ f) → Went {A = A} p dues q left (Err f) → Went p dues q [] r
passed_on p q dues left (Ok a) f h w = absurd h
passed_on {A} p q dues left (Err g) f h w = subst (λ (y : NameFault). Went {A = A} p dues q [] (Err y)) (sym h) (any_left p q dues left [] f w)

-- ## Lists of imports

abbrev pub loads : ℕ → List Spelling → List Due
loads file xs = map (load_of file) xs

abbrev pub loads_of : ℕ → List import.Import → List Due
loads_of file xs = map (load_of file) (flat_map (λ m. m.files) (map seen_import xs))

pub one_load : (file : ℕ) (x : Spelling) (xs : List Spelling) → loads file (x ∷ xs) ≡ (load_of file x ∷ []) ++ loads file xs
one_load file x xs = refl

pub one_import : (file : ℕ) (m : import.Import) (ms : List import.Import) → loads_of file (m ∷ ms) ≡ loads file m.files.items ++ loads_of file ms
one_import file m ms =
    ap (map (load_of file)) (flat_map-cons (λ x. x.files) (seen_import m) (map seen_import ms))
    ∙ map-append (load_of file) m.files.items (flat_map (λ x. x.files) (map seen_import ms))

-- ## An import

module _ (p : Point) (place : Place) (name : List ℕ) (few : length p.state.sources ≤ most_files) where
  pub again_went : {A : Type 0} (n : ℕ) (a : A) → file_number p.state.sources name ≡ Some n → has_ended p.state.ended n ≡ true → Went p (Load place name ∷ []) p [] (Ok a)
  again_went n a known done = record {
    leads = λ rest e w. walk.again p.state place name rest e n known done w;
    same = refl;
    asked = none_asked p.asked p.state.sources;
    absent = tt;
    failed = tt;
    later = omega arith;
    absences_later = omega arith;
    more = omega arith;
    few = few;
  }

  pub cycle_went : {A : Type 0} (n : ℕ) → file_number p.state.sources name ≡ Some n → has_ended p.state.ended n ≡ false
      → Went {A = A} p (Load place name ∷ []) p [] (Err (fault.ImportCycle place))
  cycle_went n known not_done =
      stops p p (Load place name ∷ []) (fault.ImportCycle place) (λ rest. walk.cycle p.state place name rest n known not_done) refl (none_asked p.asked p.state.sources) tt tt (omega arith)
      (omega arith) (omega arith) few

  pub too_many_went : {A : Type 0} → file_number p.state.sources name ≡ None → most_files ≤ length p.state.sources
      → Went {A = A} p (Load place name ∷ []) p [] (Err (fault.TooMany place))
  too_many_went new full =
      stops p p (Load place name ∷ []) (fault.TooMany place) (λ rest. walk.too_many p.state place name rest new full) refl (none_asked p.asked p.state.sources) tt tt (omega arith) (omega arith)
      (omega arith) few

  pub enters_went : {A : Type 0} (q r : Point) (e : Ended) (result : Result A NameFault) → file_number p.state.sources name ≡ None → length p.state.sources < most_files
      → IsLoaded p.state.language p.held p.state.sources name q.state.sources e → q.state.language ≡ p.state.language → q.state.ended ≡ p.state.ended → q.state.known ≡ p.state.known → q.held ≡ p.held
      → Asked p.asked p.state.sources q.asked q.state.sources → p.faults ≤ q.faults → p.absences ≤ q.absences → length p.state.sources ≤ length q.state.sources
      → Went q (all_of e.file e.tree) r [] result → Went p (Load place name ∷ []) r [] result
  enters_went {A} q r e result new room loaded language_is ended_is known_is held_is asked later absences_later more w =
      let first : Went {A = ℕ} p (Load place name ∷ []) q (all_of e.file e.tree ++ []) (Ok 0) = record {
        leads = λ rest x w. walk.enters p.state place name rest x loaded.text e.tree (record { new = new; room = room }) loaded.content loaded.read.is_file
            (subst (λ (d : List Due). Walk p.held (record { language = p.state.language; sources = and_source p.state.sources name loaded.text; ended = p.state.ended; known = p.state.known }) d x)
            (ap (λ n. all_of n e.tree ++ rest) loaded.read.number)
            (subst (λ (s : State). Walk p.held s (all_of e.file e.tree ++ rest) x) (same_state q.state loaded.text language_is loaded.read.sources ended_is known_is)
            (subst (λ (d : List Due). Walk p.held q.state d x) (ap (λ l. l ++ rest) (append-nil (all_of e.file e.tree))) w)));
        same = held_is;
        asked = asked;
        absent = tt;
        failed = tt;
        later = later;
        absences_later = absences_later;
        more = more;
        few = let k = w.few in let m = w.more in omega (arith, k, m);
      } in
      goes_on p q r (Load place name ∷ []) (all_of e.file e.tree) [] 0 result first w
    where
      same_state : (s : State) (text : List ℕ) → s.language ≡ p.state.language → s.sources ≡ and_source p.state.sources name text → s.ended ≡ p.state.ended → s.known ≡ p.state.known
          → s ≡ record { language = p.state.language; sources = and_source p.state.sources name text; ended = p.state.ended; known = p.state.known }
      same_state s text l a b c =
          ap (λ x. record { language = x; sources = s.sources; ended = s.ended; known = s.known }) l
          ∙ (ap (λ x. record { language = p.state.language; sources = x; ended = s.ended; known = s.known }) a
          ∙ (ap (λ x. record { language = p.state.language; sources = and_source p.state.sources name text; ended = x; known = s.known }) b
          ∙ ap (λ x. record { language = p.state.language; sources = and_source p.state.sources name text; ended = p.state.ended; known = x }) c))

-- ## The whole walk

pub all_went : {A : Type 0} (p q : Point) (all : List Due) (a : A) (s : State) → p.state ≡ s → Went p all q [] (Ok a) → Walk p.held s all (Done q.state)
all_went p q all a s is w =
    subst (λ (d : List Due). Walk p.held s d (Done q.state)) (append-nil all)
    (subst (λ (x : State). Walk p.held x (all ++ []) (Done q.state)) is (w.leads [] (Done q.state) (walk.all_done q.state)))

pub all_stopped : {A : Type 0} (p q : Point) (all : List Due) (f : NameFault) (s : State) → p.state ≡ s → Went {A = A} p all q [] (Err f) → Walk p.held s all (Stopped q.state.sources f)
all_stopped p q all f s is w =
    subst (λ (d : List Due). Walk p.held s d (Stopped q.state.sources f)) (append-nil all)
    (subst (λ (x : State). Walk p.held x (all ++ []) (Stopped q.state.sources f)) is (w.leads []))

-- where a walk stops, memory may be wanting as well
stopped_short : {held : Option (List ℕ → Option (List ℕ))} {s : State} {dues : List Due} {sources : List Source} {f : NameFault} → Walk held s dues (Stopped sources f)
    → Walk held s dues (Stopped sources fault.Memory)
stopped_short (walk.goes_on s file step k rest _ is w) = walk.goes_on s file step k rest _ is (stopped_short w)
stopped_short (walk.faults s file step f rest is) = walk.short s (Pass file step ∷ rest)
stopped_short (walk.ends s file t rest _ w) = walk.ends s file t rest _ (stopped_short w)
stopped_short (walk.cycle s place name rest n is not_done) = walk.short s (Load place name ∷ rest)
stopped_short (walk.again s place name rest _ n is done w) = walk.again s place name rest _ n is done (stopped_short w)
stopped_short (walk.too_many s place name rest new full) = walk.short s (Load place name ∷ rest)
stopped_short (walk.absent s place name rest due missing) = walk.short_in_load s place name rest due
stopped_short (walk.failed s place name rest due) = walk.short_in_load s place name rest due
stopped_short (walk.uncut s place name rest text at kind due content is) = walk.short_after_load s place name rest text due content
stopped_short (walk.no_file s place name rest text at f due content is) = walk.short_after_load s place name rest text due content
stopped_short (walk.enters s place name rest _ text t due content is w) = walk.enters s place name rest _ text t due content is (stopped_short w)
stopped_short (walk.short s rest) = walk.short s rest
stopped_short (walk.short_in_load s place name rest due) = walk.short_in_load s place name rest due
stopped_short (walk.short_after_load s place name rest text due content) = walk.short_after_load s place name rest text due content

all_short : {A : Type 0} (p q : Point) (all : List Due) (r : Result A NameFault) → Went p all q [] r → Walk p.held p.state (all ++ []) (Stopped q.state.sources fault.Memory)
all_short p q all (Ok a) w = w.leads [] (Stopped q.state.sources fault.Memory) (walk.short q.state [])
all_short p q all (Err f) w = stopped_short (w.leads [])

-- what was added is what is past the first
asked_past : {a b : List (List ℕ)} {s t : List Source} → Asked a s b t → b ≡ a ++ names_of (drop (length s) t)
asked_past {a} {b} {s} {t} h = h.asked_are ∙ ap (λ x. a ++ names_of x) (sym (ap (drop (length s)) h.sources_are ∙ drop-append_seam s h.added))

pub all_asked : {A : Type 0} (p q : Point) (all : List Due) (r : Result A NameFault) → Went p all q [] r
    → q.asked ≡ p.asked ++ names_of (drop (length p.state.sources) q.state.sources)
all_asked p q all r w = asked_past w.asked

pub asks_along : {A : Type 0} (p q : Point) (language : Language) (main : List Source) (t : Tree) (r : Result A NameFault) → p.state ≡ start language main → Went p (all_of 0 t) q [] r
    → AsksAlong language p.held main t p.asked q.asked
asks_along p q language main t r is w = record {
  reached = q.state.sources;
  walk = subst (λ (d : List Due). Walk p.held (start language main) d (Stopped q.state.sources fault.Memory)) (append-nil (all_of 0 t))
      (subst (λ (x : State). Walk p.held x (all_of 0 t ++ []) (Stopped q.state.sources fault.Memory)) is (all_short p q (all_of 0 t) r w));
  asked = subst (λ (l : List Source). q.asked ≡ p.asked ++ names_of (drop (length l) q.state.sources)) (ap (λ x. x.sources) is) (asked_past w.asked);
}

pub at_start : (language : Language) (main : List Source) (files : List Ended) (names : Known) → files ≡ [] → names ≡ nothing
    → ◌≡◌ {A = State} (record { language = language; sources = main; ended = files; known = names }) (start language main)
at_start language main files names e f =
    ap (λ x. record { language = language; sources = main; ended = x; known = names }) e
    ∙ ap (λ x. record { language = language; sources = main; ended = []; known = x }) f

pub at_error : {A : Type 0} (r : Result A NameFault) (f : NameFault) (P : NameFault → Type 0) → IsErrAnd r (λ y. y ≡ f) → P f → IfErr r P
at_error (Ok a) f P h x = tt
at_error (Err g) f P h x = subst P (sym h) x
