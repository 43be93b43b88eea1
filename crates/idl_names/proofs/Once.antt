-- A walk has one ending, except when out of memory, where it is told which loads fail.
use Rattle.std.proofs.Common.{◌≡◌, ℕ, ◌<◌, ◌≤◌, Bool, true, false, refl, sym, ap, subst, ◌∙◌, arith, List, ◌++◌, length, Option, Some, None, option_map, Result, Ok, Err}
use Rattle.std.proofs.lemmas.Option.{same_Some}
use Rattle.nd_lemmas.proofs.Booleans.{clash}
use Rattle.idl_grammar.specs.ReadPhrases.{Fault, Syntax}
use Rattle.nd_base.specs.Over.{loaded, IsContent, IsMissing}
use Rattle.idl_lexer.specs.Verdict.{Lexed, place_of, IsVerdict, AreTokens, Cut, Refused}
use Rattle.idl_lexer.specs.declared.tokens.LexKind.{LexKind}
use Rattle.idl_lexer.specs.declared.tokens.Token.{Token}
use Rattle.idl_lexer.proofs.OneVerdict.{one_verdict}
use Rattle.idl_grammar.specs.declared.language.Language.{Language}
use Rattle.idl_grammar.specs.Text.{lexemes}
use Rattle.idl_grammar.specs.Tree.{Tree}
use Rattle.idl_grammar.specs.Answers.{file_answer}
use Rattle.idl_grammar.proofs.FileLaws.{file_answered_alone}
use Rattle.idl_grammar.proofs.RealTokens.{lexemes_real}
use Rattle.idl_grammar.specs.declared.fault.SyntaxFault.{SyntaxFault}
use Rattle.idl_grammar.specs.declared.fault.SyntaxFault.TheVariants as syntax
use Rattle.idl_scope.specs.declared.name_fault.NameFault.{NameFault}
use Rattle.idl_scope.specs.declared.name_fault.NameFault.TheVariants as fault
use Rattle.idl_names.specs.Walk.{IsRead, IsFile, IsNoFile, IsSyntaxFault, file_number, State, Due, Ending, Done, Stopped, Walk, most_files, with_known, with_source, all_of}
use Rattle.idl_scope.specs.Known.{has_ended, Known, passed}
use Rattle.idl_names.specs.Walk as walk
use Rattle.idl_names.specs.Decided.{is_decided, has_memory, FailsAs}
use Rattle.idl_names.proofs.Loads.{same_fault as same_errors}

-- ## Texts

one_text : (f : List ℕ → Option (List ℕ)) (name a b : List ℕ) → IsContent (Some f) name a → IsContent (Some f) name b → a ≡ b
one_text f name a b x y = same_Some _ _ (sym x ∙ y)

pub same_tokens : (a b : List Token) → Cut a ≡ Cut b → a ≡ b
same_tokens a b e = cc

one_lexed : (text : List ℕ) (l m : Lexed) → l.text ≡ text → m.text ≡ text → AreTokens text l.tokens → AreTokens text m.tokens → l ≡ m
one_lexed text l m a b x y =
    let e : l.tokens ≡ m.tokens = same_tokens l.tokens m.tokens (one_verdict text (Cut m.tokens) (Cut l.tokens) y x) in
    ap (λ (t : List ℕ). record { text = t; tokens = l.tokens }) (a ∙ sym b) ∙ ap (λ (ts : List Token). record { text = m.text; tokens = ts }) e

pub one_answer : (language : Language) (text : List ℕ) (l m : Lexed) (a b : Result Tree Fault) → IsRead language text l a → IsRead language text m b → a ≡ b
one_answer language text l m a b x y =
    let e : l ≡ m = one_lexed text l m x.text_is y.text_is x.tokens y.tokens in
    let p : a ≡ file_answer 64 129 (lexemes language l) = file_answered_alone 64 129 (omega arith) (omega arith) (lexemes language l) (lexemes_real language l) a x.answered in
    let q : b ≡ file_answer 64 129 (lexemes language m) = file_answered_alone 64 129 (omega arith) (omega arith) (lexemes language m) (lexemes_real language m) b y.answered in
    p ∙ (ap (λ (n : Lexed). file_answer 64 129 (lexemes language n)) e ∙ sym q)

one_syntax : (f g : SyntaxFault) (j k : ℕ) (a b : Fault) → IsSyntaxFault f j a → IsSyntaxFault g k b → a ≡ b → (f ≡ g) × (j ≡ k)
one_syntax syntax.Memory g j k a b x y e = absurd x
one_syntax f syntax.Memory j k a b x y e = absurd y
one_syntax (syntax.Syntax m) (syntax.Syntax n) j k a b x y e = (cc, cc)
one_syntax (syntax.Syntax m) (syntax.Deep n) j k a b x y e = absurd (cc)
one_syntax (syntax.Syntax m) (syntax.Banned n) j k a b x y e = absurd (cc)
one_syntax (syntax.Deep m) (syntax.Syntax n) j k a b x y e = absurd (cc)
one_syntax (syntax.Deep m) (syntax.Deep n) j k a b x y e = (cc, cc)
one_syntax (syntax.Deep m) (syntax.Banned n) j k a b x y e = absurd (cc)
one_syntax (syntax.Banned m) (syntax.Syntax n) j k a b x y e = absurd (cc)
one_syntax (syntax.Banned m) (syntax.Deep n) j k a b x y e = absurd (cc)
one_syntax (syntax.Banned m) (syntax.Banned n) j k a b x y e = (cc, cc)

same_trees : (a b : Tree) → ◌≡◌ {A = Result Tree Fault} (Ok a) (Ok b) → a ≡ b
same_trees a b e = cc

no_clash : {B : Type 0} (a : Tree) (b : Fault) → ◌≡◌ {A = Result Tree Fault} (Ok a) (Err b) → B
no_clash a b e = absurd (cc)

pub one_tree : (language : Language) (text : List ℕ) (a b : Tree) → IsFile language text a → IsFile language text b → a ≡ b
one_tree language text a b x y = same_trees a b (one_answer language text x.lexed y.lexed (Ok a) (Ok b) x.read y.read)

one_fault : (language : Language) (text : List ℕ) (at at' : ℕ) (f f' : SyntaxFault) → IsNoFile language text at f → IsNoFile language text at' f' → (f ≡ f') × (at ≡ at')
one_fault language text at at' f f' x y =
    let told : x.told ≡ y.told = same_errors x.told y.told (one_answer language text x.lexed y.lexed (Err x.told) (Err y.told) x.read y.read) in
    let same = one_syntax f f' x.token y.token x.told y.told x.is_told y.is_told told in
    let lexed : x.lexed ≡ y.lexed = one_lexed text x.lexed y.lexed x.read.text_is y.read.text_is x.read.tokens y.read.tokens in
    (same.0, x.octet ∙ (ap (λ (l : Lexed). place_of l x.token) lexed ∙ (ap (λ (k : ℕ). place_of y.lexed k) same.1 ∙ sym y.octet)))

one_refusal : (text : List ℕ) (at at' : ℕ) (kind kind' : LexKind) → IsVerdict text (Refused at kind) → IsVerdict text (Refused at' kind') → Refused at kind ≡ Refused at' kind'
one_refusal text at at' kind kind' x y = sym (one_verdict text (Refused at kind) (Refused at' kind') x y)

cut_or_refused : {B : Type 0} (text : List ℕ) (at : ℕ) (kind : LexKind) (tokens : List Token) → IsVerdict text (Refused at kind) → AreTokens text tokens → B
cut_or_refused text at kind tokens x y = let e : Refused at kind ≡ Cut tokens = one_verdict text (Cut tokens) (Refused at kind) y x in absurd (cc)

file_or_fault : {B : Type 0} (language : Language) (text : List ℕ) (at : ℕ) (f : SyntaxFault) (t : Tree) → IsFile language text t → IsNoFile language text at f → B
file_or_fault language text at f t x y = no_clash t y.told (one_answer language text x.lexed y.lexed (Ok t) (Err y.told) x.read y.read)

known_or_new : {B : Type 0} (n : ℕ) (o : Option ℕ) → o ≡ Some n → o ≡ None → B
known_or_new n o e h = absurd (cc)

room_or_full : {B : Type 0} (n : ℕ) → n < most_files → most_files ≤ n → B
room_or_full n a b = absurd (omega (arith, a, b))

ended_or_not : {B : Type 0} (n m : ℕ) (o : Option ℕ) (test : ℕ → Bool) → o ≡ Some n → o ≡ Some m → test n ≡ true → test m ≡ false → B
ended_or_not n m o test e h x y = let s : n ≡ m = same_Some _ _ (sym e ∙ h) in absurd (cc)

same_known : (a b : Known) (r : Result Known NameFault) → r ≡ Ok a → r ≡ Ok b → a ≡ b
same_known a b r e h = cc

same_fault : (a b : NameFault) (r : Result Known NameFault) → r ≡ Err a → r ≡ Err b → a ≡ b
same_fault a b r e h = cc

passes_or_not : {B : Type 0} (a : Known) (b : NameFault) (r : Result Known NameFault) → r ≡ Ok a → r ≡ Err b → B
passes_or_not a b r e h = absurd (cc)

missing_or_held : {B : Type 0} (f : List ℕ → Option (List ℕ)) (name text : List ℕ) → IsMissing (Some f) name → IsContent (Some f) name text → B
missing_or_held f name text m c = let e : ◌≡◌ {A = Option (List ℕ)} None (Some text) = sym (ap (option_map loaded) m) ∙ c in absurd (cc)

pub undecided : {B : Type 0} → false ≡ true → B
undecided e = absurd (cc)

-- ## Walks

-- a walk with these failed loads
abbrev Told : (List ℕ → Bool) → Option (List ℕ → Option (List ℕ)) → State → List Due → Ending → Type 0
Told fails held s dues e = (w : Walk held s dues e) × FailsAs fails w

module _ (f : List ℕ → Option (List ℕ)) (fails : List ℕ → Bool) where
  pub one_told_ending : {s : State} {dues : List Due} {a b : Ending} → has_memory a ≡ true → has_memory b ≡ true → (v : Walk (Some f) s dues a) (w : Walk (Some f) s dues b)
      → FailsAs fails v → FailsAs fails w → a ≡ b
  one_told_ending p q (walk.all_done s) (walk.all_done _) fv fw = refl
  one_told_ending p q (walk.goes_on s file step k rest e h w) (walk.goes_on _ _ _ n _ x g v) fv fw =
      let u : Told fails (Some f) (with_known s k) rest x = subst (λ (m : Known). Told fails (Some f) (with_known s m) rest x) (same_known n k (passed file s.known step) g h) (v, fw) in
      one_told_ending p q w u.0 fv u.1
  one_told_ending p q (walk.goes_on s file step k rest e h w) (walk.faults _ _ _ n _ g) fv fw = passes_or_not k n (passed file s.known step) h g
  one_told_ending p q (walk.faults s file step n rest h) (walk.goes_on _ _ _ k _ x g v) fv fw = passes_or_not k n (passed file s.known step) g h
  one_told_ending p q (walk.faults s file step n rest h) (walk.faults _ _ _ m _ g) fv fw = ap (λ (x : NameFault). Stopped s.sources x) (same_fault n m (passed file s.known step) h g)
  one_told_ending p q (walk.ends s file t rest e w) (walk.ends _ _ _ _ x v) fv fw = one_told_ending p q w v fv fw
  one_told_ending p q (walk.cycle s place name rest n h d) (walk.cycle _ _ _ _ m g c) fv fw = refl
  one_told_ending p q (walk.cycle s place name rest n h d) (walk.again _ _ _ _ x m g c v) fv fw = ended_or_not m n (file_number s.sources name) (λ k. has_ended s.ended k) g h c d
  one_told_ending p q (walk.cycle s place name rest n h d) (walk.too_many _ _ _ _ g c) fv fw = known_or_new n (file_number s.sources name) h g
  one_told_ending p q (walk.cycle s place name rest n h d) (walk.uncut _ _ _ _ text at kind due c v) fv fw = known_or_new n (file_number s.sources name) h due.new
  one_told_ending p q (walk.cycle s place name rest n h d) (walk.no_file _ _ _ _ text at g due c v) fv fw = known_or_new n (file_number s.sources name) h due.new
  one_told_ending p q (walk.cycle s place name rest n h d) (walk.enters _ _ _ _ x text t due c g v) fv fw = known_or_new n (file_number s.sources name) h due.new
  one_told_ending p q (walk.again s place name rest e n h d w) (walk.cycle _ _ _ _ m g c) fv fw = ended_or_not n m (file_number s.sources name) (λ k. has_ended s.ended k) h g d c
  one_told_ending p q (walk.again s place name rest e n h d w) (walk.again _ _ _ _ x m g c v) fv fw = one_told_ending p q w v fv fw
  one_told_ending p q (walk.again s place name rest e n h d w) (walk.too_many _ _ _ _ g c) fv fw = known_or_new n (file_number s.sources name) h g
  one_told_ending p q (walk.again s place name rest e n h d w) (walk.uncut _ _ _ _ text at kind due c v) fv fw = known_or_new n (file_number s.sources name) h due.new
  one_told_ending p q (walk.again s place name rest e n h d w) (walk.no_file _ _ _ _ text at g due c v) fv fw = known_or_new n (file_number s.sources name) h due.new
  one_told_ending p q (walk.again s place name rest e n h d w) (walk.enters _ _ _ _ x text t due c g v) fv fw = known_or_new n (file_number s.sources name) h due.new
  one_told_ending p q (walk.too_many s place name rest h d) (walk.cycle _ _ _ _ m g c) fv fw = known_or_new m (file_number s.sources name) g h
  one_told_ending p q (walk.too_many s place name rest h d) (walk.again _ _ _ _ x m g c v) fv fw = known_or_new m (file_number s.sources name) g h
  one_told_ending p q (walk.too_many s place name rest h d) (walk.too_many _ _ _ _ g c) fv fw = refl
  one_told_ending p q (walk.too_many s place name rest h d) (walk.uncut _ _ _ _ text at kind due c v) fv fw = room_or_full (length s.sources) due.room d
  one_told_ending p q (walk.too_many s place name rest h d) (walk.no_file _ _ _ _ text at g due c v) fv fw = room_or_full (length s.sources) due.room d
  one_told_ending p q (walk.too_many s place name rest h d) (walk.enters _ _ _ _ x text t due c g v) fv fw = room_or_full (length s.sources) due.room d
  one_told_ending p q (walk.uncut s place name rest text at kind due c w) (walk.cycle _ _ _ _ m g d) fv fw = known_or_new m (file_number s.sources name) g due.new
  one_told_ending p q (walk.uncut s place name rest text at kind due c w) (walk.again _ _ _ _ x m g d v) fv fw = known_or_new m (file_number s.sources name) g due.new
  one_told_ending p q (walk.uncut s place name rest text at kind due c w) (walk.too_many _ _ _ _ g d) fv fw = room_or_full (length s.sources) due.room d
  one_told_ending p q (walk.uncut s place name rest text at kind due c w) (walk.uncut _ _ _ _ other at' kind' due' d v) fv fw =
      let e : other ≡ text = one_text f name other text d c in
      let r : Refused at kind ≡ Refused at' kind' = one_refusal text at at' kind kind' w (subst (λ (l : List ℕ). IsVerdict l (Refused at' kind')) e v) in
      cc
  one_told_ending p q (walk.uncut s place name rest text at kind due c w) (walk.no_file _ _ _ _ other at' g due' d v) fv fw =
      cut_or_refused other at kind v.lexed.tokens (subst (λ (l : List ℕ). IsVerdict l (Refused at kind)) (one_text f name text other c d) w) v.read.tokens
  one_told_ending p q (walk.uncut s place name rest text at kind due c w) (walk.enters _ _ _ _ x other t due' d g v) fv fw =
      cut_or_refused other at kind g.lexed.tokens (subst (λ (l : List ℕ). IsVerdict l (Refused at kind)) (one_text f name text other c d) w) g.read.tokens
  one_told_ending p q (walk.no_file s place name rest text at n due c w) (walk.cycle _ _ _ _ m g d) fv fw = known_or_new m (file_number s.sources name) g due.new
  one_told_ending p q (walk.no_file s place name rest text at n due c w) (walk.again _ _ _ _ x m g d v) fv fw = known_or_new m (file_number s.sources name) g due.new
  one_told_ending p q (walk.no_file s place name rest text at n due c w) (walk.too_many _ _ _ _ g d) fv fw = room_or_full (length s.sources) due.room d
  one_told_ending p q (walk.no_file s place name rest text at n due c w) (walk.uncut _ _ _ _ other at' kind due' d v) fv fw =
      cut_or_refused text at' kind w.lexed.tokens (subst (λ (l : List ℕ). IsVerdict l (Refused at' kind)) (one_text f name other text d c) v) w.read.tokens
  one_told_ending p q (walk.no_file s place name rest text at n due c w) (walk.no_file _ _ _ _ other at' m due' d v) fv fw =
      let e : other ≡ text = one_text f name other text d c in
      let r = one_fault s.language text at at' n m w (subst (λ (l : List ℕ). IsNoFile s.language l at' m) e v) in
      let r0 : n ≡ m = r.0 in
      let r1 : at ≡ at' = r.1 in
      cc
  one_told_ending p q (walk.no_file s place name rest text at n due c w) (walk.enters _ _ _ _ x other t due' d g v) fv fw =
      file_or_fault s.language other at n t g (subst (λ (l : List ℕ). IsNoFile s.language l at n) (one_text f name text other c d) w)
  one_told_ending p q (walk.enters s place name rest e text t due c h w) (walk.cycle _ _ _ _ m g d) fv fw = known_or_new m (file_number s.sources name) g due.new
  one_told_ending p q (walk.enters s place name rest e text t due c h w) (walk.again _ _ _ _ x m g d v) fv fw = known_or_new m (file_number s.sources name) g due.new
  one_told_ending p q (walk.enters s place name rest e text t due c h w) (walk.too_many _ _ _ _ g d) fv fw = room_or_full (length s.sources) due.room d
  one_told_ending p q (walk.enters s place name rest e text t due c h w) (walk.uncut _ _ _ _ other at' kind due' d v) fv fw =
      cut_or_refused text at' kind h.lexed.tokens (subst (λ (l : List ℕ). IsVerdict l (Refused at' kind)) (one_text f name other text d c) v) h.read.tokens
  one_told_ending p q (walk.enters s place name rest e text t due c h w) (walk.no_file _ _ _ _ other at' m due' d v) fv fw =
      file_or_fault s.language text at' m t h (subst (λ (l : List ℕ). IsNoFile s.language l at' m) (one_text f name other text d c) v)
  one_told_ending p q (walk.enters s place name rest e text t due c h w) (walk.enters _ _ _ _ x other u due' d g v) fv fw =
      let same : other ≡ text = one_text f name other text d c in
      let tree : u ≡ t = one_tree s.language text u t (subst (λ (l : List ℕ). IsFile s.language l u) same g) h in
      let told : Told fails (Some f) (with_source s name text) (all_of (length s.sources) t ++ rest) x =
      subst (λ (y : Tree). Told fails (Some f) (with_source s name text) (all_of (length s.sources) y ++ rest) x) tree
      (subst (λ (l : List ℕ). Told fails (Some f) (with_source s name l) (all_of (length s.sources) u ++ rest) x) same (v, fw.1)) in
      one_told_ending p q w told.0 fv.1 told.1
  one_told_ending p q (walk.cycle s place name rest n h d) (walk.absent _ _ _ _ due m) fv fw = known_or_new n (file_number s.sources name) h due.new
  one_told_ending p q (walk.again s place name rest e n h d w) (walk.absent _ _ _ _ due m) fv fw = known_or_new n (file_number s.sources name) h due.new
  one_told_ending p q (walk.too_many s place name rest h d) (walk.absent _ _ _ _ due m) fv fw = room_or_full (length s.sources) due.room d
  one_told_ending p q (walk.uncut s place name rest text at kind due c w) (walk.absent _ _ _ _ other m) fv fw = missing_or_held f name text m c
  one_told_ending p q (walk.no_file s place name rest text at n due c w) (walk.absent _ _ _ _ other m) fv fw = missing_or_held f name text m c
  one_told_ending p q (walk.enters s place name rest e text t due c h w) (walk.absent _ _ _ _ other m) fv fw = missing_or_held f name text m c
  one_told_ending p q (walk.absent s place name rest due m) (walk.cycle _ _ _ _ n g c) fv fw = known_or_new n (file_number s.sources name) g due.new
  one_told_ending p q (walk.absent s place name rest due m) (walk.again _ _ _ _ x n g c v) fv fw = known_or_new n (file_number s.sources name) g due.new
  one_told_ending p q (walk.absent s place name rest due m) (walk.too_many _ _ _ _ g c) fv fw = room_or_full (length s.sources) due.room c
  one_told_ending p q (walk.absent s place name rest due m) (walk.absent _ _ _ _ other n) fv fw = refl
  one_told_ending p q (walk.absent s place name rest due m) (walk.uncut _ _ _ _ text at kind other c v) fv fw = missing_or_held f name text m c
  one_told_ending p q (walk.absent s place name rest due m) (walk.no_file _ _ _ _ text at n other c v) fv fw = missing_or_held f name text m c
  one_told_ending p q (walk.absent s place name rest due m) (walk.enters _ _ _ _ x text t other c g v) fv fw = missing_or_held f name text m c
  one_told_ending p q (walk.failed s place name rest due) (walk.cycle _ _ _ _ n g c) fv fw = known_or_new n (file_number s.sources name) g due.new
  one_told_ending p q (walk.failed s place name rest due) (walk.again _ _ _ _ x n g c v) fv fw = known_or_new n (file_number s.sources name) g due.new
  one_told_ending p q (walk.failed s place name rest due) (walk.too_many _ _ _ _ g c) fv fw = room_or_full (length s.sources) due.room c
  one_told_ending p q (walk.failed s place name rest due) (walk.absent _ _ _ _ other m) fv fw = clash (fails name) fv fw
  one_told_ending p q (walk.failed s place name rest due) (walk.failed _ _ _ _ other) fv fw = refl
  one_told_ending p q (walk.failed s place name rest due) (walk.uncut _ _ _ _ text at kind other c v) fv fw = clash (fails name) fv fw
  one_told_ending p q (walk.failed s place name rest due) (walk.no_file _ _ _ _ text at n other c v) fv fw = clash (fails name) fv fw
  one_told_ending p q (walk.failed s place name rest due) (walk.enters _ _ _ _ x text t other c g v) fv fw = clash (fails name) fv fw.0
  one_told_ending p q (walk.cycle s place name rest n h d) (walk.failed _ _ _ _ due) fv fw = known_or_new n (file_number s.sources name) h due.new
  one_told_ending p q (walk.again s place name rest e n h d w) (walk.failed _ _ _ _ due) fv fw = known_or_new n (file_number s.sources name) h due.new
  one_told_ending p q (walk.too_many s place name rest h d) (walk.failed _ _ _ _ due) fv fw = room_or_full (length s.sources) due.room d
  one_told_ending p q (walk.absent s place name rest due m) (walk.failed _ _ _ _ other) fv fw = clash (fails name) fw fv
  one_told_ending p q (walk.uncut s place name rest text at kind due c w) (walk.failed _ _ _ _ other) fv fw = clash (fails name) fw fv
  one_told_ending p q (walk.no_file s place name rest text at n due c w) (walk.failed _ _ _ _ other) fv fw = clash (fails name) fw fv
  one_told_ending p q (walk.enters s place name rest e text t due c h w) (walk.failed _ _ _ _ other) fv fw = clash (fails name) fw fv.0
  one_told_ending p q (walk.short s rest) v fv fw = undecided p
  one_told_ending p q (walk.short_in_load s place name rest due) v fv fw = undecided p
  one_told_ending p q (walk.short_after_load s place name rest text due c) v fv fw = undecided p
  one_told_ending p q w (walk.short s rest) fv fw = undecided q
  one_told_ending p q w (walk.short_in_load s place name rest due) fv fw = undecided q
  one_told_ending p q w (walk.short_after_load s place name rest text due c) fv fw = undecided q

-- ## Walks in which no load fails

decided_has_memory : (e : Ending) → is_decided e ≡ true → has_memory e ≡ true
decided_has_memory (Done s) h = refl
decided_has_memory (Stopped sources fault.Memory) h = undecided h
decided_has_memory (Stopped sources (fault.Failed file)) h = undecided h
decided_has_memory (Stopped sources _) h = refl

abbrev none_fails : List ℕ → Bool
none_fails name = false

none_failed : {held : Option (List ℕ → Option (List ℕ))} {s : State} {dues : List Due} {e : Ending} → is_decided e ≡ true → (w : Walk held s dues e) → FailsAs none_fails w
none_failed p (walk.all_done s) = tt
none_failed p (walk.goes_on s file step k rest e is w) = none_failed p w
none_failed p (walk.faults s file step n rest is) = tt
none_failed p (walk.ends s file t rest e w) = none_failed p w
none_failed p (walk.cycle s place name rest n h d) = tt
none_failed p (walk.again s place name rest e n h d w) = none_failed p w
none_failed p (walk.too_many s place name rest h d) = tt
none_failed p (walk.absent s place name rest due m) = refl
none_failed p (walk.failed s place name rest due) = undecided p
none_failed p (walk.uncut s place name rest text at kind due c w) = refl
none_failed p (walk.no_file s place name rest text at n due c w) = refl
none_failed p (walk.enters s place name rest e text t due c h w) = (refl, none_failed p w)
none_failed p (walk.short s rest) = tt
none_failed p (walk.short_in_load s place name rest due) = tt
none_failed p (walk.short_after_load s place name rest text due c) = tt

pub one_ending : (f : List ℕ → Option (List ℕ)) {s : State} {dues : List Due} {a b : Ending} → is_decided a ≡ true → is_decided b ≡ true
    → Walk (Some f) s dues a → Walk (Some f) s dues b → a ≡ b
one_ending f {a = a} {b = b} p q v w =
    one_told_ending f none_fails (decided_has_memory a p) (decided_has_memory b q) v w (none_failed p v) (none_failed q w)
