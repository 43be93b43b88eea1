-- A text is an attribute configuration file of one tree, or is refused at one octet for one reason, and never both.
use Rattle.std.proofs.Common.{◌≡◌, ◌∙◌, ℕ, List, Result, Ok, Err, refl, sym, ap, ap₂}
use Rattle.idl_grammar.specs.ReadPhrases.{Fault}
use Rattle.idl_lexer.specs.declared.tokens.LexKind.{LexKind}
use Rattle.idl_lexer.specs.Verdict.{Lexed, place_of, IsVerdict, Cut, Refused}
use Rattle.idl_lexer.proofs.OneVerdict.{one_verdict}
use Rattle.idl_grammar.specs.declared.fault.SyntaxFault.{SyntaxFault}
use Rattle.idl_grammar.specs.declared.fault.SyntaxFault.TheVariants as syntax
use Rattle.acf_reader.specs.Symbols.{lexemes}
use Rattle.acf_reader.specs.Grammar.{Acf}
use Rattle.acf_reader.specs.Answers.{acf_answer}
use Rattle.acf_reader.proofs.AcfLaws.{acf_answered_alone, lexemes_real}
use Rattle.command_refusals.specs.declared.refusal.IdlReason.{IdlReason}
use Rattle.command_refusals.specs.declared.refusal.IdlReason.TheVariants as reason
use Rattle.command_compile.specs.Idl.{IsAcfRead, IsAcf, IsNoAcf, word_at, IsAcfFault}
use Rattle.command_compile.proofs.OneFile.{one_cut, fault_of, token_of, fault_is}
use Rattle.idl_names.proofs.Once.{same_tokens}

one_lexed : (text : List ℕ) (a b : Lexed) (u v : Result Acf Fault) → IsAcfRead text a u → IsAcfRead text b v → a ≡ b
one_lexed text a b u v x y =
    let t : a.text ≡ b.text = x.text_is ∙ sym y.text_is in
    let e : a.tokens ≡ b.tokens = same_tokens a.tokens b.tokens (one_verdict text (Cut b.tokens) (Cut a.tokens) y.tokens x.tokens) in
    made t e where
      made : a.text ≡ b.text → a.tokens ≡ b.tokens → ◌≡◌ {A = Lexed} (record { text = a.text; tokens = a.tokens }) (record { text = b.text; tokens = b.tokens })
      made p q = cc

abbrev answer_of : Lexed → Result Acf Fault
answer_of l = acf_answer (lexemes l)

alone : (text : List ℕ) (l : Lexed) (v : Result Acf Fault) → IsAcfRead text l v → v ≡ answer_of l
alone text l v r = acf_answered_alone (lexemes l) (lexemes_real l) v r.answered

one_answer : (text : List ℕ) (a b : Lexed) (u v : Result Acf Fault) → IsAcfRead text a u → IsAcfRead text b v → u ≡ v
one_answer text a b u v x y = alone text a u x ∙ ap answer_of (one_lexed text a b u v x y) ∙ sym (alone text b v y)

pub one_acf : (text : List ℕ) (t t' : Acf) → IsAcf text t → IsAcf text t' → t ≡ t'
one_acf text t t' x y =
    let e : ◌≡◌ {A = Result Acf Fault} (Ok t) (Ok t') = one_answer text x.lexed y.lexed (Ok t) (Ok t') x.read y.read in
    cc

one_no_acf : (text : List ℕ) (at : ℕ) (f : SyntaxFault) (at' : ℕ) (f' : SyntaxFault) → IsNoAcf text at f → IsNoAcf text at' f' → (at ≡ at') × (f ≡ f')
one_no_acf text at f at' f' x y =
    let e : ◌≡◌ {A = Result Acf Fault} (Err x.told) (Err y.told) = one_answer text x.lexed y.lexed (Err x.told) (Err y.told) x.read y.read in
    let told : x.told ≡ y.told = cc in
    let l : x.lexed ≡ y.lexed = one_lexed text x.lexed y.lexed (Err x.told) (Err y.told) x.read y.read in
    let p = fault_is f x.token x.told x.is_told in
    let q = fault_is f' y.token y.told y.is_told in
    let token : x.token ≡ y.token = p.1 ∙ ap token_of told ∙ sym q.1 in
    (x.octet ∙ ap₂ place_of l token ∙ sym y.octet, p.0 ∙ ap fault_of told ∙ sym q.0)

-- ## Reasons

-- the reason of a fault of tokens at an octet; none is that memory was wanting
abbrev reason_of : List ℕ → ℕ → SyntaxFault → IdlReason
reason_of text at syntax.Memory = reason.Syntax
reason_of text at (syntax.Syntax k) = reason.Syntax
reason_of text at (syntax.Deep k) = reason.Deep
reason_of text at (syntax.Banned k) = reason.Banned (word_at text at)

data Why (text : List ℕ) (at : ℕ) (why : IdlReason) : Type 0 where
  uncut : (kind : LexKind) → IsVerdict text (Refused at kind) → why ≡ reason.Lexical kind → Why text at why
  unread : (f : SyntaxFault) → IsNoAcf text at f → why ≡ reason_of text at f → Why text at why

why_of : (text : List ℕ) (at : ℕ) (why : IdlReason) → IsAcfFault text at why → Why text at why
why_of text at (reason.Lexical kind) x = uncut kind x refl
why_of text at reason.Syntax (k, x) = unread (syntax.Syntax k) x refl
why_of text at reason.Deep (k, x) = unread (syntax.Deep k) x refl
why_of text at (reason.Banned word) ((k, x), is) = unread (syntax.Banned k) x (ap reason.Banned is)
why_of text at (reason.Unknown name) x = absurd x
why_of text at (reason.Twice name) x = absurd x
why_of text at reason.ImportCycle x = absurd x
why_of text at reason.TooMany x = absurd x
why_of text at (reason.NoValue f) x = absurd x
why_of text at (reason.Rule rule) x = absurd x

never_uncut : {B : Type 0} (text : List ℕ) (at : ℕ) (kind : LexKind) (at' : ℕ) (f : SyntaxFault) → IsVerdict text (Refused at kind) → IsNoAcf text at' f → B
never_uncut text at kind at' f x y =
    let e : Refused at kind ≡ Cut y.lexed.tokens = one_verdict text (Cut y.lexed.tokens) (Refused at kind) y.read.tokens x in
    absurd (cc)

by_whys : (text : List ℕ) (at at' : ℕ) (why why' : IdlReason) → Why text at why → Why text at' why' → (at ≡ at') × (why ≡ why')
by_whys text at at' why why' (uncut kind x e) (uncut kind' y e') =
    let r = one_cut text at kind at' kind' x y in
    (r.0, e ∙ ap reason.Lexical r.1 ∙ sym e')
by_whys text at at' why why' (uncut kind x e) (unread f y e') = never_uncut text at kind at' f x y
by_whys text at at' why why' (unread f x e) (uncut kind y e') = never_uncut text at' kind at f y x
by_whys text at at' why why' (unread f x e) (unread f' y e') =
    let r = one_no_acf text at f at' f' x y in
    (r.0, e ∙ ap₂ (reason_of text) r.0 r.1 ∙ sym e')

-- a text has one fault
pub one_acf_fault : (text : List ℕ) (at at' : ℕ) (why why' : IdlReason) → IsAcfFault text at why → IsAcfFault text at' why' → (at ≡ at') × (why ≡ why')
one_acf_fault text at at' why why' x y = by_whys text at at' why why' (why_of text at why x) (why_of text at' why' y)

never_by_why : {B : Type 0} (text : List ℕ) (at : ℕ) (why : IdlReason) (t : Acf) → Why text at why → IsAcf text t → B
never_by_why text at why t (uncut kind x e) y =
    let never : Refused at kind ≡ Cut y.lexed.tokens = one_verdict text (Cut y.lexed.tokens) (Refused at kind) y.read.tokens x in
    absurd (cc)
never_by_why text at why t (unread f x e) y =
    let never : ◌≡◌ {A = Result Acf Fault} (Err x.told) (Ok t) = one_answer text x.lexed y.lexed (Err x.told) (Ok t) x.read y.read in
    absurd (cc)

-- a text with a fault is no attribute configuration file
pub never_acf : {B : Type 0} (text : List ℕ) (at : ℕ) (why : IdlReason) (t : Acf) → IsAcfFault text at why → IsAcf text t → B
never_acf text at why t x y = never_by_why text at why t (why_of text at why x) y
