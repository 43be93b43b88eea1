-- A text is a file of one tree, or is refused at one octet for one fault, and never both.
use Rattle.std.proofs.Common.{◌≡◌, ◌∙◌, ℕ, List, Result, Ok, Err, sym, ap, ap₂, arith}
use Rattle.idl_grammar.specs.declared.language.Language.{Language}
use Rattle.idl_grammar.specs.Text.{Depth, Ban, lexemes}
use Rattle.idl_grammar.specs.ReadPhrases.{Fault, Syntax, Passes}
use Rattle.idl_lexer.specs.declared.tokens.LexKind.{LexKind}
use Rattle.idl_lexer.specs.Verdict.{Lexed, place_of, IsVerdict, Cut, Refused}
use Rattle.idl_lexer.proofs.OneVerdict.{one_verdict}
use Rattle.idl_grammar.specs.Tree.{Tree}
use Rattle.idl_grammar.specs.Answers.{file_answer}
use Rattle.idl_grammar.proofs.FileLaws.{file_answered_alone}
use Rattle.idl_grammar.proofs.RealTokens.{lexemes_real}
use Rattle.idl_grammar.specs.declared.fault.SyntaxFault.{SyntaxFault}
use Rattle.idl_grammar.specs.declared.fault.SyntaxFault.TheVariants as syntax
use Rattle.idl_names.specs.Walk.{IsRead, IsFile, IsNoFile, IsSyntaxFault}
use Rattle.idl_names.proofs.Once.{one_answer, same_tokens}

one_lexed : {language : Language} (text : List ℕ) (a b : Lexed) (u v : Result Tree Fault) → IsRead language text a u → IsRead language text b v → a ≡ b
one_lexed text a b u v x y =
    let t : a.text ≡ b.text = x.text_is ∙ sym y.text_is in
    let e : a.tokens ≡ b.tokens = same_tokens a.tokens b.tokens (one_verdict text (Cut b.tokens) (Cut a.tokens) y.tokens x.tokens) in
    made t e where
      made : a.text ≡ b.text → a.tokens ≡ b.tokens → ◌≡◌ {A = Lexed} (record { text = a.text; tokens = a.tokens }) (record { text = b.text; tokens = b.tokens })
      made p q = cc

abbrev answer_of : Language → Lexed → Result Tree Fault
answer_of language l = file_answer 64 129 (lexemes language l)

alone : (language : Language) (text : List ℕ) (l : Lexed) (v : Result Tree Fault) → IsRead language text l v → v ≡ answer_of language l
alone language text l v r = file_answered_alone 64 129 (omega arith) (omega arith) (lexemes language l) (lexemes_real language l) v r.answered

pub never_file : {B : Type 0} {language : Language} (text : List ℕ) (at : ℕ) (f : SyntaxFault) (t : Tree) → IsNoFile language text at f → IsFile language text t → B
never_file {language = language} text at f t x y =
    let e : ◌≡◌ {A = Result Tree Fault} (Err x.told) (Ok t) = one_answer language text x.lexed y.lexed (Err x.told) (Ok t) x.read y.read in
    absurd (cc)

abbrev pub fault_of : Fault → SyntaxFault
fault_of (Syntax k) = syntax.Syntax k
fault_of (Passes Depth k) = syntax.Deep k
fault_of (Passes Ban k) = syntax.Banned k

abbrev pub token_of : Fault → ℕ
token_of (Syntax k) = k
token_of (Passes rule k) = k

pub fault_is : (f : SyntaxFault) (token : ℕ) (told : Fault) → IsSyntaxFault f token told → (f ≡ fault_of told) × (token ≡ token_of told)
fault_is syntax.Memory token told h = absurd h
fault_is (syntax.Syntax k) token told h = (sym (ap fault_of h.1), h.0 ∙ sym (ap token_of h.1))
fault_is (syntax.Deep k) token told h = (sym (ap fault_of h.1), h.0 ∙ sym (ap token_of h.1))
fault_is (syntax.Banned k) token told h = (sym (ap fault_of h.1), h.0 ∙ sym (ap token_of h.1))

pub one_no_file : {language : Language} (text : List ℕ) (at : ℕ) (f : SyntaxFault) (at' : ℕ) (f' : SyntaxFault) → IsNoFile language text at f → IsNoFile language text at' f' → (at ≡ at') × (f ≡ f')
one_no_file {language} text at f at' f' x y =
    let e : ◌≡◌ {A = Result Tree Fault} (Err x.told) (Err y.told) = one_answer language text x.lexed y.lexed (Err x.told) (Err y.told) x.read y.read in
    let told : x.told ≡ y.told = cc in
    let l : x.lexed ≡ y.lexed = one_lexed text x.lexed y.lexed (Err x.told) (Err y.told) x.read y.read in
    let p = fault_is f x.token x.told x.is_told in
    let q = fault_is f' y.token y.told y.is_told in
    let token : x.token ≡ y.token = p.1 ∙ ap token_of told ∙ sym q.1 in
    (x.octet ∙ ap₂ place_of l token ∙ sym y.octet, p.0 ∙ ap fault_of told ∙ sym q.0)

pub one_cut : (text : List ℕ) (at : ℕ) (kind : LexKind) (at' : ℕ) (kind' : LexKind) → IsVerdict text (Refused at kind) → IsVerdict text (Refused at' kind')
    → (at ≡ at') × (kind ≡ kind')
one_cut text at kind at' kind' x y =
    let e : Refused at kind ≡ Refused at' kind' = one_verdict text (Refused at' kind') (Refused at kind) y x in
    let a : at ≡ at' = cc in
    let b : kind ≡ kind' = cc in
    (a, b)

pub never_cut : {B : Type 0} {language : Language} (text : List ℕ) (at : ℕ) (kind : LexKind) (t : Tree) → IsVerdict text (Refused at kind) → IsFile language text t → B
never_cut text at kind t x y =
    let e : Refused at kind ≡ Cut y.lexed.tokens = one_verdict text (Cut y.lexed.tokens) (Refused at kind) y.read.tokens x in
    absurd (cc)

pub never_uncut : {B : Type 0} {language : Language} (text : List ℕ) (at : ℕ) (kind : LexKind) (at' : ℕ) (f : SyntaxFault) → IsVerdict text (Refused at kind) → IsNoFile language text at' f → B
never_uncut text at kind at' f x y =
    let e : Refused at kind ≡ Cut y.lexed.tokens = one_verdict text (Cut y.lexed.tokens) (Refused at kind) y.read.tokens x in
    absurd (cc)
