use Rattle.std.proofs.Common.{◌≡◌, length, sym, ap, subst, arith, ◌∙◌, Result}
use Rattle.std.proofs.lemmas.List.{length-map}
use Rattle.idl_grammar.specs.Text.{Text, IsFormed}
use Rattle.idl_grammar.specs.ReadPhrases.{Fault}
use Rattle.idl_tokens.specs.Lexemes.{text_of}
use Rattle.acf_reader.specs.Answers.{IsAnswer, acf_answer}
use Rattle.acf_reader.specs.Symbols.{lexemes, lexeme_of}
use Rattle.acf_reader.specs.Grammar as tree
use Rattle.acf_reader.proofs.AcfLaws.{acf_answered, acf_answered_alone, lexemes_real}
use Rattle.acf_reader.proofs.Answered.{told_for}
use Rattle.acf_reader.proofs.reading.read_acf.Goals as goal

pub new-parser-requires : goal.new-parser-requires
new-parser-requires c = subst IsFormed (ap text_of (sym c.deref.ensures.value)) c.in_ok-list.ensures.formed

pub answer-requires : goal.answer-requires
answer-requires c =
    let e : c.new-parser.result ≡ lexemes c.args.tokens.now = c.new-parser.ensures ∙ (ap text_of c.deref.ensures.value ∙ c.in_ok-list.ensures.text) in
    let n : length (lexemes c.args.tokens.now) ≡ length c.args.tokens.now.tokens = length-map c.args.tokens.now.tokens (lexeme_of c.args.tokens.now.text) in
    let g : length c.new-parser.result ≡ length c.args.tokens.now.tokens = ap (λ (x : Text). length x) e ∙ n in
    omega (arith, g, c.count-count.ensures.count, c.count-count.type_inv)

pub returns-clause-answer : goal.returns-clause-answer
returns-clause-answer c =
    let t : Text = lexemes c.args.tokens.now in
    let e : c.new-parser.result ≡ t = c.new-parser.ensures ∙ (ap text_of c.deref.ensures.value ∙ c.in_ok-list.ensures.text) in
    told_for (λ a. acf_answer c.new-parser.result ≡ a) (IsAnswer t)
    (λ v h. subst (λ (w : Result tree.Acf Fault). IsAnswer t w) (ap (λ (x : Text). acf_answer x) (sym e) ∙ h) (acf_answered t (lexemes_real c.args.tokens.now)))
    c.answer.result c.answer.ensures

pub returns-clause-only : goal.returns-clause-only
returns-clause-only c v right =
    let t : Text = lexemes c.args.tokens.now in
    let e : c.new-parser.result ≡ t = c.new-parser.ensures ∙ (ap text_of c.deref.ensures.value ∙ c.in_ok-list.ensures.text) in
    told_for (λ a. acf_answer c.new-parser.result ≡ a) (λ a. v ≡ a)
    (λ w h. acf_answered_alone t (lexemes_real c.args.tokens.now) v right ∙ (ap (λ (x : Text). acf_answer x) (sym e) ∙ h))
    c.answer.result c.answer.ensures
