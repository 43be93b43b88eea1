use Rattle.std.proofs.Common.{◌≡◌, ◌<◌, length, refl, sym, ap, subst, arith, ◌∙◌, Result}
use Rattle.std.proofs.lemmas.List.{length-map}
use Rattle.idl_grammar.specs.Text.{Text, lexemes, lexeme_of, IsFormed}
use Rattle.idl_grammar.specs.ReadPhrases.{Fault}
use Rattle.idl_grammar.specs.Answers.{Answers, file_answer}
use Rattle.idl_grammar.specs.Grammar.{file}
use Rattle.idl_grammar.specs.Tree as tree
use Rattle.idl_grammar.proofs.FileLaws.{file_answered, file_answered_alone}
use Rattle.idl_tokens.specs.Lexemes.{text_of}
use Rattle.idl_parser.proofs.Answered.{told_for}
use Rattle.idl_grammar.proofs.RealTokens.{lexemes_real}
use Rattle.idl_parser.proofs.parsing.parse.Goals as goal

pub new-parser-requires : goal.new-parser-requires
new-parser-requires c = subst IsFormed (ap text_of (sym c.deref.ensures.value)) c.in_ok-list.ensures.formed

pub answer-requires-clause-few : goal.answer-requires-clause-few
answer-requires-clause-few c =
    let e : c.new-parser.result ≡ lexemes c.args.language c.args.tokens.now = c.new-parser.ensures ∙ (ap text_of c.deref.ensures.value ∙ c.in_ok-list.ensures.text) in
    let n : length (lexemes c.args.language c.args.tokens.now) ≡ length c.args.tokens.now.tokens = length-map c.args.tokens.now.tokens (lexeme_of c.args.language c.args.tokens.now.text) in
    let g : length c.new-parser.result ≡ length c.args.tokens.now.tokens = ap (λ (x : Text). length x) e ∙ n in
    omega (arith, g, c.count-count.ensures.count, c.count-count.type_inv)

pub returns-clause-answer : goal.returns-clause-answer
returns-clause-answer c =
    let t : Text = lexemes c.args.language c.args.tokens.now in
    let e : c.new-parser.result ≡ t = c.new-parser.ensures ∙ (ap text_of c.deref.ensures.value ∙ c.in_ok-list.ensures.text) in
    told_for (λ a. file_answer c.fuel.result c.nesting.result c.new-parser.result ≡ a) (Answers file t)
    (λ v h. subst (λ (w : Result tree.Tree Fault). Answers file t w) (ap (λ (x : Text). file_answer c.fuel.result c.nesting.result x) (sym e) ∙ h)
    (file_answered c.fuel.result c.nesting.result c.nesting.ensures c.fuel.ensures t (lexemes_real c.args.language c.args.tokens.now)))
    c.answer.result c.answer.ensures

pub returns-clause-only : goal.returns-clause-only
returns-clause-only c v right =
    let t : Text = lexemes c.args.language c.args.tokens.now in
    let e : c.new-parser.result ≡ t = c.new-parser.ensures ∙ (ap text_of c.deref.ensures.value ∙ c.in_ok-list.ensures.text) in
    told_for (λ a. file_answer c.fuel.result c.nesting.result c.new-parser.result ≡ a) (λ a. v ≡ a)
    (λ w h. file_answered_alone c.fuel.result c.nesting.result c.nesting.ensures c.fuel.ensures t (lexemes_real c.args.language c.args.tokens.now) v right
    ∙ (ap (λ (x : Text). file_answer c.fuel.result c.nesting.result x) (sym e) ∙ h))
    c.answer.result c.answer.ensures
