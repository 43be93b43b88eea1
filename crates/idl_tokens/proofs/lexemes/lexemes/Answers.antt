use Rattle.std.proofs.Common.{◌≡◌, ◌≤◌, refl, sym, ap, subst, arith, ◌∙◌, ◌++◌, ◌∷◌, [], length, map, List, take}
use Rattle.std.proofs.lemmas.List.{map_push, take_all}
use Rattle.idl_grammar.specs.Text as phrases
use Rattle.idl_lexer.specs.declared.tokens.Token.{Token}
use Rattle.idl_grammar.specs.Text.{lexeme_of, lexemes, IsFormed}
use Rattle.idl_grammar.proofs.Formed.{lexemes_formed}
use Rattle.idl_tokens.specs.Lexemes.{text_of, seen_lexeme}
use Rattle.idl_tokens.proofs.Taken.{one_more}
use Rattle.idl_tokens.proofs.lexemes.lexemes.Goals as goal

pub loop-token-init : goal.loop-token-init
loop-token-init c = ap text_of c.in_ok-list.ensures.items

pub loop-token-preserved : goal.loop-token-preserved
loop-token-preserved c =
    let more =
    one_more c.args.language c.args.tokens.now c.loop-token.token c.symbol_of.result c.at.result c.kind.result c.text-octets.result.now
    c.kind.ensures c.text-octets.ensures c.at.ensures c.symbol_of.ensures in
    ap text_of c.in_ok-push.ensures.items
    ∙ (map_push seen_lexeme c.loop-token.list.items _
    ∙ (ap (λ (ls : List phrases.Lexeme). ls ++ (record { symbol = c.symbol_of.result; at = c.at.result; octets = c.text-octets.result.now }) ∷ []) c.loop-token.invariant ∙ sym more))

pub returns-clause-text : goal.returns-clause-text
returns-clause-text c =
    let whole : length c.args.tokens.now.tokens ≤ c.loop-token.token = omega (arith, c.count-token-end.ensures.count) in
    let text_is : text_of c.loop-token.list.items ≡ lexemes c.args.language c.args.tokens.now =
    c.loop-token.invariant ∙ ap (λ (ts : List Token). map (lexeme_of c.args.language c.args.tokens.now.text) ts) (take_all c.loop-token.token c.args.tokens.now.tokens whole) in
    text_is

pub returns-clause-formed : goal.returns-clause-formed
returns-clause-formed c =
    let whole : length c.args.tokens.now.tokens ≤ c.loop-token.token = omega (arith, c.count-token-end.ensures.count) in
    let text_is : text_of c.loop-token.list.items ≡ lexemes c.args.language c.args.tokens.now =
    c.loop-token.invariant ∙ ap (λ (ts : List Token). map (lexeme_of c.args.language c.args.tokens.now.text) ts) (take_all c.loop-token.token c.args.tokens.now.tokens whole) in
    subst IsFormed (sym text_is) (lexemes_formed c.args.language c.args.tokens.now c.count-token-end.ensures.formed)
