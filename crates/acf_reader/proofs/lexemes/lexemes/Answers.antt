use Rattle.std.proofs.Common.{refl, sym, ap, subst, ◌∙◌, map, List}
use Rattle.std.proofs.lemmas.List.{map_push}
use Rattle.idl_tokens.specs.declared.lexemes.Lexeme.{Lexeme}
use Rattle.idl_tokens.specs.Lexemes.{text_of, seen_lexeme}
use Rattle.acf_reader.specs.FromIdl.{lexeme_from}
use Rattle.idl_grammar.specs.Text.{IsFormed}
use Rattle.acf_reader.proofs.Formed.{formed_from}
use Rattle.acf_reader.proofs.FromIdl.{lexemes_from, one_more, none_left}
use Rattle.acf_reader.proofs.lexemes.lexemes.Goals as goal

pub loop-lexeme-init : goal.loop-lexeme-init
loop-lexeme-init c = rw c.in_ok-list.ensures.items refl

pub loop-lexeme-preserved : goal.loop-lexeme-preserved
loop-lexeme-preserved c =
    rw (ap text_of c.in_ok-push.ensures.items ∙ map_push seen_lexeme c.loop-lexeme.list.items _)
    (one_more _ c.loop-lexeme.lexeme-index _ c.loop-lexeme-test.true (text_of c.loop-lexeme.list.items) c.own_symbol.result c.own_symbol.ensures c.loop-lexeme.invariant)

pub returns-clause-text : goal.returns-clause-text
returns-clause-text c =
    sym (none_left _ c.loop-lexeme.lexeme-index (text_of c.loop-lexeme.list.items) c.loop-lexeme-test.false c.loop-lexeme.invariant)
    ∙ (ap (λ (all : List Lexeme). map lexeme_from (text_of all)) c.deref-lexeme-items.ensures.value ∙ (ap (map lexeme_from) c.in_ok-in_idl.ensures.text ∙ lexemes_from c.args.tokens.now))

pub returns-clause-formed : goal.returns-clause-formed
returns-clause-formed c =
    let text_is = sym (none_left _ c.loop-lexeme.lexeme-index (text_of c.loop-lexeme.list.items) c.loop-lexeme-test.false c.loop-lexeme.invariant)
    ∙ ap (λ (all : List Lexeme). map lexeme_from (text_of all)) c.deref-lexeme-items.ensures.value in
    subst IsFormed (sym text_is) (formed_from _ c.in_ok-in_idl.ensures.formed)
