use Rattle.std.proofs.Common.{sym, ◌∙◌, arith}
use Rattle.std.specs.Prelude.{slice_range}
use Rattle.idl_lexer.proofs.Cuts.{uuid_cut, longest_word, longest_number, word_cut, number_cut, placed, refused_as, long_name, bad_number, some_number}
use Rattle.idl_lexer.proofs.cut.cut_run.Goals as goal

pub returns-then-uuid_stands : goal.returns-then-uuid_stands
returns-then-uuid_stands c = placed _ _ _ _ _ c.token.ensures (uuid_cut c.args.text.now c.args.from (c.uuid_stands.ensures.found c.if-uuid_stands.true))

pub returns-then-to-from-gt-WORD_LIMIT : goal.returns-then-to-from-gt-WORD_LIMIT
returns-then-to-from-gt-WORD_LIMIT c =
    let r = c.run_end-to.ensures in
    refused_as _ _ _ _ _ c.refuse.ensures
    (long_name c.args.text.now c.args.from c.run_end-to.result
    (longest_word c.args.text.now c.args.from c.run_end-to.result c.requires.within r.after r.within r.each r.stops (c.uuid_stands.ensures.none c.if-uuid_stands.false) c.requires.run
    (sym c.is_letter.ensures ∙ c.if-is_letter.true))
    c.if-to-from-gt-WORD_LIMIT.true)

pub returns-then-is_letter : goal.returns-then-is_letter
returns-then-is_letter c =
    let r = c.run_end-to.ensures in
    placed _ _ _ _ _ c.token-then-is_letter.ensures
    (word_cut c.args.text.now c.args.from c.run_end-to.result c.requires.within r.after r.within r.each r.stops (c.uuid_stands.ensures.none c.if-uuid_stands.false) c.requires.run
    (sym c.is_letter.ensures ∙ c.if-is_letter.true) (omega arith))

pub returns-in-Some : goal.returns-in-Some
returns-in-Some c =
    let r = c.run_end-to.ensures in
    placed _ _ _ _ _ c.token-in-Some.ensures
    (number_cut c.args.text.now c.args.from c.run_end-to.result c.requires.within r.after r.within r.each r.stops (c.uuid_stands.ensures.none c.if-uuid_stands.false) c.requires.run
    (sym c.is_letter.ensures ∙ c.if-is_letter.false)
    (some_number (slice_range c.args.text.now c.args.from c.run_end-to.result) _ c.in-Some.ensures))

pub returns-in-None : goal.returns-in-None
returns-in-None c =
    let r = c.run_end-to.ensures in
    refused_as _ _ _ _ _ c.refuse-in-None.ensures
    (bad_number c.args.text.now c.args.from c.run_end-to.result
    (longest_number c.args.text.now c.args.from c.run_end-to.result c.requires.within r.after r.within r.each r.stops (c.uuid_stands.ensures.none c.if-uuid_stands.false) c.requires.run
    (sym c.is_letter.ensures ∙ c.if-is_letter.false))
    c.in-None.ensures)
