use Rattle.std.proofs.Common.{◌≡◌, ◌∙◌, sym, refl}
use Rattle.idl_tokens.proofs.Tables.{first_is, first_is_not, none_left}
use Rattle.idl_tokens.proofs.lexemes.among.Goals as goal

pub loop-entry-init : goal.loop-entry-init
loop-entry-init c = refl

pub returns-then-eq : goal.returns-then-eq
returns-then-eq c = sym (c.loop-entry.invariant ∙ first_is c.args.table.now c.loop-entry.entry-index _ c.args.otherwise c.args.octets.now c.loop-entry-test.true (sym c.eq.ensures ∙ c.if-eq.true))

pub loop-entry-preserved : goal.loop-entry-preserved
loop-entry-preserved c = c.loop-entry.invariant ∙ first_is_not c.args.table.now c.loop-entry.entry-index _ c.args.otherwise c.args.octets.now c.loop-entry-test.true (sym c.eq.ensures ∙ c.if-eq.false)

pub returns : goal.returns
returns c = sym (c.loop-entry.invariant ∙ none_left c.args.table.now c.loop-entry.entry-index c.args.otherwise c.args.octets.now c.loop-entry-test.false)
