use Rattle.std.proofs.Common.{◌≤◌, length, sym, subst, arith}
use Rattle.nd_value.specs.Fitting.{setting_of}
use Rattle.text_grammar.specs.declared.TheConstants.{TEXT_LIMIT}
use Rattle.text_grammar.specs.Dues.{nothing_read}
use Rattle.text_grammar.specs.Reads.{IsFault}
use Rattle.text_parser.proofs.TextAnswers.{left_within, is_refused, only_graph, only_memory}
use Rattle.nd_grammar.proofs.LegalSides.{interface_side as legal_side}
use Rattle.nd_lemmas.proofs.Lists.{item_at as item_there}
use Rattle.text_parser.proofs.texts.read_text.Goals as goal

pub fault_of-requires-clause-within : goal.fault_of-requires-clause-within
fault_of-requires-clause-within c =
    let (o, there) = item_there c.args.interface.now.operations c.args.op c.requires.known in
    left_within c.args.interface.now.types (nothing_read (setting_of c.args.interface.now o c.args.side)) c.args.text.now c.in-Err.stop (c.in-Err.ensures.err o there)

pub returns-in-Err-clause-refused : goal.returns-in-Err-clause-refused
returns-in-Err-clause-refused c o there =
    let short : length c.args.text.now ≤ TEXT_LIMIT = omega (arith, c.if-text.false) in
    subst (IsFault (setting_of c.args.interface.now o c.args.side) c.args.text.now) (sym c.fault_of.ensures)
    (is_refused (setting_of c.args.interface.now o c.args.side) (legal_side c.args.interface.now c.args.op o c.args.side there) c.args.text.now short c.in-Err.stop (c.in-Err.ensures.err o there))

pub returns-in-Ok-clause-only : goal.returns-in-Ok-clause-only
returns-in-Ok-clause-only c o g there reads =
    let short : length c.args.text.now ≤ TEXT_LIMIT = omega (arith, c.if-text.false) in
    only_graph (setting_of c.args.interface.now o c.args.side) (legal_side c.args.interface.now c.args.op o c.args.side there) c.args.text.now short c.in-Ok.graph g (c.in-Ok.ensures.ok o there) reads

pub returns-in-Err-clause-only : goal.returns-in-Err-clause-only
returns-in-Err-clause-only c o g there reads = only_memory (setting_of c.args.interface.now o c.args.side) c.args.text.now g c.fault_of.result reads (returns-in-Err-clause-refused c o there)
