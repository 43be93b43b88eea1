use Rattle.std.proofs.Common.{codes, decimal}
use Rattle.std.proofs.lemmas.Result.{on_ok_weaker}
use Rattle.text_grammar.specs.Written.{uuid_text}
use Rattle.text_printer.proofs.Identifiers.{five}
use Rattle.text_printer.proofs.forms.append_context.Goals as goal

pub returns : goal.returns
returns c =
    on_ok_weaker c.append-3.result
    (λ e. five c.args.text.now c.append.new.self c.append_count.new.text c.append-2.new.self c.append_uuid.new.text c.append-3.new.self
    (codes "ctx(") (decimal c.args.attributes) (codes ", ") (uuid_text c.args.id.now) (codes ")")
    c.in_ok-append.ensures.ok c.in_ok-append_count.ensures c.in_ok-append-2.ensures.ok c.in_ok-append_uuid.ensures e)
    c.append-3.ensures.ok
