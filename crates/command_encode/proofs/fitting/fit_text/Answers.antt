use Rattle.std.proofs.Common.{option_map}
use Rattle.nd_value.specs.Fitting.{setting_beside}
use Rattle.command_encode.proofs.Fitted.{read_is, text_refused, fault_is}
use Rattle.command_encode.proofs.Beside.{reads_beside}
use Rattle.command_encode.proofs.fitting.fit_text.Goals as goal

pub returns-in-Ok-clause-read : goal.returns-in-Ok-clause-read
returns-in-Ok-clause-read c o there =
    let q = option_map (λ f. f.now.graph) c.args.given in
    read_is c.args.interface.now o c.args.side q c.args.text.now c.in-Ok.graph c.args.op (c.in-Ok.ensures.read o there) c.fit_graph.result c.fit_graph.ensures.fits

pub returns-in-Ok-clause-refused : goal.returns-in-Ok-clause-refused
returns-in-Ok-clause-refused c o there =
    let i = c.args.interface.now in
    let q = option_map (λ f. f.now.graph) c.args.given in
    text_refused (setting_beside i o c.args.side q) c.args.text.now c.in-Ok.graph (reads_beside i o c.args.side _ q c.args.text.now c.in-Ok.graph (c.in-Ok.ensures.read o there))
    c.fit_graph.result (c.fit_graph.ensures.refused o there)

pub returns-in-Err-clause-refused : goal.returns-in-Err-clause-refused
returns-in-Err-clause-refused c o there =
    let i = c.args.interface.now in
    let q = option_map (λ f. f.now.graph) c.args.given in
    c.text_refused.ensures (setting_beside i o c.args.side q) c.args.text.now
    (fault_is i o c.args.side q c.args.text.now c.in-Err.fault (c.in-Err.ensures.refused o there))
