use Rattle.std.proofs.Common.{Option, ap, option_map, subst}
use Rattle.nd_value.specs.Seen.{tree_of}
use Rattle.nd_value.specs.Setting.{or_unread}
use Rattle.nd_value.specs.Tree.{Tree}
use Rattle.text_printer.specs.Steps.{HasPath}
use Rattle.std.proofs.lemmas.Result.{IfOk-weaker}
use Rattle.text_printer.proofs.HomePaths.{unread_path}
use Rattle.text_printer.proofs.paths.append_root_steps.Goals as goal

pub returns-in-Some : goal.returns-in-Some
returns-in-Some c =
    IfOk-weaker c.append_steps.result _ _
    (λ x steps p h.
    steps p (subst (λ (o : Option Tree). HasPath c.args.types.now c.args.of.0 c.args.text.now (or_unread o) c.args.node p) (ap (option_map (λ v. tree_of v.now)) c.in-Some.is) h))
    c.append_steps.ensures

pub returns-in-None : goal.returns-in-None
returns-in-None c p h =
    unread_path c.args.types.now c.args.of.0 c.args.text.now c.args.node p
    (subst (λ (o : Option Tree). HasPath c.args.types.now c.args.of.0 c.args.text.now (or_unread o) c.args.node p) (ap (option_map (λ v. tree_of v.now)) c.in-None.is) h)
