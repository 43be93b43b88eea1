use Rattle.std.proofs.Common.{◌∙◌, sym}
use Rattle.command_why.proofs.FirstEntry.{named_before, named_whole}
use Rattle.command_why.proofs.pages.title.Goals as goal

pub returns-in-Some : goal.returns-in-Some
returns-in-Some c = c.front.ensures ∙ named_before c.args.entry.now c.in-Some.at (sym c.line_end.ensures.place ∙ c.in-Some.is)

pub returns-in-None : goal.returns-in-None
returns-in-None c = named_whole c.args.entry.now (sym c.line_end.ensures.place ∙ c.in-None.is)
