use Rattle.text_printer.proofs.paths.to_member.Goals as goal

pub returns-in-Some : goal.returns-in-Some
returns-in-Some c = rw c.in-Some.is c.to_one_member.ensures
