use Rattle.text_printer.proofs.paths.path.Goals as goal

pub returns : goal.returns
returns c o there p h = c.in_ok-append_path.ensures c.new-text.ensures o there p h
