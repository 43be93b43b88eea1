use Rattle.command_compile.proofs.AcfWithin.{acf_fault_within}
use Rattle.command_compile.proofs.Judged.{unread_told}
use Rattle.command_compile.proofs.acf.read_text.Goals as goal

pub unread-requires : goal.unread-requires
unread-requires c = acf_fault_within c.in-Ok.tokens c.in-Err-read_acf.fault c.in-Err-read_acf.ensures.answer

pub returns-clause-refused : goal.returns-clause-refused
returns-clause-refused c =
    unread_told c.args.name.now c.args.text.now c.in-Ok.tokens c.in-Ok.ensures.text c.in-Ok.ensures.tokens c.unread.result c.in-Err-read_acf.fault
    c.in-Err-read_acf.ensures.answer c.unread.ensures
