use Rattle.command_refusals.specs.declared.refusal.Refusal.TheVariants.{BadIdl}
use Rattle.command_compile.proofs.OneInterface.{one_interface}
use Rattle.command_compile.proofs.OneMeaning.{never_both, one_bad}
use Rattle.dceidl.proofs.laws.one_idl_verdict.Goals as goal

pub returns-clause-one_interface : goal.returns-clause-one_interface
returns-clause-one_interface c held idl text acf i j x y = one_interface held idl text acf i j x y

pub returns-clause-one_fault : goal.returns-clause-one_fault
returns-clause-one_fault c held idl text acf file other line column row place why because x y =
    one_bad held idl text acf (BadIdl file line column why) (BadIdl other row place because) tt tt x y

pub returns-clause-never_both : goal.returns-clause-never_both
returns-clause-never_both c held idl text acf i file line column why x y = never_both held idl text acf i (BadIdl file line column why) tt x y
