use Rattle.command_compile.proofs.OneInterface.{means_without, means_with, one_beside_any}
use Rattle.dceidl.proofs.laws.attribute_files_change_nothing.Goals as goal

pub returns-clause-without : goal.returns-clause-without
returns-clause-without c held idl text acf i m = means_without held idl text acf i m

pub returns-clause-beside : goal.returns-clause-beside
returns-clause-beside c held idl text name i m f loaded kept = means_with held idl text name i m f loaded kept

pub returns-clause-same : goal.returns-clause-same
returns-clause-same c held idl text acf other i j x y = one_beside_any held idl text acf other i j x y
