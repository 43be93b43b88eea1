-- An attribute configuration file of the code as one of the definitions.
use Rattle.std.specs.Prelude.{Option, option_map}
use Rattle.acf_reader.specs.Seen.{seen_acf}
use Rattle.command_compile.specs.Idl.{AcfFile}
use Rattle.command_compile.specs.declared.acf.NamedAcf.{NamedAcf}

abbrev pub seen_file : NamedAcf → AcfFile
seen_file f = record { name = f.name.now; text = f.text; tree = seen_acf f.tree }

abbrev pub seen_beside : Option NamedAcf → Option AcfFile
seen_beside beside = option_map seen_file beside
