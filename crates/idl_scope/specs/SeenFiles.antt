-- The files of the program, as the definitions have them.
use Rattle.idl_grammar.specs.Seen.{seen_tree}
use Rattle.idl_scope.specs.declared.scope.FileTree.{FileTree}
use Rattle.idl_scope.specs.declared.scope.FileTrees.{FileTrees}
use Rattle.idl_scope.specs.Known.{Ended, ended}
use Rattle.std.specs.Prelude.{List, map}

abbrev pub seen_file : FileTree → Ended
seen_file f = ended f.file (seen_tree f.tree)

abbrev pub seen_files : FileTrees → List Ended
seen_files f = map seen_file f.items.items
