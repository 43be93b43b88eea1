-- What `parse` answers, as the grammar has it.
use Rattle.std.specs.Prelude.{Result, Ok, Err}
use Rattle.idl_grammar.specs.Text.{Depth, Ban}
use Rattle.idl_grammar.specs.ReadPhrases.{Fault, Syntax, Passes}
use Rattle.idl_grammar.specs.declared.files.Tree.{Tree}
use Rattle.idl_grammar.specs.Tree as tree
use Rattle.idl_grammar.specs.Seen.{seen_tree}
use Rattle.idl_grammar.specs.declared.fault.SyntaxFault.{SyntaxFault}
use Rattle.idl_grammar.specs.declared.fault.SyntaxFault.TheVariants as errors

-- a fact of the answer, unless memory was wanting
abbrev pub Told : (Result tree.Tree Fault → Type 0) → Result Tree SyntaxFault → Type 0
Told P (Ok x) = P (Ok (seen_tree x))
Told P (Err errors.Memory) = Unit {0}
Told P (Err (errors.Syntax k)) = P (Err (Syntax k))
Told P (Err (errors.Deep k)) = P (Err (Passes Depth k))
Told P (Err (errors.Banned k)) = P (Err (Passes Ban k))
