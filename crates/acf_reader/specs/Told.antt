-- What `read_acf` answers, as the grammar has it.
use Rattle.std.specs.Prelude.{Result, Ok, Err}
use Rattle.idl_grammar.specs.Text.{Depth, Ban}
use Rattle.idl_grammar.specs.ReadPhrases.{Fault, Syntax, Passes}
use Rattle.idl_grammar.specs.declared.fault.SyntaxFault.{SyntaxFault}
use Rattle.idl_grammar.specs.declared.fault.SyntaxFault.TheVariants as errors
use Rattle.acf_reader.specs.declared.tree.Acf.{Acf}
use Rattle.acf_reader.specs.Grammar as tree
use Rattle.acf_reader.specs.Seen.{seen_acf}

-- a fact of the answer, unless memory was wanting
abbrev pub Told : (Result tree.Acf Fault → Type 0) → Result Acf SyntaxFault → Type 0
Told P (Ok x) = P (Ok (seen_acf x))
Told P (Err errors.Memory) = Unit {0}
Told P (Err (errors.Syntax k)) = P (Err (Syntax k))
Told P (Err (errors.Deep k)) = P (Err (Passes Depth k))
Told P (Err (errors.Banned k)) = P (Err (Passes Ban k))
