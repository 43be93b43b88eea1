-- What the files of a command come to: a main file with all that it imports, beside the attribute configuration file that may be named.
use Rattle.std.specs.Prelude.{ℕ, List, Option, Result, Ok, Err}
use Rattle.idl_grammar.specs.Files.{Idl}
use Rattle.nd_base.specs.Over.{IsMissing}
use Rattle.nd_types.specs.declared.interface.Interface.{Interface}
use Rattle.command_refusals.specs.declared.refusal.IdlReason.{IdlReason}
use Rattle.command_refusals.specs.declared.refusal.Refusal.{Refusal}
use Rattle.command_refusals.specs.declared.refusal.Refusal.TheVariants.{Absent, BadIdl}
use Rattle.command_compile.specs.Idl.{Means, IsIdlFault, IsDueAfter}

-- The files mean an interface; or one of them is refused, at a line and column of it; or one that is due is missing.
pub data HasResult (held : Option (List ℕ → Option (List ℕ))) (idl : Idl) (text : List ℕ) (acf : Option (List ℕ)) : Type 0 where
  Meaning : (i : Interface) → Means held idl text acf i → HasResult held idl text acf
  Fault : (file : List ℕ) (line column : ℕ) (why : IdlReason) → IsIdlFault held idl text acf (BadIdl file line column why)
      → HasResult held idl text acf
  Missing : (file : List ℕ) → IsDueAfter held idl text acf file → IsMissing held file → HasResult held idl text acf

-- the interface, or how it is refused
abbrev pub result_of : {held : Option (List ℕ → Option (List ℕ))} {idl : Idl} {text : List ℕ} {acf : Option (List ℕ)} → HasResult held idl text acf
    → Result Interface Refusal
result_of (Meaning i means) = Ok i
result_of (Fault file line column why is) = Err (BadIdl file line column why)
result_of (Missing file due missing) = Err (Absent file)
