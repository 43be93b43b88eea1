-- A file without imports, as it is resolved.
use Rattle.std.specs.Prelude.{true, false, [], ◌∷◌, ◌++◌, Result, Ok, Err}
use Rattle.idl_grammar.specs.Tree.{Tree}
use Rattle.idl_scope.specs.declared.name_fault.NameFault.{NameFault}
use Rattle.idl_scope.specs.Known.{ended, Known, nothing, walked}
use Rattle.idl_scope.specs.Steps.{attribute_steps, declaration_steps}
use Rattle.idl_rule_definitions.specs.Nodes.{World}

abbrev or_nothing : Result Known NameFault → Known
or_nothing (Ok k) = k
or_nothing (Err f) = nothing

abbrev pub alone : Tree → World
alone t = record {
  files = ended 0 t ∷ [];
  known = or_nothing (walked 0 nothing (attribute_steps t.attributes ++ declaration_steps true t));
}

abbrev pub after : Result Known NameFault → (Known → Result Known NameFault) → Result Known NameFault
after (Ok k) next = next k
after (Err f) next = Err f

-- A file that imports one other, as they are resolved: the other is file 1, and ends first.
abbrev pub with_import : Tree → Tree → World
with_import imported main = record {
  files = ended 1 imported ∷ ended 0 main ∷ [];
  known =
      or_nothing
      (after (walked 0 nothing (attribute_steps main.attributes)) (λ k.
      after (walked 1 k (attribute_steps imported.attributes ++ declaration_steps false imported)) (λ j. walked 0 j (declaration_steps true main))));
}
