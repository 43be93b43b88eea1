use Rattle.std.proofs.Common.{◌∙◌, rules, tests}
use Rattle.std.proofs.lemmas.Iterator.{YieldsList-from_slice}
use Rattle.std.proofs.lemmas.Iterator.Search.{all_from_yields_List}
use Rattle.idl_grammar.specs.declared.declarators.Declarator.{Declarator}
use Rattle.idl_grammar.specs.Seen as seen
use Rattle.idl_scope.specs.Steps.{is_pointer}
use Rattle.idl_names.proofs.Rests.{all_seen}
use Rattle.idl_names.proofs.types.are_pointers.Goals as goal

pub returns : goal.returns
returns c =
    all_from_yields_List (λ (d : Declarator). is_pointer (seen.seen_declarator d)) _ _ _ c.all.ensures.ran (YieldsList-from_slice c.args.declarators.now cc) (λ x b q k. search (rules, tests))
    ∙ all_seen c.args.declarators.now
