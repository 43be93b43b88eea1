-- All that is noted of an attribute configuration file is what the rule says of it.
use Rattle.std.proofs.Common.{◌≡◌, ◌∙◌, refl, sym, ap, List, [], ◌∷◌, ◌++◌, Option, Some, None, append-nil}
use Rattle.std.specs.List.{flat_map}
use Rattle.idl_grammar.specs.Tree as idl
use Rattle.acf_reader.specs.Grammar.{Acf}
use Rattle.idl_rule_definitions.specs.Nodes.{World}
use Rattle.idl_rule_definitions.specs.Meaning.{main_among}
use Rattle.idl_rule_definitions.specs.Rules.{Breach, first_of}
use Rattle.idl_rule_definitions.specs.Noted.{noted}
use Rattle.idl_check.specs.AcfRules.{broken_at, breaks_header, breaches_of_element, breaches_beside, acf_breaches}
use Rattle.idl_rule_definitions.proofs.Noted.{noted_all}
use Rattle.idl_check.proofs.AcfNotes.{then_noted}

-- there is one main file
breaches_are : (w : World) (f : Acf) (main : idl.Tree) → main_among w.files ≡ main ∷ [] → acf_breaches w (Some f) ≡ breaches_beside w.known f main
unfolding acf_breaches
breaches_are w f main e = ap (λ ms. flat_map (breaches_beside w.known f) ms) e ∙ append-nil (breaches_beside w.known f main)

pub acf_noted : (w : World) (f : Acf) (main : idl.Tree) → main_among w.files ≡ main ∷ [] → (before behind last : Option Breach) → before ≡ None
    → behind ≡ noted w before (broken_at f.at (breaks_header w.known main f)) → last ≡ noted w behind (flat_map (breaches_of_element w.known main) f.body)
    → last ≡ first_of w (acf_breaches w (Some f))
acf_noted w f main is before behind last none header body =
    then_noted w before behind last (broken_at f.at (breaks_header w.known main f)) (flat_map (breaches_of_element w.known main) f.body) header body
    ∙ ap (λ o. noted w o (breaches_beside w.known f main)) none
    ∙ noted_all w (breaches_beside w.known f main)
    ∙ ap (first_of w) (sym (breaches_are w f main is))
