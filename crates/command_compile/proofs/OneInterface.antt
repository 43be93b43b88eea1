-- Files mean one interface at most, beside whatever attribute configuration file.
use Rattle.std.proofs.Common.{◌≡◌, ◌∙◌, ℕ, true, List, [], ◌∷◌, ◌++◌, Option, Some, None, refl, sym, ap}
use Rattle.std.proofs.Props.{props}
use Rattle.idl_grammar.specs.Files.{Idl}
use mathlib.Core.HLevel.{is_prop→PathP}
use Rattle.nd_base.specs.Text.{is_identifier}
use Rattle.nd_types.specs.declared.interface.Interface.{Interface}
use Rattle.nd_types.specs.Rounds.{layouts_of}
use Rattle.nd_types.specs.declared.types.Operation.{Operation}
use Rattle.nd_types.specs.Table.{Table}
use Rattle.nd_types.specs.Legal.{IsLegal}
use Rattle.idl_rule_definitions.specs.Nodes.{World}
use Rattle.idl_rule_definitions.specs.Rules.{Breach, breaches, first_of}
use Rattle.nd_types.specs.Meant.{Meant, meant_by}
use Rattle.acf_reader.specs.Grammar.{Acf}
use Rattle.idl_check.specs.AcfRules.{acf_breaches, first_of_all}
use Rattle.command_compile.specs.Idl.{AcfFile, IsLoadedAcf, Means, resolved_world}
use Rattle.command_compile.proofs.OneMeaning.{means_one}
use Rattle.nd_types.proofs.EqualLaws.{layouts-prop as layouts_once, named-prop as named_once}

-- there is one proof that an interface is legal, and one that its layouts are those of its types
legal_once : (types : Table) (operations : List Operation) → IsProp (IsLegal types operations)
legal_once types operations = hlevel props

-- interfaces that mean the same are equal
same_meant : (i j : Interface) → meant_by i ≡ meant_by j → i ≡ j
same_meant i j e =
    let layouts : i.layouts ≡ j.layouts = i.laid_out ∙ ap (λ (m : Meant). layouts_of m.types) e ∙ sym j.laid_out in
    λ k. record {
      name = (e k).name;
      uuid = (e k).uuid;
      major = (e k).major;
      minor = (e k).minor;
      types = (e k).types;
      layouts = layouts k;
      operations = (e k).operations;
      named = is_prop→PathP (λ l. is_identifier (e l).name ≡ true) (λ l. named_once (e l).name) i.named j.named k;
      legal = is_prop→PathP (λ l. IsLegal (e l).types (e l).operations) (λ l. legal_once (e l).types (e l).operations) i.legal j.legal k;
      laid_out = is_prop→PathP (λ l. layouts l ≡ layouts_of (e l).types) (λ l. layouts_once (e l).types (layouts l)) i.laid_out j.laid_out k;
    }

pub one_interface : (k : List ℕ → Option (List ℕ)) (idl : Idl) (text : List ℕ) (acf : Option (List ℕ)) (i j : Interface) → Means (Some k) idl text acf i
    → Means (Some k) idl text acf j → i ≡ j
one_interface k idl text acf i j x y = same_meant i j (means_one k idl text acf i j x y)

-- ## An attribute configuration file changes nothing

none_of : (w : World) (bs : List Breach) → first_of w bs ≡ None → bs ≡ []
none_of w [] e = refl
none_of w (b ∷ bs) e = absurd (cc)

front_empty : (xs ys : List Breach) → xs ++ ys ≡ [] → xs ≡ []
front_empty [] ys e = refl
front_empty (x ∷ xs) ys e = absurd (cc)

none_broken : (w : World) (f : Option Acf) → first_of_all w f ≡ None → breaches w ≡ []
none_broken w f e = front_empty (breaches w) (acf_breaches w f) (none_of w (breaches w ++ acf_breaches w f) e)

keeps_alone : (w : World) → breaches w ≡ [] → first_of_all w None ≡ None
unfolding acf_breaches
keeps_alone w e = ap (λ bs. first_of w (bs ++ [])) e

keeps_beside : (w : World) (f : Acf) → breaches w ≡ [] → acf_breaches w (Some f) ≡ [] → first_of_all w (Some f) ≡ None
keeps_beside w f a b = ap (λ bs. first_of w (bs ++ acf_breaches w (Some f))) a ∙ ap (first_of w) b

-- what files mean beside one they mean without it
pub means_without : (held : Option (List ℕ → Option (List ℕ))) (idl : Idl) (text : List ℕ) (acf : Option (List ℕ)) (i : Interface) → Means held idl text acf i
    → Means held idl text None i
means_without held idl text acf i m = record {
  state = m.state;
  resolved = m.resolved;
  beside = None;
  read = tt;
  meaning = record { keeps = keeps_alone (resolved_world m.state) (none_broken (resolved_world m.state) _ m.meaning.keeps); means = m.meaning.means };
}

-- and what they mean without one they mean beside each that keeps the rule on it
pub means_with : (held : Option (List ℕ → Option (List ℕ))) (idl : Idl) (text name : List ℕ) (i : Interface) → (m : Means held idl text None i) → (f : AcfFile)
    → IsLoadedAcf held name f → acf_breaches (resolved_world m.state) (Some f.tree) ≡ [] → Means held idl text (Some name) i
means_with held idl text name i m f loaded kept = record {
  state = m.state;
  resolved = m.resolved;
  beside = Some f;
  read = loaded;
  meaning = record { keeps = keeps_beside (resolved_world m.state) f.tree (none_broken (resolved_world m.state) _ m.meaning.keeps) kept; means = m.meaning.means };
}

pub one_beside_any : (k : List ℕ → Option (List ℕ)) (idl : Idl) (text : List ℕ) (acf other : Option (List ℕ)) (i j : Interface) → Means (Some k) idl text acf i
    → Means (Some k) idl text other j → i ≡ j
one_beside_any k idl text acf other i j x y =
    one_interface k idl text None i j (means_without (Some k) idl text acf i x) (means_without (Some k) idl text other j y)
