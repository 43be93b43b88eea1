-- A value is what its type consists of.
use Rattle.std.proofs.Common.{◌≡◌, ℕ, suc, ◌+◌, ◌≤◌, Bool, true, ◌&&◌, List, [], ◌∷◌, length, map, Option, Some, refl, sym, ap, subst, ◌∙◌, arith}
use Rattle.std.proofs.lemmas.Bool.{and_from}
use Rattle.nd_types.specs.declared.types.TypeDef.{TypeDef}
use Rattle.nd_types.specs.Table.{Table, type_at}
use Rattle.nd_value.specs.Tree.{Tree, Trees, node, node_count, Label}
use Rattle.nd_value.specs.Nodes.{child_types}
use Rattle.text_grammar.specs.declared.version.Version.{Version}
use Rattle.text_grammar.specs.Tokens.{Token}
use Rattle.text_grammar.specs.Written.{token_of, node_pieces, values_pieces}
use Rattle.text_grammar.specs.Reads.{has_text_form}
use Rattle.text_grammar.specs.Dues.{AValue, value_dues}
use Rattle.text_grammar.specs.Values.{have_forms, noted, noted_node}
use Rattle.text_parser.specs.Passing.{Named, Passes, IsValue}
use Rattle.text_parser.proofs.Passages.{passes_open}

-- the tokens of a node
abbrev pub node_tokens : Version → Table → Option TypeDef → Label → Trees → List Token
node_tokens v table d l ks = map token_of (node_pieces v table d l ks (values_pieces v table (child_types d l ks) ks))

-- the tests of a node and its children
abbrev pub node_forms : Version → Table → Option TypeDef → Label → Trees → Bool
node_forms v table d l ks = has_text_form v table d l ks && (have_forms v table (child_types d l ks) ks && true)

module _ (v : Version) (table : Table) (t : ℕ) (d : TypeDef) (is : type_at table t ≡ Some d) (l : Label) (ks : Trees) where
  pub opened_value : (ns ms : Named) (text rest : List ℕ) (val : Tree) (ts : List Token) → val ≡ node l ks
      → has_text_form v table (Some d) l ks ≡ true
      → have_forms v table (child_types (Some d) l ks) ks ≡ true
      → ms ≡ noted table (child_types (Some d) l ks) ks (noted_node (Some d) l ns)
      → node_tokens v table (Some d) l ks ≡ ts
      → Passes v table (value_dues v table (Some d)) ns text ts [] ms rest
      → suc (node_count ks) + length rest ≤ length text
      → IsValue v table t ns text val ms rest
  opened_value ns ms text rest val ts e form forms names tokens passes few = subst (λ (x : Tree). IsValue v table t ns text x ms rest) (sym e) (record {
    forms = subst (λ (x : Option TypeDef). node_forms v table x l ks ≡ true) (sym is)
        (and_from (has_text_form v table (Some d) l ks) (have_forms v table (child_types (Some d) l ks) ks && true) form
        (and_from (have_forms v table (child_types (Some d) l ks) ks) true forms refl));
    names = names ∙ sym (ap (λ (x : Option TypeDef). noted table (child_types x l ks) ks (noted_node x l ns)) is);
    passes = subst (λ (x : List Token). Passes v table (AValue t ∷ []) ns text x [] ms rest)
        (sym (ap (λ (x : Option TypeDef). node_tokens v table x l ks) is ∙ tokens)) (passes_open v table t d is ns ms text rest ts passes);
    few = omega (arith, few);
  })
