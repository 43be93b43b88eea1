-- One value more, after others of which a list is made.
use Rattle.std.proofs.Common.{◌≡◌, ℕ, suc, ◌+◌, Bool, true, ◌&&◌, List, [], ◌∷◌, ◌++◌, length, replicate, refl, sym, ap, ◌∙◌, append_assoc, append-nil, arith}
use Rattle.std.proofs.lemmas.Bool.{and_parts, and_from}
use Rattle.nd_types.specs.Table.{Table, type_at}
use Rattle.nd_value.specs.Tree.{Tree, node, none, more, trees, count, node_count}
use Rattle.nd_value.specs.Nodes.{child_types}
use Rattle.text_grammar.specs.declared.version.Version.{Version}
use Rattle.text_grammar.specs.Written.{Piece, comma, separated, node_pieces, values_pieces, value_pieces}
use Rattle.text_grammar.specs.Reads.{has_text_form}
use Rattle.text_grammar.specs.Dues.{Due, This, separated_dues}
use Rattle.text_grammar.specs.Values.{have_forms, noted, noted_node}

pub count_trees : (vs : List Tree) → count (trees vs) ≡ length vs
count_trees [] = refl
count_trees (x ∷ vs) = ap suc (count_trees vs)

pub weight_more : (vs : List Tree) (x : Tree) → node_count (trees (vs ++ x ∷ [])) ≡ node_count (trees vs) + node_count (more x none)
weight_more [] x = omega arith
weight_more (node l ks ∷ vs) x = omega (arith, weight_more vs x)

pub replicate_more : (vs : List Tree) (x : Tree) (t : ℕ) → replicate (length (vs ++ x ∷ [])) t ≡ replicate (length vs) t ++ t ∷ []
replicate_more [] x t = refl
replicate_more (y ∷ vs) x t = ap (λ (l : List ℕ). t ∷ l) (replicate_more vs x t)

module _ (v : Version) (table : Table) (t : ℕ) (x : Tree) where
  pub forms_more : (types : List ℕ) (vs : List Tree) → have_forms v table types (trees vs) ≡ true → have_forms v table (t ∷ []) (more x none) ≡ true
      → have_forms v table (types ++ t ∷ []) (trees (vs ++ x ∷ [])) ≡ true
  forms_more [] [] h one = one
  forms_more (u ∷ types) [] h one = cc
  forms_more [] (y ∷ vs) h one = cc
  forms_more (u ∷ types) (node l ks ∷ vs) h one =
      let a : Bool = has_text_form v table (type_at table u) l ks in
      let b : Bool = have_forms v table (child_types (type_at table u) l ks) ks in
      let c : Bool = have_forms v table types (trees vs) in
      let d : Bool = have_forms v table (types ++ t ∷ []) (trees (vs ++ x ∷ [])) in
      let p = and_parts a (b && c) h in
      let q = and_parts b c p.1 in
      and_from a (b && d) p.0 (and_from b d q.0 (forms_more types vs q.1 one))

  pub noted_more : (types : List ℕ) (vs : List Tree) (ns : List (ℕ × ℕ)) → have_forms v table types (trees vs) ≡ true
      → noted table (types ++ t ∷ []) (trees (vs ++ x ∷ [])) ns ≡ noted table (t ∷ []) (more x none) (noted table types (trees vs) ns)
  noted_more [] [] ns h = refl
  noted_more (u ∷ types) [] ns h = cc
  noted_more [] (y ∷ vs) ns h = cc
  noted_more (u ∷ types) (node l ks ∷ vs) ns h =
      let a : Bool = has_text_form v table (type_at table u) l ks in
      let b : Bool = have_forms v table (child_types (type_at table u) l ks) ks in
      let c : Bool = have_forms v table types (trees vs) in
      let p = and_parts a (b && c) h in
      let q = and_parts b c p.1 in
      noted_more types vs (noted table (child_types (type_at table u) l ks) ks (noted_node (type_at table u) l ns)) q.1

  pieces_one : (y : Tree) → values_pieces v table (t ∷ []) (more y none) ≡ value_pieces v table t y ∷ []
  pieces_one (node l ks) = refl

  pub pieces_more : (types : List ℕ) (vs : List Tree) → have_forms v table types (trees vs) ≡ true
      → values_pieces v table (types ++ t ∷ []) (trees (vs ++ x ∷ [])) ≡ values_pieces v table types (trees vs) ++ value_pieces v table t x ∷ []
  pieces_more [] [] h = pieces_one x
  pieces_more (u ∷ types) [] h = cc
  pieces_more [] (y ∷ vs) h = cc
  pieces_more (u ∷ types) (node l ks ∷ vs) h =
      let a : Bool = has_text_form v table (type_at table u) l ks in
      let b : Bool = have_forms v table (child_types (type_at table u) l ks) ks in
      let c : Bool = have_forms v table types (trees vs) in
      let p = and_parts a (b && c) h in
      let q = and_parts b c p.1 in
      ap (λ (l' : List (List Piece)). node_pieces v table (type_at table u) l ks (values_pieces v table (child_types (type_at table u) l ks) ks) ∷ l') (pieces_more types vs q.1)

-- ## Separators

pub separated_more : (p : List Piece) (ps : List (List Piece)) (q : List Piece) → separated ((p ∷ ps) ++ q ∷ []) ≡ separated (p ∷ ps) ++ comma ∷ q
separated_more p [] q = refl
separated_more p (r ∷ ps) q = ap (λ (l : List Piece). p ++ comma ∷ l) (separated_more r ps q) ∙ sym (append_assoc p (comma ∷ separated (r ∷ ps)) (comma ∷ q))

pub dues_more : (d : List Due) (ds : List (List Due)) (e : List Due) → separated_dues ((d ∷ ds) ++ e ∷ []) ≡ separated_dues (d ∷ ds) ++ This comma ∷ e
dues_more d [] e = refl
dues_more d (f ∷ ds) e = ap (λ (l : List Due). d ++ This comma ∷ l) (dues_more f ds e) ∙ sym (append_assoc d (This comma ∷ separated_dues (f ∷ ds)) (This comma ∷ e))

-- what comes after the first of them
abbrev pub led_dues : List (List Due) → List Due
led_dues [] = []
led_dues (d ∷ ds) = This comma ∷ d ++ led_dues ds

pub dues_led : (d : List Due) (ds : List (List Due)) → separated_dues (d ∷ ds) ≡ d ++ led_dues ds
dues_led d [] = sym (append-nil d)
dues_led d (e ∷ ds) = ap (λ (l : List Due). d ++ This comma ∷ l) (dues_led e ds)

led_both : (ds es : List (List Due)) → led_dues (ds ++ es) ≡ led_dues ds ++ led_dues es
led_both [] es = refl
led_both (d ∷ ds) es = ap (λ (l : List Due). This comma ∷ d ++ l) (led_both ds es) ∙ ap (λ (l : List Due). This comma ∷ l) (sym (append_assoc d (led_dues ds) (led_dues es)))

pub dues_both : (d : List Due) (ds es : List (List Due)) → separated_dues ((d ∷ ds) ++ es) ≡ separated_dues (d ∷ ds) ++ led_dues es
dues_both d ds es =
    dues_led d (ds ++ es) ∙ ap (λ (l : List Due). d ++ l) (led_both ds es) ∙ sym (append_assoc d (led_dues ds) (led_dues es))
    ∙ ap (λ (l : List Due). l ++ led_dues es) (sym (dues_led d ds))
