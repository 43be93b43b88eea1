-- Whole texts: the head, the roots and the cells together.
use Rattle.std.proofs.Common.{◌≡◌, ℕ, ◌+◌, ◌≤◌, List, [], ◌∷◌, ◌++◌, length, map, Option, Some, None, refl, sym, ap, ap₂, subst, ◌∙◌, codes}
use Rattle.std.specs.Prelude.{flat_map}
use Rattle.std.specs.List.{slice_get}
use Rattle.std.proofs.lemmas.List.{map-append}
use Rattle.std.proofs.lemmas.Grind.{flat_map-append}
use Rattle.nd_types.specs.declared.types.Operation.{Operation}
use Rattle.nd_types.specs.declared.types.Param.{Param}
use Rattle.nd_types.specs.Table.{Table}
use Rattle.nd_types.specs.Roots.{Root, NamedRoot, named_root, named_roots, param_name}
use Rattle.nd_types.specs.Roots as walk
use Rattle.nd_value.specs.Tree.{Tree, none, more, Referent}
use Rattle.nd_value.specs.Setting.{Setting, root_list, cell_home}
use Rattle.nd_value.specs.Deferral.{Pending, home_pointers}
use Rattle.nd_value.specs.Conforms.{root_pointers}
use Rattle.text_grammar.specs.declared.version.Version.{Version}
use Rattle.text_grammar.specs.declared.TheConstants.{TEXT_LIMIT}
use Rattle.text_grammar.specs.Tokens as tokens
use Rattle.text_grammar.specs.Tokens.{Token, Begins}
use Rattle.text_grammar.specs.Written.{Piece, Other, equals, token_of, named, side_word, parameter_name, root_name, head_lines, root_lines, cell_lines, graph_tokens, value_pieces}
use Rattle.text_grammar.specs.Reads.{AreNamed, ReadsAs}
use Rattle.text_grammar.specs.Dues.{Due, ACellLine, root_dues, named_due, nothing_read}
use Rattle.text_grammar.specs.Reader.{Stopped, ComesTo}
use Rattle.text_grammar.specs.Settled.{IsSettled}
use Rattle.text_grammar.specs.Values.{reading, noted}
use Rattle.text_grammar.proofs.Nodes.{RootsFormed, CellsFormed, formed_readable, Knows, knows_none, home_knows}
use Rattle.text_grammar.proofs.GraphRead.{roots_noted, roots_know}
use Rattle.text_grammar.proofs.Back.{values_known}
use Rattle.text_parser.specs.Known.{AreKnown, NamesKnown}
use Rattle.text_parser.specs.declared.stop.Stop.{Stop}
use Rattle.text_parser.specs.declared.stop.Stop.TheVariants as stop
use Rattle.text_parser.specs.Passing.{Named, Halts}
use Rattle.text_parser.specs.Lines.{head_tokens, HasHead, Refuses, HeadHalts, lines_due, lines_tokens, AreFormed, all_noted, AreRoots, cell_tokens, cells_tokens, cell_noted, AreTyped, LineHalts}
use Rattle.text_parser.specs.Lines.{AreCells}
use Rattle.text_parser.proofs.Passages.{begins_both, comes_after}
use Rattle.text_parser.proofs.LineParts.{head_settled, head_reads}

-- ## Names of roots

name_by : (p : Option Param) → param_name p ≡ parameter_name p
name_by None = refl
name_by (Some p) = refl

name_same : (o : Operation) (r : Root) → walk.root_name o r.param ≡ root_name o.params r
name_same o r = by r.param where
  by : (p : Option ℕ) → walk.root_name o p ≡ (elim p [ None ↦ codes "return" | Some i ↦ parameter_name (slice_get o.params i) ])
  by None = refl
  by (Some i) = name_by (slice_get o.params i)

dues_same : (o : Operation) (rs : List Root) → lines_due (map (named_root o) rs) ≡ root_dues o.params rs
dues_same o [] = refl
dues_same o (r ∷ rs) = ap₂ (λ (n : List ℕ) (l : List Due). named_due n r.of ++ l) (name_same o r) (dues_same o rs)

-- ## Tokens

abbrev flat_tokens : List (List Piece) → List Token
flat_tokens lines = map token_of (flat_map (λ (line : List Piece). line) lines)

flat_more : (line : List Piece) (lines : List (List Piece)) → flat_tokens (line ∷ lines) ≡ map token_of line ++ flat_tokens lines
flat_more line lines = map-append token_of line (flat_map (λ (l : List Piece). l) lines)

flat_both : (ls ks : List (List Piece)) → flat_tokens (ls ++ ks) ≡ flat_tokens ls ++ flat_tokens ks
flat_both ls ks =
    ap (map token_of) (flat_map-append (λ (l : List Piece). l) ls ks) ∙ map-append token_of (flat_map (λ (l : List Piece). l) ls) (flat_map (λ (l : List Piece). l) ks)

roots_same : (v : Version) (table : Table) (o : Operation) (rs : List Root) (xs : List Tree) → flat_tokens (root_lines v table o.params rs xs) ≡ lines_tokens v table (map (named_root o) rs) xs
roots_same v table o [] [] = refl
roots_same v table o [] (x ∷ xs) = refl
roots_same v table o (r ∷ rs) [] = refl
roots_same v table o (r ∷ rs) (x ∷ xs) =
    flat_more (named (root_name o.params r) (value_pieces v table r.of x)) (root_lines v table o.params rs xs)
    ∙ ap₂ (λ (n : List ℕ) (l : List Token). map token_of (named n (value_pieces v table r.of x)) ++ l) (sym (name_same o r)) (roots_same v table o rs xs)

cells_same : (v : Version) (table : Table) (c : ℕ) (xs : List Referent) → flat_tokens (cell_lines v table c xs) ≡ cells_tokens v table c xs
cells_same v table c [] = refl
cells_same v table c (x ∷ xs) =
    flat_more (Other (tokens.Cell c) ∷ equals ∷ value_pieces v table x.of x.val) (cell_lines v table (c + 1) xs) ∙ ap (λ (l : List Token). cell_tokens v table c x ++ l) (cells_same v table (c + 1) xs)

-- ## Forms and names

roots_formed : (v : Version) (table : Table) (o : Operation) (rs : List Root) (xs : List Tree) → AreFormed v table (map (named_root o) rs) xs → RootsFormed v table rs xs
roots_formed v table o [] [] f = tt
roots_formed v table o [] (x ∷ xs) f = absurd f
roots_formed v table o (r ∷ rs) [] f = absurd f
roots_formed v table o (r ∷ rs) (x ∷ xs) f = (f.0, roots_formed v table o rs xs f.1)

noted_same : (table : Table) (o : Operation) (rs : List Root) (xs : List Tree) (ns : Named) → all_noted table (map (named_root o) rs) xs ns ≡ roots_noted table rs xs ns
noted_same table o [] [] ns = refl
noted_same table o [] (x ∷ xs) ns = refl
noted_same table o (r ∷ rs) [] ns = refl
noted_same table o (r ∷ rs) (x ∷ xs) ns = noted_same table o rs xs (noted table (r.of ∷ []) (more x none) ns)

cells_formed : (v : Version) (table : Table) (ns : Named) (c : ℕ) (xs : List Referent) → AreTyped v table ns c xs → CellsFormed v table xs
cells_formed v table ns c [] t = tt
cells_formed v table ns c (x ∷ xs) t = (t.1, cells_formed v table (cell_noted table ns x) (c + 1) xs t.2)

cells_named : (v : Version) (table : Table) (before : List Pending) (ns : Named) (c : ℕ) (xs : List Referent) → Knows before ns → AreTyped v table ns c xs → AreNamed table before c xs
cells_named v table before ns c [] k t = tt
cells_named v table before ns c (x ∷ xs) k t = (
  sym (k.same c) ∙ t.0,
  cells_named v table (before ++ home_pointers table (cell_home c) x.of x.val) (cell_noted table ns x) (c + 1) xs (home_knows table (cell_home c) x.of x.val before ns k) t.2,
)

-- the types of the cells that roots name are of the table
named_known : (table : Table) (known : AreKnown table) (o : Operation) (rs : List Root) (xs : List Tree) (ns : Named) → NamesKnown table ns
    → NamesKnown table (all_noted table (map (named_root o) rs) xs ns)
named_known table known o [] [] ns h = h
named_known table known o [] (x ∷ xs) ns h = h
named_known table known o (r ∷ rs) [] ns h = h
named_known table known o (r ∷ rs) (x ∷ xs) ns h = named_known table known o rs xs (noted table (r.of ∷ []) (more x none) ns) (values_known table known (r.of ∷ []) (more x none) ns h)

pub roots_known : (w : Setting) → AreKnown w.table → (vals : List Tree) (before ns : Named) → before ≡ [] → ns ≡ all_noted w.table (named_roots w.table w.side w.op) vals before → NamesKnown w.table ns
roots_known w known vals before ns e is =
    subst (NamesKnown w.table) (sym (is ∙ ap (all_noted w.table (named_roots w.table w.side w.op) vals) e)) (named_known w.table known w.op (root_list w) vals [] refl)

-- ## The whole

module _ (w : Setting) (text : List ℕ) where
  abbrev roots : List NamedRoot
  roots = named_roots w.table w.side w.op

  abbrev cells_due : List Due
  cells_due = ACellLine ∷ []

  pub head_refuses : (e : Stop) → HeadHalts w.op.name (side_word w.side) text e → Refuses w.table (nothing_read w) text e
  head_refuses e h = h w.table (root_dues w.op.params (root_list w) ++ cells_due)

  module _ (v : Version) (start : List ℕ) (h : HasHead w.op.name (side_word w.side) text v start) where
    abbrev head : List Token
    head = head_tokens v w.op.name (side_word w.side)

    pub roots_refuse : (e : Stop) → Halts v w.table (lines_due roots) [] start e → Refuses w.table (nothing_read w) text e
    roots_refuse stop.Memory r = tt
    roots_refuse (stop.At left why) r =
        comes_after w.table (nothing_read w) (reading v (root_dues w.op.params (root_list w) ++ cells_due) [] 0) [] text head start (Stopped left why) h.begins
        (head_reads w.table (root_dues w.op.params (root_list w) ++ cells_due) v w.op.name (side_word w.side))
        (subst (λ (l : List Due). ComesTo w.table (reading v (l ++ cells_due) [] 0) (tokens.after [] head) start (Stopped left why)) (dues_same w.op (root_list w))
        (r cells_due 0 (tokens.after [] head) (head_settled v w.op.name (side_word w.side))))

    module _ (vals : List Tree) (ns : Named) (mid : List ℕ) (r : AreRoots v w.table roots [] start vals ns mid) where
      abbrev front : List Token
      front = lines_tokens v w.table roots vals

      pub cells_refuse : (e : Stop) → LineHalts v w.table 0 ns mid e → Refuses w.table (nothing_read w) text e
      cells_refuse stop.Memory c = tt
      cells_refuse (stop.At left why) c =
          comes_after w.table (nothing_read w) (reading v (root_dues w.op.params (root_list w) ++ cells_due) [] 0) [] text head start (Stopped left why) h.begins
          (head_reads w.table (root_dues w.op.params (root_list w) ++ cells_due) v w.op.name (side_word w.side))
          (subst (λ (l : List Due). ComesTo w.table (reading v (l ++ cells_due) [] 0) (tokens.after [] head) start (Stopped left why)) (dues_same w.op (root_list w))
          (comes_after w.table (reading v (lines_due roots ++ cells_due) [] 0) (reading v cells_due ns 0) (tokens.after [] head) start front mid (Stopped left why)
          (r.passes.begins (tokens.after [] head) (head_settled v w.op.name (side_word w.side))) (r.passes.reads cells_due 0)
          (c (tokens.after (tokens.after [] head) front) (r.passes.settled (tokens.after [] head) (head_settled v w.op.name (side_word w.side))))))

      pub whole : (cells : List Referent) → length text ≤ TEXT_LIMIT → AreCells v w.table ns mid cells → ReadsAs w text (record { roots = vals; cells = cells })
      whole cells short a = record {
        short = short;
        version = v;
        readable = formed_readable v w (record { roots = vals; cells = cells }) (roots_formed v w.table w.op (root_list w) vals r.forms) (cells_formed v w.table ns 1 cells a.came.typed)
            (cells_named v w.table (root_pointers w.table 0 (root_list w) vals) ns 1 cells
            (subst (λ (l : Named). Knows (root_pointers w.table 0 (root_list w) vals) l) (sym (r.names ∙ noted_same w.table w.op (root_list w) vals []))
            (roots_know w.table 0 (root_list w) vals [] [] knows_none)) a.came.typed);
        rest = a.rest;
        tokens = subst (λ (l : List Token). Begins [] text l a.rest) (sym all)
            (begins_both [] text head (front ++ cells_tokens v w.table 1 cells) start a.rest h.begins
            (begins_both (tokens.after [] head) start front (cells_tokens v w.table 1 cells) mid a.rest (r.passes.begins (tokens.after [] head) settled)
            (a.came.passes.begins (tokens.after (tokens.after [] head) front) (r.passes.settled (tokens.after [] head) settled))));
        ended = a.ended;
      } where
        settled : IsSettled v (tokens.after [] head)
        settled = head_settled v w.op.name (side_word w.side)

        all : graph_tokens v w (record { roots = vals; cells = cells }) ≡ head ++ (front ++ cells_tokens v w.table 1 cells)
        all =
            flat_both (head_lines v w) (root_lines v w.table w.op.params (root_list w) vals ++ cell_lines v w.table 1 cells)
            ∙ ap (λ (l : List Token). head ++ l)
            (flat_both (root_lines v w.table w.op.params (root_list w) vals) (cell_lines v w.table 1 cells)
            ∙ ap₂ (λ (l m : List Token). l ++ m) (roots_same v w.table w.op (root_list w) vals) (cells_same v w.table 1 cells))
