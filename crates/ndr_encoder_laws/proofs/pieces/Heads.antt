-- The pieces of a whole stream: first those of the homes, one home after the other, then those of the pipes.
use Rattle.std.proofs.Common.{◌≡◌, ℕ, ◌+◌, List, [], ◌∷◌, ◌++◌, drop, Some, None, refl, ap, ap₂, sym, ◌∙◌, append-nil}
use Rattle.std.specs.Prelude.{flat_map}
use Rattle.nd_base.specs.declared.octets.Order.{Order}
use Rattle.nd_types.specs.Table.{Table}
use Rattle.nd_types.specs.Roots.{Root}
use Rattle.nd_value.specs.declared.value.Graph.{Graph}
use Rattle.nd_value.specs.declared.item.Home.TheVariants as home
use Rattle.nd_value.specs.Agreement.{Agreement, root_agreements}
use Rattle.nd_value.specs.Setting.{Setting, root_list, cell_at, cell_home}
use Rattle.nd_value.specs.Tree as tree
use Rattle.nd_value.specs.Tree.{Tree, Trees, node, Label}
use Rattle.nd_value.specs.Deferral.{Step, root_stands, referent_stands, stands_already, standing_root, standing_cell, before_pipes}
use Rattle.nd_grammar.specs.Entry.{Entry, end_of}
use Rattle.nd_grammar.specs.Stream.{step_entries, standing_entries, step_tests, root_test, root_tests, head_entries, pipes_entries, representation, octets_from}
use Rattle.ndr_encoder_laws.specs.pieces.Pieces.{pieces_octets, pieces_end}
use Rattle.ndr_encoder_laws.specs.pieces.Shown.{shown}
use Rattle.ndr_encoder_laws.specs.pieces.Heads.{standings, homes_pieces, stream_pieces}
use Rattle.ndr_encoder_laws.proofs.pieces.Showing.{shown_joined, shown_tests, shown_pipes, shown_octets, shown_end}

shown_root_test : (table : Table) (g : Graph) (i : ℕ) (l : Label) (ks : Trees) (given : List Agreement) → shown table (root_test g i (node l ks) given) ≡ []
shown_root_test table g i (tree.Ptr None) ks given = refl
shown_root_test table g i (tree.Ptr (Some c)) ks given = shown_tests table (cell_home c) 0 (cell_at g c) given
shown_root_test table g i (tree.Num z) ks given = shown_tests table (home.Root i) 0 (node (tree.Num z) ks) given
shown_root_test table g i tree.Rec ks given = shown_tests table (home.Root i) 0 (node tree.Rec ks) given
shown_root_test table g i (tree.Arr max offset) ks given = shown_tests table (home.Root i) 0 (node (tree.Arr max offset) ks) given
shown_root_test table g i (tree.Text max os) ks given = shown_tests table (home.Root i) 0 (node (tree.Text max os) ks) given
shown_root_test table g i (tree.Union v) ks given = shown_tests table (home.Root i) 0 (node (tree.Union v) ks) given
shown_root_test table g i (tree.Context attributes id) ks given = shown_tests table (home.Root i) 0 (node (tree.Context attributes id) ks) given
shown_root_test table g i tree.Pipe ks given = shown_tests table (home.Root i) 0 (node tree.Pipe ks) given
shown_root_test table g i tree.Unread ks given = shown_tests table (home.Root i) 0 (node tree.Unread ks) given

shown_root_tests : (table : Table) (w : Setting) (g : Graph) (i : ℕ) (rs : List Root) (vs : List Tree) → shown table (root_tests w g i rs vs) ≡ []
shown_root_tests table w g i [] vs = refl
shown_root_tests table w g i (r ∷ rs) [] = refl
shown_root_tests table w g i (r ∷ rs) (node l ks ∷ vs) =
    shown_joined table (root_test g i (node l ks) (root_agreements w g r.vars)) (root_tests w g (i + 1) rs vs)
    ∙ ap₂ (λ u v. u ++ v) (shown_root_test table g i l ks (root_agreements w g r.vars)) (shown_root_tests table w g (i + 1) rs vs)

shown_steps : (w : Setting) (g : Graph) (steps : List Step) → shown w.table (flat_map (step_entries w g) steps) ≡ homes_pieces w.table (standings w g steps)
shown_steps w g [] = refl
shown_steps w g (root_stands i ∷ steps) =
    shown_joined w.table (standing_entries w.table (standing_root w g i)) (flat_map (step_entries w g) steps)
    ∙ ap (λ l. shown w.table (standing_entries w.table (standing_root w g i)) ++ l) (shown_steps w g steps)
shown_steps w g (referent_stands p c ∷ steps) =
    let E : List Entry = standing_entries w.table (standing_cell g p c) in
    shown_joined w.table (E ++ step_tests g p c) (flat_map (step_entries w g) steps)
    ∙ ap₂ (λ u v. u ++ v)
    (shown_joined w.table E (step_tests g p c) ∙ ap (λ l. shown w.table E ++ l) (shown_tests w.table (cell_home c) 0 (cell_at g c) p.agreements)
    ∙ append-nil (shown w.table E))
    (shown_steps w g steps)
shown_steps w g (stands_already p c ∷ steps) =
    shown_joined w.table (step_tests g p c) (flat_map (step_entries w g) steps)
    ∙ ap₂ (λ u v. u ++ v) (shown_tests w.table (cell_home c) 0 (cell_at g c) p.agreements) (shown_steps w g steps)

-- what is before the pipes
pub shown_head : (w : Setting) (g : Graph) (steps : List Step) → shown w.table (head_entries w g steps) ≡ homes_pieces w.table (standings w g steps)
shown_head w g steps =
    shown_joined w.table (flat_map (step_entries w g) steps) (root_tests w g 0 (root_list w) g.roots)
    ∙ ap₂ (λ u v. u ++ v) (shown_steps w g steps) (shown_root_tests w.table w g 0 (root_list w) g.roots)
    ∙ append-nil (homes_pieces w.table (standings w g steps))

-- the whole stream
pub shown_stream : (w : Setting) (g : Graph) (steps : List Step) (cuts : List (List ℕ)) → shown w.table (representation w g steps cuts) ≡ stream_pieces w g steps cuts
shown_stream w g steps cuts =
    let n : ℕ = before_pipes (root_list w) in
    shown_joined w.table (head_entries w g steps) (pipes_entries w.table n (drop n (root_list w)) (drop n g.roots) cuts)
    ∙ ap₂ (λ u v. u ++ v) (shown_head w g steps) (shown_pipes w.table n (drop n (root_list w)) (drop n g.roots) cuts)

-- its octets are those of its pieces, and so is its length
pub stream_octets : (order : Order) (numbering : ℕ → ℕ) (w : Setting) (g : Graph) (steps : List Step) (cuts : List (List ℕ))
    → octets_from order numbering 0 (representation w g steps cuts) ≡ pieces_octets order numbering 0 (stream_pieces w g steps cuts)
stream_octets order numbering w g steps cuts =
    sym (shown_octets order numbering w.table 0 (representation w g steps cuts)) ∙ ap (pieces_octets order numbering 0) (shown_stream w g steps cuts)

pub stream_end : (w : Setting) (g : Graph) (steps : List Step) (cuts : List (List ℕ))
    → end_of 0 (representation w g steps cuts) ≡ pieces_end 0 (stream_pieces w g steps cuts)
stream_end w g steps cuts = sym (shown_end w.table 0 (representation w g steps cuts)) ∙ ap (pieces_end 0) (shown_stream w g steps cuts)
