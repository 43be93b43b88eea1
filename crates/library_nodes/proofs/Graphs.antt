-- The graph that a listing says, from what its roots and cells come to.
-- `w` is a setting, `l` a listing, `m` is what is left after the roots, `n` what is left after the cells, `vs` are the roots, `cs` the cells.
use Rattle.std.proofs.Common.{◌≡◌, ◌∙◌, ◌≤◌, ◌<◌, ◌^◌, ◌||◌, ℕ, suc, Bool, false, nat_lt, List, [], ◌∷◌, ◌++◌, length, map, refl, sym, ap, subst, arith}
use Rattle.std.proofs.lemmas.List.{append-nil}
use Rattle.std.proofs.lemmas.Bool.{ltb-false, or_parts}
use Rattle.nd_types.specs.Table.{Table}
use Rattle.nd_value.specs.declared.value.Graph.{Graph}
use Rattle.nd_value.specs.Conforms.{HasFewNodes}
use Rattle.nd_value.specs.Setting.{Setting}
use Rattle.nd_value.specs.Tree.{Flat, Tree, Referent, flat, trees}
use Rattle.nd_lemmas.proofs.Lists.{length_map}
use Rattle.command_refusals.specs.declared.refusal.Refusal.{Refusal}
use Rattle.command_refusals.specs.declared.refusal.Refusal.TheVariants.{Memory}
use Rattle.command_encode.specs.Encoded.{IsValueCause}
use Rattle.library_nodes.specs.declared.description.Description.{Description}
use Rattle.library_nodes.specs.declared.TheConstants.{LISTING_LIMIT}
use Rattle.library_nodes.specs.declared.fault.BuildFault.TheVariants.{Refused}
use Rattle.library_nodes.specs.declared.listing.Listing.{Listing}
use Rattle.library_nodes.specs.declared.stop.Stop.{Stop}
use Rattle.library_nodes.specs.declared.stop.Stop.TheVariants.{At}
use Rattle.library_nodes.specs.Left.{Left}
use Rattle.library_nodes.specs.Listings.{Said, Wrong, after, said_from, said}
use Rattle.library_nodes.specs.Steps.{IsStop, Stops, AreOf, AreCellsOf}
use Rattle.library_nodes.specs.Built.{Says, IsBuildCause, has_too_many, root_types, whole}
use Rattle.library_nodes.proofs.Counts.{few_nodes as few_said}
use Rattle.library_nodes.proofs.Outcomes.{stop-after, come_both, flat_both}

-- ## The end

over : (table : Table) (xs : List Description) (zs os : List ℕ) → length xs ≡ 0 → length zs ≡ 0 → length os ≡ 0 → said_from table [] xs zs os ≡ Said []
over table [] [] [] a b c = refl
over table (x ∷ xs) zs os a b c = absurd (omega (arith, a))
over table [] (z ∷ zs) os a b c = absurd (omega (arith, b))
over table [] [] (o ∷ os) a b c = absurd (omega (arith, c))

not_over : (table : Table) (xs : List Description) (zs os : List ℕ) → (length xs ≡ 0 → length zs ≡ 0 → length os ≡ 0 → ⊥) → said_from table [] xs zs os ≡ Wrong (length xs)
not_over table [] [] [] h = absurd (h refl refl refl)
not_over table (x ∷ xs) zs os h = refl
not_over table [] (z ∷ zs) os h = refl
not_over table [] [] (o ∷ os) h = refl

-- ## Graphs

module _ (w : Setting) (l : Listing) where
  pub roots_stop : (e : Stop) → Stops w.table (root_types w) (whole l) e → IsStop e (said w.table (root_types w ++ l.cells.now) (whole l))
  roots_stop e h = h l.cells.now

  pub cells_stop : (m : Left) (vs : List Tree) (e : Stop) → AreOf w.table (root_types w) (whole l) vs m → Stops w.table l.cells.now m e
      → IsStop e (said w.table (root_types w ++ l.cells.now) (whole l))
  cells_stop m vs e a h =
      subst (IsStop e) (sym (a.come.goes l.cells.now))
      (stop-after (flat (trees vs)) e (said w.table l.cells.now m) (subst (λ (us : List ℕ). IsStop e (said w.table us m)) (append-nil l.cells.now) (h [])))

  both : (m n : Left) (vs : List Tree) (cs : List Referent) → AreOf w.table (root_types w) (whole l) vs m → AreCellsOf w.table l.cells.now m cs n
      → said w.table (root_types w ++ l.cells.now) (whole l) ≡ after (flat (trees vs) ++ flat (trees (map (λ c. c.val) cs))) (said w.table [] n)
  both m n vs cs a b =
      ap (λ (us : List ℕ). said w.table us (whole l)) (sym (append-nil (root_types w ++ l.cells.now)))
      ∙ come_both w.table (root_types w) l.cells.now (whole l) m n vs (map (λ c. c.val) cs) a.come b.come []

  pub end_stops : (m n : Left) (vs : List Tree) (cs : List Referent) (e : Stop) → AreOf w.table (root_types w) (whole l) vs m → AreCellsOf w.table l.cells.now m cs n
      → (length n.nodes ≡ 0 → length n.numbers ≡ 0 → length n.octets ≡ 0 → ⊥) → e ≡ At (length n.nodes) → IsStop e (said w.table (root_types w ++ l.cells.now) (whole l))
  end_stops m n vs cs e a b left is =
      let wrong : said w.table (root_types w ++ l.cells.now) (whole l) ≡ Wrong (length n.nodes) =
      both m n vs cs a b ∙ ap (after (flat (trees vs) ++ flat (trees (map (λ c. c.val) cs)))) (not_over w.table n.nodes n.numbers n.octets left) in
      subst (λ (x : Stop). IsStop x (said w.table (root_types w ++ l.cells.now) (whole l))) (sym is) wrong

  pub graph_read : (m n : Left) (vs : List Tree) (cs : List Referent) (g : Graph) → AreOf w.table (root_types w) (whole l) vs m → AreCellsOf w.table l.cells.now m cs n
      → (length n.nodes ≡ 0) × (length n.numbers ≡ 0) × (length n.octets ≡ 0) → g.roots ≡ vs → g.cells ≡ cs → Says w l g
  graph_read m n vs cs g a b (xs, zs, os) roots_are cells_are =
      let fs : List Flat = flat (trees vs) ++ flat (trees (map (λ c. c.val) cs)) in
      let all : said w.table (root_types w ++ l.cells.now) (whole l) ≡ Said (flat (trees (vs ++ map (λ c. c.val) cs))) =
      both m n vs cs a b ∙ ap (after fs) (over w.table n.nodes n.numbers n.octets xs zs os) ∙ ap Said (append-nil fs ∙ sym (flat_both vs (map (λ c. c.val) cs))) in
      record {
        nodes =
            all ∙ ap (λ (ts : List Tree). Said (flat (trees (ts ++ map (λ c. c.val) cs)))) (sym roots_are)
            ∙ ap (λ (ks : List Referent). Said (flat (trees (g.roots ++ map (λ c. c.val) ks)))) (sym cells_are);
        root_count = ap (λ (ts : List Tree). length ts) roots_are ∙ a.count;
        cell_types = ap (λ (ks : List Referent). map (λ c. c.of) ks) cells_are ∙ b.types;
      }

-- ## Limits

pub within : (l : Listing) → has_too_many l ≡ false → (length l.nodes.now ≤ 1073741824) × (length l.numbers.now ≤ 1073741824) × (length l.cells.now ≤ 1073741824)
within l e =
    let a : Bool = nat_lt LISTING_LIMIT (length l.nodes.now) in
    let b : Bool = nat_lt LISTING_LIMIT (length l.numbers.now) in
    let c : Bool = nat_lt LISTING_LIMIT (length l.cells.now) in
    let (ab, cells) = or_parts (a || b) c e in
    let (nodes, numbers) = or_parts a b ab in
    (ltb-false 1073741824 (length l.nodes.now) nodes, ltb-false 1073741824 (length l.numbers.now) numbers, ltb-false 1073741824 (length l.cells.now) cells)

pub few_cells : (w : Setting) (l : Listing) (g : Graph) → has_too_many l ≡ false → Says w l g → length g.cells < 2 ^ 32
few_cells w l g e s =
    omega (arith, (within l e).2, length_map (λ (c : Referent). c.of) g.cells, ap (λ (us : List ℕ). length us) s.cell_types)

pub few_nodes : (w : Setting) (l : Listing) (g : Graph) → has_too_many l ≡ false → Says w l g → HasFewNodes g
few_nodes w l g e s =
    few_said w.table (root_types w ++ l.cells.now) (whole l) (g.roots ++ map (λ c. c.val) g.cells) s.nodes (within l e).0 (within l e).1

-- ## Refusals

pub refused_is : (w : Setting) (l : Listing) (g : Graph) (e : Refusal) → Says w l g → IsValueCause w g e → IsBuildCause w l (Refused e)
refused_is w l g Memory says cause = tt
refused_is w l g e says cause = record { graph = g; says = says; cause = cause }
