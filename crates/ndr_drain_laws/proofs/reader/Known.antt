-- What is known of the nodes of elements that were read by themselves: their entries before an entry fix the next one, and their agreements find their counts.
use Rattle.std.proofs.Common.{◌≡◌, ℕ, ◌+◌, suc, List, [], ◌∷◌, ◌++◌, refl, sym, ◌∙◌, inr, subst, replicate, arith}
use Rattle.std.specs.Prelude.{flat_map}
use Rattle.std.specs.List.{AllByRecursion}
use Rattle.std.proofs.lemmas.List.{append-nil}
use Rattle.nd_base.specs.declared.octets.Order.{Order}
use Rattle.nd_value.specs.declared.item.Home.{Home}
use Rattle.nd_value.specs.declared.item.Home.TheVariants as home
use Rattle.nd_value.specs.Deferral.{pointer}
use Rattle.nd_value.specs.Nodes.{TypedNode, nodes_of}
use Rattle.nd_value.specs.Setting.{Setting}
use Rattle.nd_value.specs.Tree.{Trees}
use Rattle.nd_value.proofs.NodeFacts.{read_node}
use Rattle.nd_grammar.specs.Entry.{Entry, in_place}
use Rattle.nd_grammar.specs.LegalSide.{IsLegalSide}
use Rattle.nd_grammar.proofs.LegalSides.{laid_out}
use Rattle.nd_grammar.proofs.next.HoistedMaxes.{maxes_of_many}
use Rattle.nd_grammar.proofs.next.KnownNodes.{SoundNode, known_nodes}
use Rattle.nd_grammar.proofs.next.Mapped.{no_pointers}
use Rattle.nd_grammar.proofs.next.Matching.{Known}
use Rattle.nd_grammar.proofs.next.Next.{Pair, OneToOne, Readings, Next}
use Rattle.nd_grammar.proofs.next.NextInPlace.{in_place_next}
use Rattle.nd_grammar.proofs.next.NextStream.{FitsPipes}
use Rattle.nd_grammar.proofs.reader.MadeTrees.{CellFits, IsPartialNode, made_count, made_nodes}
use Rattle.nd_grammar.specs.MadeTrees.{MadeTrees}
use Rattle.ndr_drain_laws.specs.parts.Parts.{Spot, elem_at, no_graph}
use Rattle.ndr_drain_laws.specs.reader.PartReader.{IsAtPipe}
use Rattle.ndr_drain_laws.proofs.reader.Elements.{fits, many, plain}
use Rattle.ndr_drain_laws.proofs.reader.Renumbered.{own_entries}

module _ (w : Setting) (side : IsLegalSide w) (s : Spot) (at_pipe : IsAtPipe w s) where
  abbrev h : Home
  h = home.Root s.root

  abbrev e : ℕ
  e = elem_at w s.root

  sound : (xs : List TypedNode) → AllByRecursion (IsPartialNode no_graph w.table) xs → AllByRecursion (SoundNode w.table no_graph) xs
  sound [] a = tt
  sound (x ∷ xs) a = (record { machine = a.0.machine; read = read_node w.table no_graph x a.0.local }, sound xs a.1)

  pub elements_known : (k : ℕ) (ts : Trees) → MadeTrees w.table (replicate k (elem_at w s.root)) ts → Known no_graph w.table (replicate k (elem_at w s.root)) ts
  elements_known k ts made =
      let z : flat_map (pointer w.table h) (nodes_of w.table (replicate k e) [] 1 ts) ≡ [] =
      no_pointers w.table h (replicate k e) [] 1 ts (many (FitsPipes w.table) e k (fits w side s at_pipe)) in
      known_nodes w.table no_graph (replicate k e) [] 1 ts (made_count w.table (replicate k e) ts made)
      (sound (nodes_of w.table (replicate k e) [] 1 ts) (made_nodes no_graph w.table h (replicate k e) [] [] 1 ts made (subst (AllByRecursion (CellFits [])) (sym z) tt)))

  -- ## The next entry

  abbrev pub AnyMap : List Pair → Type 0
  AnyMap ys = Unit {0}

  -- full pointers may be numbered so
  abbrev pub two_readings : Order → List ℕ → Readings
  two_readings order octets = record {
    order = order;
    octets = octets;
    left = suc;
    right = suc;
    left_low = λ c. omega arith;
    right_low = λ c. omega arith;
    left_one = λ c d x. omega (arith, x);
    right_one = λ c d x. omega (arith, x);
  }

  module _ (order : Order) (octets : List ℕ) where
    abbrev N : ℕ → List Entry → List Entry → Type 0
    N at ms ns = Next (two_readings order octets) OneToOne AnyMap [] at ms ns

    elements_next : (k : ℕ) (ts us : Trees) → Known no_graph w.table (replicate k e) ts → Known no_graph w.table (replicate k e) us → (p : ℕ)
        → N p (in_place w.table h (replicate k e) 1 ts) (in_place w.table h (replicate k e) 1 us)
    elements_next k ts us a b p =
        let I : List Entry = in_place w.table h (replicate k e) 1 ts in
        let J : List Entry = in_place w.table h (replicate k e) 1 us in
        let n : N p (I ++ []) (J ++ []) =
        in_place_next (two_readings order octets) OneToOne AnyMap [] tt w.table no_graph no_graph h h refl (replicate k e) 1 ts us a b
        (maxes_of_many w.table (laid_out w side).hoisting no_graph no_graph e k ts us (plain w side s at_pipe) a b) [] [] p (λ q m. ([], tt, tt)) in
        subst (λ xs. N p xs J) (append-nil I) (subst (N p (I ++ [])) (append-nil J) n)

    pub chunks_next : (k j : ℕ) (ts us : Trees) → MadeTrees w.table (replicate k (elem_at w s.root)) ts → MadeTrees w.table (replicate j (elem_at w s.root)) us → (at : ℕ)
        → Next (two_readings order octets) OneToOne AnyMap [] at (own_entries w s k ts) (own_entries w s j us)
    chunks_next k j ts us a b at =
        inr (inr ([], tt, refl, (refl, refl), λ _ _. inr (inr ([], tt, refl, (refl, refl), λ x y. next _ (sym x.1 ∙ y.1)))))
      where
        next : (p : ℕ) → k ≡ j → N p (in_place w.table h (replicate k e) 1 ts) (in_place w.table h (replicate j e) 1 us)
        next p f =
            subst (λ i. N p (in_place w.table h (replicate k e) 1 ts) (in_place w.table h (replicate i e) 1 us)) f
            (elements_next k ts us (elements_known k ts a) (elements_known k us (subst (λ i. MadeTrees w.table (replicate i e) us) (sym f) b)) p)
