-- The laws of the reader of streams.
use Rattle.std.proofs.Common.{◌≡◌, ℕ, ◌+◌, ◌<◌, ◌≤◌, zero, suc, List, [], ◌∷◌, ◌++◌, length, Option, Some, None, refl, ap, sym, ◌∙◌, inl, inr, ◌⊎◌, arith, subst, take, drop, length-take}
use Rattle.std.specs.List.{AllByRecursion}
use Rattle.std.proofs.lemmas.List.{take-append-drop, append-nil}
use Rattle.std.proofs.lemmas.Bool.{cases_lt}
use Rattle.nd_base.specs.declared.octets.Order.{Order}
use Rattle.nd_types.specs.Number.{AreOctets}
use Rattle.nd_value.specs.declared.value.Graph.{Graph}
use Rattle.nd_value.proofs.NodeFacts.{sound_partial}
use Rattle.nd_value.specs.Setting.{Setting}
use Rattle.nd_value.specs.Conforms.{HomeNode, all_nodes, Conforms, AgreesAt, Reached}
use Rattle.nd_value.specs.Misfit.{misfit_of}
use Rattle.nd_value.proofs.Apart.{all_weaker}
use Rattle.nd_grammar.specs.LegalSide.{IsLegalSide}
use Rattle.nd_grammar.specs.declared.reason.Reason.{Reason}
use Rattle.nd_grammar.specs.Entry.{Entry, size_at, end_to_end, end_of}
use Rattle.nd_grammar.specs.Stream.{Spells, IsRendered, Represents, Stream, representation, BeginsWith}
use Rattle.nd_grammar.specs.Refusal.{Bad}
use Rattle.nd_grammar.specs.StreamReader.{read_stream}
use Rattle.nd_grammar.proofs.reader.ReaderVerdict.{start, AllTaken, all_taken, stopped_is_bad}
use Rattle.nd_grammar.proofs.agreements.TestedAt.{tests_found}
use Rattle.nd_grammar.proofs.conforming.Passed.{PassedAll, all_passed, least_end}
use Rattle.nd_grammar.proofs.conforming.StreamConforming.{NodeGood, stream_good, stream_few}
use Rattle.nd_grammar.proofs.reader.ReaderStream.{Pipes, G, ms, numbering, is_partial, is_stream, numbered, goes_over, ends_within, ends_in_octets, graph_is, head, cells_fit, roots_all_made}
use Rattle.nd_grammar.proofs.reader.ReaderStream.{all_roots, all_reached, few_cells}
use Rattle.nd_value.specs.Canon.{Same}
use Rattle.nd_grammar.proofs.OneGraph.{one_graph}
use Rattle.nd_grammar.proofs.Excluded.{excluded}

-- Where reading stops, the octets are refused.
pub reader_refuses : (w : Setting) → IsLegalSide w → (order : Order) (octets : List ℕ) → AreOctets octets → (place : ℕ) (why : Reason)
    → (read_stream w order octets).progress.stop ≡ Some (place, why) → Bad w order octets place why
reader_refuses w side order octets all place why e =
    stopped_is_bad w order octets (numbering w side order octets all) (G w side order octets all) (ms w side order octets all) (Pipes w side order octets all).progress
    (is_partial w side order octets all) (is_stream w side order octets all) (numbered w side order octets all) (goes_over w side order octets all) place why e

-- octets of an entry within the first n octets
first_octets : (n s : ℕ) (xs : List ℕ) → s ≤ n → take s (take n xs) ≡ take s xs
first_octets n zero xs h = refl
first_octets zero (suc s) xs h = absurd (omega arith)
first_octets (suc n) (suc s) [] h = refl
first_octets (suc n) (suc s) (x ∷ xs) h = ap (λ u. x ∷ u) (first_octets n s xs (omega arith))

piece_in_part : (n at s : ℕ) (xs : List ℕ) → at + s ≤ n → take s (drop at (take n xs)) ≡ take s (drop at xs)
piece_in_part n zero s xs h = first_octets n s xs (omega arith)
piece_in_part zero (suc at) s xs h = absurd (omega arith)
piece_in_part (suc n) (suc at) s [] h = refl
piece_in_part (suc n) (suc at) s (x ∷ xs) h = piece_in_part n at s xs (omega arith)

rendered_in_part : (order : Order) (nums : ℕ → ℕ) (octets : List ℕ) (n at : ℕ) (ms : List Entry) → end_of at ms ≤ n → n ≤ length octets
    → AllByRecursion (IsRendered order nums octets) (end_to_end at ms) → AllByRecursion (IsRendered order nums (take n octets)) (end_to_end at ms)
rendered_in_part order nums octets n at [] h l a = tt
rendered_in_part order nums octets n at (m ∷ ms) h l a =
    let s : ℕ = size_at at m.kind in
    let b : at + s ≤ n = omega (arith, least_end (at + s) ms, h) in
    let k : length (take n octets) ≡ n = length-take n octets ∙ omega arith in (
      (omega (arith, b, k), subst (Spells order nums m.kind) (sym (piece_in_part n at s octets b)) a.0.1),
      rendered_in_part order nums octets n (at + s) ms h l a.1,
    )

module _ (w : Setting) (side : IsLegalSide w) (order : Order) (octets : List ℕ) (all : AreOctets octets) (not_stopped : (read_stream w order octets).progress.stop ≡ None) where
  abbrev g : Graph
  g = G w side order octets all

  abbrev es : List Entry
  es = ms w side order octets all

  abbrev nums : ℕ → ℕ
  nums = numbering w side order octets all

  abbrev end : ℕ
  end = (Pipes w side order octets all).progress.at

  taken_all : AllTaken order octets nums start es (Pipes w side order octets all).progress
  taken_all = all_taken order octets nums es start (Pipes w side order octets all).progress refl not_stopped (goes_over w side order octets all)

  ends_there : end_of 0 es ≡ end
  ends_there = sym taken_all.at

  passed : PassedAll es
  passed = record {
    passed =
        all_passed order octets nums [] 0 es (tests_found w side g (sound_partial w g (is_partial w side order octets all)) es (is_stream w side order octets all) order nums octets taken_all.rendered)
        taken_all.rendered taken_all.accepted;
    light = omega (arith, least_end 0 es, ends_there, ends_within w side order octets all);
  }

  its_stream : Stream w g es
  its_stream = is_stream w side order octets all

  passed_all : PassedAll (representation w g its_stream.steps its_stream.cuts)
  passed_all = subst PassedAll its_stream.is_representation passed

  reached : (c : ℕ) → 0 < c → c < length g.cells + 1 → Reached w g c
  reached c a b = all_reached w side order octets all c a (omega arith)

  abbrev Node : HomeNode → Type 0
  Node x = NodeGood w g x.typed

  nodes : AllByRecursion Node (all_nodes w g)
  nodes =
      stream_good w side g (cells_fit w side order octets all) (roots_all_made w side order octets all) (all_roots w side order octets all) (head w side order octets all).state.cells_made reached
      its_stream.steps its_stream.deferral its_stream.cuts its_stream.all_cut passed_all

  graph_conforms : Conforms w g
  graph_conforms = record {
    all_roots = all_roots w side order octets all;
    machine_values = (is_partial w side order octets all).machine_values;
    local = all_weaker Node (λ x. misfit_of w.table g x.typed ≡ None) (λ x k. k.fit) (all_nodes w g) nodes;
    unshared = (is_partial w side order octets all).unshared;
    reached = reached;
    agreed = all_weaker Node (λ x. AgreesAt g x.typed) (λ x k. k.agrees) (all_nodes w g) nodes;
    few_cells = few_cells w side order octets all;
    few_nodes =
        stream_few w side g (cells_fit w side order octets all) (roots_all_made w side order octets all) (all_roots w side order octets all) (head w side order octets all).state.cells_made reached
        its_stream.steps its_stream.deferral its_stream.cuts its_stream.all_cut passed_all;
  }

  begins : BeginsWith w order octets end g
  begins = record {
    within = ends_in_octets w side order octets all;
    represented = record {
      entries = es;
      stream = is_stream w side order octets all;
      numbering = nums;
      is_numbering = numbered w side order octets all;
      rendered = rendered_in_part order nums octets end 0 es (omega (arith, ends_there)) (ends_in_octets w side order octets all) taken_all.rendered;
      whole = ends_there ∙ sym (length-take end octets ∙ omega (arith, ends_in_octets w side order octets all));
      within = omega (arith, length-take end octets, ends_within w side order octets all);
    };
    conforms = graph_conforms;
  }

-- Where it does not stop, the octets begin with a stream of the graph that is read, and it conforms.
pub reader_accepts : (w : Setting) → IsLegalSide w → (order : Order) (octets : List ℕ) → AreOctets octets → (read_stream w order octets).progress.stop ≡ None
    → BeginsWith w order octets (read_stream w order octets).progress.at (read_stream w order octets).graph
reader_accepts w side order octets all e =
    subst (BeginsWith w order octets (read_stream w order octets).progress.at) (sym (graph_is w side order octets all)) (begins w side order octets all e)

-- One of the two holds.
pub one_of_two : (w : Setting) → IsLegalSide w → (order : Order) (octets : List ℕ) → AreOctets octets
    → ((n : ℕ) × (g : Graph) × BeginsWith w order octets n g) ⊎ ((place : ℕ) × (why : Reason) × Bad w order octets place why)
one_of_two w side order octets all = go (read_stream w order octets).progress.stop refl
  where
    go : (o : Option (ℕ × Reason)) → (read_stream w order octets).progress.stop ≡ o
        → ((n : ℕ) × (g : Graph) × BeginsWith w order octets n g) ⊎ ((place : ℕ) × (why : Reason) × Bad w order octets place why)
    go None e = inl ((read_stream w order octets).progress.at, (read_stream w order octets).graph, reader_accepts w side order octets all e)
    go (Some (place, why)) e = inr (place, why, reader_refuses w side order octets all place why e)

-- And never both.
pub never_both : (w : Setting) → IsLegalSide w → (order : Order) (octets : List ℕ) (n : ℕ) (g : Graph) (place : ℕ) (why : Reason)
    → BeginsWith w order octets n g → Bad w order octets place why → ⊥
never_both w side order octets n g place why b bad =
    excluded w side order octets place why bad (take n octets) (drop n octets) (sym (take-append-drop n octets)) g b.conforms b.represented

-- a first part of a first part
part_of_part : (n m : ℕ) (xs : List ℕ) → n ≤ m → take m xs ≡ take n xs ++ drop n (take m xs)
part_of_part n m xs h = sym (take-append-drop n (take m xs)) ∙ ap (λ u. u ++ drop n (take m xs)) (first_octets m n xs h)

same_end : (w : Setting) → IsLegalSide w → (order : Order) (octets : List ℕ) (n m : ℕ) (g h : Graph) → n ≤ m → BeginsWith w order octets n g → BeginsWith w order octets m h → n ≡ m
same_end w side order octets n m g h k a b =
    let e : take m octets ≡ take n octets ++ drop n (take m octets) = part_of_part n m octets k in
    let r = one_graph w side order (take n octets) (drop n (take m octets)) h g b.conforms a.conforms (subst (λ u. Represents w order u h) e b.represented) a.represented in
    let l : length (take m octets) ≡ length (take n octets) = ap length (e ∙ ap (λ u. take n octets ++ u) r.0 ∙ append-nil (take n octets)) in
    omega (arith, l, length-take m octets, length-take n octets, a.within, b.within)

-- Octets begin with one stream alone, and it is of one graph up to the numbers of its cells.
pub one_beginning : (w : Setting) → IsLegalSide w → (order : Order) (octets : List ℕ) (n m : ℕ) (g h : Graph)
    → BeginsWith w order octets n g → BeginsWith w order octets m h → (n ≡ m) × Same g h
one_beginning w side order octets n m g h a b = go (cases_lt n m)
  where
    same_graph : n ≡ m → Same g h
    same_graph e =
        let r : Represents w order (take n octets) h = subst (λ u. Represents w order (take u octets) h) (sym e) b.represented in
        let s : Represents w order (take n octets ++ []) g = subst (λ u. Represents w order u g) (sym (append-nil (take n octets))) a.represented in
        (one_graph w side order (take n octets) [] g h a.conforms b.conforms s r).1

    go : (n < m) ⊎ (m ≤ n) → (n ≡ m) × Same g h
    go (inl k) = let e : n ≡ m = same_end w side order octets n m g h (omega arith) a b in (e, same_graph e)
    go (inr k) = let e : n ≡ m = sym (same_end w side order octets m n h g k b a) in (e, same_graph e)
