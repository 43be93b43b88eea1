-- The beginning of the pipes of a stream, of each of them, and their end.
use Rattle.std.proofs.Common.{◌≡◌, ℕ, ◌+◌, suc, false, List, [], ◌∷◌, ◌++◌, length, Option, Some, None, ap, sym, ◌∙◌, subst, arith, length-append, drop}
use Rattle.std.proofs.lemmas.List.{append-nil}
use Rattle.nd_base.specs.declared.octets.Order.{Order}
use Rattle.nd_types.specs.declared.types.Attr.{Attr}
use Rattle.nd_types.specs.declared.types.TypeId.{TypeId}
use Rattle.nd_types.specs.declared.types.TypeDef.{TypeDef}
use Rattle.nd_types.specs.declared.types.TypeDef.TheVariants as def
use Rattle.nd_types.specs.Number.{AreOctets}
use Rattle.nd_types.specs.Roots.{Root}
use Rattle.nd_types.specs.Table.{type_at}
use Rattle.nd_value.specs.declared.item.Home.TheVariants as home
use Rattle.nd_value.specs.declared.item.Item.{Item}
use Rattle.nd_value.specs.declared.value.Graph.{Graph}
use Rattle.nd_value.specs.Deferral.{before_pipes}
use Rattle.nd_value.specs.Setting.{Setting, root_list}
use Rattle.nd_value.specs.Tree as tree
use Rattle.nd_value.specs.Tree.{Tree, node, none}
use Rattle.nd_grammar.specs.Entry.{EntryAt}
use Rattle.nd_grammar.specs.LegalSide.{IsLegalSide}
use Rattle.nd_grammar.specs.Refusal.{tested_at}
use Rattle.nd_grammar.specs.Reader.{Names}
use Rattle.nd_grammar.specs.StreamReader.{Reading, Found, ReadPipe, ReadPipes, graph_of, read_chunks, read_pipe, read_pipes, read_stream}
use Rattle.nd_grammar.proofs.LegalSides.{laid_out}
use Rattle.nd_grammar.proofs.reader.ReaderPipes.{pipes_read}
use Rattle.ndr_decoder_laws.specs.reader.Around.{going}
use Rattle.ndr_decoder_laws.specs.steps.Good.{Told}
use Rattle.ndr_decoder_laws.specs.stream.Added.{Goes}
use Rattle.ndr_decoder_laws.specs.stream.Between.{Between, Keeps}
use Rattle.ndr_decoder_laws.specs.stream.Parameters.{pipes_from}
use Rattle.ndr_decoder_laws.proofs.stream.StreamGrows.{pipes_go}
use Rattle.nd_grammar.specs.decoded.Needed.{IsNeeded}
use Rattle.ndr_decoder_laws.specs.pipes.Reading.{Reads}
use Rattle.ndr_decoder_laws.proofs.pipes.PipeEntries.{both_octets}
use Rattle.ndr_decoder_laws.specs.pipes.Pipes.{Position, ReadsPipes, InPipes, InPipe, at_chunk, pipes_due}

-- after the agreements of the parameters
module _ (w : Setting) (side : IsLegalSide w) (order : Order) (fetched : List ℕ) (noted : List Item) (direct : ℕ) (b : Between) (s : Reading) (after : List EntryAt) (octets : AreOctets fetched)
    (keeps : Keeps w order fetched noted direct b s after []) (roots_are : length s.roots ≡ before_pipes (root_list w)) (needed : IsNeeded w order fetched)
    (goes : (later : List ℕ) → AreOctets later → read_stream w order (fetched ++ later) ≡ pipes_from w order (fetched ++ later) s (going b.at after)) where
  abbrev n : ℕ
  n = before_pipes (root_list w)

  abbrev left : List Root
  left = drop n (root_list w)

  abbrev found : List ℕ → ReadPipes
  found later = read_pipes w order (fetched ++ later) n left (going b.at after) s.names

  names_stay : (later : List ℕ) → AreOctets (fetched ++ later) → (found later).names ≡ s.names
  names_stay later all =
      (pipes_read w side order (fetched ++ later) all n left (laid_out w side).pipes (going b.at after) s.names
      (let r : length fetched ≡ b.at = keeps.at in let l : length (fetched ++ later) ≡ length fetched + length later = length-append fetched later in omega (arith, r, l))).names

  pub pipes_begin : InPipes w order fetched noted direct s.names (before_pipes (root_list w)) (drop (before_pipes (root_list w)) (root_list w)) s.roots (pipes_due b after s.names)
  pipes_begin = record {
    stands = record {
      octets = octets;
      reached = keeps.at;
      told = λ j l. keeps.told (home.Root j) (omega (arith, roots_are, l));
      needed = needed;
      cells_stay = λ later a. ap (λ (f : Found). f.graph.cells) (goes later a) ∙ ap (λ (u : Names). u.cells) (names_stay later (both_octets fetched later octets a));
    };
    reads = λ later a. record { progress = ap (λ (f : Found). f.progress) (goes later a); graph = ap (λ (f : Found). f.graph) (goes later a) };
  }

-- ## Between two pipes

module _ (w : Setting) (order : Order) (fetched : List ℕ) (noted : List Item) (direct : ℕ) (first : Names) (i : ℕ) (rs : List Root) (roots : List Tree) (k : Position) where
  -- reading goes on from here
  pub pipes_add : InPipes w order fetched noted direct first i rs roots k → (later : List ℕ) → AreOctets later → Goes (going k.at k.seen) (read_stream w order (fetched ++ later)).progress
  pipes_add p later a = subst (Goes (going k.at k.seen)) (sym (p.reads later a).progress) (pipes_go w order (fetched ++ later) i rs (going k.at k.seen) k.names)

  -- the next pipe
  module _ (r : Root) (elem : TypeId) (there : type_at w.table r.of ≡ Some (def.Pipe elem)) (p : InPipes w order fetched noted direct first i (r ∷ rs) roots k) where
    one_on : (a : Attr) (j : ℕ) → tested_at k.seen a (home.Root i) (1 + j) ≡ tested_at k.seen a (home.Root i) (0 + (1 + j))
    one_on a j = let z : 1 + j ≡ 0 + (1 + j) = omega arith in ap (tested_at k.seen a (home.Root i)) z

    told_from : Told noted direct order fetched (home.Root i) k.seen k.names k.cells k.numbers None 0 [] → Told noted direct order fetched (home.Root i) k.seen k.names k.cells k.numbers None 1 []
    told_from t =
        record { noted_are = t.noted_are; cells_are = t.cells_are; cells_named = t.cells_named; numbers_are = t.numbers_are; ahead = λ a j. one_on a j ∙ t.ahead a (1 + j); lie_within = t.lie_within }

    pub pipe_begins : InPipe w order fetched noted direct first i rs roots elem none None 4 (at_chunk w order i elem none k) k
    pipe_begins = record {
      stands = record {
        octets = p.stands.octets;
        reached = p.stands.reached;
        told = λ j l. p.stands.told j (omega (arith, l));
        needed = p.stands.needed;
        cells_stay = p.stands.cells_stay;
      };
      told = told_from (p.stands.told i (omega arith));
      found = λ a. (p.stands.told i (omega arith)).ahead a 0;
      made = tt;
      reads = λ later a. (length (fetched ++ later), omega arith, by_type later (p.reads later a));
    }
      where
        by_type : (later : List ℕ) → ReadsPipes w order (fetched ++ later) i (r ∷ rs) roots (going k.at k.seen) k.names
            → Reads w order (fetched ++ later) i rs roots none (at_chunk w order i elem none k (fetched ++ later) (length (fetched ++ later)))
        by_type later q =
            let z : List ℕ = fetched ++ later in
            let of_type : Option TypeDef → ReadPipe = λ d. read_pipe w order z d false i (going k.at k.seen) k.names in
            let after : ReadPipe → ReadPipes = λ u. read_pipes w order z (i + 1) rs u.progress u.names in
            let fuel : length z + 1 ≡ suc (length z) = omega arith in
            let e : of_type (type_at w.table r.of) ≡ at_chunk w order i elem none k z (length z) =
            ap of_type there ∙ ap (λ f. read_chunks w order z f (home.Root i) elem.0 1 (going k.at k.seen) k.names) fuel in
            record {
              progress = q.progress ∙ ap (λ u. (after u).progress) e;
              graph = q.graph ∙ ap (λ (u : ReadPipe). graph_of (roots ++ node tree.Pipe u.trees ∷ (after u).roots) (after u).names) e;
            }

  -- there is none: the stream ends
  pub pipes_end : InPipes w order fetched noted direct first i [] roots k
      → ((read_stream w order fetched).progress ≡ going (length fetched) k.seen) × ((read_stream w order fetched).graph ≡ graph_of roots first)
  pipes_end p =
      let z : fetched ++ [] ≡ fetched = append-nil fetched in
      let q : ReadsPipes w order fetched i [] roots (going k.at k.seen) k.names = subst (λ u. ReadsPipes w order u i [] roots (going k.at k.seen) k.names) z (p.reads [] tt) in
      let c : (read_stream w order fetched).graph.cells ≡ first.cells = subst (λ u. (read_stream w order u).graph.cells ≡ first.cells) z (p.stands.cells_stay [] tt) in
      let g : (read_stream w order fetched).graph ≡ graph_of roots k.names = q.graph ∙ ap (λ us. graph_of us k.names) (append-nil roots) in
      let same : k.names.cells ≡ first.cells = ap (λ (u : Graph). u.cells) (sym g) ∙ c in (
        q.progress ∙ ap (λ a. going a k.seen) (sym p.stands.reached),
        g ∙ ap (λ cs. record { roots = roots; cells = cs }) same,
      )
