-- Where reading has stopped within a pipe it stays so; and reading only adds to the entries that were passed.
use Rattle.std.proofs.Common.{◌≡◌, ℕ, ◌+◌, zero, suc, Bool, true, false, List, [], refl, ap, sym, ◌∙◌, subst, replicate}
use Rattle.std.specs.Prelude.{eqb}
use Rattle.nd_base.specs.declared.octets.Order.{Order}
use Rattle.nd_types.specs.Roots.{Root}
use Rattle.nd_value.specs.declared.item.Home.{Home}
use Rattle.nd_value.specs.Setting.{Setting}
use Rattle.nd_value.specs.Tree.{Tree, Trees, none, node_count}
use Rattle.nd_grammar.specs.declared.reason.Reason.{Reason}
use Rattle.nd_grammar.specs.Entry.{EntryAt, Align, Chunk}
use Rattle.nd_grammar.specs.Reader.{Progress, Names, ReadAll, pass, taken, number_in, read_list, read_in_place}
use Rattle.nd_grammar.specs.StreamReader.{ReadPipe, read_chunks, read_pipes, read_stream}
use Rattle.ndr_decoder_laws.specs.reader.Around.{stopped}
use Rattle.ndr_decoder_laws.specs.stream.Added.{Goes}
use Rattle.ndr_decoder_laws.proofs.stream.Growing.{pass_adds, list_adds, in_place_adds}
use Rattle.ndr_decoder_laws.proofs.stream.Heads.{pipes_stay}
use Rattle.ndr_decoder_laws.proofs.stream.StreamGrows.{goes_by, goes_nowhere, goes_twice, pipes_go}
use Rattle.ndr_decoder_laws.specs.pipes.Reading.{Reads, chosen, count_then, elements_then, of_pipe}

module _ (w : Setting) (order : Order) (octets : List ℕ) (at : ℕ) (seen : List EntryAt) (why : ℕ × Reason) where
  abbrev end : Progress
  end = stopped at seen why

  chunks_there : (fuel : ℕ) (h : Home) (elem n : ℕ) (s : Names) → (read_chunks w order octets fuel h elem n end s).progress ≡ end
  chunks_there zero h elem n s = refl
  chunks_there (suc more) h elem n s = refl

  pub chunks_stay : (fuel : ℕ) (h : Home) (elem n : ℕ) (p : Progress) (s : Names) → p ≡ end → (read_chunks w order octets fuel h elem n p s).progress ≡ end
  chunks_stay fuel h elem n p s e = ap (λ q. (read_chunks w order octets fuel h elem n q s).progress) e ∙ chunks_there fuel h elem n s

  count_there : (more : ℕ) (h : Home) (elem n : ℕ) (s : Names) → (count_then w order octets more h elem n end s).progress ≡ end
  count_there more h elem n s = refl

  pub count_stays : (more : ℕ) (h : Home) (elem n : ℕ) (p : Progress) (s : Names) → p ≡ end → (count_then w order octets more h elem n p s).progress ≡ end
  count_stays more h elem n p s e = ap (λ q. (count_then w order octets more h elem n q s).progress) e ∙ count_there more h elem n s

  -- so is the whole stream refused
  pub reads_stop : (i : ℕ) (rs : List Root) (roots : List Tree) (done : Trees) (rest : ReadPipe) → Reads w order octets i rs roots done rest → rest.progress ≡ end
      → (read_stream w order octets).progress ≡ end
  reads_stop i rs roots done rest r e = r.progress ∙ pipes_stay w order octets at seen why (i + 1) rs rest.progress rest.names e

module _ (w : Setting) (order : Order) (octets : List ℕ) where
  by_count : (p : Progress) (b : Bool) (t u : ReadPipe) → Goes p t.progress → Goes p u.progress → Goes p (chosen b t u).progress
  by_count p true t u f g = f
  by_count p false t u f g = g

  -- what comes after some of the chunks
  module _ (h : Home) (elem : ℕ) where
    pub chunks_go : (fuel n : ℕ) (p : Progress) (s : Names) → Goes p (read_chunks w order octets fuel h elem n p s).progress
    chunks_go zero n p s = goes_nowhere p
    chunks_go (suc more) n p s =
        let gap : Progress = pass order octets (of_pipe h (Align 4)) p in
        let k : ℕ = number_in order octets (taken order octets (of_pipe h (Chunk 0)) gap) in
        let q : Progress = pass order octets (of_pipe h (Chunk k)) gap in
        let kids : ReadAll = read_list w.table (read_in_place order octets w.table h 32 0) (replicate k elem) n q s in
        let others : ReadPipe = read_chunks w order octets more h elem (n + node_count kids.trees) kids.progress kids.names in
        let first : Goes p q =
        goes_twice p gap q (goes_by h p gap (pass_adds order octets h (of_pipe h (Align 4)) p refl)) (goes_by h gap q (pass_adds order octets h (of_pipe h (Chunk k)) gap refl)) in
        let elements : Goes q kids.progress =
        goes_by h q kids.progress (list_adds order octets w.table h (read_in_place order octets w.table h 32 0) (in_place_adds order octets w.table h 32 0) (replicate k elem) n q s) in
        by_count p (eqb k 0) (record { trees = none; cut = []; progress = q; names = s }) (elements_then w order octets more h elem n k q s) first
        (goes_twice p q others.progress first (goes_twice q kids.progress others.progress elements (chunks_go more (n + node_count kids.trees) kids.progress kids.names)))

    -- after the elements of a chunk
    pub elements_go : (more n k : ℕ) (p : Progress) (s : Names) → Goes p (elements_then w order octets more h elem n k p s).progress
    elements_go more n k p s =
        let kids : ReadAll = read_list w.table (read_in_place order octets w.table h 32 0) (replicate k elem) n p s in
        let others : ReadPipe = read_chunks w order octets more h elem (n + node_count kids.trees) kids.progress kids.names in
        goes_twice p kids.progress others.progress
        (goes_by h p kids.progress (list_adds order octets w.table h (read_in_place order octets w.table h 32 0) (in_place_adds order octets w.table h 32 0) (replicate k elem) n p s))
        (chunks_go more (n + node_count kids.trees) kids.progress kids.names)

    pub count_goes : (more n : ℕ) (p : Progress) (s : Names) → Goes p (count_then w order octets more h elem n p s).progress
    count_goes more n p s =
        let k : ℕ = number_in order octets (taken order octets (of_pipe h (Chunk 0)) p) in
        let q : Progress = pass order octets (of_pipe h (Chunk k)) p in
        let first : Goes p q = goes_by h p q (pass_adds order octets h (of_pipe h (Chunk k)) p refl) in
        by_count p (eqb k 0) (record { trees = none; cut = []; progress = q; names = s }) (elements_then w order octets more h elem n k q s) first
        (goes_twice p q (elements_then w order octets more h elem n k q s).progress first (elements_go more n k q s))

  pub reads_go : (i : ℕ) (rs : List Root) (roots : List Tree) (done : Trees) (rest : ReadPipe) → Reads w order octets i rs roots done rest → (p : Progress) → Goes p rest.progress
      → Goes p (read_stream w order octets).progress
  reads_go i rs roots done rest r p g =
      subst (Goes p) (sym r.progress)
      (goes_twice p rest.progress (read_pipes w order octets (i + 1) rs rest.progress rest.names).progress g (pipes_go w order octets (i + 1) rs rest.progress rest.names))
