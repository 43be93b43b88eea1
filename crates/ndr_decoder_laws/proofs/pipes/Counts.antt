-- The count of a chunk: it is refused, or it ends the pipe, or so many elements come.
use Rattle.std.proofs.Common.{◌≡◌, ◌≤◌, ◌<◌, ℕ, ◌+◌, ◌*◌, suc, Bool, true, false, List, [], ◌∷◌, ◌++◌, length, Option, Some, None, refl, ap, ap₂, sym, ◌∙◌, subst, arith, append_assoc, length-append}
use Rattle.std.specs.Prelude.{eqb, ltb}
use Rattle.std.proofs.lemmas.List.{append-nil}
use Rattle.std.proofs.lemmas.Bool.Decides.{nat_tests}
use Rattle.nd_base.specs.declared.octets.Order.{Order}
use Rattle.nd_base.specs.declared.TheConstants.{STREAM_LIMIT}
use Rattle.nd_types.specs.declared.types.TypeId.{TypeId}
use Rattle.nd_types.specs.Number.{AreOctets, unsigned}
use Rattle.nd_types.specs.Roots.{Root}
use Rattle.nd_value.specs.declared.item.Home.{Home}
use Rattle.nd_value.specs.declared.item.Home.TheVariants as home
use Rattle.nd_value.specs.declared.item.Item.{Item}
use Rattle.nd_value.specs.Setting.{Setting}
use Rattle.nd_value.specs.Tree as tree
use Rattle.nd_value.specs.Tree.{Tree, Trees, node, none, node_count}
use Rattle.nd_value.proofs.Apart.{all_left}
use Rattle.nd_grammar.specs.declared.reason.Reason.{Reason}
use Rattle.nd_grammar.specs.declared.reason.Reason.TheVariants as reason
use Rattle.nd_grammar.specs.Entry.{Entry, EntryAt, Chunk}
use Rattle.nd_grammar.specs.Refusal.{refusal}
use Rattle.nd_grammar.specs.Stream.{piece}
use Rattle.nd_grammar.specs.Reader.{Names, Progress, pass, taken, taken_by, number_in}
use Rattle.nd_grammar.specs.StreamReader.{ReadPipe, graph_of, read_pipes, read_stream}
use Rattle.ndr_decoder_laws.specs.reader.Around.{going, stopped}
use Rattle.ndr_decoder_laws.proofs.reader.Continuing.{passed, refused}
use Rattle.ndr_decoder_laws.proofs.reader.Fetched.{cut_refused, long_refused}
use Rattle.nd_flat.proofs.Forests.{joined-none as joined_none}
use Rattle.ndr_decoder_laws.specs.steps.Good.{Told}
use Rattle.ndr_decoder_laws.proofs.steps.Passing.{items_it, judged, lies_it, silent, taken_it, told_passed, tested_passed}
use Rattle.std.proofs.lemmas.Bool.{le-ltb as no_less, lt-ltb as is_less}
use Rattle.ndr_decoder_laws.specs.stream.Added.{Goes}
use Rattle.ndr_decoder_laws.proofs.stream.Needing.{NeededAfter}
use Rattle.ndr_decoder_laws.specs.pipes.Reading.{Reads, chosen, count_then, elements_then, of_pipe}
use Rattle.ndr_decoder_laws.specs.pipes.Pipes.{Position, Stands, InPipe, InPipes, ReadsPipes, at_count, at_elements, count_item, past_count}
use Rattle.ndr_decoder_laws.proofs.pipes.PipeEntries.{both_octets, stands_on}
use Rattle.ndr_decoder_laws.proofs.pipes.Staying.{count_goes, reads_go, reads_stop}

not_zero : (n : ℕ) → eqb (suc n) 0 ≡ false
not_zero n = grind (arith, nat_tests)

-- a count that is not taken is 0, and reading stops at it
module _ (w : Setting) (order : Order) (z : List ℕ) (more : ℕ) (h : Home) (elem n at : ℕ) (seen : List EntryAt) (s : Names) where
  abbrev nothing : Progress → ReadPipe
  nothing q = record { trees = none; cut = []; progress = q; names = s }

  abbrev past : ℕ → Progress
  past v = pass order z (of_pipe h (Chunk v)) (going at seen)

  abbrev by_count : Bool → ℕ → Progress → ReadPipe
  by_count b v q = chosen b (nothing q) (elements_then w order z more h elem n v q s)

  abbrev by_octets : Option (List ℕ) → ReadPipe
  by_octets o = by_count (eqb (number_in order z o) 0) (number_in order z o) (past (number_in order z o))

  by_taken : (o : Option (List ℕ)) → taken order z (of_pipe h (Chunk 0)) (going at seen) ≡ o → count_then w order z more h elem n (going at seen) s ≡ by_octets o
  by_taken o e = ap by_octets e

  pub count_refused : (why : ℕ × Reason) → refusal order z seen (record { at = at; entry = of_pipe h (Chunk 0) }) ≡ Some why
      → (count_then w order z more h elem n (going at seen) s).progress ≡ stopped at seen why
  count_refused why e =
      let t : taken order z (of_pipe h (Chunk 0)) (going at seen) ≡ None = ap (λ o. taken_by None o (piece z at (Chunk 0))) e in
      ap (λ (r : ReadPipe). r.progress) (by_taken None t) ∙ refused order z (of_pipe h (Chunk 0)) at seen why e

  pub count_taken : (os : List ℕ) → taken order z (of_pipe h (Chunk 0)) (going at seen) ≡ Some os → (b : Bool) → eqb (unsigned order os) 0 ≡ b → (q : Progress)
      → past (unsigned order os) ≡ q → count_then w order z more h elem n (going at seen) s ≡ by_count b (unsigned order os) q
  count_taken os t b e q f = by_taken (Some os) t ∙ ap₂ (λ c u. by_count c (unsigned order os) u) e f

module _ (w : Setting) (order : Order) (fetched : List ℕ) (noted : List Item) (direct : ℕ) (first : Names) (i : ℕ) (rs : List Root) (roots : List Tree) (elem : TypeId) (done : Trees)
    (max_at : Option ℕ) (k : Position)
    (p : InPipe w order fetched noted direct first i rs roots elem done max_at 4 (at_count w order i elem done k) k) where
  abbrev h : Home
  h = home.Root i

  abbrev n : ℕ
  n = 1 + node_count done

  abbrev m : ℕ → Entry
  m v = of_pipe h (Chunk v)

  stops : (later : List ℕ) → AreOctets later → (why : ℕ × Reason) → refusal order (fetched ++ later) k.seen (record { at = k.at; entry = m 0 }) ≡ Some why
      → (read_stream w order (fetched ++ later)).progress ≡ stopped k.at k.seen why
  stops later a why e =
      let (more, few, r) = p.reads later a in
      reads_stop w order (fetched ++ later) k.at k.seen why i rs roots done (at_count w order i elem done k (fetched ++ later) more) r
      (count_refused w order (fetched ++ later) more h elem.0 n k.at k.seen k.names why e)

  -- it would end past the limit of a stream
  pub count_long : STREAM_LIMIT < k.at + 4 → (later : List ℕ) → AreOctets later → (read_stream w order (fetched ++ later)).progress ≡ stopped k.at k.seen (STREAM_LIMIT, reason.TooLong)
  count_long long later a =
      let why : ℕ × Reason = (STREAM_LIMIT, reason.TooLong) in
      let l : ltb STREAM_LIMIT (length fetched + 4) ≡ true = is_less STREAM_LIMIT (length fetched + 4) (let r : length fetched ≡ k.at = p.stands.reached in omega (arith, r, long)) in
      stops later a why
      (subst (λ b. refusal order (fetched ++ later) k.seen (record { at = b; entry = m 0 }) ≡ Some why) p.stands.reached
      (ap (λ z. refusal order (z ++ later) k.seen (record { at = length fetched; entry = m 0 })) (sym (append-nil fetched)) ∙ long_refused order fetched [] later (m 0) k.seen l))

  -- it is cut short
  pub count_cut : (os : List ℕ) → AreOctets os → length os < 4 → k.at + 4 ≤ STREAM_LIMIT
      → (read_stream w order (fetched ++ os)).progress ≡ stopped k.at k.seen (length (fetched ++ os), reason.Truncated)
  count_cut os all less short =
      let why : ℕ × Reason = (length (fetched ++ os), reason.Truncated) in
      let l : ltb STREAM_LIMIT (length fetched + 4) ≡ false = no_less STREAM_LIMIT (length fetched + 4) (let r : length fetched ≡ k.at = p.stands.reached in omega (arith, r, short)) in
      stops os all why
      (subst (λ b. refusal order (fetched ++ os) k.seen (record { at = b; entry = m 0 }) ≡ Some why) p.stands.reached (cut_refused order fetched os (m 0) k.seen less l))

  -- reading goes on from here
  pub count_adds : (later : List ℕ) → AreOctets later → Goes (going k.at k.seen) (read_stream w order (fetched ++ later)).progress
  count_adds later a =
      let (more, few, r) = p.reads later a in
      reads_go w order (fetched ++ later) i rs roots done (at_count w order i elem done k (fetched ++ later) more) r (going k.at k.seen)
      (count_goes w order (fetched ++ later) h elem.0 more n (going k.at k.seen) k.names)

  module _ (os : List ℕ) (all : AreOctets os) (size : length os ≡ 4) (short : k.at + 4 ≤ STREAM_LIMIT) where
    abbrev v : ℕ
    v = unsigned order os

    abbrev x : EntryAt
    x = record { at = k.at; entry = m v }

    abbrev its_item : List Item
    its_item = count_item order i os k

    abbrev past_it : Position
    past_it = past_count order i os k

    abbrev Before : List ℕ → Type 0
    Before z = (more : ℕ) × (length z < k.at + 4 * more + 4) × Reads w order z i rs roots done (at_count w order i elem done k z more)

    before : (later : List ℕ) → AreOctets later → Before ((fetched ++ os) ++ later)
    before later a = subst Before (sym (append_assoc fetched os later)) (p.reads (os ++ later) (both_octets os later all a))

    not_long : ltb STREAM_LIMIT (k.at + 4) ≡ false
    not_long = no_less STREAM_LIMIT (k.at + 4) short

    judge : (later : List ℕ) (u : ℕ) → refusal order ((fetched ++ os) ++ later) k.seen (record { at = k.at; entry = m u }) ≡ None
    judge later u = judged order fetched os later k.at p.stands.reached (m u) k.seen (sym size) not_long

    took : (later : List ℕ) → taken order ((fetched ++ os) ++ later) (m 0) (going k.at k.seen) ≡ Some os
    took later = taken_it order fetched os later k.at p.stands.reached (m 0) k.seen (sym size) (judge later 0)

    goes_past : (later : List ℕ) → pass order ((fetched ++ os) ++ later) (m v) (going k.at k.seen) ≡ going (k.at + 4) (k.seen ++ x ∷ [])
    goes_past later = passed order ((fetched ++ os) ++ later) (m v) k.at k.seen (judge later v)

    count_told : Told (noted ++ its_item) direct order (fetched ++ os) h (k.seen ++ x ∷ []) k.names k.cells k.numbers max_at n []
    count_told =
        told_passed its_item order fetched os h k.seen k.names k.cells k.numbers max_at n [] x (items_it order fetched os [] k.at p.stands.reached (m v) k.seen (sym size)) tt tt refl
        (lies_it order fetched os [] k.at p.stands.reached (m v) k.seen (sym size)) p.told

    needs : NeededAfter w order fetched os
    needs part last e =
        let l : length os ≡ length part + 1 = ap length e ∙ length-append part (last ∷ []) in
        let octets : AreOctets part = all_left (λ b. b < 256) part (last ∷ []) (subst AreOctets e all) in
        ap (λ (q : Progress). q.stop) (count_cut part octets (omega (arith, l, size)) short)

    stands_now : Stands w order (fetched ++ os) (noted ++ its_item) direct first (i + 1) past_it
    stands_now =
        stands_on w order fetched noted direct first i k p.stands os all (noted ++ its_item) past_it (x ∷ []) refl (refl, tt)
        (length-append fetched os ∙ ap₂ (λ a b. a + b) p.stands.reached size) max_at n [] count_told needs

    -- it is 0: the pipe ends
    pub count_ends : unsigned order os ≡ 0 → InPipes w order (fetched ++ os) (noted ++ count_item order i os k) direct first (i + 1) rs (roots ++ node tree.Pipe done ∷ []) (past_count order i os k)
    count_ends zero_is = record { stands = stands_now; reads = reads }
      where
        none_more : eqb (unsigned order os) 0 ≡ true
        none_more = ap (λ a. eqb a 0) zero_is

        reads : (later : List ℕ) → AreOctets later
            → ReadsPipes w order ((fetched ++ os) ++ later) (i + 1) rs (roots ++ node tree.Pipe done ∷ []) (going (k.at + 4) (k.seen ++ x ∷ [])) k.names
        reads later a =
            let (more, few, r) = before later a in
            let z : List ℕ = (fetched ++ os) ++ later in
            let q : Progress = going (k.at + 4) (k.seen ++ x ∷ []) in
            let rest : ReadPipe = record { trees = none; cut = []; progress = q; names = k.names } in
            let e : at_count w order i elem done k z more ≡ rest = count_taken w order z more h elem.0 n k.at k.seen k.names os (took later) true none_more q (goes_past later) in
            let now : Reads w order z i rs roots done rest = subst (Reads w order z i rs roots done) e r in
            record {
              progress = now.progress;
              graph = now.graph
                  ∙ ap (λ ts. graph_of (roots ++ node tree.Pipe ts ∷ (read_pipes w order z (i + 1) rs q k.names).roots) (read_pipes w order z (i + 1) rs q k.names).names) (joined_none done)
                  ∙ ap (λ us. graph_of us (read_pipes w order z (i + 1) rs q k.names).names) (sym (append_assoc roots (node tree.Pipe done ∷ []) (read_pipes w order z (i + 1) rs q k.names).roots));
            }

    -- it is not: so many elements are due
    pub count_goes_on : (c : ℕ) → unsigned order os ≡ suc c
        → InPipe w order (fetched ++ os) (noted ++ count_item order i os k) direct first i rs roots elem done max_at 0 (at_elements (suc c) w order i elem done (past_count order i os k))
        (past_count order i os k)
    count_goes_on c some = record {
      stands = stands_now;
      told = count_told;
      found = λ a. tested_passed k.seen x a h 0 (silent a h 0 x tt) ∙ p.found a;
      made = p.made;
      reads = λ later a.
          let (more, few, r) = before later a in
          let z : List ℕ = (fetched ++ os) ++ later in
          let q : Progress = going (k.at + 4) (k.seen ++ x ∷ []) in
          let e : at_count w order i elem done k z more ≡ elements_then w order z more h elem.0 n (unsigned order os) q k.names =
          count_taken w order z more h elem.0 n k.at k.seen k.names os (took later) false (ap (λ a. eqb a 0) some ∙ not_zero c) q (goes_past later) in (
            more,
            omega (arith, few),
            subst (Reads w order z i rs roots done) (e ∙ ap (λ u. elements_then w order z more h elem.0 n u q k.names) some) r,
          );
    }
