-- What is kept stays right while entries of a pipe are passed; the gap before the count of a chunk.
use Rattle.std.proofs.Common.{◌≡◌, ◌≤◌, ◌<◌, ℕ, ◌+◌, ◌*◌, suc, List, [], ◌∷◌, ◌++◌, length, Option, Some, None, refl, ap, sym, ◌∙◌, subst, arith, append_assoc, length-append}
use Rattle.std.specs.List.{AllByRecursion}
use Rattle.nd_base.specs.declared.octets.Order.{Order}
use Rattle.nd_types.specs.declared.types.TypeId.{TypeId}
use Rattle.nd_types.specs.Number.{AreOctets}
use Rattle.nd_types.specs.Roots.{Root}
use Rattle.nd_value.specs.declared.item.Home.{Home}
use Rattle.nd_value.specs.declared.item.Home.TheVariants as home
use Rattle.nd_value.specs.declared.item.Item.{Item}
use Rattle.nd_value.specs.Setting.{Setting}
use Rattle.nd_value.specs.Tree.{Tree, Trees, node_count}
use Rattle.nd_value.proofs.Apart.{all_append, all_left}
use Rattle.nd_grammar.specs.declared.reason.Reason.{Reason}
use Rattle.nd_grammar.specs.declared.reason.Reason.TheVariants as reason
use Rattle.nd_grammar.specs.Entry.{Entry, EntryAt, gap, Align}
use Rattle.nd_grammar.specs.Refusal.{refusal}
use Rattle.nd_grammar.specs.Reader.{Names, Progress, pass}
use Rattle.nd_grammar.specs.StreamReader.{read_stream}
use Rattle.ndr_decoder_laws.specs.reader.Around.{going, stopped}
use Rattle.ndr_decoder_laws.proofs.reader.Continuing.{passed, refused}
use Rattle.ndr_decoder_laws.proofs.reader.Fetched.{cut_refused}
use Rattle.ndr_decoder_laws.specs.steps.Good.{Told}
use Rattle.ndr_decoder_laws.specs.steps.StepItems.{gap_items}
use Rattle.ndr_decoder_laws.specs.steps.Steps.{Place}
use Rattle.ndr_decoder_laws.proofs.steps.Passing.{gap_noted, items_it, judged, lies_it, silent, told_passed, tested_passed}
use Rattle.ndr_decoder_laws.specs.stream.Added.{Goes}
use Rattle.ndr_decoder_laws.proofs.stream.Needing.{NeededAfter, needed_more}
use Rattle.ndr_decoder_laws.proofs.stream.Others.{others_silent, told_other}
use Rattle.ndr_decoder_laws.specs.pipes.Reading.{Reads, count_then, of_pipe}
use Rattle.ndr_decoder_laws.specs.pipes.Pipes.{Position, Stands, InPipe, at_chunk, at_count, past_gap}
use Rattle.ndr_decoder_laws.proofs.pipes.Staying.{chunks_go, count_stays, reads_go, reads_stop}

-- the octets of two lists
pub both_octets : (xs ys : List ℕ) → AreOctets xs → AreOctets ys → AreOctets (xs ++ ys)
both_octets xs ys a b = all_append (λ o. o < 256) xs ys a b

-- entries of a pipe say nothing of a later one
other_root : (i j : ℕ) → i + 1 ≤ j → home.Root j ≡ home.Root i → ⊥
other_root i j l e = let f : j ≡ i = cc in absurd (omega (arith, f, l))

module _ (w : Setting) (order : Order) (fetched : List ℕ) (noted : List Item) (direct : ℕ) (first : Names) (i : ℕ) (k : Position) (s : Stands w order fetched noted direct first (i + 1) k) where
  -- after entries of a pipe
  pub stands_on : (more : List ℕ) → AreOctets more → (noted' : List Item) (k' : Position) (xs : List EntryAt) → k'.seen ≡ k.seen ++ xs → AllByRecursion (λ x. x.entry.home ≡ home.Root i) xs
      → length (fetched ++ more) ≡ k'.at → (max_at : Option ℕ) (n : ℕ) (half : List Place) → Told noted' direct order (fetched ++ more) (home.Root i) k'.seen k'.names k'.cells k'.numbers max_at n half
      → NeededAfter w order fetched more → Stands w order (fetched ++ more) noted' direct first (i + 1) k'
  stands_on more all noted' k' xs e own reached max_at n half told needs = record {
    octets = both_octets fetched more s.octets all;
    reached = reached;
    told = λ j l.
        subst (λ u. Told noted' direct order (fetched ++ more) (home.Root j) u k'.names k'.cells k'.numbers None 0 []) (sym e)
        (told_other order fetched (fetched ++ more) (home.Root j) (home.Root i) k.seen xs k.names k'.names k.cells k'.cells k.numbers k'.numbers max_at n half (s.told j l)
        (subst (λ u. Told noted' direct order (fetched ++ more) (home.Root i) u k'.names k'.cells k'.numbers max_at n half) e told)
        (others_silent (home.Root j) (home.Root i) xs own (other_root i j l)));
    needed = needed_more w order fetched more s.needed needs;
    cells_stay = λ later a.
        subst (λ z. (read_stream w order z).graph.cells ≡ first.cells) (sym (append_assoc fetched more later)) (s.cells_stay (more ++ later) (both_octets more later all a));
  }

-- ## The gap before a count

module _ (w : Setting) (order : Order) (fetched : List ℕ) (noted : List Item) (direct : ℕ) (first : Names) (i : ℕ) (rs : List Root) (roots : List Tree) (elem : TypeId) (done : Trees)
    (max_at : Option ℕ) (k : Position)
    (p : InPipe w order fetched noted direct first i rs roots elem done max_at 4 (at_chunk w order i elem done k) k) where
  abbrev h : Home
  h = home.Root i

  abbrev m : Entry
  m = of_pipe h (Align 4)

  abbrev n : ℕ
  n = 1 + node_count done

  -- it is cut short
  pub gap_cut : (os : List ℕ) → AreOctets os → length os < gap k.at 4 → (read_stream w order (fetched ++ os)).progress ≡ stopped k.at k.seen (length (fetched ++ os), reason.Truncated)
  gap_cut os all less =
      let (more, few, r) = p.reads os all in
      let why : ℕ × Reason = (length (fetched ++ os), reason.Truncated) in
      let at_end : length os < gap (length fetched) 4 = subst (λ a. length os < gap a 4) (sym p.stands.reached) less in
      let e : refusal order (fetched ++ os) k.seen (record { at = k.at; entry = m }) ≡ Some why =
      subst (λ a. refusal order (fetched ++ os) k.seen (record { at = a; entry = m }) ≡ Some why) p.stands.reached (cut_refused order fetched os m k.seen at_end refl) in
      reads_stop w order (fetched ++ os) k.at k.seen why i rs roots done (at_chunk w order i elem done k (fetched ++ os) more) r
      (count_stays w order (fetched ++ os) k.at k.seen why more h elem.0 n (pass order (fetched ++ os) m (going k.at k.seen)) k.names (refused order (fetched ++ os) m k.at k.seen why e))

  -- reading goes on from here
  pub chunk_goes : (later : List ℕ) → AreOctets later → Goes (going k.at k.seen) (read_stream w order (fetched ++ later)).progress
  chunk_goes later a =
      let (more, few, r) = p.reads later a in
      reads_go w order (fetched ++ later) i rs roots done (at_chunk w order i elem done k (fetched ++ later) more) r (going k.at k.seen)
      (chunks_go w order (fetched ++ later) h elem.0 (suc more) n (going k.at k.seen) k.names)

  module _ (os : List ℕ) (all : AreOctets os) (size : length os ≡ gap k.at 4) where
    abbrev x : EntryAt
    x = record { at = k.at; entry = m }

    abbrev Before : List ℕ → Type 0
    Before z = (more : ℕ) × (length z < k.at + 4 * more + 4) × Reads w order z i rs roots done (at_chunk w order i elem done k z more)

    gap_told : Told (noted ++ gap_items h k.at os) direct order (fetched ++ os) h (k.seen ++ x ∷ []) k.names k.cells k.numbers max_at n []
    gap_told =
        told_passed (gap_items h k.at os) order fetched os h k.seen k.names k.cells k.numbers max_at n [] x
        (items_it order fetched os [] k.at p.stands.reached m k.seen (sym size) ∙ gap_noted order h 0 4 k.at os (sym size)) tt tt refl
        (lies_it order fetched os [] k.at p.stands.reached m k.seen (sym size)) p.told

    goes_past : (later : List ℕ) → pass order ((fetched ++ os) ++ later) m (going k.at k.seen) ≡ going (k.at + length os) (k.seen ++ x ∷ [])
    goes_past later =
        passed order ((fetched ++ os) ++ later) m k.at k.seen (judged order fetched os later k.at p.stands.reached m k.seen (sym size) refl)
        ∙ ap (λ a. going (k.at + a) (k.seen ++ x ∷ [])) (sym size)

    -- after the gap the count is due
    pub gap_passes : InPipe w order (fetched ++ os) (noted ++ gap_items (home.Root i) k.at os) direct first i rs roots elem done max_at 4 (at_count w order i elem done (past_gap i os k))
        (past_gap i os k)
    gap_passes = record {
      stands = stands_on w order fetched noted direct first i k p.stands os all (noted ++ gap_items h k.at os) (past_gap i os k) (x ∷ []) refl (refl, tt)
          (length-append fetched os ∙ ap (λ a. a + length os) p.stands.reached) max_at n [] gap_told needs;
      told = gap_told;
      found = λ a. tested_passed k.seen x a h 0 (silent a h 0 x tt) ∙ p.found a;
      made = p.made;
      reads = λ later a.
          let (more, few, r) = subst Before (sym (append_assoc fetched os later)) (p.reads (os ++ later) (both_octets os later all a)) in (
            more,
            omega (arith, few),
            subst (λ q. Reads w order ((fetched ++ os) ++ later) i rs roots done (count_then w order ((fetched ++ os) ++ later) more h elem.0 n q k.names)) (goes_past later) r,
          );
    }
      where
        needs : NeededAfter w order fetched os
        needs part last e =
            let l : length os ≡ length part + 1 = ap length e ∙ length-append part (last ∷ []) in
            let octets : AreOctets part = all_left (λ b. b < 256) part (last ∷ []) (subst AreOctets e all) in
            ap (λ (q : Progress). q.stop) (gap_cut part octets (omega (arith, l, size)))
