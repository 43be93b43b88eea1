-- The gap and the count of a chunk, whatever is around it.
-- `m` is the machine before, `n` the one after.
use Rattle.std.proofs.Common.{◌≡◌, ◌≤◌, ◌<◌, ℕ, ◌+◌, List, [], ◌∷◌, ◌++◌, length, arith, pos, ℤ, Result, Ok, Err, IsErrAnd, ap, sym, ◌∙◌, subst}
use Rattle.nd_base.specs.declared.octets.Order.{Order}
use Rattle.nd_base.specs.declared.TheConstants.{STREAM_LIMIT}
use Rattle.nd_base.specs.Over.{Rose, SourceOver}
use Rattle.nd_base.proofs.Rising.{rose_later}
use Rattle.std.specs.Io.KnownBytes.{Consumes, IsAtEnd}
use Rattle.nd_types.specs.Number.{AreOctets, unsigned}
use Rattle.std.proofs.lemmas.List.{append-nil}
use Rattle.nd_value.specs.declared.item.Item.{Item}
use Rattle.nd_value.specs.declared.item.ItemKind.TheVariants as item
use Rattle.nd_value.specs.Logged.{noted as noted_in}
use Rattle.nd_value.proofs.Apart.{all_append}
use Rattle.nd_grammar.specs.Entry.{gap}
use Rattle.nd_grammar.specs.Items.{but_gaps}
use Rattle.nd_grammar.specs.declared.reason.Reason.{Reason}
use Rattle.nd_grammar.specs.declared.reason.Reason.TheVariants as reason
use Rattle.ndr_decoder_state.specs.Notes.{all_noted}
use Rattle.ndr_decoder_state.specs.declared.fault.DecodeFault.{DecodeFault}
use Rattle.ndr_decoder_state.specs.declared.fault.DecodeFault.TheVariants as fault
use Rattle.ndr_decoder_state.specs.declared.machine.Machine.{Machine}
use Rattle.ndr_decoder_laws.specs.steps.StepItems.{gap_items, item_here}
use Rattle.ndr_decoder_laws.specs.stream.Calls.{Follows, Took}
use Rattle.ndr_decoder_laws.proofs.stream.Joined.{took_twice}
use Rattle.nd_grammar.specs.decoded.Verdict.{DecodingSeen, HasNoted}
use Rattle.ndr_decoder_stream.specs.Counted.{ChunkCounted, ChunkStopped, ChunkTold, CountPassed, CountStopped, CountTold, GapPassed, GapStopped, GapTold, UncountedChunk, count_item_at, in_the_count}
use Rattle.ndr_decoder_stream.specs.Counted.{in_the_gap}
use Rattle.ndr_decoder_stream.specs.Fetched.{CountBad, CountCame, GapCame}
use Rattle.ndr_decoder_stream.proofs.Counting.{faulty, gap_counts, gap_noted, none_noted, one_noted}

module _ (m n : Machine) (source : SourceOver) (t : DecodingSeen) (os : List ℕ) (all : AreOctets os) (left : Consumes source.left source.left_now os) where
  pub gap_stop : t.log_now ≡ t.log → t.steps_now ≡ t.steps → (e : DecodeFault) → GapCame m.at source os (Err e) → (r : Result (Unit {0}) DecodeFault) → IsErrAnd r (λ y. y ≡ e) → GapTold m n source t r
  gap_stop log steps e x r is =
      let g : GapStopped m source t e = record { octets = os; all = all; left = left; came = x; log = log; steps = steps } in
      subst (λ z. GapTold m n source t z) (faulty r e is) g

  pub gap_memory_stop : t.log_now ≡ t.log → t.steps_now ≡ t.steps → (e : DecodeFault) → e ≡ fault.Memory → (r : Result (Unit {0}) DecodeFault) → IsErrAnd r (λ y. y ≡ e) → GapTold m n source t r
  gap_memory_stop log steps e memory r is = gap_stop log steps e (subst (λ y. GapCame m.at source os (Err y)) (sym memory) tt) r is

  pub gap_pass : length os ≡ gap m.at 4 → t.log_now ≡ all_noted (gap_items m.home m.at os) t.log → t.steps_now ≡ t.steps → n.at ≡ m.at + length os → GapPassed m n source t
  gap_pass size log steps at = record { octets = os; all = all; left = left; size = size; logged = log ∙ gap_noted m.home m.at os t.log; steps = steps; at = at }

  module _ (order : Order) where
    pub count_stop : t.log_now ≡ t.log → t.steps_now ≡ t.steps → (e : DecodeFault) → CountCame m.at source os (Err e) → (r : Result ℕ DecodeFault) → IsErrAnd r (λ y. y ≡ e)
        → CountTold order m n source t r
    count_stop log steps e x r is =
        let g : CountStopped m source t e = record { octets = os; all = all; left = left; came = x; log = log; steps = steps } in
        subst (λ z. CountTold order m n source t z) (faulty r e is) g

    pub count_memory_stop : t.log_now ≡ t.log → t.steps_now ≡ t.steps → (r : Result ℕ DecodeFault) → IsErrAnd r (λ y. y ≡ fault.Memory) → CountTold order m n source t r
    count_memory_stop log steps r is = count_stop log steps fault.Memory tt r is

    pub count_pass : length os ≡ 4 → m.at + 4 ≤ STREAM_LIMIT → (c : ℕ) → unsigned order os ≡ c → (v : ℤ) → v ≡ pos c → t.log_now ≡ noted_in (item_here m.home m.at item.Chunk 4 v 0) t.log
        → t.steps_now ≡ t.steps + 1
        → n.at ≡ m.at + 4 → CountPassed order m n source t c
    count_pass size within c is v value log steps at = record {
      octets = os;
      all = all;
      left = left;
      size = size;
      within = within;
      value = is;
      logged = log ∙ ap (λ z. noted_in (item_here m.home m.at item.Chunk 4 z 0) t.log) value ∙ one_noted (count_item_at m.home m.at c) t.log;
      steps = steps;
      at = at;
    }

-- ## One after the other

pub gap_stopped_alone : (order : Order) (c : SourceOver) (u : DecodingSeen) (m o : Machine) (e : DecodeFault) → GapStopped m c u e → (r : Result ℕ DecodeFault) → IsErrAnd r (λ y. y ≡ e)
    → ChunkTold order m o c u r
gap_stopped_alone order c u m o e x r is =
    let g : ChunkStopped m c u e = in_the_gap x in
    subst (λ z. ChunkTold order m o c u z) (faulty r e is) g

module _ (order : Order) (a b c : SourceOver) (s t u : DecodingSeen) (f : Follows a b c s t u) (m n o : Machine) where
  module _ (same_faults : c.faults.now ≡ b.faults.now) (low : c.faults.before ≤ b.faults.before) where
    came_later : (at : ℕ) (os : List ℕ) (e : DecodeFault) → CountCame at b os (Err e) → CountCame at c os (Err e)
    came_later at os (fault.Bad place why) x = bad why x
      where
        bad : (why : Reason) → CountBad at b os place why → CountBad at c os place why
        bad reason.TooLong y = y
        bad reason.Truncated (short, (less, there, ended, at_end)) = (short, (less, there, f.ended ∙ ended, subst IsAtEnd (sym f.after) at_end))
        bad reason.EnumValue y = y
        bad reason.PastBound y = y
        bad reason.TextOffset y = y
        bad reason.TextEmpty y = y
        bad reason.TextUnended y = y
        bad reason.TextZero y = y
        bad reason.NoArm y = y
        bad reason.OtherType y = y
        bad (reason.Disagrees wanted found) y = y
    came_later at os fault.ReadFault (near, less, risen) =
        (near, less, subst (λ z. Rose c.faults.before z) (sym same_faults) (rose_later c.faults.before b.faults.before b.faults.now low risen))
    came_later at os fault.Memory x = x

    module _ (g : GapPassed m n a s) (home : n.home ≡ m.home) where
      gap_took : Took a s 0 g.octets (gap_items m.home m.at g.octets) 0
      gap_took =
          let none : length (but_gaps (gap_items m.home m.at g.octets)) ≡ 0 = gap_counts m.home m.at g.octets in
          let same : s.steps_now ≡ s.steps = g.steps in
          record { left = g.left; logged = g.logged; steps = omega (arith, same, none) }

      abbrev item_after : ℕ → List Item
      item_after count = count_item_at m.home (m.at + length g.octets) count ∷ []

      count_logged : (count : ℕ) → HasNoted (count_item_at n.home n.at count ∷ []) t → HasNoted (item_after count) t
      count_logged count x = subst (λ z. HasNoted (count_item_at m.home z count ∷ []) t) g.at (subst (λ z. HasNoted (count_item_at z n.at count ∷ []) t) home x)

      counted_both : (count : ℕ) → CountPassed order n o b t count → ChunkCounted order m o c u count
      counted_both count k =
          let one : t.steps_now ≡ t.steps + 1 = k.steps in
          let second : Took b t 0 k.octets (item_after count) 0 = record { left = k.left; logged = count_logged count k.logged; steps = omega (arith, one) } in
          let both : Took c u 0 (g.octets ++ k.octets) (gap_items m.home m.at g.octets ++ item_after count) 0 =
          took_twice a b c s t u f 0 0 0 g.octets k.octets (gap_items m.home m.at g.octets) (item_after count) gap_took second in
          let there : n.at ≡ m.at + length g.octets = g.at in
          let after : o.at ≡ n.at + 4 = k.at in
          let near : n.at + 4 ≤ STREAM_LIMIT = k.within in
          let first : s.steps_now ≡ s.steps = g.steps in
          let x = f.steps in
          let y = f.steps_middle in
          let z = f.steps_now in
          record {
            gap_octets = g.octets;
            count_octets = k.octets;
            all = all_append (λ b. b < 256) g.octets k.octets g.all k.all;
            left = both.left;
            gap_size = g.size;
            size = k.size;
            within = omega (arith, there, near);
            value = k.value;
            logged = both.logged;
            steps = omega (arith, first, one, x, y, z);
            at = omega (arith, there, after);
          }

      uncounted : (e : DecodeFault) → CountStopped n b t e → UncountedChunk m c u e
      uncounted e k =
          let same : t.steps_now ≡ t.steps = k.steps in
          let second : Took b t 0 k.octets [] 0 = record { left = k.left; logged = k.log ∙ none_noted t.log; steps = omega (arith, same) } in
          let both : Took c u 0 (g.octets ++ k.octets) (gap_items m.home m.at g.octets ++ []) 0 =
          took_twice a b c s t u f 0 0 0 g.octets k.octets (gap_items m.home m.at g.octets) [] gap_took second in
          let first : s.steps_now ≡ s.steps = g.steps in
          let x = f.steps in
          let y = f.steps_middle in
          let z = f.steps_now in
          record {
            gap_octets = g.octets;
            count_octets = k.octets;
            all = all_append (λ b. b < 256) g.octets k.octets g.all k.all;
            left = both.left;
            gap_size = g.size;
            came = subst (λ z. CountCame z c k.octets (Err e)) g.at (came_later n.at k.octets e k.came);
            logged = subst (λ z. HasNoted z u) (append-nil (gap_items m.home m.at g.octets)) both.logged;
            steps = omega (arith, first, same, x, y, z);
          }

      pub told_both : (r : Result ℕ DecodeFault) → CountTold order n o b t r → ChunkTold order m o c u r
      told_both (Ok count) k = counted_both count k
      told_both (Err e) k = in_the_count (uncounted e k)
