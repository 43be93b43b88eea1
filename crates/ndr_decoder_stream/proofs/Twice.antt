-- The gap and the count of a chunk, one after the other.
use Rattle.std.proofs.Common.{◌≡◌, ℕ, ◌+◌, List, ◌++◌, length, Option, Result, Ok, Err, IsErrAnd, ap, sym, ◌∙◌, subst, append_assoc, ◌≤◌}
use Rattle.nd_base.specs.declared.octets.Order.{Order}
use Rattle.nd_base.proofs.Rising.{rose_later}
use Rattle.nd_base.specs.Over.{SourceOver, Rose}
use Rattle.nd_types.specs.declared.types.TypeId.{TypeId}
use Rattle.nd_types.specs.Roots.{Root}
use Rattle.nd_value.specs.declared.item.Item.{Item}
use Rattle.nd_value.specs.Setting.{Setting}
use Rattle.nd_value.specs.Tree.{Tree, Trees}
use Rattle.nd_flat.specs.Building.{Building}
use Rattle.nd_grammar.specs.Reader.{Names}
use Rattle.ndr_decoder_state.specs.declared.fault.DecodeFault.{DecodeFault}
use Rattle.ndr_decoder_state.specs.declared.fault.DecodeFault.TheVariants as fault
use Rattle.ndr_decoder_state.specs.declared.machine.Machine.{Machine}
use Rattle.ndr_decoder_laws.specs.stream.Calls.{Follows}
use Rattle.ndr_decoder_laws.specs.stream.Report.{the_stream}
use Rattle.ndr_decoder_laws.proofs.stream.Joined.{took_twice, took_then_refused, took_then_unread, took_then_cut}
use Rattle.nd_grammar.specs.decoded.Verdict.{DecodingSeen}
use Rattle.ndr_decoder_laws.specs.pipes.Pipes.{Position}
use Rattle.ndr_decoder_stream.specs.Chunks.{AfterCount, Counts, FaultOf, GapRead, HasMoved}
use Rattle.ndr_decoder_stream.proofs.Counting.{faulty}

pub cells_stay : (m n : Machine) → HasMoved m n → n.cells ≡ m.cells
cells_stay m n v = n.numbered ∙ ap (λ (b : Building). length b.graph.cells) v.builder ∙ sym m.numbered

module _ (w : Setting) (order : Order) (fetched : List ℕ) (noted : List Item) (direct : ℕ) (first : Names) (i : ℕ) (rs : List Root) (roots : List Tree) (elem : TypeId) (done : Trees)
    (max_at : Option ℕ)
    (cells : ℕ) (a b c : SourceOver) (s t u : DecodingSeen) (f : Follows a b c s t u) (m n : Machine) where
  after_both : (os ps : List ℕ) (xs ys : List Item) (k : Position) (count : ℕ) → AfterCount w order ((fetched ++ os) ++ ps) ((noted ++ xs) ++ ys) direct first i rs roots elem done max_at k count
      → AfterCount w order (fetched ++ (os ++ ps)) (noted ++ (xs ++ ys)) direct first i rs roots elem done max_at k count
  after_both os ps xs ys k count x =
      subst (λ z. AfterCount w order z (noted ++ (xs ++ ys)) direct first i rs roots elem done max_at k count) (append_assoc fetched os ps)
      (subst (λ z. AfterCount w order ((fetched ++ os) ++ ps) z direct first i rs roots elem done max_at k count) (append_assoc noted xs ys) x)

  pub counted_then : c.faults.before ≤ b.faults.before → c.faults.now ≡ b.faults.now
      → (g : GapRead w order fetched noted direct first i rs roots elem done max_at cells a s m) (r : Result ℕ DecodeFault)
      → Counts w order (fetched ++ g.octets) (noted ++ g.items) direct first i rs roots elem done max_at cells b t n r
      → Counts w order fetched noted direct first i rs roots elem done max_at cells c u n r
  counted_then low same g (Ok count) x = record {
    octets = g.octets ++ x.octets;
    items = g.items ++ x.items;
    k = x.k;
    after = after_both g.octets x.octets g.items x.items x.k count x.after;
    is_at = x.is_at;
    took = took_twice a b c s t u f cells cells cells g.octets x.octets g.items x.items g.took x.took;
  }
  counted_then low same g (Err (fault.Bad place why)) x = took_then_refused a b c s t u f the_stream w order fetched noted cells cells g.octets g.items g.took place why x
  counted_then low same g (Err fault.ReadFault) x = (
    took_then_unread a b c s t u f the_stream w order fetched noted cells cells g.octets g.items g.took x.0,
    subst (λ z. Rose c.faults.before z) (sym same) (rose_later c.faults.before b.faults.before b.faults.now low x.1),
  )
  counted_then low same g (Err fault.Memory) x = took_then_cut a b c s t u f the_stream w order fetched noted cells cells g.octets g.items g.took x

  pub stopped_first : (e : DecodeFault) → FaultOf w order fetched noted cells c u e → (r : Result ℕ DecodeFault) → IsErrAnd r (λ y. y ≡ e)
      → Counts w order fetched noted direct first i rs roots elem done max_at cells c u n r
  stopped_first e x r is = subst (λ z. Counts w order fetched noted direct first i rs roots elem done max_at cells c u n z) (faulty r e is) x
