-- A chunk of a pipe, from the call that reads its count to the end of its elements.
-- `m` is the machine before the chunk, `n` the one after its count, `o` the one at the beginning of its elements, `z` the one at their end; of `many` elements
-- `begun` are begun. `a` and `s` are what was seen over the call that reads the count, `b` and `t` over the run, `e` and `u` over both.
use Rattle.std.proofs.Common.{◌≡◌, ◌≤◌, ◌<◌, ◌^◌, ℕ, ◌+◌, ◌-◌, zero, suc, min, List, ◌++◌, length, Result, Ok, IsErrAnd, refl, ap, sym, ◌∙◌, subst, arith, append_assoc}
use Rattle.nd_base.specs.declared.octets.Order.{Order}
use Rattle.nd_base.specs.Over.{SourceOver}
use Rattle.nd_types.specs.declared.types.TypeId.{TypeId}
use Rattle.nd_types.specs.Roots.{Root}
use Rattle.nd_value.specs.declared.item.Home.{Home}
use Rattle.nd_value.specs.declared.item.Home.TheVariants as home
use Rattle.nd_value.specs.declared.item.Item.{Item}
use Rattle.nd_value.specs.Setting.{Setting}
use Rattle.nd_value.specs.Tree.{Tree, Trees, count}
use Rattle.nd_flat.specs.Building.{raised, with_nodes}
use Rattle.nd_grammar.specs.LegalSide.{IsLegalSide}
use Rattle.nd_grammar.specs.Reader.{Names, Read}
use Rattle.ndr_code.specs.declared.plan.Plan.{Plan}
use Rattle.ndr_decoder_laws.specs.reader.Around.{going}
use Rattle.ndr_decoder_laws.specs.runs.Reaching.{IsSafe, Reaches}
use Rattle.ndr_decoder_laws.specs.steps.Chunks.{chunk_read}
use Rattle.ndr_decoder_laws.specs.steps.Steps.{State}
use Rattle.ndr_decoder_value.specs.Reaching.{EndsFault, EndsWhole}
use Rattle.ndr_decoder_state.specs.declared.fault.DecodeFault.{DecodeFault}
use Rattle.ndr_decoder_state.specs.declared.fault.DecodeFault.TheVariants as fault
use Rattle.ndr_decoder_state.specs.declared.machine.Machine.{Machine}
use Rattle.ndr_decoder_state.specs.Notes.{NotesSeen}
use Rattle.ndr_decoder_state.specs.Seen.{outside, state_of}
use Rattle.nd_grammar.specs.decoded.Verdict.{DecodingSeen}
use Rattle.ndr_decoder_laws.specs.stream.Calls.{Follows}
use Rattle.ndr_decoder_laws.specs.stream.Report.{StreamCut, the_stream}
use Rattle.ndr_decoder_laws.proofs.stream.Joined.{took_twice}
use Rattle.ndr_decoder_laws.specs.pipes.Pipes.{InPipe, Position, at_elements, kids_of, read_to}
use Rattle.ndr_decoder_laws.proofs.pipes.Elements.{elements_come}
use Rattle.ndr_decoder_stream.specs.Chunks.{AfterCount, CountRead, HasMoved}
use Rattle.ndr_decoder_stream.specs.Chunks as chunks
use Rattle.ndr_decoder_stream.specs.Opening.{BeginsElements}
use Rattle.ndr_decode.specs.Piping.{ChunkComes, ElementsRead, IsInPipe, IsPipeBy}
use Rattle.ndr_decode.specs.Streaming.{FaultOf, HomeWhole}
use Rattle.ndr_decode.proofs.HomeComes.{decoding_of}
use Rattle.ndr_decode.proofs.PipeElements as elements
use Rattle.ndr_decode.proofs.PipeFaults.{cut_after, cut_at}
use Rattle.ndr_decoder_stream.proofs.Counting.{faulty}
use Rattle.ndr_decode.proofs.PipeOpens.{cells_many, moved_cells, pipe_ended}
use Rattle.ndr_decode.proofs.Placed.{took_by}
use Rattle.ndr_decode.proofs.Standing.{then_fault}

-- ## Faults of the count

pub count_fault : (w : Setting) (order : Order) (fetched : List ℕ) (noted : List Item) (n : ℕ) (source : SourceOver) (t : DecodingSeen) (e : DecodeFault)
    → chunks.FaultOf w order fetched noted n source t e → FaultOf the_stream w order fetched noted n source t e
count_fault w order fetched noted n source t (fault.Bad place why) x = x
count_fault w order fetched noted n source t fault.ReadFault x = x
count_fault w order fetched noted n source t fault.Memory x = x

module _ (plan : Plan) (w : Setting) (legal : IsLegalSide w) (order : Order) (fetched : List ℕ) (noted : List Item) (direct : ℕ) (first : Names) (i : ℕ) (r : Root) (rs : List Root)
    (roots : List Tree) (elem : TypeId) (run : ℕ)
    (of_plan : IsPipeBy plan w r.of elem run) (done : Trees) (k0 : Position) (so_far : ℕ) (as_many : count done ≡ so_far) (m : Machine)
    (p : IsInPipe w order fetched noted direct first i rs roots elem done k0 m) where
  -- a fault comes
  pub chunk_faulty : (source : SourceOver) (t : DecodingSeen) (x : Machine) (e : DecodeFault) → FaultOf the_stream w order fetched noted m.cells source t e → (result : Result ℕ DecodeFault)
      → IsErrAnd result (λ y. y ≡ e)
      → ChunkComes w order fetched noted direct first i rs roots elem so_far m.cells source t x result
  chunk_faulty source t x e f result is = subst (ChunkComes w order fetched noted direct first i rs roots elem so_far m.cells source t x) (faulty result e is) f

  module _ (n : Machine) (moved : HasMoved m n) (a : SourceOver) (s : DecodingSeen) (many : ℕ) (x : CountRead w order fetched noted direct first i rs roots elem done m.max_at m.cells a s n many) where
    -- there are none
    pub chunk_none : many ≡ 0 → ChunkComes w order fetched noted direct first i rs roots elem so_far m.cells a s n (Ok 0)
    chunk_none e =
        pipe_ended w order fetched noted direct first i rs roots elem done k0 m n p moved x.octets x.items x.k
        (subst (AfterCount w order (fetched ++ x.octets) (noted ++ x.items) direct first i rs roots elem done m.max_at x.k) e x.after) x.is_at a s x.took

    module _ (some : 0 < many) (begun : ℕ) (is_begun : begun ≡ min many (4294967295 - so_far)) (room : so_far + 1 < 2 ^ 32) where
      pub begun_some : 0 < begun
      begun_some = omega (arith, some, is_begun, room)

      its_count : many ≡ suc (many - 1)
      its_count = omega (arith, some)

      parts : suc (begun - 1) + (many - begun) ≡ suc (many - 1)
      parts = omega (arith, some, is_begun, room)

      one_more : begun ≡ suc (begun - 1)
      one_more = omega (arith, begun_some)

      after : InPipe w order (fetched ++ x.octets) (noted ++ x.items) direct first i rs roots elem done m.max_at 0 (at_elements (suc (many - 1)) w order i elem done x.k) x.k
      after = subst (AfterCount w order (fetched ++ x.octets) (noted ++ x.items) direct first i rs roots elem done m.max_at x.k) its_count x.after

      cells_here : length x.k.cells ≡ m.cells
      cells_here = ap length (sym x.is_at.cells) ∙ sym (cells_many n) ∙ moved_cells w order fetched noted direct first i rs roots elem done k0 m n p moved

      -- memory fails before they are begun
      pub begun_fault : FaultOf the_stream w order fetched noted m.cells a s fault.Memory
      begun_fault =
          cut_after w order fetched noted m.cells m.cells a s x.octets x.items x.took
          (subst (StreamCut the_stream w order (fetched ++ x.octets) (noted ++ x.items)) cells_here
          (cut_at w order (fetched ++ x.octets) (noted ++ x.items) direct _ x.k.seen x.k.names x.k.cells x.k.numbers _ _ _ x.k.at after.stands.octets p.few after.told
          (λ later all. elements_come w legal order (fetched ++ x.octets) (noted ++ x.items) direct first i rs roots r.of elem done m.max_at (begun - 1) (many - begun)
          (suc (many - 1)) x.k parts of_plan.there after later all)))

      module _ (o : Machine) (begins : BeginsElements run (begun - 1) (raised begun n.builder.nodes) (state_of n) (state_of o))
          (built : o.builder ≡ with_nodes (raised begun n.builder.nodes) n.builder) (at_home : o.home ≡ n.home) where
        pub chunk_safe : (more : List ℕ) (xs : List Item) (y : State) → Reaches plan.values order plan.code o.home (state_of o) more xs y → IsSafe plan.code y
        chunk_safe more xs y reached =
            elements.elements_safe plan w legal order fetched noted direct first i r.of rs roots elem run of_plan done k0 m n p moved x.octets x.items x.k (begun - 1) (many - begun)
            (suc (many - 1)) parts after x.is_at
            o (begun - 1) begun refl one_more begins built at_home more xs y reached

        o_cells : length (state_of o).cells ≡ m.cells
        o_cells =
            ap length begins.cells ∙ sym (cells_many n) ∙ moved_cells w order fetched noted direct first i rs roots elem done k0 m n p moved

        module _ (b : SourceOver) (notes : NotesSeen) (e : SourceOver) (u : DecodingSeen) (f : Follows a b e s (decoding_of notes) u) where
          -- a fault within them
          pub chunk_fault : e.faults.before ≤ b.faults.before → e.faults.now ≡ b.faults.now → (s1 : State) (d : DecodeFault) → EndsFault plan.values order plan.code o.home (state_of o) b notes s1 d
              → FaultOf the_stream w order fetched noted m.cells e u d
          chunk_fault low same s1 d ends =
              then_fault w legal order fetched noted m.cells a b e s (decoding_of notes) u f x.octets x.items m.cells x.took the_stream low same d
              (subst (λ j. FaultOf the_stream w order (fetched ++ x.octets) (noted ++ x.items) j b (decoding_of notes) d) o_cells
              (elements.elements_fault plan w legal order fetched noted direct first i r.of rs roots elem run of_plan done k0 m n p moved x.octets x.items x.k (begun - 1) (many - begun)
              (suc (many - 1)) parts after x.is_at
              o (begun - 1) begun refl one_more begins built at_home b notes s1 d ends))

          -- all of them were read
          module _ (z : Machine) (out : outside z ≡ outside o) (ends : EndsWhole plan.values order plan.code o.home (state_of o) b notes (state_of z)) where
            abbrev here : Home
            here = home.Root i

            abbrev target : List ℕ → Read
            target = chunk_read order w.table (home.Root i) elem done (suc (begun - 1)) (going x.k.at x.k.seen) x.k.names

            abbrev read : HomeWhole order w.table here r.of direct target (fetched ++ x.octets) (noted ++ x.items) (length (state_of o).cells) b (decoding_of notes) (state_of z)
            read =
                elements.read plan w legal order fetched noted direct first i r.of rs roots elem run of_plan done k0 m n p moved x.octets x.items x.k (begun - 1) (many - begun)
                (suc (many - 1)) parts after x.is_at
                o (begun - 1) begun refl one_more begins built at_home z out b notes ends

            pub chunk_room : so_far + begun + 1 < 2 ^ 32
            chunk_room =
                let short : count done + suc (begun - 1) + 1 < 2 ^ 32 =
                elements.is_short plan w legal order fetched noted direct first i r.of rs roots elem run of_plan done k0 m n p moved x.octets x.items x.k (begun - 1) (many - begun)
                (suc (many - 1)) parts after x.is_at
                o (begun - 1) begun refl one_more begins built at_home z out b notes ends in
                omega (arith, short, as_many, begun_some)

            -- as many as the chunk has
            none_left : many - begun ≡ 0
            none_left = omega (arith, chunk_room, is_begun)

            z_cells : length (state_of z).cells ≡ z.cells
            z_cells = sym (cells_many z)

            in_pipe_then : IsInPipe w order (fetched ++ (x.octets ++ read.octets)) (noted ++ (x.items ++ read.items)) direct first i rs roots elem (kids_of read.is.v)
                (read_to (state_of z) read.is.seen read.is.names) z
            in_pipe_then =
                subst (λ (y : List ℕ). IsInPipe w order y (noted ++ (x.items ++ read.items)) direct first i rs roots elem (kids_of read.is.v) (read_to (state_of z) read.is.seen read.is.names) z)
                (append_assoc fetched x.octets read.octets)
                (subst (λ (y : List Item). IsInPipe w order ((fetched ++ x.octets) ++ read.octets) y direct first i rs roots elem (kids_of read.is.v)
                (read_to (state_of z) read.is.seen read.is.names) z) (append_assoc noted x.items read.items)
                (elements.elements_done plan w legal order fetched noted direct first i r.of rs roots elem run of_plan done k0 m n p moved x.octets x.items x.k (begun - 1) (many - begun)
                (suc (many - 1)) parts after x.is_at
                o (begun - 1) begun refl one_more begins built at_home z out b notes ends none_left))

            as_many_then : count (kids_of read.is.v) ≡ so_far + begun
            as_many_then =
                let more : count (kids_of read.is.v) ≡ count done + suc (begun - 1) =
                elements.its_count plan w legal order fetched noted direct first i r.of rs roots elem run of_plan done k0 m n p moved x.octets x.items x.k (begun - 1) (many - begun)
                (suc (many - 1)) parts after x.is_at
                o (begun - 1) begun refl one_more begins built at_home z out b notes ends in
                omega (arith, more, as_many, begun_some)

            some_comes : (j : ℕ) → 0 < j → ElementsRead w order fetched noted direct first i rs roots elem m.cells e u z (so_far + j)
                → ChunkComes w order fetched noted direct first i rs roots elem so_far m.cells e u z (Ok j)
            some_comes zero l y = absurd (omega (arith, l))
            some_comes (suc j) l y = y

            pub chunk_some : ChunkComes w order fetched noted direct first i rs roots elem so_far m.cells e u z (Ok begun)
            chunk_some =
                some_comes begun begun_some
                (record {
                  octets = x.octets ++ read.octets;
                  items = x.items ++ read.items;
                  done = kids_of read.is.v;
                  k = read_to (state_of z) read.is.seen read.is.names;
                  in_pipe = in_pipe_then;
                  as_many = as_many_then;
                  took = took_twice a b e s (decoding_of notes) u f m.cells m.cells z.cells x.octets read.octets x.items read.items x.took
                      (took_by b (decoding_of notes) (length (state_of o).cells) m.cells (length (state_of z).cells) z.cells read.octets read.items o_cells z_cells read.took);
                })
