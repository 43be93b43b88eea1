-- The next of the pending referents, which was read and kept: what is kept of the stream then.
-- `o` is the referent as code has it, `x` what was kept before it, `c` its cell, `s1` the stream when its home was open, `s2` after its value, `s3` after its cell
-- was kept, `s4` after its pointers became pending.
use Rattle.std.proofs.Common.{◌≡◌, ◌≤◌, ◌<◌, ℕ, ◌+◌, ◌*◌, List, [], ◌∷◌, ◌++◌, length, map, Option, Some, None, sym, ap, ◌∙◌, subst, arith}
use Rattle.std.proofs.lemmas.List.{length-append, length-map}
use Rattle.nd_base.specs.declared.octets.Order.{Order}
use Rattle.nd_base.specs.Over.{SourceOver}
use Rattle.nd_types.specs.declared.types.Class.TheVariants.{Full}
use Rattle.nd_types.specs.Number.{AreOctets}
use Rattle.nd_value.specs.declared.item.Item.{Item}
use Rattle.nd_value.specs.declared.value.CellId.{CellId}
use Rattle.nd_value.specs.declared.value.Graph.{Graph}
use Rattle.nd_value.specs.Deferral.{Pending, home_pointers}
use Rattle.nd_value.specs.Seen.{cell_number}
use Rattle.nd_value.specs.Setting.{Setting, cell_home}
use Rattle.nd_value.specs.Tree.{Tree}
use Rattle.nd_value.proofs.Apart.{all_append}
use Rattle.nd_flat.specs.Building.{Building, CanClose, closed, opened}
use Rattle.nd_grammar.specs.Entry.{EntryAt}
use Rattle.nd_grammar.specs.LegalSide.{IsLegalSide}
use Rattle.nd_grammar.specs.StreamReader.{Reading}
use Rattle.nd_grammar.specs.ReaderState.{paid}
use Rattle.nd_grammar.proofs.reader.ReaderNames.{longer}
use Rattle.nd_grammar.proofs.reader.ReaderStates.{WholeRead, read_wholly}
use Rattle.ndr_decoder_laws.specs.reader.Around.{going}
use Rattle.ndr_decoder_laws.specs.steps.Good.{owed}
use Rattle.ndr_decoder_laws.specs.steps.Steps as steps
use Rattle.ndr_decoder_state.specs.declared.machine.Machine.{Machine}
use Rattle.ndr_decoder_state.specs.declared.machine.Owed.{Owed}
use Rattle.ndr_decoder_state.specs.Seen.{outside, owed_of, state_of}
use Rattle.nd_grammar.specs.decoded.Verdict.{DecodingSeen}
use Rattle.ndr_refs.specs.declared.referents.Known.{Known}
use Rattle.ndr_decoder_laws.specs.declared.kept.Kept.{Kept}
use Rattle.ndr_decoder_laws.specs.declared.kept.KeptRoot.{KeptRoot}
use Rattle.ndr_decoder_laws.specs.stream.Between.{Agrees, Between, CellFilled, CellKept, IsKeptHome, cell_read, home_target, kept_at}
use Rattle.ndr_decoder_laws.specs.stream.Tests.{AllAgree}
use Rattle.ndr_decoder_laws.proofs.stream.ReferentEnds as law
use Rattle.ndr_decoder_stream.specs.declared.stream.Stream.{Stream}
use Rattle.ndr_decoder_stream.specs.Ends.{HomeRan}
use Rattle.ndr_decoder_stream.specs.Seen.{CellEnds, HasOwn, IsCleared, KeepsAll, KeepsHomes, between_of, pending_in, pending_with}
use Rattle.ndr_decoder_stream.proofs.GraphEnds.{cell_ends}
use Rattle.ndr_decode.specs.Streaming.{ArePaid, HomeWhole, StandsWith, WentOnTaking, cells_of, with_next, with_taken}
use Rattle.ndr_decode.proofs.OwedReads.{agreements_are, cell_is}
use Rattle.ndr_decode.proofs.Placed.{can_close, kept_of, ran, took_by, types_length}
use Rattle.ndr_decode.proofs.ReferentReads.{cell_there, its_usable, is_new}

abbrev kept_by : ℕ → List steps.Owed → Building → List (ℕ × Known) → List KeptRoot → List (Option Kept) → Between
kept_by at os u ns roots read = record { at = at; pending = os; cells = map (λ c. c.of) u.graph.cells; numbers = ns; roots = roots; read = read; graph = closed u }

module _ (w : Setting) (side : IsLegalSide w) (order : Order) (fetched : List ℕ) (noted : List Item) (direct : ℕ) (o : Owed) (x : Stream) (s : Reading) (seen : List EntryAt) (p : Pending)
    (ps : List Pending) (n : ℕ)
    (st : StandsWith w side order fetched noted direct o x s seen p ps n) (c : CellId) (some : o.cell ≡ Some c) (unread : o.class ≡ Full → kept_at x.cells.items c.0 ≡ None)
    (source : SourceOver) (t : DecodingSeen) (s1 s2 : Stream) (opens : s1.machine.builder ≡ opened (cell_home c.0) (closed x.machine.builder) x.machine.builder)
    (cells : (state_of s1.machine).cells ≡ (between_of x).cells) (keeps : KeepsAll x s2) (out : outside s2.machine ≡ outside s1.machine)
    (hw : HomeWhole order w.table (cell_home c.0) p.to direct (home_target w order (between_of x) seen (cell_home c.0) p.to s.names) fetched noted (length (state_of s1.machine).cells) source t
    (state_of s2.machine)) where
  ag : Agrees w side order fetched noted direct (with_next o x) s seen (p ∷ ps) n
  ag = st.agrees

  is_cell : p.cell ≡ Some c.0
  is_cell = sym (cell_is w side order fetched noted direct o x s seen p ps n st) ∙ ap cell_number some

  abbrev b : Building
  b = x.machine.builder

  abbrev m : Machine
  m = s2.machine

  abbrev v : Tree
  v = hw.is.v

  -- the cells have grown
  all_there : AreOctets ((fetched ++ hw.octets) ++ [])
  all_there = all_append (λ b. b < 256) (fetched ++ hw.octets) [] (all_append (λ b. b < 256) fetched hw.octets ag.octets hw.all) tt

  wholly : WholeRead w side order ((fetched ++ hw.octets) ++ []) all_there (cell_home c.0) p.to (going x.machine.at seen) s.names
      (record { tree = hw.is.v; progress = going m.at hw.is.seen; names = hw.is.names })
  wholly =
      subst (WholeRead w side order ((fetched ++ hw.octets) ++ []) all_there (cell_home c.0) p.to (going x.machine.at seen) s.names) (sym (hw.is.is []))
      (read_wholly w side order ((fetched ++ hw.octets) ++ []) all_there (cell_home c.0) p.to (its_usable w side order fetched noted direct o x s seen p ps n st c some unread)
      (going x.machine.at seen) s.names)

  still_there : c.0 ≤ length m.builder.graph.cells
  still_there =
      let l : length s.names.cells ≤ length hw.is.names.cells = longer s.names hw.is.names wholly.extends in
      let at : c.0 ≤ cells_of x = (cell_there w side order fetched noted direct o x s seen p ps n st c some unread).1 in
      let new = is_new w side order fetched noted direct o x s seen p ps n st c some unread in
      let told = ag.keeps.told (cell_home c.0) (law.free w side order fetched noted direct (with_next o x) s seen p ps n ag c.0 is_cell new) in
      let before : length s.names.cells ≡ cells_of x = sym (length-map s.names.cells (λ c. c.of)) ∙ sym (ap length told.cells_are) ∙ types_length b in
      let now : length hw.is.names.cells ≡ length m.builder.graph.cells = sym (length-map hw.is.names.cells (λ c. c.of)) ∙ sym (ap length hw.is.told.cells_are) ∙ types_length m.builder in
      omega (arith, l, at, before, now)

  filled : CellFilled s.roots c.0 v (map (λ c. c.of) m.builder.graph.cells) (closed b) (closed m.builder)
  filled =
      subst (λ (r : List Tree). CellFilled r c.0 v (map (λ c. c.of) m.builder.graph.cells) (closed b) (closed m.builder)) (ap (λ (g : Graph). g.roots) ag.keeps.graph)
      (cell_ends b m.builder c.0 v (subst (λ (u : Building). HomeRan u m.builder) opens (ran s1.machine m out)) hw.is.nodes
      (cell_there w side order fetched noted direct o x s seen p ps n st c some unread).0 still_there)

  module _ (s3 s4 : Stream) (k : Kept) (own : HasOwn m k) (ends : CellEnds c.0 k s2 s3) where
    kept : IsKeptHome (state_of m) k
    kept = kept_of m k hw.is.first.0 hw.is.first.1 own

    is_kept : CellKept c.0 k x.cells.items s3.cells.items
    is_kept = subst (λ (l : List (Option Kept)). CellKept c.0 k l s3.cells.items) keeps.cells ends.kept

    module _ (agree : AllAgree k (owed_of x.wanted.items o).agreements) (q : Option Owed)
        (pending : pending_with q s4.wanted.items s4.todo.items ≡ (state_of s3.machine).fresh ++ pending_in s3.wanted.items s3.todo.items)
        (cleared : IsCleared s3.machine s4.machine) (homes : KeepsHomes s3 s4) where
      same_machine : s3.machine ≡ m
      same_machine = ends.others.machine

      others : pending_in s3.wanted.items s3.todo.items ≡ pending_in x.wanted.items x.todo.items
      others =
          ap (λ ws. pending_in ws s3.todo.items) (ends.others.wanted ∙ keeps.wanted) ∙ ap (pending_in x.wanted.items) (ends.others.todo ∙ keeps.todo)

      built : s4.machine.builder ≡ m.builder
      built = cleared.builder ∙ ap (λ (q : Machine). q.builder) same_machine

      now_pending : pending_with q s4.wanted.items s4.todo.items ≡ (state_of m).fresh ++ pending_in x.wanted.items x.todo.items
      now_pending =
          pending ∙ ap (λ (q : Machine). (state_of q).fresh ++ pending_in s3.wanted.items s3.todo.items) same_machine
          ∙ ap (λ (l : List steps.Owed). (state_of m).fresh ++ l) others

      is_now : with_taken q s4 ≡ cell_read (between_of x) (state_of m) x.roots.items s3.cells.items (closed m.builder)
      is_now =
          ap (λ u. kept_by u (pending_with q s4.wanted.items s4.todo.items) s4.machine.builder s4.machine.referents s4.roots.items s4.cells.items)
          (cleared.at ∙ ap (λ (q : Machine). q.at) same_machine)
          ∙ ap (λ u. kept_by m.at u s4.machine.builder s4.machine.referents s4.roots.items s4.cells.items) now_pending
          ∙ ap (λ u. kept_by m.at ((state_of m).fresh ++ pending_in x.wanted.items x.todo.items) u s4.machine.referents s4.roots.items s4.cells.items) built
          ∙ ap (λ u. kept_by m.at ((state_of m).fresh ++ pending_in x.wanted.items x.todo.items) m.builder u s4.roots.items s4.cells.items)
          (cleared.referents ∙ ap (λ (q : Machine). q.referents) same_machine)
          ∙ ap (λ u. kept_by m.at ((state_of m).fresh ++ pending_in x.wanted.items x.todo.items) m.builder m.referents u s4.cells.items)
          (homes.roots ∙ ends.others.roots ∙ keeps.roots)
          ∙ ap (λ u. kept_by m.at ((state_of m).fresh ++ pending_in x.wanted.items x.todo.items) m.builder m.referents x.roots.items u) homes.cells

      all_agree : AllAgree k p.agreements
      all_agree = subst (AllAgree k) (agreements_are w side order fetched noted direct o x s seen p ps n st) agree

      pub referent_done : WentOnTaking w side order fetched noted (cells_of x) source t q s4 n
      referent_done =
          let new = is_new w side order fetched noted direct o x s seen p ps n st c some unread in
          let (then, so, qs, agrees) =
          law.ends w side order fetched noted direct (with_next o x) s seen p ps n ag c.0 is_cell new hw.octets hw.all (noted ++ hw.items) (state_of m) hw.is hw.needed k kept all_agree
          s3.cells.items is_kept (closed m.builder) filled in
          record {
            octets = hw.octets;
            items = hw.items;
            direct = direct;
            s = then;
            seen = so;
            ps = qs;
            stands = record {
              agrees = subst (λ (u : Between). Agrees w side order (fetched ++ hw.octets) (noted ++ hw.items) direct u then so qs n) (sym is_now) agrees;
              whole = subst CanClose (sym built) (can_close m.builder v hw.is.nodes);
              within = let at : s4.machine.at ≡ m.at = cleared.at ∙ ap (λ (q : Machine). q.at) same_machine in let few = hw.within in omega (arith, at, few);
            };
            took = took_by source t (length (state_of s1.machine).cells) (cells_of x) (length (state_of m).cells) (cells_of s4) hw.octets hw.items (ap length cells ∙ types_length b)
                (types_length m.builder ∙ sym (ap (λ (u : Building). length u.graph.cells) built)) hw.took;
          }

      -- each of its pointers took four octets
      pub referent_paid : ArePaid x q s4
      referent_paid =
          let its : List Pending = home_pointers w.table (cell_home c.0) p.to v in
          let cost : 4 * length its + paid (going x.machine.at seen) ≤ paid (going m.at hw.is.seen) = wholly.cost in
          let made : length (state_of m).fresh ≡ length its = ap length hw.is.pending ∙ length-map its (owed w.table) in
          let all : length (pending_with q s4.wanted.items s4.todo.items) ≡ length (state_of m).fresh + length (pending_in x.wanted.items x.todo.items) =
          ap length now_pending ∙ length-append (state_of m).fresh (pending_in x.wanted.items x.todo.items) in
          let at : s4.machine.at ≡ m.at = cleared.at ∙ ap (λ (q : Machine). q.at) same_machine in
          omega (arith, cost, made, all, at)
