-- The next of the pending referents, where nothing of it is read: it is null, or a full pointer's that was read.
-- `o` is the referent as code has it, `x` what is kept of the stream, `k` what is kept of its cell.
use Rattle.std.proofs.Common.{◌≡◌, ℕ, Bool, List, ◌∷◌, map, Option, Some, None, Result, Ok, Err, ap, sym, ◌∙◌, subst}
use Rattle.std.proofs.lemmas.List.{length-map}
use Rattle.nd_base.specs.declared.octets.Order.{Order}
use Rattle.nd_base.specs.Over.{Count}
use Rattle.nd_types.specs.declared.types.Class.TheVariants.{Full}
use Rattle.nd_types.specs.Table.{Table}
use Rattle.nd_value.specs.Agreement.{Agreement}
use Rattle.nd_value.specs.Deferral.{Pending}
use Rattle.nd_value.specs.declared.item.Item.{Item}
use Rattle.nd_value.specs.declared.value.CellId.{CellId}
use Rattle.nd_value.specs.Logged.{Logged}
use Rattle.nd_value.specs.Seen.{cell_number}
use Rattle.nd_value.specs.Setting.{Setting}
use Rattle.nd_grammar.specs.Entry.{EntryAt}
use Rattle.nd_grammar.specs.LegalSide.{IsLegalSide}
use Rattle.nd_grammar.specs.StreamReader.{Reading}
use Rattle.ndr_decoder_laws.specs.steps.Steps as steps
use Rattle.ndr_decoder_laws.specs.steps.Good.{owed}
use Rattle.ndr_decoder_state.specs.declared.fault.DecodeFault.{DecodeFault}
use Rattle.ndr_decoder_state.specs.declared.fault.DecodeFault.TheVariants as fault
use Rattle.ndr_decoder_state.specs.declared.machine.Owed.{Owed}
use Rattle.ndr_decoder_state.specs.Seen.{owed_of}
use Rattle.ndr_decoder_laws.specs.declared.kept.Kept.{Kept}
use Rattle.ndr_decoder_laws.specs.stream.Between.{kept_at}
use Rattle.ndr_decoder_laws.proofs.stream.OtherTurns.{passes_null, passes_read, disagrees}
use Rattle.ndr_decoder_stream.specs.declared.stream.Stream.{Stream}
use Rattle.ndr_decode.specs.Streaming.{Reads, StandsWith, WentOn, cells_of, with_next}
use Rattle.ndr_decode.specs.Tried.{AreTried}
use Rattle.ndr_decode.proofs.Standing.{idle_log, idle_source, not_cut, refused_here, went_nowhere}

-- the first of the pending referents is that of the first pointer that is due
pub next_is : (table : Table) (o : steps.Owed) (os : List steps.Owed) (p : Pending) (ps : List Pending) → o ∷ os ≡ map (owed table) (p ∷ ps) → o ≡ owed table p
next_is table o os p ps e = first_of o os (owed table p) (map (owed table) ps) e
  where
    first_of : (o : steps.Owed) (os : List steps.Owed) (q : steps.Owed) (qs : List steps.Owed) → o ∷ os ≡ q ∷ qs → o ≡ q
    first_of o os q qs e = cc

module _ (w : Setting) (side : IsLegalSide w) (order : Order) (fetched : List ℕ) (noted : List Item) (direct : ℕ) (o : Owed) (x : Stream) (s : Reading) (seen : List EntryAt) (p : Pending)
    (ps : List Pending) (n : ℕ)
    (st : StandsWith w side order fetched noted direct o x s seen p ps n) where
  pub due_is : owed_of x.wanted.items o ≡ owed w.table p
  due_is = next_is w.table (owed_of x.wanted.items o) _ p ps st.agrees.keeps.pending

  pub cell_is : cell_number o.cell ≡ p.cell
  cell_is = ap (λ (q : steps.Owed). q.cell) due_is

  pub class_is : o.class ≡ p.class
  class_is = ap (λ (q : steps.Owed). q.class) due_is

  pub agreements_are : (owed_of x.wanted.items o).agreements ≡ p.agreements
  agreements_are = ap (λ (q : steps.Owed). q.agreements) due_is

  module _ (left : Option (List ℕ)) (ended : Bool) (faults : Count) (g : Logged) (k : ℕ) where
    pub null_reads : o.cell ≡ None → WentOn w side order fetched noted (cells_of x) (idle_source left ended faults) (idle_log g k) x n
    null_reads none =
        let (then, ag) = passes_null w side order fetched noted direct (with_next o x) s seen p ps n st.agrees (sym cell_is ∙ ap cell_number none) in
        went_nowhere left ended faults g k w side order fetched noted direct x then seen ps n (record { agrees = ag; within = st.within; whole = st.whole })

    -- a full pointer's referent that was read: its agreements are tried
    pub read_reads : (c : CellId) → o.cell ≡ Some c → o.class ≡ Full → (z : Kept) → kept_at x.cells.items c.0 ≡ Some z → (r : Result (Unit {0}) DecodeFault)
        → AreTried (owed_of x.wanted.items o).agreements z r → Reads w side order fetched noted (cells_of x) n (idle_source left ended faults) (idle_log g k) x r
    read_reads c some full z there (Ok u) t =
        let is_cell : p.cell ≡ Some c.0 = sym cell_is ∙ ap cell_number some in
        let is_full : p.class ≡ Full = sym class_is ∙ full in
        let (then, so, ag) = passes_read w side order fetched noted direct (with_next o x) s seen p ps n st.agrees c.0 is_cell is_full z there
        (subst (λ (ws : List Agreement). AreTried ws z (Ok u)) agreements_are t) in
        went_nowhere left ended faults g k w side order fetched noted direct x then so ps n (record { agrees = ag; within = st.within; whole = st.whole })
    read_reads c some full z there (Err (fault.Bad place why)) t =
        let is_cell : p.cell ≡ Some c.0 = sym cell_is ∙ ap cell_number some in
        let is_full : p.class ≡ Full = sym class_is ∙ full in
        let after = disagrees w side order fetched noted direct (with_next o x) s seen p ps n st.agrees c.0 is_cell is_full z there
        t.before t.a t.others (place, why) (sym agreements_are ∙ t.split) t.agree t.is in
        refused_here left ended faults g k w side order fetched noted direct (with_next o x) s seen (p ∷ ps) n (cells_of x) x.machine.at place why
        (sym (length-map x.machine.builder.graph.cells (λ c. c.of))) st.agrees (not_cut t.a z.first z.max_at place why t.is) after
    read_reads c some full z there (Err fault.ReadFault) t = absurd t
    read_reads c some full z there (Err fault.Memory) t = absurd t
