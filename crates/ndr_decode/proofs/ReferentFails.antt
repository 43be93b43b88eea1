-- The next of the pending referents, whose value was read: memory fails after it, or an agreement of its pointer is refused.
-- `o` is the referent as code has it, `x` what was kept before it, `c` its cell, `x0` the state at the beginning of its value and `m` the machine at its end, `k` what is kept of it.
use Rattle.std.proofs.Common.{◌≡◌, ◌<◌, ℕ, List, [], ◌∷◌, ◌++◌, length, Some, None, sym, ap, ◌∙◌, subst, arith}
use Rattle.std.proofs.lemmas.List.{append-nil}
use Rattle.nd_base.specs.declared.octets.Order.{Order}
use Rattle.nd_base.specs.Over.{SourceOver}
use Rattle.nd_types.specs.declared.types.Class.TheVariants.{Full}
use Rattle.nd_value.specs.declared.item.Item.{Item}
use Rattle.nd_value.specs.declared.value.CellId.{CellId}
use Rattle.nd_value.specs.Deferral.{Pending}
use Rattle.nd_value.specs.Seen.{cell_number}
use Rattle.nd_value.specs.Setting.{Setting, cell_home}
use Rattle.nd_value.proofs.Apart.{all_append}
use Rattle.nd_grammar.specs.declared.reason.Reason.{Reason}
use Rattle.nd_grammar.specs.declared.reason.Reason.TheVariants as reason
use Rattle.nd_grammar.specs.Entry.{EntryAt}
use Rattle.nd_grammar.specs.LegalSide.{IsLegalSide}
use Rattle.nd_grammar.specs.Reader.{Read}
use Rattle.nd_grammar.specs.StreamReader.{Reading}
use Rattle.ndr_decoder_laws.specs.reader.Around.{stopped}
use Rattle.ndr_decoder_laws.specs.steps.Steps.{State}
use Rattle.ndr_decoder_state.specs.declared.machine.Owed.{Owed}
use Rattle.ndr_decoder_state.specs.Seen.{owed_of}
use Rattle.nd_grammar.specs.decoded.Verdict.{DecodingSeen}
use Rattle.ndr_decoder_laws.specs.declared.kept.Kept.{Kept}
use Rattle.ndr_decoder_laws.specs.stream.Between.{Agrees, IsKeptHome, home_target, kept_at}
use Rattle.ndr_decoder_laws.specs.stream.Calls.{CutOff, Refused, TookPart}
use Rattle.ndr_decoder_laws.specs.stream.Parameters.{head_read}
use Rattle.ndr_decoder_laws.specs.stream.Report.{AreCells, IsRefusedAfter, the_head}
use Rattle.ndr_decoder_laws.proofs.stream.FewReferences.{few_now}
use Rattle.ndr_decoder_laws.proofs.stream.HomeFaults.{home_cut}
use Rattle.ndr_decoder_laws.proofs.stream.ReferentEnds as law
use Rattle.ndr_decoder_stream.specs.declared.stream.Stream.{Stream}
use Rattle.ndr_decoder_stream.specs.Seen.{between_of}
use Rattle.ndr_decode.specs.Streaming.{HomeWhole, StandsWith, with_next}
use Rattle.ndr_decode.specs.Tried.{IsFirst}
use Rattle.ndr_decode.proofs.OwedReads.{agreements_are, cell_is}
use Rattle.ndr_decode.proofs.Standing.{not_cut}
use Rattle.ndr_decode.proofs.ReferentReads.{is_new}

module _ (w : Setting) (side : IsLegalSide w) (order : Order) (fetched : List ℕ) (noted : List Item) (direct : ℕ) (o : Owed) (x : Stream) (s : Reading) (seen : List EntryAt) (p : Pending)
    (ps : List Pending) (n : ℕ)
    (st : StandsWith w side order fetched noted direct o x s seen p ps n) (c : CellId) (some : o.cell ≡ Some c) (unread : o.class ≡ Full → kept_at x.cells.items c.0 ≡ None)
    (source : SourceOver) (t : DecodingSeen) (n0 : ℕ) (x1 : State)
    (hw : HomeWhole order w.table (cell_home c.0) p.to direct (home_target w order (between_of x) seen (cell_home c.0) p.to s.names) fetched noted n0 source t x1) where
  ag : Agrees w side order fetched noted direct (with_next o x) s seen (p ∷ ps) n
  ag = st.agrees

  is_cell : p.cell ≡ Some c.0
  is_cell = sym (cell_is w side order fetched noted direct o x s seen p ps n st) ∙ ap cell_number some

  abbrev target : List ℕ → Read
  target = home_target w order (between_of x) seen (cell_home c.0) p.to s.names

  part : TookPart source t n0 hw.octets hw.items (length x1.cells)
  part = let k = hw.took.steps in record { left = hw.took.left; logged = hw.took.logged; steps = omega (arith, k) }

  pub referent_cut : CutOff the_head w order fetched noted n0 source t
  referent_cut =
      let new = is_new w side order fetched noted direct o x s seen p ps n st c some unread in
      let passed : (target (fetched ++ hw.octets)).progress.seen ≡ hw.is.seen ++ [] =
      subst (λ (f : List ℕ). (target f).progress.seen ≡ hw.is.seen ++ []) (append-nil (fetched ++ hw.octets))
      (sym (ap (λ (r : Read). r.progress.seen) (hw.is.is [])) ∙ sym (append-nil hw.is.seen)) in
      let cells : AreCells w hw.is.seen (length x1.cells) = record {
        d = direct;
        named = hw.is.told.cells_named.named;
        few = few_now w side order fetched noted direct (with_next o x) s seen (p ∷ ps) n ag;
      } in
      record {
        octets = hw.octets;
        items = hw.items;
        n' = length x1.cells;
        cut = home_cut the_head w order fetched ag.octets ag.needed target hw.octets hw.all
            (λ part all. law.referent_goes w side order fetched noted direct (with_next o x) s seen p ps n ag c.0 is_cell new part all)
            (noted ++ hw.items) (length x1.cells) hw.is.seen [] passed hw.is.told.noted_are cells;
        took = part;
      }

  pub referent_disagrees : (k : Kept) → IsKeptHome x1 k → (place : ℕ) (why : Reason) → IsFirst (owed_of x.wanted.items o).agreements k place why
      → Refused the_head w order fetched noted n0 source t place why
  referent_disagrees k own place why first =
      let new = is_new w side order fetched noted direct o x s seen p ps n st c some unread in
      let after : IsRefusedAfter w order (fetched ++ hw.octets) (noted ++ hw.items) (length x1.cells) direct x1.at (place, why) =
      law.disagrees w side order fetched noted direct (with_next o x) s seen p ps n ag c.0 is_cell new hw.octets hw.all (noted ++ hw.items) x1 hw.is hw.needed k own
      first.before first.a first.others (place, why) (sym (agreements_are w side order fetched noted direct o x s seen p ps n st) ∙ first.split) first.agree first.is in
      let other : why ≡ reason.Truncated → ⊥ = not_cut first.a k.first k.max_at place why first.is in
      record {
        octets = hw.octets;
        items = hw.items;
        n' = length x1.cells;
        refused = record {
          octets = all_append (λ b. b < 256) fetched hw.octets ag.octets hw.all;
          at = x1.at;
          seen = after.seen;
          stops = subst (λ (f : List ℕ). head_read w order f ≡ stopped x1.at after.seen (place, why)) (append-nil (fetched ++ hw.octets)) (after.stops [] tt);
          items_are = after.items_are;
          needed = after.needed;
          cells = record { d = direct; named = after.cells_named; few = few_now w side order fetched noted direct (with_next o x) s seen (p ∷ ps) n ag };
        };
        took = part;
        ended = λ e. absurd (other e);
        none_left = λ e. absurd (other e);
      }
