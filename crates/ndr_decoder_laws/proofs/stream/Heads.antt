-- What comes before the pipes, and the whole stream: where the first is refused the second is, and what is passed of the first is passed of the second.
-- `x` is what is read of a stream.
use Rattle.std.proofs.Common.{◌≡◌, ℕ, ◌+◌, true, List, [], ◌∷◌, ◌++◌, Option, Some, None, refl, ap, ◌∙◌, append_assoc, drop}
use Rattle.nd_base.specs.declared.octets.Order.{Order}
use Rattle.nd_types.specs.declared.types.TypeDef.{TypeDef}
use Rattle.nd_types.specs.declared.types.TypeDef.TheVariants as def
use Rattle.nd_types.specs.Number.{AreOctets}
use Rattle.nd_types.specs.Roots.{Root}
use Rattle.nd_types.specs.Table.{type_at}
use Rattle.nd_value.specs.declared.item.Item.{Item}
use Rattle.nd_value.specs.Deferral.{Due, before_pipes}
use Rattle.nd_value.specs.Setting.{Setting, root_list}
use Rattle.nd_grammar.specs.declared.reason.Reason.{Reason}
use Rattle.nd_grammar.specs.Entry.{EntryAt}
use Rattle.nd_grammar.specs.LegalSide.{IsLegalSide}
use Rattle.nd_grammar.specs.Reader.{Progress, Names, is_stopped, pass_all}
use Rattle.nd_grammar.specs.StreamReader.{Reading, ReadPipe, read_next, read_pipe, read_pipes, read_stream}
use Rattle.ndr_decoder_laws.specs.reader.Around.{stopped}
use Rattle.ndr_decoder_laws.proofs.reader.Continuing.{all_stay}
use Rattle.ndr_decoder_laws.specs.worklist.Reached.{Reached, head}
use Rattle.ndr_decoder_laws.proofs.worklist.Turns.{head_refused}
use Rattle.ndr_decoder_laws.specs.stream.Added.{Goes}
use Rattle.ndr_decoder_laws.specs.stream.Parameters.{head_read, parameter_tests}
use Rattle.ndr_decoder_laws.specs.stream.Report.{Extent, the_head, the_stream, StreamRefused, StreamCut, read_over}
use Rattle.ndr_decoder_laws.proofs.stream.StreamGrows.{goes_nowhere, head_then_stream}

-- where a root or a referent is refused, the agreements of the parameters are not tried
pub head_stays : (w : Setting) (order : Order) (octets : List ℕ) (at : ℕ) (seen : List EntryAt) (why : ℕ × Reason) → (head w order octets).progress ≡ stopped at seen why
    → head_read w order octets ≡ stopped at seen why
head_stays w order octets at seen why e =
    ap (pass_all order octets (parameter_tests w (head w order octets))) e ∙ all_stay order octets (parameter_tests w (head w order octets)) at seen why

-- the next of what is due is refused
pub next_refused : (w : Setting) → IsLegalSide w → (order : Order) (fetched : List ℕ) → AreOctets fetched → (s : Reading) (d : Due) (ds : List Due)
    → Reached w order fetched s → s.due ≡ d ∷ ds → (later : List ℕ) → AreOctets later → (at : ℕ) (seen : List EntryAt) (why : ℕ × Reason)
    → (read_next w order (fetched ++ later) s.due s).progress ≡ stopped at seen why → head_read w order (fetched ++ later) ≡ stopped at seen why
next_refused w side order fetched all s d ds r e later a at seen why f =
    head_stays w order (fetched ++ later) at seen why (head_refused w side order fetched all s d ds r e later a at seen why f)

-- nor are the pipes read
module _ (w : Setting) (order : Order) (octets : List ℕ) (at : ℕ) (seen : List EntryAt) (why : ℕ × Reason) where
  abbrev end : Progress
  end = stopped at seen why

  pipe_stays : (d : Option TypeDef) (i : ℕ) (s : Names) → (read_pipe w order octets d true i end s).progress ≡ end
  pipe_stays (Some (def.Prim p)) i s = refl
  pipe_stays (Some (def.Enum values)) i s = refl
  pipe_stays (Some (def.Struct members)) i s = refl
  pipe_stays (Some (def.Array elem bound varying)) i s = refl
  pipe_stays (Some (def.Text elem bound)) i s = refl
  pipe_stays (Some (def.Union tag enc arms default)) i s = refl
  pipe_stays (Some (def.Pointer class to)) i s = refl
  pipe_stays (Some def.Context) i s = refl
  pipe_stays (Some (def.Pipe elem)) i s = refl
  pipe_stays None i s = refl

  pub pipes_stay : (i : ℕ) (rs : List Root) (p : Progress) (s : Names) → p ≡ end → (read_pipes w order octets i rs p s).progress ≡ end
  pipes_stay i [] p s e = e
  pipes_stay i (r ∷ rs) p s e =
      let first : Progress → ReadPipe = λ q. read_pipe w order octets (type_at w.table r.of) (is_stopped q.stop) i q s in
      pipes_stay (i + 1) rs (first p).progress (first p).names (ap (λ q. (first q).progress) e ∙ pipe_stays (type_at w.table r.of) i s)

-- so is the stream
pub stream_stays : (w : Setting) (order : Order) (octets : List ℕ) (at : ℕ) (seen : List EntryAt) (why : ℕ × Reason) → head_read w order octets ≡ stopped at seen why
    → (read_stream w order octets).progress ≡ stopped at seen why
stream_stays w order octets at seen why e =
    pipes_stay w order octets at seen why (before_pipes (root_list w)) (drop (before_pipes (root_list w)) (root_list w)) (head_read w order octets) (head w order octets).names e

module _ (w : Setting) (order : Order) (octets : List ℕ) where
  pub over_stream : (x : Extent) (at : ℕ) (seen : List EntryAt) (why : ℕ × Reason) → read_over x w order octets ≡ stopped at seen why
      → (read_stream w order octets).progress ≡ stopped at seen why
  over_stream the_head at seen why e = stream_stays w order octets at seen why e
  over_stream the_stream at seen why e = e

  pub over_goes : (x : Extent) → Goes (read_over x w order octets) (read_stream w order octets).progress
  over_goes the_head = head_then_stream w order octets
  over_goes the_stream = goes_nowhere (read_stream w order octets).progress

  pub refused_stream : (x : Extent) (noted : List Item) (n place : ℕ) (why : Reason) → StreamRefused x w order octets noted n place why
      → StreamRefused the_stream w order octets noted n place why
  refused_stream x noted n place why r = record {
    octets = r.octets;
    at = r.at;
    seen = r.seen;
    stops = over_stream x r.at r.seen (place, why) r.stops;
    items_are = r.items_are;
    needed = r.needed;
    cells = r.cells;
  }

  pub cut_stream : (x : Extent) (noted : List Item) (n : ℕ) → StreamCut x w order octets noted n → StreamCut the_stream w order octets noted n
  cut_stream x noted n r =
      let g : Goes (read_over x w order octets) (read_stream w order octets).progress = over_goes x in
      record {
        octets = r.octets;
        seen = r.seen;
        after = r.after ++ g.added;
        passed = g.seen ∙ ap (λ u. u ++ g.added) r.passed ∙ append_assoc r.seen r.after g.added;
        items_are = r.items_are;
        cells = r.cells;
      }
