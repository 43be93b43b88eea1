-- Octets that the reader reads to their end represent the graph that it finds, and no other.
use Rattle.std.proofs.Common.{◌≡◌, ℕ, ◌≤◌, List, [], length, None, refl, sym, ◌∙◌, subst}
use Rattle.std.proofs.lemmas.List.{append-nil}
use Rattle.nd_base.specs.declared.octets.Order.{Order}
use Rattle.nd_base.specs.declared.TheConstants.{STREAM_LIMIT}
use Rattle.nd_types.specs.Number.{AreOctets}
use Rattle.nd_value.specs.declared.value.Graph.{Graph}
use Rattle.nd_value.specs.Canon.{IsCanon}
use Rattle.nd_value.specs.Conforms.{Conforms}
use Rattle.nd_value.specs.Setting.{Setting}
use Rattle.nd_grammar.specs.LegalSide.{IsLegalSide}
use Rattle.nd_grammar.specs.Entry.{end_to_end}
use Rattle.nd_grammar.specs.Stream.{Represents}
use Rattle.nd_grammar.specs.StreamReader.{read_stream}
use Rattle.nd_grammar.proofs.OneGraph.{one_graph}
use Rattle.nd_grammar.proofs.ReaderLaws.{reader_accepts}
use Rattle.nd_grammar.proofs.reader.ReaderVerdict.{start, AllTaken, all_taken}
use Rattle.nd_grammar.proofs.reader.ReaderStream.{Pipes, G, ms, numbering, is_stream, numbered, goes_over, graph_is, ends_within}
use Rattle.nd_grammar.specs.decoded.Verdict.{RepresentsAlone}
use Rattle.ndr_decoder_laws.proofs.verdict.NamedInTurn.{reader_canonical}

module _ (w : Setting) (side : IsLegalSide w) (order : Order) (octets : List ℕ) (all : AreOctets octets) (not_stopped : (read_stream w order octets).progress.stop ≡ None)
    (to_end : (read_stream w order octets).progress.at ≡ length octets) where
  abbrev g : Graph
  g = G w side order octets all

  taken_all : AllTaken order octets (numbering w side order octets all) start (ms w side order octets all) (Pipes w side order octets all).progress
  taken_all =
      all_taken order octets (numbering w side order octets all) (ms w side order octets all) start (Pipes w side order octets all).progress refl not_stopped (goes_over w side order octets all)

  abbrev its_stream : Represents w order octets (G w side order octets all)
  its_stream = record {
    entries = ms w side order octets all;
    stream = is_stream w side order octets all;
    numbering = numbering w side order octets all;
    is_numbering = numbered w side order octets all;
    rendered = taken_all.rendered;
    whole = sym taken_all.at ∙ to_end;
    within = subst (λ n. n ≤ STREAM_LIMIT) to_end (ends_within w side order octets all);
  }

  its_graph : Conforms w g
  its_graph = subst (Conforms w) (graph_is w side order octets all) (reader_accepts w side order octets all not_stopped).conforms

  abbrev alone : RepresentsAlone w order octets (G w side order octets all)
  alone = record {
    represented = its_stream;
    conforms = its_graph;
    canonical = subst (λ u. IsCanon w u u) (graph_is w side order octets all) (reader_canonical w side order octets all);
    one_graph = λ h c r. (one_graph w side order octets [] g h its_graph c (subst (λ u. Represents w order u g) (sym (append-nil octets)) its_stream) r).1;
    no_part = λ part rest h e c r. (one_graph w side order part rest g h its_graph c (subst (λ u. Represents w order u g) e its_stream) r).0;
  }

  its_entries : end_to_end 0 alone.represented.entries ≡ (read_stream w order octets).progress.seen
  its_entries = sym taken_all.seen

  -- They represent it alone, and the entries of its stream are those that were read.
  pub represents_alone : (h : Graph) → (read_stream w order octets).graph ≡ h
      → (a : RepresentsAlone w order octets h) × (end_to_end 0 a.represented.entries ≡ (read_stream w order octets).progress.seen)
  represents_alone h e =
      subst (λ u. (a : RepresentsAlone w order octets u) × (end_to_end 0 a.represented.entries ≡ (read_stream w order octets).progress.seen)) (sym (graph_is w side order octets all) ∙ e)
      (alone, its_entries)
