-- The end of the roots and referents of a stream: the agreements of the parameters come next, and the pipes.
use Rattle.std.proofs.Common.{◌≡◌, ℕ, List, [], ◌++◌, ap, ◌∙◌}
use Rattle.nd_base.specs.declared.octets.Order.{Order}
use Rattle.nd_types.specs.Number.{AreOctets}
use Rattle.nd_value.specs.declared.item.Item.{Item}
use Rattle.nd_value.specs.Setting.{Setting}
use Rattle.nd_grammar.specs.declared.reason.Reason.{Reason}
use Rattle.nd_grammar.specs.Entry.{EntryAt}
use Rattle.nd_grammar.specs.LegalSide.{IsLegalSide}
use Rattle.nd_grammar.specs.Reader.{Progress, pass_all}
use Rattle.nd_grammar.specs.StreamReader.{Reading, Found, read_stream}
use Rattle.ndr_decoder_laws.specs.reader.Around.{going, stopped}
use Rattle.ndr_decoder_laws.proofs.reader.Worklist.{due_over}
use Rattle.ndr_decoder_laws.specs.worklist.Reached.{head, stream_after}
use Rattle.ndr_decoder_laws.proofs.worklist.Turns.{over}
use Rattle.ndr_decoder_laws.specs.stream.Between.{Between, Agrees}
use Rattle.ndr_decoder_laws.specs.stream.Parameters.{head_read, parameter_tests, pipes_from}

module _ (w : Setting) (side : IsLegalSide w) (order : Order) (fetched : List ℕ) (noted : List Item) (direct : ℕ) (b : Between) (s : Reading) (seen : List EntryAt)
    (ag : Agrees w side order fetched noted direct b s seen [] 0) where
  over_now : (later : List ℕ) → AreOctets later → read_stream w order (fetched ++ later) ≡ stream_after w order (fetched ++ later) s
  over_now later a = over w order fetched s ag.reached ag.due later a

  abbrev found_by : List ℕ → Progress → Found
  found_by octets p = pipes_from w order octets s p

  after_is : (octets : List ℕ) → stream_after w order octets s ≡ found_by octets (pass_all order octets (parameter_tests w s) (going b.at seen))
  after_is octets = ap (λ p. found_by octets (pass_all order octets (parameter_tests w s) p)) ag.progress

  -- all agreements of the parameters hold: the pipes come next
  pub parameters_pass : (after : List EntryAt) → ((later : List ℕ) → pass_all order (fetched ++ later) (parameter_tests w s) (going b.at seen) ≡ going b.at after) → (later : List ℕ) → AreOctets later
      → read_stream w order (fetched ++ later) ≡ pipes_from w order (fetched ++ later) s (going b.at after)
  parameters_pass after goes later a = over_now later a ∙ after_is (fetched ++ later) ∙ ap (found_by (fetched ++ later)) (goes later)

  -- one of them is refused
  pub parameters_stop : (after : List EntryAt) (why : ℕ × Reason) → ((later : List ℕ) → pass_all order (fetched ++ later) (parameter_tests w s) (going b.at seen) ≡ stopped b.at after why)
      → (later : List ℕ) → AreOctets later → head_read w order (fetched ++ later) ≡ stopped b.at after why
  parameters_stop after why stops later a =
      let (k, e) = ag.reached.comes later a in
      let is : head w order (fetched ++ later) ≡ s = e ∙ due_over w order (fetched ++ later) k s ag.due in
      ap (λ (u : Reading). pass_all order (fetched ++ later) (parameter_tests w u) u.progress) is ∙ ap (pass_all order (fetched ++ later) (parameter_tests w s)) ag.progress ∙ stops later
