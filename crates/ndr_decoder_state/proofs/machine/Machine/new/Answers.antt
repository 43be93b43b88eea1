use Rattle.std.proofs.Common.{rules, ap, sym, ◌+◌, ◌≤◌, length}
use Rattle.ndr_decoder_state.specs.declared.machine.Owed.{Owed}
use Rattle.ndr_decoder_state.specs.Small.{IsSmall}
use Rattle.nd_lemmas.proofs.Lists.{all_of_none}
use Rattle.ndr_decoder_state.proofs.machine.Machine.new.Goals as goal

pub invariant_of-result : goal.invariant_of-result
invariant_of-result c = record {
  keepable = search rules;
  small = all_of_none IsSmall c.new-3.result.items c.new-3.ensures.items;
  spans = all_of_none (λ (o : Owed). o.from + o.len ≤ length c.new-5.result.items) c.new-4.result.items c.new-4.ensures.items;
  counted = sym (ap length c.requires.none);
  numbered = sym (ap length c.requires.no_cell);
}
