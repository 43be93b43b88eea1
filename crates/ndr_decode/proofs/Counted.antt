-- A step that was counted before a home was read: the cell of a root that is a reference pointer got its number.
-- `k` is how many steps were counted before it, `n` how many cells there were.
use Rattle.std.proofs.Common.{◌≡◌, ℕ, ◌+◌, List, arith}
use Rattle.nd_base.specs.declared.octets.Order.{Order}
use Rattle.nd_base.specs.Over.{SourceOver}
use Rattle.nd_value.specs.declared.item.Item.{Item}
use Rattle.nd_value.specs.Setting.{Setting}
use Rattle.ndr_decoder_state.specs.declared.fault.DecodeFault.{DecodeFault}
use Rattle.ndr_decoder_state.specs.declared.fault.DecodeFault.TheVariants as fault
use Rattle.nd_grammar.specs.decoded.Verdict.{DecodingSeen}
use Rattle.ndr_decoder_laws.specs.stream.Calls.{CutOff, TookPart, Unread}
use Rattle.ndr_decoder_laws.specs.stream.Report.{the_head}
use Rattle.ndr_decode.specs.Streaming.{FaultOf}

-- the same log, with so many steps counted before
abbrev pub with_steps : ℕ → DecodingSeen → DecodingSeen
with_steps k t = record { log = t.log; log_now = t.log_now; steps = k; steps_now = t.steps_now }

module _ (w : Setting) (order : Order) (fetched : List ℕ) (noted : List Item) (source : SourceOver) (t : DecodingSeen) (k n : ℕ) (one : t.steps ≡ k + 1) where
  part_counted : (octets : List ℕ) (items : List Item) (n' : ℕ) → TookPart source t (n + 1) octets items n' → TookPart source (with_steps k t) n octets items n'
  part_counted octets items n' p = let a = p.steps in record { left = p.left; logged = p.logged; steps = omega (arith, a, one) }

  cut_counted : CutOff the_head w order fetched noted (n + 1) source t → CutOff the_head w order fetched noted n source (with_steps k t)
  cut_counted x = record { octets = x.octets; items = x.items; n' = x.n'; cut = x.cut; took = part_counted x.octets x.items x.n' x.took }

  unread_counted : Unread the_head w order fetched noted (n + 1) source t → Unread the_head w order fetched noted n source (with_steps k t)
  unread_counted x = record { octets = x.octets; items = x.items; n' = x.n'; short = x.short; took = part_counted x.octets x.items x.n' x.took }

  pub fault_counted : (e : DecodeFault) → FaultOf the_head w order fetched noted (n + 1) source t e → FaultOf the_head w order fetched noted n source (with_steps k t) e
  fault_counted (fault.Bad place why) x = record {
    octets = x.octets;
    items = x.items;
    n' = x.n';
    refused = x.refused;
    took = part_counted x.octets x.items x.n' x.took;
    ended = x.ended;
    none_left = x.none_left;
  }
  fault_counted fault.ReadFault x = (unread_counted x.0, x.1)
  fault_counted fault.Memory x = cut_counted x
