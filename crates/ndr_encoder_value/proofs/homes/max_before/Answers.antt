use Rattle.std.proofs.Common.{◌≡◌, ◌<◌, ◌^◌, true, false, length, ap, sym, ◌∙◌, arith}
use Rattle.std.specs.List.{slice_get}
use Rattle.nd_value.specs.Tree.{Tree, none, more, flat, node_count}
use Rattle.nd_grammar.specs.Entry.{hoisted_max}
use Rattle.ndr_encoder_laws.specs.maximum.LastPart.{last_max}
use Rattle.ndr_encoder_laws.specs.chosen.Written.{value_at}
use Rattle.ndr_encoder_value.specs.Turns.{is_hoist}
use Rattle.ndr_encoder_value.proofs.LastMaxima.{value_max}
use Rattle.nd_grammar.proofs.agreements.EntriesTell.{flat_length}
use Rattle.ndr_encoder_value.proofs.Maxima.{few_at}
use Rattle.ndr_encoder_value.proofs.homes.max_before.Goals as goal

pub maximum_of-requires : goal.maximum_of-requires
maximum_of-requires c =
    let v : Tree = value_at c.args.fit.now.graph c.args.turn.home in
    let few : node_count (more v none) < 2 ^ 32 = few_at c.args.fit.now.graph c.walk.ensures.conforms.conforms.few_nodes c.args.turn.home in
    let l : length (flat (more v none)) ≡ node_count (more v none) = flat_length (more v none) in
    let e : length (flat c.walk.result) ≡ length (flat (more v none)) = ap (λ t. length (flat t)) c.walk.ensures.walk in
    record { few = omega (arith, few, l, e) }

pub returns-then-is_hoist : goal.returns-then-is_hoist
returns-then-is_hoist c =
    let v : Tree = value_at c.args.fit.now.graph c.args.turn.home in
    let h : is_hoist (slice_get c.args.code.now c.args.turn.start) ≡ true = ap is_hoist (sym c.instr_at-first.ensures) ∙ sym c.is_hoist.ensures ∙ c.if-is_hoist.true in
    c.maximum_of.ensures ∙ ap (λ t. last_max 1 (flat t)) c.walk.ensures.walk ∙ value_max v ∙ sym (ap (λ b. elim b [ true ↦ hoisted_max 0 (more v none) | false ↦ 0 ]) h)
