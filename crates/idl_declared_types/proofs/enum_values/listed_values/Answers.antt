use Rattle.std.proofs.Common.{◌≡◌, ◌∙◌, List, [], ◌∷◌, map, ap, refl, arith}
use Rattle.idl_grammar.specs.declared.types.Enumerator.{Enumerator}
use Rattle.idl_grammar.specs.Seen.{seen_enumerator}
use Rattle.idl_scope.specs.Known.{Known}
use Rattle.idl_scope.specs.Seen.{known_in}
use Rattle.idl_rule_definitions.specs.Nodes.{number_of}
use Rattle.idl_declared_types.specs.LabelValues.{is_among}
use Rattle.idl_declared_types.proofs.LabelTags.{holds_next, holds_all}
use Rattle.idl_declared_types.proofs.enum_values.listed_values.Goals as goal

seen : (known : Known) (es : List Enumerator) → map (λ e. number_of known e.name.octets) es ≡ map (λ e. number_of known e.name.octets) (map seen_enumerator es)
seen known [] = refl
seen known (e ∷ es) = ap (λ l. number_of known e.name.octets ∷ l) (seen known es)

pub loop-one-init : goal.loop-one-init
loop-one-init c v = ap (is_among v) c.new-set.ensures

pub loop-one-preserved : goal.loop-one-preserved
loop-one-preserved c =
    holds_next (λ e. number_of (known_in c.args.scope.now) e.name.octets) c.args.list.now c.loop-one.one-index c.one-item.result c.number_of.result c.add.new.self
    (omega arith) c.one-item.is c.number_of.ensures
    (c.in_ok-add.ensures.holds _ c.loop-one.invariant)

pub returns : goal.returns
returns c v =
    holds_all (λ e. number_of (known_in c.args.scope.now) e.name.octets) c.args.list.now c.loop-one.one-index c.loop-one.set (omega arith) c.loop-one.invariant v
    ∙ ap (is_among v) (seen (known_in c.args.scope.now) c.args.list.now)
