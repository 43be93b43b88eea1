use Rattle.std.proofs.Common.{◌∙◌, ℕ, List, length, option_map, sym, ap, subst}
use Rattle.idl_scope.specs.Known.{Ended}
use Rattle.idl_rule_definitions.specs.Scene.{Scene, bodies}
use Rattle.idl_declared_types.specs.SeenTypes.{scene_seen}
use Rattle.idl_rule_definitions.specs.Found.{seen_breach}
use Rattle.idl_value_rules.specs.Cycles.{AreKeys, AreNumbersWith, IsLeastOf}
use Rattle.idl_value_rules.proofs.CycleChosen.{none_told, some_told, has_place, chosen_at}
use Rattle.idl_value_rules.proofs.cycle_rule.note_cycles.Goals as goal

pub returns-in_default-clause-first : goal.returns-in_default-clause-first
returns-in_default-clause-first c w s files seen is =
    let here = seen ∙ ap (λ k. scene_seen k c.args.nodes.now) (sym (ap (λ (s : Scene). s.known) seen)) in
    let held = c.in_ok-graph.ensures s c.args.nodes.now is in
    let all = c.in_ok-keys.ensures s here is in
    let least = c.in_ok-key.ensures s c.args.nodes.now is held (ap length c.as_slice.ensures.value ∙ all.count) in
    none_told w s c.as_slice.result.now c.in_ok-key.field-0 (option_map seen_breach c.args.finder.now.first) least c.in_default.is

pub returns-in_default-2-clause-first : goal.returns-in_default-2-clause-first
returns-in_default-2-clause-first c w s files seen is =
    let here = seen ∙ ap (λ k. scene_seen k c.args.nodes.now) (sym (ap (λ (s : Scene). s.known) seen)) in
    let held = c.in_ok-graph.ensures s c.args.nodes.now is in
    let all = c.in_ok-keys.ensures s here is in
    let size = ap length c.as_slice-3.ensures.value ∙ c.in_ok-numbers.ensures.count ∙ ap length c.as_slice-2.ensures.value ∙ all.count in
    let least = c.in_ok-number.ensures s c.args.nodes.now is held size in
    none_told w s c.as_slice-3.result.now c.in_ok-number.field-0 (option_map seen_breach c.args.finder.now.first) least c.in_default-2.is

pub returns-in_default-told-clause-first : goal.returns-in_default-told-clause-first
returns-in_default-told-clause-first c w s files seen is =
    let here = seen ∙ ap (λ k. scene_seen k c.args.nodes.now) (sym (ap (λ (s : Scene). s.known) seen)) in
    let held = c.in_ok-graph.ensures s c.args.nodes.now is in
    let keys = c.in_ok-keys.keys.items in
    let numbers = c.in_ok-numbers.numbers.items in
    let all = c.in_ok-keys.ensures s here is in
    let with = subst (λ (l : List ℕ). AreNumbersWith l c.in-Some.key numbers) c.as_slice-2.ensures.value c.in_ok-numbers.ensures in
    let size = ap length c.as_slice-3.ensures.value ∙ with.count ∙ all.count in
    let least = subst (λ (l : List ℕ). IsLeastOf s l c.in_ok-key.field-0) c.as_slice.ensures.value (c.in_ok-key.ensures s c.args.nodes.now is held (ap length c.as_slice.ensures.value ∙ all.count)) in
    let first = subst (λ (l : List ℕ). IsLeastOf s l c.in_ok-number.field-0) c.as_slice-3.ensures.value (c.in_ok-number.ensures s c.args.nodes.now is held size) in
    absurd (has_place w s keys numbers c.in-Some.key (subst (λ (l : List Ended). AreKeys l (bodies s) keys) (sym files) all) with
    (some_told s keys c.in_ok-key.field-0 c.in-Some.key least c.in-Some.is)
    c.in-Some-2.number c.told.result
    (some_told s numbers c.in_ok-number.field-0 c.in-Some-2.number first c.in-Some-2.is)
    (λ b at. c.told.ensures s b is at) c.in_default-told.is)

pub returns-clause-first : goal.returns-clause-first
returns-clause-first c w s files seen is =
    let here = seen ∙ ap (λ k. scene_seen k c.args.nodes.now) (sym (ap (λ (s : Scene). s.known) seen)) in
    let held = c.in_ok-graph.ensures s c.args.nodes.now is in
    let keys = c.in_ok-keys.keys.items in
    let numbers = c.in_ok-numbers.numbers.items in
    let all = c.in_ok-keys.ensures s here is in
    let with = subst (λ (l : List ℕ). AreNumbersWith l c.in-Some.key numbers) c.as_slice-2.ensures.value c.in_ok-numbers.ensures in
    let size = ap length c.as_slice-3.ensures.value ∙ with.count ∙ all.count in
    let least = subst (λ (l : List ℕ). IsLeastOf s l c.in_ok-key.field-0) c.as_slice.ensures.value (c.in_ok-key.ensures s c.args.nodes.now is held (ap length c.as_slice.ensures.value ∙ all.count)) in
    let first = subst (λ (l : List ℕ). IsLeastOf s l c.in_ok-number.field-0) c.as_slice-3.ensures.value (c.in_ok-number.ensures s c.args.nodes.now is held size) in
    c.note.ensures.first w files
    ∙ chosen_at w s keys numbers c.in-Some.key (subst (λ (l : List Ended). AreKeys l (bodies s) keys) (sym files) all) with
    (some_told s keys c.in_ok-key.field-0 c.in-Some.key least c.in-Some.is)
    c.in-Some-2.number c.in-Some-told.place c.told.result (option_map seen_breach c.args.finder.now.first)
    (some_told s numbers c.in_ok-number.field-0 c.in-Some-2.number first c.in-Some-2.is)
    (λ b at. c.told.ensures s b is at) c.in-Some-told.is
