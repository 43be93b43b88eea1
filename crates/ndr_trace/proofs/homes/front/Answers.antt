use Rattle.std.proofs.Common.{◌≡◌, rules, true, false, ◌∷◌, ◌++◌, [], refl, sym, ap, ◌∙◌, List}
use Rattle.nd_types.specs.Layout.{hoists}
use Rattle.nd_value.specs.Tree.{more, none}
use Rattle.nd_grammar.specs.Entry.{Entry, Max}
use Rattle.text_grammar.specs.Paths.{home_value}
use Rattle.ndr_trace_value.specs.declared.progress.Halt.TheVariants as halts
use Rattle.ndr_trace.specs.Homes.{home_max}
use Rattle.ndr_trace_value.specs.Walking.{values_due}
use Rattle.ndr_trace.proofs.HomeWalks.{clash, no_front, some_front, spot_of_home}
use Rattle.ndr_trace_value.proofs.LevelWalk.{ended_there, ready_after}
use Rattle.ndr_trace_value.proofs.Passing.{err_as}
use Rattle.ndr_trace.proofs.homes.front.Goals as goal

pub returns-then-not-hoists-clause-goes : goal.returns-then-not-hoists-clause-goes
returns-then-not-hoists-clause-goes c k u a from rest tr =
    let no : c.hoists.result ≡ false = search rules in
    let never : hoists k.setting.table c.args.of.0 ≡ false = sym (ap (λ table. hoists table c.args.of.0) u.table) ∙ sym c.hoists.ensures ∙ no in
    (no_front k c.args.home c.args.of.0 c.args.walker.now.progress rest never tr, λ e. clash (sym e ∙ never))

pub returns-in_err-gap-clause-ends : goal.returns-in_err-gap-clause-ends
returns-in_err-gap-clause-ends c k u a from rest tr e =
    let yes : c.hoists.result ≡ true = search rules in
    let always : hoists k.setting.table c.args.of.0 ≡ true = sym (ap (λ table. hoists table c.args.of.0) u.table) ∙ sym c.hoists.ensures ∙ yes in
    let p = c.args.walker.now.progress in
    let max : Entry = record { home = c.args.home; node = 0; kind = Max (home_max k c.args.home) } in
    let due : List Entry = values_due k c.args.home (c.args.of.0 ∷ []) 0 (more (home_value k.graph c.args.home) none) ++ rest in
    let ready = ready_after k c.args.ground.now u p p refl c.in_ok-at_end.ensures.ready in
    c.in_err-gap.ensures.ends k u 0 (spot_of_home k c.args.home c.args.name c.args.of.0 c.args.of _ a refl refl refl c.new-below.ensures.items from) (max ∷ due)
    (some_front k c.args.home c.args.of.0 p rest always ready tr)
    (err_as c.from_residual-in_err-gap.result c.in_err-gap.field-0.0 halts.Here c.from_residual-in_err-gap.ensures.1 e)

pub returns-in_err-max-clause-ends : goal.returns-in_err-max-clause-ends
returns-in_err-max-clause-ends c k u a from rest tr e =
    let yes : c.hoists.result ≡ true = search rules in
    let always : hoists k.setting.table c.args.of.0 ≡ true = sym (ap (λ table. hoists table c.args.of.0) u.table) ∙ sym c.hoists.ensures ∙ yes in
    let p = c.args.walker.now.progress in
    let max : Entry = record { home = c.args.home; node = 0; kind = Max (home_max k c.args.home) } in
    let due : List Entry = values_due k c.args.home (c.args.of.0 ∷ []) 0 (more (home_value k.graph c.args.home) none) ++ rest in
    let ready = ready_after k c.args.ground.now u p p refl c.in_ok-at_end.ensures.ready in
    c.in_err-max.ensures.ends k u 0 (spot_of_home k c.args.home c.args.name c.args.of.0 c.args.of _ a refl refl refl c.new-below.ensures.items from)
    (Max (home_max k c.args.home)) tt due
    (c.in_ok-gap.ensures.goes k u 0 (max ∷ due) (some_front k c.args.home c.args.of.0 p rest always ready tr))
    (err_as c.from_residual-in_err-max.result c.in_err-max.field-0.0 halts.Here c.from_residual-in_err-max.ensures.1 e)

pub returns-clause-goes : goal.returns-clause-goes
returns-clause-goes c k u a from rest tr =
    let yes : c.hoists.result ≡ true = search rules in
    let always : hoists k.setting.table c.args.of.0 ≡ true = sym (ap (λ table. hoists table c.args.of.0) u.table) ∙ sym c.hoists.ensures ∙ yes in
    let p = c.args.walker.now.progress in
    let max : Entry = record { home = c.args.home; node = 0; kind = Max (home_max k c.args.home) } in
    let due : List Entry = values_due k c.args.home (c.args.of.0 ∷ []) 0 (more (home_value k.graph c.args.home) none) ++ rest in
    let ready = ready_after k c.args.ground.now u p p refl c.in_ok-at_end.ensures.ready in
    let both =
    c.in_ok-max.ensures.goes k u 0 (spot_of_home k c.args.home c.args.name c.args.of.0 c.args.of _ a refl refl refl c.new-below.ensures.items from)
    (Max (home_max k c.args.home)) tt (sym a.types) due
    (c.in_ok-gap.ensures.goes k u 0 (max ∷ due) (some_front k c.args.home c.args.of.0 p rest always ready tr)) in
    (both.0, λ e. both.1)

pub returns-in_err-at_end-clause-ends : goal.returns-in_err-at_end-clause-ends
returns-in_err-at_end-clause-ends c k u a from rest tr e =
    ended_there k c.args.ground.now u c.args.walker.now.progress c.args.walker.now.progress _ refl tr
    (c.in_err-at_end.ensures.ends (err_as c.from_residual.result c.in_err-at_end.field-0.0 halts.Here c.from_residual.ensures.1 e))
