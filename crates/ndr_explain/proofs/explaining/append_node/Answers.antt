use Rattle.std.proofs.Common.{rules, ◌++◌, ℤ, codes, ap, ◌∙◌}
use Rattle.std.proofs.lemmas.Int.{to_z-of_z}
use mir.Val.{SFits}
use mir.Syntax.{w128}
use Rattle.ndr_explain.specs.Explained.{home_paths, home_flats, path_in, label_in, value_shown}
use Rattle.ndr_explain.specs.Cursors.{found_label}
use Rattle.ndr_explain.proofs.Lines.{three}
use Rattle.ndr_explain.proofs.Places.{shown_at, found_last}
use Rattle.ndr_explain.proofs.explaining.append_node.Goals as goal

pub returns : goal.returns
returns c w s last =
    let x = c.args.item.now in
    let z : ℤ = x.value in
    let fits : SFits w128 z = search rules in
    let g = c.args.fit.now.graph in
    let f = c.in_ok-found.found in
    let found = c.in_ok-found.ensures w s last in (
      three c.args.text.now c.append_place.new.text c.append.new.self c.append_value.new.text (path_in (home_paths w g x.home) x.node) (codes " ")
          (value_shown x.kind (label_in (home_flats g x.home) x.node) z) (c.in_ok-append_place.ensures w s found) c.in_ok-append.ensures.ok
          (c.in_ok-append_value.ensures ∙ ap (λ y. c.append.new.self ++ value_shown x.kind (found_label f) y) (to_z-of_z w128 z fits)
          ∙ ap (λ v. c.append.new.self ++ v) (shown_at w g x.home x.node f x.kind z found)),
      found_last w g x.home x.node f found,
    )
