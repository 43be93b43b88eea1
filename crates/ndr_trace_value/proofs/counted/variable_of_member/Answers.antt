use Rattle.std.proofs.Common.{List, ℕ, ◌∙◌, reverse, sym, ap}
use Rattle.ndr_explain.specs.Cursors.{name_text, path_to}
use Rattle.ndr_trace_value.specs.Places.{field_variable, stated_beside}
use Rattle.ndr_trace_value.specs.Traces.{numbered_path}
use Rattle.ndr_trace_value.proofs.counted.variable_of_member.Goals as goal

pub returns-in_default : goal.returns-in_default
returns-in_default c =
    let s = c.args.spot.now in
    let q : List ℕ = path_to (name_text s.name) (reverse s.below.now.items) in
    c.new.ensures ∙ sym (ap (field_variable c.args.kind q c.args.members.now) c.in_default.ensures.none)

pub returns-in_default-attribute : goal.returns-in_default-attribute
returns-in_default-attribute c =
    let s = c.args.spot.now in
    let q : List ℕ = path_to (name_text s.name) (reverse s.below.now.items) in
    c.new-in_default-attribute.ensures
    ∙ sym (ap (field_variable c.args.kind q c.args.members.now) c.in-Some.ensures.some
    ∙ ap (stated_beside q c.args.members.now) (sym c.attribute.ensures ∙ c.in_default-attribute.is))

pub returns : goal.returns
returns c =
    let s = c.args.spot.now in
    let q : List ℕ = path_to (name_text s.name) (reverse s.below.now.items) in
    c.in_ok-append_numbered.ensures ∙ ap (λ r. numbered_path r c.args.members.now c.in-Some-attribute.by.var) c.in_ok-path.ensures
    ∙ sym (ap (field_variable c.args.kind q c.args.members.now) c.in-Some.ensures.some
    ∙ ap (stated_beside q c.args.members.now) (sym c.attribute.ensures ∙ c.in-Some-attribute.is))
