use Rattle.std.proofs.Common.{◌∙◌, ap, ap₂, reverse, sym}
use Rattle.std.specs.Prelude.{option_map}
use Rattle.nd_value.specs.declared.item.ItemKind.{ItemKind}
use Rattle.ndr_explain.specs.Cursors.{name_text, path_to}
use Rattle.ndr_explain.specs.Explained.{home_paths, path_in}
use Rattle.ndr_trace_value.specs.declared.search.Sought.{Sought}
use Rattle.ndr_trace_value.specs.Places.{home_place, member_variable}
use Rattle.ndr_trace_value.specs.Tracing.{kind_variable}
use Rattle.ndr_trace_value.proofs.Placed.{beside_is}
use Rattle.ndr_trace_value.proofs.pointers.its_variable.Goals as goal

pub returns : goal.returns
returns c k u n sp =
    let s = c.args.spot.now in
    let kind : ItemKind = c.in-Some.sought.kind in
    c.in_ok-path.ensures ∙ beside_is kind (name_text s.name) s.top (reverse s.below.now.items) ∙ ap₂ (member_variable kind) sp.path sp.place
    ∙ ap (λ o. kind_variable o (path_in (home_paths k.setting k.graph s.home) n) (home_place k.setting k.graph s.home n))
    (sym (ap (option_map (λ (x : Sought). x.kind)) c.in-Some.is) ∙ u.kind_is)

pub returns-in_default : goal.returns-in_default
returns-in_default c k u n sp =
    let s = c.args.spot.now in
    c.new.ensures
    ∙ ap (λ o. kind_variable o (path_in (home_paths k.setting k.graph s.home) n) (home_place k.setting k.graph s.home n))
    (sym (ap (option_map (λ (x : Sought). x.kind)) c.in_default.is) ∙ u.kind_is)
