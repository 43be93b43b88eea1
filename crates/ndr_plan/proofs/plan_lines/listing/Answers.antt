use Rattle.std.proofs.Common.{◌∙◌, ap, ◌++◌}
use Rattle.std.specs.List.{flat_map, enumerate_from}
use Rattle.ndr_plan.specs.Listing.{instr_line, values_line, place_line, listing}
use Rattle.ndr_plan.proofs.plan_lines.listing.Goals as goal

pub returns : goal.returns
unfolding listing
returns c =
    let p = c.args.plan.now in
    c.in_ok-all_places.ensures
    ∙ ap (λ t. t ++ flat_map place_line p.entries)
    (c.in_ok-all_values.ensures
    ∙ ap (λ t. t ++ flat_map values_line p.values)
    (c.in_ok-code_lines.ensures ∙ ap (λ t. t ++ flat_map instr_line (enumerate_from 0 p.code)) c.new-text.ensures))
