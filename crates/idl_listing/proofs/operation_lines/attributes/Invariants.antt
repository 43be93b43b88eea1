use Rattle.std.proofs.Common.{◌≡◌, ◌++◌, drop}
use Rattle.std.specs.List.{flat_map}
use Rattle.nd_types.specs.Fields.{param_fields}
use Rattle.idl_listing.specs.Listing.{behind, attr_words, attrs_words}
use Rattle.idl_listing.proofs.operation_lines.attributes.Given as goal

-- what is written, with what is left
abbrev pub invariant-loop-at : goal.invariant-loop-at
invariant-loop-at l =
    l.text ++ behind (flat_map (attr_words (param_fields l.operation)) (drop l.at l.vars))
    ≡ l.initial.text ++ behind (attrs_words (param_fields l.operation) l.vars)
