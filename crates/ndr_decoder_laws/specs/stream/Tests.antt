-- The agreements of a home that was read, tried in what is kept of it.
-- `x` is what is kept of its first node, `max_at` the place of its maximum count, `at` the place in the stream.
use Rattle.std.specs.Prelude.{◌≡◌, ℕ, if◌then◌else◌, List, map, Option, None, option_map}
use Rattle.std.specs.List.{AllByRecursion}
use Rattle.std.specs.Ordering.{int_eq}
use Rattle.nd_value.specs.Agreement.{Agreement}
use Rattle.nd_grammar.specs.declared.reason.Reason.{Reason}
use Rattle.nd_grammar.specs.declared.reason.Reason.TheVariants as reason
use Rattle.nd_grammar.specs.Entry.{Entry, EntryAt}
use Rattle.ndr_decoder_laws.specs.declared.first.First.{First}
use Rattle.ndr_decoder_laws.specs.steps.Steps.{first_found, place_of, place_in}
use Rattle.ndr_decoder_laws.specs.declared.kept.Kept.{Kept}

-- where and why an agreement is refused: not where it holds, nor where the node has no such count or tag
abbrev pub disagreement : Agreement → First → Option ℕ → Option (ℕ × Reason)
disagreement w x max_at =
    if int_eq w.wanted (first_found w.attr x) then None
    else option_map (λ place. (place, reason.Disagrees w.wanted (first_found w.attr x))) (place_of w.attr max_at (place_in x))

-- none of these agreements is refused
abbrev pub AllAgree : Kept → List Agreement → Type 0
AllAgree k ws = AllByRecursion (λ w. disagreement w k.first k.max_at ≡ None) ws

-- entries without octets, at one place
abbrev pub all_at : ℕ → List Entry → List EntryAt
all_at at ms = map (λ m. record { at = at; entry = m }) ms
