-- Context handles in octets (C706 14.3, context handles): the attributes are an unsigned long, and the identifier is a UUID: an unsigned long,
-- two unsigned shorts, and eight octets. An identifier is kept as in the order Big.
-- `id` is an identifier, `os` are octets.
use Rattle.std.specs.Prelude.{ℕ, List, ◌++◌, take, drop, reverse}
use Rattle.nd_base.specs.declared.octets.Order.{Order}
use Rattle.nd_types.specs.Number.{in_order, unsigned, spelling}

-- the octets of an identifier
abbrev pub identifier_octets : Order → List ℕ → List ℕ
identifier_octets order id =
    in_order order (reverse (take 4 id)) ++ in_order order (reverse (take 2 (drop 4 id)))
    ++ in_order order (reverse (take 2 (drop 6 id))) ++ drop 8 id

-- the identifier whose octets these are
abbrev pub identifier : Order → List ℕ → List ℕ
identifier order os =
    reverse (in_order order (take 4 os))
    ++ (reverse (in_order order (take 2 (drop 4 os))) ++ (reverse (in_order order (take 2 (drop 6 os))) ++ drop 8 os))

-- the octets of a context handle
abbrev pub context_octets : Order → ℕ → List ℕ → List ℕ
context_octets order attributes id = spelling order 4 attributes ++ identifier_octets order id

-- the attributes and the identifier in the octets of a context handle
abbrev pub attributes_of : Order → List ℕ → ℕ
attributes_of order os = unsigned order (take 4 os)

abbrev pub identifier_of : Order → List ℕ → List ℕ
identifier_of order os = identifier order (drop 4 os)
