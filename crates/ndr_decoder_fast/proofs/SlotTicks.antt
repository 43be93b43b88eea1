-- How many steps structs of numbers count as: each number as one, and a gap as none.
-- `at` is where an element begins, `ps` are the members by their primitives, `os` octets, `n` how many elements come after the first.
use Rattle.std.proofs.Common.{◌≡◌, ℕ, ◌+◌, ◌*◌, zero, suc, List, [], ◌∷◌, ◌++◌, length, take, drop, refl, ◌∙◌, arith}
use Rattle.nd_base.specs.declared.octets.Order.{Order}
use Rattle.nd_types.specs.declared.types.Primitive.{Primitive}
use Rattle.nd_types.specs.Number.{value_of_octets}
use Rattle.nd_types.specs.Table.{width}
use Rattle.nd_value.specs.declared.item.Home.{Home}
use Rattle.nd_value.specs.declared.item.Item.{Item}
use Rattle.nd_value.specs.declared.item.ItemKind.TheVariants as item
use Rattle.nd_grammar.specs.Entry.{gap}
use Rattle.ndr_decoder_laws.specs.runs.Records.{Slot, slots_len, slot_octets, after_slot, slot_items, next_place, after_record, record_items}
use Rattle.ndr_decoder_laws.specs.steps.StepItems.{gap_items, item_here}
use Rattle.ndr_decoder_state.specs.Notes.{ticks}
use Rattle.ndr_decoder_fast.specs.Elements.{slot_of, slots_of}
use Rattle.ndr_decoder_fast.proofs.Going.{ticks_on}

none : (k : ℕ) → 0 + k ≡ k
none k = omega arith

one : (k l : ℕ) → k ≡ l → 1 + k ≡ suc l
one k l e = omega (arith, e)

-- a gap counts as none
gap_ticks : (h : Home) (at : ℕ) (os : List ℕ) (xs : List Item) → ticks (gap_items h at os ++ xs) ≡ ticks xs
gap_ticks h at [] xs = refl
gap_ticks h at (o ∷ os) xs = none (ticks xs)

-- the numbers of a struct
slots_ticks : (order : Order) (h : Home) (at node : ℕ) (ps : List Primitive) (os : List ℕ) → ticks (slot_items order h at node (slots_of ps) os) ≡ length ps
slots_ticks order h at node [] os = refl
slots_ticks order h at node (p ∷ ps) os =
    let f : Slot = slot_of p in
    let left : List Item = slot_items order h (at + gap at f.to + width p) (node + 1) (slots_of ps) (after_slot at f os) in
    gap_ticks h at (take (gap at f.to) os) (item_here h (at + gap at f.to) item.Num (width p) (value_of_octets order p (slot_octets at f os)) node ∷ left)
    ∙ one (ticks left) (length ps) (slots_ticks order h (at + gap at f.to + width p) (node + 1) ps (after_slot at f os))

one_struct : (l : ℕ) → l ≡ suc zero * l
one_struct l = omega arith

more_structs : (n l t a b : ℕ) → t ≡ a + b → a ≡ l → b ≡ suc n * l → t ≡ suc (suc n) * l
more_structs n l t a b e f g = let m : suc (suc n) * l ≡ l + suc n * l = omega arith in omega (arith, e, f, g, m)

-- the numbers of structs
pub records_ticks : (order : Order) (h : Home) (at node to n : ℕ) (ps : List Primitive) (os : List ℕ) → ticks (record_items order h at node to (slots_of ps) n os) ≡ suc n * length ps
records_ticks order h at node to zero ps os = slots_ticks order h at (node + 1) ps os ∙ one_struct (length ps)
records_ticks order h at node to (suc n) ps os =
    let fs : List Slot = slots_of ps in
    let first : List Item = slot_items order h at (node + 1) fs (take (slots_len at fs) os) in
    let between : List ℕ = take (gap (at + slots_len at fs) to) (drop (slots_len at fs) os) in
    let others : List Item = record_items order h (next_place at to fs) (node + 1 + length fs) to fs n (after_record at to fs os) in
    more_structs n (length ps) (ticks (first ++ (gap_items h (at + slots_len at fs) between ++ others))) (ticks first) (ticks (gap_items h (at + slots_len at fs) between ++ others))
    (ticks_on first (gap_items h (at + slots_len at fs) between ++ others)) (slots_ticks order h at (node + 1) ps (take (slots_len at fs) os))
    (gap_ticks h (at + slots_len at fs) between others ∙ records_ticks order h (next_place at to fs) (node + 1 + length fs) to n ps (after_record at to fs os))
