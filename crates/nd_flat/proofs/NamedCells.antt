-- The cells that a walk meets, rows of numbers and structs of numbers passed over.
-- `old` and `new` are what is left of a walk before and after, `zs` are numbers.
use Rattle.std.proofs.Common.{◌≡◌, ◌+◌, ◌<◌, ◌≤◌, zero, suc, ℕ, ℤ, drop, append_assoc, List, [], ◌∷◌, ◌++◌, length, flat_map, Option, Some, None, ap, sym, ◌∙◌, refl, arith, length-append}
use Rattle.std.specs.Prelude.{IfSome, IfNone}
use Rattle.nd_value.specs.declared.value.CellId.{CellId}
use Rattle.nd_value.specs.Tree.{Trees, none, Label, Flat, flat, cell_in}
use Rattle.nd_value.specs.Seen.{cell_number}
use Rattle.nd_value.specs.Canon.{target}
use Rattle.nd_value.specs.Names.{cells_in}
use Rattle.nd_base.specs.declared.octets.Order.{Order}
use Rattle.nd_types.specs.declared.types.Primitive.{Primitive}
use Rattle.nd_types.specs.Table.{width}
use Rattle.nd_flat.specs.declared.row.Row.{Row}
use Rattle.nd_flat.specs.declared.records.Records.{Records}
use Rattle.nd_flat.specs.Records.{place, stride, member_flats, records_flats, members_of, all_records}
use Rattle.nd_flat.specs.declared.node.Seen.{Seen}
use Rattle.nd_flat.specs.FlatForm.{num_flats, row_numbers, flat_seen}

-- numbers name no cell
no_cells : (zs : List ℤ) (fs : List Flat) → flat_map (λ f. target (cell_in f.0)) (num_flats zs ++ fs) ≡ flat_map (λ f. target (cell_in f.0)) fs
no_cells [] fs = refl
no_cells (z ∷ zs) fs = no_cells zs fs

pub skip_cells : (r : Option Row) (old new : Trees) → IfSome r (λ r. flat old ≡ num_flats (row_numbers r) ++ flat new) → IfNone r (new ≡ old) → cells_in old ≡ cells_in new
skip_cells (Some r) old new e n = ap (flat_map (λ f. target (cell_in f.0))) e ∙ no_cells (row_numbers r) (flat new)
skip_cells None old new e n = ap cells_in (sym n)

pub skip_less : (r : Option Row) (old new : Trees) → IfSome r (λ r. flat old ≡ num_flats (row_numbers r) ++ flat new) → IfNone r (new ≡ old) → length (flat new) ≤ length (flat old)
skip_less (Some r) old new e n =
    let l : length (flat old) ≡ length (num_flats (row_numbers r)) + length (flat new) = ap length e ∙ length-append (num_flats (row_numbers r)) (flat new) in
    omega (arith, l)
skip_less None old new e n = let l : length (flat new) ≡ length (flat old) = ap (λ ts. length (flat ts)) n in omega (arith, l)

no_cells_of_members : (o : Order) (at : ℕ) (ps : List Primitive) (os : List ℕ) (fs : List Flat)
    → flat_map (λ f. target (cell_in f.0)) (member_flats o at ps os ++ fs) ≡ flat_map (λ f. target (cell_in f.0)) fs
no_cells_of_members o at [] os fs = refl
no_cells_of_members o at (p ∷ ps) os fs = no_cells_of_members o (place at p + width p) ps os fs

-- structs of numbers name no cell
no_cells_of_records : (o : Order) (ps : List Primitive) (n : ℕ) (os : List ℕ) (fs : List Flat)
    → flat_map (λ f. target (cell_in f.0)) (records_flats o ps n os ++ fs) ≡ flat_map (λ f. target (cell_in f.0)) fs
no_cells_of_records o ps zero os fs = refl
no_cells_of_records o ps (suc n) os fs =
    let rest : List Flat = records_flats o ps n (drop (stride ps) os) in
    ap (flat_map (λ f. target (cell_in f.0))) (append_assoc (member_flats o 0 ps os) rest fs)
    ∙ no_cells_of_members o 0 ps os (rest ++ fs) ∙ no_cells_of_records o ps n (drop (stride ps) os) fs

pub skip_records_cells : (r : Option Records) (old new : Trees) → IfSome r (λ r. flat old ≡ all_records r ++ flat new) → IfNone r (new ≡ old) → cells_in old ≡ cells_in new
skip_records_cells (Some r) old new e n =
    ap (flat_map (λ f. target (cell_in f.0))) e ∙ no_cells_of_records r.order (members_of r.members) r.count r.octets.now (flat new)
skip_records_cells None old new e n = ap cells_in (sym n)

less_left : (a b c : ℕ) → a ≡ b + c → c ≤ a
less_left a b c h = omega (arith, h)

pub skip_records_less : (r : Option Records) (old new : Trees) → IfSome r (λ r. flat old ≡ all_records r ++ flat new) → IfNone r (new ≡ old) → length (flat new) ≤ length (flat old)
skip_records_less (Some r) old new e n =
    let l : length (flat old) ≡ length (all_records r) + length (flat new) = ap length e ∙ length-append (all_records r) (flat new) in
    less_left (length (flat old)) (length (all_records r)) (length (flat new)) l
skip_records_less None old new e n = let l : length (flat new) ≡ length (flat old) = ap (λ ts. length (flat ts)) n in omega (arith, l)

pub both_less : (old mid new : Trees) → length (flat mid) ≤ length (flat old) → length (flat new) ≤ length (flat mid) → length (flat new) ≤ length (flat old)
both_less old mid new h g = omega (arith, h, g)

-- rows and structs were left out, and then a node was taken
pub cell_next : (old mid new : Trees) (s : Seen) (c : Option CellId) → cells_in old ≡ cells_in mid → flat mid ≡ flat_seen s ∷ flat new → cell_number c ≡ cell_in (flat_seen s).0
    → cells_in old ≡ target (cell_number c) ++ cells_in new
cell_next old mid new s c e f n = e ∙ ap (flat_map (λ f. target (cell_in f.0))) f ∙ ap (λ x. target x ++ cells_in new) (sym n)

pub cell_less : (old mid new : Trees) (f : Flat) → length (flat mid) ≤ length (flat old) → flat mid ≡ f ∷ flat new → length (flat new) < length (flat old)
cell_less old mid new f l e = let n : length (flat mid) ≡ suc (length (flat new)) = ap length e in omega (arith, l, n)

pub no_cell_left : (old mid : Trees) → cells_in old ≡ cells_in mid → mid ≡ none → cells_in old ≡ []
no_cell_left old mid e n = e ∙ ap cells_in n

-- a node was taken that is kept by itself
pub names_first : (old new : Trees) (l : Label) (k : ℕ) → flat old ≡ (l, k) ∷ flat new → cells_in old ≡ target (cell_in l) ++ cells_in new
names_first old new l k e = ap (flat_map (λ (f : Flat). target (cell_in f.0))) e

pub one_less : (old new : Trees) (f : Flat) → flat old ≡ f ∷ flat new → length (flat new) < length (flat old)
one_less old new f e = let m : length (flat old) ≡ suc (length (flat new)) = ap (λ (fs : List Flat). length fs) e in omega (arith, m)
