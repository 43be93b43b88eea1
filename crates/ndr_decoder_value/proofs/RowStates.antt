-- The machine after a row of numbers.
-- `m` is the machine before, `b` its graph so far with the numbers.
use Rattle.std.proofs.Common.{◌≡◌, ℕ, ◌+◌, suc, zero, List, length, drop, refl, sym, ap, ◌∙◌, arith, length-append}
use Rattle.nd_base.specs.declared.octets.Order.{Order}
use Rattle.nd_types.specs.declared.types.Primitive.{Primitive}
use Rattle.nd_types.specs.Table.{width}
use Rattle.nd_flat.specs.Building.{Building, with_numbers}
use Rattle.nd_flat.specs.FlatForm.{row_values, num_flats}
use Rattle.ndr_decoder_state.specs.declared.machine.Machine.{Machine}

-- a row has as many nodes as numbers
row_count : (order : Order) (p : Primitive) (n : ℕ) (os : List ℕ) → length (num_flats (row_values order p n os)) ≡ n
row_count order p zero os = refl
row_count order p (suc n) os = ap suc (row_count order p n (drop (width p) os))

module _ (m : Machine) (b : Building) (order : Order) (p : Primitive) (n : ℕ) (os : List ℕ) (eb : b ≡ with_numbers (row_values order p n os) m.builder) where
  -- the node count and the cells are right
  pub row_nodes : m.count + n ≡ length b.nodes
  row_nodes =
      let e : length b.nodes ≡ length m.builder.nodes + length (num_flats (row_values order p n os)) =
      ap (λ (x : Building). length x.nodes) eb ∙ length-append m.builder.nodes (num_flats (row_values order p n os)) in
      let k : length (num_flats (row_values order p n os)) ≡ n = row_count order p n os in
      let c : m.count ≡ length m.builder.nodes = m.counted in
      omega (arith, e, k, c)

  pub row_cells : m.cells ≡ length b.graph.cells
  row_cells = m.numbered ∙ sym (ap (λ (x : Building). length x.graph.cells) eb)
