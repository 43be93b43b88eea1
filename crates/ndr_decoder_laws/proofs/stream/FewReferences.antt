-- The reference pointers among the roots that were read are no more than those among all.
use Rattle.std.proofs.Common.{◌≡◌, ◌≤◌, ℕ, ◌+◌, suc, true, List, length, Some, ap, arith}
use Rattle.std.specs.Prelude.{filter, take}
use Rattle.std.specs.List.{slice_get}
use Rattle.nd_base.specs.declared.octets.Order.{Order}
use Rattle.nd_types.specs.Roots.{Root}
use Rattle.nd_types.specs.Table.{type_at}
use Rattle.nd_value.specs.declared.item.Item.{Item}
use Rattle.nd_value.specs.Deferral.{Pending}
use Rattle.nd_value.specs.Setting.{Setting, root_list}
use Rattle.nd_grammar.specs.Entry.{EntryAt}
use Rattle.nd_grammar.specs.LegalSide.{IsLegalSide}
use Rattle.nd_grammar.specs.StreamReader.{Reading}
use Rattle.nd_grammar.specs.decoded.Verdict.{direct_roots, is_direct}
use Rattle.ndr_decoder_laws.specs.stream.Between.{Between, Agrees}
use Rattle.ndr_decoder_laws.proofs.stream.References.{one_if, count_more, count_few}

module _ (w : Setting) (side : IsLegalSide w) (order : Order) (fetched : List ℕ) (noted : List Item) (direct : ℕ) (b : Between) (s : Reading) (seen : List EntryAt) (ps : List Pending) (n : ℕ)
    (ag : Agrees w side order fetched noted direct b s seen ps n) where
  abbrev so_many : ℕ → ℕ
  so_many k = length (filter (λ r. is_direct (type_at w.table r.of)) (take k (root_list w)))

  few_of : (k : ℕ) → so_many k ≤ length (direct_roots w)
  few_of k = count_few (λ r. is_direct (type_at w.table r.of)) k (root_list w)

  pub few_now : direct ≤ length (direct_roots w)
  few_now = let e : direct ≡ so_many (length s.roots) = ag.direct_are in let l = few_of (length s.roots) in omega (arith, e, l)

  pub few_next : (r : Root) → slice_get (root_list w) (length s.roots) ≡ Some r → is_direct (type_at w.table r.of) ≡ true → direct + 1 ≤ length (direct_roots w)
  few_next r there is =
      let e : direct ≡ so_many (length s.roots) = ag.direct_are in
      let f : so_many (suc (length s.roots)) ≡ so_many (length s.roots) + one_if (is_direct (type_at w.table r.of)) =
      count_more (λ z. is_direct (type_at w.table z.of)) (root_list w) (length s.roots) r there in
      let g : one_if (is_direct (type_at w.table r.of)) ≡ 1 = ap (λ t. one_if t) is in
      let l = few_of (suc (length s.roots)) in
      omega (arith, e, f, g, l)
