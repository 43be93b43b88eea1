-- What peeling keeps.
use Rattle.std.proofs.Common.{◌≡◌, ℕ, suc, zero, ◌<◌, ◌≤◌, Bool, true, false, ◌⊎◌, List, [], length, get_or, set, replicate, refl, sym, ap, ◌∙◌, inl, inr, arith}
use Rattle.std.specs.List.{list_all, list_any}
use Rattle.std.proofs.lemmas.Bool.{false≢true, cases_eq, cases_lt}
use Rattle.std.proofs.lemmas.List.{get_or-set_same, get_or-set_other, length-set, get_or-replicate, length-replicate}
use Rattle.idl_cycles.specs.Graph.{parts_at, contains_within}
use Rattle.idl_cycles.specs.GraphCycles.{is_peeled_in, ArePeeled}
use Rattle.idl_cycles.proofs.GraphTests.{all_weaker}
use Rattle.idl_cycles.proofs.GraphContains.{no_parts, stands_apart}

-- a node without parts
pub all_of_none : (f : ℕ → Bool) (xs : List ℕ) → xs ≡ [] → list_all f xs ≡ true
all_of_none f xs e = ap (list_all f) e

pub none_contained : (n : ℕ) (graph : List (List ℕ)) (node inner : ℕ) → length graph ≤ node → contains_within n graph node inner ≡ false
none_contained zero graph node inner h = refl
none_contained (suc n) graph node inner h = ap (list_any _) (no_parts graph node h)

-- none is peeled
pub peeled_none : (graph : List (List ℕ)) (n : ℕ) → n ≡ length graph → ArePeeled graph (replicate n false)
peeled_none graph n e = record {
  count = length-replicate n false ∙ e;
  closed = λ node p. all_of_none _ _ (no_parts graph node (past node p));
  apart = λ node m p. none_contained m graph node node (past node p);
} where
  past : (node : ℕ) → is_peeled_in (replicate n false) node ≡ true → length graph ≤ node
  past node p = elim (cases_lt node n) [ inl h ↦ absurd (false≢true (sym (get_or-replicate n node false true h) ∙ p)) | inr h ↦ omega arith ]

-- one more
pub peeled_more : (graph : List (List ℕ)) (peeled : List Bool) (node : ℕ) → node < length peeled → ArePeeled graph peeled → is_peeled_in peeled node ≡ false
    → list_all (is_peeled_in peeled) (parts_at graph node) ≡ true → ArePeeled graph (set peeled node true)
peeled_more graph peeled node h are out parts = record {
  count = length-set peeled node true ∙ are.count;
  closed = λ x p. elim (cases x p) [ inl q ↦ all_weaker _ _ keeps _ (are.closed x q) | inr e ↦ all_weaker _ _ keeps _ (at x e parts) ];
  apart = λ x n p. elim (cases x p) [ inl q ↦ are.apart x n q | inr e ↦ here x e n ];
} where
  keeps : (x : ℕ) → is_peeled_in peeled x ≡ true → is_peeled_in (set peeled node true) x ≡ true
  keeps x p = elim (cases_eq x node) [ inl e ↦ ap (λ y. get_or (set peeled node true) y true) e ∙ get_or-set_same peeled node true true h | inr o ↦ get_or-set_other peeled node x true true o ∙ p ]

  cases : (x : ℕ) → is_peeled_in (set peeled node true) x ≡ true → (is_peeled_in peeled x ≡ true) ⊎ (x ≡ node)
  cases x p = elim (cases_eq x node) [ inl e ↦ inr e | inr o ↦ inl (sym (get_or-set_other peeled node x true true o) ∙ p) ]

  at : (x : ℕ) → x ≡ node → list_all (is_peeled_in peeled) (parts_at graph node) ≡ true → list_all (is_peeled_in peeled) (parts_at graph x) ≡ true
  at x e q = ap (λ y. list_all (is_peeled_in peeled) (parts_at graph y)) e ∙ q

  here : (x : ℕ) → x ≡ node → (n : ℕ) → contains_within n graph x x ≡ false
  here x e n = ap (λ y. contains_within n graph y y) e ∙ stands_apart (is_peeled_in peeled) graph are.closed n node out parts
