-- The turns of numbers: what a write at a number's place does to the map.
use Rattle.std.proofs.Common.{◌≡◌, ℕ, zero, suc, slice_get, not, Bool, true, false, cond, sym, ap, ◌∙◌, List, [], ◌∷◌, Some, None, position, nat_eq, if◌then◌else◌}
use Rattle.std.specs.Map.{keys_of, values_of}
use Rattle.indexmap.specs.IndexMap.{insert_entry, set_value_at}
use Rattle.indexmap.proofs.MapLemmas.{Found-position, insert_entry-first}
use Rattle.ndr_refs.specs.declared.referents.Known.{Known}
use Rattle.ndr_refs.specs.Known.{known, represented, once_represented, is_first, IsTurn}

inserted : (n : ℕ) (map : List (ℕ × Known)) (k : Known) → known n map ≡ Some k → insert_entry nat_eq map n (once_represented k) ≡ represented n map
inserted n [] k s = absurd (cc s)
inserted n (e ∷ map) k s = by (nat_eq n e.0) s (λ later. inserted n map k later)
  where
    by : (b : Bool) → cond b (Some e.1) (known n map) ≡ Some k
        → (known n map ≡ Some k → insert_entry nat_eq map n (once_represented k) ≡ represented n map)
        → (if b then (e.0, once_represented k) ∷ map else e ∷ insert_entry nat_eq map n (once_represented k))
        ≡ (if b then (e.0, once_represented e.1) ∷ map else e ∷ represented n map)
    by true p more = ap (λ o. elim o [ None ↦ [] | Some x ↦ (e.0, once_represented x) ∷ map ]) (sym p)
    by false p more = ap (λ r. e ∷ r) (more p)

pub written : (n : ℕ) (map : List (ℕ × Known)) (at : ℕ) (k : Known) → position (nat_eq n) (keys_of map) ≡ Some at → known n map ≡ Some k
    → set_value_at map at (once_represented k) ≡ represented n map
written n map at k p s =
    sym (insert_entry-first nat_eq n (once_represented k) map at (Found-position (nat_eq n) map at p).first) ∙ inserted n map k s

value_at : (es : List (ℕ × Known)) (i key : ℕ) (v : Known) → slice_get es i ≡ Some (key, v) → slice_get (values_of es) i ≡ Some v
value_at [] i key v e = absurd (cc e)
value_at (x ∷ es) zero key v e = ap (λ o. elim o [ None ↦ None | Some p ↦ Some p.1 ]) e
value_at (x ∷ es) (suc i) key v e = value_at es i key v e

-- the turn of a known number, by its place in the table
pub turned : (n : ℕ) (es map : List (ℕ × Known)) (at key : ℕ) (v : Known) → es ≡ map → position (nat_eq n) (keys_of es) ≡ Some at
    → slice_get (values_of es) at ≡ known n es → slice_get es at ≡ Some (key, v) → IsTurn n map (not v.represented) (set_value_at es at (once_represented v))
turned n es map at key v e p found there =
    let k : known n es ≡ Some v = sym found ∙ value_at es at key v there in
    record {
      first_turn = ap is_first (sym k) ∙ ap (λ l. is_first (known n l)) e;
      represented = written n es at v p k ∙ ap (represented n) e;
    }
