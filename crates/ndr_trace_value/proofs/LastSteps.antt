-- From a struct to its last member, and from that to its own.
-- `table` are the types, `t` is a type's number, `f` the last member of a struct, `p` and `q` are the paths of the struct and of its member.
use Rattle.std.proofs.Common.{◌≡◌, ◌∙◌, ℕ, zero, suc, ◌-◌, List, [], ◌∷◌, length, Some, None, refl, sym, ap, arith}
use Rattle.std.specs.List.{slice_get}
use Rattle.nd_types.specs.declared.types.Field.{Field}
use Rattle.nd_types.specs.Table.{Table, type_at}
use Rattle.text_grammar.specs.Paths.{member_path}
use Rattle.ndr_trace_value.specs.LastMembers.{last_field, last_member, last_within, onward}

-- the last of members is at the last place
pub at_last_place : (fs : List Field) (n : ℕ) → n ≡ length fs - 1 → slice_get fs n ≡ last_field fs
at_last_place [] n e = refl
at_last_place (f ∷ []) n e = ap (slice_get (f ∷ [])) (let z : n ≡ 0 = omega (arith, e) in z)
at_last_place (f ∷ g ∷ fs) zero e = absurd (omega (arith, e))
at_last_place (f ∷ g ∷ fs) (suc n) e = at_last_place (g ∷ fs) n (omega (arith, e))

module _ (table : Table) where
  -- one level further down
  pub one_down : (n m t : ℕ) (f : Field) (p q : List ℕ) → n ≡ suc m → last_member (type_at table t) ≡ Some f → q ≡ member_path p f.name
      → last_within n table t p ≡ last_within m table f.of.0 q
  one_down n m t f p q e is path =
      ap (λ k. last_within k table t p) e ∙ ap (onward (last_within m table) p) is ∙ ap (last_within m table f.of.0) (sym path)

  -- a value that is no struct with members is the last itself
  pub ends_there : (n t : ℕ) (p : List ℕ) → last_member (type_at table t) ≡ None → last_within n table t p ≡ p
  ends_there zero t p e = refl
  ends_there (suc n) t p e = ap (onward (last_within n table) p) e
