-- The body with the least key, and of these the first, is the one that is reported.
use Rattle.std.proofs.Common.{◌≡◌, ◌∙◌, ◌⊎◌, inl, inr, ℕ, ◌+◌, ◌*◌, ◌<◌, ◌≤◌, Bool, true, false, ◌&&◌, ◌||◌, eqb, ltb, List, length, Option, Some, None, slice_get, refl, ap, sym, subst, arith}
use Rattle.std.proofs.lemmas.Bool.Decides.{nat_tests}
use Rattle.std.proofs.lemmas.Option.{none-some, same_Some, slice_get_within}
use Rattle.std.proofs.lemmas.Bool.{eqb-true}
use Rattle.nd_base.specs.declared.octets.Place.{Place}
use Rattle.idl_rule_definitions.specs.Nodes.{World, place_in}
use Rattle.idl_rule_definitions.specs.Scene.{Scene, Body, bodies}
use Rattle.idl_rule_definitions.specs.TypeRules.{contains_itself}
use Rattle.idl_rule_definitions.specs.Rules.{Breach, breach, comes_before, rank_in}
use Rattle.idl_rule_definitions.specs.Noted.{later, noted}
use Rattle.idl_value_rules.specs.RestBreaches.{cycle_breaches}
use Rattle.idl_value_rules.specs.Cycles.{key_of, AreKeys, AreNumbersWith, IsLeastValue, IsLeastOf}
use Rattle.idl_value_rules.proofs.CycleFirst.{cycle_at, first_noted, none_noted}
use Rattle.idl_rule_definitions.specs.declared.rule.TheConstants as Rule

less_key : (r a k b : ℕ) → a < 4294967296 → b < 4294967296 → r * 4294967296 + a < k * 4294967296 + b → (ltb r k || eqb r k && ltb a b) ≡ true
less_key r a k b h i j = grind (arith, nat_tests, h, i, j)

no_less_key : (r a k b : ℕ) → a < 4294967296 → b < 4294967296 → k * 4294967296 + b ≤ r * 4294967296 + a → (ltb r k || eqb r k && ltb a b) ≡ false
no_less_key r a k b h i j = grind (arith, nat_tests, h, i, j)

-- where no body contains itself nothing is noted
pub none_told : (w : World) (s : Scene) (values : List ℕ) (least : Option ℕ) (o : Option Breach) → IsLeastOf s values least → least ≡ None → o ≡ noted w o (cycle_breaches s)
none_told w s values None o none e = none_noted w s o none
none_told w s values (Some v) o is e = absurd (none-some v (sym e))

pub some_told : (s : Scene) (values : List ℕ) (least : Option ℕ) (value : ℕ) → IsLeastOf s values least → least ≡ Some value → IsLeastValue s values value
some_told s values least value is e = subst (λ (o : Option ℕ). IsLeastOf s values o) e is

module _ (w : World) (s : Scene) (keys numbers : List ℕ) (key : ℕ) (all : AreKeys w.files (bodies s) keys) (with : AreNumbersWith keys key numbers) (one : IsLeastValue s keys key) where
  before_by : (b x : Body) (i j : ℕ) → slice_get (bodies s) i ≡ Some b → slice_get (bodies s) j ≡ Some x → key_of w.files b < key_of w.files x
      → comes_before w (cycle_at b) (cycle_at x) ≡ true
  before_by b x i j at there h =
      less_key (rank_in w.files b.construct.file) b.construct.at (rank_in w.files x.construct.file) x.construct.at (all.each i b at).narrow (all.each j x there).narrow h

  not_before_by : (b x : Body) (i j : ℕ) → slice_get (bodies s) i ≡ Some b → slice_get (bodies s) j ≡ Some x → key_of w.files b ≤ key_of w.files x
      → comes_before w (cycle_at x) (cycle_at b) ≡ false
  not_before_by b x i j at there h =
      no_less_key (rank_in w.files x.construct.file) x.construct.at (rank_in w.files b.construct.file) b.construct.at (all.each j x there).narrow (all.each i b at).narrow h

  pub chosen : (number : ℕ) (b : Body) (o : Option Breach) → IsLeastValue s numbers number → slice_get (bodies s) number ≡ Some b → later w (cycle_at b) o ≡ noted w o (cycle_breaches s)
  chosen number b o two there = by (with.others two.number (key_of w.files two.body) number (all.each two.number two.body two.there).is_key two.is_value) where
    by : (key_of w.files two.body ≡ key) × (number ≡ two.number) ⊎ (number ≡ length keys) → later w (cycle_at b) o ≡ noted w o (cycle_breaches s)
    by (inr past) =
        let l = slice_get_within keys one.number key one.is_value in
        let m = two.least one.number one.body one.number one.there (with.with_key one.number one.is_value) one.contains in
        absurd (omega (arith, l, m, past))
    by (inl (has_key, same)) = first_noted w s b number o there (ap (contains_itself s) (sym body) ∙ two.contains) before behind where
      body : two.body ≡ b
      body = same_Some two.body b (sym two.there ∙ ap (slice_get (bodies s)) (sym same) ∙ there)

      own : key_of w.files b ≡ key
      own = ap (key_of w.files) (sym body) ∙ has_key

      before : (i : ℕ) (x : Body) → slice_get (bodies s) i ≡ Some x → contains_itself s x ≡ true → i < number → comes_before w (cycle_at b) (cycle_at x) ≡ true
      before i x at has below = before_by b x number i there at (strict (eqb (key_of w.files x) key) refl) where
        least : key ≤ key_of w.files x
        least = one.least i x (key_of w.files x) at (all.each i x at).is_key has

        strict : (t : Bool) → eqb (key_of w.files x) key ≡ t → key_of w.files b < key_of w.files x
        strict true e =
            let m = two.least i x i at (with.with_key i ((all.each i x at).is_key ∙ ap (λ k. Some k) (eqb-true (key_of w.files x) key e))) has in
            absurd (omega (arith, m, below))
        strict false e = strictly (key_of w.files b) (key_of w.files x) key own least e where
          strictly : (m n k : ℕ) → m ≡ k → k ≤ n → eqb n k ≡ false → m < n
          strictly m n k h i j = grind (arith, nat_tests, h, i, j)

      behind : (i : ℕ) (x : Body) → slice_get (bodies s) i ≡ Some x → contains_itself s x ≡ true → number < i → comes_before w (cycle_at x) (cycle_at b) ≡ false
      behind i x at has past =
          let l = one.least i x (key_of w.files x) at (all.each i x at).is_key has in
          not_before_by b x number i there at (subst (λ (k : ℕ). k ≤ key_of w.files x) (sym own) l)

  -- the body that is reported
  pub body_told : (number : ℕ) → IsLeastValue s numbers number → (b : Body) × (slice_get (bodies s) number ≡ Some b)
  body_told number two = by (with.others two.number (key_of w.files two.body) number (all.each two.number two.body two.there).is_key two.is_value) where
    by : (key_of w.files two.body ≡ key) × (number ≡ two.number) ⊎ (number ≡ length keys) → (b : Body) × (slice_get (bodies s) number ≡ Some b)
    by (inr past) =
        let l = slice_get_within keys one.number key one.is_value in
        let m = two.least one.number one.body one.number one.there (with.with_key one.number one.is_value) one.contains in
        absurd (omega (arith, l, m, past))
    by (inl (has_key, same)) = (two.body, ap (slice_get (bodies s)) same ∙ two.there)

  -- it has a place
  pub has_place : (number : ℕ) (told : Option Place) → IsLeastValue s numbers number
      → ((b : Body) → slice_get (bodies s) number ≡ Some b → told ≡ Some (place_in b.construct b.construct.at)) → told ≡ None → ⊥
  has_place number told two there e = by (body_told number two) where
    by : (b : Body) × (slice_get (bodies s) number ≡ Some b) → ⊥
    by (b, at) = none-some (place_in b.construct b.construct.at) (sym e ∙ there b at)

  -- and is noted there
  pub chosen_at : (number : ℕ) (place : Place) (told : Option Place) (o : Option Breach) → IsLeastValue s numbers number
      → ((b : Body) → slice_get (bodies s) number ≡ Some b → told ≡ Some (place_in b.construct b.construct.at)) → told ≡ Some place
      → later w (breach Rule.NO_TYPE_IN_ITSELF place) o ≡ noted w o (cycle_breaches s)
  chosen_at number place told o two there e = by (body_told number two) where
    by : (b : Body) × (slice_get (bodies s) number ≡ Some b) → later w (breach Rule.NO_TYPE_IN_ITSELF place) o ≡ noted w o (cycle_breaches s)
    by (b, at) = ap (λ p. later w (breach Rule.NO_TYPE_IN_ITSELF p) o) (same_Some place (place_in b.construct b.construct.at) (sym e ∙ there b at)) ∙ chosen number b o two at
