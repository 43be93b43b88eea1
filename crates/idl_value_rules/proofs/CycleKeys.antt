-- Lists of one number for each body, filled in a loop: keys, and numbers of bodies with a key.
use Rattle.std.proofs.Common.{◌≡◌, ◌∙◌, ◌⊎◌, inl, inr, ℕ, zero, suc, ◌+◌, ◌*◌, ◌%◌, ◌^◌, ◌<◌, List, [], ◌∷◌, ◌++◌, length, Some, slice_get, refl, ap, sym, subst, arith}
use Rattle.std.specs.Prelude.{slice_index_or}
use Rattle.std.proofs.lemmas.Option.{none-some, same_Some, slice_get_within}
use Rattle.nd_base.specs.declared.octets.Place.{Place}
use Rattle.idl_scope.specs.Known.{Ended}
use Rattle.idl_rule_definitions.specs.Nodes.{place_in}
use Rattle.idl_rule_definitions.specs.Scene.{Body}
use Rattle.idl_rule_definitions.specs.Rules.{rank_in}
use Rattle.idl_value_rules.specs.Cycles.{key_of, IsKeyAt, AreKeys, AreNumbersWith}
use Rattle.idl_declared_types.proofs.PlacesFilled.{Each, each_more}

pub item_read : {X : Type 0} (xs : List X) (i : ℕ) (d x : X) → slice_get xs i ≡ Some x → slice_index_or xs i d ≡ x
item_read [] i d x h = absurd (none-some x h)
item_read (y ∷ xs) zero d x h = same_Some y x h
item_read (y ∷ xs) (suc i) d x h = item_read xs i d x h

pub item_there : {X : Type 0} (xs : List X) (i : ℕ) (d : X) → i < length xs → slice_get xs i ≡ Some (slice_index_or xs i d)
item_there [] i d below = absurd (omega (arith, below))
item_there (x ∷ xs) zero d below = refl
item_there (x ∷ xs) (suc i) d below = item_there xs i d (omega (arith, below))

-- ## The numbers of bodies with a key

-- its own number if it has the key, and else the number past all
abbrev pub NumberWith : List ℕ → ℕ → ℕ → ℕ → Type 0
NumberWith keys key i v = (k : ℕ) → slice_get keys i ≡ Some k → (k ≡ key) × (v ≡ i) ⊎ (k ≡ key → ⊥) × (v ≡ length keys)

pub with_own : (keys : List ℕ) (key i v : ℕ) → slice_index_or keys i 0 ≡ key → v ≡ i → NumberWith keys key i v
with_own keys key i v same own k has = inl (sym (item_read keys i 0 k has) ∙ same, own)

pub with_past : (keys : List ℕ) (key i v : ℕ) → (slice_index_or keys i 0 ≡ key → ⊥) → v ≡ length keys → NumberWith keys key i v
with_past keys key i v apart past k has = inr (λ same. apart (item_read keys i 0 k has ∙ same), past)

pub with_more : (keys : List ℕ) (key number : ℕ) (numbers : List ℕ) (v : ℕ) → length numbers ≡ number → Each (NumberWith keys key) 0 numbers
    → NumberWith keys key number v → Each (NumberWith keys key) 0 (numbers ++ v ∷ [])
with_more keys key number numbers v size each one =
    each_more (NumberWith keys key) 0 numbers v each (subst (λ (n : ℕ). NumberWith keys key n v) (sym size) one)

pub with_all : (keys : List ℕ) (key : ℕ) (numbers : List ℕ) → length numbers ≡ length keys → Each (NumberWith keys key) 0 numbers → AreNumbersWith keys key numbers
with_all keys key numbers size each = record {
  count = size;
  with_key = λ i has. own i has (by i key has);
  others = λ i k v has valued. other i k v valued (by i k has);
} where
  by : (i k : ℕ) → slice_get keys i ≡ Some k → (k ≡ key) × (slice_index_or numbers i 0 ≡ i) ⊎ (k ≡ key → ⊥) × (slice_index_or numbers i 0 ≡ length keys)
  by i k has = let l = slice_get_within keys i k has in each i (omega (arith, l, size)) k has

  own : (i : ℕ) → slice_get keys i ≡ Some key → (key ≡ key) × (slice_index_or numbers i 0 ≡ i) ⊎ (key ≡ key → ⊥) × (slice_index_or numbers i 0 ≡ length keys) → slice_get numbers i ≡ Some i
  own i has (inl (_, e)) = let l = slice_get_within keys i key has in item_there numbers i 0 (omega (arith, l, size)) ∙ ap (λ v. Some v) e
  own i has (inr (apart, _)) = absurd (apart refl)

  other : (i k v : ℕ) → slice_get numbers i ≡ Some v → (k ≡ key) × (slice_index_or numbers i 0 ≡ i) ⊎ (k ≡ key → ⊥) × (slice_index_or numbers i 0 ≡ length keys)
      → (k ≡ key) × (v ≡ i) ⊎ (v ≡ length keys)
  other i k v valued (inl (same, e)) = inl (same, sym (item_read numbers i 0 v valued) ∙ e)
  other i k v valued (inr (_, e)) = inr (sym (item_read numbers i 0 v valued) ∙ e)

-- ## The keys of bodies

-- the key of a body
abbrev pub KeyAt : List Ended → List Body → ℕ → ℕ → Type 0
KeyAt files bs i v = (b : Body) → slice_get bs i ≡ Some b → (v ≡ key_of files b) × (b.construct.at < 2 ^ 32)

pub key_more : (files : List Ended) (bs : List Body) (number : ℕ) (keys : List ℕ) (v : ℕ) → length keys ≡ number → Each (KeyAt files bs) 0 keys
    → KeyAt files bs number v → Each (KeyAt files bs) 0 (keys ++ v ∷ [])
key_more files bs number keys v size each one = each_more (KeyAt files bs) 0 keys v each (subst (λ (n : ℕ). KeyAt files bs n v) (sym size) one)

pub keys_all : (files : List Ended) (bs : List Body) (keys : List ℕ) → length keys ≡ length bs → Each (KeyAt files bs) 0 keys → AreKeys files bs keys
keys_all files bs keys size each = record { count = size; each = λ i b at. one i b at (key i b at) } where
  key : (i : ℕ) (b : Body) → slice_get bs i ≡ Some b → (slice_index_or keys i 0 ≡ key_of files b) × (b.construct.at < 2 ^ 32)
  key i b at = let l = slice_get_within bs i b at in each i (omega (arith, l, size)) b at

  one : (i : ℕ) (b : Body) → slice_get bs i ≡ Some b → (slice_index_or keys i 0 ≡ key_of files b) × (b.construct.at < 2 ^ 32) → IsKeyAt files b keys i
  one i b at (is, narrow) = let l = slice_get_within bs i b at in record { is_key = item_there keys i 0 (omega (arith, l, size)) ∙ ap (λ v. Some v) is; narrow = narrow }

-- a rank and an octet as one number
pub joined_key : (files : List Ended) (b : Body) (place : Place) (rank key : ℕ) → key ≡ rank * 4294967296 + place.at → rank ≡ rank_in files place.file
    → place ≡ place_in b.construct b.construct.at → key ≡ key_of files b
joined_key files b place rank key whole same is =
    whole
    ∙ ap (λ n. n * 4294967296 + place.at) same
    ∙ ap (λ p. rank_in files p.file * 4294967296 + p.at) is
