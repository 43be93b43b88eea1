-- The types of the elements of a side's pipes, one after the other.
-- `rs` are roots with their names, `r` is one of them, `types` are the types so far.
use Rattle.std.proofs.Common.{◌≡◌, get_or, ◌∙◌, ap, sym, refl, ℕ, zero, suc, ◌+◌, ◌-◌, ◌<◌, Bool, true, false, List, [], ◌∷◌, ◌++◌, length, map, drop, Some, None, arith}
use Rattle.std.specs.Prelude.{cond}
use Rattle.std.specs.List.{slice_get}
use Rattle.std.proofs.lemmas.Option.{same_Some, slice_get-get_or}
use Rattle.nd_types.specs.declared.types.TypeId.{TypeId}
use Rattle.nd_types.specs.Roots.{Root, NamedRoot, named_root, named_roots}
use Rattle.nd_types.specs.Table.{Table, type_at}
use Rattle.nd_value.specs.Deferral.{before_pipes, root_type}
use Rattle.nd_value.specs.Setting.{Setting, root_list}
use Rattle.nd_grammar.proofs.next.NextStream.{drop_at}
use Rattle.ndr_code.specs.Code.{pipe_roots}
use Rattle.ndr_code.proofs.Parted.{pipes_last}
use Rattle.ndr_drain_laws.specs.parts.Parts.{elem_at, elem_by}
use Rattle.ndr_drain.specs.Drained.{pipe_elements}
use Rattle.ndr_drain.specs.Turns.{AreElements}

-- ## The loop

abbrev pub numbers : List TypeId → List ℕ
numbers types = map (λ t. t.0) types

one_more : (types : List TypeId) (t : TypeId) → numbers (types ++ t ∷ []) ≡ numbers types ++ t.0 ∷ []
one_more [] t = refl
one_more (x ∷ xs) t = ap (λ l. x.0 ∷ l) (one_more xs t)

-- the types of a root and of those after it
abbrev and_rest : Table → NamedRoot → List ℕ → Bool → List ℕ
and_rest table r rest b = elim b [ true ↦ elem_by (type_at table r.of) ∷ rest | false ↦ rest ]

by_kind : (table : Table) (b : Bool) (r : NamedRoot) → r.is_pipe ≡ b → (rest : List ℕ) → and_rest table r rest r.is_pipe ≡ and_rest table r rest b
by_kind table b r h rest = ap (and_rest table r rest) h

grows : (table : Table) (r : NamedRoot) (b : Bool) (xs ys : List ℕ) → and_rest table r (xs ++ ys) b ≡ and_rest table r xs b ++ ys
grows table r true xs ys = refl
grows table r false xs ys = refl

-- a root that is no pipe adds nothing
pub value_next : (table : Table) (rs : List NamedRoot) (r : NamedRoot) → r.is_pipe ≡ false → pipe_elements table (rs ++ r ∷ []) ≡ pipe_elements table rs
value_next table [] r h = by_kind table false r h []
value_next table (x ∷ xs) r h = ap (λ l. and_rest table x l x.is_pipe) (value_next table xs r h)

-- a pipe adds the type of its elements
pub pipe_next : (table : Table) (rs : List NamedRoot) (r : NamedRoot) → r.is_pipe ≡ true → pipe_elements table (rs ++ r ∷ []) ≡ pipe_elements table rs ++ elem_by (type_at table r.of) ∷ []
pipe_next table [] r h = by_kind table true r h []
pipe_next table (x ∷ xs) r h =
    ap (λ l. and_rest table x l x.is_pipe) (pipe_next table xs r h)
    ∙ grows table x x.is_pipe (pipe_elements table xs) (elem_by (type_at table r.of) ∷ [])

-- one root more was looked at
pub after_value : {Z : Type 0} (table : Table) (value : Z → NamedRoot) (seen : List Z) (r : Z) (types : List TypeId) → numbers types ≡ pipe_elements table (map value seen)
    → (value r).is_pipe ≡ false → numbers types ≡ pipe_elements table (map value (seen ++ r ∷ []))
after_value table value seen r types h k = h ∙ sym (value_next table (map value seen) (value r) k) ∙ ap (pipe_elements table) (sym (mapped value seen r))
  where
    mapped : {Z : Type 0} (value : Z → NamedRoot) (seen : List Z) (r : Z) → map value (seen ++ r ∷ []) ≡ map value seen ++ value r ∷ []
    mapped value [] r = refl
    mapped value (x ∷ xs) r = ap (λ l. value x ∷ l) (mapped value xs r)

pub after_pipe : {Z : Type 0} (table : Table) (value : Z → NamedRoot) (seen : List Z) (r : Z) (types types' : List TypeId) (t : TypeId)
    → numbers types ≡ pipe_elements table (map value seen) → (value r).is_pipe ≡ true → types' ≡ types ++ t ∷ [] → t.0 ≡ elem_by (type_at table (value r).of)
    → numbers types' ≡ pipe_elements table (map value (seen ++ r ∷ []))
after_pipe table value seen r types types' t h k p e =
    ap numbers p ∙ one_more types t ∙ ap (λ n. numbers types ++ n ∷ []) e ∙ ap (λ l. l ++ elem_by (type_at table (value r).of) ∷ []) h
    ∙ sym (pipe_next table (map value seen) (value r) k) ∙ ap (pipe_elements table) (sym (mapped value seen r))
  where
    mapped : {Z : Type 0} (value : Z → NamedRoot) (seen : List Z) (r : Z) → map value (seen ++ r ∷ []) ≡ map value seen ++ value r ∷ []
    mapped value [] r = refl
    mapped value (x ∷ xs) r = ap (λ l. value x ∷ l) (mapped value xs r)

-- ## The types of a side

abbrev elems_of : Table → List Root → List ℕ
elems_of table rs = map (λ r. elem_by (type_at table r.of)) rs

-- the pipes among roots give their types
of_pipes : (table : Table) (f : Root → NamedRoot) → ((r : Root) → ((f r).is_pipe ≡ r.is_pipe) × ((f r).of ≡ r.of)) → (rs : List Root)
    → pipe_elements table (map f rs) ≡ elems_of table (pipe_roots rs)
of_pipes table f h [] = refl
of_pipes table f h (r ∷ rs) = go r.is_pipe refl (of_pipes table f h rs)
  where
    go : (b : Bool) → r.is_pipe ≡ b → pipe_elements table (map f rs) ≡ elems_of table (pipe_roots rs)
        → pipe_elements table (map f (r ∷ rs)) ≡ elems_of table (cond b (r ∷ pipe_roots rs) (pipe_roots rs))
    go true e k =
        by_kind table true (f r) ((h r).0 ∙ e) (pipe_elements table (map f rs))
        ∙ ap (λ n. elem_by (type_at table n) ∷ pipe_elements table (map f rs)) (h r).1 ∙ ap (λ l. elem_by (type_at table r.of) ∷ l) k
    go false e k = by_kind table false (f r) ((h r).0 ∙ e) (pipe_elements table (map f rs)) ∙ k

none_nat : {t : ℕ} → None ≡ Some t → ⊥
none_nat h = cc

none_type : {t : TypeId} → None ≡ Some t → ⊥
none_type h = cc

at_map : (table : Table) (rs : List Root) (i t : ℕ) → slice_get (elems_of table rs) i ≡ Some t → t ≡ elem_by (type_at table (root_type (slice_get rs i)))
at_map table [] i t h = absurd (none_nat h)
at_map table (r ∷ rs) zero t h = sym (same_Some _ _ h)
at_map table (r ∷ rs) (suc i) t h = at_map table rs i t h

length_elems : (table : Table) (rs : List Root) → length (elems_of table rs) ≡ length rs
length_elems table [] = refl
length_elems table (r ∷ rs) = ap (λ n. suc n) (length_elems table rs)

length_drop : (n : ℕ) (rs : List Root) → length (drop n rs) ≡ length rs - n
length_drop zero rs = omega arith
length_drop (suc n) [] = omega arith
length_drop (suc n) (r ∷ rs) = let e : length (drop n rs) ≡ length rs - n = length_drop n rs in omega (arith, e)

pub are_elements : (w : Setting) (types : List ℕ) → types ≡ pipe_elements w.table (named_roots w.table w.side w.op) → AreElements w types
are_elements w types h =
    let n : ℕ = before_pipes (root_list w) in
    let e : types ≡ elems_of w.table (drop n (root_list w)) =
    h ∙ of_pipes w.table (named_root w.op) (λ r. (refl, refl)) (root_list w) ∙ ap (elems_of w.table) (pipes_last w) in
    record {
      all = ap length e ∙ length_elems w.table (drop n (root_list w)) ∙ length_drop n (root_list w);
      each = λ i t k.
          at_map w.table (drop n (root_list w)) i t (sym (ap (λ l. slice_get l i) e) ∙ k)
          ∙ ap (λ o. elem_by (type_at w.table (root_type o))) (drop_at n (root_list w) i);
    }

-- ## The type of one pipe

there : (types : List TypeId) (i : ℕ) (t : TypeId) → slice_get types i ≡ Some t → slice_get (numbers types) i ≡ Some t.0
there [] i t h = absurd (none_type h)
there (x ∷ xs) zero t h = ap (λ y. Some y.0) (same_Some _ _ h)
there (x ∷ xs) (suc i) t h = there xs i t h

pub as_many : (types : List TypeId) → length (numbers types) ≡ length types
as_many [] = refl
as_many (t ∷ types) = ap (λ n. suc n) (as_many types)

pub element_at : (w : Setting) (types : List TypeId) → AreElements w (numbers types) → (i : ℕ) → i < length types → (d : TypeId) → (get_or types i d).0 ≡ elem_at w (before_pipes (root_list w) + i)
element_at w types a i below d = a.each i (get_or types i d).0 (there types i (get_or types i d) (slice_get-get_or types i d below))
