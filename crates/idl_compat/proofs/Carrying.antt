-- The cells of a graph carried to a new interface, and back: where the graph conforms on either side, each cell's type has a partner.
use Rattle.std.proofs.Common.{arith, ◌≡◌, ℕ, ◌<◌, ◌≤◌, zero, suc, Bool, true, false, eqb, List, [], ◌∷◌, Option, Some, None, refl, ap, sym, ◌∙◌, subst, map, length, inl, inr, ◌⊎◌}
use Rattle.std.specs.Prelude.{slice_get}
use Rattle.std.proofs.lemmas.Bool.{eqb-true, eqb-false, ne_eqb}
use Rattle.std.proofs.lemmas.Option.{same_Some}
use Rattle.nd_base.specs.declared.octets.Order.{Order}
use Rattle.nd_types.specs.declared.interface.Interface.{Interface}
use Rattle.nd_types.specs.declared.types.TypeDef.{TypeDef}
use Rattle.nd_types.specs.declared.types.TypeDef.TheVariants as def
use Rattle.nd_types.specs.declared.types.Operation.{Operation}
use Rattle.nd_types.specs.declared.types.Side.{Side}
use Rattle.nd_types.specs.declared.TheConstants.{HANDLE}
use Rattle.nd_types.specs.Table.{Table, type_at}
use Rattle.nd_types.specs.Roots.{roots_of}
use Rattle.nd_value.specs.declared.value.Graph.{Graph}
use Rattle.nd_value.specs.Tree.{Referent}
use Rattle.nd_value.specs.Fitting.{setting_of}
use Rattle.nd_value.specs.Conforms.{Conforms}
use Rattle.nd_grammar.specs.Stream.{Represents}
use Rattle.idl_compat.specs.declared.pairs.TypePair.{TypePair}
use Rattle.idl_compat.specs.Comparison.{OneByOne, IsPair, IsOneToOne, Alike, AlikeFound, AlikeOperations, AlikeTypes, alike_prims, alike_enums, alike_structs, alike_arrays, alike_texts, alike_unions}
use Rattle.idl_compat.specs.Comparison.{alike_pointers, alike_contexts, alike_pipes}
use Rattle.idl_compat.specs.Carry.{partner, carried_cell, carry}
use Rattle.idl_compat.proofs.Tied.{IsTied, turned, tied_turned, one_turned, operations_turned}
use Rattle.idl_compat.proofs.Roots.{AlikeRoot, roots_alike}
use Rattle.idl_compat.proofs.Streams.{graph_of, represents_alike}
use Rattle.idl_compat.proofs.Fitting.{AlikeCell, alike_cell, cell_same}
use Rattle.idl_compat.proofs.Conforming.{cells_typed, conforms_alike}

-- ## Partners

pair_by : (p : TypePair) (ps : List TypePair) (t v : ℕ) (b : Bool) → eqb t p.old.0 ≡ b → (b ≡ false → IsPair ps t v) → IsPair (p ∷ ps) t (elim b [ true ↦ p.new.0 | false ↦ v ])
pair_by p ps t v true e f = inl (eqb-true t p.old.0 e, refl)
pair_by p ps t v false e f = inr (f refl)

-- the partner that is found for a type that has one is a partner of it
pub found_pair : (m : List TypePair) (t u : ℕ) → IsPair m t u → IsPair m t (partner m t)
found_pair [] t u a = absurd a
found_pair (p ∷ ps) t u (inl h) = pair_by p ps t (partner ps t) (eqb t p.old.0) refl (λ e. absurd (eqb-false t p.old.0 e h.0))
found_pair (p ∷ ps) t u (inr h) = pair_by p ps t (partner ps t) (eqb t p.old.0) refl (λ e. found_pair ps t u h)

-- and so is one that is not HANDLE
pub known_pair : (m : List TypePair) (t : ℕ) → eqb (partner m t) HANDLE.0 ≡ false → IsPair m t (partner m t)
known_pair [] t e = absurd (eqb-false HANDLE.0 HANDLE.0 e refl)
known_pair (p ∷ ps) t e =
    pair_by p ps t (partner ps t) (eqb t p.old.0) refl
    (λ f. known_pair ps t (subst (λ b. eqb (elim b [ true ↦ p.new.0 | false ↦ partner ps t ]) HANDLE.0 ≡ false) f e))

-- ## Two interfaces by their pairs

pub both_there : (R : ℕ → ℕ → Type 0) {d e : Option TypeDef} → AlikeTypes R d e → ((x : TypeDef) × (d ≡ Some x)) × ((y : TypeDef) × (e ≡ Some y))
both_there R (alike_prims p) = ((_, refl), (_, refl))
both_there R (alike_enums vs) = ((_, refl), (_, refl))
both_there R (alike_structs fs gs a) = ((_, refl), (_, refl))
both_there R (alike_arrays t u b v a) = ((_, refl), (_, refl))
both_there R (alike_texts t u b a) = ((_, refl), (_, refl))
both_there R (alike_unions t u n xs ys d e a b c) = ((_, refl), (_, refl))
both_there R (alike_pointers c t u a) = ((_, refl), (_, refl))
both_there R alike_contexts = ((_, refl), (_, refl))
both_there R (alike_pipes t u a) = ((_, refl), (_, refl))

pub within : {X : Type 0} (xs : List X) (i : ℕ) (x : X) → slice_get xs i ≡ Some x → i < length xs
within [] i x e = cc
within (y ∷ ys) zero x e = omega arith
within (y ∷ ys) (suc i) x e = let b = within ys i x e in omega (arith, b)

no_handle : (types : Table) (t : ℕ) (d : TypeDef) → length types ≤ 4096 → type_at types t ≡ Some d → eqb t HANDLE.0 ≡ false
no_handle types t d few e =
    let l : t < length types = within types t d e in
    ne_eqb t HANDLE.0 (λ h. let h' : t ≡ 4294967295 = h in absurd (omega (arith, l, few, h')))

pub tied_by : (old new : Interface) (m : List TypePair) (n : ℕ) → Alike old new m n → IsTied (IsPair m) old.types new.types
tied_by old new m n a =
    record {
      alike = a.types;
      one_new = a.one_to_one.new;
      one_old = a.one_to_one.old;
      old_known = λ t u r. let (x, y) = both_there (IsPair m) (a.types t u r) in no_handle old.types t x.0 old.legal.few_types x.1;
      new_known = λ t u r. let (x, y) = both_there (IsPair m) (a.types t u r) in no_handle new.types u y.0 new.legal.few_types y.1;
    }

pub operations_by : (R : ℕ → ℕ → Type 0) (x y : Option Operation) (o q : Operation) → AlikeFound R x y → x ≡ Some o → y ≡ Some q → AlikeOperations R o q
operations_by R None y o q a e f = absurd a
operations_by R (Some x) None o q a e f = absurd a
operations_by R (Some x) (Some y) o q a e f =
    subst (λ v. AlikeOperations R o v) (same_Some y q f) (subst (λ v. AlikeOperations R v y) (same_Some x o e) a)

-- ## Cells

cells_by : (m : List TypePair) (cells : List Referent) → ((i : ℕ) (x : Referent) → slice_get cells i ≡ Some x → IsPair m x.of (partner m x.of))
    → OneByOne (AlikeCell (IsPair m)) cells (map (carried_cell m) cells)
cells_by m [] f = tt
cells_by m (x ∷ xs) f = (alike_cell x.of (partner m x.of) x.val (f zero x refl), cells_by m xs (λ i y e. f (suc i) y e))

cell_turned : (R : ℕ → ℕ → Type 0) (x y : Referent) → AlikeCell R x y → AlikeCell (turned R) y x
cell_turned R _ _ (alike_cell t u v r) = alike_cell u t v r

slice_map : (m : List TypePair) (cells : List Referent) (i : ℕ) (x : Referent) → slice_get cells i ≡ Some x → slice_get (map (carried_cell m) cells) i ≡ Some (carried_cell m x)
slice_map m [] i x e = cc
slice_map m (y ∷ ys) zero x e = ap (λ z. Some (carried_cell m z)) (same_Some y x e)
slice_map m (y ∷ ys) (suc i) x e = slice_map m ys i x e

-- ## The law

module _ (old new : Interface) (m : List TypePair) (n : ℕ) (a : Alike old new m n) (i : ℕ) (l : i < n) (o q : Operation)
    (is_old : slice_get old.operations i ≡ Some o) (is_new : slice_get new.operations i ≡ Some q) (s : Side) (order : Order) (octets : List ℕ) (g : Graph) where
  tied : IsTied (IsPair m) old.types new.types
  tied = tied_by old new m n a

  operations : AlikeOperations (IsPair m) o q
  operations = operations_by (IsPair m) (slice_get old.operations i) (slice_get new.operations i) o q (a.operations i l) is_old is_new

  rooted : OneByOne (AlikeRoot (IsPair m)) (roots_of old.types s o) (roots_of new.types s q)
  rooted = roots_alike (IsPair m) old.types new.types tied s o q operations

  rooted_back : OneByOne (AlikeRoot (turned (IsPair m))) (roots_of new.types s q) (roots_of old.types s o)
  rooted_back = roots_alike (turned (IsPair m)) new.types old.types (tied_turned (IsPair m) old.types new.types tied) s q o (operations_turned (IsPair m) o q operations)

  pub carried : Represents (setting_of old o s) order octets g → Conforms (setting_of old o s) g
      → Represents (setting_of new q s) order octets (carry m g) × Conforms (setting_of new q s) (carry m g)
  carried r c =
      let cs : OneByOne (AlikeCell (IsPair m)) g.cells (map (carried_cell m) g.cells) =
      cells_by m g.cells (λ j x e. let (u, p) = cells_typed (IsPair m) old.types new.types tied o q s rooted g c j x e in found_pair m x.of u p) in (
        represents_alike (IsPair m) old.types new.types tied o q s rooted g.roots g.cells (map (carried_cell m) g.cells)
            (λ d. cell_same (IsPair m) old.types new.types tied g.roots g.cells (map (carried_cell m) g.cells) cs d) order octets r,
        conforms_alike (IsPair m) old.types new.types tied o q s rooted g.roots g.cells (map (carried_cell m) g.cells) cs c,
      )

  pub carried_back : Represents (setting_of new q s) order octets (carry m g) → Conforms (setting_of new q s) (carry m g)
      → Represents (setting_of old o s) order octets g × Conforms (setting_of old o s) g
  carried_back r c =
      let R : ℕ → ℕ → Type 0 = turned (IsPair m) in
      let back : IsTied R new.types old.types = tied_turned (IsPair m) old.types new.types tied in
      let known = λ (j : ℕ) (x : Referent) (e : slice_get g.cells j ≡ Some x).
      (let (t, p) = cells_typed R new.types old.types back q o s rooted_back (carry m g) c j (carried_cell m x) (slice_map m g.cells j x e) in
      known_pair m x.of (tied.new_known t (partner m x.of) p)) in
      let cs : OneByOne (AlikeCell R) (map (carried_cell m) g.cells) g.cells =
      one_turned (AlikeCell (IsPair m)) (AlikeCell R) (cell_turned (IsPair m)) g.cells (map (carried_cell m) g.cells) (cells_by m g.cells known) in (
        represents_alike R new.types old.types back q o s rooted_back g.roots (map (carried_cell m) g.cells) g.cells
            (λ d. cell_same R new.types old.types back g.roots (map (carried_cell m) g.cells) g.cells cs d) order octets r,
        conforms_alike R new.types old.types back q o s rooted_back g.roots (map (carried_cell m) g.cells) g.cells cs c,
      )
