-- The cells that pointers name.
-- `k` are the octets with the partial graph in which they are refused, `u` and `v` are cells before and after a call, `c` and `d` cells, `x` a cell or
-- none, `t` is a type's number, `n` a pointer's number, `r` what is known of it, `names` are the cells that are named afterwards.
use Rattle.std.proofs.Common.{◌≡◌, ◌≢◌, ◌⊎◌, inl, inr, ◌∙◌, ℕ, suc, zero, ◌+◌, ◌-◌, ◌<◌, ◌≤◌, ◌^◌, Bool, true, false, List, [], ◌∷◌, ◌++◌, Option, Some, None, Ok, Err, append-nil, refl, sym, ap}
use Rattle.std.proofs.Common.{ap₂, subst, arith}
use Rattle.std.specs.Prelude.{cond, min, max, nat_eq, option_map}
use Rattle.std.specs.List.{AllByRecursion}
use Rattle.std.proofs.Math.Nat.{max-eq_left, max-eq_right, min-eq_left}
use Rattle.std.proofs.lemmas.Bool.Decides.{nat_tests}
use Rattle.std.proofs.lemmas.Option.{same_Some}
use Rattle.nd_types.specs.declared.types.Class.{Class}
use Rattle.nd_types.specs.declared.types.Class.TheVariants.{Full, Ref, Unique}
use Rattle.nd_types.specs.declared.types.TypeId.{TypeId}
use Rattle.nd_types.specs.declared.types.TypeDef.TheVariants as def
use Rattle.nd_value.specs.declared.item.Home.{Home}
use Rattle.nd_value.specs.declared.value.CellId.{CellId}
use Rattle.nd_value.specs.declared.value.Graph.{Graph}
use Rattle.nd_value.specs.Deferral.{Placed_cells}
use Rattle.nd_value.specs.Misfit.{is_no_null_ref, names_cell, names_pointee}
use Rattle.nd_value.specs.Setting.{Among, cell_of_number}
use Rattle.nd_value.specs.Tree as tree
use Rattle.nd_value.specs.Tree.{Referent}
use Rattle.nd_value.proofs.Apart.{all_among, all_weaker}
use Rattle.nd_value.proofs.Orderly.{pointee_of_cell}
use Rattle.nd_grammar.specs.Entry.{Entry, Kind, Number}
use Rattle.nd_grammar.specs.Stream.{IsNumber, IsNumbering}
use Rattle.ndr_refs.specs.declared.referents.Known.{Known as KnownNumber}
use Rattle.ndr_refs.specs.declared.referents.RefFault.{RefFault}
use Rattle.ndr_refs.specs.declared.referents.RefFault.TheVariants as fault
use Rattle.ndr_refs.specs.Known.{known, first_met, IsMet, IsMetBy}
use Rattle.ndr_trace_value.specs.declared.cells.Cells.{Cells}
use Rattle.ndr_trace_value.specs.declared.cells.Pending.{Pending}
use Rattle.ndr_trace_value.specs.declared.pointers.PointerSpot.{PointerSpot}
use Rattle.ndr_trace_value.specs.Naming.{HasNamed, HasNumbers, HasType, InTurn, IsFine, IsNaming, full_one, names_of, only_spot, pending_by, pending_of, stands_at}
use Rattle.ndr_trace_value.specs.Tracing.{Known, pointer_variable, spot_of}

-- ## The numbers that are known

same : (m n : ℕ) → nat_eq m n ≡ true → m ≡ n
same m n e = grind (arith, nat_tests)

itself : (n : ℕ) → nat_eq n n ≡ true
itself n = grind (arith, nat_tests)

abbrev Map : Type 0
Map = List (ℕ × KnownNumber)

-- a number that is known stays known
known_before : (m : ℕ) (map new : Map) (r : KnownNumber) → known m map ≡ Some r → known m (map ++ new) ≡ Some r
known_before m [] new r e = cc
known_before m (y ∷ map) new r e = by (nat_eq m y.0) e (known_before m map new r)
  where
    by : (b : Bool) → cond b (Some y.1) (known m map) ≡ Some r → (known m map ≡ Some r → known m (map ++ new) ≡ Some r) → cond b (Some y.1) (known m (map ++ new)) ≡ Some r
    by true f later = f
    by false f later = later f

-- one that is added is known then
known_added : (m : ℕ) (map : Map) (r : KnownNumber) → known m map ≡ None → known m (map ++ (m, r) ∷ []) ≡ Some r
known_added m [] r e = ap (λ b. cond b (Some r) None) (itself m)
known_added m (y ∷ map) r e = by (nat_eq m y.0) e (known_added m map r)
  where
    by : (b : Bool) → cond b (Some y.1) (known m map) ≡ None → (known m map ≡ None → known m (map ++ (m, r) ∷ []) ≡ Some r) → cond b (Some y.1) (known m (map ++ (m, r) ∷ [])) ≡ Some r
    by true f later = cc
    by false f later = later f

-- and what is known was known before, or is what was added
known_or_added : (m n : ℕ) (map : Map) (r s : KnownNumber) → known m (map ++ (n, r) ∷ []) ≡ Some s → (known m map ≡ Some s) ⊎ ((m ≡ n) × (s ≡ r))
known_or_added m n [] r s e = by (nat_eq m n) refl e
  where
    by : (b : Bool) → nat_eq m n ≡ b → cond b (Some r) None ≡ Some s → (known m [] ≡ Some s) ⊎ ((m ≡ n) × (s ≡ r))
    by true h f = inr (same m n h, sym (same_Some _ _ f))
    by false h f = cc
known_or_added m n (y ∷ map) r s e = by (nat_eq m y.0) e (known_or_added m n map r s)
  where
    by : (b : Bool) → cond b (Some y.1) (known m (map ++ (n, r) ∷ [])) ≡ Some s → (known m (map ++ (n, r) ∷ []) ≡ Some s → (known m map ≡ Some s) ⊎ ((m ≡ n) × (s ≡ r)))
        → (cond b (Some y.1) (known m map) ≡ Some s) ⊎ ((m ≡ n) × (s ≡ r))
    by true f later = inl f
    by false f later = later f

-- ## Naming

-- pointers that are pending do not count
pub same_naming : (k : Known) (u v : Cells) (names : Placed_cells) → v.count ≡ u.count → v.numbers ≡ u.numbers → IsNaming k u names → IsNaming k v names
same_naming k u v names ec en i = record {
  is_numbering = i.is_numbering;
  full = i.full;
  low = subst (λ n. AllByRecursion (λ c. c ≤ n) i.full) (sym ec) i.low;
  have_numbers = i.have_numbers;
  numbers = subst (HasNumbers k i.full) (sym en) i.numbers;
  turn = subst (λ n. InTurn n i.full names) (sym ec) i.turn;
  named = i.named;
}

lower : (n m : ℕ) (cs : List ℕ) → n ≤ m → AllByRecursion (λ c. c ≤ n) cs → AllByRecursion (λ c. c ≤ m) cs
lower n m cs h a = all_weaker (λ c. c ≤ n) (λ c. c ≤ m) (λ c l. omega (arith, l, h)) cs a

next_fits : (n c next : ℕ) → c ≡ suc n → c < 2 ^ 32 → next ≡ min (n + 1) (2 ^ 32 - 1) → next ≡ c
next_fits n c next e few is = is ∙ min-eq_left (omega (arith, e, few)) ∙ omega (arith, e)

-- a pointer that is not full names the next cell
pub plain_named : (k : Known) (u v : Cells) (class : Class) (c next : ℕ) (names : Placed_cells) → (class ≡ Full → ⊥) → full_one class c ≡ []
    → IsNaming k u ((class, c) ∷ names) → next ≡ min (u.count + 1) (2 ^ 32 - 1) → v.count ≡ next → v.numbers ≡ u.numbers → (next ≡ c) × IsNaming k v names
plain_named k u v class c next names plain none i is ec en = go i.turn
  where
    go : ((c ≡ suc u.count) × InTurn (suc u.count) (full_one class c ++ i.full) names) ⊎ ((class ≡ Full) × Among i.full c × InTurn u.count i.full names)
        → (next ≡ c) × IsNaming k v names
    go (inr f) = absurd (plain f.0)
    go (inl (e, t)) =
        let s : next ≡ c = next_fits u.count c next e i.named.0.0 is in
        let n : v.count ≡ suc u.count = ec ∙ s ∙ e in (
          s,
          record {
            is_numbering = i.is_numbering;
            full = i.full;
            low = lower u.count v.count i.full (omega (arith, n)) i.low;
            have_numbers = i.have_numbers;
            numbers = subst (HasNumbers k i.full) (sym en) i.numbers;
            turn = subst (λ m. InTurn m i.full names) (sym n) (subst (λ f. InTurn (suc u.count) (f ++ i.full) names) none t);
            named = i.named.1;
          },
        )

module _ (k : Known) (u : Cells) (t n : ℕ) (names : Placed_cells) where
  abbrev OfType : TypeId
  OfType = record { 0 = t }

  -- the number of a cell is not 0, and is that of no other cell
  module _ (c : ℕ) (i : IsNaming k u ((Full, c) ∷ names)) (is : n ≡ k.numbering c) where
    has_number : Among k.full c
    has_number = i.named.0.1 refl

    its_cell : (r : KnownNumber) → known n u.numbers ≡ Some r → r.cell.0 ≡ c
    its_cell r e =
        i.is_numbering.one_to_one r.cell.0 c (all_among (Among k.full) i.full r.cell.0 (i.numbers.among n r e) i.have_numbers) has_number (i.numbers.number n r e ∙ is)

    -- a number that is not known names the next cell
    new_numbers : (next : CellId) → next.0 ≡ c → HasType k.graph c t → known n u.numbers ≡ None → (new : List (ℕ × KnownNumber))
        → new ≡ u.numbers ++ (n, first_met (record { 0 = t }) next) ∷ [] → HasNumbers k (c ∷ i.full) new
    new_numbers next s typed e new is_new =
        subst (HasNumbers k (c ∷ i.full)) (sym is_new)
        (record {
          listed = λ d a. knows d a;
          among = λ v r h. whichever v r h (Among (c ∷ i.full) r.cell.0) (λ o. inr (i.numbers.among v r o)) (λ p q. inl (ap (λ (y : KnownNumber). y.cell.0) q ∙ s));
          number = λ v r h.
              whichever v r h (k.numbering r.cell.0 ≡ v) (λ o. i.numbers.number v r o)
              (λ p q. ap k.numbering (ap (λ (y : KnownNumber). y.cell.0) q ∙ s) ∙ sym is ∙ sym p);
          typed = λ v r h.
              whichever v r h (HasType k.graph r.cell.0 r.of.0) (λ o. i.numbers.typed v r o)
              (λ p q. subst (λ (y : KnownNumber). HasType k.graph y.cell.0 y.of.0) (sym q) (subst (λ m. HasType k.graph m t) (sym s) typed));
        })
      where
        added : KnownNumber
        added = first_met (record { 0 = t }) next

        whichever : (v : ℕ) (r : KnownNumber) → known v (u.numbers ++ (n, added) ∷ []) ≡ Some r → (G : Type 0) → (known v u.numbers ≡ Some r → G)
            → (v ≡ n → r ≡ added → G) → G
        whichever v r h G old here = by (known_or_added v n u.numbers added r h)
          where
            by : (known v u.numbers ≡ Some r) ⊎ ((v ≡ n) × (r ≡ added)) → G
            by (inl o) = old o
            by (inr p) = here p.0 p.1

        knows : (d : ℕ) → Among (c ∷ i.full) d
            → (r : KnownNumber) × (known (k.numbering d) (u.numbers ++ (n, added) ∷ []) ≡ Some r) × (r.cell.0 ≡ d)
        knows d (inl h) = (
          added,
          ap (λ m. known m (u.numbers ++ (n, added) ∷ [])) (ap k.numbering h ∙ sym is) ∙ known_added n u.numbers added e,
          s ∙ sym h,
        )
        knows d (inr a) = let (r, f, h) = i.numbers.listed d a in (r, known_before (k.numbering d) u.numbers _ r f, h)

  -- a number was met: it names the cell
  pub met : (x : Option ℕ) (next cell : CellId) (v : Cells) → IsNaming k u (names_of Full x ++ names) → IsNumber k.numbering Full x n → IsFine k.graph Full t x → (n ≡ 0 → ⊥)
      → next.0 ≡ min (u.count + 1) (2 ^ 32 - 1) → IsMet n (record { 0 = t }) next u.numbers (Ok cell) v.numbers → v.count ≡ max u.count cell.0
      → (option_map (λ c. c.0) (Some cell) ≡ x) × IsNaming k v names
  met None next cell v i num fine positive is m count = absurd (positive num)
  met (Some c) next cell v i num fine positive is m count = go (known n u.numbers) refl m
    where
      Goal : Type 0
      Goal = (option_map (λ c. c.0) (Some cell) ≡ Some c) × IsNaming k v names

      go : (o : Option KnownNumber) → known n u.numbers ≡ o → IsMetBy o n (record { 0 = t }) next u.numbers (Ok cell) v.numbers → Goal
      go None e (same_cell, is_new) = by i.turn
        where
          by : ((c ≡ suc u.count) × InTurn (suc u.count) (c ∷ i.full) names) ⊎ ((Full ≡ Full) × Among i.full c × InTurn u.count i.full names) → Goal
          by (inr (f, a, rest)) =
              let (r, h, s) = i.numbers.listed c a in
              let z : known n u.numbers ≡ Some r = ap (λ m. known m u.numbers) num ∙ h in
              cc
          by (inl (h, rest)) =
              let s : next.0 ≡ c = next_fits u.count c next.0 h i.named.0.0 is in
              let cell_is : cell.0 ≡ c = ap (λ (d : CellId). d.0) same_cell ∙ s in
              let grown : v.count ≡ suc u.count = count ∙ ap (λ d. max u.count d) (cell_is ∙ h) ∙ max-eq_right (omega arith) in (
                ap Some cell_is,
                record {
                  is_numbering = i.is_numbering;
                  full = c ∷ i.full;
                  low = (omega (arith, grown, h), lower u.count v.count i.full (omega (arith, grown)) i.low);
                  have_numbers = (i.named.0.1 refl, i.have_numbers);
                  numbers = new_numbers c i num next s fine e v.numbers is_new;
                  turn = subst (λ m. InTurn m (c ∷ i.full) names) (sym grown) rest;
                  named = i.named.1;
                },
              )
      go (Some r) e (matches, is_new) = by i.turn
        where
          cell_is : cell.0 ≡ c
          cell_is = ap (λ (d : CellId). d.0) matches.1 ∙ its_cell c i num r e

          known_low : c ≤ u.count
          known_low =
              let l : r.cell.0 ≤ u.count = all_among (λ d. d ≤ u.count) i.full r.cell.0 (i.numbers.among n r e) i.low in
              let s = its_cell c i num r e in
              omega (arith, l, s)

          by : ((c ≡ suc u.count) × InTurn (suc u.count) (c ∷ i.full) names) ⊎ ((Full ≡ Full) × Among i.full c × InTurn u.count i.full names) → Goal
          by (inl (h, rest)) = let l = known_low in absurd (omega (arith, h, l))
          by (inr (f, a, rest)) =
              let l = known_low in
              let stays : v.count ≡ u.count = count ∙ ap (λ d. max u.count d) cell_is ∙ max-eq_left l in (
                ap Some cell_is,
                record {
                  is_numbering = i.is_numbering;
                  full = i.full;
                  low = lower u.count v.count i.full (omega (arith, stays)) i.low;
                  have_numbers = i.have_numbers;
                  numbers = subst (HasNumbers k i.full) (sym is_new) i.numbers;
                  turn = subst (λ m. InTurn m i.full names) (sym stays) rest;
                  named = i.named.1;
                },
              )

  -- it stands for one type
  pub one_type : (x : Option ℕ) (next : CellId) (new : List (ℕ × KnownNumber)) (first second : TypeId) → IsNaming k u (names_of Full x ++ names) → IsNumber k.numbering Full x n
      → IsFine k.graph Full t x → (n ≡ 0 → ⊥) → IsMet n (record { 0 = t }) next u.numbers (Err (fault.OtherType first second)) new → ⊥
  one_type None next new first second i num fine positive m = positive num
  one_type (Some c) next new first second i num fine positive m = go (known n u.numbers) refl m
    where
      go : (o : Option KnownNumber) → known n u.numbers ≡ o → IsMetBy o n (record { 0 = t }) next u.numbers (Err (fault.OtherType first second)) new → ⊥
      go None e h = h
      go (Some r) e ((other, f, s), is_new) =
          let (y, at, ty) = i.numbers.typed n r e in
          let (z, at', tz) = fine in
          let one : Some y ≡ Some z = sym at ∙ ap (cell_of_number k.graph) (its_cell c i num r e) ∙ at' in
          other (ap (λ m. record { 0 = m }) (sym ty ∙ ap (λ (q : Referent). q.of) (same_Some _ _ one) ∙ tz))

-- a pointer is pending then
pub pending_added : (k : Known) (u v : Cells) (m : Entry) (class : Class) (t : ℕ) (x : Option ℕ) (names : Placed_cells) → m.kind ≡ Number class t x → IsNaming k v names
    → v.pending.items ≡ u.pending.items ++ pending_of k m.home m.node class t x → v.stands ≡ u.stands → HasNamed k u v (m ∷ []) names
pending_added k u v m class t x names is i e es = record {
  naming = i;
  pending = e ∙ ap (λ xs. u.pending.items ++ xs) (sym (append-nil (pending_of k m.home m.node class t x)) ∙ ap (λ z. pending_by k m.home m.node z ++ []) (sym is));
  stands = es;
}

module _ (k : Known) (h : Home) (n : ℕ) (class : Class) where
  pub none_pending : (t : ℕ) (x : Option ℕ) (ps qs rs : List Pending) → None ≡ x → qs ≡ ps → rs ≡ qs → rs ≡ ps ++ pending_of k h n class t x
  none_pending t None ps qs rs e f g = g ∙ f ∙ sym (append-nil ps)
  none_pending t (Some c) ps qs rs e f g = cc

  pub one_pending : (cell : CellId) (to : TypeId) (from : Option PointerSpot) (x : Option ℕ) (ps qs rs : List Pending) → from ≡ only_spot k class h n → Some cell.0 ≡ x → qs ≡ ps
      → rs ≡ qs ++ record { cell = cell; to = to; from = from } ∷ [] → rs ≡ ps ++ pending_of k h n class to.0 x
  one_pending cell to from None ps qs rs i e f g = cc
  one_pending cell to from (Some c) ps qs rs i e f g =
      g ∙ ap (λ zs. zs ++ record { cell = cell; to = to; from = from } ∷ []) f
      ∙ ap₂ (λ d p. ps ++ record { cell = record { 0 = d }; to = record { 0 = to.0 }; from = p } ∷ []) (same_Some _ _ e) i

-- ## Marks

pub one_more_room : (stands : List Bool) (c : ℕ) → stands_at (stands ++ false ∷ []) c ≡ stands_at stands c
one_more_room [] zero = refl
one_more_room [] (suc c) = refl
one_more_room (b ∷ stands) zero = refl
one_more_room (b ∷ stands) (suc c) = one_more_room stands c

-- ## Where pointers are

pub spot_is : (k : Known) (at : PointerSpot) (h : Home) (n : ℕ) → at.home ≡ h → at.node ≡ n → at.variable ≡ pointer_variable k h n → Some at ≡ Some (spot_of k h n)
spot_is k at h n e f g =
    ap (λ x. Some (record { home = x; node = at.node; variable = at.variable })) e
    ∙ ap₂ (λ x y. Some (record { home = h; node = x; variable = y })) f g
