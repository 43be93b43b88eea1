-- The cell that a pointer's number names, and the names with it.
use Rattle.std.proofs.Common.{◌≡◌, ℕ, ◌+◌, ◌<◌, ◌≤◌, zero, suc, Bool, true, false, ◌&&◌, List, [], ◌∷◌, ◌++◌, length, Option, Some, None, refl, ap, sym, ◌∙◌, inl, inr, arith, subst, length-append}
use Rattle.std.specs.Prelude.{eqb, not, cond}
use Rattle.std.specs.List.{AllByRecursion}
use Rattle.std.proofs.lemmas.Bool.{eqb-true, eq-eqb, not-false}
use Rattle.std.proofs.lemmas.List.{append-nil}
use Rattle.std.proofs.lemmas.Option.{same_Some, slice_get_within}
use Rattle.nd_base.specs.declared.octets.Order.{Order}
use Rattle.nd_types.specs.declared.types.Class.{Class}
use Rattle.nd_types.specs.declared.types.Class.TheVariants.{Ref, Unique, Full}
use Rattle.nd_types.specs.Number.{unsigned}
use Rattle.nd_value.specs.declared.item.Home.{Home}
use Rattle.nd_value.specs.Tree.{Referent}
use Rattle.nd_value.specs.Agreement.{Agreement}
use Rattle.nd_value.specs.Setting.{Among, unread}
use Rattle.nd_value.specs.Deferral.{Pending}
use Rattle.nd_grammar.specs.declared.reason.Reason.{Reason}
use Rattle.nd_grammar.specs.declared.reason.Reason.TheVariants as reason
use Rattle.nd_grammar.specs.Entry.{Entry, Number, EntryAt}
use Rattle.nd_grammar.specs.Stream.{piece}
use Rattle.nd_grammar.specs.Refusal.{refusal, is_other, other_pointee}
use Rattle.nd_grammar.specs.Reader.{Progress, Names, Named, here, pass, taken, taken_by, advanced, number_in, named, numbered, full_by, new_cell, fresh, with_cell}
use Rattle.nd_grammar.proofs.reader.ReaderSteps.{same_taken}
use Rattle.nd_grammar.proofs.reader.ReaderNodes.{accepted_kind, accepted_by, if_not}
use Rattle.nd_grammar.proofs.reader.ReaderNames.{last_cell, Extends, extends_itself, seen_more, linked_pass, other_right, either_false}
use Rattle.nd_grammar.specs.ReaderState.{cell_in, numbered_cells, Linked, LinkedOne, PointerAt, PointersOk}

cell_within : (cells : List Referent) (c : ℕ) (x : Referent) → cell_in cells c ≡ Some x → c ≤ length cells
cell_within cells zero x e = cc
cell_within cells (suc i) x e = let h = slice_get_within cells i x e in omega arith

module _ (order : Order) (octets : List ℕ) where
  -- the numbered cells are there
  numbered_within : (seen : List EntryAt) (cells : List Referent) (xs : List (ℕ × ℕ)) → AllByRecursion (LinkedOne order octets seen cells) xs
      → (c : ℕ) → Among (numbered_cells xs) c → c ≤ length cells
  numbered_within seen cells [] a c m = absurd m
  numbered_within seen cells (x ∷ xs) a c (inl e) = let (y, f, g) = a.0 in subst (λ u. u ≤ length cells) (sym e) (cell_within cells x.1 y f)
  numbered_within seen cells (x ∷ xs) a c (inr m) = numbered_within seen cells xs a.1 c m

  -- a number that is looked up is one that was had
  looked_up : (seen : List EntryAt) (cells : List Referent) (xs : List (ℕ × ℕ)) (v c : ℕ) → AllByRecursion (LinkedOne order octets seen cells) xs → numbered xs v ≡ Some c
      → Among (numbered_cells xs) c × LinkedOne order octets seen cells (v, c)
  looked_up seen cells [] v c a e = cc
  looked_up seen cells (x ∷ xs) v c a e = go (eqb x.0 v) refl e (looked_up seen cells xs v c a.1)
    where
      go : (t : Bool) → eqb x.0 v ≡ t → cond t (Some x.1) (numbered xs v) ≡ Some c
          → (numbered xs v ≡ Some c → Among (numbered_cells xs) c × LinkedOne order octets seen cells (v, c))
          → Among (numbered_cells (x ∷ xs)) c × LinkedOne order octets seen cells (v, c)
      go true f e r = (
        inl (sym (same_Some _ _ e)),
        subst (λ u. LinkedOne order octets seen cells (u, c)) (eqb-true x.0 v f) (subst (λ u. LinkedOne order octets seen cells (x.0, u)) (same_Some _ _ e) a.0),
      )
      go false f e r = let (m, l) = r e in (inr m, l)

  taken_seen : (o r : Option (ℕ × Reason)) (os x : List ℕ) (p : Progress) (m : Entry) → taken_by o r os ≡ Some x → (advanced o r p m).seen ≡ p.seen ++ here p m ∷ []
  taken_seen (Some z) r os x p m e = cc
  taken_seen None (Some z) os x p m e = cc
  taken_seen None None os x p m e = refl

  module _ (h : Home) (n : ℕ) (to : ℕ) where
    abbrev E : Class → Option ℕ → Entry
    E k c = record { home = h; node = n; kind = Number k to c }

    abbrev its : Class → Option ℕ → List Agreement → ℕ → Pending
    its k c ags i = record { home = h; node = i; class = k; to = to; cell = c; agreements = ags }

    -- what naming a cell leaves
    pub record NamedOk (k : Class) (p : Progress) (s : Names) (it : Named) : Type 0 where
      pub extends : Extends s it.names
      pub linked : Linked order octets p s → Linked order octets (pass order octets (record { home = h; node = n; kind = Number k to it.cell }) p) it.names
      pub pointer : Linked order octets p s → (i : ℕ) (ags : List Agreement) → PointersOk s it.names (record { home = h; node = i; class = k; to = to; cell = it.cell; agreements = ags } ∷ [])

    no_cell : (k : Class) (p : Progress) (s : Names) → NamedOk k p s (record { cell = None; names = s })
    no_cell k p s = record {
      extends = extends_itself s;
      linked = λ l. linked_pass order octets p s (E k None) l;
      pointer = λ l i ags. record { each = ((λ c e. cc), tt); apart = (tt, tt) };
    }

    grown_extends : (s : Names) (xs : List (ℕ × ℕ)) → AllByRecursion (λ x. (length s.cells < x.1) × (x.1 ≤ length (s.cells ++ record { of = to; val = unread } ∷ []))) xs
        → Extends s (record { cells = s.cells ++ record { of = to; val = unread } ∷ []; numbers = xs ++ s.numbers })
    grown_extends s xs a = record { new = record { of = to; val = unread } ∷ []; cells = refl; blank = (refl, tt); more_numbers = xs; numbers = refl; of_new = a }

    one_more : (s : Names) → length (s.cells ++ record { of = to; val = unread } ∷ []) ≡ length s.cells + 1
    one_more s = length-append s.cells (record { of = to; val = unread } ∷ []) ∙ omega arith

    pub linked_cell : (p : Progress) (s : Names) → Linked order octets p s → Linked order octets p (with_cell to s)
    linked_cell p s l = record {
      all = subst (λ u. AllByRecursion (LinkedOne order octets u (s.cells ++ record { of = to; val = unread } ∷ [])) s.numbers) (append-nil p.seen)
          (seen_more order octets p.seen [] s.cells (record { of = to; val = unread } ∷ []) s.numbers l.all);
    }

    -- a cell of its own, for a pointer that is not full
    module _ (k : Class) (other : k ≡ Full → ⊥) (p : Progress) (s : Names) where
      own_at : Linked order octets p s → (i : ℕ) (ags : List Agreement) (c : ℕ) → fresh to s ≡ c → PointerAt s (with_cell to s) (its k (Some (fresh to s)) ags i) c
      own_at l i ags c e =
          subst (PointerAt s (with_cell to s) (its k (Some (fresh to s)) ags i)) e
          (record {
            there = (record { of = to; val = unread }, last_cell s.cells (record { of = to; val = unread }), refl);
            within = omega (arith, one_more s);
            new_or_full = inl (omega arith);
            full = λ f. absurd (other f);
            not_full = λ f m. (let b = numbered_within p.seen s.cells s.numbers l.all (fresh to s) m in absurd (omega arith));
          })

      pub own_cell : NamedOk k p s (new_cell to s)
      own_cell = record {
        extends = grown_extends s [] tt;
        linked = λ l. linked_pass order octets p (with_cell to s) (E k (Some (fresh to s))) (linked_cell p s l);
        pointer = λ l i ags. record { each = ((λ c e. own_at l i ags c (same_Some _ _ e)), tt); apart = (tt, tt) };
      }

    -- a full pointer whose number is taken
    module _ (p : Progress) (s : Names) (os : List ℕ) (is_taken : taken order octets (E Full None) p ≡ Some os) (positive : eqb (unsigned order os) 0 ≡ false) where
      abbrev v : ℕ
      v = unsigned order os

      -- it is not refused as one of another type
      no_other : is_other order octets p.seen v to ≡ false
      no_other =
          let (a, b, l) = accepted_kind order octets h n (Number Full to None) p os is_taken in
          let (x, y) = if_not (not (eqb v 0) && is_other order octets p.seen v to) (p.at, reason.OtherType) None a in
          subst (λ t. (not t && is_other order octets p.seen v to) ≡ false) positive x

      met_at : (c : ℕ) → Among (numbered_cells s.numbers) c → LinkedOne order octets p.seen s.cells (v, c) → (i : ℕ) (ags : List Agreement) (b : ℕ) → c ≡ b
          → PointerAt s s (its Full (Some c) ags i) b
      met_at c m (y, f, g) i ags b e =
          subst (PointerAt s s (its Full (Some c) ags i)) e
          (record {
            there = (y, f, sym (g to no_other));
            within = cell_within s.cells c y f;
            new_or_full = inr (refl, m);
            full = λ z. m;
            not_full = λ z q. z refl;
          })

      met_cell : (c : ℕ) → numbered s.numbers v ≡ Some c → NamedOk Full p s (record { cell = Some c; names = s })
      met_cell c e = record {
        extends = extends_itself s;
        linked = λ l. linked_pass order octets p s (E Full (Some c)) l;
        pointer = λ l i ags. record {
          each = (
            (λ b f. (let (m, o) = looked_up p.seen s.cells s.numbers v c l.all e in met_at c m o i ags b (same_Some _ _ f))),
            tt,
          );
          apart = (tt, tt);
        };
      }

      abbrev numbered_names : Names
      numbered_names = record { cells = s.cells ++ record { of = to; val = unread } ∷ []; numbers = (v, fresh to s) ∷ s.numbers }

      new_at : (i : ℕ) (ags : List Agreement) (b : ℕ) → fresh to s ≡ b → PointerAt s numbered_names (its Full (Some (fresh to s)) ags i) b
      new_at i ags b e =
          subst (PointerAt s numbered_names (its Full (Some (fresh to s)) ags i)) e
          (record {
            there = (record { of = to; val = unread }, last_cell s.cells (record { of = to; val = unread }), refl);
            within = omega (arith, one_more s);
            new_or_full = inl (omega arith);
            full = λ z. inl refl;
            not_full = λ z q. z refl;
          })

      seen_then : (pass order octets (E Full (Some (fresh to s))) p).seen ≡ p.seen ++ here p (E Full (Some (fresh to s))) ∷ []
      seen_then =
          taken_seen p.stop (refusal order octets p.seen (here p (E Full (Some (fresh to s))))) (piece octets p.at (Number Full to (Some (fresh to s)))) os p (E Full (Some (fresh to s)))
          (same_taken order octets p h n (Number Full to (Some (fresh to s))) (Number Full to None) refl ∙ is_taken)

      same_octets : piece octets p.at (Number Full to (Some (fresh to s))) ≡ os
      same_octets = (accepted_by p.stop (refusal order octets p.seen (here p (E Full None))) (piece octets p.at (Number Full to None)) os is_taken).1

      only_type : (to' : ℕ) → is_other order octets (p.seen ++ here p (E Full (Some (fresh to s))) ∷ []) v to' ≡ false → to' ≡ to
      only_type to' e =
          let a = other_right order octets p.seen (here p (E Full (Some (fresh to s))) ∷ []) v to' e in
          let (x, y) = either_false order octets (other_pointee (Number Full to (Some (fresh to s))) to' && eqb (unsigned order (piece octets p.at (Number Full to (Some (fresh to s))))) v) false a in
          let f : eqb (unsigned order (piece octets p.at (Number Full to (Some (fresh to s))))) v ≡ true = eq-eqb _ v (ap (unsigned order) same_octets) in
          sym (eqb-true to to' (not-false (eqb to to') (both_or (not (eqb to to')) _ f x)))
        where
          both_or : (a b : Bool) → b ≡ true → (a && b) ≡ false → a ≡ false
          both_or true true e f = cc
          both_or true false e f = cc
          both_or false b e f = refl

      new_linked : Linked order octets p s → Linked order octets (pass order octets (E Full (Some (fresh to s))) p) numbered_names
      new_linked l = record {
        all = subst (λ u. AllByRecursion (LinkedOne order octets u (s.cells ++ record { of = to; val = unread } ∷ [])) ((v, fresh to s) ∷ s.numbers)) (sym seen_then) (
          (record { of = to; val = unread }, last_cell s.cells (record { of = to; val = unread }), (λ to' e. only_type to' e)),
          seen_more order octets p.seen (here p (E Full (Some (fresh to s))) ∷ []) s.cells (record { of = to; val = unread } ∷ []) s.numbers l.all,
        );
      }

      new_number : NamedOk Full p s (record { cell = Some (fresh to s); names = numbered_names })
      new_number = record {
        extends = grown_extends s ((v, fresh to s) ∷ []) ((omega arith, omega (arith, one_more s)), tt);
        linked = new_linked;
        pointer = λ l i ags. record { each = ((λ b f. new_at i ags b (same_Some _ _ f)), tt); apart = (tt, tt) };
      }

      full_ok : (o : Option ℕ) → numbered s.numbers v ≡ o → NamedOk Full p s (full_by o v to s)
      full_ok (Some c) e = met_cell c e
      full_ok None e = new_number

    -- the cell that a pointer's number names
    pub named_ok : (k : Class) (p : Progress) (s : Names) (o : Option (List ℕ)) → taken order octets (record { home = h; node = n; kind = Number k to None }) p ≡ o
        → NamedOk k p s (named k to o (number_in order octets o) s)
    named_ok Ref p s o e = own_cell Ref (λ f. cc) p s
    named_ok Unique p s None e = no_cell Unique p s
    named_ok Full p s None e = no_cell Full p s
    named_ok Unique p s (Some os) e = go (eqb (unsigned order os) 0)
      where
        go : (t : Bool) → NamedOk Unique p s (cond t (record { cell = None; names = s }) (new_cell to s))
        go true = no_cell Unique p s
        go false = own_cell Unique (λ f. cc) p s
    named_ok Full p s (Some os) e = go (eqb (unsigned order os) 0) refl
      where
        go : (t : Bool) → eqb (unsigned order os) 0 ≡ t → NamedOk Full p s (cond t (record { cell = None; names = s }) (full_by (numbered s.numbers (unsigned order os)) (unsigned order os) to s))
        go true f = no_cell Full p s
        go false f = full_ok p s os e f (numbered s.numbers (unsigned order os)) refl
