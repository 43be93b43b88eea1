-- Pointers: their numbers, and the cells that these name.
-- `v` is the number, `to` the type of the referent, `c` the cell.
use Rattle.std.proofs.Common.{◌≡◌, ◌≤◌, ◌<◌, ℕ, ◌+◌, Bool, true, false, ◌&&◌, List, [], ◌∷◌, ◌++◌, length, Option, Some, None, refl, ap, ap₂, sym, ◌∙◌, subst, arith, append_assoc, length-append, map}
use Rattle.std.specs.Prelude.{pos, cond, eqb, not, nat_eq, if◌then◌else◌, ◌||◌}
use Rattle.std.proofs.lemmas.Bool.{eqb-true, le-ltb as no_less, eq-eqb as same_eqb}
use Rattle.std.proofs.lemmas.Bool.Decides.{nat_tests}
use Rattle.std.proofs.lemmas.List.{append-nil, map-append, length-map}
use Rattle.nd_base.specs.declared.octets.Order.{Order}
use Rattle.nd_base.specs.declared.TheConstants.{STREAM_LIMIT}
use Rattle.nd_types.specs.declared.types.Class.{Class}
use Rattle.nd_types.specs.declared.types.Class.TheVariants.{Ref, Unique, Full}
use Rattle.nd_types.specs.declared.types.TypeDef.TheVariants as def
use Rattle.nd_types.specs.declared.types.TypeId.{TypeId}
use Rattle.nd_types.specs.Number.{unsigned}
use Rattle.nd_types.specs.Table.{Table, type_at}
use Rattle.nd_value.specs.declared.item.Home.{Home}
use Rattle.nd_value.specs.declared.item.Item.{Item}
use Rattle.nd_value.specs.declared.item.ItemKind.TheVariants as item
use Rattle.nd_value.specs.Setting.{unread}
use Rattle.nd_value.specs.Tree as tree
use Rattle.nd_value.specs.Tree.{node, none}
use Rattle.nd_grammar.specs.declared.reason.Reason.TheVariants as reason
use Rattle.nd_grammar.specs.Entry.{Entry, EntryAt, Number}
use Rattle.nd_grammar.specs.Stream.{piece}
use Rattle.nd_grammar.specs.Refusal.{refusal, refused_if, is_other, other_pointee}
use Rattle.nd_grammar.specs.Reader.{Progress, Names, Named, Read, pass, taken, number_in, named, numbered, fresh, with_cell, full_by as names_full}
use Rattle.ndr_code.specs.declared.instr.Instr.{Instr}
use Rattle.ndr_code.specs.declared.instr.Instr.TheVariants as op
use Rattle.ndr_code.specs.declared.lists.EnumList.{EnumList}
use Rattle.ndr_code.specs.Code.{whole_at}
use Rattle.ndr_code.specs.Runs.{IsRunAt}
use Rattle.ndr_code.proofs.Runs.{next_at}
use Rattle.ndr_refs.specs.declared.referents.Known.{Known}
use Rattle.ndr_refs.specs.Known.{known, first_met}
use Rattle.ndr_decoder_laws.specs.reader.Halves.{pointer_after}
use Rattle.ndr_decoder_laws.specs.reader.Around.{Around, going, finish, nodes_around, pointers_around}
use Rattle.ndr_decoder_laws.proofs.reader.Continuing.{passed, refused as stops_at}
use Rattle.ndr_decoder_laws.proofs.reader.Fetched.{others_stay, piece_fetched}
use Rattle.ndr_decoder_laws.proofs.reader.HomePointers.{of_pointer}
use Rattle.ndr_decoder_laws.specs.steps.Spots.{at_ret, FitsPointer}
use Rattle.ndr_decoder_laws.specs.steps.Steps.{State, Outcome, Owed, goes, refused, done_after, owing, new_cell, pointer_step, full_by}
use Rattle.ndr_decoder_laws.specs.steps.Good.{HasCells, Told, Good, IsRight, IsKnownAs, owed}
use Rattle.nd_grammar.specs.Items.{items}
use Rattle.ndr_decoder_laws.specs.steps.StepItems.{item_here, count_items}
use Rattle.ndr_decoder_laws.proofs.steps.CountedCells.{none_named, known_named, next_named, first_named}
use Rattle.ndr_decoder_laws.proofs.steps.Passing.{items_it, noted_joined, onward, silent, known_joined, lie_joined, lie_longer, tested_passed, judged, taken_it, lies_it}
use Rattle.ndr_decoder_laws.proofs.steps.Arriving.{Within, parts_of, within_passed}
use Rattle.ndr_decoder_laws.proofs.steps.Adding.{leaf_good, after_leaf, none_found, stop_by, Stops}

-- ## Numbers and cells

not_null : (v : ℕ) → eqb v 0 ≡ false → 0 < v
not_null v e = grind (arith, nat_tests)

not_zero : (v u : ℕ) → eqb v 0 ≡ true → 0 < u → eqb v u ≡ false
not_zero v u e l = grind (arith, nat_tests)

to_eqb : (m n : ℕ) → nat_eq m n ≡ eqb n m
to_eqb m n = by_test (eqb n m) refl
  where
    by_test : (b : Bool) → eqb n m ≡ b → nat_eq m n ≡ b
    by_test true e = grind (arith, nat_tests)
    by_test false e = grind (arith, nat_tests)

-- a number more in the table
known_other : (u v : ℕ) (k : Known) (xs : List (ℕ × Known)) → eqb v u ≡ false → known u (xs ++ (v, k) ∷ []) ≡ known u xs
known_other u v k [] e = ap (λ b. cond b (Some k) None) (to_eqb u v ∙ e)
known_other u v k (x ∷ xs) e = ap (λ o. cond (nat_eq u x.0) (Some x.1) o) (known_other u v k xs e)

known_now : (u v : ℕ) (k : Known) (xs : List (ℕ × Known)) → eqb v u ≡ true → known u xs ≡ None → known u (xs ++ (v, k) ∷ []) ≡ Some k
known_now u v k [] e n = ap (λ b. cond b (Some k) None) (to_eqb u v ∙ e)
known_now u v k (x ∷ xs) e n = by_test (nat_eq u x.0) n (known_now u v k xs e)
  where
    by_test : (b : Bool) → cond b (Some x.1) (known u xs) ≡ None → (known u xs ≡ None → known u (xs ++ (v, k) ∷ []) ≡ Some k)
        → cond b (Some x.1) (known u (xs ++ (v, k) ∷ [])) ≡ Some k
    by_test true h g = cc
    by_test false h g = g h

known_names : (order : Order) (octets : List ℕ) (seen : List EntryAt) (names names' : Names) (v : ℕ) → numbered names.numbers v ≡ numbered names'.numbers v
    → (o : Option Known) → IsKnownAs order octets seen names v o → IsKnownAs order octets seen names' v o
known_names order octets seen names names' v e None k = (sym e ∙ k.0, k.1)
known_names order octets seen names names' v e (Some o) k = (sym e ∙ k.0, k.1)

one_more : (names : Names) (to : ℕ) → map (λ c. c.of) (names.cells ++ record { of = to; val = unread } ∷ []) ≡ map (λ c. c.of) names.cells ++ to ∷ []
one_more names to = map-append (λ c. c.of) names.cells (record { of = to; val = unread } ∷ [])

or_same : (a : Bool) → (a || a) ≡ a
or_same true = refl
or_same false = refl

-- an entry more of which this is known
others_more : (order : Order) (octets : List ℕ) (seen : List EntryAt) (x : EntryAt) (v to : ℕ) (b : Bool)
    → other_pointee x.entry.kind to && eqb (unsigned order (piece octets x.at x.entry.kind)) v ≡ b → is_other order octets (seen ++ x ∷ []) v to ≡ (is_other order octets seen v to || b)
others_more order octets [] x v to true e = ap (λ c. c || false) e
others_more order octets [] x v to false e = ap (λ c. c || false) e
others_more order octets (y ∷ ys) x v to b e =
    ap (λ c. other_pointee y.entry.kind to && eqb (unsigned order (piece octets y.at y.entry.kind)) v || c) (others_more order octets ys x v to b e)
    ∙ or_assoc (other_pointee y.entry.kind to && eqb (unsigned order (piece octets y.at y.entry.kind)) v) (is_other order octets ys v to) b
  where
    or_assoc : (a b c : Bool) → (a || (b || c)) ≡ ((a || b) || c)
    or_assoc true b c = refl
    or_assoc false b c = refl

module _ (order : Order) (octets : List ℕ) (table : Table) (h : Home) (k m : ℕ) (fs : List Around) (n at : ℕ) (seen : List EntryAt) (names : Names) (target : Read) where
  -- the number of a pointer
  pub pointer_next : (class : Class) (to : ℕ) → finish order octets table h m k fs (pointer_after order octets table h class to n (going at seen) names) ≡ target
      → Stops order octets seen at target (record { home = h; node = n; kind = Number class to None })
  pointer_next Ref to rest = λ why r.
      let os : Option (List ℕ) = taken order octets (record { home = h; node = n; kind = Number Ref to None }) (going at seen) in
      stop_by order octets table h k m fs (pointer_after order octets table h Ref to n (going at seen) names) target at seen why
      (stops_at order octets (record { home = h; node = n; kind = Number Ref to (named Ref to os (number_in order octets os) names).cell }) at seen why r) rest
  pointer_next Unique to rest = λ why r.
      let os : Option (List ℕ) = taken order octets (record { home = h; node = n; kind = Number Unique to None }) (going at seen) in
      stop_by order octets table h k m fs (pointer_after order octets table h Unique to n (going at seen) names) target at seen why
      (stops_at order octets (record { home = h; node = n; kind = Number Unique to (named Unique to os (number_in order octets os) names).cell }) at seen why r) rest
  pointer_next Full to rest = λ why r.
      let os : Option (List ℕ) = taken order octets (record { home = h; node = n; kind = Number Full to None }) (going at seen) in
      stop_by order octets table h k m fs (pointer_after order octets table h Full to n (going at seen) names) target at seen why
      (stops_at order octets (record { home = h; node = n; kind = Number Full to (named Full to os (number_in order octets os) names).cell }) at seen why r) rest

module _ (order : Order) (fetched os : List ℕ) (code : List Instr) (values : List EnumList) (table : Table) (h : Home) (own limit : ℕ) (noted : List Item) (direct : ℕ) (target : List ℕ → Read)
    (s : State) (depth : ℕ) (fs : List Around) (seen : List EntryAt) (names : Names) (t : ℕ) (to : TypeId) (w : Within code table h own limit seen depth fs t (parts_of s))
    (told : Told noted direct order fetched h seen names s.cells s.numbers s.max_at (length s.nodes) []) (reached : length fetched ≡ s.at) (size : length os ≡ 4)
    (short : s.at + 4 ≤ STREAM_LIMIT) where
  abbrev n : ℕ
  n = length (nodes_around fs)

  abbrev v : ℕ
  v = unsigned order os

  abbrev entry_of : Class → Option ℕ → Entry
  entry_of class c = record { home = h; node = n; kind = Number class to.0 c }

  abbrev at_it : Class → Option ℕ → EntryAt
  at_it class c = record { at = s.at; entry = entry_of class c }

  abbrev owed_now : Class → Option ℕ → List Owed
  owed_now class c = s.fresh ++ record { class = class; to = to.0; run = whole_at table to.0; cell = c; agreements = [] } ∷ []

  -- the item of the number
  abbrev news : List Item
  news = count_items order h os item.Number s

  noted_with : (class : Class) (c : Option ℕ) → items order (fetched ++ os) (seen ++ at_it class c ∷ []) ≡ noted ++ news
  noted_with class c = noted_joined order fetched os seen (at_it class c) noted news told.lie_within
      (items_it order fetched os [] s.at reached (entry_of class c) seen (sym size) ∙ ap (λ j. item_here h s.at item.Number 4 (pos v) j ∷ []) (sym (ap length w.nodes))) told.noted_are

  as_many : length s.cells ≡ length names.cells
  as_many = ap length told.cells_are ∙ length-map names.cells (λ c. c.of)

  -- a pointer whose number was read and names this cell, or none
  leaf : (class : Class) → type_at table t ≡ Some (def.Pointer class to) → IsRunAt code s.pc (op.Pointer class to (whole_at table to.0) ∷ op.Ret ∷ [])
      → ((later : List ℕ)
      → finish order ((fetched ++ os) ++ later) table h s.max depth fs (pointer_after order ((fetched ++ os) ++ later) table h class to.0 n (going s.at seen) names)
      ≡ target ((fetched ++ os) ++ later))
      → (c : Option ℕ) (names' : Names) (cells : List ℕ) (numbers : List (ℕ × Known))
      → ((later : List ℕ) (d : Option ℕ) → refusal order ((fetched ++ os) ++ later) seen (at_it class d) ≡ None)
      → named class to.0 (Some os) v names ≡ record { cell = c; names = names' }
      → Told (noted ++ news) direct order (fetched ++ os) h (seen ++ at_it class c ∷ []) names' cells numbers s.max_at (length s.nodes) []
      → Good order (fetched ++ os) code table h own limit (noted ++ news) direct target
      (after_leaf (parts_of s) (s.pc + 1) (s.at + 4) s.max s.tag s.carrier (owed_now class c) cells numbers (tree.Ptr c, 0) None)
  leaf class et run rest c names' cells numbers judge it told' =
      leaf_good order (fetched ++ os) code table h own limit (noted ++ news) direct target (parts_of s) (s.pc + 1) (s.at + 4) s.max s.tag s.carrier (owed_now class c) cells numbers
      (tree.Ptr c) None [] (seen ++ at_it class c ∷ []) names' depth fs t
      (within_passed code table h own limit seen depth fs t (parts_of s) (at_it class c) (λ a j l. silent a h j (at_it class c) tt) w)
      (none_found order (fetched ++ os) h (seen ++ at_it class c ∷ []) names' cells numbers s.max_at (length s.nodes) [] told')
      told'
      (let l : length (fetched ++ os) ≡ length fetched + length os = length-append fetched os in omega (arith, l, reached, size))
      (at_ret (next_at code s.pc (op.Pointer class to (whole_at table to.0)) (op.Ret ∷ []) run))
      (subst (λ d. FitsPointer d true) (sym et) tt)
      (ap (λ xs. xs ++ record { class = class; to = to.0; run = whole_at table to.0; cell = c; agreements = [] } ∷ []) w.pending
      ∙ sym (map-append (owed table) (pointers_around table h fs) (record { home = h; node = n; class = class; to = to.0; cell = c; agreements = [] } ∷ []))
      ∙ ap (λ ps. map (owed table) (pointers_around table h fs ++ ps)) (sym (of_pointer table h t n class to c et)))
      (λ later.
      let octets : List ℕ = (fetched ++ os) ++ later in
      let read : Named → Progress → Read = λ j q. record { tree = node (tree.Ptr j.cell) none; progress = q; names = j.names } in
      let it_of : Option (List ℕ) → Named = λ o. named class to.0 o (number_in order octets o) names in
      ap (finish order octets table h s.max depth fs)
      (sym (ap (λ o. read (it_of o) (pass order octets (entry_of class (it_of o).cell) (going s.at seen)))
      (taken_it order fetched os later s.at reached (entry_of class None) seen (sym size) (judge later None))
      ∙ ap (λ j. read j (pass order octets (entry_of class j.cell) (going s.at seen))) it
      ∙ ap (λ q. record { tree = node (tree.Ptr c) none; progress = q; names = names' }) (passed order octets (entry_of class c) s.at seen (judge later c))))
      ∙ rest later)

  -- the octets of the entry are those of the step
  own_piece : (class : Class) (c : Option ℕ) → piece (fetched ++ os) s.at (Number class to.0 c) ≡ os
  own_piece class c =
      ap₂ (λ xs j. piece xs j (Number class to.0 c)) (sym (append-nil (fetched ++ os))) (sym reached)
      ∙ piece_fetched order fetched os [] (entry_of class c) (sym size)

  abbrev Right : Outcome → Type 0
  Right o = IsRight order (fetched ++ os) code table h own limit (noted ++ news) direct target s.at seen o

  told_silent : (class : Class) (c : Option ℕ) → ((u to' : ℕ) → 0 < u → other_pointee (Number class to.0 c) to' && eqb v u ≡ false) → (names' : Names) (cells : List ℕ)
      → names.numbers ≡ names'.numbers → cells ≡ map (λ r. r.of) names'.cells → HasCells (seen ++ at_it class c ∷ []) s.numbers (length cells) direct
      → Told (noted ++ news) direct order (fetched ++ os) h (seen ++ at_it class c ∷ []) names' cells s.numbers s.max_at (length s.nodes) []
  told_silent class c f names' cells e ec counted = record {
    noted_are = noted_with class c;
    cells_are = ec;
    cells_named = counted;
    numbers_are = λ u p. known_names order (fetched ++ os) (seen ++ at_it class c ∷ []) names names' u (ap (λ xs. numbered xs u) e) (known u s.numbers)
        (known_joined order fetched os seen names (at_it class c) told.lie_within u
        (λ to'. ap (λ xs. other_pointee (Number class to.0 c) to' && eqb (unsigned order xs) u) (own_piece class c) ∙ f u to' p) (known u s.numbers) (told.numbers_are u p));
    ahead = λ a j. tested_passed seen (at_it class c) a h (length s.nodes + j) (silent a h (length s.nodes + j) (at_it class c) tt) ∙ told.ahead a j;
    lie_within = lie_joined (fetched ++ os) seen (at_it class c) (lie_longer fetched os seen told.lie_within) (lies_it order fetched os [] s.at reached (entry_of class c) seen (sym size));
  }

  one_cell_more : length (s.cells ++ to.0 ∷ []) ≡ length s.cells + 1
  one_cell_more = length-append s.cells (to.0 ∷ [])

  more_cells : s.cells ++ to.0 ∷ [] ≡ map (λ r. r.of) (with_cell to.0 names).cells
  more_cells = ap (λ xs. xs ++ to.0 ∷ []) told.cells_are ∙ sym (one_more names to.0)

  -- a pointer to a new cell, which has no number that is known
  told_new : (class : Class) → ((u to' : ℕ) → 0 < u → other_pointee (Number class to.0 (Some (length s.cells + 1))) to' && eqb v u ≡ false)
      → Told (noted ++ news) direct order (fetched ++ os) h (seen ++ at_it class (Some (length s.cells + 1)) ∷ []) (with_cell to.0 names) (s.cells ++ to.0 ∷ []) s.numbers s.max_at (length s.nodes) []
  told_new class f =
      told_silent class (Some (length s.cells + 1)) f (with_cell to.0 names) (s.cells ++ to.0 ∷ []) refl more_cells
      (next_named seen s.numbers (length s.cells) direct told.cells_named (at_it class (Some (length s.cells + 1))) (length (s.cells ++ to.0 ∷ [])) one_cell_more refl)

  pub ref_right : type_at table t ≡ Some (def.Pointer Ref to) → IsRunAt code s.pc (op.Pointer Ref to (whole_at table to.0) ∷ op.Ret ∷ [])
      → ((later : List ℕ) → finish order (fetched ++ later) table h s.max depth fs (pointer_after order (fetched ++ later) table h Ref to.0 n (going s.at seen) names) ≡ target (fetched ++ later))
      → Right (pointer_step Ref to (whole_at table to.0) v s)
  ref_right et run rest =
      leaf Ref et run (onward fetched os (λ o. finish order o table h s.max depth fs (pointer_after order o table h Ref to.0 n (going s.at seen) names) ≡ target o) rest)
      (Some (length s.cells + 1)) (with_cell to.0 names) (s.cells ++ to.0 ∷ []) s.numbers
      (λ later d. judged order fetched os later s.at reached (entry_of Ref d) seen (sym size) (no_less STREAM_LIMIT (s.at + 4) short))
      (ap (λ j. record { cell = Some (j + 1); names = with_cell to.0 names }) (sym as_many))
      (told_new Ref (λ u to' p. refl))

  pub unique_right : type_at table t ≡ Some (def.Pointer Unique to) → IsRunAt code s.pc (op.Pointer Unique to (whole_at table to.0) ∷ op.Ret ∷ [])
      → ((later : List ℕ) → finish order (fetched ++ later) table h s.max depth fs (pointer_after order (fetched ++ later) table h Unique to.0 n (going s.at seen) names) ≡ target (fetched ++ later))
      → Right (pointer_step Unique to (whole_at table to.0) v s)
  unique_right et run rest = by_null (eqb v 0) refl
    where
      judge : (later : List ℕ) (d : Option ℕ) → refusal order ((fetched ++ os) ++ later) seen (at_it Unique d) ≡ None
      judge later d = judged order fetched os later s.at reached (entry_of Unique d) seen (sym size) (no_less STREAM_LIMIT (s.at + 4) short)

      on_it : (later : List ℕ)
          → finish order ((fetched ++ os) ++ later) table h s.max depth fs (pointer_after order ((fetched ++ os) ++ later) table h Unique to.0 n (going s.at seen) names)
          ≡ target ((fetched ++ os) ++ later)
      on_it = onward fetched os (λ o. finish order o table h s.max depth fs (pointer_after order o table h Unique to.0 n (going s.at seen) names) ≡ target o) rest

      it : (b : Bool) → eqb v 0 ≡ b → named Unique to.0 (Some os) v names ≡ cond b (record { cell = None; names = names }) (record { cell = Some (fresh to.0 names); names = with_cell to.0 names })
      it b e = ap (λ c. cond c (record { cell = None; names = names }) (record { cell = Some (fresh to.0 names); names = with_cell to.0 names })) e

      by_null : (b : Bool) → eqb v 0 ≡ b → Right (goes (done_after 4 (if b then owing Unique to (whole_at table to.0) None s else new_cell Unique to (whole_at table to.0) s)))
      by_null true e =
          leaf Unique et run on_it None names s.cells s.numbers judge (it true e)
          (told_silent Unique None (λ u to' p. refl) names s.cells refl told.cells_are (none_named seen s.numbers (length s.cells) direct told.cells_named (at_it Unique None) refl))
      by_null false e =
          leaf Unique et run on_it (Some (length s.cells + 1)) (with_cell to.0 names) (s.cells ++ to.0 ∷ []) s.numbers judge
          (it false e ∙ ap (λ j. record { cell = Some (j + 1); names = with_cell to.0 names }) (sym as_many))
          (told_new Unique (λ u to' p. refl))

  pub full_right : type_at table t ≡ Some (def.Pointer Full to) → IsRunAt code s.pc (op.Pointer Full to (whole_at table to.0) ∷ op.Ret ∷ [])
      → ((later : List ℕ) → finish order (fetched ++ later) table h s.max depth fs (pointer_after order (fetched ++ later) table h Full to.0 n (going s.at seen) names) ≡ target (fetched ++ later))
      → Right (pointer_step Full to (whole_at table to.0) v s)
  full_right et run rest = by_null (eqb v 0) refl
    where
      on_it : (later : List ℕ)
          → finish order ((fetched ++ os) ++ later) table h s.max depth fs (pointer_after order ((fetched ++ os) ++ later) table h Full to.0 n (going s.at seen) names)
          ≡ target ((fetched ++ os) ++ later)
      on_it = onward fetched os (λ o. finish order o table h s.max depth fs (pointer_after order o table h Full to.0 n (going s.at seen) names) ≡ target o) rest

      -- whether the number is that of another type is settled by what was fetched before
      others : (later : List ℕ) (to' : ℕ) → is_other order ((fetched ++ os) ++ later) seen v to' ≡ is_other order fetched seen v to'
      others later to' = ap (λ xs. is_other order xs seen v to') (append_assoc fetched os later) ∙ others_stay order fetched (os ++ later) seen told.lie_within v to'

      judge : (b c : Bool) → eqb v 0 ≡ b → is_other order fetched seen v to.0 ≡ c → (later : List ℕ) (d : Option ℕ)
          → refusal order ((fetched ++ os) ++ later) seen (at_it Full d) ≡ refused_if (not b && c) (s.at, reason.OtherType) None
      judge b c e g later d =
          judged order fetched os later s.at reached (entry_of Full d) seen (sym size) (no_less STREAM_LIMIT (s.at + 4) short)
          ∙ ap₂ (λ x y. refused_if (not x && y) (s.at, reason.OtherType) None) e (others later to.0 ∙ g)

      it : (b : Bool) (o : Option ℕ) → eqb v 0 ≡ b → numbered names.numbers v ≡ o → named Full to.0 (Some os) v names ≡ cond b (record { cell = None; names = names }) (names_full o v to.0 names)
      it b o e g = ap₂ (λ c d. cond c (record { cell = None; names = names }) (names_full d v to.0 names)) e g

      -- the entry says of its own number that it is not of any other type
      own_says : (c : Option ℕ) (u to' : ℕ) (b : Bool) → eqb v u ≡ b
          → other_pointee (at_it Full c).entry.kind to' && eqb (unsigned order (piece (fetched ++ os) s.at (at_it Full c).entry.kind)) u ≡ (not (eqb to.0 to') && b)
      own_says c u to' b e = ap₂ (λ xs d. not (eqb to.0 to') && d) (own_piece Full c) (ap (λ xs. eqb (unsigned order xs) u) (own_piece Full c) ∙ e)

      and_false : (a : Bool) → (a && false) ≡ false
      and_false true = refl
      and_false false = refl

      and_true : (a : Bool) → (a && true) ≡ a
      and_true true = refl
      and_true false = refl

      before : (u to' : ℕ) → is_other order (fetched ++ os) seen u to' ≡ is_other order fetched seen u to'
      before u to' = others_stay order fetched os seen told.lie_within u to'

      -- another number is known as before
      other_number : (c : Option ℕ) (u : ℕ) → 0 < u → eqb v u ≡ false → IsKnownAs order (fetched ++ os) (seen ++ at_it Full c ∷ []) names u (known u s.numbers)
      other_number c u p e =
          known_joined order fetched os seen names (at_it Full c) told.lie_within u (λ to'. own_says c u to' false e ∙ and_false (not (eqb to.0 to'))) (known u s.numbers) (told.numbers_are u p)

      -- a number that was met before, of this type
      met : (k : Known) → known v s.numbers ≡ Some k → eqb v 0 ≡ false → eqb k.of.0 to.0 ≡ true → (u : ℕ) → 0 < u → (b : Bool) → eqb v u ≡ b
          → IsKnownAs order (fetched ++ os) (seen ++ at_it Full (Some k.cell.0) ∷ []) names u (known u s.numbers)
      met k ek e et' u p false f = other_number (Some k.cell.0) u p f
      met k ek e et' u p true f =
          let same : v ≡ u = eqb_is v u f in
          let type_is : k.of.0 ≡ to.0 = eqb_is k.of.0 to.0 et' in
          let was : IsKnownAs order fetched seen names v (Some k) = subst (IsKnownAs order fetched seen names v) ek (told.numbers_are v (not_null v e)) in
          subst (λ y. IsKnownAs order (fetched ++ os) (seen ++ at_it Full (Some k.cell.0) ∷ []) names y (known y s.numbers)) same
          (subst (IsKnownAs order (fetched ++ os) (seen ++ at_it Full (Some k.cell.0) ∷ []) names v) (sym ek) (
            was.0,
            λ to'.
                others_more order (fetched ++ os) seen (at_it Full (Some k.cell.0)) v to' (not (eqb to.0 to')) (own_says (Some k.cell.0) v to' true (same_number v) ∙ and_true (not (eqb to.0 to')))
                ∙ ap₂ (λ x y. x || not y) (before v to' ∙ was.1 to') (ap (λ y. eqb y to') (sym type_is))
                ∙ or_same (not (eqb k.of.0 to')),
          ))
        where
          eqb_is : (a b : ℕ) → eqb a b ≡ true → a ≡ b
          eqb_is a b g = eqb-true a b g

          same_number : (a : ℕ) → eqb a a ≡ true
          same_number a = same_eqb a a refl

      -- a number that is met for the first time
      first_time : (c : ℕ) → known v s.numbers ≡ None → eqb v 0 ≡ false → (u : ℕ) → 0 < u → (b : Bool) → eqb v u ≡ b
          → IsKnownAs order (fetched ++ os) (seen ++ at_it Full (Some c) ∷ []) (record { cells = (with_cell to.0 names).cells; numbers = (v, c) ∷ names.numbers }) u
          (known u (s.numbers ++ (v, first_met to (record { 0 = c })) ∷ []))
      first_time c ek e u p false f =
          let names' : Names = record { cells = (with_cell to.0 names).cells; numbers = (v, c) ∷ names.numbers } in
          let sees : numbered names.numbers u ≡ numbered names'.numbers u = ap (λ b. cond b (Some c) (numbered names.numbers u)) (sym f) in
          subst (IsKnownAs order (fetched ++ os) (seen ++ at_it Full (Some c) ∷ []) names' u) (sym (known_other u v (first_met to (record { 0 = c })) s.numbers f))
          (known_names order (fetched ++ os) (seen ++ at_it Full (Some c) ∷ []) names names' u sees (known u s.numbers) (other_number (Some c) u p f))
      first_time c ek e u p true f =
          let same : v ≡ u = eqb-true v u f in
          let was : IsKnownAs order fetched seen names v None = subst (IsKnownAs order fetched seen names v) ek (told.numbers_are v (not_null v e)) in
          let itself : eqb v v ≡ true = same_eqb v v refl in
          let names' : Names = record { cells = (with_cell to.0 names).cells; numbers = (v, c) ∷ names.numbers } in
          subst (λ y. IsKnownAs order (fetched ++ os) (seen ++ at_it Full (Some c) ∷ []) names' y (known y (s.numbers ++ (v, first_met to (record { 0 = c })) ∷ []))) same
          (subst (IsKnownAs order (fetched ++ os) (seen ++ at_it Full (Some c) ∷ []) names' v) (sym (known_now v v (first_met to (record { 0 = c })) s.numbers itself ek)) (
            ap (λ b. cond b (Some c) (numbered names.numbers v)) itself,
            λ to'.
                others_more order (fetched ++ os) seen (at_it Full (Some c)) v to' (not (eqb to.0 to')) (own_says (Some c) v to' true itself ∙ and_true (not (eqb to.0 to')))
                ∙ ap (λ x. x || not (eqb to.0 to')) (before v to' ∙ was.1 to'),
          ))

      -- the state's account with this entry
      told_with : (c : Option ℕ) (names' : Names) (cells : List ℕ) (numbers : List (ℕ × Known)) → cells ≡ map (λ r. r.of) names'.cells
          → HasCells (seen ++ at_it Full c ∷ []) numbers (length cells) direct
          → ((u : ℕ) → 0 < u → IsKnownAs order (fetched ++ os) (seen ++ at_it Full c ∷ []) names' u (known u numbers))
          → Told (noted ++ news) direct order (fetched ++ os) h (seen ++ at_it Full c ∷ []) names' cells numbers s.max_at (length s.nodes) []
      told_with c names' cells numbers ec counted ks = record {
        noted_are = noted_with Full c;
        cells_are = ec;
        cells_named = counted;
        numbers_are = ks;
        ahead = λ a j. tested_passed seen (at_it Full c) a h (length s.nodes + j) (silent a h (length s.nodes + j) (at_it Full c) tt) ∙ told.ahead a j;
        lie_within = lie_joined (fetched ++ os) seen (at_it Full c) (lie_longer fetched os seen told.lie_within) (lies_it order fetched os [] s.at reached (entry_of Full c) seen (sym size));
      }

      by_type : (k : Known) → known v s.numbers ≡ Some k → eqb v 0 ≡ false → (b : Bool) → eqb k.of.0 to.0 ≡ b
          → Right (if b then goes (done_after 4 (owing Full to (whole_at table to.0) (Some k.cell.0) s)) else refused s.at reason.OtherType)
      by_type k ek e true f =
          let was : IsKnownAs order fetched seen names v (Some k) = subst (IsKnownAs order fetched seen names v) ek (told.numbers_are v (not_null v e)) in
          let same_type : is_other order fetched seen v to.0 ≡ false = was.1 to.0 ∙ ap not f in
          leaf Full et run on_it (Some k.cell.0) names s.cells s.numbers (judge false false e same_type) (it false (Some k.cell.0) e was.0)
          (told_with (Some k.cell.0) names s.cells s.numbers told.cells_are (known_named seen s.numbers (length s.cells) direct told.cells_named (at_it Full (Some k.cell.0)) v k ek refl)
          (λ u p. met k ek e f u p (eqb v u) refl))
      by_type k ek e false f = λ later.
          let was : IsKnownAs order fetched seen names v (Some k) = subst (IsKnownAs order fetched seen names v) ek (told.numbers_are v (not_null v e)) in
          let other_type : is_other order fetched seen v to.0 ≡ true = was.1 to.0 ∙ ap not f in
          (pointer_next order ((fetched ++ os) ++ later) table h depth s.max fs n s.at seen names (target ((fetched ++ os) ++ later)) Full to.0 (on_it later)) (s.at, reason.OtherType)
          (judge false true e other_type later None)

      by_known : (o : Option Known) → known v s.numbers ≡ o → eqb v 0 ≡ false → Right (full_by o v to (whole_at table to.0) s)
      by_known (Some k) ek e = by_type k ek e (eqb k.of.0 to.0) refl
      by_known None ek e =
          let was : IsKnownAs order fetched seen names v None = subst (IsKnownAs order fetched seen names v) ek (told.numbers_are v (not_null v e)) in
          let c : ℕ = length s.cells + 1 in
          let names' : Names = record { cells = (with_cell to.0 names).cells; numbers = (v, c) ∷ names.numbers } in
          leaf Full et run on_it (Some c) names' (s.cells ++ to.0 ∷ []) (s.numbers ++ (v, first_met to (record { 0 = c })) ∷ []) (judge false false e (was.1 to.0))
          (it false None e was.0 ∙ ap (λ j. record { cell = Some (j + 1); names = record { cells = (with_cell to.0 names).cells; numbers = (v, j + 1) ∷ names.numbers } }) (sym as_many))
          (told_with (Some c) names' (s.cells ++ to.0 ∷ []) (s.numbers ++ (v, first_met to (record { 0 = c })) ∷ []) (ap (λ xs. xs ++ to.0 ∷ []) told.cells_are ∙ sym (one_more names to.0))
          (first_named seen s.numbers (length s.cells) direct told.cells_named (at_it Full (Some c)) (length (s.cells ++ to.0 ∷ [])) one_cell_more refl v (first_met to (record { 0 = c })) refl)
          (λ u p. first_time c ek e u p (eqb v u) refl))

      by_null : (b : Bool) → eqb v 0 ≡ b → Right (if b then goes (done_after 4 (owing Full to (whole_at table to.0) None s)) else full_by (known v s.numbers) v to (whole_at table to.0) s)
      by_null false e = by_known (known v s.numbers) refl e
      by_null true e =
          leaf Full et run on_it None names s.cells s.numbers (judge true (is_other order fetched seen v to.0) e refl) (it true (numbered names.numbers v) e refl)
          (told_with None names s.cells s.numbers told.cells_are (none_named seen s.numbers (length s.cells) direct told.cells_named (at_it Full None) refl)
          (λ u p. other_number None u p (not_zero v u e p)))
