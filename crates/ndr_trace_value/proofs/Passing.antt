-- One item more has its line, and the next entry is due.
-- `k` are the octets with the partial graph in which they are refused, `p` and `p1` how far a walk came, `m` is an entry, `i` an item, `z` its kind and value.
use Rattle.std.proofs.Common.{◌≡◌, ◌⊎◌, inl, inr, ◌∙◌, ℕ, ◌+◌, ◌-◌, ◌^◌, ◌<◌, ◌≤◌, ℤ, Bool, true, false, List, [], ◌∷◌, ◌++◌, drop, length, take, Some, None, refl, sym, ap, subst, append-nil, arith}
use Rattle.std.specs.Prelude.{IsErrAnd, Err, Option, Result, eqb, ltb, option_map}
use Rattle.std.specs.List.{slice_get}
use Rattle.std.proofs.lemmas.Grind.{flat_map-append}
use Rattle.std.proofs.lemmas.List.{take-append-drop}
use Rattle.std.proofs.lemmas.Bool.{eqb-false, eqb-true, le-ltb, lt-ltb, ltb-false, ltb-true}
use Rattle.std.proofs.lemmas.Option.{same_Some, slice_get_within}
use Rattle.nd_lemmas.proofs.Lists.{drop_next, drop_past, take_next}
use Rattle.nd_value.specs.declared.item.Item.{Item}
use Rattle.nd_value.specs.declared.item.ItemKind.{ItemKind}
use Rattle.nd_grammar.specs.Entry.{Align, Entry, EntryAt, Kind, end_to_end, gap, size_at}
use Rattle.nd_grammar.specs.Stream.{IsRendered}
use Rattle.ndr_explain.specs.Explained.{explanation_over, line_over}
use Rattle.ndr_trace_value.specs.Due.{CanStop, Stops, Took, its_item}
use Rattle.ndr_trace_value.specs.Untested.{is_test}
use Rattle.ndr_trace_value.proofs.Gaps.{empty_gap}
use Rattle.ndr_trace_value.proofs.Steps.{ended, skipped, took}
use Rattle.ndr_trace_value.specs.declared.progress.Halt.{Halt}
use Rattle.ndr_trace_value.specs.declared.progress.Halt.TheVariants as halts
use Rattle.ndr_trace_value.specs.declared.pointers.PointerSpot.{PointerSpot}
use Rattle.ndr_trace_value.specs.declared.progress.Progress.{Progress}
use Rattle.ndr_trace_value.specs.declared.search.Sought.{Sought}
use Rattle.ndr_trace_value.specs.Tracing.{IsEnded, IsFrom, IsTracing, KeptFrom, Known, either_from, either_path, is_sought, kept, kept_by, kept_variable}
use Rattle.ndr_trace_value.specs.Traces.{entry_path}

module _ (k : Known) where
  abbrev shown : List Item → List ℕ
  shown xs = explanation_over k.setting k.graph k.fetched xs

  abbrev pub placed : Progress → Entry → EntryAt
  placed p m = record { at = p.at; entry = m }

  -- the lines with that of one item more, and all of them
  more_lines : (n : ℕ) (i : Item) (t t1 : List ℕ) → slice_get k.log n ≡ Some i → t ≡ shown (take n k.log) → t1 ≡ t ++ line_over k.setting k.graph k.fetched i
      → t1 ≡ shown (take (n + 1) k.log)
  more_lines n i t t1 got e f =
      let line = line_over k.setting k.graph k.fetched i in
      f ∙ ap (λ u. u ++ line) e ∙ ap (λ u. shown (take n k.log) ++ u) (sym (append-nil line))
      ∙ sym (flat_map-append (line_over k.setting k.graph k.fetched) (take n k.log) (i ∷ [])) ∙ sym (ap shown (take_next k.log n i got))

  pub all_lines : (n : ℕ) (t : List ℕ) → length k.log ≤ n → t ≡ shown (take n k.log) → t ≡ shown k.log
  all_lines n t over e =
      let whole : take n k.log ≡ k.log =
      sym (append-nil (take n k.log)) ∙ ap (λ u. take n k.log ++ u) (sym (drop_past k.log n over)) ∙ take-append-drop n k.log in
      e ∙ ap shown whole

  -- ## What is kept of the item that is sought

  same_test : (j n : ℕ) → (j ≡ n → ⊥) → ltb j n ≡ ltb j (n + 1)
  same_test j n other = by (ltb j n) refl
    where
      by : (b : Bool) → ltb j n ≡ b → ltb j n ≡ ltb j (n + 1)
      by true e = let l = ltb-true j n e in e ∙ sym (lt-ltb j (n + 1) (omega (arith, l)))
      by false e = let l = ltb-false j n e in e ∙ sym (le-ltb j (n + 1) (above (ltb n j) refl l))
        where
          above : (b : Bool) → ltb n j ≡ b → n ≤ j → n + 1 ≤ j
          above true f l = let m = ltb-true n j f in omega (arith, m)
          above false f l =
              let m = ltb-false n j f in
              let same : j ≡ n = omega (arith, l, m) in
              absurd (other same)

  module _ (its : Option Item → List ℕ) where
    -- at the beginning none was passed
    pub not_held : (n : ℕ) → n ≡ 0 → kept_by its k.log k.sought n ≡ []
    not_held n e = by k.sought
      where
        by : (o : Option ℕ) → kept_by its k.log o n ≡ []
        by None = refl
        by (Some j) = ap (λ b. elim b [ true ↦ its (slice_get k.log j) | false ↦ [] ]) (le-ltb j n (omega (arith, e)))

    -- another item is passed
    pub held_on : (n : ℕ) → (k.sought ≡ Some n → ⊥) → kept_by its k.log k.sought n ≡ kept_by its k.log k.sought (n + 1)
    held_on n other = by k.sought other
      where
        by : (o : Option ℕ) → (o ≡ Some n → ⊥) → kept_by its k.log o n ≡ kept_by its k.log o (n + 1)
        by None f = refl
        by (Some j) f = ap (λ b. elim b [ true ↦ its (slice_get k.log j) | false ↦ [] ]) (same_test j n (λ e. f (ap Some e)))

    -- an item is passed, and what is to be kept of it is, if it is the one that is sought
    pub held_next : (n : ℕ) (i : Item) → slice_get k.log n ≡ Some i → (o : Option Sought) → option_map (λ (s : Sought). s.item) o ≡ k.sought → (old new text : List ℕ)
        → old ≡ kept_by its k.log k.sought n → (old ≡ [] → text ≡ its (Some i)) → new ≡ either_path (is_sought o n) text old
        → new ≡ kept_by its k.log k.sought (n + 1)
    held_next n i got None is old new text was shown now =
        now ∙ was ∙ held_on n (λ e. (let z : None ≡ Some n = is ∙ e in cc))
    held_next n i got (Some s) is old new text was shown now = by (eqb s.item n) refl
      where
        by : (b : Bool) → eqb s.item n ≡ b → new ≡ kept_by its k.log k.sought (n + 1)
        by false e =
            let differs = eqb-false s.item n e in
            now ∙ ap (λ b. either_path b text old) e ∙ was ∙ held_on n (λ f. differs (same_Some _ _ (is ∙ f)))
        by true e =
            let same : s.item ≡ n = eqb-true s.item n e in
            let mine : k.sought ≡ Some n = sym is ∙ ap Some same in
            let before : kept_by its k.log k.sought n ≡ [] =
            ap (λ o. kept_by its k.log o n) mine ∙ ap (λ b. elim b [ true ↦ its (slice_get k.log n) | false ↦ [] ]) (le-ltb n n (omega arith)) in
            let after : kept_by its k.log k.sought (n + 1) ≡ its (Some i) =
            ap (λ o. kept_by its k.log o (n + 1)) mine ∙ ap (λ b. elim b [ true ↦ its (slice_get k.log n) | false ↦ [] ]) (lt-ltb n (n + 1) (omega arith)) ∙ ap its got in
            now ∙ ap (λ b. either_path b text old) e ∙ shown (was ∙ before) ∙ sym after

  -- all items were passed
  pub kept_all : (p : Progress) (ms : List Entry) → IsTracing k p ms → length k.log ≤ p.next → p.path ≡ kept k (length k.log)
  kept_all p ms t over =
      let within = t.within in
      let same : p.next ≡ length k.log = omega (arith, within, over) in
      t.path ∙ ap (kept k) same

  pub variable_all : (p : Progress) (ms : List Entry) → IsTracing k p ms → length k.log ≤ p.next → p.variable ≡ kept_variable k (length k.log)
  variable_all p ms t over =
      let within = t.within in
      let same : p.next ≡ length k.log = omega (arith, within, over) in
      t.variable ∙ ap (kept_variable k) same

  -- ## Where the pointer is that names the home of what is sought

  below_of : (j n : ℕ) → j < n + 1 → (j ≡ n → ⊥) → j < n
  below_of j n low other = by (ltb j n) refl
    where
      by : (b : Bool) → ltb j n ≡ b → j < n
      by true e = ltb-true j n e
      by false e =
          let l = ltb-false j n e in
          let same : j ≡ n = omega (arith, l, low) in
          absurd (other same)

  -- another item is passed
  pub from_on : (n : ℕ) (at : Option PointerSpot) → (k.sought ≡ Some n → ⊥) → KeptFrom k n at → KeptFrom k (n + 1) at
  from_on n at other was j i mine there low = was j i mine there (below_of j n low (λ e. other (mine ∙ ap Some e)))

  -- an item of a home is passed
  pub from_next : (n : ℕ) (i : Item) → slice_get k.log n ≡ Some i → (o : Option Sought) → option_map (λ (s : Sought). s.item) o ≡ k.sought → (old new its : Option PointerSpot)
      → KeptFrom k n old → IsFrom k i.home its → new ≡ either_from (is_sought o n) its old → KeptFrom k (n + 1) new
  from_next n i got None is old new its was here now j x mine there low = let z : None ≡ Some j = is ∙ mine in cc
  from_next n i got (Some s) is old new its was here now j x mine there low = by (eqb s.item n) refl
    where
      item : s.item ≡ j
      item = same_Some _ _ (is ∙ mine)

      by : (b : Bool) → eqb s.item n ≡ b → IsFrom k x.home new
      by false e =
          let differs = eqb-false s.item n e in
          subst (IsFrom k x.home) (sym (now ∙ ap (λ b. either_from b its old) e)) (was j x mine there (below_of j n low (λ f. differs (item ∙ f))))
      by true e =
          let same : n ≡ j = sym (eqb-true s.item n e) ∙ item in
          let one : i ≡ x = same_Some _ _ (sym got ∙ ap (slice_get k.log) same ∙ there) in
          subst (IsFrom k x.home) (sym (now ∙ ap (λ b. either_from b its old) e)) (subst (λ (y : Item). IsFrom k y.home its) one here)

  -- all items were passed
  pub from_all : (p : Progress) (ms : List Entry) → IsTracing k p ms → length k.log ≤ p.next → KeptFrom k (length k.log) p.from
  from_all p ms t over j i mine there low = t.from j i mine there (omega (arith, over, low))

  -- an item is left: it is that of the entry
  pub next_item : (p : Progress) (m : Entry) (rest : List Entry) (z : ItemKind × ℤ) (i : Item)
      → (IsRendered k.order k.numbering k.fetched (placed p m) → its_item k.order k.fetched (placed p m) ≡ Some z) → IsTracing k p (m ∷ rest)
      → slice_get k.log p.next ≡ Some i
      → Took k.order k.fetched k.numbering k.here (placed p m) (end_to_end (p.at + size_at p.at m.kind) rest) z i (drop (p.next + 1) k.log)
  next_item p m rest z i item t got =
      took k.order k.fetched k.numbering k.here (placed p m) (end_to_end (p.at + size_at p.at m.kind) rest) z i (drop (p.next + 1) k.log) item
      (subst (λ l. Stops k.order k.fetched k.numbering k.here (end_to_end p.at (m ∷ rest)) l) (drop_next k.log p.next i got) t.due)

  -- with its line the next entry is due
  pub item_passed : (p p1 : Progress) (m : Entry) (rest : List Entry) (z : ItemKind × ℤ) (i : Item)
      → Took k.order k.fetched k.numbering k.here (placed p m) (end_to_end (p.at + size_at p.at m.kind) rest) z i (drop (p.next + 1) k.log)
      → IsTracing k p (m ∷ rest) → slice_get k.log p.next ≡ Some i → p1.next ≡ p.next + 1 → p1.at ≡ i.at + i.len → p1.path ≡ kept k (p.next + 1)
      → p1.variable ≡ kept_variable k (p.next + 1) → KeptFrom k (p.next + 1) p1.from → p1.lines ≡ p.lines ++ line_over k.setting k.graph k.fetched i → IsTracing k p1 rest
  item_passed p p1 m rest z i one t got next at path variable from lines = record {
    within = (let b = slice_get_within k.log p.next i got in omega (arith, next, b));
    lines = more_lines p.next i p.lines p1.lines got t.lines lines ∙ ap (λ n. shown (take n k.log)) (sym next);
    path = path ∙ ap (kept k) (sym next);
    variable = variable ∙ ap (kept_variable k) (sym next);
    from = subst (λ n. KeptFrom k n p1.from) (sym next) from;
    due =
        subst (λ n. Stops k.order k.fetched k.numbering k.here (end_to_end p1.at rest) (drop n k.log)) (sym next)
        (subst (λ a. Stops k.order k.fetched k.numbering k.here (end_to_end a rest) (drop (p.next + 1) k.log)) (sym place) one.goes_on);
  }
    where
      place : p1.at ≡ p.at + size_at p.at m.kind
      place =
          let a : i.at ≡ p.at = ap (λ (x : Item). x.at) one.is_item in
          let l : i.len ≡ size_at p.at m.kind = ap (λ (x : Item). x.len) one.is_item in
          at ∙ omega (arith, a, l)

  -- what the path is then
  abbrev EndPath : Progress → Type 0
  EndPath p =
      ((is_test k.here.entry.kind ≡ true) × (p.path ≡ kept k (length k.log)))
      ⊎ ((is_test k.here.entry.kind ≡ false) × (p.path ≡ entry_path k.setting k.graph k.here.entry))

  -- no item is left: reading stopped at the entry, unless it stopped at an agreement
  pub item_ended : (p p1 : Progress) (m : Entry) (rest : List Entry) (z : ItemKind × ℤ)
      → (IsRendered k.order k.numbering k.fetched (placed p m) → its_item k.order k.fetched (placed p m) ≡ Some z) → IsTracing k p (m ∷ rest)
      → length k.log ≤ p.next → p1.lines ≡ p.lines → ((is_test k.here.entry.kind ≡ true → ⊥) → p1.path ≡ entry_path k.setting k.graph m)
      → (is_test k.here.entry.kind ≡ true → p1.path ≡ p.path) → p1.variable ≡ p.variable → p1.from ≡ p.from → IsEnded k p1
  item_ended p p1 m rest z item t over lines path same_path variable from = record {
    lines = lines ∙ all_lines p.next p.lines over t.lines;
    path = go (
        ended k.order k.fetched k.numbering k.here (placed p m) (end_to_end (p.at + size_at p.at m.kind) rest) z item
        (subst (λ l. Stops k.order k.fetched k.numbering k.here (end_to_end p.at (m ∷ rest)) l) (drop_past k.log p.next over) t.due));
    variable = variable ∙ variable_all p (m ∷ rest) t over;
    from = subst (KeptFrom k (length k.log)) (sym from) (from_all p (m ∷ rest) t over);
  }
    where
      at_test : is_test k.here.entry.kind ≡ true → EndPath p1
      at_test e = inl (e, same_path e ∙ kept_all p (m ∷ rest) t over)

      by_kind : (b : Bool) → is_test k.here.entry.kind ≡ b → placed p m ≡ k.here → EndPath p1
      by_kind true e h = at_test e
      by_kind false e h =
          let none : is_test k.here.entry.kind ≡ true → ⊥ = λ f. let z : true ≡ false = sym f ∙ e in cc in
          inr (e, path none ∙ ap (λ (x : EntryAt). entry_path k.setting k.graph x.entry) h)

      go : (is_test k.here.entry.kind ≡ true) ⊎ (placed p m ≡ k.here) → EndPath p1
      go (inl e) = at_test e
      go (inr h) = by_kind (is_test k.here.entry.kind) refl h

  -- an empty gap is passed
  pub gap_passed : (p : Progress) (m : Entry) (n : ℕ) (rest : List Entry) → m.kind ≡ Align n → gap p.at n ≡ 0 → IsTracing k p (m ∷ rest) → IsTracing k p rest
  gap_passed p m n rest is empty t = record {
    within = t.within;
    lines = t.lines;
    path = t.path;
    variable = t.variable;
    from = t.from;
    due =
        let none : its_item k.order k.fetched (placed p m) ≡ None =
        subst (λ x. its_item k.order k.fetched (record { at = p.at; entry = record { home = m.home; node = m.node; kind = x } }) ≡ None) (sym is)
        (empty_gap k.order k.fetched p.at n empty) in
        let stays : p.at + size_at p.at m.kind ≡ p.at = ap (λ x. p.at + size_at p.at x) is ∙ omega (arith, empty) in
        subst (λ a. Stops k.order k.fetched k.numbering k.here (end_to_end a rest) (drop p.next k.log)) stays
        (skipped k.order k.fetched k.numbering k.here (placed p m) (end_to_end (p.at + size_at p.at m.kind) rest) (drop p.next k.log) none (cannot (m.kind) refl) t.due);
  }
    where
      cannot : (x : Kind) → m.kind ≡ x → CanStop p.at x → ⊥
      cannot x e can = let positive : 0 < gap p.at n = subst (CanStop p.at) (sym e ∙ is) can in absurd (omega (arith, positive, empty))

-- ## Errors that are passed on

pub err_as : {X Y : Type 0} (r : Result X Halt) (e f : Halt) → IsErrAnd r (λ x. x ≡ e) → r ≡ Err f → ◌≡◌ {A = Result Y Halt} (Err e) (Err f)
err_as r e f h i = ap (λ x. Err x) (sym (subst (λ q. IsErrAnd q (λ x. x ≡ e)) i h))

pub same_err : {X : Type 0} (e f : Halt) → ◌≡◌ {A = Result X Halt} (Err e) (Err f) → e ≡ f
same_err e f i = subst (λ q. IsErrAnd q (λ x. e ≡ x)) i refl

pub memory_only : {A X : Type 0} (r : Result X Halt) (e : Halt) → IsErrAnd r (λ x. x ≡ e) → e ≡ halts.Memory → r ≡ Err halts.Here → A
memory_only r e h m i = let x : halts.Here ≡ halts.Memory = subst (λ q. IsErrAnd q (λ x. x ≡ e)) i h ∙ m in absurd (let y : ⊥ = cc in y)
