-- What is below a place stays as it was.
-- `os` and `ps` are octets, `ns` and `ms` nodes, `n` is a node, `s` a span, `to` a place, `rs` are spans, `cs` cells.
use Rattle.std.proofs.Common.{◌≡◌, ◌⊎◌, inl, inr, ℕ, ◌+◌, ◌*◌, ◌<◌, ◌≤◌, zero, suc, List, [], ◌∷◌, ◌++◌, length, take, drop, map, get_or, Some, refl, ap, ap₂, sym, ◌∙◌, subst, arith, length-append}
use Rattle.std.specs.List.{AllByRecursion, slice_get}
use Rattle.std.proofs.lemmas.List.{take-append-le}
use Rattle.nd_value.specs.Tree.{Tree, Referent}
use Rattle.nd_flat.specs.declared.node.Node.{Node}
use Rattle.nd_flat.specs.declared.node.Node.TheVariants as kept
use Rattle.nd_flat.specs.declared.flat.Span.{Span}
use Rattle.nd_flat.specs.declared.flat.CellSpan.{CellSpan}
use Rattle.nd_flat.specs.Forest.{tree_in, IsWhole}
use Rattle.nd_flat.specs.FlatForm.{seen_nodes, flats, HasOctets, HaveOctets}
use Rattle.nd_types.specs.Table.{width}
use Rattle.nd_flat.proofs.RowLaws.{kept_row_grow}
use Rattle.nd_flat.proofs.RecordLaws.{kept_records_grow, has_grown, piece_more as piece_grow}
use Rattle.nd_flat.specs.Store.{span_flats, span_tree, span_cell, IsSound}

take2 : {A : Type 0} (len b : ℕ) (ns : List A) → len ≤ b → take len (take b ns) ≡ take len ns
take2 zero b ns h = refl
take2 (suc len) zero ns h = absurd (omega (arith, h))
take2 (suc len) (suc b) [] h = refl
take2 (suc len) (suc b) (n ∷ ns) h = ap (λ xs. n ∷ xs) (take2 len b ns (omega (arith, h)))

take_low : {A : Type 0} (len f b : ℕ) (ns : List A) → f + len ≤ b → take len (drop f (take b ns)) ≡ take len (drop f ns)
take_low len zero b ns h = take2 len b ns (omega (arith, h))
take_low len (suc f) zero ns h = absurd (omega (arith, h))
take_low len (suc f) (suc b) [] h = refl
take_low len (suc f) (suc b) (n ∷ ns) h = take_low len f b ns (omega (arith, h))

pub all_take : {A : Type 0} (P : A → Type 0) (k : ℕ) (xs : List A) → AllByRecursion P xs → AllByRecursion P (take k xs)
all_take P zero xs h = tt
all_take P (suc k) [] h = tt
all_take P (suc k) (x ∷ xs) h = (h.0, all_take P k xs h.1)

pub all_drop : {A : Type 0} (P : A → Type 0) (k : ℕ) (xs : List A) → AllByRecursion P xs → AllByRecursion P (drop k xs)
all_drop P zero xs h = h
all_drop P (suc k) [] h = tt
all_drop P (suc k) (x ∷ xs) h = all_drop P k xs h.1

pub all_both : {A : Type 0} (P : A → Type 0) (xs ys : List A) → AllByRecursion P xs → AllByRecursion P ys → AllByRecursion P (xs ++ ys)
all_both P [] ys g h = h
all_both P (x ∷ xs) ys g h = (g.0, all_both P xs ys g.1 h)

pub all_as : {A : Type 0} (P Q : A → Type 0) (xs : List A) → ((x : A) → P x → Q x) → AllByRecursion P xs → AllByRecursion Q xs
all_as P Q [] f h = tt
all_as P Q (x ∷ xs) f h = (f x h.0, all_as P Q xs f h.1)

pub all_get : {A : Type 0} (P : A → Type 0) (xs : List A) (i : ℕ) (d : A) → AllByRecursion P xs → i < length xs → P (get_or xs i d)
all_get P [] i d h l = absurd (omega (arith, l))
all_get P (x ∷ xs) zero d h l = h.0
all_get P (x ∷ xs) (suc i) d h l = all_get P xs i d h.1 (omega (arith, l))

pub get_map : {A B : Type 0} (f : A → B) (xs : List A) (i : ℕ) (d : A) → i < length xs → slice_get (map f xs) i ≡ Some (f (get_or xs i d))
get_map f [] i d l = absurd (omega (arith, l))
get_map f (x ∷ xs) zero d l = refl
get_map f (x ∷ xs) (suc i) d l = get_map f xs i d (omega (arith, l))

-- More octets
pub text_grow : (os ps : List ℕ) (n : Node) → HasOctets os n → HasOctets (os ++ ps) n
text_grow os ps (kept.Num z) h = tt
text_grow os ps (kept.Negative z) h = tt
text_grow os ps (kept.Rec k) h = tt
text_grow os ps (kept.Arr max offset k) h = tt
text_grow os ps (kept.Text max len from) h = omega (arith, h, length-append os ps)
text_grow os ps (kept.ShortText max len short) h = h
text_grow os ps (kept.Tag z armed) h = tt
text_grow os ps (kept.NegativeTag z armed) h = tt
text_grow os ps kept.Null h = tt
text_grow os ps (kept.Ptr c) h = tt
text_grow os ps (kept.Context a id) h = tt
text_grow os ps (kept.Pipe k) h = tt
text_grow os ps (kept.Row r) h = (let t : r.from + r.count * width r.of ≤ length os = h.0 in omega (arith, t, length-append os ps), h.1)
text_grow os ps (kept.Records o m n from) h = has_grown os ps (record { order = o; members = m; count = n; from = from }) h

pub seen_grow : (os ps : List ℕ) (n : Node) → HasOctets os n → seen_nodes (os ++ ps) n ≡ seen_nodes os n
seen_grow os ps (kept.Num z) h = refl
seen_grow os ps (kept.Negative z) h = refl
seen_grow os ps (kept.Rec k) h = refl
seen_grow os ps (kept.Arr max offset k) h = refl
seen_grow os ps (kept.Text max len from) h = ap (λ xs. (Rattle.nd_value.specs.Tree.Text max xs, 0) ∷ []) (piece_grow os ps len from h)
seen_grow os ps (kept.ShortText max len short) h = refl
seen_grow os ps (kept.Tag z armed) h = refl
seen_grow os ps (kept.NegativeTag z armed) h = refl
seen_grow os ps kept.Null h = refl
seen_grow os ps (kept.Ptr c) h = refl
seen_grow os ps (kept.Context a id) h = refl
seen_grow os ps (kept.Pipe k) h = refl
seen_grow os ps (kept.Row r) h = kept_row_grow os ps r h.0
seen_grow os ps (kept.Records o m n from) h = kept_records_grow os ps (record { order = o; members = m; count = n; from = from }) h

pub map_grow : (os ps : List ℕ) (ns : List Node) → HaveOctets os ns → flats (os ++ ps) ns ≡ flats os ns
map_grow os ps [] h = refl
map_grow os ps (n ∷ ns) h = ap₂ (λ f fs. f ++ fs) (seen_grow os ps n h.0) (map_grow os ps ns h.1)

-- What spans that end before a place hold is kept.
pub record Keeps (os : List ℕ) (ns : List Node) (os' : List ℕ) (ns' : List Node) (to : ℕ) : Type 0 where
  pub kept : (s : Span) → s.from + s.len ≤ to → span_flats os' ns' s ≡ span_flats os ns s

pub keeps_same : (os : List ℕ) (ns : List Node) (to : ℕ) → Keeps os ns os ns to
keeps_same os ns to = record { kept = λ s h. refl }

-- the nodes before the place are the same
pub keeps_front : (os : List ℕ) (ns ms : List Node) (to : ℕ) → take to ms ≡ take to ns → Keeps os ns os ms to
keeps_front os ns ms to e = record {
  kept = λ s h.
      ap (flats os)
      (sym (take_low s.len s.from to ms h) ∙ ap (λ xs. take s.len (drop s.from xs)) e ∙ take_low s.len s.from to ns h);
}

-- octets more, and nodes more
pub keeps_more : (os ps : List ℕ) (ns ms : List Node) (to : ℕ) → HaveOctets os ns → to ≤ length ns → Keeps os ns (os ++ ps) (ns ++ ms) to
keeps_more os ps ns ms to texts le = record {
  kept = λ s h.
      ap (flats (os ++ ps))
      (sym (take_low s.len s.from to (ns ++ ms) h) ∙ ap (λ xs. take s.len (drop s.from xs)) (take-append-le to ns ms le) ∙ take_low s.len s.from to ns h)
      ∙ map_grow os ps (take s.len (drop s.from ns)) (all_take (HasOctets os) s.len (drop s.from ns) (all_drop (HasOctets os) s.from ns texts));
}

module _ (os : List ℕ) (ns : List Node) (os' : List ℕ) (ns' : List Node) (to : ℕ) (k : Keeps os ns os' ns' to) where
  pub kept_roots : (rs : List Span) → AllByRecursion (IsSound os ns to) rs → map (span_tree os' ns') rs ≡ map (span_tree os ns) rs
  kept_roots [] h = refl
  kept_roots (s ∷ rs) h = ap₂ (λ t ts. t ∷ ts) (ap tree_in (k.kept s h.0.within)) (kept_roots rs h.1)

  pub kept_cells : (cs : List CellSpan) → AllByRecursion (λ c. IsSound os ns to c.span) cs → map (span_cell os' ns') cs ≡ map (span_cell os ns) cs
  kept_cells [] h = refl
  kept_cells (c ∷ cs) h =
      let one : Tree → Referent = λ t. record { of = c.of.0; val = t } in
      ap₂ (λ t ts. one t ∷ ts) (ap tree_in (k.kept c.span h.0.within)) (kept_cells cs h.1)

  kept_either : (s : Span) → s.from + s.len ≤ to → (s.len ≡ 0) ⊎ IsWhole (span_flats os ns s) → (s.len ≡ 0) ⊎ IsWhole (span_flats os' ns' s)
  kept_either s h (inl e) = inl e
  kept_either s h (inr w) = inr (subst IsWhole (sym (k.kept s h)) w)

  pub kept_sound : (to' : ℕ) → to ≤ to' → (s : Span) → IsSound os ns to s → IsSound os' ns' to' s
  kept_sound to' le s h = record { within = let w : s.from + s.len ≤ to = h.within in omega arith; sound = kept_either s h.within h.sound }
