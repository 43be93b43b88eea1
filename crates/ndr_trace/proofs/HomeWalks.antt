-- A walk over the value of a home.
-- `k` are the octets with the partial graph in which they are refused, `h` is a home, `t` the number of its type, `p` how far a walk came, `s` where a
-- node is, `rest` are the entries after those of the home, `names` the cells that are named after those.
use Rattle.std.proofs.Common.{◌≡◌, ◌⊎◌, inl, inr, ◌∙◌, ℕ, ◌+◌, ◌<◌, ◌≤◌, Bool, true, false, List, [], ◌∷◌, ◌++◌, drop, length, reverse, take, Option, Some, None, refl, sym, ap, ap₂, subst}
use Rattle.std.proofs.Common.{length-append, arith}
use Rattle.nd_types.specs.declared.types.TypeDef.{TypeDef}
use Rattle.nd_types.specs.declared.types.TypeDef.TheVariants as def
use Rattle.nd_types.specs.declared.types.TypeId.{TypeId}
use Rattle.nd_types.specs.Layout.{hoists}
use Rattle.nd_types.specs.Table.{type_at}
use Rattle.nd_value.specs.declared.item.Home.{Home}
use Rattle.nd_value.specs.Deferral.{Placed_cells}
use Rattle.nd_value.specs.Nodes.{child_types}
use Rattle.nd_value.specs.Tree as tree
use Rattle.nd_value.specs.Tree.{Label, Tree, Trees, more, node, node_count, none}
use Rattle.nd_grammar.specs.Entry.{Align, Entry, Kind, Max, Unread, before_children, entries, hoisted, hoisted_max, whole_value}
use Rattle.text_grammar.specs.Paths.{home_name, home_value}
use Rattle.ndr_explain.specs.Cursors.{level_place, name_text, path_to}
use Rattle.ndr_explain.specs.Explained.{home_paths, path_in}
use Rattle.ndr_explain.specs.declared.levels.Level.{Level}
use Rattle.ndr_explain.specs.declared.levels.Level.TheVariants as level
use Rattle.ndr_explain.specs.declared.names.HomeName.{HomeName}
use Rattle.ndr_trace_value.specs.Untested.{plain, untested}
use Rattle.ndr_trace_value.specs.declared.cells.Cells.{Cells}
use Rattle.ndr_trace_value.specs.declared.cells.Pending.{Pending}
use Rattle.ndr_trace_value.specs.declared.progress.Progress.{Progress}
use Rattle.ndr_trace_value.specs.declared.progress.Spot.{Spot}
use Rattle.ndr_trace.specs.Homes.{HasHome, HasPassed, IsFront, home_due, home_max}
use Rattle.ndr_trace_value.specs.Naming.{HasNamed, IsNaming, names_in, pending_in}
use Rattle.ndr_trace_value.specs.Tracing.{IsFrom, IsSpot, IsTracing, Known}
use Rattle.ndr_trace_value.specs.Walking.{IsReady, values_due}
use Rattle.ndr_trace.proofs.HomeNames.{home_names, home_parts, home_waits, plain_names, plain_waits}
use Rattle.ndr_trace.proofs.HomeThere.{path_of_home}
use Rattle.ndr_trace_value.proofs.NamedCells.{same_naming}
use Rattle.ndr_trace_value.proofs.OwnItems.{unread_due}
use Rattle.ndr_trace_value.proofs.Placed.{home_plain}

pub clash : {A : Type 0} → true ≡ false → A
clash e = cc

-- a home's own value is at its name
pub spot_of_home : (k : Known) (h : Home) (name : HomeName) (t : ℕ) (of : TypeId) (s : Spot) → HasHome k h name t → s.home ≡ h → s.name ≡ name → s.top ≡ level.Whole of
    → s.below.now.items ≡ [] → IsFrom k s.home s.from.now → IsSpot k s 0
spot_of_home k h name t of s a home named top below from = record {
  path =
      ap₂ (λ (M : Level) (Ms : List Level). path_to (name_text s.name) (M ∷ reverse Ms)) top below ∙ ap name_text named ∙ a.name_is ∙ sym (path_of_home k h)
      ∙ ap (λ (j : Home). path_in (home_paths k.setting k.graph j) 0) (sym home);
  place = ap level_place top ∙ sym (home_plain k.setting k.graph s.home);
  from = from;
}

-- nothing of an unread value is before its children
unread_before : (k : Known) (t : ℕ) (d : Option TypeDef) (ks : Trees) → before_children k.setting.table t d tree.Unread ks ≡ Unread ∷ []
unread_before k t (Some (def.Prim p)) ks = refl
unread_before k t None ks = refl
unread_before k t (Some _) ks = refl

module _ (k : Known) (h : Home) (t : ℕ) where
  abbrev entry : Kind → Entry
  entry x = record { home = h; node = 0; kind = x }

  abbrev its : Tree
  its = home_value k.graph h

  abbrev due : List Entry
  due = values_due k h (t ∷ []) 0 (more (home_value k.graph h) none)

  -- no maximum count is in front
  pub no_front : (p : Progress) (rest : List Entry) → hoists k.setting.table t ≡ false → IsTracing k p (home_due k h t ++ rest)
      → IsTracing k p (values_due k h (t ∷ []) 0 (more (home_value k.graph h) none) ++ rest)
  no_front p rest e tr = go (home_value k.graph h) refl
    where
      go : (v : Tree) → home_value k.graph h ≡ v → IsTracing k p (values_due k h (t ∷ []) 0 (more (home_value k.graph h) none) ++ rest)
      go (node l ks) is =
          let parts = home_parts k.setting.table h t l ks in
          let same : home_due k h t ≡ values_due k h (t ∷ []) 0 (more (home_value k.graph h) none) =
          ap (λ u. untested (whole_value k.setting.table h t u)) is ∙ parts
          ∙ ap (λ b. untested (entries h 0 (hoisted b l (hoisted_max 0 (more (node l ks) none)))) ++ plain k.setting.table h (t ∷ []) 0 (more (node l ks) none)) e
          ∙ ap (λ u. plain k.setting.table h (t ∷ []) 0 (more u none)) (sym is) in
          subst (λ ms. IsTracing k p (ms ++ rest)) same tr

  read_front : (l : Label) (m : ℕ) → (l ≡ tree.Unread → ⊥) → untested (entries h 0 (hoisted true l m)) ≡ entry (Align 4) ∷ entry (Max m) ∷ []
  read_front tree.Unread m n = absurd (n refl)
  read_front _ m n = refl

  -- an unread value is not due while items are left
  pub is_read : (p : Progress) (rest : List Entry) (l : Label) (ks : Trees) → home_value k.graph h ≡ node l ks → IsReady k p → IsTracing k p (home_due k h t ++ rest) → l ≡ tree.Unread → ⊥
  is_read p rest l ks is ready tr e =
      let m = hoisted_max 0 (more (node tree.Unread ks) none) in
      let later = plain k.setting.table h (child_types (type_at k.setting.table t) tree.Unread ks) 1 ks ++ plain k.setting.table h [] (0 + 1 + node_count ks) none in
      let same : home_due k h t ≡ entry Unread ∷ later =
      ap (λ u. untested (whole_value k.setting.table h t u)) (is ∙ ap (λ u. node u ks) e) ∙ home_parts k.setting.table h t tree.Unread ks
      ∙ ap (λ xs. xs ++ plain k.setting.table h (t ∷ []) 0 (more (node tree.Unread ks) none)) (none_in_front (hoists k.setting.table t) m)
      ∙ ap (λ xs. untested (entries h 0 xs) ++ later) (unread_before k t (type_at k.setting.table t) ks) in
      unread_due k h 0 p (later ++ rest) ready (subst (λ ms. IsTracing k p (ms ++ rest)) same tr)
    where
      none_in_front : (b : Bool) (m : ℕ) → untested (entries h 0 (hoisted b tree.Unread m)) ≡ []
      none_in_front true m = refl
      none_in_front false m = refl

  -- a maximum count is in front: its gap is due, and then itself
  pub some_front : (p : Progress) (rest : List Entry) → hoists k.setting.table t ≡ true → IsReady k p → IsTracing k p (home_due k h t ++ rest)
      → IsTracing k p (record { home = h; node = 0; kind = Align 4 } ∷ record { home = h; node = 0; kind = Max (home_max k h) }
      ∷ (values_due k h (t ∷ []) 0 (more (home_value k.graph h) none) ++ rest))
  some_front p rest e ready tr = go (home_value k.graph h) refl
    where
      go : (v : Tree) → home_value k.graph h ≡ v → IsTracing k p (entry (Align 4) ∷ entry (Max (home_max k h)) ∷ (due ++ rest))
      go (node l ks) is =
          let m : ℕ = hoisted_max 0 (more (node l ks) none) in
          let same : home_due k h t ≡ entry (Align 4) ∷ entry (Max (home_max k h)) ∷ due =
          ap (λ u. untested (whole_value k.setting.table h t u)) is ∙ home_parts k.setting.table h t l ks
          ∙ ap (λ b. untested (entries h 0 (hoisted b l m)) ++ plain k.setting.table h (t ∷ []) 0 (more (node l ks) none)) e
          ∙ ap (λ xs. xs ++ plain k.setting.table h (t ∷ []) 0 (more (node l ks) none)) (read_front l m (is_read p rest l ks is ready tr))
          ∙ ap (λ u. entry (Align 4) ∷ entry (Max (hoisted_max 0 (more u none))) ∷ plain k.setting.table h (t ∷ []) 0 (more u none)) (sym is) in
          subst (λ ms. IsTracing k p (ms ++ rest)) same tr

  -- ## What a home names

  pub value_names : names_in (home_due k h t) ≡ names_in (values_due k h (t ∷ []) 0 (more (home_value k.graph h) none))
  value_names = home_names k.setting.table h t (home_value k.graph h) ∙ sym (plain_names k.setting.table h (t ∷ []) [] 0 (more (home_value k.graph h) none))

  value_waits : pending_in k (home_due k h t) ≡ pending_in k (values_due k h (t ∷ []) 0 (more (home_value k.graph h) none))
  value_waits = home_waits k.setting.table h k t (home_value k.graph h) ∙ sym (plain_waits k.setting.table h k (t ∷ []) [] 0 (more (home_value k.graph h) none))

  -- the pointers of the home are turned round
  pub turned_round : (a b c : Cells) (names : Placed_cells) → HasNamed k a b (values_due k h (t ∷ []) 0 (more (home_value k.graph h) none)) names → c.count ≡ b.count
      → c.numbers ≡ b.numbers → c.stands ≡ b.stands → (n : ℕ) → n ≡ length a.pending.items
      → (n ≤ length b.pending.items → c.pending.items ≡ take n b.pending.items ++ reverse (drop n b.pending.items)) → HasPassed k a c (home_due k h t) names
  turned_round a b c names i ec en es n len turned = record {
    naming = same_naming k b c names ec en i.naming;
    pending =
        let grown : b.pending.items ≡ a.pending.items ++ pending_in k due = i.pending in
        let long : n ≤ length b.pending.items =
        subst (λ m. n ≤ m) (sym (ap length grown ∙ length-append a.pending.items (pending_in k due))) (omega (arith, len)) in
        turned long
        ∙ ap₂ (λ xs ys. xs ++ reverse ys) (ap₂ take len grown ∙ take_front a.pending.items (pending_in k due)) (ap₂ drop len grown ∙ drop_front a.pending.items (pending_in k due))
        ∙ ap (λ xs. a.pending.items ++ reverse xs) (sym value_waits);
    stands = es ∙ i.stands;
  }
    where
      take_front : (xs ys : List Pending) → take (length xs) (xs ++ ys) ≡ xs
      take_front [] ys = refl
      take_front (x ∷ xs) ys = ap (λ zs. x ∷ zs) (take_front xs ys)

      drop_front : (xs ys : List Pending) → drop (length xs) (xs ++ ys) ≡ ys
      drop_front [] ys = refl
      drop_front (x ∷ xs) ys = drop_front xs ys
