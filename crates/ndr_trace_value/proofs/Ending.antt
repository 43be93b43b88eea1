-- A walk at its beginning and at its end.
-- `w` is a setting, `bad` are octets that are refused, `k` the same with the log, `m` is an entry, `x` a kind.
use Rattle.std.proofs.Common.{◌≡◌, ◌⊎◌, inl, inr, ◌∙◌, ℕ, ◌≤◌, zero, suc, Bool, true, false, List, [], ◌∷◌, ◌++◌, drop, length, take, Option, Some, None, codes, refl, sym, ap, subst, arith}
use Rattle.std.specs.Prelude.{ltb}
use Rattle.std.specs.List.{slice_get}
use Rattle.std.proofs.lemmas.Bool.{lt-ltb}
use Rattle.std.proofs.lemmas.Option.{slice_get_within}
use Rattle.nd_base.specs.declared.octets.Order.{Order}
use Rattle.nd_value.specs.declared.item.Item.{Item}
use Rattle.nd_value.specs.declared.value.Graph.{Graph}
use Rattle.nd_value.specs.Setting.{Setting}
use Rattle.nd_grammar.specs.declared.reason.Reason.{Reason}
use Rattle.nd_grammar.specs.Refusal.{Bad}
use Rattle.nd_grammar.specs.Entry.{Actual, Align, Chunk, Context, Entry, EntryAt, Kind, Max, Num, Number, Offset, Tag, Test, Text, Unread, full_cells}
use Rattle.nd_grammar.specs.Items.{items}
use Rattle.ndr_trace_value.specs.Due.{EndsBefore}
use Rattle.ndr_trace_value.specs.Untested.{is_test}
use Rattle.ndr_trace_value.specs.declared.progress.Progress.{Progress}
use Rattle.ndr_trace_value.specs.Tracing.{IsAt, IsEnded, IsTracing, Known, kept, kept_by, sought_path}
use Rattle.ndr_trace_value.specs.Traces.{IsShownPath, IsTraceOf, IsVariableOf, entry_path}
use Rattle.ndr_trace_value.proofs.Passing.{all_lines, from_all, kept_all, variable_all}

-- what is known of octets that are refused
abbrev pub known_of : (w : Setting) (order : Order) (fetched : List ℕ) (place : ℕ) (why : Reason) → Bad w order fetched place why → Option ℕ → Known
known_of w order fetched place why bad sought = record {
  setting = w;
  graph = bad.partial;
  order = order;
  fetched = fetched;
  numbering = bad.numbering;
  full = full_cells bad.entries;
  here = bad.here;
  log = items order fetched bad.earlier;
  sought = sought;
}

-- ## Where no entry is left

no_more : (xs ys : List EntryAt) → [] ≡ xs ++ ys → (xs ≡ []) × (ys ≡ [])
no_more [] ys e = (refl, sym e)
no_more (x ∷ xs) ys e = cc

no_drop : (n : ℕ) (xs : List Item) → drop n xs ≡ [] → length xs ≤ n
no_drop zero [] e = omega arith
no_drop zero (x ∷ xs) e = cc
no_drop (suc n) [] e = omega arith
no_drop (suc n) (x ∷ xs) e = let h = no_drop n xs e in omega (arith, h)

-- then reading stopped at an agreement
pub all_passed : (k : Known) (p : Progress) → IsTracing k p [] → IsEnded k p
all_passed k p t = record {
  lines = all_lines k p.next p.lines over t.lines;
  path = inl (at_test t.due.ends, kept_all k p [] t over);
  variable = variable_all k p [] t over;
  from = from_all k p [] t over;
}
  where
    none : (t.due.passed ≡ []) × (t.due.later ≡ [])
    none = no_more t.due.passed t.due.later t.due.split

    over : length k.log ≤ p.next
    over = no_drop p.next k.log (t.due.log_is ∙ ap (items k.order k.fetched) none.0)

    at_test : EndsBefore k.here t.due.later → is_test k.here.entry.kind ≡ true
    at_test (inl e) = e
    at_test (inr (rest, is, can)) = let z : [] ≡ k.here ∷ rest = sym none.1 ∙ is in cc

-- ## Octets that are not refused at an agreement

-- their trace has the path of the entry
shown : (w : Setting) (g : Graph) (m : Entry) (x : Kind) (path : List ℕ) → is_test x ≡ false → path ≡ entry_path w g m → IsShownPath w g m x path
shown w g m (Test a wanted found) path e f = cc
shown w g m (Align n) path e f = f
shown w g m (Max v) path e f = f
shown w g m (Offset t v) path e f = f
shown w g m (Actual t offset limit v) path e f = f
shown w g m (Chunk v) path e f = f
shown w g m (Number class to cell) path e f = f
shown w g m (Num p values v) path e f = f
shown w g m (Tag p values arms default v) path e f = f
shown w g m (Text octets) path e f = f
shown w g m (Context attributes id) path e f = f
shown w g m Unread path e f = f

pub traced_plain : (w : Setting) (order : Order) (fetched : List ℕ) (place : ℕ) (why : Reason) (bad : Bad w order fetched place why) (sought : Option ℕ) (p : Progress)
    → is_test bad.here.entry.kind ≡ false → IsEnded (known_of w order fetched place why bad sought) p → IsTraceOf w order fetched place why bad p.lines p.path
traced_plain w order fetched place why bad sought p plain ended = record {
  lines_are = ended.lines;
  path_is = shown w bad.partial bad.here.entry bad.here.entry.kind p.path plain (by_path ended.path);
}
  where
    by_path : ((is_test bad.here.entry.kind ≡ true) × (p.path ≡ kept (known_of w order fetched place why bad sought) (length (items order fetched bad.earlier))))
        ⊎ ((is_test bad.here.entry.kind ≡ false) × (p.path ≡ entry_path w bad.partial bad.here.entry)) → p.path ≡ entry_path w bad.partial bad.here.entry
    by_path (inl (t, e)) = let z : true ≡ false = sym t ∙ plain in cc
    by_path (inr (t, e)) = e

-- ## Octets that are refused at an agreement

-- their trace has the path of the entry, a blank and its variable
shown_test : (w : Setting) (g : Graph) (m : Entry) (x : Kind) (path variable : List ℕ) → is_test x ≡ true → IsVariableOf w g m x variable → path ≡ entry_path w g m ++ (codes " " ++ variable)
    → IsShownPath w g m x path
shown_test w g m (Test a wanted found) path variable e named f = (variable, named, f)
shown_test w g m (Align n) path variable e named f = cc
shown_test w g m (Max v) path variable e named f = cc
shown_test w g m (Offset t v) path variable e named f = cc
shown_test w g m (Actual t offset limit v) path variable e named f = cc
shown_test w g m (Chunk v) path variable e named f = cc
shown_test w g m (Number class to cell) path variable e named f = cc
shown_test w g m (Num p values v) path variable e named f = cc
shown_test w g m (Tag p values arms default v) path variable e named f = cc
shown_test w g m (Text octets) path variable e named f = cc
shown_test w g m (Context attributes id) path variable e named f = cc
shown_test w g m Unread path variable e named f = cc

-- what is kept, once all items were passed
pub kept_whole : (k : Known) (its : Option Item → List ℕ) (n : ℕ) (i : Item) → k.sought ≡ Some n → slice_get k.log n ≡ Some i
    → kept_by its k.log k.sought (length k.log) ≡ its (Some i)
kept_whole k its n i mine there =
    ap (λ o. kept_by its k.log o (length k.log)) mine
    ∙ ap (λ b. elim b [ true ↦ its (slice_get k.log n) | false ↦ [] ]) (lt-ltb n (length k.log) (slice_get_within k.log n i there)) ∙ ap its there

pub traced_test : (w : Setting) (order : Order) (fetched : List ℕ) (place : ℕ) (why : Reason) (bad : Bad w order fetched place why) (n : ℕ) (p : Progress) (path variable : List ℕ)
    → is_test bad.here.entry.kind ≡ true → IsAt (items order fetched bad.earlier) n place
    → ((i : Item) → slice_get (items order fetched bad.earlier) n ≡ Some i
    → sought_path (known_of w order fetched place why bad (Some n)) (Some i) ≡ entry_path w bad.partial bad.here.entry)
    → IsVariableOf w bad.partial bad.here.entry bad.here.entry.kind variable → IsEnded (known_of w order fetched place why bad (Some n)) p
    → path ≡ p.path ++ (codes " " ++ variable) → IsTraceOf w order fetched place why bad p.lines path
traced_test w order fetched place why bad n p path variable test (i, there, at) subject named ended is = record {
  lines_are = ended.lines;
  path_is =
      shown_test w bad.partial bad.here.entry bad.here.entry.kind path variable test named
      (is ∙ ap (λ q. q ++ (codes " " ++ variable)) (by_path ended.path ∙ subject i there));
}
  where
    k : Known
    k = known_of w order fetched place why bad (Some n)

    by_path : ((is_test bad.here.entry.kind ≡ true) × (p.path ≡ kept k (length (items order fetched bad.earlier))))
        ⊎ ((is_test bad.here.entry.kind ≡ false) × (p.path ≡ entry_path w bad.partial bad.here.entry)) → p.path ≡ sought_path k (Some i)
    by_path (inl (t, e)) = e ∙ kept_whole k (sought_path k) n i refl there
    by_path (inr (t, e)) = let z : true ≡ false = sym test ∙ t in cc
