-- The agreements of a home that was read: what the reader finds of them is what is found in what is kept.
use Rattle.std.proofs.Common.{◌≡◌, ℕ, ◌+◌, ℤ, Bool, true, false, List, [], ◌∷◌, ◌++◌, length, Option, Some, None, refl, ap, sym, ◌∙◌, inl, inr, subst, append_assoc, length-append, arith}
use Rattle.std.specs.Prelude.{cond, if◌then◌else◌, option_map}
use Rattle.std.specs.List.{slice_get}
use Rattle.std.specs.Ordering.{int_eq}
use Rattle.std.proofs.lemmas.List.{append-nil}
use Rattle.std.proofs.lemmas.Option.{same_Some}
use Rattle.nd_base.specs.declared.octets.Order.{Order}
use Rattle.nd_types.specs.Table.{Table}
use Rattle.nd_value.specs.declared.item.Home.{Home}
use Rattle.nd_value.specs.declared.item.Home.TheVariants as home
use Rattle.nd_value.specs.declared.item.Item.{Item}
use Rattle.nd_value.specs.Agreement.{Agreement, found_in}
use Rattle.nd_value.specs.Setting.{Setting, cell_home, cell_at}
use Rattle.nd_value.specs.Tree.{Tree, node, more, none, Flat, flat, count}
use Rattle.nd_value.specs.Deferral.{Pending}
use Rattle.nd_grammar.specs.declared.reason.Reason.{Reason}
use Rattle.nd_grammar.specs.declared.reason.Reason.TheVariants as reason
use Rattle.nd_grammar.specs.Entry.{Entry, EntryAt, Test, tests}
use Rattle.nd_grammar.specs.Refusal.{refusal, tested_at}
use Rattle.nd_grammar.specs.Reader.{Names, pass_all}
use Rattle.nd_grammar.specs.StreamReader.{Reading, graph_of}
use Rattle.ndr_refs.specs.declared.referents.Known.{Known}
use Rattle.ndr_decoder_laws.specs.reader.Around.{going, stopped}
use Rattle.ndr_decoder_laws.specs.reader.ChildNodes.{top, flat_found}
use Rattle.ndr_decoder_laws.proofs.reader.ChildPlaces.{same_found}
use Rattle.ndr_decoder_laws.proofs.reader.Continuing.{refused, all_stay}
use Rattle.ndr_decoder_laws.proofs.reader.FromPoint.{test_passed}
use Rattle.ndr_decoder_laws.specs.steps.Good.{Told}
use Rattle.ndr_decoder_laws.specs.steps.Steps.{Place, first_found, first_of, place_of, place_in}
use Rattle.ndr_decoder_laws.proofs.steps.MemberChecks.{SameFound, found_is}
use Rattle.ndr_decoder_laws.proofs.steps.Passing.{Lies, judged, silent, told_passed}
use Rattle.ndr_decoder_laws.specs.stream.Between.{Between, Keeps, IsKeptOf}
use Rattle.ndr_decoder_laws.specs.stream.Tests.{disagreement, AllAgree, all_at}
use Rattle.ndr_decoder_laws.specs.declared.kept.Kept.{Kept}
use Rattle.ndr_decoder_laws.proofs.stream.Others.{AreSilent, kept_later, roots_later}

-- how an agreement is judged, where its count or tag is found at this place
abbrev verdict : ℤ → ℤ → Option ℕ → Option (ℕ × Reason)
verdict wanted found place = cond (int_eq wanted found) None (option_map (λ n. (n, reason.Disagrees wanted found)) place)

as_if : (b : Bool) (o : Option (ℕ × Reason)) → cond b None o ≡ (if b then None else o)
as_if true o = refl
as_if false o = refl

none_by : (b : Bool) (o : Option (ℕ × Reason)) → o ≡ None → cond b None o ≡ None
none_by true o e = refl
none_by false o e = e

none_if : (b : Bool) (o : Option (ℕ × Reason)) → o ≡ None → (if b then None else o) ≡ None
none_if true o e = refl
none_if false o e = e

pub top_is : (v : Tree) (x : Flat) → slice_get (flat (more v none)) 0 ≡ Some x → x ≡ top v
top_is (node l ks) x e = sym (same_Some (l, count ks) x e)

module _ (order : Order) (fetched : List ℕ) (table : Table) (h : Home) (at : ℕ) (reached : length fetched ≡ at) (v : Tree) (k : Kept) where
  abbrev test_of : Agreement → Entry
  test_of w = record { home = h; node = 0; kind = Test w.attr w.wanted (found_in w.attr v) }

  abbrev test_at : Agreement → EntryAt
  test_at w = record { at = at; entry = record { home = h; node = 0; kind = Test w.attr w.wanted (found_in w.attr v) } }

  -- what is kept is judged as the node is
  same_verdict : (w : Agreement) (place : Option ℕ) (x : Flat) (p : Option ℕ) → k.first ≡ first_of x p → x ≡ top v → place ≡ place_of w.attr k.max_at (place_in k.first)
      → SameFound k.max_at w.attr x p → verdict w.wanted (found_in w.attr v) place ≡ disagreement w k.first k.max_at
  same_verdict w place x p kept of there (inl same) =
      let found : first_found w.attr k.first ≡ found_in w.attr v = ap (first_found w.attr) kept ∙ same ∙ ap (flat_found w.attr) of ∙ same_found w.attr v in
      subst (λ z. verdict w.wanted (found_in w.attr v) place
      ≡ (if int_eq w.wanted z then None else option_map (λ n. (n, reason.Disagrees w.wanted z)) (place_of w.attr k.max_at (place_in k.first)))) (sym found)
      (ap (verdict w.wanted (found_in w.attr v)) there
      ∙ as_if (int_eq w.wanted (found_in w.attr v)) (option_map (λ n. (n, reason.Disagrees w.wanted (found_in w.attr v))) (place_of w.attr k.max_at (place_in k.first))))
  same_verdict w place x p kept of there (inr nowhere) =
      let none_there : place_of w.attr k.max_at (place_in k.first) ≡ None = ap (λ u. place_of w.attr k.max_at (place_in u)) kept ∙ nowhere in
      let left : verdict w.wanted (found_in w.attr v) place ≡ None =
      ap (verdict w.wanted (found_in w.attr v)) (there ∙ none_there) ∙ none_by (int_eq w.wanted (found_in w.attr v)) None refl in
      let right : disagreement w k.first k.max_at ≡ None =
      ap (λ o. if int_eq w.wanted (first_found w.attr k.first) then None else option_map (λ n. (n, reason.Disagrees w.wanted (first_found w.attr k.first))) o) none_there
      ∙ none_if (int_eq w.wanted (first_found w.attr k.first)) None refl in
      left ∙ sym right

  judge : (seen : List EntryAt) → IsKeptOf seen h v k → (w : Agreement) (after : List ℕ) → refusal order (fetched ++ after) seen (test_at w) ≡ disagreement w k.first k.max_at
  judge seen kept w after =
      ap (λ os. refusal order (os ++ after) seen (test_at w)) (sym (append-nil fetched))
      ∙ judged order fetched [] after at reached (test_of w) seen refl refl
      ∙ same_verdict w (tested_at seen w.attr h 0) kept.is kept.place kept.kept (top_is v kept.is kept.there) (kept.found w.attr) (found_is k.max_at w.attr kept.is kept.place)

  test_silent : (g : Home) (w : Agreement) → AreSilent g (test_at w ∷ [])
  test_silent g w = ((λ a n. silent a g n (test_at w) tt), tt)

  pub tests_silent : (g : Home) (ws : List Agreement) → AreSilent g (all_at at (tests h 0 v ws))
  tests_silent g [] = tt
  tests_silent g (w ∷ ws) = ((λ a n. silent a g n (test_at w) tt), tests_silent g ws)

  -- all agreements hold
  pub tests_pass : (ws : List Agreement) (seen : List EntryAt) → IsKeptOf seen h v k → AllAgree k ws → (after : List ℕ)
      → pass_all order (fetched ++ after) (tests h 0 v ws) (going at seen) ≡ going at (seen ++ all_at at (tests h 0 v ws))
  tests_pass [] seen kept a after = ap (going at) (sym (append-nil seen))
  tests_pass (w ∷ ws) seen kept a after =
      let t : EntryAt = test_at w in
      ap (pass_all order (fetched ++ after) (tests h 0 v ws))
      (test_passed order (fetched ++ after) table h h 0 at w.attr w.wanted (found_in w.attr v) seen (judge seen kept w after ∙ a.0))
      ∙ tests_pass ws (seen ++ t ∷ []) (kept_later h v k seen (t ∷ []) (test_silent h w) kept) a.1 after
      ∙ ap (going at) (append_assoc seen (t ∷ []) (all_at at (tests h 0 v ws)))

  -- one does not, after some that do
  pub tests_stop : (ws : List Agreement) (w : Agreement) (others : List Agreement) (why : ℕ × Reason) (seen : List EntryAt) → IsKeptOf seen h v k → AllAgree k ws
      → disagreement w k.first k.max_at ≡ Some why → (after : List ℕ)
      → pass_all order (fetched ++ after) (tests h 0 v (ws ++ w ∷ others)) (going at seen) ≡ stopped at (seen ++ all_at at (tests h 0 v ws)) why
  tests_stop [] w others why seen kept a e after =
      ap (pass_all order (fetched ++ after) (tests h 0 v others)) (refused order (fetched ++ after) (test_of w) at seen why (judge seen kept w after ∙ e))
      ∙ all_stay order (fetched ++ after) (tests h 0 v others) at seen why
      ∙ ap (λ u. stopped at u why) (sym (append-nil seen))
  tests_stop (x ∷ ws) w others why seen kept a e after =
      let t : EntryAt = test_at x in
      ap (pass_all order (fetched ++ after) (tests h 0 v (ws ++ w ∷ others)))
      (test_passed order (fetched ++ after) table h h 0 at x.attr x.wanted (found_in x.attr v) seen (judge seen kept x after ∙ a.0))
      ∙ tests_stop ws w others why (seen ++ t ∷ []) (kept_later h v k seen (t ∷ []) (test_silent h x) kept) a.1 e after
      ∙ ap (λ u. stopped at u why) (append_assoc seen (t ∷ []) (all_at at (tests h 0 v ws)))

  pub told_tests : {noted : List Item} {direct : ℕ} (ws : List Agreement) (g : Home) (seen : List EntryAt) (names : Names) (cells : List ℕ) (numbers : List (ℕ × Known)) (max_at : Option ℕ) (n : ℕ)
      (half : List Place)
      → Told noted direct order fetched g seen names cells numbers max_at n half → Told noted direct order fetched g (seen ++ all_at at (tests h 0 v ws)) names cells numbers max_at n half
  told_tests {noted = noted} {direct = direct} [] g seen names cells numbers max_at n half t =
      subst (λ u. Told noted direct order fetched g u names cells numbers max_at n half) (sym (append-nil seen)) t
  told_tests {noted = noted} {direct = direct} (w ∷ ws) g seen names cells numbers max_at n half t =
      let x : EntryAt = test_at w in
      let lies : Lies (fetched ++ []) x = let i : length (fetched ++ []) ≡ length fetched + 0 = length-append fetched [] in omega (arith, i, reached) in
      let one : Told noted direct order fetched g (seen ++ x ∷ []) names cells numbers max_at n half =
      subst (λ ns. Told ns direct order fetched g (seen ++ x ∷ []) names cells numbers max_at n half) (append-nil noted)
      (subst (λ os. Told (noted ++ []) direct order os g (seen ++ x ∷ []) names cells numbers max_at n half) (append-nil fetched)
      (told_passed [] order fetched [] g seen names cells numbers max_at n half x refl tt tt refl lies t)) in
      subst (λ u. Told noted direct order fetched g u names cells numbers max_at n half) (append_assoc seen (x ∷ []) (all_at at (tests h 0 v ws)))
      (told_tests ws g (seen ++ x ∷ []) names cells numbers max_at n half one)

  -- what is kept stays right while agreements are tried
  pub keeps_tests : (w : Setting) (noted : List Item) (direct : ℕ) (b : Between) (s : Reading) (seen : List EntryAt) (ps : List Pending) (ws : List Agreement)
      → Keeps w order fetched noted direct b s seen ps → Keeps w order fetched noted direct b s (seen ++ all_at at (tests h 0 v ws)) ps
  keeps_tests w noted direct b s seen ps ws x = record {
    at = x.at;
    pending = x.pending;
    told = λ g u. told_tests ws g seen s.names b.cells b.numbers None 0 [] (x.told g u);
    roots = roots_later seen (all_at at (tests h 0 v ws)) 0 s.roots b.roots (λ j l. tests_silent (home.Root j) ws) x.roots;
    read = λ c p. (let (y, e, z) = x.read c p in (y, e, kept_later (cell_home c) (cell_at (graph_of s.roots s.names) c) y seen (all_at at (tests h 0 v ws)) (tests_silent (cell_home c) ws) z));
    not_read = x.not_read;
    graph = x.graph;
  }
