-- `check`: an agreement of a struct's member, and the end of the struct after the last one.
use Rattle.std.proofs.Common.{◌≡◌, ◌≤◌, ◌<◌, ◌⊎◌, inl, inr, ℕ, ◌+◌, suc, Bool, true, false, List, [], ◌∷◌, ◌++◌, length, Option, Some, None, refl, ap, ap₂, sym, ◌∙◌, subst, arith, append_assoc}
use Rattle.std.proofs.Common.{length-append, map}
use Rattle.std.specs.Prelude.{ℤ, cond, option_map, if◌then◌else◌}
use Rattle.std.specs.List.{AllByRecursion, slice_get}
use Rattle.std.specs.Ordering.{int_eq}
use Rattle.std.proofs.lemmas.List.{append-nil, length-map, map-append}
use Rattle.std.proofs.lemmas.Option.{same_Some, slice_get_within, slice_get_past as past_end, none-some}
use Rattle.nd_base.specs.declared.octets.Order.{Order}
use Rattle.nd_types.specs.declared.types.Attr.{Attr}
use Rattle.nd_types.specs.declared.types.AttrVar.{AttrVar}
use Rattle.nd_types.specs.declared.types.Field.{Field}
use Rattle.nd_types.specs.Table.{Table}
use Rattle.nd_value.specs.declared.item.Home.{Home}
use Rattle.nd_value.specs.declared.item.Item.{Item}
use Rattle.nd_value.specs.Agreement.{Agreement, agreement, wanted_by, member_agreements, number_in, found_in}
use Rattle.nd_value.specs.Tree.{Tree, Trees, node, none, more, joined, Label, Flat, flat, count, node_count, is_pointer}
use Rattle.nd_grammar.specs.declared.reason.Reason.{Reason}
use Rattle.nd_grammar.specs.declared.reason.Reason.TheVariants as reason
use Rattle.nd_grammar.specs.Entry.{Entry, EntryAt, Test, child_tests, own_tests, tests}
use Rattle.nd_grammar.specs.Refusal.{refusal, tested_at}
use Rattle.nd_grammar.specs.Reader.{Names, Read, pass_all, tree_nodes}
use Rattle.ndr_code.specs.declared.instr.Instr.{Instr}
use Rattle.ndr_code.specs.declared.instr.Instr.TheVariants as op
use Rattle.ndr_code.specs.declared.lists.EnumList.{EnumList}
use Rattle.ndr_code.specs.Code.{field_checks, member_checks}
use Rattle.ndr_code.specs.Runs.{IsRunAt}
use Rattle.ndr_code.proofs.Runs.{next_at}
use Rattle.ndr_decoder_laws.specs.reader.Around.{Around, going, finish, tried, nodes_around, nodes_between, pointers, governed_pointers, pointers_around, Numbered, Tied}
use Rattle.ndr_decoder_laws.specs.reader.Points.{checking}
use Rattle.ndr_decoder_laws.specs.reader.ChildNodes.{first_nodes, tree_at, top, top_of}
use Rattle.ndr_decoder_laws.proofs.reader.ChildPlaces.{first_node_is, same_number, same_found, number_at}
use Rattle.ndr_decoder_laws.proofs.reader.Continuing.{refused as stops_at, all_stay}
use Rattle.ndr_decoder_laws.proofs.reader.FromPoint.{test_passed}
use Rattle.ndr_decoder_laws.specs.declared.first.First.{First}
use Rattle.ndr_decoder_laws.specs.declared.first.Member.{Member}
use Rattle.ndr_decoder_laws.specs.declared.frame.Frame.{Frame}
use Rattle.ndr_decoder_laws.specs.declared.frame.Frame.TheVariants as frame
use Rattle.ndr_decoder_laws.specs.steps.Spots.{IsFine, IsStruct, Inside, Fits, IsShaped, AreShaped, at_member, types_of}
use Rattle.ndr_decoder_laws.specs.steps.Steps.{State, Outcome, goes, refused, Owed, begun, next, with_fresh, joined_by, check_in, checked, try_all, disagreed, place_of, place_in, first_of}
use Rattle.ndr_decoder_laws.specs.steps.Steps.{first_number, first_found, is_owing}
use Rattle.ndr_decoder_laws.specs.steps.Good.{Told, Kept, Good, IsRight, owed, BeginsAt, Begin, BeginStruct, members_around, members_of, read_members}
use Rattle.ndr_decoder_laws.proofs.steps.Passing.{told_passed, kept_passed, silent, judged, Lies}
use Rattle.ndr_decoder_laws.proofs.steps.Arriving.{KeptAll, KeptOwn}
use Rattle.ndr_decoder_laws.proofs.steps.Adding.{stop_by}
use Rattle.ndr_decoder_laws.proofs.steps.MemberChecks.{first_number_is, owing_is, SameFound, found_is, get_behind, number_past, tree_there, member_at, member_is, other_joins, pointer_joins}
use Rattle.nd_lemmas.proofs.Lists.{past_end as at_end, item_at as there}

-- a struct all of whose members were read
pub record AllRead (noted : List Item) (direct : ℕ) (order : Order) (fetched : List ℕ) (code : List Instr) (table : Table) (h : Home) (own limit : ℕ) (k : ℕ) (fs : List Around) (f : Around)
    (members : List Field) (seen : List EntryAt) (names : Names) (s : State) : Type 0 where
  pub deep : suc k + length fs ≡ limit
  pub phase : s.phase ≡ begun
  pub is : IsStruct code table f [] members []
  pub back : ℕ
  pub start : ℕ
  pub top_is : s.top ≡ frame.Record back start
  pub outer : Frame
  pub under : List Frame
  pub stack_is : s.stack ≡ outer ∷ under
  pub inside : Inside code table outer under fs
  pub begin : BeginStruct table h s.top s.stack fs
  pub fits : Fits code table (suc k) fs
  pub tied : Tied own f.typed fs
  pub nodes : s.nodes ≡ nodes_between f fs
  pub here_it : f.node ≡ length (nodes_around fs)
  pub none_left : f.left ≡ []
  pub numbered : Numbered fs
  pub members_are : s.members ≡ members_around table h fs ++ read_members table h f.label f fs
  pub many : length s.firsts + 0 ≡ length s.members
  pub kept : KeptAll h seen s.max_at s.nodes s.members s.firsts
  pub first : KeptOwn h seen s.max_at s.nodes s.own
  pub told : Told noted direct order fetched h seen names s.cells s.numbers s.max_at (length s.nodes) []
  pub reached : length fetched ≡ s.at

-- how an agreement is judged, by whether it holds
abbrev verdict : ℤ → ℤ → Option ℕ → Bool → Option (ℕ × Reason)
verdict wanted found place b = cond b None (option_map (λ n. (n, reason.Disagrees wanted found)) place)

-- what is left of an agreement's list is the rest of it
agreements_joined : (ks : Trees) (xs ys : List AttrVar) → member_agreements ks (xs ++ ys) ≡ member_agreements ks xs ++ member_agreements ks ys
agreements_joined ks [] ys = refl
agreements_joined ks (x ∷ xs) ys =
    ap (λ zs. agreement x.attr (number_in ks x.var) ++ zs) (agreements_joined ks xs ys)
    ∙ sym (append_assoc (agreement x.attr (number_in ks x.var)) (member_agreements ks xs) (member_agreements ks ys))

types_split : (passed : List Field) (g : Field) (later : List Field) → types_of (passed ++ g ∷ later) ≡ types_of passed ++ g.of.0 ∷ types_of later
types_split passed g later = map-append (λ p. p.of.0) passed (g ∷ later)

shaped_at : (table : Table) (us : List ℕ) (u : ℕ) (vs : List ℕ) (xs : Trees) (x : Tree) (ys : Trees) → length us ≡ count xs → AreShaped table (us ++ u ∷ vs) (joined xs (more x ys))
    → IsShaped table u x
shaped_at table [] u vs none x ys e a = a.0
shaped_at table [] u vs (more y xs) x ys e a = absurd (omega (arith, e))
shaped_at table (w ∷ us) u vs none x ys e a = absurd (omega (arith, e))
shaped_at table (w ∷ us) u vs (more y xs) x ys e a = shaped_at table us u vs xs x ys (omega (arith, e)) a.1

module _ (order : Order) (fetched : List ℕ) (code : List Instr) (values : List EnumList) (table : Table) (h : Home) (own limit : ℕ) (noted : List Item) (direct : ℕ) (target : List ℕ → Read)
    (s : State) (k : ℕ) (fs : List Around) (f : Around) (members : List Field) (seen : List EntryAt) (names : Names)
    (all : AllRead noted direct order fetched code table h own limit k fs f members seen names s) where
  abbrev ps : ℕ
  ps = length (pointers_around table h fs)

  abbrev mine : List Member
  mine = members_of table h ps f.before (f.node + 1) f.done

  starts : all.start ≡ length (members_around table h fs)
  starts =
      let b : BeginsAt (length (members_around table h fs)) (frame.Record all.back all.start) × Begin table h all.outer all.under fs =
      subst (λ st. BeginStruct table h (frame.Record all.back all.start) st fs) all.stack_is (subst (λ x. BeginStruct table h x s.stack fs) all.top_is all.begin) in b.0

  members_here : s.members ≡ members_around table h fs ++ mine
  members_here = all.members_are ∙ ap (λ l. members_around table h fs ++ read_members table h l f fs) all.is.label

  member_of : (j : ℕ) → slice_get s.members (all.start + j) ≡ slice_get mine j
  member_of j = ap₂ (λ ms n. slice_get ms (n + j)) members_here starts ∙ get_behind (members_around table h fs) mine j

  -- the nodes of the home up to the struct's own, and those of its members
  abbrev before : List Flat
  before = nodes_around fs ++ (f.label, count f.done + length f.left) ∷ []

  nodes_here : s.nodes ≡ before ++ flat f.done
  nodes_here = all.nodes ∙ sym (append_assoc (nodes_around fs) ((f.label, count f.done + length f.left) ∷ []) (flat f.done))

  before_many : f.node + 1 ≡ length before
  before_many =
      let l : length before ≡ length (nodes_around fs) + 1 = length-append (nodes_around fs) ((f.label, count f.done + length f.left) ∷ []) in
      let e : f.node ≡ length (nodes_around fs) = all.here_it in omega (arith, l, e)

  -- what is kept of a member is that of its tree
  record KeptAs (j : ℕ) (m : Member) (y : Tree) : Type 0 where
    pub w : First
    pub place : Option ℕ
    pub there_it : slice_get s.firsts (all.start + j) ≡ Some w
    pub is_it : w ≡ first_of (top y) place
    pub found : (a : Attr) → tested_at seen a h m.node ≡ place_of a s.max_at (place_in w)

  kept_as : (j : ℕ) (m : Member) (y : Tree) → slice_get mine j ≡ Some m → tree_at f.done j ≡ Some y → slice_get (first_nodes (f.node + 1) f.done) j ≡ Some m.node → KeptAs j m y
  kept_as j m y em ey en =
      let a : slice_get s.members (all.start + j) ≡ Some m = member_of j ∙ em in
      let l : all.start + j < length s.members = slice_get_within s.members (all.start + j) m a in
      let x = there s.firsts (all.start + j) (let e : length s.firsts + 0 ≡ length s.members = all.many in omega (arith, e, l)) in
      let kept : Kept h seen s.max_at s.nodes m.node x.0 = all.kept (all.start + j) m x.0 a x.1 in
      let node_is : slice_get s.nodes m.node ≡ Some (top y) =
      ap (λ ns. slice_get ns m.node) nodes_here ∙ first_node_is before f.done j m.node (subst (λ n. slice_get (first_nodes n f.done) j ≡ Some m.node) before_many en) ∙ ap top_of ey in
      record {
        w = x.0;
        place = kept.place;
        there_it = x.1;
        is_it = kept.kept ∙ ap (λ z. first_of z kept.place) (same_Some kept.is (top y) (sym kept.there ∙ node_is));
        found = kept.found;
      }

  -- the number of a variable is the one that is kept
  variable : (j : ℕ) → first_number (slice_get s.firsts (all.start + j)) ≡ number_in f.done j
  variable j = by_member (member_at table h ps f.before (f.node + 1) f.done j all.is.many)
    where
      by_member : ((slice_get mine j ≡ None) × (tree_at f.done j ≡ None))
          ⊎ ((m : Member) × (y : Tree) × (slice_get mine j ≡ Some m) × (tree_at f.done j ≡ Some y) × (slice_get (first_nodes (f.node + 1) f.done) j ≡ Some m.node))
          → first_number (slice_get s.firsts (all.start + j)) ≡ number_in f.done j
      by_member (inl e) =
          let l : length s.members ≤ all.start + j = at_end s.members (all.start + j) (member_of j ∙ e.0) in
          ap first_number (past_end s.firsts (all.start + j) (let m : length s.firsts + 0 ≡ length s.members = all.many in omega (arith, m, l)))
          ∙ sym (number_past f.done j e.1)
      by_member (inr (m, y, em, ey, en)) =
          let kept : KeptAs j m y = kept_as j m y em ey en in
          ap first_number (kept.there_it ∙ ap Some kept.is_it) ∙ first_number_is (top y) kept.place ∙ same_number y ∙ sym (number_at f.done j y ey)

  -- an agreement of the member that comes after those passed
  module _ (xs ys : Trees) (l : Label) (ks : Trees) (done later : List Field) (g : Field) (tried_ left : List AttrVar) (a : AttrVar) (em : members ≡ done ++ g ∷ later)
      (ed : f.done ≡ joined xs (more (node l ks) ys)) (ec : count xs ≡ length done)
      (ev : g.vars ≡ tried_ ++ a ∷ left) where
    abbrev x : Tree
    x = node l ks

    abbrev number : ℕ
    number = f.node + 1 + node_count xs

    types : f.before ≡ types_of done ++ g.of.0 ∷ types_of later
    types = sym (append-nil f.before) ∙ all.is.all ∙ ap types_of em ∙ types_split done g later

    many_types : length (types_of done) ≡ count xs
    many_types = length-map done (λ p. p.of.0) ∙ sym ec

    member_there : slice_get mine (length done) ≡ Some (record { node = number; pending = ps + length (pointers table h (types_of done) (f.node + 1) xs) })
    member_there =
        ap (slice_get mine) (sym ec) ∙ ap₂ (λ us ts. slice_get (members_of table h ps us (f.node + 1) ts) (count xs)) types ed
        ∙ member_is table h (types_of done) (types_of later) g.of.0 ps (f.node + 1) xs x ys many_types

    kept_there : KeptAs (length done) (record { node = number; pending = ps + length (pointers table h (types_of done) (f.node + 1) xs) }) x
    kept_there = by_member (member_at table h ps f.before (f.node + 1) f.done (length done) all.is.many)
      where
        by_member : ((slice_get mine (length done) ≡ None) × (tree_at f.done (length done) ≡ None))
            ⊎ ((m : Member) × (y : Tree) × (slice_get mine (length done) ≡ Some m) × (tree_at f.done (length done) ≡ Some y)
            × (slice_get (first_nodes (f.node + 1) f.done) (length done) ≡ Some m.node))
            → KeptAs (length done) (record { node = number; pending = ps + length (pointers table h (types_of done) (f.node + 1) xs) }) x
        by_member (inl e) = let wrong : None ≡ Some (record { node = number; pending = ps + length (pointers table h (types_of done) (f.node + 1) xs) }) =
            sym e.0 ∙ member_there in absurd (none-some (record { node = number; pending = ps + length (pointers table h (types_of done) (f.node + 1) xs) }) wrong)
        by_member (inr (m, y, mem, ey, en)) =
            let same : m ≡ record { node = number; pending = ps + length (pointers table h (types_of done) (f.node + 1) xs) } = same_Some m _ (sym mem ∙ member_there) in
            let same_tree : y ≡ x = same_Some y x (sym ey ∙ (ap₂ (λ ts j. tree_at ts j) ed (sym ec) ∙ tree_there xs x ys)) in
            subst (KeptAs (length done) (record { node = number; pending = ps + length (pointers table h (types_of done) (f.node + 1) xs) })) same_tree
            (subst (λ v. KeptAs (length done) v y) same (kept_as (length done) m y mem ey en))

    abbrev agreed : List Agreement
    agreed = agreement a.attr (number_in f.done a.var)

    abbrev so_far_of : List AttrVar → List (List Agreement)
    so_far_of vars = map (λ p. member_agreements f.done p.vars) done ++ member_agreements f.done vars ∷ []

    abbrev others : List Entry
    others = child_tests h (map (λ p. member_agreements f.done p.vars) later) (number + tree_nodes x) ys

    abbrev tests_with : List Agreement → List Entry
    tests_with ws = own_tests (is_pointer l) h number x ws ++ others

    abbrev Right : Outcome → Type 0
    Right o = IsRight order fetched code table h own limit noted direct target s.at seen o

    -- the step is the one of this member
    outcome_is : check_in s.top a.attr (length done) a.var s
        ≡ checked agreed (Some (record { node = number; pending = ps + length (pointers table h (types_of done) (f.node + 1) xs) })) (Some kept_there.w) s
    outcome_is =
        ap (λ t. check_in t a.attr (length done) a.var s) all.top_is
        ∙ ap (λ o. checked (agreement a.attr o) (slice_get s.members (all.start + length done)) (slice_get s.firsts (all.start + length done)) s) (variable a.var)
        ∙ ap₂ (λ m w. checked agreed m w s) (member_of (length done) ∙ member_there) kept_there.there_it

    owing : is_owing kept_there.w ≡ is_pointer l
    owing = ap is_owing kept_there.is_it ∙ owing_is l (count ks) kept_there.place

    module _ (run : IsRunAt code s.pc ((field_checks (length done) (a ∷ left) ++ member_checks (length done + 1) later) ++ (op.Close ∷ op.Ret ∷ [])))
        (owes : s.fresh ≡ map (owed table) (pointers_around table h fs ++ governed_pointers table h f.before (so_far_of tried_) (f.node + 1) f.done))
        (rest : (after : List ℕ) → finish order (fetched ++ after) table h s.max (suc k) fs
        (tried order (fetched ++ after) table h f f.done (tests_with (member_agreements f.done (a ∷ left))) (going s.at seen) names) ≡ target (fetched ++ after)) where
      abbrev there_all : List Owed → Type 0
      there_all fresh = fresh ≡ map (owed table) (pointers_around table h fs ++ governed_pointers table h f.before (so_far_of (tried_ ++ a ∷ [])) (f.node + 1) f.done)

      -- the state at the next check
      next_good : (seen' : List EntryAt) (fresh : List Owed) → KeptAll h seen' s.max_at s.nodes s.members s.firsts → KeptOwn h seen' s.max_at s.nodes s.own
          → Told noted direct order fetched h seen' names s.cells s.numbers s.max_at (length s.nodes) [] → there_all fresh
          → ((after : List ℕ) → finish order (fetched ++ after) table h s.max (suc k) fs
          (tried order (fetched ++ after) table h f f.done (tests_with (member_agreements f.done left)) (going s.at seen') names) ≡ target (fetched ++ after))
          → Good order fetched code table h own limit noted direct target (next (with_fresh fresh s))
      next_good seen' fresh kept first told owes' rest' = record {
        depth = suc k;
        fs = fs;
        point = checking f (so_far_of (tried_ ++ a ∷ [])) (tests_with (member_agreements f.done left));
        seen = seen';
        names = names;
        deep = all.deep;
        spot = (
          members,
          field_checks (length done) left ++ member_checks (length done + 1) later,
          all.is,
          at_member xs ys x done later g (tried_ ++ a ∷ []) left em ed ec (ev ∙ sym (append_assoc tried_ (a ∷ []) left)),
          next_at code s.pc (op.Check a.attr (length done) a.var a.star) ((field_checks (length done) left ++ member_checks (length done + 1) later) ++ (op.Close ∷ op.Ret ∷ [])) run,
        );
        phase = refl;
        registers = tt;
        inside = ((all.back, all.start, all.top_is), (all.outer, (all.under, all.stack_is, all.inside)));
        begin = all.begin;
        fits = (subst (λ ts. AllByRecursion (IsFine table k) ts) (sym all.none_left) tt, all.fits);
        tied = all.tied;
        nodes = all.nodes;
        numbered = (all.here_it, all.none_left, all.numbered);
        members = all.members_are;
        pending = owes';
        many = all.many;
        kept = kept;
        first = first;
        reached = let r : length fetched ≡ s.at = all.reached in omega (arith, r);
        holds = tt;
        told = told;
        rest = rest';
      }

      so_far_joined : member_agreements f.done tried_ ++ agreed ≡ member_agreements f.done (tried_ ++ a ∷ [])
      so_far_joined = ap (λ zs. member_agreements f.done tried_ ++ zs) (sym (append-nil agreed)) ∙ sym (agreements_joined f.done tried_ (a ∷ []))

      many_before : length (map (λ p. member_agreements f.done p.vars) done) ≡ count xs
      many_before = length-map done (λ p. member_agreements f.done p.vars) ∙ sym ec

      same_pointers : (ws : List (List Agreement))
          → governed_pointers table h f.before ws (f.node + 1) f.done ≡ governed_pointers table h (types_of done ++ g.of.0 ∷ types_of later) ws (f.node + 1) (joined xs (more x ys))
      same_pointers ws = ap₂ (λ us ts. governed_pointers table h us ws (f.node + 1) ts) types ed

      -- a pointer: the agreement joins its pending referent
      joins : is_pointer l ≡ true → there_all (joined_by agreed s.fresh (ps + length (pointers table h (types_of done) (f.node + 1) xs)))
      joins e =
          ap (λ zs. joined_by agreed zs (ps + length (pointers table h (types_of done) (f.node + 1) xs)))
          (owes ∙ ap (λ zs. map (owed table) (pointers_around table h fs ++ zs)) (same_pointers (so_far_of tried_)))
          ∙ pointer_joins table h (pointers_around table h fs) (types_of done) (types_of later) (map (λ p. member_agreements f.done p.vars) done) g.of.0 (f.node + 1) xs ys l ks many_types many_before
          (member_agreements f.done tried_) agreed e
          (shaped_at table (types_of done) g.of.0 (types_of later) xs x ys many_types
          (subst (λ us. AreShaped table us (joined xs (more x ys))) types (subst (AreShaped table f.before) ed all.is.shaped)))
          ∙ ap (λ w. map (owed table)
          (pointers_around table h fs
          ++ governed_pointers table h (types_of done ++ g.of.0 ∷ types_of later) (map (λ p. member_agreements f.done p.vars) done ++ w ∷ []) (f.node + 1) (joined xs (more x ys)))) so_far_joined
          ∙ ap (λ zs. map (owed table) (pointers_around table h fs ++ zs)) (sym (same_pointers (so_far_of (tried_ ++ a ∷ []))))

      -- no pointer: it changes none
      stays : is_pointer l ≡ false → there_all s.fresh
      stays e =
          owes ∙ ap (λ zs. map (owed table) (pointers_around table h fs ++ zs))
          (same_pointers (so_far_of tried_)
          ∙ other_joins table h (pointers_around table h fs) (types_of done) (types_of later) (map (λ p. member_agreements f.done p.vars) done) g.of.0 (f.node + 1) xs ys l ks many_types many_before
          (member_agreements f.done tried_) (member_agreements f.done (tried_ ++ a ∷ [])) e
          ∙ sym (same_pointers (so_far_of (tried_ ++ a ∷ []))))

      -- the agreement of a member that is no pointer
      abbrev test_of : ℤ → EntryAt
      test_of z = record { at = s.at; entry = record { home = h; node = number; kind = Test a.attr (wanted_by a.attr z) (found_in a.attr x) } }

      judge : (after : List ℕ) (z : ℤ) → refusal order (fetched ++ after) seen (test_of z)
          ≡ verdict (wanted_by a.attr z) (found_in a.attr x) (place_of a.attr s.max_at (place_in kept_there.w)) (int_eq (wanted_by a.attr z) (found_in a.attr x))
      judge after z =
          ap (λ os. refusal order (os ++ after) seen (test_of z)) (sym (append-nil fetched))
          ∙ judged order fetched [] after s.at all.reached (test_of z).entry seen refl refl
          ∙ ap (λ o. verdict (wanted_by a.attr z) (found_in a.attr x) o (int_eq (wanted_by a.attr z) (found_in a.attr x))) (kept_there.found a.attr)

      -- it holds, or has no place
      passes : (z : ℤ) → is_pointer l ≡ false → number_in f.done a.var ≡ Some z
          → verdict (wanted_by a.attr z) (found_in a.attr x) (place_of a.attr s.max_at (place_in kept_there.w)) (int_eq (wanted_by a.attr z) (found_in a.attr x)) ≡ None
          → Right (goes (next s))
      passes z e en none_is =
          let t : EntryAt = test_of z in
          let lies : Lies (fetched ++ []) t = let i : length (fetched ++ []) ≡ length fetched + 0 = length-append fetched [] in let r : length fetched ≡ s.at = all.reached in omega (arith, i, r) in
          next_good (seen ++ t ∷ []) s.fresh
          (λ i m w c b. kept_passed h seen s.max_at s.nodes m.node w t (λ q. silent q h m.node t tt) (all.kept i m w c b))
          (all.first.0, all.first.1, kept_passed h seen s.max_at s.nodes 0 all.first.0 t (λ q. silent q h 0 t tt) all.first.2)
          (subst (λ ns. Told ns direct order fetched h (seen ++ t ∷ []) names s.cells s.numbers s.max_at (length s.nodes) []) (append-nil noted)
          (subst (λ os. Told (noted ++ []) direct order os h (seen ++ t ∷ []) names s.cells s.numbers s.max_at (length s.nodes) []) (append-nil fetched)
          (told_passed [] order fetched [] h seen names s.cells s.numbers s.max_at (length s.nodes) [] t refl tt tt refl lies all.told)))
          (stays e)
          (λ after.
          ap (finish order (fetched ++ after) table h s.max (suc k) fs)
          (sym (ap (λ b. tried order (fetched ++ after) table h f f.done (own_tests b h number x (member_agreements f.done (a ∷ left)) ++ others) (going s.at seen) names) e
          ∙ ap (λ o. tried order (fetched ++ after) table h f f.done (tests h number x (agreement a.attr o ++ member_agreements f.done left) ++ others) (going s.at seen) names) en
          ∙ ap (λ p. tried order (fetched ++ after) table h f f.done (tests h number x (member_agreements f.done left) ++ others) p names)
          (test_passed order (fetched ++ after) table h h number s.at a.attr (wanted_by a.attr z) (found_in a.attr x) seen (judge after z ∙ none_is))
          ∙ ap (λ b. tried order (fetched ++ after) table h f f.done (own_tests b h number x (member_agreements f.done left) ++ others) (going s.at (seen ++ t ∷ [])) names) (sym e)))
          ∙ rest after)

      -- it does not hold, at this place
      fails : (z : ℤ) (place : ℕ) → is_pointer l ≡ false → number_in f.done a.var ≡ Some z → int_eq (wanted_by a.attr z) (found_in a.attr x) ≡ false
          → place_of a.attr s.max_at (place_in kept_there.w) ≡ Some place
          → Right (refused place (reason.Disagrees (wanted_by a.attr z) (found_in a.attr x)))
      fails z place e en differs ep = λ after.
          let why : ℕ × Reason = (place, reason.Disagrees (wanted_by a.attr z) (found_in a.attr x)) in
          let t : Entry = (test_of z).entry in
          let r : refusal order (fetched ++ after) seen (test_of z) ≡ Some why =
          judge after z ∙ ap₂ (λ b o. verdict (wanted_by a.attr z) (found_in a.attr x) o b) differs ep in
          let left_over : List Entry = tests h number x (member_agreements f.done left) ++ others in
          stop_by order (fetched ++ after) table h (suc k) s.max fs (tried order (fetched ++ after) table h f f.done (t ∷ left_over) (going s.at seen) names) (target (fetched ++ after)) s.at seen why
          (ap (λ p. pass_all order (fetched ++ after) left_over p) (stops_at order (fetched ++ after) t s.at seen why r) ∙ all_stay order (fetched ++ after) left_over s.at seen why)
          (ap (finish order (fetched ++ after) table h s.max (suc k) fs)
          (sym (ap (λ b. tried order (fetched ++ after) table h f f.done (own_tests b h number x (member_agreements f.done (a ∷ left)) ++ others) (going s.at seen) names) e
          ∙ ap (λ o. tried order (fetched ++ after) table h f f.done (tests h number x (agreement a.attr o ++ member_agreements f.done left) ++ others) (going s.at seen) names) en))
          ∙ rest after)

      -- what is tried in what is kept is what the plain reader tries in the node
      tries : (z : ℤ) → is_pointer l ≡ false → number_in f.done a.var ≡ Some z → Right (try_all (record { attr = a.attr; wanted = wanted_by a.attr z } ∷ []) kept_there.w s)
      tries z e en = by_found (found_is s.max_at a.attr (top x) kept_there.place)
        where
          wanted : ℤ
          wanted = wanted_by a.attr z

          -- nothing is refused where there is no place
          no_place_passes : place_of a.attr s.max_at (place_in kept_there.w) ≡ None → (b : Bool)
              → verdict wanted (found_in a.attr x) (place_of a.attr s.max_at (place_in kept_there.w)) b ≡ None
          no_place_passes ep true = refl
          no_place_passes ep false = ap (λ o. verdict wanted (found_in a.attr x) o false) ep

          no_place_goes : (b : Bool) (found : ℤ) → Right (goes (next s)) → Right (if b then goes (next s) else disagreed None wanted found (goes (next s)))
          no_place_goes true found r = r
          no_place_goes false found r = r

          by_place : (o : Option ℕ) → place_of a.attr s.max_at (place_in kept_there.w) ≡ o → int_eq wanted (found_in a.attr x) ≡ false → Right (disagreed o wanted (found_in a.attr x) (goes (next s)))
          by_place None ep differs = passes z e en (no_place_passes ep (int_eq wanted (found_in a.attr x)))
          by_place (Some place) ep differs = fails z place e en differs ep

          by_test : (b : Bool) → int_eq wanted (found_in a.attr x) ≡ b
              → Right (if b then goes (next s) else disagreed (place_of a.attr s.max_at (place_in kept_there.w)) wanted (found_in a.attr x) (goes (next s)))
          by_test true holds =
              passes z e en (ap (verdict wanted (found_in a.attr x) (place_of a.attr s.max_at (place_in kept_there.w))) holds)
          by_test false differs = by_place (place_of a.attr s.max_at (place_in kept_there.w)) refl differs

          by_found : SameFound s.max_at a.attr (top x) kept_there.place → Right (try_all (record { attr = a.attr; wanted = wanted } ∷ []) kept_there.w s)
          by_found (inl same) =
              let found : first_found a.attr kept_there.w ≡ found_in a.attr x = ap (first_found a.attr) kept_there.is_it ∙ same ∙ same_found a.attr x in
              subst (λ v. Right (if int_eq wanted v then goes (next s) else disagreed (place_of a.attr s.max_at (place_in kept_there.w)) wanted v (goes (next s)))) (sym found)
              (by_test (int_eq wanted (found_in a.attr x)) refl)
          by_found (inr nowhere) =
              let ep : place_of a.attr s.max_at (place_in kept_there.w) ≡ None = ap (λ w. place_of a.attr s.max_at (place_in w)) kept_there.is_it ∙ nowhere in
              subst (λ o. Right (if int_eq wanted (first_found a.attr kept_there.w) then goes (next s) else disagreed o wanted (first_found a.attr kept_there.w) (goes (next s)))) (sym ep)
              (no_place_goes (int_eq wanted (first_found a.attr kept_there.w)) (first_found a.attr kept_there.w) (passes z e en (no_place_passes ep (int_eq wanted (found_in a.attr x)))))

      -- a variable without a number states nothing
      silent_one : is_pointer l ≡ false → number_in f.done a.var ≡ None → Right (goes (next s))
      silent_one e en =
          next_good seen s.fresh all.kept all.first all.told (stays e)
          (λ after.
          ap (finish order (fetched ++ after) table h s.max (suc k) fs)
          (sym (ap (λ b. tried order (fetched ++ after) table h f f.done (own_tests b h number x (member_agreements f.done (a ∷ left)) ++ others) (going s.at seen) names) e
          ∙ ap (λ o. tried order (fetched ++ after) table h f f.done (tests h number x (agreement a.attr o ++ member_agreements f.done left) ++ others) (going s.at seen) names) en
          ∙ ap (λ b. tried order (fetched ++ after) table h f f.done (own_tests b h number x (member_agreements f.done left) ++ others) (going s.at seen) names) (sym e)))
          ∙ rest after)

      by_number : is_pointer l ≡ false → (o : Option ℤ) → number_in f.done a.var ≡ o → Right (try_all (agreement a.attr o) kept_there.w s)
      by_number e None en = silent_one e en
      by_number e (Some z) en = tries z e en

      by_pointer : (b : Bool) → is_pointer l ≡ b
          → Right (if b then goes (next (with_fresh (joined_by agreed s.fresh (ps + length (pointers table h (types_of done) (f.node + 1) xs))) s)) else try_all agreed kept_there.w s)
      by_pointer true e =
          next_good seen (joined_by agreed s.fresh (ps + length (pointers table h (types_of done) (f.node + 1) xs))) all.kept all.first all.told (joins e)
          (λ after.
          ap (finish order (fetched ++ after) table h s.max (suc k) fs)
          (sym (ap (λ b. tried order (fetched ++ after) table h f f.done (own_tests b h number x (member_agreements f.done (a ∷ left)) ++ others) (going s.at seen) names) e
          ∙ ap (λ b. tried order (fetched ++ after) table h f f.done (own_tests b h number x (member_agreements f.done left) ++ others) (going s.at seen) names) (sym e)))
          ∙ rest after)
      by_pointer false e = by_number e (number_in f.done a.var) refl

      pub check_right : Right (check_in s.top a.attr (length done) a.var s)
      check_right =
          subst Right (sym outcome_is)
          (subst (λ b. Right (if b then goes (next (with_fresh (joined_by agreed s.fresh (ps + length (pointers table h (types_of done) (f.node + 1) xs))) s)) else try_all agreed kept_there.w s))
          (sym owing)
          (by_pointer (is_pointer l) refl))
