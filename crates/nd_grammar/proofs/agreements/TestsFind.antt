-- Over values in their places: each agreement that is tried stands after the count or tag that it speaks of.
use Rattle.std.proofs.Common.{◌≡◌, ℕ, ◌+◌, ℤ, Bool, true, false, List, [], ◌∷◌, ◌++◌, Option, Some, None, refl, ap, sym, ◌∙◌, inl, inr, ◌⊎◌, subst}
use Rattle.std.specs.Prelude.{pos, ◌||◌, map}
use Rattle.std.specs.List.{AllByRecursion}
use Rattle.nd_types.specs.declared.types.TypeDef.{TypeDef}
use Rattle.nd_types.specs.declared.types.Field.{Field}
use Rattle.nd_types.specs.declared.types.Arm.{Arm}
use Rattle.nd_types.specs.declared.types.Attr.{Attr}
use Rattle.nd_types.specs.declared.types.Attr.TheVariants as attr
use Rattle.nd_types.specs.declared.types.AttrVar.{AttrVar}
use Rattle.nd_types.specs.declared.types.TypeDef.TheVariants as def
use Rattle.nd_types.specs.Table.{Table, type_at}
use Rattle.nd_types.specs.Layout.{hoists, hoists_by}
use Rattle.nd_types.specs.Kinds.{pointee, pointee_by, is_conformant_array, is_conformant_text, is_varying_array, is_nonencapsulated}
use Rattle.nd_value.specs.declared.value.Graph.{Graph}
use Rattle.nd_value.specs.declared.item.Home.{Home}
use Rattle.nd_value.specs.Tree as tree
use Rattle.nd_value.specs.Tree.{Tree, Trees, node, none, more, Label, count, node_count, is_pointer}
use Rattle.nd_value.specs.Agreement.{Agreement, agreement, number_in, found_in, member_agreements}
use Rattle.nd_value.specs.Setting.{Among}
use Rattle.nd_value.specs.Nodes.{child_types, child_agreements, first_agreements, rest_agreements}
use Rattle.nd_value.proofs.Apart.{all_left, all_right, all_append, among_left, among_right}
use Rattle.nd_grammar.specs.Entry.{Kind, Entry, Max, Offset, Actual, Num, Tag, Text, Test, Unread, before_children, entries, in_place, tag_entries, counts, tests, own_tests, child_tests, own_max}
use Rattle.nd_grammar.specs.Entry.{hoisted_max, hoisted, whole_value}
use Rattle.nd_grammar.specs.Tested.{HoldsFound, node_of}
use Rattle.nd_grammar.proofs.next.Matching.{Known}
use Rattle.nd_grammar.proofs.next.NextInPlace.{View, view, v_prim, v_enum, v_struct, v_array, v_text, v_union, v_pointer, v_context, v_unread}
use Rattle.nd_grammar.proofs.next.HoistedMaxes.{OnlyLast, last_of, HoistsLast, children}
use Rattle.nd_grammar.proofs.next.NextWhole.{before_unread as unread_before}

-- ## What is among earlier entries

abbrev pub IsReadKind : Kind → Type 0
IsReadKind Unread = ⊥
IsReadKind _ = Unit {0}

abbrev pub AreRead : List Entry → Type 0
AreRead ms = AllByRecursion (λ m. IsReadKind m.kind) ms

-- the entry that an attribute of a subject speaks of
pub record Spoken (a : Attr) (h : Home) (n : ℕ) (found : ℤ) (x : Entry) : Type 0 where
  pub home : x.home ≡ h
  pub node : x.node ≡ node_of a n
  pub holds : HoldsFound a found x.kind

abbrev pub Found : List Entry → Entry → Kind → Type 0
Found seen m (Test a wanted found) = (x : Entry) × Among seen x × Spoken a m.home m.node found x
Found seen m _ = Unit {0}

-- After earlier entries, the latest first, each agreement of these finds what it speaks of; but after an unread value nothing is said.
abbrev pub Finds : List Entry → List Entry → Type 0
Finds seen [] = Unit {0}
Finds seen (m ∷ ms) = (m.kind ≡ Unread) ⊎ (IsReadKind m.kind × Found seen m m.kind × Finds (m ∷ seen) ms)

-- these entries too are earlier ones
abbrev pub onto : List Entry → List Entry → List Entry
onto [] seen = seen
onto (m ∷ ms) seen = onto ms (m ∷ seen)

pub behind : (ms ns seen : List Entry) → Finds seen ms → (AreRead ms → Finds (onto ms seen) ns) → Finds seen (ms ++ ns)
behind [] ns seen a k = k tt
behind (m ∷ ms) ns seen (inl u) k = inl u
behind (m ∷ ms) ns seen (inr (r, f, a)) k = inr (r, f, behind ms ns (m ∷ seen) a (λ rs. k (r, rs)))

abbrev pub Within : List Entry → List Entry → Type 0
Within xs ys = (x : Entry) → Among xs x → Among ys x

pub still_seen : (ms seen : List Entry) → Within seen (onto ms seen)
still_seen [] seen x h = h
still_seen (m ∷ ms) seen x h = still_seen ms (m ∷ seen) x (inr h)

pub now_seen : (ms seen : List Entry) → Within ms (onto ms seen)
now_seen [] seen x h = absurd h
now_seen (m ∷ ms) seen x (inl e) = still_seen ms (m ∷ seen) x (inl e)
now_seen (m ∷ ms) seen x (inr h) = now_seen ms (m ∷ seen) x h

abbrev pub IsNoTest : Kind → Type 0
IsNoTest (Test a wanted found) = ⊥
IsNoTest _ = Unit {0}

-- entries that are no agreements
pub kinds_find : (h : Home) (n : ℕ) (seen : List Entry) (xs : List Kind) → AllByRecursion IsNoTest xs → Finds seen (entries h n xs)
kinds_find h n seen [] a = tt
kinds_find h n seen (Unread ∷ xs) a = inl refl
kinds_find h n seen (Test q wanted found ∷ xs) a = absurd a.0
kinds_find h n seen (x ∷ xs) a = inr (tt, tt, kinds_find h n (record { home = h; node = n; kind = x } ∷ seen) xs a.1)

pub entry_among : (h : Home) (n : ℕ) (xs : List Kind) (x : Kind) → Among xs x → Among (entries h n xs) (record { home = h; node = n; kind = x })
entry_among h n [] x m = absurd m
entry_among h n (y ∷ ys) x (inl e) = inl (ap (λ u. record { home = h; node = n; kind = u }) e)
entry_among h n (y ∷ ys) x (inr m) = inr (entry_among h n ys x m)

pub kinds_read : (h : Home) (n : ℕ) (xs : List Kind) → AreRead (entries h n xs) → AllByRecursion IsReadKind xs
kinds_read h n [] a = tt
kinds_read h n (x ∷ xs) a = (a.0, kinds_read h n xs a.1)

-- ## What stands of a node before its children

tags_plain : (d : Option TypeDef) (arms : List Arm) (default : Option Arm) (v : ℤ) → AllByRecursion IsNoTest (tag_entries d arms default v)
tags_plain (Some (def.Prim p)) arms default v = (tt, (tt, tt))
tags_plain (Some (def.Enum vs)) arms default v = (tt, (tt, tt))
tags_plain None arms default v = (tt, tt)
tags_plain (Some _) arms default v = (tt, tt)

counts_plain : (b : Bool) (m o n : ℕ) → AllByRecursion IsNoTest (counts b m o n)
counts_plain true m o n = (tt, (tt, (tt, tt)))
counts_plain false m o n = tt

plain_by : (table : Table) (t : ℕ) (d : Option TypeDef) (l : Label) (ks : Trees) → View table t d l → AllByRecursion IsNoTest (before_children table t d l ks)
plain_by table t d l ks v_prim = (tt, (tt, tt))
plain_by table t d l ks v_enum = (tt, (tt, tt))
plain_by table t d l ks v_struct = (tt, tt)
plain_by table t d l ks (v_array {v = b} {m = m} {o = o}) = counts_plain b m o (count ks)
plain_by table t d l ks v_text = (tt, (tt, (tt, (tt, tt))))
plain_by table t d l ks (v_union {tag = tag} {arms = arms} {d = default} {v = v}) = tags_plain (type_at table tag.0) arms default v
plain_by table t d l ks v_pointer = (tt, (tt, tt))
plain_by table t d l ks v_context = (tt, (tt, tt))
plain_by table t d l ks (v_unread f) = subst (AllByRecursion IsNoTest) (sym (f ks)) (tt, tt)

pub before_plain : (table : Table) (t : ℕ) (d : Option TypeDef) (l : Label) (ks : Trees) → AllByRecursion IsNoTest (before_children table t d l ks)
before_plain table t d l ks = plain_by table t d l ks (view table t d l)

pub read_label : (table : Table) (t : ℕ) (d : Option TypeDef) (l : Label) (ks : Trees) → AllByRecursion IsReadKind (before_children table t d l ks) → l ≡ tree.Unread → ⊥
read_label table t d l ks r e =
    (subst (AllByRecursion IsReadKind) (ap (λ u. before_children table t d u ks) e ∙ unread_before table t d ks) r).0

pub is_read : (l : Label) → (l ≡ tree.Unread) ⊎ (l ≡ tree.Unread → ⊥)
is_read tree.Unread = inl refl
is_read (tree.Num z) = inr (λ e. cc)
is_read _ = inr (λ e. cc)

-- ## Attributes and what they speak of

-- a subject of this type has what an attribute speaks of
abbrev pub AttrFits : Attr → Option TypeDef → Type 0
AttrFits attr.Size d = (is_conformant_array d || is_conformant_text d) ≡ true
AttrFits attr.Max d = (is_conformant_array d || is_conformant_text d) ≡ true
AttrFits attr.First d = is_varying_array d ≡ true
AttrFits attr.Length d = is_varying_array d ≡ true
AttrFits attr.Last d = is_varying_array d ≡ true
AttrFits attr.Switch d = is_nonencapsulated d ≡ true

-- the maximum count of a home
abbrev pub HasMax : List Entry → Home → ℕ → Type 0
HasMax seen h m = (x : Entry) × Among seen x × (x.home ≡ h) × (x.node ≡ 0) × (x.kind ≡ Max m)

module _ (table : Table) (seen : List Entry) (h : Home) (t n : ℕ) where
  -- the entry that an attribute speaks of is among earlier entries
  abbrev pub Has : Attr → ℤ → Type 0
  Has a found = (x : Entry) × Among seen x × Spoken a h n found x

  abbrev Seen : Kind → Type 0
  Seen x = Among seen (record { home = h; node = n; kind = x })

  max_size : (m : ℕ) → HasMax seen h m → Has attr.Size (pos m)
  max_size m (x, s, eh, en, ek) = (x, s, record { home = eh; node = en; holds = subst (HoldsFound attr.Size (pos m)) (sym ek) refl })

  max_max : (m : ℕ) → HasMax seen h m → Has attr.Max (pos m)
  max_max m (x, s, eh, en, ek) = (x, s, record { home = eh; node = en; holds = subst (HoldsFound attr.Max (pos m)) (sym ek) refl })

  tag_by : (d : Option TypeDef) (arms : List Arm) (default : Option Arm) (v : ℤ) → ((x : Kind) → Among (tag_entries d arms default v) x → Seen x)
      → AllByRecursion IsReadKind (tag_entries d arms default v) → Has attr.Switch v
  tag_by (Some (def.Prim p)) arms default v b r = (_, b (Tag p None arms default v) (inr (inl refl)), record { home = refl; node = refl; holds = refl })
  tag_by (Some (def.Enum vs)) arms default v b r = (_, b (Tag _ (Some vs) arms default v) (inr (inl refl)), record { home = refl; node = refl; holds = refl })
  tag_by None arms default v b r = absurd r.0
  tag_by (Some _) arms default v b r = absurd r.0

  module _ (H : ℕ → Bool) where
    -- by a type and a label, from what is before the children
    spoken_by : (a : Attr) (d : Option TypeDef) (l : Label) (ks : Trees) → AttrFits a d → ((x : Kind) → Among (before_children table t d l ks) x → Seen x)
        → AllByRecursion IsReadKind (before_children table t d l ks) → (hoists_by H d ≡ true → HasMax seen h (own_max l (hoisted_max 0 ks)))
        → Has a (found_in a (node l ks))
    spoken_by attr.Size (Some (def.Array e None v)) (tree.Arr m o) ks f b r x = max_size m (x refl)
    spoken_by attr.Size (Some (def.Array e None v)) _ ks f b r x = absurd r.0
    spoken_by attr.Size (Some (def.Array e (Some k) v)) l ks f b r x = cc
    spoken_by attr.Size (Some (def.Text e None)) (tree.Text m os) ks f b r x = max_size m (x refl)
    spoken_by attr.Size (Some (def.Text e None)) _ ks f b r x = absurd r.0
    spoken_by attr.Size (Some (def.Text e (Some k))) l ks f b r x = cc
    spoken_by attr.Size None l ks f b r x = cc
    spoken_by attr.Size (Some _) l ks f b r x = cc
    spoken_by attr.Max (Some (def.Array e None v)) (tree.Arr m o) ks f b r x = max_max m (x refl)
    spoken_by attr.Max (Some (def.Array e None v)) _ ks f b r x = absurd r.0
    spoken_by attr.Max (Some (def.Array e (Some k) v)) l ks f b r x = cc
    spoken_by attr.Max (Some (def.Text e None)) (tree.Text m os) ks f b r x = max_max m (x refl)
    spoken_by attr.Max (Some (def.Text e None)) _ ks f b r x = absurd r.0
    spoken_by attr.Max (Some (def.Text e (Some k))) l ks f b r x = cc
    spoken_by attr.Max None l ks f b r x = cc
    spoken_by attr.Max (Some _) l ks f b r x = cc
    spoken_by attr.First (Some (def.Array e k true)) (tree.Arr m o) ks f b r x =
        (_, b (Offset false o) (inr (inl refl)), record { home = refl; node = refl; holds = refl })
    spoken_by attr.First (Some (def.Array e k true)) _ ks f b r x = absurd r.0
    spoken_by attr.First (Some (def.Array e k false)) l ks f b r x = cc
    spoken_by attr.First None l ks f b r x = cc
    spoken_by attr.First (Some _) l ks f b r x = cc
    spoken_by attr.Length (Some (def.Array e k true)) (tree.Arr m o) ks f b r x =
        (_, b (Actual false o m (count ks)) (inr (inr (inl refl))), record { home = refl; node = refl; holds = refl })
    spoken_by attr.Length (Some (def.Array e k true)) _ ks f b r x = absurd r.0
    spoken_by attr.Length (Some (def.Array e k false)) l ks f b r x = cc
    spoken_by attr.Length None l ks f b r x = cc
    spoken_by attr.Length (Some _) l ks f b r x = cc
    spoken_by attr.Last (Some (def.Array e k true)) (tree.Arr m o) ks f b r x =
        (_, b (Actual false o m (count ks)) (inr (inr (inl refl))), record { home = refl; node = refl; holds = refl })
    spoken_by attr.Last (Some (def.Array e k true)) _ ks f b r x = absurd r.0
    spoken_by attr.Last (Some (def.Array e k false)) l ks f b r x = cc
    spoken_by attr.Last None l ks f b r x = cc
    spoken_by attr.Last (Some _) l ks f b r x = cc
    spoken_by attr.Switch (Some (def.Union tag enc arms default)) (tree.Union v) ks f b r x = tag_by (type_at table tag.0) arms default v b r
    spoken_by attr.Switch (Some (def.Union tag enc arms default)) _ ks f b r x = absurd r.0
    spoken_by attr.Switch None l ks f b r x = cc
    spoken_by attr.Switch (Some _) l ks f b r x = cc

-- What is among earlier entries of a node that stands: what is before its children, and its home's maximum count where it hoists.
pub record StandsAt (table : Table) (seen : List Entry) (h : Home) (t n : ℕ) (l : Label) (ks : Trees) : Type 0 where
  pub before : (x : Kind) → Among (before_children table t (type_at table t) l ks) x → Among seen (record { home = h; node = n; kind = x })
  pub read : AllByRecursion IsReadKind (before_children table t (type_at table t) l ks)
  pub max : hoists table t ≡ true → HasMax seen h (own_max l (hoisted_max 0 ks))

has_max_more : (xs ys : List Entry) (h : Home) (m : ℕ) → Within xs ys → HasMax xs h m → HasMax ys h m
has_max_more xs ys h m k (x, s, e, f, g) = (x, k x s, e, f, g)

pub stands_more : (table : Table) (xs ys : List Entry) (h : Home) (t n : ℕ) (l : Label) (ks : Trees) → Within xs ys → StandsAt table xs h t n l ks → StandsAt table ys h t n l ks
stands_more table xs ys h t n l ks k s = record { before = λ x m. k _ (s.before x m); read = s.read; max = λ e. has_max_more xs ys h _ k (s.max e) }

-- attributes of fields speak of what their subjects have
pub record HasSubjects (table : Table) : Type 0 where
  pub members : (t : ℕ) (ms : List Field) → type_at table t ≡ Some (def.Struct ms)
      → AllByRecursion (λ f. AllByRecursion (λ (v : AttrVar). AttrFits v.attr (type_at table (pointee table f.of.0))) f.vars) ms

-- agreements fit the subjects of values of these types
abbrev pub AllFit : Option TypeDef → List Agreement → Type 0
AllFit d ags = AllByRecursion (λ (a : Agreement). AttrFits a.attr d) ags

abbrev pub AgsFit : Table → List ℕ → List (List Agreement) → Type 0
AgsFit table [] ags = Unit {0}
AgsFit table (t ∷ types) ags = AllFit (type_at table (pointee table t)) (first_agreements ags) × AgsFit table types (rest_agreements ags)

one_fits : (d : Option TypeDef) (a : Attr) (v : Option ℤ) → AttrFits a d → AllFit d (agreement a v)
one_fits d a None f = tt
one_fits d a (Some v) f = (f, tt)

member_fits : (d : Option TypeDef) (ks : Trees) (vars : List AttrVar) → AllByRecursion (λ (v : AttrVar). AttrFits v.attr d) vars → AllFit d (member_agreements ks vars)
member_fits d ks [] a = tt
member_fits d ks (v ∷ vs) a =
    all_append (λ (q : Agreement). AttrFits q.attr d) (agreement v.attr (number_in ks v.var)) (member_agreements ks vs) (one_fits d v.attr (number_in ks v.var) a.0)
    (member_fits d ks vs a.1)

pub none_fit : (table : Table) (types : List ℕ) → AgsFit table types []
none_fit table [] = tt
none_fit table (t ∷ types) = (tt, none_fit table types)

module _ (table : Table) (laid : HoistsLast table) (subjects : HasSubjects table) where
  abbrev H : ℕ → Bool
  H = hoists table

  -- a subject's agreements
  pub tests_find : (h : Home) (t n : ℕ) (l : Label) (ks : Trees) (ags : List Agreement) (seen : List Entry) → AllFit (type_at table t) ags
      → StandsAt table seen h t n l ks → Finds seen (tests h n (node l ks) ags)
  tests_find h t n l ks [] seen f s = tt
  tests_find h t n l ks (a ∷ ags) seen f s =
      let d : Option TypeDef = type_at table t in
      let m : Entry = record { home = h; node = n; kind = Test a.attr a.wanted (found_in a.attr (node l ks)) } in
      inr (
        tt,
        spoken_by table seen h t n H a.attr d l ks f.0 s.before s.read (λ e. s.max (laid.unfolds t ∙ e)),
        tests_find h t n l ks ags (m ∷ seen) f.1 (stands_more table seen (m ∷ seen) h t n l ks (λ x k. inr k) s),
      )

  fields_fit : (ks : Trees) (ms : List Field) → AllByRecursion (λ f. AllByRecursion (λ (v : AttrVar). AttrFits v.attr (type_at table (pointee table f.of.0))) f.vars) ms
      → AgsFit table (map (λ f. f.of.0) ms) (map (λ f. member_agreements ks f.vars) ms)
  fields_fit ks [] a = tt
  fields_fit ks (f ∷ ms) a = (member_fits _ ks f.vars a.0, fields_fit ks ms a.1)

  pub child_fits : (t : ℕ) (d : Option TypeDef) (l : Label) (ks : Trees) → type_at table t ≡ d → AgsFit table (child_types d l ks) (child_agreements d ks)
  child_fits t (Some (def.Struct ms)) tree.Rec ks e = fields_fit ks ms (subjects.members t ms e)
  child_fits t (Some (def.Struct ms)) _ ks e = tt
  child_fits t None l ks e = none_fit table (child_types None l ks)
  child_fits t (Some d) l ks e = none_fit table (child_types (Some d) l ks)

  -- the subject of a node that is no pointer is the node
  own_fits : (t : ℕ) (d : Option TypeDef) (l : Label) (ks : Trees) (ags : List Agreement) → is_pointer l ≡ false
      → AllByRecursion IsReadKind (before_children table t d l ks) → AllFit (type_at table (pointee_by t d)) ags → type_at table t ≡ d → AllFit (type_at table t) ags
  own_fits t (Some (def.Pointer k to)) (tree.Ptr c) ks ags p r f e = cc
  own_fits t (Some (def.Pointer k to)) _ ks ags p r f e = absurd r.0
  own_fits t None l ks ags p r f e = f
  own_fits t (Some _) l ks ags p r f e = f

  module _ (g : Graph) (h : Home) where
    -- nodes that stand, from node n on
    abbrev pub Stood : List Entry → List ℕ → ℕ → Trees → Type 0
    Stood seen (t ∷ types) n (more (node l ks) ts) = StandsAt table seen h t n l ks × Stood seen types (n + 1 + node_count ks) ts
    Stood seen _ n _ = Unit {0}

    pub stood_more : (xs ys : List Entry) (types : List ℕ) (n : ℕ) (ts : Trees) → Within xs ys → Stood xs types n ts → Stood ys types n ts
    stood_more xs ys [] n ts k s = tt
    stood_more xs ys (t ∷ types) n none k s = tt
    stood_more xs ys (t ∷ types) n (more (node l ks) ts) k s = (stands_more table xs ys h t n l ks k s.0, stood_more xs ys types (n + 1 + node_count ks) ts k s.1)

    own_find : (b : Bool) (t n : ℕ) (l : Label) (ks : Trees) (ags : List Agreement) (seen : List Entry) → is_pointer l ≡ b → AllFit (type_at table (pointee table t)) ags
        → StandsAt table seen h t n l ks → Finds seen (own_tests b h n (node l ks) ags)
    own_find true t n l ks ags seen e f s = tt
    own_find false t n l ks ags seen e f s = tests_find h t n l ks ags seen (own_fits t (type_at table t) l ks ags e s.read f refl) s

    -- the agreements of children that stand
    pub child_find : (types : List ℕ) (ags : List (List Agreement)) (n : ℕ) (ts : Trees) (seen : List Entry) → Known g table types ts → AgsFit table types ags
        → Stood seen types n ts → Finds seen (child_tests h ags n ts)
    child_find [] ags n none seen k f s = tt
    child_find [] ags n (more t ts) seen k f s = absurd k
    child_find (t ∷ types) ags n none seen k f s = absurd k
    child_find (t ∷ types) ags n (more (node l ks) ts) seen k f s =
        let own : List Entry = own_tests (is_pointer l) h n (node l ks) (first_agreements ags) in
        behind own (child_tests h (rest_agreements ags) (n + 1 + node_count ks) ts) seen
        (own_find (is_pointer l) t n l ks (first_agreements ags) seen refl f.0 s.0) (λ r.
        child_find types (rest_agreements ags) (n + 1 + node_count ks) ts (onto own seen) k.2 f.1
        (stood_more seen (onto own seen) types (n + 1 + node_count ks) ts (still_seen own seen) s.1))

    -- the maximum count of the last of these values, if it hoists
    abbrev pub Own : List Entry → List ℕ → Trees → Type 0
    Own seen types ts = last_of H types ≡ true → HasMax seen h (hoisted_max 0 ts)

    own_more : (xs ys : List Entry) (types : List ℕ) (ts : Trees) → Within xs ys → Own xs types ts → Own ys types ts
    own_more xs ys types ts k o e = has_max_more xs ys h _ k (o e)

    no_more : (t : ℕ) (types : List ℕ) → OnlyLast H (t ∷ types) → OnlyLast H types
    no_more t [] o = tt
    no_more t (u ∷ types) o = o.1

    first_own : (seen : List Entry) (t : ℕ) (types : List ℕ) (l : Label) (ks ts : Trees) → OnlyLast H (t ∷ types) → Known g table types ts
        → Own seen (t ∷ types) (more (node l ks) ts) → H t ≡ true → HasMax seen h (own_max l (hoisted_max 0 ks))
    first_own seen t [] l ks none o k own e = own e
    first_own seen t [] l ks (more x ts) o k own e = absurd k
    first_own seen t (u ∷ types) l ks ts o k own e = let f : H t ≡ false = o.0 in absurd (cc)

    rest_own : (seen : List Entry) (t : ℕ) (types : List ℕ) (l : Label) (ks ts : Trees) → Known g table types ts
        → Own seen (t ∷ types) (more (node l ks) ts) → Own seen types ts
    rest_own seen t [] l ks ts k own e = cc
    rest_own seen t (u ∷ types) l ks none k own e = absurd k
    rest_own seen t (u ∷ types) l ks (more (node i xs) ts) k own e = own e

    kids_own : (seen : List Entry) (t : ℕ) (l : Label) (ks : Trees) → (H t ≡ true → HasMax seen h (own_max l (hoisted_max 0 ks)))
        → Own seen (child_types (type_at table t) l ks) ks
    kids_own seen t l ks own e =
        let (top, is_record, ms) = (children table laid t (type_at table t) l ks refl).1 e in
        subst (λ u. HasMax seen h (own_max u (hoisted_max 0 ks))) is_record (own top)

    -- what stands, once its entries are among the earlier ones
    pub stood : (types : List ℕ) (n : ℕ) (ts : Trees) (seen : List Entry) → Within (in_place table h types n ts) seen → AreRead (in_place table h types n ts)
        → OnlyLast H types → Known g table types ts → Own seen types ts → Stood seen types n ts
    stood [] n none seen w r o k own = tt
    stood [] n (more t ts) seen w r o k own = tt
    stood (t ∷ types) n none seen w r o k own = tt
    stood (t ∷ types) n (more (node l ks) ts) seen w r o k own =
        let d : Option TypeDef = type_at table t in
        let A : List Entry = entries h n (before_children table t d l ks) in
        let B : List Entry = in_place table h (child_types d l ks) (n + 1) ks in
        let C : List Entry = child_tests h (child_agreements d ks) (n + 1) ks in
        let D : List Entry = in_place table h types (n + 1 + node_count ks) ts in
        let r1 = all_right (λ m. IsReadKind m.kind) A (B ++ (C ++ D)) r in
        let r2 = all_right (λ m. IsReadKind m.kind) B (C ++ D) r1 in
        let r3 = all_right (λ m. IsReadKind m.kind) C D r2 in (
          record {
            before = λ x m. w _ (among_left A (B ++ (C ++ D)) _ (entry_among h n _ x m));
            read = kinds_read h n _ (all_left (λ m. IsReadKind m.kind) A (B ++ (C ++ D)) r);
            max = first_own seen t types l ks ts o k.2 own;
          },
          stood types (n + 1 + node_count ks) ts seen (λ x m. w x (among_right A (B ++ (C ++ D)) x (among_right B (C ++ D) x (among_right C D x m)))) r3
              (no_more t types o) k.2 (rest_own seen t types l ks ts k.2 own),
        )

    pub in_place_find : (types : List ℕ) (n : ℕ) (ts : Trees) (seen : List Entry) → OnlyLast H types → Known g table types ts → Own seen types ts
        → Finds seen (in_place table h types n ts)
    in_place_find [] n none seen o k own = tt
    in_place_find [] n (more t ts) seen o k own = absurd k
    in_place_find (t ∷ types) n none seen o k own = absurd k
    in_place_find (t ∷ types) n (more (node l ks) ts) seen o k own =
        let d : Option TypeDef = type_at table t in
        let A : List Entry = entries h n (before_children table t d l ks) in
        let B : List Entry = in_place table h (child_types d l ks) (n + 1) ks in
        let C : List Entry = child_tests h (child_agreements d ks) (n + 1) ks in
        let D : List Entry = in_place table h types (n + 1 + node_count ks) ts in
        let s1 : List Entry = onto A seen in
        let s2 : List Entry = onto B s1 in
        let s3 : List Entry = onto C s2 in
        behind A (B ++ (C ++ D)) seen (kinds_find h n seen _ (before_plain table t d l ks)) (λ ra.
        let kids : Known g table (child_types d l ks) ks = k.1 (read_label table t d l ks (kinds_read h n _ ra)) in
        let last : OnlyLast H (child_types d l ks) = (children table laid t d l ks refl).0 in
        let own1 : Own s1 (child_types d l ks) ks =
        own_more seen s1 (child_types d l ks) ks (still_seen A seen) (kids_own seen t l ks (first_own seen t types l ks ts o k.2 own)) in
        behind B (C ++ D) s1 (in_place_find (child_types d l ks) (n + 1) ks s1 last kids own1) (λ rb.
        behind C D s2
        (child_find (child_types d l ks) (child_agreements d ks) (n + 1) ks s2 kids (child_fits t d l ks refl)
        (stood (child_types d l ks) (n + 1) ks s2 (now_seen B s1) rb last kids (own_more s1 s2 (child_types d l ks) ks (still_seen B s1) own1))) (λ rc.
        in_place_find types (n + 1 + node_count ks) ts s3 (no_more t types o) k.2
        (own_more seen s3 types ts (λ x m. still_seen C s2 x (still_seen B s1 x (still_seen A seen x m))) (rest_own seen t types l ks ts k.2 own)))))

    -- a value as a whole
    abbrev pub NodeStands : List Entry → ℕ → Tree → Type 0
    NodeStands seen t (node l ks) = StandsAt table seen h t 0 l ks

    hoisted_plain : (b : Bool) (l : Label) (m : ℕ) → AllByRecursion IsNoTest (hoisted b l m)
    hoisted_plain false l m = tt
    hoisted_plain true tree.Unread m = tt
    hoisted_plain true _ m = (tt, (tt, tt))

    hoisted_there : (b : Bool) (l : Label) (m : ℕ) → (l ≡ tree.Unread → ⊥) → b ≡ true → Among (hoisted b l m) (Max m)
    hoisted_there false l m n e = cc
    hoisted_there true tree.Unread m n e = absurd (n refl)
    hoisted_there true _ m n e = inr (inl refl)

    whole_own : (t : ℕ) (l : Label) (ks : Trees) (seen : List Entry) → (l ≡ tree.Unread → ⊥)
        → Within (entries h 0 (hoisted (H t) l (hoisted_max 0 (more (node l ks) none)))) seen → Own seen (t ∷ []) (more (node l ks) none)
    whole_own t l ks seen n w e = (_, w _ (entry_among h 0 _ _ (hoisted_there (H t) l (hoisted_max 0 (more (node l ks) none)) n e)), refl, refl, refl)

    pub whole_find : (t : ℕ) (v : Tree) (seen : List Entry) → Known g table (t ∷ []) (more v none) → Finds seen (whole_value table h t v)
    whole_find t (node l ks) seen k =
        let m : ℕ = hoisted_max 0 (more (node l ks) none) in
        let E : List Entry = entries h 0 (hoisted (H t) l m) in
        behind E (in_place table h (t ∷ []) 0 (more (node l ks) none)) seen (kinds_find h 0 seen _ (hoisted_plain (H t) l m)) (λ re. go E (is_read l) (now_seen E seen))
      where
        go : (E : List Entry) → (l ≡ tree.Unread) ⊎ (l ≡ tree.Unread → ⊥) → Within (entries h 0 (hoisted (H t) l (hoisted_max 0 (more (node l ks) none)))) (onto E seen)
            → Finds (onto E seen) (in_place table h (t ∷ []) 0 (more (node l ks) none))
        go E (inr n) w = in_place_find (t ∷ []) 0 (more (node l ks) none) (onto E seen) tt k (whole_own t l ks (onto E seen) n w)
        go E (inl e) w =
            subst (λ u. Finds (onto E seen) (in_place table h (t ∷ []) 0 (more (node u ks) none))) (sym e)
            (subst (λ xs. Finds (onto E seen) (entries h 0 xs ++ (in_place table h (child_types (type_at table t) tree.Unread ks) 1 ks
            ++ (child_tests h (child_agreements (type_at table t) ks) 1 ks ++ in_place table h [] (1 + node_count ks) none)))) (sym (unread_before table t (type_at table t) ks))
            (inl refl))

    pub whole_stands : (t : ℕ) (v : Tree) (seen : List Entry) → Known g table (t ∷ []) (more v none) → Within (whole_value table h t v) seen
        → AreRead (whole_value table h t v) → NodeStands seen t v
    whole_stands t (node l ks) seen k w r =
        let m : ℕ = hoisted_max 0 (more (node l ks) none) in
        let E : List Entry = entries h 0 (hoisted (H t) l m) in
        let I : List Entry = in_place table h (t ∷ []) 0 (more (node l ks) none) in
        let ri : AreRead I = all_right (λ x. IsReadKind x.kind) E I r in
        let d : Option TypeDef = type_at table t in
        let n : l ≡ tree.Unread → ⊥ =
        read_label table t d l ks (kinds_read h 0 _ (all_left (λ x. IsReadKind x.kind) (entries h 0 (before_children table t d l ks)) _ ri)) in
        (stood (t ∷ []) 0 (more (node l ks) none) seen (λ x a. w x (among_right E I x a)) ri tt k
        (whole_own t l ks seen n (λ x a. w x (among_left E I x a)))).0
