-- A value that is due: what the state keeps around it, and how the decoder comes to it.
use Rattle.std.proofs.Common.{◌≡◌, ◌≤◌, ◌<◌, ◌⊎◌, inl, inr, ℕ, ◌+◌, zero, suc, Bool, true, false, List, [], ◌∷◌, ◌++◌, length, Option, Some, None, refl, ap, sym, ◌∙◌, subst, arith, length-append, map}
use Rattle.std.specs.Prelude.{eqb, ℤ}
use Rattle.std.specs.List.{slice_get}
use Rattle.std.proofs.lemmas.Bool.{eqb-true, le-ltb as no_less}
use Rattle.std.proofs.lemmas.List.{append-nil}
use Rattle.std.proofs.lemmas.Option.{slice_get_within}
use Rattle.nd_base.specs.declared.octets.Order.{Order}
use Rattle.nd_types.specs.declared.types.Attr.{Attr}
use Rattle.nd_types.specs.declared.types.TypeDef.{TypeDef}
use Rattle.nd_types.specs.declared.types.TypeDef.TheVariants as def
use Rattle.nd_types.specs.declared.types.Primitive.{Primitive}
use Rattle.nd_types.specs.Table.{Table, type_at, width}
use Rattle.nd_types.specs.Layout.{align_of, align_by, align_within}
use Rattle.nd_value.specs.declared.item.Home.{Home}
use Rattle.nd_value.specs.declared.item.Item.{Item}
use Rattle.nd_value.specs.Tree.{Flat}
use Rattle.nd_grammar.specs.Entry.{Entry, EntryAt, gap, Align}
use Rattle.nd_grammar.specs.Refusal.{refusal, refused_if}
use Rattle.nd_grammar.specs.declared.reason.Reason.TheVariants.{Truncated}
use Rattle.nd_grammar.specs.Reader.{Names, Read, pass, entry, read_in_place}
use Rattle.ndr_code.specs.declared.instr.Instr.{Instr}
use Rattle.ndr_code.specs.declared.instr.Instr.TheVariants as op
use Rattle.ndr_code.specs.declared.lists.EnumList.{EnumList}
use Rattle.ndr_code.specs.Code.{place_at, whole_at, id, place_run}
use Rattle.ndr_code.specs.Runs.{IsRunAt}
use Rattle.ndr_decoder_laws.specs.reader.Halves.{gap_of, past_gap, tag_gap}
use Rattle.ndr_decoder_laws.specs.reader.Around.{Around, going, finish, nodes_around, pointers_around, Numbered, Tied}
use Rattle.ndr_decoder_laws.specs.reader.Points.{Point, TagForm, IsTagForm, due, opened, hoisting, counting, called, between, checking, has, type_of, held, read_at}
use Rattle.ndr_decoder_laws.proofs.reader.Continuing.{passed}
use Rattle.ndr_decoder_laws.proofs.reader.FromPoint.{due_opens}
use Rattle.ndr_decoder_laws.specs.declared.first.First.{First}
use Rattle.ndr_decoder_laws.specs.declared.first.Member.{Member}
use Rattle.ndr_decoder_laws.specs.declared.frame.Frame.{Frame}
use Rattle.ndr_decoder_laws.specs.steps.Spots.{IsFine, IsDue, IsFormed, IsPlanned, Inside, Fits, Spot, body_run}
use Rattle.ndr_decoder_laws.specs.steps.Steps.{State, Owed, begun}
use Rattle.ndr_decoder_laws.specs.steps.Good.{Told, Kept, Good, OwnIn, Begin, HasRegisters, Holds, members_around, owed, due_member, half_at, phase_at}
use Rattle.ndr_decoder_laws.proofs.steps.Passing.{items_it, told_passed, kept_passed, own_map, silent, speaks, Lies}

-- what of a state does not change while octets of one value are passed
pub record Parts : Type 0 where
  pub top : Frame
  pub stack : List Frame
  pub nodes : List Flat
  pub own : Option First
  pub members : List Member
  pub firsts : List First
  pub fresh : List Owed
  pub max_at : Option ℕ

abbrev pub parts_of : State → Parts
parts_of s =
    record { top = s.top; stack = s.stack; nodes = s.nodes; own = s.own; members = s.members; firsts = s.firsts; fresh = s.fresh; max_at = s.max_at }

abbrev pub KeptAll : Home → List EntryAt → Option ℕ → List Flat → List Member → List First → Type 0
KeptAll h seen max_at nodes members firsts =
    (i : ℕ) (m : Member) (x : First) → slice_get members i ≡ Some m → slice_get firsts i ≡ Some x → Kept h seen max_at nodes m.node x

abbrev pub KeptOwn : Home → List EntryAt → Option ℕ → List Flat → Option First → Type 0
KeptOwn h seen max_at nodes own = (x : First) × (own ≡ Some x) × Kept h seen max_at nodes 0 x

-- a value of type t is due within these frames
pub record Within (code : List Instr) (table : Table) (h : Home) (own limit : ℕ) (seen : List EntryAt) (depth : ℕ) (fs : List Around) (t : ℕ) (q : Parts) : Type 0 where
  pub deep : depth + length fs ≡ limit
  pub inside : Inside code table q.top q.stack fs
  pub begin : Begin table h q.top q.stack fs
  pub fits : Fits code table depth fs
  pub tied : Tied own t fs
  pub nodes : q.nodes ≡ nodes_around fs
  pub numbered : Numbered fs
  pub members : q.members ≡ members_around table h fs
  pub pending : q.fresh ≡ map (owed table) (pointers_around table h fs)
  pub many : length q.firsts + due_member q.top ≡ length q.members
  pub kept : KeptAll h seen q.max_at q.nodes q.members q.firsts
  pub first : OwnIn fs (KeptOwn h seen q.max_at q.nodes q.own)

-- an entry that says nothing of the nodes that are kept
pub within_passed : (code : List Instr) (table : Table) (h : Home) (own limit : ℕ) (seen : List EntryAt) (depth : ℕ) (fs : List Around) (t : ℕ) (q : Parts) (e : EntryAt)
    → ((a : Attr) (n : ℕ) → n < length q.nodes → speaks a h n e ≡ false)
    → Within code table h own limit seen depth fs t q → Within code table h own limit (seen ++ e ∷ []) depth fs t q
within_passed code table h own limit seen depth fs t q e u w = record {
  deep = w.deep;
  inside = w.inside;
  begin = w.begin;
  fits = w.fits;
  tied = w.tied;
  nodes = w.nodes;
  numbered = w.numbered;
  members = w.members;
  pending = w.pending;
  many = w.many;
  kept = λ i m x a b. pass_one m.node x (w.kept i m x a b);
  first = own_map fs (λ o. (o.0, o.1, pass_one 0 o.0 o.2)) w.first;
}
  where
    pass_one : (n : ℕ) (x : First) → Kept h seen q.max_at q.nodes n x → Kept h (seen ++ e ∷ []) q.max_at q.nodes n x
    pass_one n x k = kept_passed h seen q.max_at q.nodes n x e (λ a. u a n (slice_get_within q.nodes n k.is k.there)) k

-- points within a value of which no node was added yet
abbrev pub IsPlain : Point → Type 0
IsPlain (hoisting t) = ⊥
IsPlain (counting t) = ⊥
IsPlain (called t) = ⊥
IsPlain (between f) = ⊥
IsPlain (checking f so_far tests) = ⊥
IsPlain (has t v) = ⊥
IsPlain _ = Unit {0}

module _ (order : Order) (fetched : List ℕ) (code : List Instr) (table : Table) (h : Home) (own limit : ℕ) (noted : List Item) (direct : ℕ) (target : List ℕ → Read) where
  pub plain_good : (p : Point) → IsPlain p → (s : State) (depth : ℕ) (fs : List Around) (seen : List EntryAt) (names : Names)
      → Within code table h own limit seen depth fs (type_of p) (parts_of s) → Spot code table h s.max depth s.pc p → s.phase ≡ phase_at p → HasRegisters p s → length fetched ≡ s.at + held p
      → Holds order fetched s.at p
      → Told noted direct order fetched h seen names s.cells s.numbers s.max_at (length s.nodes) (half_at p s.at)
      → ((later : List ℕ)
      → finish order (fetched ++ later) table h s.max depth fs (read_at order (fetched ++ later) table h s.max depth p (length (nodes_around fs)) (going s.at seen) names)
      ≡ target (fetched ++ later))
      → Good order fetched code table h own limit noted direct target s
  plain_good (hoisting t) u s depth fs seen names w spot phase tag reached holds told rest = absurd u
  plain_good (counting t) u s depth fs seen names w spot phase tag reached holds told rest = absurd u
  plain_good (called t) u s depth fs seen names w spot phase tag reached holds told rest = absurd u
  plain_good (between f) u s depth fs seen names w spot phase tag reached holds told rest = absurd u
  plain_good (checking f so_far tests) u s depth fs seen names w spot phase tag reached holds told rest = absurd u
  plain_good (has t v) u s depth fs seen names w spot phase tag reached holds told rest = absurd u
  plain_good p u s depth fs seen names w spot phase tag reached holds told rest = record {
    depth = depth;
    fs = fs;
    point = p;
    seen = seen;
    names = names;
    deep = w.deep;
    spot = spot;
    phase = phase;
    registers = tag;
    holds = holds;
    inside = w.inside;
    begin = w.begin;
    fits = w.fits;
    tied = w.tied;
    nodes = w.nodes;
    numbered = w.numbered;
    members = w.members;
    pending = w.pending;
    many = w.many;
    kept = w.kept;
    first = w.first;
    reached = reached;
    told = told;
    rest = rest;
  }

-- ## The place run of a type

-- a gap that is left out is 1
by_gap : (code : List Instr) (b : Bool) (a pc : ℕ) (run : List Instr) → eqb a 1 ≡ b
    → IsRunAt code pc (elim b [ true ↦ [] | false ↦ op.Align a ∷ [] ] ++ run) → ((a ≡ 1) × IsRunAt code pc run) ⊎ IsRunAt code pc (op.Align a ∷ run)
by_gap code true a pc run e h = inl (eqb-true a 1 e, h)
by_gap code false a pc run e h = inr h

align_prim : (table : Table) (t : ℕ) (p : Primitive) → type_at table t ≡ Some (def.Prim p) → align_of table t ≡ width p
unfolding align_of
align_prim table t p e = ap (align_by table (align_within 31 table)) e

align_enum : (table : Table) (t : ℕ) (zs : List ℤ) → type_at table t ≡ Some (def.Enum zs) → align_of table t ≡ 2
unfolding align_of
align_enum table t zs e = ap (align_by table (align_within 31 table)) e

module _ (code : List Instr) (table : Table) where
  -- a type's place run: its gap, if it is not left out, and what comes after it
  pub data Entrance (pc t : ℕ) (d : TypeDef) : Type 0 where
    gapped : (a : ℕ) → gap_of table t (Some d) ≡ Some a → ((a ≡ 1) × IsRunAt code pc (body_run code table t d)) ⊎ IsRunAt code pc (op.Align a ∷ body_run code table t d) → Entrance pc t d
    ungapped : gap_of table t (Some d) ≡ None → IsRunAt code pc (body_run code table t d) → Entrance pc t d

  abbrev run_of : ℕ → TypeDef → List Instr
  run_of t d = place_run (place_at table) (whole_at table) table t d

  tag_align : (tag : ℕ) (form : TagForm) → IsTagForm (type_at table tag) form → (d : Option TypeDef) → type_at table tag ≡ d → tag_gap d ≡ Some (align_of table tag)
  tag_align tag form i (Some (def.Prim p)) e = ap Some (sym (align_prim table tag p e))
  tag_align tag form i (Some (def.Enum zs)) e = ap Some (sym (align_enum table tag zs e))
  tag_align tag form i (Some (def.Struct members)) e = absurd (subst (λ d. IsTagForm d form) e i)
  tag_align tag form i (Some (def.Array elem bound varying)) e = absurd (subst (λ d. IsTagForm d form) e i)
  tag_align tag form i (Some (def.Text elem bound)) e = absurd (subst (λ d. IsTagForm d form) e i)
  tag_align tag form i (Some (def.Union u enc arms default)) e = absurd (subst (λ d. IsTagForm d form) e i)
  tag_align tag form i (Some (def.Pointer class to)) e = absurd (subst (λ d. IsTagForm d form) e i)
  tag_align tag form i (Some def.Context) e = absurd (subst (λ d. IsTagForm d form) e i)
  tag_align tag form i (Some (def.Pipe elem)) e = absurd (subst (λ d. IsTagForm d form) e i)
  tag_align tag form i None e = absurd (subst (λ d. IsTagForm d form) e i)

  entrance : (pc t : ℕ) (d : TypeDef) → type_at table t ≡ Some d → IsFormed table t d → IsRunAt code pc (run_of t d) → Entrance pc t d
  entrance pc t (def.Prim p) e f r =
      gapped (align_of table t) (ap Some (sym (align_prim table t p e))) (by_gap code (eqb (align_of table t) 1) (align_of table t) pc (op.Num (id t) ∷ op.Ret ∷ []) refl r)
  entrance pc t (def.Enum zs) e f r = gapped 2 refl (inr r)
  entrance pc t (def.Struct members) e f r =
      gapped (align_of table t) refl (by_gap code (eqb (align_of table t) 1) (align_of table t) pc (body_run code table t (def.Struct members)) refl r)
  entrance pc t (def.Array elem (Some n) false) e f r = ungapped refl r
  entrance pc t (def.Array elem None false) e f r = ungapped refl r
  entrance pc t (def.Array elem (Some n) true) e f r = gapped 4 refl (inr r)
  entrance pc t (def.Array elem None true) e f r = gapped 4 refl (inr r)
  entrance pc t (def.Text elem bound) e f r = gapped 4 refl (inr r)
  entrance pc t (def.Union tag enc arms default) e f r =
      gapped (align_of table tag.0) (tag_align tag.0 f.0 f.1 (type_at table tag.0) refl)
      (by_gap code (eqb (align_of table tag.0) 1) (align_of table tag.0) pc (body_run code table t (def.Union tag enc arms default)) refl r)
  entrance pc t (def.Pointer class to) e f r = gapped 4 refl (inr r)
  entrance pc t def.Context e f r = gapped 4 refl (inr r)
  entrance pc t (def.Pipe elem) e f r = absurd f

-- ## The decoder is sent to the place run of a type that is due

module _ (order : Order) (fetched : List ℕ) (code : List Instr) (values : List EnumList) (table : Table) (h : Home) (own limit : ℕ) (noted : List Item) (direct : ℕ) (target : List ℕ → Read)
    (planned : IsPlanned code values table) where
  one_gap : (at : ℕ) → gap at 1 ≡ 0
  one_gap at = omega arith

  -- a gap up to a multiple of 1 is none
  no_gap : (octets : List ℕ) (n at : ℕ) (seen : List EntryAt) → at ≤ length octets
      → pass order octets (entry order octets table h n (Align 1)) (going at seen) ≡ going at (seen ++ record { at = at; entry = entry order octets table h n (Align 1) } ∷ [])
  no_gap octets n at seen within =
      let m : Entry = entry order octets table h n (Align 1) in
      let z : at + gap at 1 ≡ at = let g : gap at 1 ≡ 0 = one_gap at in omega (arith, g) in
      let r : refusal order octets seen (record { at = at; entry = m }) ≡ None =
      ap (λ b. refused_if b (length octets, Truncated) None) (no_less (length octets) (at + gap at 1) (omega (arith, z, within))) in
      passed order octets m at seen r ∙ ap (λ a. going a (seen ++ record { at = at; entry = m } ∷ [])) z

  module _ (s : State) (k : ℕ) (fs : List Around) (seen : List EntryAt) (names : Names) (t : ℕ) (d : TypeDef) (fine : IsDue (IsFine table k) table t) (e : type_at table t ≡ Some d)
      (phase : s.phase ≡ begun)
      (w : Within code table h own limit seen (suc k) fs t (parts_of s)) (told : Told noted direct order fetched h seen names s.cells s.numbers s.max_at (length s.nodes) [])
      (reached : length fetched ≡ s.at)
      (rest : (later : List ℕ) → finish order (fetched ++ later) table h s.max (suc k) fs
      (read_in_place order (fetched ++ later) table h (suc k) s.max t (length (nodes_around fs)) (going s.at seen) names) ≡ target (fetched ++ later)) where
    at_zero : length fetched ≡ s.at + 0
    at_zero = omega (arith, reached)

    by_entrance : Entrance code table s.pc t d → Good order fetched code table h own limit noted direct target s
    by_entrance (ungapped ea run) =
        plain_good order fetched code table h own limit noted direct target (opened t d) tt s (suc k) fs seen names w (fine, e, run) phase tt at_zero tt told
        (λ later.
        ap (finish order (fetched ++ later) table h s.max (suc k) fs)
        (sym (due_opens order (fetched ++ later) table h s.max k t (length (nodes_around fs)) d (going s.at seen) names e
        ∙ ap (λ g. read_at order (fetched ++ later) table h s.max (suc k) (opened t d) (length (nodes_around fs))
        (past_gap order (fetched ++ later) table h (length (nodes_around fs)) g (going s.at seen)) names) ea))
        ∙ rest later)
    by_entrance (gapped a ea (inr run)) =
        plain_good order fetched code table h own limit noted direct target (due t) tt s (suc k) fs seen names w (fine, (a, (d, e, ea, run))) phase tt at_zero tt told rest
    by_entrance (gapped a ea (inl (one, run))) =
        let n : ℕ = length (nodes_around fs) in
        let x : EntryAt = record { at = s.at; entry = record { home = h; node = n; kind = Align 1 } } in
        let z : s.at + gap s.at 1 ≡ s.at = let g : gap s.at 1 ≡ 0 = one_gap s.at in omega (arith, g) in
        let lies : Lies (fetched ++ []) x = omega (arith, z, reached, length-append fetched []) in
        plain_good order fetched code table h own limit noted direct target (opened t d) tt s (suc k) fs (seen ++ x ∷ []) names
        (within_passed code table h own limit seen (suc k) fs t (parts_of s) x (λ a n l. silent a h n x tt) w) (fine, e, run) phase tt at_zero tt
        (subst (λ ns. Told ns direct order fetched h (seen ++ x ∷ []) names s.cells s.numbers s.max_at (length s.nodes) []) (append-nil noted)
        (subst (λ f. Told (noted ++ []) direct order f h (seen ++ x ∷ []) names s.cells s.numbers s.max_at (length s.nodes) []) (append-nil fetched)
        (told_passed [] order fetched [] h seen names s.cells s.numbers s.max_at (length s.nodes) [] x (items_it order fetched [] [] s.at reached x.entry seen (one_gap s.at)) tt tt refl lies told)))
        (λ later.
        let within : s.at ≤ length (fetched ++ later) = omega (arith, reached, length-append fetched later) in
        ap (finish order (fetched ++ later) table h s.max (suc k) fs)
        (sym (due_opens order (fetched ++ later) table h s.max k t n d (going s.at seen) names e
        ∙ ap (λ g. read_at order (fetched ++ later) table h s.max (suc k) (opened t d) n (past_gap order (fetched ++ later) table h n g (going s.at seen)) names) (ea ∙ ap Some one)
        ∙ ap (λ p. read_at order (fetched ++ later) table h s.max (suc k) (opened t d) n p names) (no_gap (fetched ++ later) n s.at seen within)))
        ∙ rest later)

  pub arrives : (s : State) (depth : ℕ) (fs : List Around) (seen : List EntryAt) (names : Names) (t : ℕ) → IsFine table depth t → s.pc ≡ place_at table t → s.phase ≡ begun
      → Within code table h own limit seen depth fs t (parts_of s) → Told noted direct order fetched h seen names s.cells s.numbers s.max_at (length s.nodes) [] → length fetched ≡ s.at
      → ((later : List ℕ) → finish order (fetched ++ later) table h s.max depth fs
      (read_in_place order (fetched ++ later) table h depth s.max t (length (nodes_around fs)) (going s.at seen) names) ≡ target (fetched ++ later))
      → Good order fetched code table h own limit noted direct target s
  arrives s zero fs seen names t fine ep phase w told reached rest = absurd fine
  arrives s (suc k) fs seen names t fine ep phase w told reached rest =
      by_entrance s k fs seen names t fine.of fine fine.is_there phase w told reached rest
      (entrance code table s.pc t fine.of fine.is_there fine.formed
      (subst (λ a. IsRunAt code a (place_run (place_at table) (whole_at table) table t fine.of)) (sym ep) (planned.place t fine.of fine.is_there)))
