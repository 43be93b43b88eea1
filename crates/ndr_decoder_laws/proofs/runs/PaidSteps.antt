-- What a step adds is paid by the octets that it passes.
use Rattle.std.proofs.Common.{◌≡◌, ◌≤◌, ℕ, ◌+◌, ◌*◌, zero, suc, Bool, true, false, List, [], ◌∷◌, ◌++◌, length, Option, Some, None, refl, ap, sym, ◌∙◌, subst, arith, length-append}
use Rattle.std.specs.Prelude.{ℤ, eqb, ltb, if◌then◌else◌, slice_get, take, drop, ◌-◌}
use Rattle.std.specs.Ordering.{int_eq}
use Rattle.nd_base.specs.declared.octets.Order.{Order}
use Rattle.nd_types.specs.declared.types.Class.{Class}
use Rattle.nd_types.specs.declared.types.Class.TheVariants.{Ref, Unique, Full}
use Rattle.nd_types.specs.declared.types.Primitive.{Primitive}
use Rattle.nd_types.specs.declared.types.Primitive.TheVariants.{Short}
use Rattle.nd_types.specs.declared.types.Attr.{Attr}
use Rattle.nd_types.specs.declared.types.TypeId.{TypeId}
use Rattle.nd_types.specs.Number.{unsigned, value_of_octets}
use Rattle.nd_types.specs.Table.{width}
use Rattle.nd_value.specs.declared.item.Home.{Home}
use Rattle.nd_value.specs.declared.item.Item.{Item}
use Rattle.nd_value.specs.Agreement.{Agreement, agreement}
use Rattle.nd_value.specs.Tree as tree
use Rattle.nd_value.specs.Tree.{Flat}
use Rattle.nd_value.proofs.Apart.{all_append}
use Rattle.nd_grammar.specs.declared.reason.Reason.{Reason}
use Rattle.nd_grammar.specs.declared.reason.Reason.TheVariants as reason
use Rattle.nd_grammar.specs.Reader.{identifier}
use Rattle.nd_grammar.specs.Refusal.{is_enumerator, text_refusal}
use Rattle.ndr_code.specs.declared.instr.Instr.{Instr}
use Rattle.ndr_code.specs.declared.instr.Instr.TheVariants as op
use Rattle.ndr_code.specs.declared.lists.EnumList.{EnumList}
use Rattle.ndr_code.specs.Code.{enumerators}
use Rattle.ndr_refs.specs.declared.referents.Known.{Known}
use Rattle.ndr_refs.specs.Known.{known, first_met}
use Rattle.ndr_decoder_laws.specs.reader.Points.{TagForm}
use Rattle.ndr_decoder_laws.specs.declared.frame.Frame.{Frame}
use Rattle.ndr_decoder_laws.specs.declared.frame.Frame.TheVariants as frame
use Rattle.ndr_decoder_laws.specs.declared.first.First.{First}
use Rattle.ndr_decoder_laws.specs.declared.first.Member.{Member}
use Rattle.ndr_decoder_laws.specs.steps.Steps.{State, Outcome, goes, refused, whole, Phase, begun, gap_read, offset_read, count_read, tag_form, wants, text_want, jumped, next, past, with_node}
use Rattle.ndr_decoder_laws.specs.steps.Steps.{with_frames, pushed, popped_to, popped, with_members, with_fresh, with_names, with_max, with_tag, done_after, elements, arm_taken, call_from, back_to}
use Rattle.ndr_decoder_laws.specs.steps.Steps.{close_of, owing, new_cell, full_by, pointer_step, place_of, joined_by, first_number, first_found, place_in, is_owing, disagreed, try_all, checked}
use Rattle.ndr_decoder_laws.specs.steps.Steps.{check_in, text_done, limit_of, number_step, vary_by, text_by, hoist_by, tag_step, step}
use Rattle.ndr_code.specs.Fields.{prim_of}
use Rattle.ndr_decoder_laws.specs.steps.Good.{HasOctets}
use Rattle.ndr_decoder_laws.specs.runs.Reaching.{Reaches, begins, steps_to}
use Rattle.ndr_decoder_laws.specs.runs.Paid.{array_paid, label_paid, paid, IsRead, AllRead, IsPaid}
use Rattle.nd_grammar.proofs.ItemSizes.{width_low as some_width}

all_there : (n : ℕ) → array_paid n n ≡ 0
all_there zero = refl
all_there (suc n) = refl

one_at_most : (m n : ℕ) → array_paid m n ≤ 1
one_at_most zero zero = omega arith
one_at_most zero (suc n) = omega arith
one_at_most (suc m) zero = omega arith
one_at_most (suc m) (suc n) = omega arith

pub paid_append : (xs ys : List Flat) → paid (xs ++ ys) ≡ paid xs + paid ys
paid_append [] ys = omega arith
paid_append (x ∷ xs) ys = let e : paid (xs ++ ys) ≡ paid xs + paid ys = paid_append xs ys in omega (arith, e)

-- what is added between two states is paid by the octets between them
pub record Pays (s t : State) : Type 0 where
  pub nodes : paid t.nodes + s.at ≤ paid s.nodes + t.at
  pub read : AllRead s.nodes → AllRead t.nodes
  pub cells : 4 * length t.cells + s.at ≤ 4 * length s.cells + t.at

pub still_paid : (s t : State) → IsPaid s → Pays s t → IsPaid t
still_paid s t p q = record { nodes = omega (arith, p.nodes, q.nodes); read = q.read p.read; cells = omega (arith, p.cells, q.cells) }

-- a state with the same nodes and cells as one that pays
keeps : (s u t : State) → t.nodes ≡ u.nodes → t.cells ≡ u.cells → u.at ≤ t.at → Pays s u → Pays s t
keeps s u t e f l p =
    let a : paid t.nodes ≡ paid u.nodes = ap paid e in
    let b : length t.cells ≡ length u.cells = ap length f in
    record { nodes = omega (arith, p.nodes, a, l); read = λ r. subst AllRead (sym e) (p.read r); cells = omega (arith, p.cells, b, l) }

pays_itself : (s : State) → Pays s s
pays_itself s = record { nodes = omega arith; read = λ r. r; cells = omega arith }

-- a node more
node_pays : (s t : State) (x : Flat) → t.nodes ≡ s.nodes ++ x ∷ [] → length t.cells ≤ length s.cells + 1 → IsRead x.0 → label_paid x.0 x.1 + s.at ≤ t.at
    → 4 * length t.cells + s.at ≤ 4 * length s.cells + t.at → Pays s t
node_pays s t x e few is_read l c =
    let a : paid t.nodes ≡ paid s.nodes + (label_paid x.0 x.1 + 0) = ap paid e ∙ paid_append s.nodes (x ∷ []) in
    record {
      nodes = omega (arith, a, l);
      read = λ r. subst AllRead (sym e) (all_append (λ (y : Flat). IsRead y.0) s.nodes (x ∷ []) r (is_read, tt));
      cells = c;
    }

module _ (values : List EnumList) (order : Order) (os : List ℕ) (s : State) where
  abbrev To : Outcome → Type 0
  To (goes t) = Pays s t
  To (refused place why) = Unit {0}
  To (whole t) = Pays s t

  if_to : (b : Bool) (x y : Outcome) → To x → To y → To (if b then x else y)
  if_to true x y p q = p
  if_to false x y p q = q

  -- nothing more, some octets later
  same : (t : State) → t.nodes ≡ s.nodes → t.cells ≡ s.cells → s.at ≤ t.at → Pays s t
  same t e f l = keeps s s t e f l (pays_itself s)

  one_node : (t : State) (x : Flat) → t.nodes ≡ s.nodes ++ x ∷ [] → t.cells ≡ s.cells → IsRead x.0 → label_paid x.0 x.1 + s.at ≤ t.at → s.at ≤ t.at → Pays s t
  one_node t x e f is_read l later =
      let n : length t.cells ≡ length s.cells = ap length f in
      node_pays s t x e (omega (arith, n)) is_read l (omega (arith, n, later))

  elements_pay : (n run : ℕ) (u : State) → Pays s u → Pays s (elements n run u)
  elements_pay zero run u p = keeps s u (elements zero run u) refl refl (omega arith) p
  elements_pay (suc n) run u p = keeps s u (elements (suc n) run u) refl refl (omega arith) p

  popped_pays : (stack : List Frame) → Pays s (popped_to stack s)
  popped_pays [] = same (popped_to [] s) refl refl (omega arith)
  popped_pays (f ∷ fs) = same (popped_to (f ∷ fs) s) refl refl (omega arith)

  popped_from : (stack : List Frame) (u : State) → Pays s u → Pays s (popped_to stack u)
  popped_from [] u p = keeps s u (popped_to [] u) refl refl (omega arith) p
  popped_from (f ∷ fs) u p = keeps s u (popped_to (f ∷ fs) u) refl refl (omega arith) p

  back_pays : (top : Frame) → To (back_to top s)
  back_pays frame.Home = pays_itself s
  back_pays (frame.Record back first) = same (jumped back s) refl refl (omega arith)
  back_pays (frame.Elements zero run back) = keeps s (popped s) (jumped back (popped s)) refl refl (omega arith) (popped_pays s.stack)
  back_pays (frame.Elements (suc left) run back) = same (jumped run (with_frames (frame.Elements left run back) s.stack s)) refl refl (omega arith)

  close_pays : (top : Frame) → Pays s (close_of top s)
  close_pays (frame.Record back first) =
      let u : State = with_members (take first s.members) (take first s.firsts) s in
      keeps s (popped u) (next (popped u)) refl refl (omega arith) (popped_from s.stack u (same u refl refl (omega arith)))
  close_pays frame.Home = keeps s (popped s) (next (popped s)) refl refl (omega arith) (popped_pays s.stack)
  close_pays (frame.Elements left run back) = keeps s (popped s) (next (popped s)) refl refl (omega arith) (popped_pays s.stack)

  call_pays : (top : Frame) (run : ℕ) → Pays s (call_from top run s)
  call_pays (frame.Record back first) run = same (call_from (frame.Record back first) run s) refl refl (omega arith)
  call_pays frame.Home run = same (jumped run s) refl refl (omega arith)
  call_pays (frame.Elements left r back) run = same (jumped run s) refl refl (omega arith)

  number_pays : (p : Primitive) (enums : Option (List ℤ)) → To (number_step values order os p enums s)
  number_pays p enums =
      let z : ℤ = value_of_octets order p os in
      let t : State = done_after (width p) (with_node (tree.Num z, 0) None s) in
      let w : 1 ≤ width p = some_width p in
      if_to (is_enumerator enums z) (goes t) (refused s.at reason.EnumValue) (one_node t (tree.Num z, 0) refl refl tt (omega (arith, w)) (omega arith)) tt

  array_pays : (n run : ℕ) → Pays s (elements n run (with_node (tree.Arr n 0, n) None s))
  array_pays n run =
      let u : State = with_node (tree.Arr n 0, n) None s in
      let z : array_paid n n ≡ 0 = all_there n in
      elements_pay n run u (one_node u (tree.Arr n 0, n) refl refl tt (omega (arith, z)) (omega arith))

  vary_pays : (phase : Phase) (limit run : ℕ) → To (vary_by values order os phase limit run s)
  vary_pays (offset_read o) limit run =
      let c : ℕ = unsigned order os in
      let u : State = with_node (tree.Arr limit o, c) (Some s.at) (past 4 begun s) in
      let z : array_paid limit c ≤ 1 = one_at_most limit c in
      if_to (ltb limit (o + c)) (refused s.at reason.PastBound) (goes (elements c run u)) tt
      (elements_pay c run u (one_node u (tree.Arr limit o, c) refl refl tt (omega (arith, z)) (omega arith)))
  vary_pays begun limit run = same (past 4 (offset_read (unsigned order os)) s) refl refl (omega arith)
  vary_pays gap_read limit run = same (past 4 (offset_read (unsigned order os)) s) refl refl (omega arith)
  vary_pays (count_read c) limit run = same (past 4 (offset_read (unsigned order os)) s) refl refl (omega arith)

  text_end : (o : Option (ℕ × Reason)) (limit : ℕ) → 1 ≤ length os → To (text_done o limit os s)
  text_end None limit l =
      let t : State = done_after (length os) (with_node (tree.Text limit (take (length os - 1) os), 0) (Some (s.at - 4)) s) in
      one_node t (tree.Text limit (take (length os - 1) os), 0) refl refl tt (omega (arith, l)) (omega arith)
  text_end (Some r) limit l = tt

  text_begins : (limit : ℕ) → To (if eqb (unsigned order os) 0 then goes (past 4 (offset_read 0) s) else refused s.at reason.TextOffset)
  text_begins limit = if_to (eqb (unsigned order os) 0) (goes (past 4 (offset_read 0) s)) (refused s.at reason.TextOffset) (same (past 4 (offset_read 0) s) refl refl (omega arith)) tt

  text_pays : (phase : Phase) (limit : ℕ) → HasOctets (text_want values phase) os s.at → To (text_by values order os phase limit s)
  text_pays (count_read c) limit h = text_end (text_refusal s.at os) limit (let e : length os ≡ c + 1 = h.0 in omega (arith, e))
  text_pays (offset_read o) limit h =
      let c : ℕ = unsigned order os in
      let t : State = past 4 (count_read (c - 1)) s in
      if_to (eqb c 0) (refused s.at reason.TextEmpty) (if ltb limit c then refused s.at reason.PastBound else goes t) tt
      (if_to (ltb limit c) (refused s.at reason.PastBound) (goes t) tt (same t refl refl (omega arith)))
  text_pays begun limit h = text_begins limit
  text_pays gap_read limit h = text_begins limit

  hoist_pays : (phase : Phase) → To (hoist_by values order os phase s)
  hoist_pays gap_read = same (done_after 4 (with_max (unsigned order os) s)) refl refl (omega arith)
  hoist_pays begun = same (past (length os) gap_read s) refl refl (omega arith)
  hoist_pays (offset_read o) = same (past (length os) gap_read s) refl refl (omega arith)
  hoist_pays (count_read c) = same (past (length os) gap_read s) refl refl (omega arith)

  tag_pays : (form : TagForm) → To (tag_step values order os form s)
  tag_pays form =
      let z : ℤ = value_of_octets order form.prim os in
      if_to (is_enumerator form.values z) (goes (next (with_tag z form.prim s))) (refused s.at reason.EnumValue) (same (next (with_tag z form.prim s)) refl refl (omega arith)) tt

  arm_pays : (empty : Bool) (run : ℕ) → Pays s (arm_taken empty run s)
  arm_pays true run =
      let w : 1 ≤ width s.carrier = some_width s.carrier in
      one_node (arm_taken true run s) (tree.Union s.tag, 0) refl refl tt (omega (arith, w)) (omega arith)
  arm_pays false run =
      let w : 1 ≤ width s.carrier = some_width s.carrier in
      one_node (arm_taken false run s) (tree.Union s.tag, 1) refl refl tt (omega (arith, w)) (omega arith)

  if_arm : (b : Bool) (run : ℕ) → Pays s (if b then arm_taken (eqb run 0) run s else next s)
  if_arm true run = arm_pays (eqb run 0) run
  if_arm false run = same (next s) refl refl (omega arith)

  -- a pointer takes four octets, for its node and its cell
  owing_pays : (class : Class) (to : TypeId) (run : ℕ) (c : Option ℕ) → Pays s (done_after 4 (owing class to run c s))
  owing_pays class to run c = one_node (done_after 4 (owing class to run c s)) (tree.Ptr c, 0) refl refl tt (omega arith) (omega arith)

  cell_pays : (t : State) (c : Option ℕ) (to : ℕ) → t.nodes ≡ s.nodes ++ (tree.Ptr c, 0) ∷ [] → t.cells ≡ s.cells ++ to ∷ [] → t.at ≡ s.at + 4 → Pays s t
  cell_pays t c to e f g =
      let n : length t.cells ≡ length s.cells + 1 = ap length f ∙ length-append s.cells (to ∷ []) in
      node_pays s t (tree.Ptr c, 0) e (omega (arith, n)) tt (omega (arith, g)) (omega (arith, n, g))

  new_cell_pays : (class : Class) (to : TypeId) (run : ℕ) → Pays s (done_after 4 (new_cell class to run s))
  new_cell_pays class to run = cell_pays (done_after 4 (new_cell class to run s)) (Some (length s.cells + 1)) to.0 refl refl refl

  if_unique : (b : Bool) (to : TypeId) (run : ℕ) → Pays s (done_after 4 (if b then owing Unique to run None s else new_cell Unique to run s))
  if_unique true to run = owing_pays Unique to run None
  if_unique false to run = new_cell_pays Unique to run

  full_pays : (k : Option Known) (v : ℕ) (to : TypeId) (run : ℕ) → To (full_by k v to run s)
  full_pays None v to run =
      let t : State = done_after 4 (owing Full to run (Some (length s.cells + 1)) (with_names (s.cells ++ to.0 ∷ []) (s.numbers ++ (v, first_met to (record { 0 = length s.cells + 1 })) ∷ []) s)) in
      cell_pays t (Some (length s.cells + 1)) to.0 refl refl refl
  full_pays (Some k) v to run =
      if_to (eqb k.of.0 to.0) (goes (done_after 4 (owing Full to run (Some k.cell.0) s))) (refused s.at reason.OtherType) (owing_pays Full to run (Some k.cell.0)) tt

  pointer_pays : (class : Class) (to : TypeId) (run v : ℕ) → To (pointer_step class to run v s)
  pointer_pays Ref to run v = new_cell_pays Ref to run
  pointer_pays Unique to run v = if_unique (eqb v 0) to run
  pointer_pays Full to run v =
      if_to (eqb v 0) (goes (done_after 4 (owing Full to run None s))) (full_by (known v s.numbers) v to run s) (owing_pays Full to run None) (full_pays (known v s.numbers) v to run)

  disagreed_pays : (o : Option ℕ) (a b : ℤ) (later : Outcome) → To later → To (disagreed o a b later)
  disagreed_pays None a b later p = p
  disagreed_pays (Some place) a b later p = tt

  try_pays : (ws : List Agreement) (x : First) → To (try_all ws x s)
  try_pays [] x = same (next s) refl refl (omega arith)
  try_pays (w ∷ ws) x =
      let o : Option ℕ = place_of w.attr s.max_at (place_in x) in
      if_to (int_eq w.wanted (first_found w.attr x)) (try_all ws x s) (disagreed o w.wanted (first_found w.attr x) (try_all ws x s)) (try_pays ws x)
      (disagreed_pays o w.wanted (first_found w.attr x) (try_all ws x s) (try_pays ws x))

  checked_pays : (ws : List Agreement) (m : Option Member) (x : Option First) → To (checked ws m x s)
  checked_pays ws (Some m) (Some x) =
      let t : State = next (with_fresh (joined_by ws s.fresh m.pending) s) in
      if_to (is_owing x) (goes t) (try_all ws x s) (same t refl refl (omega arith)) (try_pays ws x)
  checked_pays ws (Some m) None = same (next s) refl refl (omega arith)
  checked_pays ws None (Some x) = same (next s) refl refl (omega arith)
  checked_pays ws None None = same (next s) refl refl (omega arith)

  check_pays : (top : Frame) (a : Attr) (f v : ℕ) → To (check_in top a f v s)
  check_pays (frame.Record back first) a f v =
      checked_pays (agreement a (first_number (slice_get s.firsts (first + v)))) (slice_get s.members (first + f)) (slice_get s.firsts (first + f))
  check_pays frame.Home a f v = same (next s) refl refl (omega arith)
  check_pays (frame.Elements left run back) a f v = same (next s) refl refl (omega arith)

  pub step_pays : (i : Instr) → HasOctets (wants values i s) os s.at → To (step values order os i s)
  step_pays op.Void h = same (next s) refl refl (omega arith)
  step_pays op.Ret h = back_pays s.top
  step_pays (op.Align n) h = same (done_after (length os) s) refl refl (omega arith)
  step_pays (op.Num of) h = number_pays (prim_of of.0) None
  step_pays (op.Enum of) h = number_pays Short (enumerators values of.0)
  step_pays (op.Record n) h =
      let t : State = next (pushed (frame.Record 0 (length s.members)) (with_node (tree.Rec, n) None s)) in one_node t (tree.Rec, n) refl refl tt (omega arith) (omega arith)
  step_pays op.Close h = close_pays s.top
  step_pays (op.Fixed n run) h = array_pays n run
  step_pays (op.Conf run) h = array_pays s.max run
  step_pays (op.Vary bound run) h = vary_pays s.phase bound run
  step_pays (op.Confvary run) h = vary_pays s.phase s.max run
  step_pays (op.Text bound) h = text_pays s.phase (limit_of bound s) h
  step_pays op.Hoist h = hoist_pays s.phase
  step_pays (op.Tag of) h = tag_pays (tag_form values of)
  step_pays (op.Arm label run) h = if_arm (int_eq label s.tag) run
  step_pays (op.Other run) h = arm_pays (eqb run 0) run
  step_pays op.Noarm h = tt
  step_pays (op.Pointer class to run) h = pointer_pays class to run (unsigned order os)
  step_pays op.Context h =
      let x : Flat = (tree.Context (unsigned order (take 4 os)) (identifier order os (drop 4 os)), 0) in one_node (done_after 20 (with_node x None s)) x refl refl tt (omega arith) (omega arith)
  step_pays (op.Check a f v star) h = check_pays s.top a f v
  step_pays (op.Call run) h = call_pays s.top run
  step_pays (op.Direct to run) h = pays_itself s
  step_pays (op.Given a f v star) h = pays_itself s
  step_pays (op.Pipe run) h = pays_itself s
  step_pays op.Defer h = pays_itself s

module _ (values : List EnumList) (order : Order) (code : List Instr) (h : Home) (s0 : State) (first : IsPaid s0) where
  -- what was added is paid at each state that is reached
  pub paid_along : {fetched : List ℕ} {noted : List Item} {s : State} → Reaches values order code h s0 fetched noted s → IsPaid s
  paid_along begins = first
  paid_along (steps_to fetched os noted s next i before there has octets e) =
      still_paid s next (paid_along before) (subst (To values order os s) e (step_pays values order os s i has))

  -- and at the end of a value
  pub paid_whole : (fetched : List ℕ) (noted : List Item) (s : State) → Reaches values order code h s0 fetched noted s → (i : Instr) (os : List ℕ) → HasOctets (wants values i s) os s.at
      → (s1 : State) → step values order os i s ≡ whole s1 → IsPaid s1
  paid_whole fetched noted s r i os has s1 e = still_paid s s1 (paid_along r) (subst (To values order os s) e (step_pays values order os s i has))
