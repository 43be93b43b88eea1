-- One PDU: what the calls of a table do is a step of what a side keeps.
use Rattle.std.proofs.Common.{◌≡◌, ◌∙◌, ℕ, ◌-◌, ◌<◌, Bool, true, false, ◌&&◌, leb, List, [], ◌∷◌, length}
use Rattle.std.proofs.Common.{Some, None, option_map, Result, Ok, Err, IfOk, refl, ap, ap₂, sym, subst, arith, slice_index}
use Rattle.std.proofs.lemmas.Bool.Decides.{nat_tests}
use Rattle.rpc_stream.specs.declared.call.Peer.{Peer}
use Rattle.rpc_stream.specs.declared.call.Pdu.{Pdu}
use Rattle.rpc_stream.specs.declared.call.Part.{Part}
use Rattle.rpc_stream.specs.declared.call.Part.TheVariants.{Middle, Closing}
use Rattle.rpc_stream.specs.declared.call.Ended.TheVariants.{Complete}
use Rattle.rpc_stream.specs.Calls.{Open, id_of, part_of, in_calls}
use Rattle.rpc_side.specs.declared.calls.OpenCall.{OpenCall}
use Rattle.rpc_side.specs.declared.calls.OpenCalls.{OpenCalls}
use Rattle.rpc_side.specs.declared.report.Limits.{Limits}
use Rattle.rpc_side.specs.declared.report.Report.TheVariants.{CallEnded}
use Rattle.rpc_side.specs.declared.report.Reports.{Reports}
use Rattle.rpc_side.specs.Kept.{Kept, Step, size, begun, fits, begin_by, begin_call, grow_by, step_by, step_if, step}
use Rattle.rpc_side.specs.Held.{octets_at, open_call, Keeps, Grows, Closes, listed, IsStep}

-- ## Which step

pub by_open : (limits : Limits) (c : ℕ) (o : Open) (part : Part) (p : Pdu) (k : Kept) (r : Reports) (t : OpenCalls) → k.by_id c ≡ o
    → IsStep (step_by limits c o part p k) r t → IsStep (step_by limits c (k.by_id c) part p k) r t
by_open limits c o part p k r t e h = subst (λ (x : Open). IsStep (step_by limits c x part p k) r t) (sym e) h

chosen : (peer : Peer) (limits : Limits) (p : Pdu) (k : Kept) (c : ℕ) (part : Part) → true ≡ in_calls peer (slice_index p.octets 2) → c ≡ id_of p → part ≡ part_of p
    → step_by limits c (k.by_id c) part p k ≡ step peer limits p k
chosen peer limits p k c part m e f =
    ap₂ (λ d q. step_by limits d (k.by_id d) q p k) e f ∙ ap (λ b. step_if b limits p k) m

pub stepped : (peer : Peer) (limits : Limits) (p : Pdu) (c : ℕ) (part : Part) (old new : OpenCalls) (r : Reports)
    → true ≡ in_calls peer (slice_index p.octets 2) → c ≡ id_of p → part ≡ part_of p
    → ((k : Kept) → Keeps old k → IsStep (step_by limits c (k.by_id c) part p k) r new)
    → (k : Kept) → Keeps old k → IsStep (step peer limits p k) r new
stepped peer limits p c part old new r m e f h k keeps =
    subst (λ (s : Step). IsStep s r new) (chosen peer limits p k c part m e f) (h k keeps)

-- where an answer is Ok
pub stepped_ok : {B : Type 0} (peer : Peer) (limits : Limits) (p : Pdu) (c : ℕ) (part : Part) (old new : OpenCalls) (x : Result Reports B)
    → true ≡ in_calls peer (slice_index p.octets 2) → c ≡ id_of p → part ≡ part_of p
    → IfOk x (λ r. (k : Kept) → Keeps old k → IsStep (step_by limits c (k.by_id c) part p k) r new)
    → IfOk x (λ r. (k : Kept) → Keeps old k → IsStep (step peer limits p k) r new)
stepped_ok peer limits p c part old new (Ok r) m e f h = stepped peer limits p c part old new r m e f h
stepped_ok peer limits p c part old new (Err b) m e f h = h

pub stepped_any : {B : Type 0} (peer : Peer) (limits : Limits) (p : Pdu) (c : ℕ) (part : Part) (old new : OpenCalls) (x : Result Reports B)
    → true ≡ in_calls peer (slice_index p.octets 2) → c ≡ id_of p → part ≡ part_of p
    → IfOk x (λ r. (l : Limits) (k : Kept) → Keeps old k → IsStep (step_by l c (k.by_id c) part p k) r new)
    → IfOk x (λ r. (k : Kept) → Keeps old k → IsStep (step peer limits p k) r new)
stepped_any peer limits p c part old new (Ok r) m e f h = stepped peer limits p c part old new r m e f (λ k keeps. h limits k keeps)
stepped_any peer limits p c part old new (Err b) m e f h = h

-- ## Later fragments

record Own (k : Kept) (c own : ℕ) : Type 0 where
  pub fragments : List Pdu
  pub was : k.by_id c ≡ Some fragments
  pub own_is : own ≡ size fragments

own_by : (o : Open) (own : ℕ) → option_map (λ (x : OpenCall). x.octets) (option_map open_call o) ≡ Some own → (g : List Pdu) × (o ≡ Some g) × (own ≡ size g)
own_by None own h = cc
own_by (Some g) own h = (g, refl, cc)

owns : (t : OpenCalls) (k : Kept) (c own : ℕ) → octets_at t.entries c ≡ Some own → Keeps t k → Own k c own
owns t k c own h keeps =
    let w = own_by (k.by_id c) own (ap (option_map (λ (x : OpenCall). x.octets)) (sym (keeps.each c)) ∙ h) in
    record { fragments = w.0; was = w.1; own_is = w.2 }

-- the test of the code
fits_as : (limits : Limits) (g : List Pdu) (p : Pdu) (k : Kept) (all own count : ℕ) → all ≡ k.octets → own ≡ size g → count ≡ length p.octets
    → (leb count (limits.octets - all) && leb count (limits.octets - own)) ≡ fits limits g p k
fits_as limits g p k all own count e f h =
    ap (λ n. leb n (limits.octets - all) && leb n (limits.octets - own)) h
    ∙ ap₂ (λ a o. leb (length p.octets) (limits.octets - a) && leb (length p.octets) (limits.octets - o)) e f

same_fragments : (x y : List Pdu) → Some x ≡ Some y → x ≡ y
same_fragments x y h = cc

pub grow_step : (limits : Limits) (c own count : ℕ) (p : Pdu) (k : Kept) (r : Reports) (old new : OpenCalls) → octets_at old.entries c ≡ Some own → Keeps old k
    → count ≡ length p.octets → true ≡ (leb count (limits.octets - old.octets) && leb count (limits.octets - own))
    → Grows k c p new → listed r ≡ [] → IsStep (step_by limits c (k.by_id c) Middle p k) r new
grow_step limits c own count p k r old new at keeps e test h f =
    let o = owns old k c own at keeps in
    let same : o.fragments ≡ h.fragments = same_fragments o.fragments h.fragments (sym o.was ∙ h.was) in
    let b : true ≡ fits limits h.fragments p k =
    test ∙ fits_as limits h.fragments p k old.octets own count keeps.octets (o.own_is ∙ ap size same) e in
    by_open limits c (Some h.fragments) Middle p k r new h.was
    (subst (λ (x : Bool). IsStep (grow_by x c h.fragments p k) r new) b (record { kept = h.kept; reports = f }))

pub close_step : (limits : Limits) (c : ℕ) (p : Pdu) (taken : List Pdu) (k : Kept) (r : Reports) (t : OpenCalls) → Closes k c p taken t
    → listed r ≡ CallEnded c (Complete taken) ∷ [] → IsStep (step_by limits c (k.by_id c) Closing p k) r t
close_step limits c p taken k r t h f =
    by_open limits c (Some h.fragments) Closing p k r t h.was
    (record { kept = h.kept; reports = f ∙ ap (λ x. CallEnded c (Complete x) ∷ []) h.taken_is })

-- ## First fragments

less_than : (a b : ℕ) → b < a → false ≡ leb a b
less_than a b h = grind (arith, nat_tests)

-- a call begins
pub begin_step : (limits : Limits) (c calls count all : ℕ) (p : Pdu) (k : Kept) (r : Reports) (t : OpenCalls) → calls < limits.calls → calls ≡ k.calls
    → count ≡ length p.octets → all ≡ k.octets → true ≡ (leb count (limits.octets - all) && leb count (limits.octets - 0))
    → listed r ≡ [] → Keeps t (begun c p k) → IsStep (begin_call limits c p k) r t
begin_step limits c calls count all p k r t fewer e h a test f keeps =
    let b : false ≡ leb limits.calls k.calls = less_than limits.calls k.calls (subst (λ x. x < limits.calls) e fewer) in
    let d : true ≡ fits limits [] p k = test ∙ fits_as limits [] p k all 0 count a refl h in
    subst (λ (x : Bool). IsStep (begin_by x (fits limits [] p k) c p k) r t) b
    (subst (λ (x : Bool). IsStep (begin_by false x c p k) r t) d (record { kept = keeps; reports = f }))
