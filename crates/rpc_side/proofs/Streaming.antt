-- What a side does with octets and PDUs, seen from its stream.
use Rattle.std.proofs.Common.{◌≡◌, ◌∙◌, ℕ, ◌+◌, ◌%◌, ◌^◌, ◌≤◌, List, [], ◌∷◌, ◌++◌, length, take, Option, Some, None, Result, Ok, Err, IfOk, OnErr, refl, ap, sym, subst, append_assoc, append-nil}
use Rattle.std.proofs.lemmas.List.{length-take-le}
use Rattle.rpc_stream.specs.declared.call.Peer.{Peer}
use Rattle.rpc_stream.specs.declared.call.Pdu.{Pdu}
use Rattle.rpc_stream.specs.declared.stated.First.TheVariants.{Waiting, Whole}
use Rattle.rpc_stream.specs.Pdus.{first_of, joined, IsPdu, AllPdus, lacking_of, IsTaken}
use Rattle.rpc_stream.specs.Calls.{placed}
use Rattle.rpc_stream.proofs.Cutting.{joined_more, past, one}
use Rattle.rpc_side.specs.declared.calls.OpenCalls.{OpenCalls}
use Rattle.rpc_side.specs.declared.report.Limits.{Limits}
use Rattle.rpc_side.specs.declared.report.Report.{Report}
use Rattle.rpc_side.specs.declared.report.Reports.{Reports}
use Rattle.rpc_side.specs.declared.report.Reports.TheVariants.{Nothing, One, Two}
use Rattle.rpc_side.specs.declared.side.Side.{Side}
use Rattle.rpc_side.specs.Kept.{Kept, nothing_kept, step, kept_after, reports_of}
use Rattle.rpc_side.specs.Held.{Keeps, IsStep, listed, due_of}
use Rattle.rpc_side.specs.Stream.{place_after, Stands, IsThrough}

-- ## A side with other octets, or after a PDU

abbrev pub with_pending : List ℕ → Side → Side
with_pending os s = record { alloc = s.alloc; peer = s.peer; limits = s.limits; cutter = os; at = s.at; calls = s.calls; due = s.due }

abbrev pub after_pdu : OpenCalls → Option Report → Side → Side
after_pdu calls due s = record {
  alloc = s.alloc;
  peer = s.peer;
  limits = s.limits;
  cutter = [];
  at = (s.at + length s.cutter) % 2 ^ 64;
  calls = calls;
  due = due;
}

-- the same with the parts of another form
abbrev pub after_taking : List ℕ → ℕ → OpenCalls → Option Report → Side → Side
after_taking os at calls due s = record { alloc = s.alloc; peer = s.peer; limits = s.limits; cutter = os; at = at; calls = calls; due = due }

abbrev pub with_calls : OpenCalls → Side → Side
with_calls calls s = record { alloc = s.alloc; peer = s.peer; limits = s.limits; cutter = s.cutter; at = s.at; calls = calls; due = s.due }

-- ## Octets

pub fed : (stream piece new : List ℕ) (handed : List Report) (s : Side) (n : ℕ) → first_of s.cutter ≡ Waiting → IsTaken s.cutter piece n new
    → Stands stream handed s → Stands (stream ++ take n piece) handed (with_pending new s)
fed stream piece new handed s n w t st = record {
  pdus = st.pdus;
  whole =
      ap (λ l. l ++ take n piece) st.whole
      ∙ append_assoc (joined st.pdus) s.cutter (take n piece)
      ∙ ap (λ l. joined st.pdus ++ l) (sym t.new_is);
  each = st.each;
  most_one = λ m h.
      let few : length (take n piece) ≤ lacking_of s.cutter =
      subst (λ k. k ≤ lacking_of s.cutter) (sym (length-take-le n piece t.within)) t.enough in
      past s.cutter (take n piece) m w few (ap first_of (sym t.new_is) ∙ h) ∙ ap length (sym t.new_is);
  at = st.at;
  kept = st.kept;
  reported = st.reported;
}

pub fed_ok : {B : Type 0} (piece new : List ℕ) (s : Side) (x : Result ℕ B) → first_of s.cutter ≡ Waiting → IfOk x (λ n. IsTaken s.cutter piece n new)
    → IfOk x (λ n. (stream : List ℕ) (handed : List Report) → Stands stream handed s → Stands (stream ++ take n piece) handed (with_pending new s))
fed_ok piece new s (Ok n) w t = λ stream handed st. fed stream piece new handed s n w t st
fed_ok piece new s (Err b) w t = t

-- ## One PDU more

all_with : (ps : List (List ℕ)) (p : List ℕ) → AllPdus ps → IsPdu p → AllPdus (ps ++ (p ∷ []))
all_with [] p a b = (b, tt)
all_with (q ∷ ps) p a b = (a.0, all_with ps p a.1 b)

placed_more : (at : ℕ) (ps : List (List ℕ)) (p : List ℕ) → placed at (ps ++ (p ∷ [])) ≡ placed at ps ++ (record { at = place_after at ps; octets = p } ∷ [])
placed_more at [] p = refl
placed_more at (q ∷ ps) p = ap (λ l. record { at = at; octets = q } ∷ l) (placed_more ((at + length q) % 2 ^ 64) ps p)

place_more : (at : ℕ) (ps : List (List ℕ)) (p : List ℕ) → place_after at (ps ++ (p ∷ [])) ≡ (place_after at ps + length p) % 2 ^ 64
place_more at [] p = refl
place_more at (q ∷ ps) p = place_more ((at + length q) % 2 ^ 64) ps p

kept_more : (peer : Peer) (limits : Limits) (k : Kept) (ps : List Pdu) (p : Pdu)
    → kept_after peer limits k (ps ++ (p ∷ [])) ≡ (step peer limits p (kept_after peer limits k ps)).kept
kept_more peer limits k [] p = refl
kept_more peer limits k (q ∷ ps) p = kept_more peer limits (step peer limits q k).kept ps p

reports_more : (peer : Peer) (limits : Limits) (k : Kept) (ps : List Pdu) (p : Pdu)
    → reports_of peer limits k (ps ++ (p ∷ [])) ≡ reports_of peer limits k ps ++ (step peer limits p (kept_after peer limits k ps)).reports
reports_more peer limits k [] p = append-nil (step peer limits p k).reports
reports_more peer limits k (q ∷ ps) p =
    ap (λ l. (step peer limits q k).reports ++ l) (reports_more peer limits (step peer limits q k).kept ps p)
    ∙ sym (append_assoc (step peer limits q k).reports (reports_of peer limits (step peer limits q k).kept ps)
    (step peer limits p (kept_after peer limits (step peer limits q k).kept ps)).reports)

-- the PDU that is pending was taken, and some of what is reported of it was handed out
pub taken : (stream : List ℕ) (handed now : List Report) (s : Side) (n : ℕ) (r : Reports) (calls : OpenCalls) (due : Option Report)
    → first_of s.cutter ≡ Whole n → s.due ≡ None
    → ((k : Kept) → Keeps s.calls k → IsStep (step s.peer s.limits (record { at = s.at; octets = s.cutter }) k) r calls)
    → now ++ due_of due ≡ handed ++ listed r
    → Stands stream handed s → Stands stream now (after_pdu calls due s)
taken stream handed now s n r calls due whole none made joins st =
    let p : Pdu = record { at = place_after 0 st.pdus; octets = s.cutter } in
    let before : List Pdu = placed 0 st.pdus in
    let k : Kept = kept_after s.peer s.limits nothing_kept (placed 0 st.pdus) in
    let all : placed 0 (st.pdus ++ (s.cutter ∷ [])) ≡ before ++ (p ∷ []) = placed_more 0 st.pdus s.cutter in
    let m = subst (λ at. IsStep (step s.peer s.limits (record { at = at; octets = s.cutter }) k) r calls) st.at (made k st.kept) in
    let is_pdu : IsPdu s.cutter = whole ∙ ap Whole (st.most_one n whole) in
    let so_far : handed ≡ reports_of s.peer s.limits nothing_kept before =
    sym (append-nil handed) ∙ ap (λ d. handed ++ due_of d) (sym none) ∙ st.reported in
    record {
      pdus = st.pdus ++ (s.cutter ∷ []);
      whole =
          st.whole
          ∙ ap (λ l. joined st.pdus ++ l) (sym (append-nil s.cutter))
          ∙ sym (joined_more st.pdus (s.cutter ∷ []))
          ∙ sym (append-nil (joined (st.pdus ++ (s.cutter ∷ []))));
      each = all_with st.pdus s.cutter st.each is_pdu;
      most_one = λ j h. cc;
      at = ap (λ a. (a + length s.cutter) % 2 ^ 64) st.at ∙ sym (place_more 0 st.pdus s.cutter);
      kept =
          subst (λ (j : Kept). Keeps calls j)
          (sym (ap (kept_after s.peer s.limits nothing_kept) all ∙ kept_more s.peer s.limits nothing_kept before p)) m.kept;
      reported =
          joins
          ∙ ap (λ l. handed ++ l) m.reports
          ∙ ap (λ l. l ++ (step s.peer s.limits p k).reports) so_far
          ∙ sym (ap (reports_of s.peer s.limits nothing_kept) all ∙ reports_more s.peer s.limits nothing_kept before p);
    }

-- ## What is handed out

pub through : (stream : List ℕ) (handed : List Report) (s : Side) → s.due ≡ None → ((n : ℕ) → first_of s.cutter ≡ Whole n → ⊥)
    → Stands stream handed s → IsThrough stream handed s
through stream handed s none rest st = record {
  stands = st;
  pdus = st.pdus;
  cut = record { whole = st.whole; each = st.each; rest_is = rest };
  all = sym (append-nil handed) ∙ ap (λ d. handed ++ due_of d) (sym none) ∙ st.reported;
}

-- ## In the forms of the code

pub same_kept : (stream : List ℕ) (handed : List Report) (calls : OpenCalls) (s : Side) → ((k : Kept) → Keeps s.calls k → Keeps calls k)
    → Stands stream handed s → Stands stream handed (with_calls calls s)
same_kept stream handed calls s h st = record {
  pdus = st.pdus;
  whole = st.whole;
  each = st.each;
  most_one = st.most_one;
  at = st.at;
  kept = h (kept_after s.peer s.limits nothing_kept (placed 0 st.pdus)) st.kept;
  reported = st.reported;
}

pub on_err : {A B : Type 0} (x : Result A B) (P : Type 0) → P → OnErr x P
on_err (Ok a) P p = tt
on_err (Err b) P p = p

-- the step is of the octets that are pending
of_pending : (s : Side) (copied : List ℕ) (r : Reports) (calls : OpenCalls) → copied ≡ s.cutter
    → ((k : Kept) → Keeps s.calls k → IsStep (step s.peer s.limits (record { at = s.at; octets = copied }) k) r calls)
    → (k : Kept) → Keeps s.calls k → IsStep (step s.peer s.limits (record { at = s.at; octets = s.cutter }) k) r calls
of_pending s copied r calls e h k keeps =
    subst (λ (os : List ℕ). IsStep (step s.peer s.limits (record { at = s.at; octets = os }) k) r calls) e (h k keeps)

-- an empty cutter, and the place after the PDU
formed : (stream : List ℕ) (handed : List Report) (s : Side) (os : List ℕ) (at : ℕ) (calls : OpenCalls) (due : Option Report) → os ≡ []
    → at ≡ (s.at + length s.cutter) % 2 ^ 64 → Stands stream handed (after_pdu calls due s) → Stands stream handed (after_taking os at calls due s)
formed stream handed s os at calls due e f h =
    subst (λ (x : List ℕ). Stands stream handed (after_taking x at calls due s)) (sym e)
    (subst (λ (x : ℕ). Stands stream handed (after_taking [] x calls due s)) (sym f) h)

pub nothing_now : (s : Side) (n : ℕ) (copied os : List ℕ) (at : ℕ) (r : Reports) (calls : OpenCalls) → first_of s.cutter ≡ Whole n → s.due ≡ None → copied ≡ s.cutter
    → os ≡ [] → at ≡ (s.at + length s.cutter) % 2 ^ 64
    → ((k : Kept) → Keeps s.calls k → IsStep (step s.peer s.limits (record { at = s.at; octets = copied }) k) r calls) → r ≡ Nothing
    → (stream : List ℕ) (handed : List Report) → Stands stream handed s → IsThrough stream handed (after_taking os at calls s.due s)
nothing_now s n copied os at r calls whole none e f g made h stream handed st =
    subst (λ (d : Option Report). IsThrough stream handed (after_taking os at calls d s)) (sym none)
    (through stream handed (after_taking os at calls None s) refl
    (subst (λ (x : List ℕ). (j : ℕ) → first_of x ≡ Whole j → ⊥) (sym f) (λ j w. cc))
    (formed stream handed s os at calls None f g
    (taken stream handed handed s n r calls None whole none (of_pending s copied r calls e made) (ap (λ x. handed ++ listed x) (sym h)) st)))

pub one_now : (s : Side) (n : ℕ) (copied os : List ℕ) (at : ℕ) (r : Reports) (report : Report) (calls : OpenCalls) → first_of s.cutter ≡ Whole n → s.due ≡ None
    → copied ≡ s.cutter → os ≡ [] → at ≡ (s.at + length s.cutter) % 2 ^ 64
    → ((k : Kept) → Keeps s.calls k → IsStep (step s.peer s.limits (record { at = s.at; octets = copied }) k) r calls) → r ≡ One report
    → (stream : List ℕ) (handed : List Report) → Stands stream handed s → Stands stream (handed ++ (report ∷ [])) (after_taking os at calls s.due s)
one_now s n copied os at r report calls whole none e f g made h stream handed st =
    subst (λ (d : Option Report). Stands stream (handed ++ (report ∷ [])) (after_taking os at calls d s)) (sym none)
    (formed stream (handed ++ (report ∷ [])) s os at calls None f g
    (taken stream handed (handed ++ (report ∷ [])) s n r calls None whole none (of_pending s copied r calls e made)
    (append-nil (handed ++ (report ∷ [])) ∙ ap (λ x. handed ++ listed x) (sym h)) st))

pub two_now : (s : Side) (n : ℕ) (copied os : List ℕ) (at : ℕ) (r : Reports) (report other : Report) (calls : OpenCalls) → first_of s.cutter ≡ Whole n
    → s.due ≡ None → copied ≡ s.cutter → os ≡ [] → at ≡ (s.at + length s.cutter) % 2 ^ 64
    → ((k : Kept) → Keeps s.calls k → IsStep (step s.peer s.limits (record { at = s.at; octets = copied }) k) r calls) → r ≡ Two report other
    → (stream : List ℕ) (handed : List Report) → Stands stream handed s → Stands stream (handed ++ (report ∷ [])) (after_taking os at calls (Some other) s)
two_now s n copied os at r report other calls whole none e f g made h stream handed st =
    formed stream (handed ++ (report ∷ [])) s os at calls (Some other) f g
    (taken stream handed (handed ++ (report ∷ [])) s n r calls (Some other) whole none (of_pending s copied r calls e made)
    (append_assoc handed (report ∷ []) (other ∷ []) ∙ ap (λ x. handed ++ listed x) (sym h)) st)

-- ## Any pieces

same_reports : (s t : Side) (ps qs : List (List ℕ)) → s.peer ≡ t.peer → s.limits ≡ t.limits → ps ≡ qs
    → reports_of s.peer s.limits nothing_kept (placed 0 ps) ≡ reports_of t.peer t.limits nothing_kept (placed 0 qs)
same_reports s t ps qs e f g =
    ap (λ x. reports_of x s.limits nothing_kept (placed 0 ps)) e
    ∙ ap (λ x. reports_of t.peer x nothing_kept (placed 0 ps)) f
    ∙ ap (λ x. reports_of t.peer t.limits nothing_kept (placed 0 x)) g

pub pieces_alike : (stream : List ℕ) (handed other : List Report) (s t : Side) → IsThrough stream handed s → IsThrough stream other t
    → s.peer ≡ t.peer → s.limits ≡ t.limits → (handed ≡ other) × (s.cutter ≡ t.cutter)
pieces_alike stream handed other s t a b e f =
    let same = one stream a.pdus b.pdus s.cutter t.cutter a.cut b.cut in
    (a.all ∙ same_reports s t a.pdus b.pdus e f same.0 ∙ sym b.all, same.1)
