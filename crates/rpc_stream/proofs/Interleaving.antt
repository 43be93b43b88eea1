-- What ends under a call id depends on the PDUs of that id alone, and no PDU is lost.
use Rattle.std.proofs.Common.{◌≡◌, ◌∙◌, ℕ, Bool, true, false, not, ◌==◌, List, [], ◌∷◌, ◌++◌, Option, Some, None, refl, ap, sym, append_assoc, append-nil, eqb-true, slice_index}
use Rattle.rpc_stream.specs.declared.call.Peer.{Peer}
use Rattle.rpc_stream.specs.declared.call.Pdu.{Pdu}
use Rattle.rpc_stream.specs.declared.call.Part.{Part}
use Rattle.rpc_stream.specs.declared.call.Part.TheVariants.{Sole, Opening, Middle, Closing, Stopping}
use Rattle.rpc_stream.specs.declared.call.Ended.{Ended}
use Rattle.rpc_stream.specs.declared.call.Ended.TheVariants.{Complete, CutOff, Stopped, Stray}
use Rattle.rpc_stream.specs.Calls.{id_of, part_of, Open, next_by, ended_by, next, ended, ended_all, open_after, Ids, nothing_open, put_by, put, run, pick_by, ended_of}
use Rattle.rpc_stream.specs.Calls.{keep_by, of_id, in_calls, calls_of, others_of, Woven, none_woven, from_left, from_right, AllHave, NoneHas}
use Rattle.rpc_stream.specs.Calls.{reported, reported_all, still_open}

-- ## Each id alone

by_id : (m : Ids) (c d : ℕ) (p : Pdu) (ps : List Pdu) (rest : List Ended) (b : Bool) → (d == c) ≡ b → rest ≡ ended_all (put_by b (next (m d) p) (m c)) ps
    → pick_by b (ended (m d) p) rest ≡ ended_all (m c) (keep_by b p ps)
by_id m c d p ps rest true e h = ap (λ l. ended (m d) p ++ l) h ∙ ap (λ k. ended (m k) p ++ ended_all (next (m k) p) ps) (eqb-true d c e)
by_id m c d p ps rest false e h = h

pub alone : (c : ℕ) (ps : List Pdu) (m : Ids) → ended_of c (run m ps) ≡ ended_all (m c) (of_id c ps)
alone c [] m = refl
alone c (p ∷ ps) m =
    by_id m c (id_of p) p (of_id c ps) (ended_of c (run (put m (id_of p) (next (m (id_of p)) p)) ps)) (id_of p == c) refl
    (alone c ps (put m (id_of p) (next (m (id_of p)) p)))

-- ## Among others

pub own_of : (c : ℕ) (ls rs ps : List Pdu) → Woven ls rs ps → AllHave c ls → NoneHas c rs → of_id c ps ≡ ls
own_of c _ _ _ none_woven x y = refl
own_of c _ _ _ (from_left p ls rs ps w) x y = ap (λ b. keep_by b p (of_id c ps)) x.0 ∙ ap (λ l. p ∷ l) (own_of c ls rs ps w x.1 y)
own_of c _ _ _ (from_right p ls rs ps w) x y = ap (λ b. keep_by b p (of_id c ps)) y.0 ∙ own_of c ls rs ps w x y.1

pub woven : (c : ℕ) (own others ps : List Pdu) → AllHave c own → NoneHas c others → Woven own others ps → ended_of c (run nothing_open ps) ≡ ended_all None own
woven c own others ps x y w = alone c ps nothing_open ∙ ap (λ l. ended_all None l) (own_of c own others ps w x y)

-- ## Nothing is lost

reported_more : (a b : List Ended) → reported_all (a ++ b) ≡ reported_all a ++ reported_all b
reported_more [] b = refl
reported_more (e ∷ es) b = ap (λ l. reported e ++ l) (reported_more es b) ∙ sym (append_assoc (reported e) (reported_all es) (reported_all b))

-- one PDU is added
step_by : (s : Open) (part : Part) (p : Pdu) → reported_all (ended_by s part p) ++ still_open (next_by s part p) ≡ still_open s ++ (p ∷ [])
step_by None Sole p = refl
step_by None Opening p = refl
step_by None Middle p = refl
step_by None Closing p = refl
step_by None Stopping p = refl
step_by (Some g) Sole p = append-nil (g ++ (p ∷ []))
step_by (Some g) Opening p = ap (λ l. l ++ (p ∷ [])) (append-nil g)
step_by (Some g) Middle p = refl
step_by (Some g) Closing p = append-nil ((g ++ (p ∷ [])) ++ []) ∙ append-nil (g ++ (p ∷ []))
step_by (Some g) Stopping p = append-nil ((g ++ (p ∷ [])) ++ []) ∙ append-nil (g ++ (p ∷ []))

pub kept : (ps : List Pdu) (s : Open) → reported_all (ended_all s ps) ++ still_open (open_after s ps) ≡ still_open s ++ ps
kept [] s = sym (append-nil (still_open s))
kept (p ∷ ps) s =
    ap (λ l. l ++ still_open (open_after (next s p) ps)) (reported_more (ended s p) (ended_all (next s p) ps))
    ∙ append_assoc (reported_all (ended s p)) (reported_all (ended_all (next s p) ps)) (still_open (open_after (next s p) ps))
    ∙ ap (λ l. reported_all (ended s p) ++ l) (kept ps (next s p))
    ∙ sym (append_assoc (reported_all (ended s p)) (still_open (next s p)) ps)
    ∙ ap (λ l. l ++ ps) (step_by s (part_of p) p)
    ∙ append_assoc (still_open s) (p ∷ []) ps

pub lost_none : (c : ℕ) (ps : List Pdu) → reported_all (ended_of c (run nothing_open ps)) ++ still_open (open_after None (of_id c ps)) ≡ of_id c ps
lost_none c ps = ap (λ l. reported_all l ++ still_open (open_after None (of_id c ps))) (alone c ps nothing_open) ∙ kept (of_id c ps) None

-- ## Each PDU is in one of two lists

by_side : (b : Bool) (p : Pdu) (ls rs ps : List Pdu) → Woven ls rs ps → Woven (keep_by b p ls) (keep_by (not b) p rs) (p ∷ ps)
by_side true p ls rs ps w = from_left p ls rs ps w
by_side false p ls rs ps w = from_right p ls rs ps w

pub each_in_one : (side : Peer) (ps : List Pdu) → Woven (calls_of side ps) (others_of side ps) ps
each_in_one side [] = none_woven
each_in_one side (p ∷ ps) = by_side (in_calls side (slice_index p.octets 2)) p (calls_of side ps) (others_of side ps) ps (each_in_one side ps)
