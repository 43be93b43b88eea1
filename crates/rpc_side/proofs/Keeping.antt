-- What the calls on a table of open calls do to what a side keeps.
use Rattle.std.proofs.Common.{◌≡◌, ◌∙◌, ℕ, ◌+◌, ◌-◌, ◌≤◌, suc, Bool, true, false, cond, nat_eq, List, [], ◌∷◌, ◌++◌, length, Option, Some, None, option_map, refl, ap, ap₂, sym, arith}
use Rattle.std.specs.Map.{lookup}
use Rattle.indexmap.specs.IndexMap.{get, index_map_len}
use Rattle.rpc_stream.specs.declared.call.Pdu.{Pdu}
use Rattle.rpc_stream.specs.Calls.{Open, put_by, put}
use Rattle.rpc_side.specs.declared.calls.OpenCall.{OpenCall}
use Rattle.rpc_side.specs.declared.calls.OpenCalls.{OpenCalls}
use Rattle.rpc_side.specs.Kept.{Kept, size, without, begun}
use Rattle.rpc_side.specs.Held.{octets_at, open_call, Keeps, Grows}

abbrev pub made_of : List Pdu → ℕ → OpenCall
made_of g n = record { fragments = g; octets = n }

-- ## What was there

record WasOpen (k : Kept) (c : ℕ) (v : OpenCall) : Type 0 where
  pub fragments : List Pdu
  pub open_is : k.by_id c ≡ Some fragments
  pub same : v ≡ open_call fragments

was_by : (o : Open) (v : OpenCall) → Some v ≡ option_map open_call o → (g : List Pdu) × (o ≡ Some g) × (v ≡ open_call g)
was_by None v h = cc
was_by (Some g) v h = (g, refl, cc)

was_open : (t : OpenCalls) (k : Kept) (c : ℕ) (v : OpenCall) → get nat_eq t.entries c ≡ Some v → Keeps t k → WasOpen k c v
was_open t k c v there h =
    let w = was_by (k.by_id c) v (sym there ∙ h.each c) in
    record { fragments = w.0; open_is = w.1; same = w.2 }

some_len : (es : List (ℕ × OpenCall)) (test : ℕ → Bool) (v : OpenCall) → lookup test es ≡ Some v → 1 ≤ length es
some_len [] test v h = absurd (cc h)
some_len (e ∷ es) test v h = omega arith

-- ## Tables

put_then : (b : Bool) (o x : Open) (w y : Option OpenCall) → w ≡ option_map open_call o → y ≡ option_map open_call x
    → cond b w y ≡ option_map open_call (put_by b o x)
put_then true o x w y e h = e
put_then false o x w y e h = h

table_put : (t t' : OpenCalls) (k : Kept) (c calls octets : ℕ) (o : Open) (w : Option OpenCall)
    → ((q : ℕ) → get nat_eq t'.entries q ≡ cond (nat_eq c q) w (get nat_eq t.entries q)) → w ≡ option_map open_call o
    → index_map_len t'.entries ≡ calls → t'.octets ≡ octets → Keeps t k
    → Keeps t' (record { by_id = put k.by_id c o; calls = calls; octets = octets })
table_put t t' k c calls octets o w upd e count f h = record {
  each = λ q. upd q ∙ put_then (nat_eq c q) o (k.by_id q) w (get nat_eq t.entries q) e (h.each q);
  count = count;
  octets = f;
}

-- a second write at the same id
over : (b : Bool) (w w' y y' : Option OpenCall) → y' ≡ cond b w y → cond b w' y' ≡ cond b w' y
over true w w' y y' h = refl
over false w w' y y' h = h

-- ## Beginning

one_size : (n : ℕ) → n ≡ n + 0
one_size n = omega arith

sole_call : (p : Pdu) (v : OpenCall) → v.fragments ≡ p ∷ [] → v.octets ≡ length p.octets → Some v ≡ option_map open_call (Some (p ∷ []))
sole_call p v e f = ap₂ (λ g n. Some (made_of g n)) e (f ∙ one_size (length p.octets))

twice_put : (b : Bool) (o x : Open) (w y : Option OpenCall) → w ≡ option_map open_call o → y ≡ option_map open_call x
    → cond b w y ≡ option_map open_call (put_by b o (put_by b None x))
twice_put true o x w y e h = e
twice_put false o x w y e h = h

same_count : (n k : ℕ) → n ≡ k → 1 ≤ n → n ≡ suc (k - 1)
same_count n k e some_there = omega (arith, e, some_there)

pub replaced : (t t' : OpenCalls) (k : Kept) (c own : ℕ) (p : Pdu) (old v : OpenCall) → get nat_eq t.entries c ≡ Some old
    → ((q : ℕ) → get nat_eq t'.entries q ≡ cond (nat_eq c q) (Some v) (get nat_eq t.entries q)) → v.fragments ≡ p ∷ [] → v.octets ≡ length p.octets
    → index_map_len t'.entries ≡ index_map_len t.entries → octets_at t.entries c ≡ Some own → t'.octets ≡ (t.octets - own) + length p.octets → Keeps t k
    → (k.by_id c ≡ Some old.fragments) × Keeps t' (begun c p (without c old.fragments k))
replaced t t' k c own p old v there upd e f count at g h =
    let w = was_open t k c old there h in
    let some_there : 1 ≤ index_map_len t.entries = some_len t.entries.entries (nat_eq c) old there in
    let calls : index_map_len t.entries ≡ suc (k.calls - 1) = same_count (index_map_len t.entries) k.calls h.count some_there in
    let mine : old.octets ≡ size old.fragments = ap (λ (x : OpenCall). x.octets) w.same ∙ ap (λ (x : OpenCall). size x.fragments) (sym w.same) in
    let said : Some old.octets ≡ Some own = ap (option_map (λ (x : OpenCall). x.octets)) (sym there) ∙ at in
    let same_own : own ≡ old.octets = cc in (
      w.open_is ∙ ap (λ (x : OpenCall). Some x.fragments) (sym w.same),
      record {
        each = λ q. upd q ∙ twice_put (nat_eq c q) (Some (p ∷ [])) (k.by_id q) (Some v) (get nat_eq t.entries q) (sole_call p v e f) (h.each q);
        count = count ∙ calls;
        octets = g ∙ ap (λ n. (n - own) + length p.octets) h.octets ∙ ap (λ n. (k.octets - n) + length p.octets) (same_own ∙ mine);
      },
    )

-- ## Growing

size_more : (g : List Pdu) (p : Pdu) → size (g ++ (p ∷ [])) ≡ size g + length p.octets
size_more [] p = omega arith
size_more (q ∷ g) p = let e : size (g ++ (p ∷ [])) ≡ size g + length p.octets = size_more g p in omega (arith, e)

pub grown_now : (t t' t'' : OpenCalls) (k : Kept) (c : ℕ) (p : Pdu) (old empty v : OpenCall) → get nat_eq t.entries c ≡ Some old
    → ((q : ℕ) → get nat_eq t'.entries q ≡ cond (nat_eq c q) (Some empty) (get nat_eq t.entries q))
    → ((q : ℕ) → get nat_eq t''.entries q ≡ cond (nat_eq c q) (Some v) (get nat_eq t'.entries q))
    → index_map_len t'.entries ≡ index_map_len t.entries → index_map_len t''.entries ≡ index_map_len t'.entries
    → v.fragments ≡ old.fragments ++ (p ∷ []) → v.octets ≡ old.octets + length p.octets → t''.octets ≡ t.octets + length p.octets
    → Keeps t k → Grows k c p t''
grown_now t t' t'' k c p old empty v there upd upd' count count' e f g h =
    let w = was_open t k c old there h in
    let long : v.octets ≡ size (w.fragments ++ (p ∷ [])) =
    f ∙ ap (λ (x : OpenCall). x.octets + length p.octets) w.same ∙ sym (size_more w.fragments p) in
    let list : v.fragments ≡ w.fragments ++ (p ∷ []) = e ∙ ap (λ (x : OpenCall). x.fragments ++ (p ∷ [])) w.same in
    record {
      fragments = w.fragments;
      was = w.open_is;
      kept =
          table_put t t'' k c k.calls (k.octets + length p.octets) (Some (w.fragments ++ (p ∷ []))) (Some v)
          (λ q. upd' q ∙ over (nat_eq c q) (Some empty) (Some v) (get nat_eq t.entries q) (get nat_eq t'.entries q) (upd q))
          (ap₂ (λ l n. Some (made_of l n)) list long) (count' ∙ count ∙ h.count) (g ∙ ap (λ n. n + length p.octets) h.octets) h;
    }
