-- What a side keeps is within the limits.
use Rattle.std.proofs.Common.{◌≡◌, ℕ, ◌+◌, ◌-◌, ◌≤◌, ◌<◌, Bool, true, false, ◌&&◌, leb, List, [], ◌∷◌, length, Some, None, refl, arith, slice_index}
use Rattle.std.proofs.lemmas.Bool.Decides.{nat_tests}
use Rattle.rpc_stream.specs.declared.call.Peer.{Peer}
use Rattle.rpc_stream.specs.declared.call.Pdu.{Pdu}
use Rattle.rpc_stream.specs.declared.call.Part.{Part}
use Rattle.rpc_stream.specs.declared.call.Part.TheVariants.{Sole, Opening, Middle, Closing, Stopping}
use Rattle.rpc_stream.specs.Calls.{Open, id_of, part_of, in_calls}
use Rattle.rpc_side.specs.declared.report.Limits.{Limits}
use Rattle.rpc_side.specs.Kept.{Kept, size, without, fits, begin_by, begin_call, grow_by, step_by, step_if, step, kept_after, IsWithin}

pub le_of : (a b : ℕ) → leb a b ≡ true → a ≤ b
le_of a b h = grind (arith, nat_tests)

lt_of : (a b : ℕ) → leb a b ≡ false → b < a
lt_of a b h = grind (arith, nat_tests)

first_true : (x y : Bool) → (x && y) ≡ true → x ≡ true
first_true true y h = refl
first_true false y h = cc

gone : (limits : Limits) (c : ℕ) (g : List Pdu) (k : Kept) → IsWithin limits k → IsWithin limits (without c g k)
gone limits c g k w =
    let a : k.calls ≤ limits.calls = w.calls in
    let b : k.octets ≤ limits.octets = w.octets in
    record { calls = omega (arith, a); octets = omega (arith, b) }

room : (most all count : ℕ) → all ≤ most → leb count (most - all) ≡ true → all + count ≤ most
room most all count a h = let e : count ≤ most - all = le_of count (most - all) h in omega (arith, a, e)

fitting : (limits : Limits) (g : List Pdu) (p : Pdu) (k : Kept) → IsWithin limits k → fits limits g p k ≡ true → k.octets + length p.octets ≤ limits.octets
fitting limits g p k w h =
    room limits.octets k.octets (length p.octets) w.octets
    (first_true (leb (length p.octets) (limits.octets - k.octets)) (leb (length p.octets) (limits.octets - size g)) h)

beginning : (limits : Limits) (c : ℕ) (p : Pdu) (k : Kept) (many : Bool) (fit : Bool) → leb limits.calls k.calls ≡ many → fits limits [] p k ≡ fit
    → IsWithin limits k → IsWithin limits (begin_by many fit c p k).kept
beginning limits c p k true fit e f w = w
beginning limits c p k false false e f w = w
beginning limits c p k false true e f w =
    let fewer : k.calls < limits.calls = lt_of limits.calls k.calls e in
    record { calls = omega (arith, fewer); octets = fitting limits [] p k w f }

begins : (limits : Limits) (c : ℕ) (p : Pdu) (k : Kept) → IsWithin limits k → IsWithin limits (begin_call limits c p k).kept
begins limits c p k w = beginning limits c p k (leb limits.calls k.calls) (fits limits [] p k) refl refl w

growing : (limits : Limits) (c : ℕ) (g : List Pdu) (p : Pdu) (k : Kept) (fit : Bool) → fits limits g p k ≡ fit → IsWithin limits k
    → IsWithin limits (grow_by fit c g p k).kept
growing limits c g p k true e w = record { calls = w.calls; octets = fitting limits g p k w e }
growing limits c g p k false e w = gone limits c g k w

stepping : (limits : Limits) (c : ℕ) (o : Open) (part : Part) (p : Pdu) (k : Kept) → IsWithin limits k → IsWithin limits (step_by limits c o part p k).kept
stepping limits c None Sole p k w = w
stepping limits c None Opening p k w = begins limits c p k w
stepping limits c None Middle p k w = w
stepping limits c None Closing p k w = w
stepping limits c None Stopping p k w = w
stepping limits c (Some g) Sole p k w = gone limits c g k w
stepping limits c (Some g) Opening p k w = begins limits c p (without c g k) (gone limits c g k w)
stepping limits c (Some g) Middle p k w = growing limits c g p k (fits limits g p k) refl w
stepping limits c (Some g) Closing p k w = gone limits c g k w
stepping limits c (Some g) Stopping p k w = gone limits c g k w

one_step : (b : Bool) (limits : Limits) (p : Pdu) (k : Kept) → IsWithin limits k → IsWithin limits (step_if b limits p k).kept
one_step true limits p k w = stepping limits (id_of p) (k.by_id (id_of p)) (part_of p) p k w
one_step false limits p k w = w

pub bounds : (peer : Peer) (limits : Limits) (ps : List Pdu) (k : Kept) → IsWithin limits k → IsWithin limits (kept_after peer limits k ps)
bounds peer limits [] k w = w
bounds peer limits (p ∷ ps) k w =
    bounds peer limits ps (step peer limits p k).kept (one_step (in_calls peer (slice_index p.octets 2)) limits p k w)
