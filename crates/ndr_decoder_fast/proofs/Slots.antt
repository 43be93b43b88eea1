-- Elements that are structs of numbers, as code finds them.
-- `code` is that of a plan, `pc` an address, `fs` are members with their gaps, `ps` the same by their primitives.
use Rattle.std.proofs.Common.{◌≡◌, ℕ, ◌+◌, suc, List, [], ◌∷◌, ◌++◌, length, ap, sym, ◌∙◌, subst, arith}
use Rattle.std.proofs.lemmas.List.{length-map, map-append}
use Rattle.nd_types.specs.declared.types.Primitive.{Primitive}
use Rattle.nd_flat.specs.declared.records.Members.{Members}
use Rattle.nd_flat.specs.Records.{IsMembers, members_of}
use Rattle.nd_flat.proofs.RecordLaws.{front_length}
use Rattle.ndr_code.specs.declared.instr.Instr.{Instr}
use Rattle.ndr_decoder_laws.specs.runs.Records.{Slot, AreSlots, CallsSlot}
use Rattle.ndr_decoder_fast.specs.Elements.{slot_of, slots_of}

-- one member more
slots_more : (code : List Instr) (pc : ℕ) (fs : List Slot) (f : Slot) → AreSlots code pc fs → CallsSlot code (pc + length fs) f → AreSlots code pc (fs ++ f ∷ [])
slots_more code pc [] f h c = let e : pc + 0 ≡ pc = omega arith in (subst (λ k. CallsSlot code k f) e c, tt)
slots_more code pc (g ∷ fs) f h c =
    let e : pc + suc (length fs) ≡ pc + 1 + length fs = omega arith in
    (h.0, slots_more code (pc + 1) fs f h.1 (subst (λ k. CallsSlot code k f) e c))

-- the same by primitives
members_more : (code : List Instr) (pc i : ℕ) (ps qs : List Primitive) (p : Primitive) → length ps ≡ i → qs ≡ ps ++ p ∷ [] → AreSlots code pc (slots_of ps) → CallsSlot code (pc + i) (slot_of p)
    → AreSlots code pc (slots_of qs)
members_more code pc i ps qs p l e h c =
    let at : pc + i ≡ pc + length (slots_of ps) = ap (λ k. pc + k) (sym l ∙ sym (length-map ps slot_of)) in
    subst (AreSlots code pc) (sym (ap slots_of e ∙ map-append slot_of ps (p ∷ []))) (slots_more code pc (slots_of ps) (slot_of p) h (subst (λ k. CallsSlot code k (slot_of p)) at c))

-- the first members, as code finds them
pub record AreFound (code : List Instr) (at i : ℕ) (m : Members) : Type 0 where
  pub whole : IsMembers m
  pub len : m.len ≡ i
  pub slots : AreSlots code at (slots_of (members_of m))

-- how many there are
pub members_count : (m : Members) → IsMembers m → m.len ≡ length (members_of m)
members_count m h = sym (front_length m.len m.prims h)

pub found_none : (code : List Instr) (at : ℕ) (m : Members) → members_of m ≡ [] → IsMembers m → m.len ≡ 0 → AreFound code at 0 m
found_none code at m e h l = record { whole = h; len = l; slots = subst (λ ps. AreSlots code at (slots_of ps)) (sym e) tt }

pub found_more : (code : List Instr) (at i : ℕ) (m n : Members) (p : Primitive) → AreFound code at i m → CallsSlot code (at + i) (slot_of p) → members_of n ≡ members_of m ++ p ∷ []
    → IsMembers n → n.len ≡ m.len + 1 → AreFound code at (i + 1) n
found_more code at i m n p found c e h l = record {
  whole = h;
  len = l ∙ ap (λ k. k + 1) found.len;
  slots = members_more code at i (members_of m) (members_of n) p (sym (members_count m found.whole) ∙ found.len) e found.slots c;
}
