-- Octets that come in pieces: what is read of an entry is settled by the octets that were fetched, whatever follows them. One law for each outcome of
-- an entry at the place where the octets fetched before it end, for every kind of entry.
-- `fetched` are the octets before the entry, `os` its own, `more` any octets after it, `m` the entry.
use Rattle.std.proofs.Common.{◌≡◌, ◌≤◌, ◌<◌, ℕ, ◌+◌, true, false, ◌&&◌, List, [], ◌∷◌, ◌++◌, length, take, drop, Some, None, refl, ap, ap₂, ◌∙◌, arith, append_assoc, length-append}
use Rattle.std.specs.Prelude.{ltb, eqb, ◌||◌}
use Rattle.std.specs.List.{AllByRecursion}
use Rattle.std.proofs.Math.Seq.{drop-append-add}
use Rattle.std.proofs.lemmas.List.{take-append-le, take_all}
use Rattle.std.proofs.lemmas.Bool.{le-ltb, lt-ltb as is_less}
use Rattle.nd_base.specs.declared.octets.Order.{Order}
use Rattle.nd_base.specs.declared.TheConstants.{STREAM_LIMIT}
use Rattle.nd_types.specs.Number.{unsigned}
use Rattle.nd_grammar.specs.declared.reason.Reason.TheVariants.{Truncated, TooLong}
use Rattle.nd_grammar.specs.Entry.{Entry, EntryAt, size_at}
use Rattle.nd_grammar.specs.Stream.{piece}
use Rattle.nd_grammar.specs.Refusal.{refusal, kind_refusal, refused_if, is_long, is_other, other_pointee}
use Rattle.nd_grammar.specs.Reader.{taken, taken_by}
use Rattle.nd_grammar.proofs.next.Spelt.{piece_left}
use Rattle.ndr_decoder_laws.specs.reader.Around.{going}

-- the octets that were fetched last are those at the place where the others end
pub cut_fetched : (fetched os more : List ℕ) → take (length os) (drop (length fetched) ((fetched ++ os) ++ more)) ≡ os
cut_fetched fetched os more =
    ap (λ xs. take (length os) (drop (length fetched) xs)) (append_assoc fetched os more)
    ∙ ap (λ n. take (length os) (drop n (fetched ++ (os ++ more)))) (omega arith)
    ∙ ap (take (length os)) (drop-append-add fetched (os ++ more) 0)
    ∙ take-append-le (length os) os more (omega arith)
    ∙ take_all (length os) os (omega arith)

module _ (order : Order) (fetched os more : List ℕ) where
  abbrev all : List ℕ
  all = (fetched ++ os) ++ more

  abbrev at_end : Entry → EntryAt
  at_end m = record { at = length fetched; entry = m }

  all_long : length all ≡ length fetched + length os + length more
  all_long = length-append (fetched ++ os) more ∙ ap (λ k. k + length more) (length-append fetched os)

  -- an entry's own octets are those that were fetched for it
  pub piece_fetched : (m : Entry) → size_at (length fetched) m.kind ≡ length os → piece all (length fetched) m.kind ≡ os
  piece_fetched m e = ap (λ n. take n (drop (length fetched) all)) e ∙ cut_fetched fetched os more

  -- an entry that was fetched whole is judged by its kind and its own octets alone
  pub judged_fetched : (m : Entry) (seen : List EntryAt) → size_at (length fetched) m.kind ≡ length os → is_long (length fetched) m.kind ≡ false
      → refusal order all seen (at_end m) ≡ kind_refusal order all seen (length fetched) m m.kind os
  judged_fetched m seen e short =
      let le : length fetched + size_at (length fetched) m.kind ≤ length all = omega (arith, e, all_long) in
      ap (λ b. refused_if b (STREAM_LIMIT, TooLong)
      (refused_if (ltb (length all) (length fetched + size_at (length fetched) m.kind)) (length all, Truncated)
      (kind_refusal order all seen (length fetched) m m.kind (piece all (length fetched) m.kind)))) short
      ∙ ap (λ b. refused_if b (length all, Truncated) (kind_refusal order all seen (length fetched) m m.kind (piece all (length fetched) m.kind)))
      (le-ltb (length all) (length fetched + size_at (length fetched) m.kind) le)
      ∙ ap (kind_refusal order all seen (length fetched) m m.kind) (piece_fetched m e)

  -- where it is not refused the reader takes these octets
  pub taken_fetched : (m : Entry) (seen : List EntryAt) → size_at (length fetched) m.kind ≡ length os → refusal order all seen (at_end m) ≡ None
      → taken order all m (going (length fetched) seen) ≡ Some os
  taken_fetched m seen e n =
      ap (λ o. taken_by None o (piece all (length fetched) m.kind)) n ∙ ap Some (piece_fetched m e)

  -- an entry that would end past the limit is refused before anything of it was fetched
  pub long_refused : (m : Entry) (seen : List EntryAt) → is_long (length fetched) m.kind ≡ true → refusal order all seen (at_end m) ≡ Some (STREAM_LIMIT, TooLong)
  long_refused m seen long =
      ap (λ b. refused_if b (STREAM_LIMIT, TooLong)
      (refused_if (ltb (length all) (length fetched + size_at (length fetched) m.kind)) (length all, Truncated)
      (kind_refusal order all seen (length fetched) m m.kind (piece all (length fetched) m.kind)))) long

-- an entry of which fewer octets came before the end of the source is Truncated at that end
pub cut_refused : (order : Order) (fetched os : List ℕ) (m : Entry) (seen : List EntryAt) → length os < size_at (length fetched) m.kind
    → is_long (length fetched) m.kind ≡ false
    → refusal order (fetched ++ os) seen (record { at = length fetched; entry = m }) ≡ Some (length (fetched ++ os), Truncated)
cut_refused order fetched os m seen less short =
    let octets : List ℕ = fetched ++ os in
    let lt : length octets < length fetched + size_at (length fetched) m.kind = omega (arith, less, length-append fetched os) in
    ap (λ b. refused_if b (STREAM_LIMIT, TooLong)
    (refused_if (ltb (length octets) (length fetched + size_at (length fetched) m.kind)) (length octets, Truncated)
    (kind_refusal order octets seen (length fetched) m m.kind (piece octets (length fetched) m.kind)))) short
    ∙ ap (λ b. refused_if b (length octets, Truncated) (kind_refusal order octets seen (length fetched) m m.kind (piece octets (length fetched) m.kind)))
    (is_less (length octets) (length fetched + size_at (length fetched) m.kind) lt)

-- whether a full pointer's number is that of another type is settled by the entries before it, which lie within what was fetched
module _ (order : Order) (octets more : List ℕ) where
  abbrev pub Within : EntryAt → Type 0
  Within x = x.at + size_at x.at x.entry.kind ≤ length octets

  pub others_stay : (seen : List EntryAt) → AllByRecursion Within seen → (v to : ℕ) → is_other order (octets ++ more) seen v to ≡ is_other order octets seen v to
  others_stay [] a v to = refl
  others_stay (x ∷ xs) a v to =
      ap₂ (λ os b. other_pointee x.entry.kind to && eqb (unsigned order os) v || b) (piece_left x.at (size_at x.at x.entry.kind) octets more a.0)
      (others_stay xs a.1 v to)
