-- What a decoder keeps of the cells that have been named, after one entry more and after the referent of one root more.
-- `n` is how many cells there are, `d` how many of them are referents of roots that are reference pointers, `c` is a cell, `x` an entry at its place.
use Rattle.std.proofs.Common.{◌≡◌, ℕ, ◌+◌, ◌<◌, ◌≤◌, Bool, true, false, List, [], ◌∷◌, ◌++◌, length, Some, None, refl, ap, sym, ◌∙◌, subst, arith}
use Rattle.std.specs.Prelude.{cond, eqb}
use Rattle.std.specs.List.{AllByRecursion}
use Rattle.std.proofs.lemmas.Bool.{eqb-true}
use Rattle.std.proofs.lemmas.Grind.{flat_map-append}
use Rattle.std.proofs.lemmas.List.{append-nil}
use Rattle.nd_value.specs.Canon.{target, has}
use Rattle.nd_value.proofs.Apart.{all_append, all_weaker}
use Rattle.nd_grammar.specs.Entry.{EntryAt}
use Rattle.nd_grammar.specs.NextMark.{named_cell}
use Rattle.nd_grammar.specs.decoded.Verdict.{once}
use Rattle.ndr_decoder_laws.specs.verdict.CellsSeen.{CellsSeen, cells_in}

pub none_seen : CellsSeen [] 0 0
none_seen = record { each = tt; many = omega arith }

cells_more : (seen : List EntryAt) (x : EntryAt) → cells_in (seen ++ x ∷ []) ≡ cells_in seen ++ target (named_cell x.entry.kind)
cells_more seen x = flat_map-append (λ y. target (named_cell y.entry.kind)) seen (x ∷ []) ∙ ap (λ u. cells_in seen ++ u) (append-nil (target (named_cell x.entry.kind)))

pub once_longer : (others cs ds : List ℕ) → length (once others cs) ≤ length (once others (cs ++ ds))
once_longer others [] ds = omega arith
once_longer others (c ∷ cs) ds = go (has others c) (once_longer others cs ds) (once_longer (c ∷ others) cs ds)
  where
    go : (b : Bool) → length (once others cs) ≤ length (once others (cs ++ ds)) → length (once (c ∷ others) cs) ≤ length (once (c ∷ others) (cs ++ ds))
        → length (cond b (once others cs) (c ∷ once (c ∷ others) cs)) ≤ length (cond b (once others (cs ++ ds)) (c ∷ once (c ∷ others) (cs ++ ds)))
    go true h k = h
    go false h k = omega arith

not_among : (others : List ℕ) (n d : ℕ) → AllByRecursion (λ c. c ≤ n) others → n < d → has others d ≡ false
not_among [] n d a h = refl
not_among (c ∷ cs) n d a h = go (eqb d c) refl (not_among cs n d a.1 h)
  where
    go : (b : Bool) → eqb d c ≡ b → has cs d ≡ false → cond b true (has cs d) ≡ false
    go true e k = let f = eqb-true d c e in absurd (omega (arith, f, a.0))
    go false e k = k

-- a cell that is named for the first time
one_longer : (others cs : List ℕ) (n d : ℕ) → AllByRecursion (λ c. c ≤ n) others → AllByRecursion (λ c. c ≤ n) cs → n < d
    → length (once others (cs ++ d ∷ [])) ≡ length (once others cs) + 1
one_longer others [] n d a b h = ap (λ t. length (cond t [] (d ∷ []))) (not_among others n d a h)
one_longer others (c ∷ cs) n d a b h = go (has others c) (one_longer others cs n d a b.1 h) (one_longer (c ∷ others) cs n d (b.0, a) b.1 h)
  where
    go : (t : Bool) → length (once others (cs ++ d ∷ [])) ≡ length (once others cs) + 1 → length (once (c ∷ others) (cs ++ d ∷ [])) ≡ length (once (c ∷ others) cs) + 1
        → length (cond t (once others (cs ++ d ∷ [])) (c ∷ once (c ∷ others) (cs ++ d ∷ []))) ≡ length (cond t (once others cs) (c ∷ once (c ∷ others) cs)) + 1
    go true p q = p
    go false p q = omega (arith, q)

module _ (seen : List EntryAt) (n d : ℕ) (k : CellsSeen seen n d) (x : EntryAt) where
  -- an entry that names no cell
  pub entry_seen : named_cell x.entry.kind ≡ None → CellsSeen (seen ++ x ∷ []) n d
  entry_seen e =
      let f : cells_in (seen ++ x ∷ []) ≡ cells_in seen = cells_more seen x ∙ ap (λ o. cells_in seen ++ target o) e ∙ append-nil (cells_in seen) in
      record { each = subst (AllByRecursion (λ c. c ≤ n)) (sym f) k.each; many = subst (λ u. n ≤ length (once [] u) + d) (sym f) k.many }

  -- a number that names a cell that is there
  pub known_seen : (c : ℕ) → named_cell x.entry.kind ≡ Some c → c ≤ n → CellsSeen (seen ++ x ∷ []) n d
  known_seen c e h =
      let f : cells_in (seen ++ x ∷ []) ≡ cells_in seen ++ c ∷ [] = cells_more seen x ∙ ap (λ o. cells_in seen ++ target o) e in
      let l = once_longer [] (cells_in seen) (c ∷ []) in
      let m = k.many in
      record {
        each = subst (AllByRecursion (λ c. c ≤ n)) (sym f) (all_append (λ c. c ≤ n) (cells_in seen) (c ∷ []) k.each (h, tt));
        many = subst (λ u. n ≤ length (once [] u) + d) (sym f) (omega (arith, l, m));
      }

  -- a number that names the next cell
  pub fresh_seen : named_cell x.entry.kind ≡ Some (n + 1) → CellsSeen (seen ++ x ∷ []) (n + 1) d
  fresh_seen e =
      let f : cells_in (seen ++ x ∷ []) ≡ cells_in seen ++ (n + 1) ∷ [] = cells_more seen x ∙ ap (λ o. cells_in seen ++ target o) e in
      let l : length (once [] (cells_in seen ++ (n + 1) ∷ [])) ≡ length (once [] (cells_in seen)) + 1 = one_longer [] (cells_in seen) n (n + 1) tt k.each (omega arith) in
      let m = k.many in
      record {
        each = subst (AllByRecursion (λ c. c ≤ n + 1)) (sym f)
            (all_append (λ c. c ≤ n + 1) (cells_in seen) ((n + 1) ∷ []) (all_weaker (λ c. c ≤ n) (λ c. c ≤ n + 1) (λ c h. omega arith) (cells_in seen) k.each) (omega arith, tt));
        many = subst (λ u. n + 1 ≤ length (once [] u) + d) (sym f) (omega (arith, l, m));
      }

-- the referent of a root that is a reference pointer
pub direct_seen : (seen : List EntryAt) (n d : ℕ) → CellsSeen seen n d → CellsSeen seen (n + 1) (d + 1)
direct_seen seen n d k =
    let m = k.many in
    record { each = all_weaker (λ c. c ≤ n) (λ c. c ≤ n + 1) (λ c h. omega arith) (cells_in seen) k.each; many = omega (arith, m) }
