-- What is due to the plain reader: pointers, then roots; and its turns.
use Rattle.std.proofs.Common.{◌≡◌, ℕ, zero, suc, Bool, false, List, [], ◌∷◌, ◌++◌, length, Option, Some, None, refl, ap, sym, ◌∙◌, subst, map}
use Rattle.std.specs.List.{slice_get}
use Rattle.nd_base.specs.declared.octets.Order.{Order}
use Rattle.nd_types.specs.declared.types.TypeDef.{TypeDef}
use Rattle.nd_types.specs.declared.types.TypeDef.TheVariants as def
use Rattle.nd_types.specs.declared.types.Class.TheVariants.{Ref, Unique, Full}
use Rattle.nd_types.specs.Number.{AreOctets}
use Rattle.nd_types.specs.Roots.{Root}
use Rattle.nd_value.specs.Deferral.{Pending, Due, due_root, due_referent, due_roots}
use Rattle.nd_value.specs.Setting.{Setting, root_list}
use Rattle.nd_grammar.specs.LegalSide.{IsLegalSide}
use Rattle.nd_grammar.specs.StreamReader.{Reading, read_root, read_placed, read_first}
use Rattle.nd_grammar.specs.ReaderState.{State}
use Rattle.nd_grammar.proofs.reader.ReaderTurns.{Turn, pending_turn}
use Rattle.nd_grammar.proofs.reader.ReaderRoots.{due_root_turn}
use Rattle.nd_grammar.specs.decoded.Verdict.{is_direct}

same_roots : (i n m : ℕ) → due_roots i n ≡ due_roots i m → n ≡ m
same_roots i zero zero e = refl
same_roots i zero (suc m) e = cc
same_roots i (suc n) zero e = cc
same_roots i (suc n) (suc m) e = let f : due_roots (suc i) n ≡ due_roots (suc i) m = cc in ap suc (same_roots (suc i) n m f)

first_same : (p q : Pending) (xs ys : List Due) → due_referent p ∷ xs ≡ due_referent q ∷ ys → (p ≡ q) × (xs ≡ ys)
first_same p q xs ys e = (cc, cc)

no_pointer : (p : Pending) (xs : List Due) (i n : ℕ) → due_roots i n ≡ due_referent p ∷ xs → ⊥
no_pointer p xs i zero e = cc
no_pointer p xs i (suc n) e = cc

-- what is due says which pointers and how many roots
pub due_same : (ps qs : List Pending) (i n m : ℕ) → map due_referent ps ++ due_roots i n ≡ map due_referent qs ++ due_roots i m → (ps ≡ qs) × (n ≡ m)
due_same [] [] i n m e = (refl, same_roots i n m e)
due_same [] (q ∷ qs) i n m e = absurd (no_pointer q (map due_referent qs ++ due_roots i m) i n e)
due_same (p ∷ ps) [] i n m e = absurd (no_pointer p (map due_referent ps ++ due_roots i n) i m (sym e))
due_same (p ∷ ps) (q ∷ qs) i n m e =
    let (h, t) = first_same p q (map due_referent ps ++ due_roots i n) (map due_referent qs ++ due_roots i m) e in
    let (a, b) = due_same ps qs i n m t in
    (ap (λ u. u ∷ ps) h ∙ ap (λ u. q ∷ u) a, b)

module _ (w : Setting) (side : IsLegalSide w) (order : Order) where
  -- the reader's state over some octets is that over the same octets
  abbrev pub StateOver : List ℕ → Reading → List Pending → ℕ → Type 0
  StateOver octets s ps n = (all : AreOctets octets) → (taken : List Pending) × State w side order octets all s taken ps n

  pub same_octets : (xs ys : List ℕ) → xs ≡ ys → (s : Reading) (ps : List Pending) (n : ℕ) → StateOver xs s ps n → StateOver ys s ps n
  same_octets xs ys e s ps n f = subst (λ u. StateOver u s ps n) e f

  -- a turn leaves what its state says is due
  pub after_turn : (octets : List ℕ) (all : AreOctets octets) (due : List Due) (s s' : Reading) (ps ps' : List Pending) (n n' : ℕ)
      → Turn w side order octets all due s ps n s' → s'.due ≡ map due_referent ps' ++ due_roots (length s'.roots) n'
      → (taken : List Pending) × State w side order octets all s' taken ps' n'
  after_turn octets all due s s' ps ps' n n' t e =
      let (a, b) = due_same t.ps' ps' (length s'.roots) t.n' n' (sym t.due_is ∙ e) in
      (t.taken', subst (λ u. State w side order octets all s' t.taken' ps' u) b (subst (λ u. State w side order octets all s' t.taken' u t.n') a t.state))

  -- a root that is no reference pointer is read in its place
  pub in_its_place : (octets : List ℕ) (d : Option TypeDef) (b : Bool) → is_direct d ≡ false → (i t : ℕ) (due : List Due) (s : Reading)
      → read_root w order octets d b i t due s ≡ read_placed w order octets i t due s
  in_its_place octets (Some (def.Pointer Ref to)) b e i t due s = cc
  in_its_place octets (Some (def.Pointer Unique to)) b e i t due s = refl
  in_its_place octets (Some (def.Pointer Full to)) b e i t due s = refl
  in_its_place octets (Some (def.Prim p)) b e i t due s = refl
  in_its_place octets (Some (def.Enum values)) b e i t due s = refl
  in_its_place octets (Some (def.Struct members)) b e i t due s = refl
  in_its_place octets (Some (def.Array elem bound varying)) b e i t due s = refl
  in_its_place octets (Some (def.Text elem bound)) b e i t due s = refl
  in_its_place octets (Some (def.Union tag enc arms default)) b e i t due s = refl
  in_its_place octets (Some def.Context) b e i t due s = refl
  in_its_place octets (Some (def.Pipe elem)) b e i t due s = refl
  in_its_place octets None b e i t due s = refl

  -- the state after a root
  pub root_state : (octets : List ℕ) (all : AreOctets octets) (s s' : Reading) (n : ℕ) (ps' : List Pending) → StateOver octets s [] (suc n)
      → (r : Root) → slice_get (root_list w) (length s.roots) ≡ Some r
      → read_first w order octets (due_root (length s.roots)) (due_roots (suc (length s.roots)) n) s ≡ s' → s'.due ≡ map due_referent ps' ++ due_roots (length s'.roots) n
      → (taken : List Pending) × State w side order octets all s' taken ps' n
  root_state octets all s s' n ps' f r there e d =
      let (taken, st) = f all in
      let due : List Due = due_roots (suc (length s.roots)) n in
      let t : Turn w side order octets all (due_root (length s.roots) ∷ due) s [] (suc n) s' =
      subst (Turn w side order octets all (due_root (length s.roots) ∷ due) s [] (suc n)) e (due_root_turn w side order octets all s taken [] n st r there due refl) in
      after_turn octets all (due_root (length s.roots) ∷ due) s s' [] ps' (suc n) n t d

  -- the state after a pending referent
  pub pending_state : (octets : List ℕ) (all : AreOctets octets) (s s' : Reading) (p : Pending) (ps ps' : List Pending) (n : ℕ) → StateOver octets s (p ∷ ps) n
      → read_first w order octets (due_referent p) (map due_referent ps ++ due_roots (length s.roots) n) s ≡ s' → s'.due ≡ map due_referent ps' ++ due_roots (length s'.roots) n
      → (taken : List Pending) × State w side order octets all s' taken ps' n
  pending_state octets all s s' p ps ps' n f e d =
      let (taken, st) = f all in
      let due : List Due = map due_referent ps ++ due_roots (length s.roots) n in
      let t : Turn w side order octets all (due_referent p ∷ due) s (p ∷ ps) n s' =
      subst (Turn w side order octets all (due_referent p ∷ due) s (p ∷ ps) n) e (pending_turn w side order octets all s taken p ps n st due refl p.cell refl) in
      after_turn octets all (due_referent p ∷ due) s s' (p ∷ ps) ps' n n t d
