-- The names that a walk through the files asks for, each when it is due.
use Rattle.std.proofs.Common.{◌≡◌, ◌∙◌, ℕ, zero, suc, ◌+◌, ◌≤◌, ◌<◌, arith, Bool, true, false, List, [], ◌∷◌, ◌++◌, length, take, drop, Option, Some, None, refl, sym, ap, subst, inl, inr}
use Rattle.std.proofs.Common.{append_assoc, append-nil, length-append}
use Rattle.std.specs.Prelude.{option_to_list, leb}
use Rattle.std.specs.List.{slice_get}
use Rattle.std.proofs.lemmas.Bool.{leb-true, leb-false}
use Rattle.std.proofs.lemmas.Option.{same_Some}
use Rattle.idl_grammar.specs.Files.{Idl}
use Rattle.nd_base.specs.declared.octets.Place.{Place}
use Rattle.nd_base.specs.Over.{IsContent}
use Rattle.idl_grammar.specs.Tree.{Tree}
use Rattle.idl_scope.specs.declared.name_fault.NameFault.TheVariants as names
use Rattle.idl_names.specs.Walk.{IsFile, Source, and_source, source, State, Due, Load, IsDue, Done, Stopped, Walk, names_of, start, all_of, with_source, all_done, goes_on, faults, ends, again, failed}
use Rattle.idl_names.specs.Walk.{enters, short, short_in_load, short_after_load}
use Rattle.command_compile.specs.Compiled.{IsNext, AreAsked, all_due}
use Rattle.command_compile.specs.Idl.{main_file, AreResolved}
use Rattle.command_compile.proofs.Walks.{passed_fault, at_load}
use Rattle.nd_lemmas.proofs.Lists.{get_in_front as get_front}

-- ## Lists

past : {X : Type 0} (xs : List X) (n : ℕ) (x : X) → length xs ≤ n → slice_get xs n ≡ Some x → ⊥
past [] n x h e = cc
past (y ∷ xs) zero x h e = omega (arith, h)
past (y ∷ xs) (suc n) x h e = past xs n x (omega (arith, h)) e

-- what is got at the end of a front is the first of what follows
at_seam : {X : Type 0} (xs : List X) (y : X) (ys : List X) → slice_get (xs ++ y ∷ ys) (length xs) ≡ Some y
at_seam [] y ys = refl
at_seam (x ∷ xs) y ys = at_seam xs y ys

take_seam : {X : Type 0} (xs ys : List X) → take (length xs) (xs ++ ys) ≡ xs
take_seam [] ys = refl
take_seam (x ∷ xs) ys = ap (λ l. x ∷ l) (take_seam xs ys)

take_front : {X : Type 0} (xs ys : List X) (n : ℕ) → n ≤ length xs → take n (xs ++ ys) ≡ take n xs
take_front [] ys zero h = refl
take_front [] ys (suc n) h = absurd (omega (arith, h))
take_front (x ∷ xs) ys zero h = refl
take_front (x ∷ xs) ys (suc n) h = ap (λ l. x ∷ l) (take_front xs ys n (omega (arith, h)))

names_append : (xs ys : List Source) → names_of (xs ++ ys) ≡ names_of xs ++ names_of ys
names_append [] ys = refl
names_append (x ∷ xs) ys = ap (λ l. x.name ∷ l) (names_append xs ys)

names_length : (xs : List Source) → length (names_of xs) ≡ length xs
names_length [] = refl
names_length (x ∷ xs) = ap suc (names_length xs)

-- a name in a list is that of a file
named_at : (xs : List Source) (n : ℕ) (name : List ℕ) → slice_get (names_of xs) n ≡ Some name → (x : Source) × (slice_get xs n ≡ Some x) × (x.name ≡ name)
named_at [] n name e = cc
named_at (x ∷ xs) zero name e = (x, refl, same_Some _ _ e)
named_at (x ∷ xs) (suc n) name e = named_at xs n name e

-- what is got past a front of a list with one more is that one
only : {X : Type 0} (xs : List X) (x : X) (n : ℕ) (y : X) → length xs ≤ n → slice_get (xs ++ x ∷ []) n ≡ Some y → (n ≡ length xs) × (x ≡ y)
only [] x zero y h e = (refl, same_Some _ _ e)
only [] x (suc n) y h e = cc
only (z ∷ xs) x zero y h e = absurd (omega (arith, h))
only (z ∷ xs) x (suc n) y h e = let r = only xs x n y (omega (arith, h)) e in (ap suc r.0, r.1)

-- ## Walks

module _ (held : Option (List ℕ → Option (List ℕ))) where
  -- a walk that is done may run out of memory at its end
  pub done_stops : (s : State) (due : List Due) (t : State) → Walk held s due (Done t) → Walk held s due (Stopped t.sources names.Memory)
  done_stops st ds t (all_done s) = short s []
  done_stops st ds t (goes_on s file step k rest e a d) = goes_on s file step k rest _ a (done_stops _ rest t d)
  done_stops st ds t (ends s file tree rest e d) = ends s file tree rest _ (done_stops _ rest t d)
  done_stops st ds t (again s place name rest e m a b d) = again s place name rest _ m a b (done_stops s rest t d)
  done_stops st ds t (enters s place name rest e text tree is_due c v d) = enters s place name rest _ text tree is_due c v (done_stops _ _ t d)

  -- the files whose load was begun come after those that were there
  keeps : (s : State) (due : List Due) (reached : List Source) → Walk held s due (Stopped reached names.Memory) → (more : List Source) × (reached ≡ s.sources ++ more)
  keeps st ds reached (goes_on s file step k rest e a d) = keeps _ rest reached d
  keeps st ds reached (faults s file step f rest a) = absurd (passed_fault file s.known step names.Memory a)
  keeps st ds reached (ends s file tree rest e d) = keeps _ rest reached d
  keeps st ds reached (again s place name rest e m a b d) = keeps s rest reached d
  keeps st ds reached (enters s place name rest e text tree is_due c v d) =
      let (more, is) = keeps _ _ reached d in
      (source name text ∷ more, is ∙ append_assoc s.sources (source name text ∷ []) more)
  keeps st ds reached (short s rest) = ([], sym (append-nil s.sources))
  keeps st ds reached (short_in_load s place name rest is_due) = (source name [] ∷ [], refl)
  keeps st ds reached (short_after_load s place name rest text is_due c) = (source name text ∷ [], refl)

  -- a file whose load a walk begins: it is due after the files before it
  record IsBegun (s : State) (due : List Due) (reached : List Source) (n : ℕ) (name : List ℕ) : Type 0 where
    before : List Source
    before_are : take n (names_of reached) ≡ names_of before
    comes : Walk held s due (at_load held before name)

  -- the first that is begun
  first_begun : (s : State) (due : List Due) (x : Source) (more : List Source) (n : ℕ) (y : Source) → slice_get (s.sources ++ x ∷ more) n ≡ Some y → n ≡ length s.sources
      → Walk held s due (at_load held s.sources x.name) → IsBegun s due (s.sources ++ x ∷ more) n y.name
  first_begun s due x more n y e is w =
      let same : x ≡ y = same_Some _ _ (sym (at_seam s.sources x more) ∙ ap (slice_get (s.sources ++ x ∷ more)) (sym is) ∙ e) in
      record {
        before = s.sources;
        before_are = ap (λ k. take k (names_of (s.sources ++ x ∷ more))) (is ∙ sym (names_length s.sources)) ∙ ap (take (length (names_of s.sources))) (names_append s.sources (x ∷ more))
            ∙ take_seam (names_of s.sources) (names_of (x ∷ more));
        comes = subst (λ (z : Source). Walk held s due (at_load held s.sources z.name)) same w;
      }

  -- a file that is entered is the next, or one after it
  entered : (s : State) (place : Place) (name : List ℕ) (rest : List Due) (text : List ℕ) (tree : Tree) → IsDue s.sources name → IsContent held name text → IsFile s.language text tree
      → (reached : List Source) → Walk held (with_source s name text) (all_of (length s.sources) tree ++ rest) (Stopped reached names.Memory) → (n : ℕ) (y : Source)
      → length s.sources ≤ n → slice_get reached n ≡ Some y
      → (length (and_source s.sources name text) ≤ n → IsBegun (with_source s name text) (all_of (length s.sources) tree ++ rest) reached n y.name)
      → IsBegun s (Load place name ∷ rest) reached n y.name
  entered s place name rest text tree is_due c v reached d n y h g later = by (leb (length s.sources + 1) n) refl
    where
      by : (b : Bool) → leb (length s.sources + 1) n ≡ b → IsBegun s (Load place name ∷ rest) reached n y.name
      by true is =
          let more : length s.sources + 1 ≤ n = leb-true (length s.sources + 1) n is in
          let r = later (subst (λ k. k ≤ n) (sym (length-append s.sources (source name text ∷ []))) more) in
          record { before = r.before; before_are = r.before_are; comes = enters s place name rest _ text tree is_due c v r.comes }
      by false is =
          let below = leb-false (length s.sources + 1) n is in
          let same : n ≡ length s.sources = omega (arith, below, h) in
          let (more, all) = keeps _ _ reached d in
          let whole : reached ≡ s.sources ++ source name text ∷ more = all ∙ append_assoc s.sources (source name text ∷ []) more in
          subst (λ r. IsBegun s (Load place name ∷ rest) r n y.name) (sym whole)
          (first_begun s (Load place name ∷ rest) (source name text) more n y (subst (λ r. slice_get r n ≡ Some y) whole g) same (failed s place name rest is_due))

  begun : (s : State) (due : List Due) (reached : List Source) → Walk held s due (Stopped reached names.Memory) → (n : ℕ) (y : Source) → length s.sources ≤ n
      → slice_get reached n ≡ Some y → IsBegun s due reached n y.name
  begun st ds reached (goes_on s file step k rest e a d) n y h g =
      let r = begun _ rest reached d n y h g in record { before = r.before; before_are = r.before_are; comes = goes_on s file step k rest _ a r.comes }
  begun st ds reached (faults s file step f rest a) n y h g = absurd (passed_fault file s.known step names.Memory a)
  begun st ds reached (ends s file tree rest e d) n y h g =
      let r = begun _ rest reached d n y h g in record { before = r.before; before_are = r.before_are; comes = ends s file tree rest _ r.comes }
  begun st ds reached (again s place name rest e m a b d) n y h g =
      let r = begun s rest reached d n y h g in record { before = r.before; before_are = r.before_are; comes = again s place name rest _ m a b r.comes }
  begun st ds reached (short s rest) n y h g = absurd (past s.sources n y h g)
  begun st ds reached (short_in_load s place name rest is_due) n y h g =
      first_begun s _ (source name []) [] n y g (only s.sources (source name []) n y h g).0 (failed s place name rest is_due)
  begun st ds reached (short_after_load s place name rest text is_due c) n y h g =
      first_begun s _ (source name text) [] n y g (only s.sources (source name text) n y h g).0 (failed s place name rest is_due)
  begun st ds reached (enters s place name rest e text tree is_due c v d) n y h g =
      entered s place name rest text tree is_due c v reached d n y h g (λ longer. begun _ _ reached d n y longer g)

-- ## The names asked for

-- the main file alone
pub main_asked : (held : Option (List ℕ → Option (List ℕ))) (idl : Idl) (acf : Option (List ℕ)) → AreAsked held idl acf (idl.name ∷ [])
main_asked held idl acf = record { main = refl; due = due }
  where
    due : (n : ℕ) (name : List ℕ) → slice_get (idl.name ∷ []) n ≡ Some name → IsNext held idl acf (take n (idl.name ∷ [])) name
    due zero name e = inl (refl, sym (same_Some _ _ e))
    due (suc n) name e = cc

module _ (held : Option (List ℕ → Option (List ℕ))) (idl : Idl) (text : List ℕ) (content : IsContent held idl.name text) where
  -- the imports to which a walk comes, after the main file
  module _ (tree : Tree) (parsed : IsFile idl.language text tree) (reached : List Source)
      (walk : Walk held (start idl.language (main_file idl text)) (all_of 0 tree) (Stopped reached names.Memory)) where
    pub reached_names : names_of reached ≡ idl.name ∷ names_of (drop 1 reached)
    reached_names = let (more, is) = keeps held _ _ reached walk in ap names_of is ∙ ap (λ (l : List Source). idl.name ∷ names_of l) (ap (drop 1) (sym is))

    due_along : (acf : Option (List ℕ)) (n : ℕ) (name : List ℕ) → slice_get (names_of reached) n ≡ Some name → IsNext held idl acf (take n (names_of reached)) name
    due_along acf zero name e = inl (refl, sym (same_Some _ _ (sym (ap (λ l. slice_get l 0) reached_names) ∙ e)))
    due_along acf (suc n) name e =
        let (x, there, is) = named_at reached (suc n) name e in
        let r = begun held (start idl.language (main_file idl text)) (all_of 0 tree) reached walk (suc n) x (omega arith) there in
        subst (IsNext held idl acf (take (suc n) (names_of reached))) is
        (inr (text, content, inl (record { due = record { tree = tree; parsed = parsed; sources = r.before; comes = r.comes }; earlier_are = r.before_are })))

    pub along : (acf : Option (List ℕ)) → AreAsked held idl acf (names_of reached)
    along acf = record { main = ap (λ l. slice_get l 0) reached_names; due = due_along acf }

  -- all names are resolved, and the attribute configuration file is asked for if one is named
  module _ (state : State) (resolved : AreResolved held idl text state) where
    walk_to : Walk held (start idl.language (main_file idl text)) (all_of 0 resolved.tree) (Stopped state.sources names.Memory)
    walk_to = done_stops held _ _ state resolved.names.walk

    pub all_names : (acf : Option (List ℕ)) → idl.name ∷ (names_of (drop 1 state.sources) ++ option_to_list acf) ≡ all_due state.sources acf
    all_names acf = ap (λ l. l ++ option_to_list acf) (sym (reached_names resolved.tree resolved.parsed state.sources walk_to))

    pub all_asked : (acf : Option (List ℕ)) → AreAsked held idl acf (all_due state.sources acf)
    all_asked None = subst (AreAsked held idl None) (sym (append-nil (names_of state.sources))) (along resolved.tree resolved.parsed state.sources walk_to None)
    all_asked (Some name) = record { main = main; due = λ n other e. by n other e (leb (length (names_of state.sources)) n) refl }
      where
        front : List (List ℕ)
        front = names_of state.sources

        earlier : AreAsked held idl (Some name) front
        earlier = along resolved.tree resolved.parsed state.sources walk_to (Some name)

        main : slice_get (front ++ name ∷ []) 0 ≡ Some idl.name
        main = ap (λ l. slice_get (l ++ name ∷ []) 0) (reached_names resolved.tree resolved.parsed state.sources walk_to)

        by : (n : ℕ) (other : List ℕ) → slice_get (front ++ name ∷ []) n ≡ Some other → (b : Bool) → leb (length front) n ≡ b
            → IsNext held idl (Some name) (take n (front ++ name ∷ [])) other
        by n other e true is =
            let r = only front name n other (leb-true (length front) n is) e in
            inr (
              text,
              content,
              inr (record {
                due = record { state = state; resolved = resolved; named = ap Some r.1 };
                earlier_are = ap (λ k. take k (front ++ name ∷ [])) r.0 ∙ take_seam front (name ∷ []);
              }),
            )
        by n other e false is =
            let below : n < length front = leb-false (length front) n is in
            subst (λ l. IsNext held idl (Some name) l other) (sym (take_front front (name ∷ []) n (omega (arith, below))))
            (earlier.due n other (sym (get_front front (name ∷ []) n below) ∙ e))
