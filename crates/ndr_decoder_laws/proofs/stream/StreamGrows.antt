-- Reading a stream only adds to the entries that were passed: up to its end all that were passed stay the first.
use Rattle.std.proofs.Common.{◌≡◌, ℕ, ◌+◌, ◌<◌, zero, suc, Bool, true, false, List, [], ◌∷◌, ◌++◌, length, Option, Some, None, refl, ap, sym, ◌∙◌, subst, append_assoc, drop}
use Rattle.std.specs.Prelude.{eqb, replicate}
use Rattle.std.specs.List.{slice_get}
use Rattle.std.proofs.lemmas.List.{append-nil}
use Rattle.nd_base.specs.declared.octets.Order.{Order}
use Rattle.nd_types.specs.declared.types.Class.TheVariants.{Ref, Unique, Full}
use Rattle.nd_types.specs.declared.types.TypeDef.{TypeDef}
use Rattle.nd_types.specs.declared.types.TypeDef.TheVariants as def
use Rattle.nd_types.specs.Number.{AreOctets}
use Rattle.nd_types.specs.Roots.{Root}
use Rattle.nd_types.specs.Table.{type_at}
use Rattle.nd_value.specs.declared.item.Home.{Home}
use Rattle.nd_value.specs.declared.item.Home.TheVariants as home
use Rattle.nd_value.specs.Deferral.{Pending, Due, due_root, due_referent, before_pipes, root_type}
use Rattle.nd_value.specs.Setting.{Setting, root_list, cell_at, cell_home}
use Rattle.nd_value.specs.Tree.{none, joined, node_count}
use Rattle.nd_value.proofs.Apart.{all_append}
use Rattle.nd_grammar.specs.declared.reason.Reason.{Reason}
use Rattle.nd_grammar.specs.Entry.{Entry, Align, Chunk, tests}
use Rattle.nd_grammar.specs.LegalSide.{IsLegalSide}
use Rattle.nd_grammar.specs.Refusal.{refusal}
use Rattle.nd_grammar.specs.Reader.{Progress, Names, Read, ReadAll, is_stopped, here, advanced, pass, pass_all, taken, number_in, fresh, with_cell, read_list, read_in_place, read_whole}
use Rattle.nd_grammar.specs.StreamReader.{Reading, ReadPipe, ReadPipes, graph_of, stood, read_root, read_referent, read_pending, read_next, read_due, read_chunks, read_pipe, read_pipes, read_stream}
use Rattle.nd_grammar.proofs.reader.ReaderStream as stream
use Rattle.ndr_decoder_laws.specs.worklist.Reached.{head, Comes, Reached}
use Rattle.ndr_decoder_laws.specs.stream.Added.{Added, Goes}
use Rattle.ndr_decoder_laws.specs.stream.Parameters.{head_read, parameter_tests}
use Rattle.ndr_decoder_laws.proofs.stream.Growing.{whole_adds, in_place_adds, list_adds}

pub goes_nowhere : (p : Progress) → Goes p p
goes_nowhere p = record { added = []; seen = sym (append-nil p.seen) }

pub goes_twice : (p q r : Progress) → Goes p q → Goes q r → Goes p r
goes_twice p q r a b = record { added = a.added ++ b.added; seen = b.seen ∙ ap (λ u. u ++ b.added) a.seen ∙ append_assoc p.seen a.added b.added }

pub goes_by : (h : Home) (p q : Progress) → Added h p q → Goes p q
goes_by h p q a = record { added = a.added; seen = a.seen }

advanced_goes : (o r : Option (ℕ × Reason)) (p : Progress) (m : Entry) → Goes p (advanced o r p m)
advanced_goes (Some x) r p m = goes_nowhere p
advanced_goes None (Some x) p m = record { added = []; seen = sym (append-nil p.seen) }
advanced_goes None None p m = record { added = here p m ∷ []; seen = refl }

abbrev pub chosen : Bool → ReadPipe → ReadPipe → ReadPipe
chosen b t u = elim b [ true ↦ t | false ↦ u ]

pub by_count : (p : Progress) (b : Bool) (t u : ReadPipe) → Goes p t.progress → Goes p u.progress → Goes p (chosen b t u).progress
by_count p true t u f g = f
by_count p false t u f g = g

module _ (order : Order) (octets : List ℕ) where
  pass_goes : (m : Entry) (p : Progress) → Goes p (pass order octets m p)
  pass_goes m p = advanced_goes p.stop (refusal order octets p.seen (here p m)) p m

  pub all_go : (ms : List Entry) (p : Progress) → Goes p (pass_all order octets ms p)
  all_go [] p = goes_nowhere p
  all_go (m ∷ ms) p = goes_twice p (pass order octets m p) (pass_all order octets ms (pass order octets m p)) (pass_goes m p) (all_go ms (pass order octets m p))

module _ (w : Setting) (order : Order) (octets : List ℕ) where
  whole_goes : (h : Home) (t : ℕ) (p : Progress) (s : Names) → Goes p (read_whole order octets w.table h t p s).progress
  whole_goes h t p s = goes_by h p (read_whole order octets w.table h t p s).progress (whole_adds order octets w.table h t p s)

  root_goes : (d : Option TypeDef) (b : Bool) (i t : ℕ) (due : List Due) (s : Reading) → Goes s.progress (read_root w order octets d b i t due s).progress
  root_goes (Some (def.Pointer Ref to)) false i t due s = whole_goes (cell_home (fresh to.0 s.names)) to.0 s.progress (with_cell to.0 s.names)
  root_goes (Some (def.Pointer Ref to)) true i t due s = whole_goes (home.Root i) t s.progress s.names
  root_goes (Some (def.Pointer Unique to)) b i t due s = whole_goes (home.Root i) t s.progress s.names
  root_goes (Some (def.Pointer Full to)) b i t due s = whole_goes (home.Root i) t s.progress s.names
  root_goes (Some (def.Prim p)) b i t due s = whole_goes (home.Root i) t s.progress s.names
  root_goes (Some (def.Enum values)) b i t due s = whole_goes (home.Root i) t s.progress s.names
  root_goes (Some (def.Struct members)) b i t due s = whole_goes (home.Root i) t s.progress s.names
  root_goes (Some (def.Array elem bound varying)) b i t due s = whole_goes (home.Root i) t s.progress s.names
  root_goes (Some (def.Text elem bound)) b i t due s = whole_goes (home.Root i) t s.progress s.names
  root_goes (Some (def.Union tag enc arms default)) b i t due s = whole_goes (home.Root i) t s.progress s.names
  root_goes (Some def.Context) b i t due s = whole_goes (home.Root i) t s.progress s.names
  root_goes (Some (def.Pipe elem)) b i t due s = whole_goes (home.Root i) t s.progress s.names
  root_goes None b i t due s = whole_goes (home.Root i) t s.progress s.names

  referent_goes : (b : Bool) (p : Pending) (c : ℕ) (due : List Due) (s : Reading) → Goes s.progress (read_referent w order octets b p c due s).progress
  referent_goes true p c due s = all_go order octets (tests (cell_home c) 0 (cell_at (graph_of s.roots s.names) c) p.agreements) s.progress
  referent_goes false p c due s =
      let r : Read = read_whole order octets w.table (cell_home c) p.to s.progress s.names in
      let ms : List Entry = tests (cell_home c) 0 r.tree p.agreements in
      goes_twice s.progress r.progress (pass_all order octets ms r.progress) (whole_goes (cell_home c) p.to s.progress s.names) (all_go order octets ms r.progress)

  pending_goes : (o : Option ℕ) (p : Pending) (due : List Due) (s : Reading) → Goes s.progress (read_pending w order octets o p due s).progress
  pending_goes None p due s = goes_nowhere s.progress
  pending_goes (Some c) p due s = referent_goes (stood p.class s.done c) p c due s

  next_goes : (due : List Due) (s : Reading) → Goes s.progress (read_next w order octets due s).progress
  next_goes [] s = goes_nowhere s.progress
  next_goes (due_root i ∷ due) s =
      let t : ℕ = root_type (slice_get (root_list w) i) in
      root_goes (type_at w.table t) (is_stopped s.progress.stop) i t due s
  next_goes (due_referent p ∷ due) s = pending_goes p.cell p due s

  due_goes : (k : ℕ) (s : Reading) → Goes s.progress (read_due w order octets k s).progress
  due_goes zero s = goes_nowhere s.progress
  due_goes (suc k) s =
      let q : Reading = read_next w order octets s.due s in
      goes_twice s.progress q.progress (read_due w order octets k q).progress (next_goes s.due s) (due_goes k q)

  pub chunks_go : (k : ℕ) (h : Home) (elem n : ℕ) (p : Progress) (s : Names) → Goes p (read_chunks w order octets k h elem n p s).progress
  chunks_go zero h elem n p s = goes_nowhere p
  chunks_go (suc more) h elem n p s =
      let gap : Progress = pass order octets (record { home = h; node = 0; kind = Align 4 }) p in
      let k : ℕ = number_in order octets (taken order octets (record { home = h; node = 0; kind = Chunk 0 }) gap) in
      let q : Progress = pass order octets (record { home = h; node = 0; kind = Chunk k }) gap in
      let kids : ReadAll = read_list w.table (read_in_place order octets w.table h 32 0) (replicate k elem) n q s in
      let others : ReadPipe = read_chunks w order octets more h elem (n + node_count kids.trees) kids.progress kids.names in
      let first : Goes p q =
      goes_twice p gap q (pass_goes order octets (record { home = h; node = 0; kind = Align 4 }) p) (pass_goes order octets (record { home = h; node = 0; kind = Chunk k }) gap) in
      let elements : Goes q kids.progress =
      goes_by h q kids.progress (list_adds order octets w.table h (read_in_place order octets w.table h 32 0) (in_place_adds order octets w.table h 32 0) (replicate k elem) n q s) in
      let rest : Goes kids.progress others.progress = chunks_go more h elem (n + node_count kids.trees) kids.progress kids.names in
      by_count p (eqb k 0) (record { trees = none; cut = []; progress = q; names = s })
      (record { trees = joined kids.trees others.trees; cut = k ∷ others.cut; progress = others.progress; names = others.names }) first
      (goes_twice p kids.progress others.progress (goes_twice p q kids.progress first elements) rest)

  pipe_goes : (d : Option TypeDef) (b : Bool) (i : ℕ) (p : Progress) (s : Names) → Goes p (read_pipe w order octets d b i p s).progress
  pipe_goes (Some (def.Pipe elem)) false i p s = chunks_go (length octets + 1) (home.Root i) elem.0 1 p s
  pipe_goes (Some (def.Pipe elem)) true i p s = goes_nowhere p
  pipe_goes (Some (def.Prim q)) b i p s = goes_nowhere p
  pipe_goes (Some (def.Enum values)) b i p s = goes_nowhere p
  pipe_goes (Some (def.Struct members)) b i p s = goes_nowhere p
  pipe_goes (Some (def.Array elem bound varying)) b i p s = goes_nowhere p
  pipe_goes (Some (def.Text elem bound)) b i p s = goes_nowhere p
  pipe_goes (Some (def.Union tag enc arms default)) b i p s = goes_nowhere p
  pipe_goes (Some (def.Pointer class to)) b i p s = goes_nowhere p
  pipe_goes (Some def.Context) b i p s = goes_nowhere p
  pipe_goes None b i p s = goes_nowhere p

  pub pipes_go : (i : ℕ) (rs : List Root) (p : Progress) (s : Names) → Goes p (read_pipes w order octets i rs p s).progress
  pipes_go i [] p s = goes_nowhere p
  pipes_go i (r ∷ rs) p s =
      let first : ReadPipe = read_pipe w order octets (type_at w.table r.of) (is_stopped p.stop) i p s in
      let others : ReadPipes = read_pipes w order octets (i + 1) rs first.progress first.names in
      goes_twice p first.progress others.progress (pipe_goes (type_at w.table r.of) (is_stopped p.stop) i p s) (pipes_go (i + 1) rs first.progress first.names)

  -- from some of the roots and referents on, up to the pipes
  before_the_pipes : (s : Reading) (k : ℕ) → head w order octets ≡ read_due w order octets k s → Goes s.progress (head_read w order octets)
  before_the_pipes s k e =
      let h : Reading = head w order octets in
      goes_twice s.progress h.progress (head_read w order octets) (subst (λ (u : Reading). Goes s.progress u.progress) (sym e) (due_goes k s))
      (all_go order octets (parameter_tests w h) h.progress)

  -- and over the pipes
  pub head_then_stream : Goes (head_read w order octets) (read_stream w order octets).progress
  head_then_stream = pipes_go (before_pipes (root_list w)) (drop (before_pipes (root_list w)) (root_list w)) (head_read w order octets) (head w order octets).names

-- from a state that is reached
pub head_goes : (w : Setting) (order : Order) (fetched : List ℕ) (s : Reading) → Reached w order fetched s → (later : List ℕ) → AreOctets later
    → Goes s.progress (head_read w order (fetched ++ later))
head_goes w order fetched s r later a = let (k, e) = r.comes later a in before_the_pipes w order (fetched ++ later) s k e

-- from what comes next there
pub next_then_head : (w : Setting) → IsLegalSide w → (order : Order) (fetched : List ℕ) → AreOctets fetched → (s : Reading) (d : Due) (ds : List Due) → s.due ≡ d ∷ ds → Reached w order fetched s
    → (later : List ℕ) → AreOctets later → Goes (read_next w order (fetched ++ later) s.due s).progress (head_read w order (fetched ++ later))
next_then_head w side order fetched all s d ds e r later a =
    go (r.comes later a) (all_append (λ b. b < 256) fetched later all a)
  where
    go : Comes w order (fetched ++ later) s → AreOctets (fetched ++ later) → Goes (read_next w order (fetched ++ later) s.due s).progress (head_read w order (fetched ++ later))
    go (zero, h) whole =
        let f : s.due ≡ [] = ap (λ u. u.due) (sym h) ∙ (stream.head w side order (fetched ++ later) whole).due_none in
        let g : d ∷ ds ≡ [] = sym e ∙ f in
        cc
    go (suc k, h) whole = before_the_pipes w order (fetched ++ later) (read_next w order (fetched ++ later) s.due s) k h
