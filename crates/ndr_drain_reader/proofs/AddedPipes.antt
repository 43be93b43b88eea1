-- Pipes without elements are added to a graph that is built.
-- `k` is how many, `a` is what was built before them, `b` before one of them, `c` when it is open, `d` after it.
use Rattle.std.proofs.Common.{◌≡◌, ℕ, ◌+◌, zero, suc, List, [], ◌∷◌, ◌++◌, length, refl, ap, sym, ◌∙◌, subst, replicate, append_assoc, arith}
use Rattle.std.specs.Prelude.{slice_set}
use Rattle.std.proofs.lemmas.List.{append-nil}
use Rattle.nd_value.specs.declared.item.Home.TheVariants as home
use Rattle.nd_value.specs.declared.value.Graph.{Graph}
use Rattle.nd_value.specs.Setting.{unread}
use Rattle.nd_value.specs.Tree as tree
use Rattle.nd_value.specs.Tree.{Tree}
use Rattle.nd_flat.specs.Building.{Building, CanClose, closed, opened, with_node, with_root}
use Rattle.ndr_drain_laws.specs.parts.Parts.{empty_pipe}
use Rattle.ndr_decode.proofs.PipeOpens.{closed_roots}
use Rattle.ndr_drain_reader.specs.Heads.{AddsPipes}

set_last : (us : List Tree) (u t : Tree) → slice_set (us ++ u ∷ []) (length us) t ≡ us ++ t ∷ []
set_last [] u t = refl
set_last (x ∷ us) u t = ap (λ xs. x ∷ xs) (set_last us u t)

one_longer : (k : ℕ) → replicate k empty_pipe ++ empty_pipe ∷ [] ≡ replicate (k + 1) empty_pipe
one_longer zero = refl
one_longer (suc k) =
    let z : suc (k + 1) ≡ suc k + 1 = omega arith in
    ap (λ xs. empty_pipe ∷ xs) (one_longer k) ∙ ap (λ n. replicate n empty_pipe) z

pub none_added : (b : Building) → CanClose b → AddsPipes 0 b b
none_added b w = record { whole = w; graph = ap (λ (us : List Tree). record { roots = us; cells = (closed b).cells }) (sym (append-nil (closed b).roots)); same = refl }

-- a pipe is open, and has its node
abbrev pipe_built : Building → Building
pipe_built b = with_node (tree.Pipe, 0) (opened (home.Root (length b.graph.roots)) (with_root (closed b)) b)

built_graph : (b : Building) → closed (pipe_built b) ≡ record { roots = (closed b).roots ++ empty_pipe ∷ []; cells = (closed b).cells }
built_graph b =
    ap (λ (us : List Tree). record { roots = us; cells = (closed b).cells })
    (ap (λ n. slice_set ((closed b).roots ++ unread ∷ []) n empty_pipe) (sym (closed_roots b)) ∙ set_last (closed b).roots unread empty_pipe)

pub one_added : (k : ℕ) (a b c d : Building) → AddsPipes k a b → c ≡ opened (home.Root (length b.graph.roots)) (with_root (closed b)) b → d ≡ with_node (tree.Pipe, 0) c → AddsPipes (k + 1) a d
one_added k a b c d x e f =
    let is : pipe_built b ≡ d = ap (with_node (tree.Pipe, 0)) (sym e) ∙ sym f in
    let g : Graph = closed a in
    let roots : ((g.roots ++ replicate k empty_pipe) ++ empty_pipe ∷ []) ≡ g.roots ++ replicate (k + 1) empty_pipe =
    append_assoc g.roots (replicate k empty_pipe) (empty_pipe ∷ []) ∙ ap (λ us. g.roots ++ us) (one_longer k) in
    subst (AddsPipes (k + 1) a) is (record {
      whole = refl;
      graph = built_graph b ∙ ap (λ (h : Graph). record { roots = h.roots ++ empty_pipe ∷ []; cells = h.cells }) x.graph
          ∙ ap (λ (us : List Tree). record { roots = us; cells = g.cells }) roots;
      same = x.same;
    })
