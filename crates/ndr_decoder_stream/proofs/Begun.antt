-- What is kept when a home begins.
use Rattle.std.proofs.Common.{◌≡◌, ℕ, List, [], ◌∷◌, ◌++◌, Option, None, ap, sym, ◌∙◌, map, subst}
use Rattle.std.proofs.lemmas.List.{map-append}
use Rattle.nd_value.specs.declared.item.Home.{Home}
use Rattle.nd_value.specs.declared.value.Graph.{Graph}
use Rattle.nd_value.specs.Tree.{Referent}
use Rattle.nd_value.specs.Setting.{cell_home}
use Rattle.nd_flat.specs.Forest.{tree_in}
use Rattle.nd_flat.specs.Building.{Building, CanClose, CanCloseAt, closed, opened, put}
use Rattle.ndr_decoder_state.specs.Parts.{started}
use Rattle.ndr_decoder_laws.specs.steps.Steps.{State}
use Rattle.ndr_decoder_laws.specs.stream.Between.{Between, Opens}
use Rattle.ndr_decoder_stream.specs.Ends.{with_reference}
use Rattle.ndr_decoder_stream.proofs.Opened.{closed_types}

pub opens_by : (run : ℕ) (b : Between) (types : List ℕ) (x y : State) → y ≡ started run x → x.at ≡ b.at → x.cells ≡ types → x.numbers ≡ b.numbers → Opens run b types y
opens_by run b types x y e at cells numbers = record {
  pc = ap (λ (s : State). s.pc) e;
  phase = ap (λ (s : State). s.phase) e;
  at = ap (λ (s : State). s.at) e ∙ at;
  max = ap (λ (s : State). s.max) e;
  max_at = ap (λ (s : State). s.max_at) e;
  top = ap (λ (s : State). s.top) e;
  stack = ap (λ (s : State). s.stack) e;
  nodes = ap (λ (s : State). s.nodes) e;
  members = ap (λ (s : State). s.members) e;
  firsts = ap (λ (s : State). s.firsts) e;
  fresh = ap (λ (s : State). s.fresh) e;
  cells = ap (λ (s : State). s.cells) e ∙ cells;
  numbers = ap (λ (s : State). s.numbers) e ∙ numbers;
}

-- the types of the cells of a graph that a home was opened in
pub opened_types : (b o : Building) (h : Home) (g : Graph) → o ≡ opened h g b → map (λ c. c.of) o.graph.cells ≡ map (λ c. c.of) g.cells
opened_types b o h g e = ap (λ (u : Building). map (λ c. c.of) u.graph.cells) e

pub reference_types : (b o : Building) (c to : ℕ) → o ≡ opened (cell_home c) (with_reference c to (closed b)) b → map (λ x. x.of) o.graph.cells ≡ map (λ x. x.of) b.graph.cells ++ to ∷ []
reference_types b o c to e =
    opened_types b o (cell_home c) (with_reference c to (closed b)) e
    ∙ map-append (λ (x : Referent). x.of) (closed b).cells _
    ∙ ap (λ ts. ts ++ to ∷ []) (closed_types b)

-- where no home is open
pub closed_none : (b : Building) → b.home ≡ None → closed b ≡ b.graph
closed_none b e = ap (λ (o : Option Home). put o (tree_in b.nodes) b.graph) e

pub can_close_none : (b c : Building) → c ≡ b → b.home ≡ None → CanClose c
can_close_none b c e h = subst CanClose (sym e) (subst (λ (o : Option Home). CanCloseAt o b.nodes) (sym h) tt)
