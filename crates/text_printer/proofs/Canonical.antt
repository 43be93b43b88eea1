-- The text of a fit is that of its canonical form.
use Rattle.std.proofs.Common.{◌≡◌, ℕ, ◌+◌, List, [], ◌++◌, append_assoc, Some, ap, sym, ◌∙◌, subst}
use Rattle.std.specs.List.{slice_get}
use Rattle.std.proofs.lemmas.Option.{same_Some}
use Rattle.nd_types.specs.declared.interface.Interface.{Interface}
use Rattle.nd_types.specs.declared.types.Operation.{Operation}
use Rattle.nd_types.specs.declared.types.Side.{Side}
use Rattle.nd_types.specs.Table.{Table}
use Rattle.nd_types.specs.Roots.{named_roots}
use Rattle.nd_value.specs.declared.value.Graph.{Graph}
use Rattle.nd_value.specs.Fitting.{Fitting, IsFit, setting_beside}
use Rattle.nd_value.specs.Setting.{root_list}
use Rattle.nd_value.specs.Conforms.{Conforms}
use Rattle.nd_value.specs.Canon.{IsCanon}
use Rattle.nd_graph.specs.Canonical.{IsCanonical}
use Rattle.nd_graph.proofs.NamingOrder.{canon_of_fit}
use Rattle.text_grammar.specs.Written.{IsText}
use Rattle.text_printer.specs.Texts.{head_text, roots_text, cells_text}
use Rattle.text_printer.specs.Walks.{RootsBegin, CellsBegin}
use Rattle.text_printer.proofs.Fits.{conforming_sound, roots_begin, cells_begin}
use Rattle.text_printer.proofs.GraphLines.{graph_is_printed}

-- the graph of a fit conforms to the side of its operation
pub fit_conforms : (c : Fitting) (i : Interface) (o : Operation) → IsFit c → c.interface ≡ i → slice_get i.operations c.op ≡ Some o
    → Conforms (setting_beside i o c.side c.given) c.graph
fit_conforms c i o k e there =
    let same : k.operation ≡ o = same_Some _ _ (sym k.is_there ∙ ap (λ j. slice_get j.operations c.op) e ∙ there) in
    subst (λ p. Conforms (setting_beside i p c.side c.given) c.graph) same
    (subst (λ (j : Interface). Conforms (setting_beside j k.operation c.side c.given) c.graph) e k.conforms)

-- the canonical form conforms to the side of the fit's operation
pub canonical_conforms : (f c : Fitting) (i : Interface) (o : Operation) → IsFit c → IsCanonical f c → f.interface ≡ i → slice_get i.operations f.op ≡ Some o
    → Conforms (setting_beside i o f.side f.given) c.graph
canonical_conforms f c i o k d e there =
    subst (λ g. Conforms (setting_beside i o f.side g) c.graph) d.given
    (subst (λ s. Conforms (setting_beside i o s c.given) c.graph) d.side (fit_conforms c i o k (d.interface ∙ e) (ap (slice_get i.operations) d.op ∙ there)))

-- its values can be written as a walk comes to them
pub canonical_begins : (f c : Fitting) (i : Interface) (o : Operation) → IsFit f → IsFit c → IsCanonical f c → f.interface ≡ i → slice_get i.operations f.op ≡ Some o
    → RootsBegin i.types (named_roots i.types f.side o) c.graph.roots × CellsBegin i.types c.graph.cells
canonical_begins f c i o kf kc d e there =
    let w = setting_beside i o f.side f.given in
    let k = conforming_sound w c.graph (canonical_conforms f c i o kc d e there) in
    (roots_begin i.types o (root_list w) c.graph.roots k.0, cells_begin i.types c.graph.cells k.1)

pub begin_alike : (table : Table) (o : Operation) (s s' : Side) (g g' : Graph) → s ≡ s' → g ≡ g' → RootsBegin table (named_roots table s' o) g'.roots × CellsBegin table g'.cells
    → RootsBegin table (named_roots table s o) g.roots × CellsBegin table g.cells
begin_alike table o s s' g g' es eg h =
    subst (λ (d : Side). RootsBegin table (named_roots table d o) g.roots × CellsBegin table g.cells) (sym es)
    (subst (λ (j : Graph). RootsBegin table (named_roots table s' o) j.roots × CellsBegin table j.cells) (sym eg) h)

-- what was written of the canonical form is the text
pub canonical_text : (f c : Fitting) (i : Interface) (o : Operation) (text : List ℕ) → IsFit f → IsFit c → IsCanonical f c → f.interface ≡ i → slice_get i.operations f.op ≡ Some o
    → text ≡ head_text o.name f.side ++ (roots_text i.types (named_roots i.types f.side o) c.graph.roots ++ cells_text i.types 1 c.graph.cells)
    → IsText (setting_beside i o f.side f.given) f.graph text
canonical_text f c i o text kf kc d e there is =
    record {
      canonical = c.graph;
      is_canonical =
          subst (λ (j : Interface). IsCanon (setting_beside j o f.side f.given) f.graph c.graph) e (canon_of_fit f c kf d o (ap (λ j. slice_get j.operations f.op) e ∙ there));
      printed = is ∙ sym (graph_is_printed (setting_beside i o f.side f.given) c.graph (canonical_conforms f c i o kc d e there));
    }

-- the lines, one after the other
pub put_together : (table : Table) (o : Operation) (name name' : List ℕ) (s s' : Side) (g g' : Graph) (t0 t1 t2 t3 : List ℕ) → t0 ≡ [] → t1 ≡ t0 ++ head_text name s
    → t2 ≡ t1 ++ roots_text table (named_roots table s o) g.roots → t3 ≡ t2 ++ cells_text table 1 g.cells → name ≡ name' → s ≡ s' → g ≡ g'
    → t3 ≡ head_text name' s' ++ (roots_text table (named_roots table s' o) g'.roots ++ cells_text table 1 g'.cells)
put_together table o name name' s s' g g' t0 t1 t2 t3 h0 h1 h2 h3 en es eg =
    let h = head_text name s in
    let r = roots_text table (named_roots table s o) g.roots in
    let c = cells_text table 1 g.cells in
    h3 ∙ ap (λ x. x ++ c) (h2 ∙ ap (λ x. x ++ r) (h1 ∙ ap (λ x. x ++ h) h0)) ∙ append_assoc h r c
    ∙ ap (λ n. head_text n s ++ (r ++ c)) en
    ∙ ap (λ (d : Side). head_text name' d ++ (roots_text table (named_roots table d o) g.roots ++ c)) es
    ∙ ap (λ (j : Graph). head_text name' s' ++ (roots_text table (named_roots table s' o) j.roots ++ cells_text table 1 j.cells)) eg
