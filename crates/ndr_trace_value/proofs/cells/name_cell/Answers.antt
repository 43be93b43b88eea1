use Rattle.std.proofs.Common.{◌++◌, refl, ap, subst, sym, ◌∙◌, option_map}
use Rattle.nd_value.specs.declared.value.CellId.{CellId}
use Rattle.ndr_trace_value.specs.declared.cells.Cells.{Cells}
use Rattle.ndr_trace_value.specs.Naming.{IsNaming, named_by}
use Rattle.ndr_trace_value.proofs.NamedCells.{none_pending, one_pending, pending_added, same_naming}
use Rattle.ndr_trace_value.proofs.cells.name_cell.Goals as goal

pub returns-in_default-clause-names : goal.returns-in_default-clause-names
returns-in_default-clause-names c k x m names is place i num fine =
    let (a, j) = c.in_ok-named.ensures.names k x names (subst (λ z. IsNaming k c.args.cells.now (named_by z ++ names)) is i) num fine in
    let none = sym (ap (option_map (λ (d : CellId). d.0)) c.in_default.is) ∙ a in (
      none,
      pending_added k c.args.cells.now c.named.new.cells m c.args.class c.args.to.0 x names is j
          (none_pending k m.home m.node c.args.class c.args.to.0 x c.args.cells.now.pending.items c.args.cells.now.pending.items c.named.new.cells.pending.items
          none refl (ap (λ v. v.items) c.named.ensures.pending))
          c.named.ensures.stands,
    )

pub returns-clause-names : goal.returns-clause-names
returns-clause-names c k x m names is place i num fine =
    let (a, j) = c.in_ok-named.ensures.names k x names (subst (λ z. IsNaming k c.args.cells.now (named_by z ++ names)) is i) num fine in
    let some = sym (ap (option_map (λ (d : CellId). d.0)) c.in-Some.is) ∙ a in
    let v : Cells = record {
      count = c.named.new.cells.count;
      numbers = c.named.new.cells.numbers;
      pending = c.push.new.self;
      stands = c.named.new.cells.stands;
    } in (
      some,
      pending_added k c.args.cells.now v m c.args.class c.args.to.0 x names is (same_naming k c.named.new.cells v names refl refl j)
          (one_pending k m.home m.node c.args.class c.in-Some.cell c.args.to c.args.from x c.args.cells.now.pending.items c.named.new.cells.pending.items
          c.push.new.self.items place some (ap (λ v. v.items) c.named.ensures.pending)
          c.in-Ok.ensures.items) c.named.ensures.stands,
    )
