use Rattle.std.proofs.Common.{◌∷◌, ap, sym, ◌∙◌, subst}
use Rattle.ndr_encode.specs.Search.{IsSearched, called_run, direct_run}
use Rattle.ndr_encode.proofs.Searching.{call_item, direct_item, no_root}
use Rattle.ndr_encode.proofs.search.root.Goals as goal

pub own_root-requires : goal.own_root-requires
own_root-requires c =
    let r = c.requires in
    let e = call_item c.args.root c.in-Some.run' _ r.item (ap called_run (sym c.instr_at-first.ensures) ∙ sym c.called.ensures ∙ c.in-Some.is) r.is_item in
    record {
      stream = r.stream;
      due = r.due;
      searchable = r.searchable;
      searched = subst (λ q. IsSearched c.args.code.now c.args.chunk c.args.fit.now.graph r.stream (q ∷ r.due) c.args.search.now) e r.searched;
      pending = r.pending;
    }

pub returns-in-Some : goal.returns-in-Some
returns-in-Some c x due item is y none s =
    let e = call_item c.args.root c.in-Some.run' _ item (ap called_run (sym c.instr_at-first.ensures) ∙ sym c.called.ensures ∙ c.in-Some.is) is in
    c.in_ok-own_root.ensures x due y none (subst (λ q. IsSearched c.args.code.now c.args.chunk c.args.fit.now.graph x (q ∷ due) c.args.search.now) e s)

pub unreachable-requires : goal.unreachable-requires
unreachable-requires c =
    no_root c.args.root _ c.requires.item c.requires.is_item (ap called_run (sym c.instr_at-first.ensures) ∙ sym c.called.ensures ∙ c.in_default.is)
    (ap direct_run (sym c.instr_at-first.ensures) ∙ sym c.directed.ensures ∙ c.in_default-directed.is)

pub direct_root-requires : goal.direct_root-requires
direct_root-requires c =
    let r = c.requires in
    let e = direct_item c.args.root c.in-Some-directed.direct _ r.item (ap direct_run (sym c.instr_at-first.ensures) ∙ sym c.directed.ensures ∙ c.in-Some-directed.is) r.is_item in
    record {
      stream = r.stream;
      due = r.due;
      searchable = r.searchable;
      searched = subst (λ q. IsSearched c.args.code.now c.args.chunk c.args.fit.now.graph r.stream (q ∷ r.due) c.args.search.now) e r.searched;
      pending = r.pending;
    }

pub returns : goal.returns
returns c x due item is y none s =
    let e = direct_item c.args.root c.in-Some-directed.direct _ item (ap direct_run (sym c.instr_at-first.ensures) ∙ sym c.directed.ensures ∙ c.in-Some-directed.is) is in
    c.in_ok-direct_root.ensures x due y none (subst (λ q. IsSearched c.args.code.now c.args.chunk c.args.fit.now.graph x (q ∷ due) c.args.search.now) e s)
