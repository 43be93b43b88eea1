use Rattle.std.proofs.Common.{option_map, subst}
use Rattle.std.proofs.lemmas.Result.{err_from_is_err_and}
use Rattle.nd_value.specs.Fitting.{setting_beside}
use Rattle.dceidl.specs.Input.{IsEncoding}
use Rattle.dceidl.proofs.encode.encode.Goals as goal

pub returns-in_err-octets-clause-refused : goal.returns-in_err-octets-clause-refused
returns-in_err-octets-clause-refused c o there =
    let p = err_from_is_err_and c.from_residual.result c.from_residual.ensures.1 in
    rw (p.1, p.2) (c.in_err-octets.ensures.refused o there)

pub returns-clause-done : goal.returns-clause-done
returns-clause-done c o there = record {
  octets = c.in_ok-octets.octets;
  encoding =
      subst (λ k. IsEncoding
      (setting_beside c.args.ready.now.interface o c.args.ready.now.side (option_map (λ f. f.now.graph) c.args.given)) k c.args.chunk c.args.text.now c.in_ok-octets.octets) c.order.ensures
      (c.in_ok-octets.ensures.done o there);
  made_is = c.in_ok-labelled.ensures;
}
