use Rattle.std.proofs.Common.{◌≡◌, ◌+◌, ℕ, true, length, List, None, sym, ap, subst, ◌∙◌, arith}
use Rattle.nd_base.specs.declared.octets.Place.{Place}
use Rattle.idl_scope.specs.Small.{are_small}
use Rattle.idl_scope.specs.Known.{found}
use Rattle.idl_scope.proofs.Small.{all_more, put_length}
use Rattle.idl_scope.proofs.known.NameTables.declare.Goals as goal

pub invariant_of-self : goal.invariant_of-self
invariant_of-self c =
    subst (λ (ps : List (List ℕ × Place)). are_small (length ps) c.self.inside.meanings ≡ true) (sym c.in_err-insert-in-None.ensures) c.self.invariant

pub invariant_of-self-in-None : goal.invariant_of-self-in-None
invariant_of-self-in-None c =
    let places = c.self.inside.places in
    let new : found c.args.name.now.octets places ≡ None = ap (λ n. found n places) (sym c.as_slice.ensures) ∙ (sym c.get.ensures ∙ c.in-None.is) in
    let there : found c.as_slice-in-None.result.now places ≡ None = ap (λ n. found n places) c.as_slice-in-None.ensures ∙ new in
    let longer : length c.insert.new.self ≡ length places + 1 =
    ap (λ (ps : List (List ℕ × Place)). length ps) c.in_ok-insert-in-None.ensures ∙ put_length places c.as_slice-in-None.result.now c.place_of-place.result there in
    all_more (length places) (length c.insert.new.self) c.self.inside.meanings (omega (arith, longer)) c.self.invariant
