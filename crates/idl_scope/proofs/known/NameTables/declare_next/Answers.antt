use Rattle.std.proofs.Common.{◌≡◌, ◌+◌, ℕ, true, length, List, None, sym, ap, subst, ◌∙◌, arith}
use Rattle.nd_base.specs.declared.octets.Place.{Place}
use Rattle.idl_scope.specs.declared.meaning.Meaning.{Meaning}
use Rattle.idl_scope.specs.Known.{Known, found}
use Rattle.idl_scope.specs.Small.{is_small, are_small}
use Rattle.idl_scope.proofs.Small.{all_more, put_small, put_length}
use Rattle.idl_scope.proofs.known.NameTables.declare_next.Goals as goal

pub invariant_of-self : goal.invariant_of-self
invariant_of-self c =
    subst (λ (ps : List (List ℕ × Place)). are_small (length ps) c.self.inside.meanings ≡ true) (sym c.in_err-insert.ensures) c.self.invariant

pub invariant_of-self-in_err-insert-2 : goal.invariant_of-self-in_err-insert-2
invariant_of-self-in_err-insert-2 c =
    let places = c.self.inside.places in
    let new : found c.args.name.now.octets places ≡ None = ap (λ n. found n places) (sym c.as_slice.ensures) ∙ (sym c.get.ensures ∙ c.in_default.is) in
    let there : found c.as_slice-2.result.now places ≡ None = ap (λ n. found n places) c.as_slice-2.ensures ∙ new in
    let longer : length c.insert.new.self ≡ length places + 1 =
    ap (λ (ps : List (List ℕ × Place)). length ps) c.in_ok-insert.ensures ∙ put_length places c.as_slice-2.result.now c.place_of-place.result there in
    subst (λ (ms : List (List ℕ × Meaning)). are_small (length c.insert.new.self) ms ≡ true) (sym c.in_err-insert-2.ensures)
    (all_more (length places) (length c.insert.new.self) c.self.inside.meanings (omega (arith, longer)) c.self.invariant)

pub invariant_of-self-2 : goal.invariant_of-self-2
invariant_of-self-2 c =
    let places = c.self.inside.places in
    let new : found c.args.name.now.octets places ≡ None = ap (λ n. found n places) (sym c.as_slice.ensures) ∙ (sym c.get.ensures ∙ c.in_default.is) in
    let there : found c.as_slice-2.result.now places ≡ None = ap (λ n. found n places) c.as_slice-2.ensures ∙ new in
    let longer : length c.insert.new.self ≡ length places + 1 =
    ap (λ (ps : List (List ℕ × Place)). length ps) c.in_ok-insert.ensures ∙ put_length places c.as_slice-2.result.now c.place_of-place.result there in
    let one = c.next_meaning-meaning.result in
    let small : is_small (length c.insert.new.self) one ≡ true =
    subst (λ (n : ℕ). is_small n one ≡ true) (sym (longer ∙ ap (λ (k : Known). length k.places + 1) c.self.view_is)) c.next_meaning-meaning.ensures.small in
    subst (λ (ms : List (List ℕ × Meaning)). are_small (length c.insert.new.self) ms ≡ true) (sym c.in_ok-insert-2.ensures)
    (put_small (length c.insert.new.self) c.as_slice-3.result.now one c.self.inside.meanings
    (all_more (length places) (length c.insert.new.self) c.self.inside.meanings (omega (arith, longer)) c.self.invariant) small)
