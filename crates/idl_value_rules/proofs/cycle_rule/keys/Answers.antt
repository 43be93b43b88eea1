use Rattle.std.proofs.Common.{◌≡◌, ◌∙◌, ℕ, ◌+◌, ◌<◌, ◌∷◌, [], List, length, Some, slice_get, get_or, refl, ap, sym, subst, arith, rules, length-append}
use Rattle.std.proofs.lemmas.Option.{slice_get_read}
use Rattle.nd_base.specs.declared.octets.Place.{Place}
use Rattle.idl_scope.specs.Seen.{seen_files}
use Rattle.idl_declared_types.specs.declared.types.BodyTypes.{BodyTypes}
use Rattle.idl_rule_definitions.specs.Nodes.{place_in}
use Rattle.idl_rule_definitions.specs.Scene.{bodies}
use Rattle.idl_declared_types.proofs.PlacesFilled.{Each}
use Rattle.idl_value_rules.proofs.CycleKeys.{KeyAt, key_more, keys_all, joined_key}
use Rattle.idl_value_rules.proofs.cycle_rule.keys.Goals as goal

pub loop-body-init : goal.loop-body-init
loop-body-init c = (
  ap length c.new-keys.ensures.items,
  λ s is. subst (λ (l : List ℕ). Each (KeyAt (seen_files c.args.finder.now.files.now) (bodies s)) 0 l) (sym c.new-keys.ensures.items) (λ i below. absurd (omega (arith, below))),
)

pub loop-body-preserved : goal.loop-body-preserved
loop-body-preserved c =
    let files = seen_files c.args.finder.now.files.now in
    let t = c.args.types.now in
    let index = c.loop-body.body-index in
    let place = c.place_told-place.result in
    let size = c.loop-body.invariant.0 in
    let key = c.joined-key.result in
    let octet : place.at < 4294967296 = search rules in
    let below = subst (λ (l : List BodyTypes). index < length l) c.deref-body-items.ensures.value c.loop-body-test.true in
    let same = c.body-item.is ∙ ap (λ l. get_or l index c.body-item.result) c.deref-body-items.ensures.value in
    let here : slice_get t.bodies.items index ≡ Some c.body-item.result = slice_get_read t.bodies.items (length t.bodies.items) index c.body-item.result refl below same in (
      ap length c.in-Ok.ensures.items ∙ length-append c.loop-body.keys.items (key ∷ []) ∙ ap (λ n. n + 1) size,
      λ s is. subst (λ (l : List ℕ). Each (KeyAt files (bodies s)) 0 l) (sym c.in-Ok.ensures.items)
          (key_more files (bodies s) index c.loop-body.keys.items key size (c.loop-body.invariant.1 s is)
          (λ b at. let told : place ≡ place_in b.construct b.construct.at =
          c.place_told-place.ensures s.known b (is.body index b c.body-item.result at here).node in (
            joined_key files b place c.rank.result key c.joined-key.ensures c.rank.ensures told,
            subst (λ (p : Place). p.at < 4294967296) told octet,
          ))),
    )

pub returns : goal.returns
returns c s same is =
    let e = c.loop-body-test.false in
    let f = c.loop-body.auto.body-index-end in
    let size = c.loop-body.invariant.0 in
    let items = ap length c.deref-body-items.ensures.value in
    let count = is.body_count in
    keys_all (seen_files c.args.finder.now.files.now) (bodies s) c.loop-body.keys.items (omega (arith, e, f, size, items, count)) (c.loop-body.invariant.1 s is)
