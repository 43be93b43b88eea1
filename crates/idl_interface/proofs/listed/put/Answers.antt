use Rattle.std.proofs.Common.{◌≡◌, ◌++◌, [], ◌∷◌, length, None, true, is_some, ap, subst}
use Rattle.std.proofs.lemmas.Result.{on_ok_weaker}
use Rattle.idl_scope.specs.Known.{found, put}
use Rattle.idl_interface.specs.Made.{AreListed}
use Rattle.idl_interface.proofs.Listing.{listed_old, listed_new}
use Rattle.idl_declared_types.proofs.Numbered.{no_number as lacks}
use Rattle.idl_interface.proofs.listed.put.Goals as goal

pub returns-then-is_some : goal.returns-then-is_some
returns-then-is_some c = λ before d h n e.
    let q : found d.declarator.name.octets c.args.table.now ≡ found c.args.name.now c.args.table.now = ap (λ k. found k c.args.table.now) e in
    let some : is_some (found d.declarator.name.octets c.args.table.now) ≡ true = cc in
    listed_old before d c.args.table.now h some

pub returns : goal.returns
returns c = λ before d h n e.
    let q : found d.declarator.name.octets c.args.table.now ≡ found c.args.name.now c.args.table.now = ap (λ k. found k c.args.table.now) e in
    let none : found d.declarator.name.octets c.args.table.now ≡ None = lacks (found d.declarator.name.octets c.args.table.now) cc in
    on_ok_weaker c.put.result
    (λ p.
    let made : put c.args.table.now d.declarator.name.octets (length before) ≡ c.put.new.self = cc (c.narrow.ensures) in
    subst (λ t. AreListed (before ++ d ∷ []) t) made (listed_new before d c.args.table.now h none)) c.put.ensures
