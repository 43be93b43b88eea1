use Rattle.std.proofs.Common.{◌≡◌, ◌∙◌, sym, ap, option_map, Some, None, Ok, Err}
use Rattle.idl_scope.specs.declared.name_fault.NameFault.TheVariants as fault
use Rattle.idl_scope.specs.Known.{found, put, and_then, where_free, place_in, place_in_list}
use Rattle.idl_scope.specs.Kept.{listed}
use Rattle.idl_scope.proofs.Lists.{at_octet, place_is, listed_new}
use Rattle.idl_scope.proofs.known.enlist.Goals as goal

pub returns-in-Some-clause-told : goal.returns-in-Some-clause-told
returns-in-Some-clause-told c = λ k h.
    let list = c.args.list.now in
    let name = c.args.name.now.octets in
    let e : found name list ≡ Some c.in-Some.at = ap (λ n. found n list) (sym c.as_slice.ensures) ∙ (sym c.get.ensures ∙ c.in-Some.is) in
    let p : place_in_list c.args.file (listed list) name ≡ Some (at_octet c.args.file c.in-Some.at) = place_is c.args.file list name ∙ ap (λ o. option_map (at_octet c.args.file) o) e in
    ap (λ o. and_then (where_free o (place_in c.args.file c.args.name.now) k) (λ next. Ok next)) p
    ∙ ap (λ q. Err (fault.Twice q (at_octet c.args.file c.in-Some.at))) (sym c.place_of.ensures)

pub returns-in_ok-put-in-None-clause-told : goal.returns-in_ok-put-in-None-clause-told
returns-in_ok-put-in-None-clause-told c = λ k.
    let list = c.args.list.now in
    let name = c.args.name.now.octets in
    let e : found name list ≡ None = ap (λ n. found n list) (sym c.as_slice.ensures) ∙ (sym c.get.ensures ∙ c.in-None.is) in
    let p : place_in_list c.args.file (listed list) name ≡ None = place_is c.args.file list name ∙ ap (λ o. option_map (at_octet c.args.file) o) e in
    ap (λ o. and_then (where_free o (place_in c.args.file c.args.name.now) k) (λ next. Ok next)) p

pub returns-in_ok-put-in-None-clause-more : goal.returns-in_ok-put-in-None-clause-more
returns-in_ok-put-in-None-clause-more c =
    let list = c.args.list.now in
    let name = c.args.name.now.octets in
    let e : found name list ≡ None = ap (λ n. found n list) (sym c.as_slice.ensures) ∙ (sym c.get.ensures ∙ c.in-None.is) in
    ap (λ t. listed t) c.in_ok-put-in-None.ensures
    ∙ (ap (λ n. listed (put list n c.at.result)) c.as_slice-in-None.ensures
    ∙ (ap (λ a. listed (put list name a)) c.at.ensures ∙ listed_new list name c.args.name.now.at e))
