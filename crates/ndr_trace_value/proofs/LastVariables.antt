-- From a struct to the attribute of its last member, and from that to its own last member.
-- `table` are the types, `t` is a type's number, `ms` are the members of a struct, `f` is the last, `p` and `q` are the paths of the struct and of a member, `by`
-- is an attribute with its variable.
use Rattle.std.proofs.Common.{◌≡◌, ◌∙◌, ℕ, zero, suc, List, [], Some, None, refl, sym, ap}
use Rattle.nd_types.specs.declared.types.AttrVar.{AttrVar}
use Rattle.nd_types.specs.declared.types.Field.{Field}
use Rattle.nd_types.specs.Table.{Table, type_at}
use Rattle.nd_value.specs.declared.item.ItemKind.TheVariants as item
use Rattle.text_grammar.specs.Paths.{member_path}
use Rattle.ndr_trace_value.specs.Attributes.{first_of}
use Rattle.ndr_trace_value.specs.LastMembers.{last_field, stated_by, stated_by_last, stated_in, struct_of, variable_within}
use Rattle.ndr_trace_value.specs.Traces.{numbered_path}

module _ (table : Table) where
  at_struct : (n m t : ℕ) (ms : List Field) (p : List ℕ) → n ≡ suc m → struct_of (type_at table t) ≡ Some ms
      → variable_within n table t p ≡ stated_by_last (variable_within m table) p ms (last_field ms)
  at_struct n m t ms p e is = ap (λ k. variable_within k table t p) e ∙ ap (stated_in (variable_within m table) p) is

  at_last : (n m t : ℕ) (ms : List Field) (f : Field) (p : List ℕ) → n ≡ suc m → struct_of (type_at table t) ≡ Some ms → last_field ms ≡ Some f
      → variable_within n table t p ≡ stated_by (variable_within m table) p ms f (first_of item.Max f.vars)
  at_last n m t ms f p e is last = at_struct n m t ms p e is ∙ ap (stated_by_last (variable_within m table) p ms) last

  -- one level further down
  pub variable_down : (n m t : ℕ) (ms : List Field) (f : Field) (p q : List ℕ) → n ≡ suc m → struct_of (type_at table t) ≡ Some ms → last_field ms ≡ Some f
      → first_of item.Max f.vars ≡ None → q ≡ member_path p f.name → variable_within n table t p ≡ variable_within m table f.of.0 q
  variable_down n m t ms f p q e is last none path =
      at_last n m t ms f p e is last ∙ ap (stated_by (variable_within m table) p ms f) none ∙ ap (variable_within m table f.of.0) (sym path)

  -- the last member has an attribute
  pub variable_found : (n m t : ℕ) (ms : List Field) (f : Field) (by : AttrVar) (p q : List ℕ) → n ≡ suc m → struct_of (type_at table t) ≡ Some ms → last_field ms ≡ Some f
      → first_of item.Max f.vars ≡ Some by → q ≡ numbered_path p ms by.var → variable_within n table t p ≡ q
  variable_found n m t ms f by p q e is last some path =
      at_last n m t ms f p e is last ∙ ap (stated_by (variable_within m table) p ms f) some ∙ sym path

  -- there is no member
  pub no_struct : (n t : ℕ) (p : List ℕ) → struct_of (type_at table t) ≡ None → variable_within n table t p ≡ []
  no_struct zero t p e = refl
  no_struct (suc n) t p e = ap (stated_in (variable_within n table) p) e

  pub no_last : (n t : ℕ) (ms : List Field) (p : List ℕ) → struct_of (type_at table t) ≡ Some ms → last_field ms ≡ None → variable_within n table t p ≡ []
  no_last zero t ms p e f = refl
  no_last (suc n) t ms p e f = ap (stated_in (variable_within n table) p) e ∙ ap (stated_by_last (variable_within n table) p ms) f
