-- A reading that fails makes those fail that begin with it.
use Rattle.std.proofs.Common.{◌≡◌, ap, sym, subst, ◌∙◌, Err}
use Rattle.idl_grammar.specs.declared.refusal.Refusal.{Refusal}
use Rattle.idl_grammar.specs.declared.refusal.Refusal.TheVariants as refusal
use Rattle.idl_grammar.specs.ReadPhrases.{Read}
use Rattle.idl_grammar.specs.Gives.{Fails}

pub fails_equal : {Y Z : Type 0} (f : Read Y → Read Z) → ((e : _) → f (Err e) ≡ Err e) → (x : Refusal) (r : Read Y) → Fails x r → Fails x (f r)
fails_equal f passes refusal.Memory r h = tt
fails_equal f passes (refusal.Syntax k) r h = ap f h ∙ passes _
fails_equal f passes (refusal.Deep k) r h = ap f h ∙ passes _
fails_equal f passes (refusal.Banned k) r h = ap f h ∙ passes _

pub fails_is : {Y : Type 0} (x : Refusal) (r s : Read Y) → r ≡ s → Fails x s → Fails x r
fails_is x r s e h = subst (λ (v : Read _). Fails x v) (sym e) h
