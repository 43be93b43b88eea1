-- Instances of the laws.
use Rattle.std.proofs.Common.{◌≡◌, ℕ, true, arith, refl, codes, List, [], ◌∷◌, ◌++◌, Option, Some, None}
use Rattle.idl_grammar.specs.declared.language.Language.{Language}
use Rattle.nd_base.specs.declared.octets.Place.{Place}
use Rattle.idl_scope.specs.declared.name_fault.NameFault.TheVariants as fault
use Rattle.idl_names.specs.Decided.{is_decided, has_memory, FailsAs}
use Rattle.idl_names.specs.Walk.{source, Load, Ending, Stopped, Walk, start}
use Rattle.idl_names.specs.Walk as walk
use Rattle.idl_names.proofs.Once.{one_ending, one_told_ending}

-- Where no file is held, an import ends each walk as absent.
pub nothing_held : (language : Language) (place : Place) (e : Ending) → is_decided e ≡ true → Walk (Some (λ name. None)) (start language []) (Load place (codes "a.idl") ∷ []) e
    → e ≡ Stopped (source (codes "a.idl") [] ∷ []) (fault.Absent 0)
nothing_held language place e d w =
    one_ending (λ name. None) d refl w (walk.absent (start language []) place (codes "a.idl") [] (record { new = refl; room = omega arith }) refl)

-- Where each load fails, an import ends each walk as failed.
pub load_fails : (language : Language) (place : Place) (e : Ending) → has_memory e ≡ true → (w : Walk (Some (λ name. None)) (start language []) (Load place (codes "a.idl") ∷ []) e)
    → FailsAs (λ name. true) w
    → e ≡ Stopped (source (codes "a.idl") [] ∷ []) (fault.Failed 0)
load_fails language place e h w f =
    one_told_ending (λ name. None) (λ name. true) h refl w (walk.failed (start language []) place (codes "a.idl") [] (record { new = refl; room = omega arith })) f refl

-- what the law of the walks that end names
pub ruleset one_import = (nothing_held, load_fails)
