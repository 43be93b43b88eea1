-- Endings of walks that files and their texts decide, and those that they decide with what is reported of failed loads.
use Rattle.std.specs.Prelude.{◌≡◌, ℕ, Bool, true, false, List, Option}
use Rattle.idl_scope.specs.declared.name_fault.NameFault.TheVariants as fault
use Rattle.idl_names.specs.Walk as walk
use Rattle.idl_names.specs.Walk.{State, Due, Ending, Done, Stopped, Walk}

-- Memory was not wanting, and no load failed.
abbrev pub is_decided : Ending → Bool
is_decided (Done s) = true
is_decided (Stopped sources fault.Memory) = false
is_decided (Stopped sources (fault.Failed file)) = false
is_decided (Stopped sources _) = true

-- A walk from there ends so, and memory was not wanting, and no load failed.
pub record HasEnding (held : Option (List ℕ → Option (List ℕ))) (s : State) (dues : List Due) : Type 0 where
  pub ending : Ending
  pub decided : is_decided ending ≡ true
  pub walk : Walk held s dues ending

-- ## Where it is told which loads fail

-- Memory was not wanting.
abbrev pub has_memory : Ending → Bool
has_memory (Done s) = true
has_memory (Stopped sources fault.Memory) = false
has_memory (Stopped sources _) = true

-- The loads of a walk that fail are those of the names that pass the test.
abbrev pub FailsAs : (fails : List ℕ → Bool) → {held : Option (List ℕ → Option (List ℕ))} {s : State} {dues : List Due} {e : Ending}
    → Walk held s dues e → Type 0
FailsAs fails (walk.all_done s) = Unit {0}
FailsAs fails (walk.goes_on s file step k rest e is w) = FailsAs fails w
FailsAs fails (walk.faults s file step f rest is) = Unit {0}
FailsAs fails (walk.ends s file t rest e w) = FailsAs fails w
FailsAs fails (walk.cycle s place name rest n known not_done) = Unit {0}
FailsAs fails (walk.again s place name rest e n known done w) = FailsAs fails w
FailsAs fails (walk.too_many s place name rest new full) = Unit {0}
FailsAs fails (walk.absent s place name rest due missing) = fails name ≡ false
FailsAs fails (walk.failed s place name rest due) = fails name ≡ true
FailsAs fails (walk.uncut s place name rest text at kind due content is) = fails name ≡ false
FailsAs fails (walk.no_file s place name rest text at f due content is) = fails name ≡ false
FailsAs fails (walk.enters s place name rest e text t due content is w) = (fails name ≡ false) × FailsAs fails w
FailsAs fails (walk.short s rest) = Unit {0}
FailsAs fails (walk.short_in_load s place name rest due) = Unit {0}
FailsAs fails (walk.short_after_load s place name rest text due content) = Unit {0}

-- A walk from there ends so, memory was not wanting, and these loads failed.
pub record HasToldEnding (held : Option (List ℕ → Option (List ℕ))) (fails : List ℕ → Bool) (s : State) (dues : List Due) : Type 0 where
  pub ending : Ending
  pub memory : has_memory ending ≡ true
  pub walk : Walk held s dues ending
  pub fails_as : FailsAs fails walk
