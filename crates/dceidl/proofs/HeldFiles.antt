-- What files that are held mean, and how what a command speaks of is refused where no load fails.
use Rattle.std.proofs.Common.{◌≡◌, ℕ, List, Option, Some, None, refl, sym, ◌∙◌, ap, subst, inl, inr, ◌⊎◌}
use Rattle.std.specs.List.{slice_get}
use Rattle.std.specs.Prelude.{option_map, true, false}
use Rattle.std.proofs.lemmas.Option.{same_Some}
use Rattle.idl_grammar.specs.Files.{Idl}
use Rattle.nd_base.specs.Over.{IsContent, IsMissing, loaded, FilesOver, HasRisen}
use Rattle.nd_types.specs.declared.interface.Interface.{Interface}
use Rattle.nd_types.specs.declared.types.Operation.{Operation}
use Rattle.nd_types.specs.declared.types.Side.{Side}
use Rattle.nd_types.specs.Roots.{operation_named}
use Rattle.nd_value.specs.Setting.{Setting}
use Rattle.nd_value.specs.Fitting.{setting_of}
use Rattle.nd_types.specs.Meant.{Meant}
use Rattle.nd_types.specs.Meant.{meant_by}
use Rattle.command_refusals.specs.declared.refusal.IdlReason.{IdlReason}
use Rattle.command_refusals.specs.declared.refusal.Refusal.{Refusal}
use Rattle.command_refusals.specs.declared.refusal.Refusal.TheVariants.{Memory, Absent, FileFailed, BadIdl, NoOperation, ReadFault, BadOctets, BadText, BadValue, TooLong, BadRequest, BadLabel}
use Rattle.command_refusals.specs.declared.refusal.Refusal.TheVariants.{ShortLabel, TooFewEnds, EndFailed}
use Rattle.command_refusals.specs.declared.refusal.Refusal.TheVariants.{BadPdu, NotCompatible, BadScript, LongScript}
use Rattle.command_line.specs.Words.{Subject}
use Rattle.command_compile.specs.Idl.{Means, IsIdlFault, IsDueAfter, IsDueFile}
use Rattle.dceidl.specs.Ready.{IsNamed, IsReady, IsReadyCause}
use Rattle.command_compile.specs.Compiled.{IsCompiled, IsIdlCause}
use Rattle.dceidl.specs.Held.{IsHeld, MustBeNoIdl}
use Rattle.dceidl.specs.Rows.{IsAccepted, MustBeUnready}
use Rattle.command_compile.proofs.OneMeaning.{IsBad, means_one, never_both, one_bad, absent_or_means, absent_or_bad}

abbrev Contents : Type 0
Contents = Option (List ℕ → Option (List ℕ))

-- only the held file can have been loaded
pub held_only : (f : FilesOver) (name file other : List ℕ) → IsHeld f name file → IsContent f.held name other → other ≡ file
held_only f name file other (held, told, there) content =
    let loaded_is : option_map loaded (held name) ≡ Some other = subst (λ h. IsContent h name other) told content in
    same_Some _ _ (sym loaded_is ∙ there)

-- and it is not absent
pub held_there : (f : FilesOver) (name file : List ℕ) → IsHeld f name file → IsMissing f.held name → ⊥
held_there f name file (held, told, there) missing =
    let gone : held name ≡ None = subst (λ h. IsMissing h name) told missing in
    let none : Some file ≡ None = sym there ∙ ap (option_map loaded) gone in
    cc

-- The main file is held: what its files mean, and how they are refused.
module _ (f : FilesOver) (idl : Idl) (text : List ℕ) (acf : Option (List ℕ)) (held : IsHeld f idl.name text) where
  -- they mean one interface, as far as it is read from them
  pub one_meaning : (i j : Interface) → Means f.held idl text acf i → Means f.held idl text acf j → meant_by i ≡ meant_by j
  one_meaning i j x y =
      means_one held.0 idl text acf i j (subst (λ (h : Contents). Means h idl text acf i) held.1 x) (subst (λ (h : Contents). Means h idl text acf j) held.1 y)

  fault_or_meaning : {B : Type 0} (i : Interface) (r : Refusal) → IsBad r → Means f.held idl text acf i → IsIdlFault f.held idl text acf r → B
  fault_or_meaning i r bad x y =
      never_both held.0 idl text acf i r bad (subst (λ (h : Contents). Means h idl text acf i) held.1 x) (subst (λ (h : Contents). IsIdlFault h idl text acf r) held.1 y)

  same_fault : (r r' : Refusal) → IsBad r → IsBad r' → IsIdlFault f.held idl text acf r → IsIdlFault f.held idl text acf r' → r ≡ r'
  same_fault r r' bad bad' x y =
      one_bad held.0 idl text acf r r' bad bad' (subst (λ (h : Contents). IsIdlFault h idl text acf r) held.1 x) (subst (λ (h : Contents). IsIdlFault h idl text acf r') held.1 y)

  -- where a file that is due is missing they mean nothing, and are refused at no line and column
  absent_meaning : {B : Type 0} (file : List ℕ) (i : Interface) → IsDueFile f.held idl acf file → IsMissing f.held file → Means f.held idl text acf i → B
  absent_meaning file i (inl is) missing x = absurd (held_there f idl.name text held (subst (IsMissing f.held) is missing))
  absent_meaning file i (inr (other, content, due)) missing x =
      let own : IsDueAfter f.held idl text acf file = subst (λ t. IsDueAfter f.held idl t acf file) (held_only f idl.name text other held content) due in
      absent_or_means held.0 idl text acf file i
      (subst (λ (h : Contents). IsDueAfter h idl text acf file) held.1 own)
      (subst (λ (h : Contents). IsMissing h file) held.1 missing)
      (subst (λ (h : Contents). Means h idl text acf i) held.1 x)

  absent_fault : {B : Type 0} (file : List ℕ) (r : Refusal) → IsBad r → IsDueFile f.held idl acf file → IsMissing f.held file → IsIdlFault f.held idl text acf r → B
  absent_fault file r bad (inl is) missing x = absurd (held_there f idl.name text held (subst (IsMissing f.held) is missing))
  absent_fault file r bad (inr (other, content, due)) missing x =
      let own : IsDueAfter f.held idl text acf file = subst (λ t. IsDueAfter f.held idl t acf file) (held_only f idl.name text other held content) due in
      absent_or_bad held.0 idl text acf file r bad
      (subst (λ (h : Contents). IsDueAfter h idl text acf file) held.1 own)
      (subst (λ (h : Contents). IsMissing h file) held.1 missing)
      (subst (λ (h : Contents). IsIdlFault h idl text acf r) held.1 x)

  -- what was loaded and means an interface is this file
  pub means_here : (i : Interface) → IsCompiled f idl acf i → Means f.held idl text acf i
  means_here i c = subst (λ t. Means f.held idl t acf i) (held_only f idl.name text c.file held c.loaded) c.means

  fault_here : (r : Refusal) (other : List ℕ) → IsContent f.held idl.name other → IsIdlFault f.held idl other acf r → IsIdlFault f.held idl text acf r
  fault_here r other content x = subst (λ t. IsIdlFault f.held idl t acf r) (held_only f idl.name text other held content) x

-- interfaces of one meaning have the same operations by name and number
pub same_number : (i j : Interface) (op : List ℕ) (n m : ℕ) (o q : Operation) → meant_by i ≡ meant_by j → IsNamed i op n o → IsNamed j op m q → n ≡ m
same_number i j op n m o q e x y = same_Some _ _ (sym x.found ∙ ap (λ (z : Meant). operation_named z.operations op) e ∙ y.found)

same_operation : (i j : Interface) (op : List ℕ) (n m : ℕ) (o q : Operation) → meant_by i ≡ meant_by j → IsNamed i op n o → IsNamed j op m q → o ≡ q
same_operation i j op n m o q e x y =
    same_Some _ _
    (sym x.is_there ∙ ap (λ (z : Meant). slice_get z.operations n) e ∙ ap (slice_get j.operations) (same_number i j op n m o q e x y) ∙ y.is_there)

unknown_or_named : {B : Type 0} (i j : Interface) (op : List ℕ) (n : ℕ) (o : Operation) → meant_by i ≡ meant_by j → operation_named i.operations op ≡ None → IsNamed j op n o → B
unknown_or_named i j op n o e none named =
    let gone : None ≡ Some n = sym none ∙ ap (λ (z : Meant). operation_named z.operations op) e ∙ named.found in
    absurd (cc)

-- ## The files of a command

module _ (f : FilesOver) (idl : Idl) (acf : Option (List ℕ)) (loads : HasRisen f.faults → ⊥) where
  -- files that mean an interface are not refused
  pub compiled_cause : (text : List ℕ) (i : Interface) → IsHeld f idl.name text → Means f.held idl text acf i → (r : Refusal) → IsIdlCause f idl acf r → r ≡ Memory
  compiled_cause text i held means Memory cause = refl
  compiled_cause text i held means (Absent file) (rose, due, missing) = absent_meaning f idl text acf held file i due missing means
  compiled_cause text i held means (FileFailed file) (rose, due) = absurd (loads rose)
  compiled_cause text i held means (BadIdl a b c d) (other, content, x) =
      fault_or_meaning f idl text acf held i (BadIdl a b c d) tt means (fault_here f idl text acf held (BadIdl a b c d) other content x)
  compiled_cause text i held means NoOperation cause = absurd cause
  compiled_cause text i held means (TooLong many) cause = absurd cause
  compiled_cause text i held means ReadFault cause = absurd cause
  compiled_cause text i held means (BadOctets place why) cause = absurd cause
  compiled_cause text i held means (BadText line column reason) cause = absurd cause
  compiled_cause text i held means (BadValue path reason) cause = absurd cause
  compiled_cause text i held means (BadRequest fault) cause = absurd cause
  compiled_cause text i held means (BadLabel fault) cause = absurd cause
  compiled_cause text i held means ShortLabel cause = absurd cause
  compiled_cause text i held means (TooFewEnds wanted found) cause = absurd cause
  compiled_cause text i held means (EndFailed which) cause = absurd cause
  compiled_cause text i held means (BadPdu spot because) cause = absurd cause
  compiled_cause text i held means (NotCompatible differing) cause = absurd cause
  compiled_cause text i held means (BadScript row) cause = absurd cause
  compiled_cause text i held means LongScript cause = absurd cause

  -- files that are refused mean no interface, and are refused in one way
  pub no_idl : (r : Refusal) → MustBeNoIdl f idl acf r → (i : Interface) → IsCompiled f idl acf i → ⊥
  no_idl (BadIdl a b c d) (text, held, fault) i compiled =
      fault_or_meaning f idl text acf held i (BadIdl a b c d) tt (means_here f idl text acf held i compiled) fault
  no_idl Memory must i compiled = absurd must
  no_idl (Absent other) must i compiled = absurd must
  no_idl (FileFailed other) must i compiled = absurd must
  no_idl NoOperation must i compiled = absurd must
  no_idl (TooLong many) must i compiled = absurd must
  no_idl ReadFault must i compiled = absurd must
  no_idl (BadOctets place why) must i compiled = absurd must
  no_idl (BadText line column reason) must i compiled = absurd must
  no_idl (BadValue path reason) must i compiled = absurd must
  no_idl (BadRequest fault) must i compiled = absurd must
  no_idl (BadLabel fault) must i compiled = absurd must
  no_idl ShortLabel must i compiled = absurd must
  no_idl (TooFewEnds wanted found) must i compiled = absurd must
  no_idl (EndFailed which) must i compiled = absurd must
  no_idl (BadPdu spot because) must i compiled = absurd must
  no_idl (NotCompatible differing) must i compiled = absurd must
  no_idl (BadScript row) must i compiled = absurd must
  no_idl LongScript must i compiled = absurd must

  only_bad : (file : List ℕ) (line column : ℕ) (why : IdlReason) → MustBeNoIdl f idl acf (BadIdl file line column why) → (r : Refusal) → IsIdlCause f idl acf r
      → (r ≡ Memory) ⊎ (r ≡ BadIdl file line column why)
  only_bad file line column why must Memory cause = inl refl
  only_bad file line column why (text, held, fault) (BadIdl a b c d) (other, content, x) =
      inr (same_fault f idl text acf held (BadIdl a b c d) (BadIdl file line column why) tt tt (fault_here f idl text acf held (BadIdl a b c d) other content x) fault)
  only_bad file line column why (text, held, fault) (Absent name) (rose, due, missing) = absent_fault f idl text acf held name (BadIdl file line column why) tt due missing fault
  only_bad file line column why must (FileFailed name) (rose, due) = absurd (loads rose)
  only_bad file line column why must NoOperation cause = absurd cause
  only_bad file line column why must (TooLong many) cause = absurd cause
  only_bad file line column why must ReadFault cause = absurd cause
  only_bad file line column why must (BadOctets place because) cause = absurd cause
  only_bad file line column why must (BadText row at reason) cause = absurd cause
  only_bad file line column why must (BadValue path reason) cause = absurd cause
  only_bad file line column why must (BadRequest fault) cause = absurd cause
  only_bad file line column why must (BadLabel fault) cause = absurd cause
  only_bad file line column why must ShortLabel cause = absurd cause
  only_bad file line column why must (TooFewEnds wanted found) cause = absurd cause
  only_bad file line column why must (EndFailed which) cause = absurd cause
  only_bad file line column why must (BadPdu spot because) cause = absurd cause
  only_bad file line column why must (NotCompatible differing) cause = absurd cause
  only_bad file line column why must (BadScript row) cause = absurd cause
  only_bad file line column why must LongScript cause = absurd cause

  pub no_idl_cause : (r : Refusal) → MustBeNoIdl f idl acf r → (q : Refusal) → IsIdlCause f idl acf q → (q ≡ Memory) ⊎ (q ≡ r)
  no_idl_cause (BadIdl a b c d) must q cause = only_bad a b c d must q cause
  no_idl_cause Memory must q cause = absurd must
  no_idl_cause (Absent other) must q cause = absurd must
  no_idl_cause (FileFailed other) must q cause = absurd must
  no_idl_cause NoOperation must q cause = absurd must
  no_idl_cause (TooLong many) must q cause = absurd must
  no_idl_cause ReadFault must q cause = absurd must
  no_idl_cause (BadOctets place why) must q cause = absurd must
  no_idl_cause (BadText line column reason) must q cause = absurd must
  no_idl_cause (BadValue path reason) must q cause = absurd must
  no_idl_cause (BadRequest fault) must q cause = absurd must
  no_idl_cause (BadLabel fault) must q cause = absurd must
  no_idl_cause ShortLabel must q cause = absurd must
  no_idl_cause (TooFewEnds wanted found) must q cause = absurd must
  no_idl_cause (EndFailed which) must q cause = absurd must
  no_idl_cause (BadPdu spot because) must q cause = absurd must
  no_idl_cause (NotCompatible differing) must q cause = absurd must
  no_idl_cause (BadScript row) must q cause = absurd must
  no_idl_cause LongScript must q cause = absurd must

-- ## What a command on values speaks of

module _ (f : FilesOver) (of : Subject) where
  -- what is accepted is ready in one way
  pub one_setting : (w v : Setting) → IsAccepted f of w → IsReady f of v → v ≡ w
  one_setting w v a r =
      r.setting_is ∙ same (ap (λ (z : Meant). z.types) meant) (same_operation r.interface a.interface of.op r.number a.number r.operation a.operation meant r.found.named a.named) ∙ sym a.setting_is
    where
      meant : meant_by r.interface ≡ meant_by a.interface
      meant = one_meaning f of.idl a.file of.acf a.held r.interface a.interface (means_here f of.idl a.file of.acf a.held r.interface r.found.compiled) a.means

      same : r.interface.types ≡ a.interface.types → r.operation ≡ a.operation
          → ◌≡◌ {A = Setting} (setting_of r.interface r.operation of.side) (setting_of a.interface a.operation of.side)
      same x y = λ k. record { table = x k; op = y k; side = of.side; given = None }

  module _ (loads : HasRisen f.faults → ⊥) where
    -- and it is not refused
    pub accepted_cause : (w : Setting) → IsAccepted f of w → (r : Refusal) → IsReadyCause f of r → r ≡ Memory
    accepted_cause w a NoOperation (j, compiled, none) =
        unknown_or_named j a.interface of.op a.number a.operation
        (one_meaning f of.idl a.file of.acf a.held j a.interface (means_here f of.idl a.file of.acf a.held j compiled) a.means) none a.named
    accepted_cause w a Memory cause = compiled_cause f of.idl of.acf loads a.file a.interface a.held a.means Memory cause
    accepted_cause w a (Absent other) cause = compiled_cause f of.idl of.acf loads a.file a.interface a.held a.means (Absent other) cause
    accepted_cause w a (FileFailed other) cause = compiled_cause f of.idl of.acf loads a.file a.interface a.held a.means (FileFailed other) cause
    accepted_cause w a (BadIdl file line column reason) cause = compiled_cause f of.idl of.acf loads a.file a.interface a.held a.means (BadIdl file line column reason) cause
    accepted_cause w a ReadFault cause = compiled_cause f of.idl of.acf loads a.file a.interface a.held a.means ReadFault cause
    accepted_cause w a (BadOctets place why) cause = compiled_cause f of.idl of.acf loads a.file a.interface a.held a.means (BadOctets place why) cause
    accepted_cause w a (BadText line column reason) cause = compiled_cause f of.idl of.acf loads a.file a.interface a.held a.means (BadText line column reason) cause
    accepted_cause w a (BadValue path reason) cause = compiled_cause f of.idl of.acf loads a.file a.interface a.held a.means (BadValue path reason) cause
    accepted_cause w a (TooLong many) cause = compiled_cause f of.idl of.acf loads a.file a.interface a.held a.means (TooLong many) cause
    accepted_cause w a (BadRequest fault) cause = compiled_cause f of.idl of.acf loads a.file a.interface a.held a.means (BadRequest fault) cause
    accepted_cause w a (BadLabel fault) cause = compiled_cause f of.idl of.acf loads a.file a.interface a.held a.means (BadLabel fault) cause
    accepted_cause w a ShortLabel cause = compiled_cause f of.idl of.acf loads a.file a.interface a.held a.means ShortLabel cause
    accepted_cause w a (TooFewEnds wanted found) cause = compiled_cause f of.idl of.acf loads a.file a.interface a.held a.means (TooFewEnds wanted found) cause
    accepted_cause w a (EndFailed which) cause = compiled_cause f of.idl of.acf loads a.file a.interface a.held a.means (EndFailed which) cause
    accepted_cause w a (BadPdu spot because) cause = compiled_cause f of.idl of.acf loads a.file a.interface a.held a.means (BadPdu spot because) cause
    accepted_cause w a (NotCompatible differing) cause = compiled_cause f of.idl of.acf loads a.file a.interface a.held a.means (NotCompatible differing) cause
    accepted_cause w a (BadScript row) cause = compiled_cause f of.idl of.acf loads a.file a.interface a.held a.means (BadScript row) cause
    accepted_cause w a LongScript cause = compiled_cause f of.idl of.acf loads a.file a.interface a.held a.means LongScript cause

    -- what is refused is not ready
    pub unready : (r : Refusal) → MustBeUnready f of r → (w : Setting) → IsReady f of w → ⊥
    unready NoOperation (text, i, held, means, none) w ready =
        unknown_or_named i ready.interface of.op ready.number ready.operation
        (one_meaning f of.idl text of.acf held i ready.interface means (means_here f of.idl text of.acf held ready.interface ready.found.compiled)) none ready.found.named
    unready Memory must w ready = no_idl f of.idl of.acf loads Memory must ready.interface ready.found.compiled
    unready (Absent other) must w ready = no_idl f of.idl of.acf loads (Absent other) must ready.interface ready.found.compiled
    unready (FileFailed other) must w ready = no_idl f of.idl of.acf loads (FileFailed other) must ready.interface ready.found.compiled
    unready (BadIdl file line column reason) must w ready = no_idl f of.idl of.acf loads (BadIdl file line column reason) must ready.interface ready.found.compiled
    unready ReadFault must w ready = no_idl f of.idl of.acf loads ReadFault must ready.interface ready.found.compiled
    unready (BadOctets place why) must w ready = no_idl f of.idl of.acf loads (BadOctets place why) must ready.interface ready.found.compiled
    unready (BadText line column reason) must w ready = no_idl f of.idl of.acf loads (BadText line column reason) must ready.interface ready.found.compiled
    unready (BadValue path reason) must w ready = no_idl f of.idl of.acf loads (BadValue path reason) must ready.interface ready.found.compiled
    unready (TooLong many) must w ready = no_idl f of.idl of.acf loads (TooLong many) must ready.interface ready.found.compiled
    unready (BadRequest fault) must w ready = no_idl f of.idl of.acf loads (BadRequest fault) must ready.interface ready.found.compiled
    unready (BadLabel fault) must w ready = no_idl f of.idl of.acf loads (BadLabel fault) must ready.interface ready.found.compiled
    unready ShortLabel must w ready = no_idl f of.idl of.acf loads ShortLabel must ready.interface ready.found.compiled
    unready (TooFewEnds wanted found) must w ready = no_idl f of.idl of.acf loads (TooFewEnds wanted found) must ready.interface ready.found.compiled
    unready (EndFailed which) must w ready = no_idl f of.idl of.acf loads (EndFailed which) must ready.interface ready.found.compiled
    unready (BadPdu spot because) must w ready = no_idl f of.idl of.acf loads (BadPdu spot because) must ready.interface ready.found.compiled
    unready (NotCompatible differing) must w ready = no_idl f of.idl of.acf loads (NotCompatible differing) must ready.interface ready.found.compiled
    unready (BadScript row) must w ready = no_idl f of.idl of.acf loads (BadScript row) must ready.interface ready.found.compiled
    unready LongScript must w ready = no_idl f of.idl of.acf loads LongScript must ready.interface ready.found.compiled

    -- an interface without the operation is refused as that alone
    only_unknown : MustBeUnready f of NoOperation → (r : Refusal) → IsReadyCause f of r → (r ≡ Memory) ⊎ (r ≡ NoOperation)
    only_unknown must NoOperation cause = inr refl
    only_unknown (text, i, held, means, none) Memory cause = inl (compiled_cause f of.idl of.acf loads text i held means Memory cause)
    only_unknown (text, i, held, means, none) (Absent other) cause = inl (compiled_cause f of.idl of.acf loads text i held means (Absent other) cause)
    only_unknown (text, i, held, means, none) (FileFailed other) cause = inl (compiled_cause f of.idl of.acf loads text i held means (FileFailed other) cause)
    only_unknown (text, i, held, means, none) (BadIdl file line column reason) cause = inl (compiled_cause f of.idl of.acf loads text i held means (BadIdl file line column reason) cause)
    only_unknown (text, i, held, means, none) ReadFault cause = inl (compiled_cause f of.idl of.acf loads text i held means ReadFault cause)
    only_unknown (text, i, held, means, none) (BadOctets place why) cause = inl (compiled_cause f of.idl of.acf loads text i held means (BadOctets place why) cause)
    only_unknown (text, i, held, means, none) (BadText line column reason) cause = inl (compiled_cause f of.idl of.acf loads text i held means (BadText line column reason) cause)
    only_unknown (text, i, held, means, none) (BadValue path reason) cause = inl (compiled_cause f of.idl of.acf loads text i held means (BadValue path reason) cause)
    only_unknown (text, i, held, means, none) (TooLong many) cause = inl (compiled_cause f of.idl of.acf loads text i held means (TooLong many) cause)
    only_unknown (text, i, held, means, none) (BadRequest fault) cause = inl (compiled_cause f of.idl of.acf loads text i held means (BadRequest fault) cause)
    only_unknown (text, i, held, means, none) (BadLabel fault) cause = inl (compiled_cause f of.idl of.acf loads text i held means (BadLabel fault) cause)
    only_unknown (text, i, held, means, none) ShortLabel cause = inl (compiled_cause f of.idl of.acf loads text i held means ShortLabel cause)
    only_unknown (text, i, held, means, none) (TooFewEnds wanted found) cause = inl (compiled_cause f of.idl of.acf loads text i held means (TooFewEnds wanted found) cause)
    only_unknown (text, i, held, means, none) (EndFailed which) cause = inl (compiled_cause f of.idl of.acf loads text i held means (EndFailed which) cause)
    only_unknown (text, i, held, means, none) (BadPdu spot because) cause = inl (compiled_cause f of.idl of.acf loads text i held means (BadPdu spot because) cause)
    only_unknown (text, i, held, means, none) (NotCompatible differing) cause = inl (compiled_cause f of.idl of.acf loads text i held means (NotCompatible differing) cause)
    only_unknown (text, i, held, means, none) (BadScript row) cause = inl (compiled_cause f of.idl of.acf loads text i held means (BadScript row) cause)
    only_unknown (text, i, held, means, none) LongScript cause = inl (compiled_cause f of.idl of.acf loads text i held means LongScript cause)

    only_no_idl : (r : Refusal) → MustBeNoIdl f of.idl of.acf r → (q : Refusal) → IsReadyCause f of q → (q ≡ Memory) ⊎ (q ≡ r)
    only_no_idl r must NoOperation (i, compiled, none) = absurd (no_idl f of.idl of.acf loads r must i compiled)
    only_no_idl r must Memory cause = no_idl_cause f of.idl of.acf loads r must Memory cause
    only_no_idl r must (Absent other) cause = no_idl_cause f of.idl of.acf loads r must (Absent other) cause
    only_no_idl r must (FileFailed other) cause = no_idl_cause f of.idl of.acf loads r must (FileFailed other) cause
    only_no_idl r must (BadIdl file line column reason) cause = no_idl_cause f of.idl of.acf loads r must (BadIdl file line column reason) cause
    only_no_idl r must ReadFault cause = no_idl_cause f of.idl of.acf loads r must ReadFault cause
    only_no_idl r must (BadOctets place why) cause = no_idl_cause f of.idl of.acf loads r must (BadOctets place why) cause
    only_no_idl r must (BadText line column reason) cause = no_idl_cause f of.idl of.acf loads r must (BadText line column reason) cause
    only_no_idl r must (BadValue path reason) cause = no_idl_cause f of.idl of.acf loads r must (BadValue path reason) cause
    only_no_idl r must (TooLong many) cause = no_idl_cause f of.idl of.acf loads r must (TooLong many) cause
    only_no_idl r must (BadRequest fault) cause = no_idl_cause f of.idl of.acf loads r must (BadRequest fault) cause
    only_no_idl r must (BadLabel fault) cause = no_idl_cause f of.idl of.acf loads r must (BadLabel fault) cause
    only_no_idl r must ShortLabel cause = no_idl_cause f of.idl of.acf loads r must ShortLabel cause
    only_no_idl r must (TooFewEnds wanted found) cause = no_idl_cause f of.idl of.acf loads r must (TooFewEnds wanted found) cause
    only_no_idl r must (EndFailed which) cause = no_idl_cause f of.idl of.acf loads r must (EndFailed which) cause
    only_no_idl r must (BadPdu spot because) cause = no_idl_cause f of.idl of.acf loads r must (BadPdu spot because) cause
    only_no_idl r must (NotCompatible differing) cause = no_idl_cause f of.idl of.acf loads r must (NotCompatible differing) cause
    only_no_idl r must (BadScript row) cause = no_idl_cause f of.idl of.acf loads r must (BadScript row) cause
    only_no_idl r must LongScript cause = no_idl_cause f of.idl of.acf loads r must LongScript cause

    -- it is refused in one way
    pub unready_cause : (r : Refusal) → MustBeUnready f of r → (q : Refusal) → IsReadyCause f of q → (q ≡ Memory) ⊎ (q ≡ r)
    unready_cause NoOperation must q cause = only_unknown must q cause
    unready_cause Memory must q cause = only_no_idl Memory must q cause
    unready_cause (Absent other) must q cause = only_no_idl (Absent other) must q cause
    unready_cause (FileFailed other) must q cause = only_no_idl (FileFailed other) must q cause
    unready_cause (BadIdl file line column reason) must q cause = only_no_idl (BadIdl file line column reason) must q cause
    unready_cause ReadFault must q cause = only_no_idl ReadFault must q cause
    unready_cause (BadOctets place why) must q cause = only_no_idl (BadOctets place why) must q cause
    unready_cause (BadText line column reason) must q cause = only_no_idl (BadText line column reason) must q cause
    unready_cause (BadValue path reason) must q cause = only_no_idl (BadValue path reason) must q cause
    unready_cause (TooLong many) must q cause = only_no_idl (TooLong many) must q cause
    unready_cause (BadRequest fault) must q cause = only_no_idl (BadRequest fault) must q cause
    unready_cause (BadLabel fault) must q cause = only_no_idl (BadLabel fault) must q cause
    unready_cause ShortLabel must q cause = only_no_idl ShortLabel must q cause
    unready_cause (TooFewEnds wanted found) must q cause = only_no_idl (TooFewEnds wanted found) must q cause
    unready_cause (EndFailed which) must q cause = only_no_idl (EndFailed which) must q cause
    unready_cause (BadPdu spot because) must q cause = only_no_idl (BadPdu spot because) must q cause
    unready_cause (NotCompatible differing) must q cause = only_no_idl (NotCompatible differing) must q cause
    unready_cause (BadScript row) must q cause = only_no_idl (BadScript row) must q cause
    unready_cause LongScript must q cause = only_no_idl LongScript must q cause
