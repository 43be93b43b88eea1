-- The machine values of a handle, and what it owns, made and taken apart. Assumes `Logic`.
use Rattle.std.proofs.Common.{◌≡◌, ℕ, ◌^◌, ◌<◌, List, [], ◌∷◌, ◌++◌, refl, subst, w64}
use seplogic.Ra.Ura.{Ura}
use mir.Val.{Val, vint, vstruct, vcons, vnil, of_list}
use types.Logic.{Logic, sem}
use types.Kit.{Item, Goal, Seq, Step, step, ‵, ◌$◌, drop, fsplit, fjoin, fpick, fpack, feq_i, feq_l}
use denote.RattleType.{RattleType, Valss}
use denote.Builtin.{RawPtr, usize}
use denote.Laws.{Is, shows}
use denote.Plain.{uint_Makes}
use denote.RawPtr.{Ptr, block_ptr, null_ptr, ptr_val, in_a_block}
use denote.Memory.{lone}
use base.Logic.{never, fst∗}
use mir.Raw.{raw as bare}
use denote.Steps.{nothing, owned, peeks}
use denote.Struct.Struct.{within}
use denote.Struct.Owning.{shape}
use Rattle.core.specs.declared.option.Option.{Option}
use Rattle.core.specs.declared.option.Option.TheVariants.{None, Some}
use Rattle.std_alloc.specs.Box.Ownership.{box_owns}
use Rattle.library_handles.specs.Owned.{heap_block, handle_owns}
use Rattle.library_handles.specs.contracts.held.Held as kept
use Rattle.library_handles.specs.contracts.handle.Handle as handle

abbrev pub H : RattleType
H = handle.the_row

abbrev pub two : Val → Val → Val
two u v = vstruct (vcons u (vcons v vnil))

module _ {M : Type 1} {𝓤 : Ura M} {𝓛 : Logic 𝓤} {K : Type 0} {Γ : List (Item 𝓤)} {G : Goal 𝓤 𝓛.H} where
  pub handle_in : K → (p : Ptr) (n : ℕ) (x : Option kept.the_row.Denot) → n < 2 ^ 64
      → Step K 𝓛 (‵ (H.own_val (record { at = p; full = n; value = x }) (two (ptr_val p) (vint w64 n) ∷ [])) ∷ Γ) G (‵ (handle_owns p n x) ∷ Γ) G
  handle_in t p n x low = step (λ s. let v : Val = two (ptr_val p) (vint w64 n) in
      nothing t $ owned t usize (Is usize) (uint_Makes 𝓛 w64) n (vint w64 n ∷ []) (refl, low) $ fjoin t $
      feq_i t (List Val) (ptr_val p ∷ []) (ptr_val p ∷ []) refl $ fjoin t $ feq_i t (List Val) (v ∷ []) (v ∷ []) refl $ fjoin t $
      fpack t (Valss (RawPtr ∷ usize ∷ [])) (within (shape handle.the_type) (p, (n, tt)) (v ∷ [])) (ptr_val p ∷ [], (vint w64 n ∷ [], tt)) $ fjoin t $ s)

  -- a handle is its two words, and what it holds
  pub handle_out : K → (d : H.Denot) (vs : List Val)
      → (vs ≡ two (ptr_val d.at) (vint w64 d.full) ∷ [] → d.full < 2 ^ 64 → Seq K 𝓛 (‵ (handle_owns d.at d.full d.value) ∷ Γ) G)
      → Seq K 𝓛 (‵ (H.own_val d vs) ∷ Γ) G
  handle_out t d vs k =
      fsplit t $ fpick t (λ vss. fsplit t $ feq_l t (λ ev. fsplit t $ feq_l t (λ ep. fsplit t $ peeks t usize (Is usize) (shows 𝓛 usize) d.full vss.1.0 (λ i. drop t $ drop t $
      k (subst (λ (ws : List Val). vs ≡ vstruct (of_list (ptr_val d.at ∷ (ws ++ []))) ∷ []) i.0
      (subst (λ (ps : List Val). vs ≡ vstruct (of_list (ps ++ (vss.1.0 ++ []))) ∷ []) ep ev)) i.1))))

  -- it holds nothing, or a box
  pub either_held : K → (p : Ptr) (n : ℕ) (v : Option kept.the_row.Denot) → (v ≡ None → n ≡ 0 → Seq K 𝓛 Γ G)
      → ((b o : ℕ) (x : kept.the_row.Denot) → p ≡ block_ptr b o → v ≡ Some x → n ≡ 1 → Seq K 𝓛 (‵ (box_owns heap_block kept.the_row (block_ptr b o) x) ∷ Γ) G)
      → Seq K 𝓛 (‵ (handle_owns p n v) ∷ Γ) G
  either_held t p n None kn ks = fsplit t $ feq_l t (λ e. drop t $ kn refl e)
  either_held t p n (Some x) kn ks = fsplit t $ feq_l t (λ e.
      in_a_block t p (λ q. box_owns heap_block kept.the_row q x) (fst∗ 𝓤 (never 𝓤) (sem 𝓛 (heap_block (bare (lone (kept.the_row).mir)) null_ptr))) (λ b o eb. ks b o x eb refl e))
