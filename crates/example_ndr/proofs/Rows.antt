-- The worked examples.
use Rattle.std.proofs.Common.{◌≡◌, ℕ, ◌<◌, ◌≤◌, Some, None, [], refl, subst, inl, arith}
use Rattle.std.specs.Prelude.{pos}
use Rattle.nd_types.specs.declared.types.Class.TheVariants.{Ref}
use Rattle.nd_types.specs.Roots.{roots_of}
use Rattle.nd_value.specs.declared.item.Home.TheVariants as home
use Rattle.nd_value.specs.declared.misfit.MisfitReason.TheVariants as misfit
use Rattle.nd_value.specs.declared.value.Graph.{Graph}
use Rattle.nd_value.specs.Setting.{Setting, cell_home}
use Rattle.nd_value.specs.Deferral.{Pending}
use Rattle.nd_value.specs.Conforms.{Conforms, Reached, by_root, IsFirstMisfit, is_local, is_disagreeing}
use Rattle.nd_value.specs.Canon.{Same}
use Rattle.nd_value.proofs.Misfits.{passed_conforms}
use Rattle.example_ndr.specs.Graphs.{sized, other_size, said, zero_within, sized_back, two_back, asked, sized_by_own, one_back, asked_by_pointer, ring_of_one, ring_of_two}

abbrev root_pointer : ℕ → Pending
root_pointer to = record { home = home.Root 0; node = 0; class = Ref; to = to; cell = Some 1; agreements = [] }

no_cells : (w : Setting) (g : Graph) (c : ℕ) → 0 < c → c ≤ 0 → Reached w g c
no_cells w g c low high = absurd (omega (arith, low, high))

pub disagrees : IsFirstMisfit sized other_size (record { home = cell_home 1; node = 2; reason = misfit.Disagrees (pos 3) (pos 2) })
unfolding roots_of
disagrees = is_disagreeing _ refl refl
    (λ c low high. subst (Reached sized other_size) (omega (arith, low, high)) (by_root {c = 1} (root_pointer 13) (inl refl) refl)) refl

pub zero : IsFirstMisfit said zero_within (record { home = cell_home 1; node = 0; reason = misfit.Zero })
unfolding roots_of
zero = is_local _ refl

pub size_free : Conforms (sized_back None) two_back
unfolding roots_of
size_free = passed_conforms (sized_back None) two_back refl refl (no_cells (sized_back None) two_back) refl refl (omega arith) (omega arith, tt)

pub size_agrees : Conforms (sized_back (Some (asked (pos 2)))) two_back
unfolding roots_of
size_agrees =
    passed_conforms (sized_back (Some (asked (pos 2)))) two_back refl refl (no_cells (sized_back (Some (asked (pos 2)))) two_back) refl refl (omega arith) (omega arith, tt)

pub size_disagrees : IsFirstMisfit (sized_back (Some (asked (pos 3)))) two_back (record { home = home.Root 0; node = 0; reason = misfit.Disagrees (pos 3) (pos 2) })
unfolding roots_of
size_disagrees = is_disagreeing _ refl refl (no_cells (sized_back (Some (asked (pos 3)))) two_back) refl

pub own_size : Conforms (sized_by_own (Some asked_by_pointer)) one_back
unfolding roots_of
own_size =
    passed_conforms (sized_by_own (Some asked_by_pointer)) one_back refl refl
    (λ c low high. subst (Reached (sized_by_own (Some asked_by_pointer)) one_back) (omega (arith, low, high)) (by_root {c = 1} (root_pointer 8) (inl refl) refl))
    refl refl (omega arith) (omega arith, (omega arith, (omega arith, tt)))

pub rings_differ : ¬ Same ring_of_one ring_of_two
rings_differ s = let e : 1 ≡ 2 = s.as_many in absurd (omega (arith, e))
