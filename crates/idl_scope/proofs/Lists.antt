-- Lists of members and parameters, by their table.
use Rattle.std.proofs.Common.{◌≡◌, ℕ, Bool, true, false, cond, refl, ap, ◌∙◌, List, [], ◌∷◌, ◌++◌, Some, None, option_map}
use Rattle.std.proofs.lemmas.List.{map-append}
use Rattle.std.specs.Str.{bytes_eq}
use Rattle.nd_base.specs.declared.octets.Place.{Place}
use Rattle.idl_scope.specs.Known.{found, put, place_in_list}
use Rattle.idl_scope.specs.Kept.{spelled, listed}
use Rattle.idl_scope.proofs.Tables.{put_new}

abbrev pub at_octet : ℕ → ℕ → Place
at_octet file at = record { file = file; at = at }

pub place_is : (file : ℕ) (es : List (List ℕ × ℕ)) (name : List ℕ) → place_in_list file (listed es) name ≡ option_map (at_octet file) (found name es)
place_is file [] name = refl
place_is file (e ∷ es) name = by (bytes_eq name e.0) (place_is file es name)
  where
    by : (b : Bool) → place_in_list file (listed es) name ≡ option_map (at_octet file) (found name es)
        → cond b (Some (at_octet file e.1)) (place_in_list file (listed es) name) ≡ option_map (at_octet file) (cond b (Some e.1) (found name es))
    by true more = refl
    by false more = more

pub listed_new : (es : List (List ℕ × ℕ)) (name : List ℕ) (at : ℕ) → found name es ≡ None → listed (put es name at) ≡ listed es ++ spelled (name, at) ∷ []
listed_new es name at none = ap listed (put_new es name at none) ∙ map-append spelled es ((name, at) ∷ [])
