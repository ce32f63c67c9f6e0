-- The first `L` of a part of a descriptor.
use Rattle.std.proofs.Common.{◌≡◌, ◌==◌, ℕ, suc, ◌+◌, ◌<◌, ◌≤◌, Bool, true, false, cond, List, [], ◌∷◌, length, get_or, drop, refl, ap, sym, ◌∙◌, subst, add-one, arith}
use Rattle.std.proofs.Math.Seq.{drop-cons}
use Rattle.wv_form.specs.NamedClasses.{behind_l}

-- the units behind a place
units-at : (part : List ℕ) (i : ℕ) → i < length part → drop i part ≡ get_or part i 0 ∷ drop (i + 1) part
units-at part i inside = rw (add-one, drop-cons part i 0)

behind-by : ℕ → List ℕ → Bool → List (List ℕ)
behind-by unit units is = cond is (units ∷ []) (behind_l units)

-- the unit at the place is another one
pub not-here : (part : List ℕ) (i : ℕ) → i < length part → (get_or part i 0 == 76) ≡ false → behind_l part ≡ behind_l (drop i part) → behind_l part ≡ behind_l (drop (i + 1) part)
unfolding behind-by
not-here part i inside other so_far =
    so_far ∙ ap behind_l (units-at part i inside) ∙ ap (behind-by (get_or part i 0) (drop (i + 1) part)) other

-- it is the first `L`
pub found-here : (part : List ℕ) (i : ℕ) → i < length part → (get_or part i 0 == 76) ≡ true → behind_l part ≡ behind_l (drop i part) → behind_l part ≡ drop (i + 1) part ∷ []
unfolding behind-by
found-here part i inside is so_far =
    so_far ∙ ap behind_l (units-at part i inside) ∙ ap (behind-by (get_or part i 0) (drop (i + 1) part)) is
