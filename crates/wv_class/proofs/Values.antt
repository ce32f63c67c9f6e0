-- The values that fields can have.
use Rattle.std.proofs.Common.{◌≡◌, ◌↔◌, ℕ, ℤ, Bool, List, refl, sym, subst, inl, inr, ◌⊎◌}
use Rattle.std.specs.Prelude.{IsTrue, codes}
use Rattle.wv_base.specs.declared.constant.Const.{Const}
use Rattle.wv_base.specs.declared.constant.Const.TheVariants as constants
use Rattle.wv_class.specs.Breaks.{FitsField, boolean, byte, char, short, int, float, long, double, string}
use Rattle.wv_class.specs.Checking.{IsSmallInt}

-- the descriptors of a constant's fields are these
on_descriptors : {A : List ℕ → Type 0} (c : Const) (d : List ℕ) (r : Bool) → ((d : List ℕ) → A d → FitsField d c) → ((d : List ℕ) → FitsField d c → A d) → IsTrue r ↔ A d → IsTrue r ↔ FitsField d c
on_descriptors c d r to from h = (λ t. to d (h.0 t), λ f. h.1 (from d f))

pub fits_int : (r : Bool) (d : List ℕ) (value : ℤ) → IsTrue r ↔ IsSmallInt d → IsTrue r ↔ FitsField d (constants.Integer value)
fits_int r d value h = on_descriptors {A = IsSmallInt} (constants.Integer value) d r to from h
  where
    to : (d : List ℕ) → IsSmallInt d → FitsField d (constants.Integer value)
    to d (inl e) = subst (λ (z : List ℕ). FitsField z (constants.Integer value)) (sym e) boolean
    to d (inr (inl e)) = subst (λ (z : List ℕ). FitsField z (constants.Integer value)) (sym e) byte
    to d (inr (inr (inl e))) = subst (λ (z : List ℕ). FitsField z (constants.Integer value)) (sym e) char
    to d (inr (inr (inr (inl e)))) = subst (λ (z : List ℕ). FitsField z (constants.Integer value)) (sym e) short
    to d (inr (inr (inr (inr e)))) = subst (λ (z : List ℕ). FitsField z (constants.Integer value)) (sym e) int

    from : (d : List ℕ) → FitsField d (constants.Integer value) → IsSmallInt d
    from d boolean = inl refl
    from d byte = inr (inl refl)
    from d char = inr (inr (inl refl))
    from d short = inr (inr (inr (inl refl)))
    from d int = inr (inr (inr (inr refl)))

pub fits_float : (r : Bool) (d : List ℕ) (bits : ℕ) → IsTrue r ↔ (d ≡ codes "F") → IsTrue r ↔ FitsField d (constants.Float bits)
fits_float r d bits h = on_descriptors {A = λ z. z ≡ codes "F"} (constants.Float bits) d r (λ z e. subst (λ (y : List ℕ). FitsField y (constants.Float bits)) (sym e) float) from h
  where
    from : (d : List ℕ) → FitsField d (constants.Float bits) → d ≡ codes "F"
    from d float = refl

pub fits_long : (r : Bool) (d : List ℕ) (value : ℤ) → IsTrue r ↔ (d ≡ codes "J") → IsTrue r ↔ FitsField d (constants.Long value)
fits_long r d value h = on_descriptors {A = λ z. z ≡ codes "J"} (constants.Long value) d r (λ z e. subst (λ (y : List ℕ). FitsField y (constants.Long value)) (sym e) long) from h
  where
    from : (d : List ℕ) → FitsField d (constants.Long value) → d ≡ codes "J"
    from d long = refl

pub fits_double : (r : Bool) (d : List ℕ) (bits : ℕ) → IsTrue r ↔ (d ≡ codes "D") → IsTrue r ↔ FitsField d (constants.Double bits)
fits_double r d bits h = on_descriptors {A = λ z. z ≡ codes "D"} (constants.Double bits) d r (λ z e. subst (λ (y : List ℕ). FitsField y (constants.Double bits)) (sym e) double) from h
  where
    from : (d : List ℕ) → FitsField d (constants.Double bits) → d ≡ codes "D"
    from d double = refl

pub fits_string : (r : Bool) (d text : List ℕ) → IsTrue r ↔ (d ≡ codes "Ljava/lang/String;") → IsTrue r ↔ FitsField d (constants.String text)
fits_string r d text h = on_descriptors {A = λ z. z ≡ codes "Ljava/lang/String;"} (constants.String text) d r (λ z e. subst (λ (y : List ℕ). FitsField y (constants.String text)) (sym e) string) from h
  where
    from : (d : List ℕ) → FitsField d (constants.String text) → d ≡ codes "Ljava/lang/String;"
    from d string = refl
