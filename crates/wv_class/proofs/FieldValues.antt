-- Which constants fit the fields with a descriptor.
use Rattle.std.proofs.Common.{◌≡◌, ℕ, Bool, true, false, List, [], ◌∷◌, codes, refl, sym, subst, ap, ◌∙◌, ◌↔◌, ◌⊎◌, inl, inr, arith, rules, tests}
use Rattle.std.specs.Prelude.{◌==◌, ◌||◌, ℤ, IsTrue}
use Rattle.wv_base.specs.declared.constant.Const.{Const}
use Rattle.wv_base.specs.declared.constant.Const.TheVariants as constants
use Rattle.wv_class.specs.Breaks.{FitsField}
use Rattle.wv_class.specs.Breaks as breaks
use Rattle.wv_class.specs.FieldValue.{is_small}

is_float : (d : List ℕ) (bits : ℕ) → FitsField d (constants.Float bits) → d ≡ codes "F"
is_float d bits breaks.float = refl

pub float_fits : (d : List ℕ) (bits : ℕ) → (d ≡ codes "F") ↔ FitsField d (constants.Float bits)
float_fits d bits = ((λ e. subst (λ t. FitsField t (constants.Float bits)) (sym e) breaks.float), is_float d bits)

is_long : (d : List ℕ) (value : ℤ) → FitsField d (constants.Long value) → d ≡ codes "J"
is_long d value breaks.long = refl

pub long_fits : (d : List ℕ) (value : ℤ) → (d ≡ codes "J") ↔ FitsField d (constants.Long value)
long_fits d value = ((λ e. subst (λ t. FitsField t (constants.Long value)) (sym e) breaks.long), is_long d value)

is_double : (d : List ℕ) (bits : ℕ) → FitsField d (constants.Double bits) → d ≡ codes "D"
is_double d bits breaks.double = refl

pub double_fits : (d : List ℕ) (bits : ℕ) → (d ≡ codes "D") ↔ FitsField d (constants.Double bits)
double_fits d bits = ((λ e. subst (λ t. FitsField t (constants.Double bits)) (sym e) breaks.double), is_double d bits)

is_string : (d text : List ℕ) → FitsField d (constants.String text) → d ≡ codes "Ljava/lang/String;"
is_string d text breaks.string = refl

pub string_fits : (d text : List ℕ) → (d ≡ codes "Ljava/lang/String;") ↔ FitsField d (constants.String text)
string_fits d text = ((λ e. subst (λ t. FitsField t (constants.String text)) (sym e) breaks.string), is_string d text)

int_small : (d : List ℕ) (value : ℤ) → FitsField d (constants.Integer value) → is_small d ≡ true
int_small d value breaks.boolean = refl
int_small d value breaks.byte = refl
int_small d value breaks.char = refl
int_small d value breaks.short = refl
int_small d value breaks.int = refl

or_is : (a b : Bool) → (a || b) ≡ true → (a ≡ true) ⊎ (b ≡ true)
or_is true b e = inl refl
or_is false b e = inr e

nat_is : (a b : ℕ) → (a == b) ≡ true → a ≡ b
nat_is a b e = search (rules, tests)

at_letter : (letter known : ℕ) (value : ℤ) → (letter == known) ≡ true → FitsField (known ∷ []) (constants.Integer value) → FitsField (letter ∷ []) (constants.Integer value)
at_letter letter known value e fits = subst (λ (n : ℕ). FitsField (n ∷ []) (constants.Integer value)) (sym (nat_is letter known e)) fits

small_int : (d : List ℕ) (value : ℤ) → is_small d ≡ true → FitsField d (constants.Integer value)
small_int [] value e = absurd cc
small_int (letter ∷ other ∷ d) value e = absurd cc
small_int (letter ∷ []) value e =
    elim (or_is (letter == 66 || letter == 67 || letter == 73 || letter == 83) (letter == 90) e) [
      | inr z ↦ at_letter letter 90 value z breaks.boolean
      | inl others ↦ elim (or_is (letter == 66 || letter == 67 || letter == 73) (letter == 83) others) [
        | inr s ↦ at_letter letter 83 value s breaks.short
        | inl others ↦ elim (or_is (letter == 66 || letter == 67) (letter == 73) others) [
          | inr i ↦ at_letter letter 73 value i breaks.int
          | inl others ↦ elim (or_is (letter == 66) (letter == 67) others) [
            | inl b ↦ at_letter letter 66 value b breaks.byte
            | inr c ↦ at_letter letter 67 value c breaks.char
          ]
        ]
      ]
    ]

pub small_fits : (d : List ℕ) (value : ℤ) → IsTrue (is_small d) ↔ FitsField d (constants.Integer value)
small_fits d value = (small_int d value, int_small d value)
