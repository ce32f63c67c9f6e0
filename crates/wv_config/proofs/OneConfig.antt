-- The values of an object's keys are one configuration.
use Rattle.std.proofs.Common.{◌≡◌, ℕ, ℤ, pos, negsuc, Bool, List, [], ◌∷◌, map, Option, Some, None, refl, sym, ◌∙◌, ap, subst}
use Rattle.std.specs.Prelude.{codes}
use Rattle.serde_json.specs.Data.{Data, string}
use Rattle.serde_json.specs.Find.{get, of_integer}
use Rattle.serde_json.specs.View.{items_of}
use Rattle.wv_json.specs.Kind.{IsText, IsTexts, IsNumber, IsBoolean}
use Rattle.wv_config.specs.declared.config.Config.{Config}
use Rattle.wv_config.specs.Slashes.{with_slashes, IsInSlashes, AreInSlashes}
use Rattle.wv_config.specs.Stands.{IsThere, IsOrElse, IsThereOrNone, IsWithin}
use Rattle.wv_config.specs.Config.{IsConfigOf, IsConfig}
use Rattle.wv_config.proofs.Refusals.{same_object}

one_text : (value : Data) (x y : List ℕ) → IsText value x → IsText value y → x ≡ y
one_text value x y a b = cc

same_items : (xs ys : List (List ℕ)) → items_of (map string xs) ≡ items_of (map string ys) → xs ≡ ys
same_items [] [] e = refl
same_items [] (y ∷ ys) e = cc
same_items (x ∷ xs) [] e = cc
same_items (x ∷ xs) (y ∷ ys) e =
    let first : x ≡ y = cc in
    let rest : items_of (map string xs) ≡ items_of (map string ys) = cc in
    λ i. first i ∷ same_items xs ys rest i

one_list : (value : Data) (xs ys : List (List ℕ)) → IsTexts value xs → IsTexts value ys → xs ≡ ys
one_list value xs ys a b =
    let items : items_of (map string xs) ≡ items_of (map string ys) = cc in same_items xs ys items

same_integer : (x y : ℤ) → of_integer x ≡ of_integer y → x ≡ y
same_integer (pos n) (pos m) e = cc
same_integer (pos n) (negsuc m) e = cc
same_integer (negsuc n) (pos m) e = cc
same_integer (negsuc n) (negsuc m) e = cc

one_number : (value : Data) (x y : ℤ) → IsNumber value x → IsNumber value y → x ≡ y
one_number value x y a b =
    let number_x = a.0 in
    let number_y = b.0 in
    let same : of_integer x ≡ of_integer y = cc in same_integer x y same

one_boolean : (value : Data) (x y : Bool) → IsBoolean value x → IsBoolean value y → x ≡ y
one_boolean value x y a b = cc

module _ {A : Type 0} (OfKind : Data → A → Type 0) (one : (value : Data) (x y : A) → OfKind value x → OfKind value y → x ≡ y) where
  one_there : (found : Option Data) (x y : A) → IsThere OfKind found x → IsThere OfKind found y → x ≡ y
  one_there None x y a b = absurd a
  one_there (Some value) x y a b = one value x y a b

  one_or_none : (found : Option Data) (x y : Option A) → IsThereOrNone OfKind found x → IsThereOrNone OfKind found y → x ≡ y
  one_or_none None None None a b = refl
  one_or_none None None (Some y) a b = absurd b
  one_or_none None (Some x) y a b = absurd a
  one_or_none (Some value) None y a b = absurd a
  one_or_none (Some value) (Some x) None a b = absurd b
  one_or_none (Some value) (Some x) (Some y) a b = ap Some (one value x y a b)

  one_or_else : (default : A) (found : Option Data) (x y : A) → IsOrElse OfKind default found x → IsOrElse OfKind default found y → x ≡ y
  one_or_else default None x y a b = a ∙ sym b
  one_or_else default (Some value) x y a b = one value x y a b

  one_within : (default : A) (key : List ℕ) (found : Option Data) (x y : A) → IsWithin (IsOrElse OfKind default) key found x → IsWithin (IsOrElse OfKind default) key found y → x ≡ y
  one_within default key None x y a b = a ∙ sym b
  one_within default key (Some value) x y a b = one_or_else default (get key value) x y a.1 b.1

one_slashed : (IsRead : List ℕ → Type 0) → ((x y : List ℕ) → IsRead x → IsRead y → x ≡ y) → (x y : List ℕ) → IsInSlashes IsRead x → IsInSlashes IsRead y → x ≡ y
one_slashed IsRead one x y a b = a.2 ∙ ap with_slashes (one a.0 b.0 a.1 b.1) ∙ sym b.2

all_slashed : (IsRead : List (List ℕ) → Type 0) → ((x y : List (List ℕ)) → IsRead x → IsRead y → x ≡ y) → (x y : List (List ℕ)) → AreInSlashes IsRead x → AreInSlashes IsRead y → x ≡ y
all_slashed IsRead one x y a b = a.2 ∙ ap (map with_slashes) (one a.0 b.0 a.1 b.1) ∙ sym b.2

same_values : (value : Data) (x y : Config) → IsConfigOf value x → IsConfigOf value y → x ≡ y
same_values value x y a b =
    let in_package = one_slashed _ (one_there IsText one_text _) x.«package» y.«package» a.in_package b.in_package in
    let mixins = all_slashed _ (one_or_else IsTexts one_list [] _) x.mixins y.mixins a.mixins b.mixins in
    let client = all_slashed _ (one_or_else IsTexts one_list [] _) x.client y.client a.client b.client in
    let server = all_slashed _ (one_or_else IsTexts one_list [] _) x.server y.server a.server b.server in
    let refmap = one_or_none IsText one_text _ x.refmap y.refmap a.refmap b.refmap in
    let priority = one_or_else IsNumber one_number _ _ x.priority y.priority a.priority b.priority in
    let mixin_priority = one_or_else IsNumber one_number _ _ x.mixin_priority y.mixin_priority a.mixin_priority b.mixin_priority in
    let default_require = one_within IsNumber one_number _ (codes "defaultRequire") _ x.default_require y.default_require a.default_require b.default_require in
    let require_annotations = one_within IsBoolean one_boolean _ (codes "requireAnnotations") _ x.require_annotations y.require_annotations a.require_annotations b.require_annotations in
    λ i. record {
      «package» = in_package i;
      mixins = mixins i;
      client = client i;
      server = server i;
      refmap = refmap i;
      priority = priority i;
      mixin_priority = mixin_priority i;
      default_require = default_require i;
      require_annotations = require_annotations i;
    }

pub same_config : (bytes : List ℕ) (config other : Config) → IsConfig bytes config → IsConfig bytes other → config ≡ other
same_config bytes config other is is' =
    same_values is'.value config other (subst (λ v. IsConfigOf v config) (same_object bytes is.value is'.value is.text is'.text) is.values) is'.values
