-- Names as texts.
use Rattle.std.proofs.Common.{◌≡◌, ◌↔◌, inl, inr, ℕ, Bool, true, false, not, IsTrue, List, [], ◌∷◌, map, Option, Some, None, is_some, unwrap_or, encode_utf8_all, bytes_eq, refl, ap, sym, ◌∙◌, subst, true≢false}
use Rattle.std.specs.List.{list_any}
use Rattle.std.specs.Char.Utf16.{utf16_chars, has_unpaired_surrogate, utf16_lossy_chars}
use Rattle.std.proofs.lemmas.Slice.Eq.{bytes_eq-Decides}
use Rattle.wv_classes.specs.Refusal.{IsTextOf}

-- characters of which none is missing
all-there : (found : List (Option ℕ)) → list_any (λ o. not (is_some o)) found ≡ false → found ≡ map Some (map (λ o. unwrap_or o 0xFFFD) found)
all-there [] e = refl
all-there (None ∷ found) e = absurd (true≢false e)
all-there (Some c ∷ found) e = ap (λ rest. Some c ∷ rest) (all-there found e)

none-missing : (characters : List ℕ) → list_any (λ o. not (is_some o)) (map Some characters) ≡ false
none-missing [] = refl
none-missing (c ∷ characters) = none-missing characters

known : (characters : List ℕ) → map (λ o. unwrap_or o 0xFFFD) (map Some characters) ≡ characters
known [] = refl
known (c ∷ characters) = ap (λ rest. c ∷ rest) (known characters)

-- a name without a lone surrogate is the text that it spells
pub spelled : (units text spelling : List ℕ) (b : Bool) → false ≡ has_unpaired_surrogate units → spelling ≡ encode_utf8_all (utf16_lossy_chars units) → b ≡ bytes_eq spelling text → IsTrue b ↔ IsTextOf units text
spelled units text spelling b paired is test = (
  λ t. (utf16_lossy_chars units, all-there (utf16_chars units) (sym paired), sym ((bytes_eq-Decides spelling text).0 (sym test ∙ t)) ∙ is),
  λ (characters, told, same). test ∙ (bytes_eq-Decides spelling text).1 (is ∙ ap encode_utf8_all (ap (map (λ o. unwrap_or o 0xFFFD)) told ∙ known characters) ∙ sym same),
)

-- a name with a lone surrogate is no text
pub unspelled : (units text : List ℕ) → true ≡ has_unpaired_surrogate units → IsTrue false ↔ IsTextOf units text
unspelled units text lone = (
  λ t. absurd (true≢false (sym t)),
  λ (characters, told, same). absurd (true≢false (lone ∙ ap (list_any (λ o. not (is_some o))) told ∙ none-missing characters)),
)
