-- Names as texts.
use Rattle.std.proofs.Common.{◌≡◌, inl, inr, ℕ, Bool, true, false, cond, List, Option, Some, None, encode_utf8_all, bytes_eq, refl, ap, sym, ◌∙◌, true≢false}
use Rattle.std.specs.Char.Utf16.{has_unpaired_surrogate, utf16_lossy_chars}
use Rattle.std.proofs.lemmas.Bool.{cases_Bool}
use Rattle.wv_classes.specs.Refusal.{IsTextOf}
use Rattle.wv_classes.proofs.Spelling.{spelled, unspelled}
use Rattle.wv_form.specs.Mention.{text_of_name}
use Rattle.wv_form.proofs.PlaceTables.{same-text, text-itself}

-- the text of a name whose surrogates have partners or not
text-by : List ℕ → Bool → Option (List ℕ)
text-by units lone = cond lone None (Some (encode_utf8_all (utf16_lossy_chars units)))

pub text-is : (units text : List ℕ) → text_of_name units ≡ Some text → IsTextOf units text
unfolding text-by
text-is units text e = elim (cases_Bool (has_unpaired_surrogate units)) [
  | inl lone ↦
      let none : None ≡ Some text = sym (ap (text-by units) lone) ∙ e in cc
  | inr paired ↦
      let some : Some (encode_utf8_all (utf16_lossy_chars units)) ≡ Some text = sym (ap (text-by units) paired) ∙ e in
      let same : encode_utf8_all (utf16_lossy_chars units) ≡ text = cc in
      (spelled units text (encode_utf8_all (utf16_lossy_chars units)) (bytes_eq (encode_utf8_all (utf16_lossy_chars units)) text) (sym paired) refl refl).0
      (text-itself (encode_utf8_all (utf16_lossy_chars units)) text same)
]

pub is-text : (units text : List ℕ) → IsTextOf units text → text_of_name units ≡ Some text
unfolding text-by
is-text units text h = elim (cases_Bool (has_unpaired_surrogate units)) [
  | inl lone ↦ absurd (true≢false (sym ((unspelled units text (sym lone)).1 h)))
  | inr paired ↦
      ap (text-by units) paired
      ∙ ap Some (same-text (encode_utf8_all (utf16_lossy_chars units)) text
      ((spelled units text (encode_utf8_all (utf16_lossy_chars units)) (bytes_eq (encode_utf8_all (utf16_lossy_chars units)) text) (sym paired) refl refl).1 h))
]
