-- Allowed numbers of two and of four bytes.
use Rattle.std.proofs.Common.{◌≡◌, ℕ, zero, suc, ◌*◌, ◌^◌, ◌<◌, List, [], ◌∷◌, length, get_or, refl, sym, ap, subst, ◌∙◌, arith}
use Rattle.std.specs.Int.{w16, w32, from_be_bytes}
use Rattle.std.proofs.lemmas.Nat.{be_bytes_2, be_bytes_4}
use Rattle.wv_room.specs.Number.{number_of}
use Rattle.wv_pool.specs.Entries.{number_bytes}
use Rattle.wv_code.specs.Content.{length_bytes}
use Rattle.wv_code.proofs.Numbers.{AreBytes, below, digits_of}
use Rattle.wv_class.specs.Numbers.{SpellsAllowed}

one_by_one : (bytes : List ℕ) → AreBytes bytes → (i : ℕ) → get_or bytes i 0 < 256
one_by_one [] h i = omega arith
one_by_one (b ∷ bytes) h zero = h.0
one_by_one (b ∷ bytes) h (suc i) = one_by_one bytes h.1 i

two_value : (text : List ℕ) → length text ≡ 2 → number_of text ≡ from_be_bytes w16 text
two_value [] e = absurd (omega arith)
two_value (a ∷ []) e = absurd (omega arith)
two_value (a ∷ b ∷ []) e = omega arith
two_value (a ∷ b ∷ c ∷ text) e = absurd (omega arith)

four_value : (text : List ℕ) → length text ≡ 4 → number_of text ≡ from_be_bytes w32 text
four_value [] e = absurd (omega arith)
four_value (a ∷ []) e = absurd (omega arith)
four_value (a ∷ b ∷ []) e = absurd (omega arith)
four_value (a ∷ b ∷ c ∷ []) e = absurd (omega arith)
four_value (a ∷ b ∷ c ∷ d ∷ []) e = omega arith
four_value (a ∷ b ∷ c ∷ d ∷ f ∷ text) e = absurd (omega arith)

module _ (allows : ℕ → Type 0) (near n : ℕ) (text : List ℕ) where
  pub two_is : SpellsAllowed 2 allows near n text → (n < 2 ^ 16) × (text ≡ number_bytes n)
  two_is s =
      let b : number_of text < 256 ^ length text = below text s.small in
      let c : number_of text < 256 ^ 2 = subst (λ (k : ℕ). number_of text < 256 ^ k) s.wide b in
      (omega (arith, c, s.spelled), sym (be_bytes_2 text n s.wide (one_by_one text s.small) (s.spelled ∙ two_value text s.wide)))

  pub is_two : n < 2 ^ 16 → text ≡ number_bytes n → allows n → SpellsAllowed 2 allows near n text
  is_two lt e is =
      let d = digits_of 2 n (omega (arith, lt)) in
      let same : number_bytes n ≡ d.text = be_bytes_2 d.text n d.long (one_by_one d.text d.bytes) (sym d.spelled ∙ two_value d.text d.long) in
      subst (λ (t : List ℕ). SpellsAllowed 2 allows near n t) (sym (e ∙ same)) (record { wide = d.long; small = d.bytes; spelled = sym d.spelled; allowed = is })

  pub four_is : SpellsAllowed 4 allows near n text → (n < 2 ^ 32) × (text ≡ length_bytes n)
  four_is s =
      let b : number_of text < 256 ^ length text = below text s.small in
      let c : number_of text < 256 ^ 4 = subst (λ (k : ℕ). number_of text < 256 ^ k) s.wide b in
      (omega (arith, c, s.spelled), sym (be_bytes_4 text n s.wide (one_by_one text s.small) (s.spelled ∙ four_value text s.wide)))

  pub is_four : n < 2 ^ 32 → text ≡ length_bytes n → allows n → SpellsAllowed 4 allows near n text
  is_four lt e is =
      let d = digits_of 4 n (omega (arith, lt)) in
      let same : length_bytes n ≡ d.text = be_bytes_4 d.text n d.long (one_by_one d.text d.bytes) (sym d.spelled ∙ four_value d.text d.long) in
      subst (λ (t : List ℕ). SpellsAllowed 4 allows near n t) (sym (e ∙ same)) (record { wide = d.long; small = d.bytes; spelled = sym d.spelled; allowed = is })
