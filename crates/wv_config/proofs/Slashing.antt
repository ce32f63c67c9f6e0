-- A text whose dots become slashes is a text: a character below 128 is one byte, and each byte of another is 128 or more.
use Rattle.std.proofs.Common.{◌≡◌, ℕ, ◌<◌, ◌≤◌, ◌++◌, ◌∷◌, [], ◌&&◌, List, true, refl, sym, ap, ◌∙◌, arith, inl, inr}
use Rattle.std.specs.Str.{IsUtf8}
use Rattle.std.proofs.Math.Utf8.{scalar, scalars, encode, encodes, scalar_cases, low_scalar}
use Rattle.std.proofs.str.Laws.{Shape, of1, of2, of3, of4, shape, one, both, order}
use Rattle.wv_config.specs.Slashes.{with_slash, with_slashes}

low : (byte : ℕ) → byte < 128 → with_slash byte < 128
low byte below = grind arith

high : (byte : ℕ) → 128 ≤ byte → with_slash byte ≡ byte
high byte above = grind arith

slashes-append : (xs ys : List ℕ) → with_slashes (xs ++ ys) ≡ with_slashes xs ++ with_slashes ys
slashes-append [] ys = refl
slashes-append (x ∷ xs) ys = ap (λ l. with_slash x ∷ l) (slashes-append xs ys)

wide : (c : ℕ) (bytes : List ℕ) → 128 ≤ c → encode c ≡ bytes → with_slashes bytes ≡ bytes → with_slashes (encode c) ≡ encode (with_slash c)
wide c bytes above spelled same = ap with_slashes spelled ∙ same ∙ sym spelled ∙ ap encode (sym (high c above))

long : (c : ℕ) → 128 ≤ c → Shape c → with_slashes (encode c) ≡ encode (with_slash c)
long c above (of1 h e) = absurd (omega arith)
long c above (of2 a b p q u v e) = wide c _ above e (λ i. high a (omega arith) i ∷ high b u.0 i ∷ [])
long c above (of3 a b d p q u u' v e) = wide c _ above e (λ i. high a (omega arith) i ∷ high b u.0 i ∷ high d u'.0 i ∷ [])
long c above (of4 a b d k p q u u' u'' v e) = wide c _ above e (λ i. high a (omega arith) i ∷ high b u.0 i ∷ high d u'.0 i ∷ high k u''.0 i ∷ [])

character : (c : ℕ) → Shape c → with_slashes (encode c) ≡ encode (with_slash c)
character c spelled = elim (order c 128) [
  | inl below ↦ ap with_slashes (one c below) ∙ sym (one (with_slash c) (low c below))
  | inr above ↦ long c above spelled
]

stays : (c : ℕ) → scalar c ≡ true → scalar (with_slash c) ≡ true
stays c is = elim (order c 128) [
  | inl below ↦ let still = low c below in low_scalar (with_slash c) (omega arith)
  | inr above ↦ ap scalar (high c above) ∙ is
]

characters : (cs : List ℕ) → scalars cs ≡ true → (scalars (with_slashes cs) ≡ true) × (encodes (with_slashes cs) ≡ with_slashes (encodes cs))
characters [] are = (refl, refl)
characters (c ∷ cs) are =
    let each = both (scalar c) (scalars cs) are in
    let rest = characters cs each.1 in
    (ap (λ y. y && scalars (with_slashes cs)) (stays c each.0) ∙ rest.0, (λ i. sym (character c (shape c (scalar_cases c each.0))) i ++ rest.1 i) ∙ sym (slashes-append (encode c) (encodes cs)))

pub stays_utf8 : (text : List ℕ) → IsUtf8 text → IsUtf8 (with_slashes text)
stays_utf8 text is = let slashed = characters is.0 is.1.0 in (with_slashes is.0, (slashed.0, slashed.1 ∙ ap with_slashes is.1.1))
