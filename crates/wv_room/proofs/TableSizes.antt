-- What fits has a spelling of that size, and what is spelled fits.
use Rattle.std.proofs.Common.{◌≡◌, ℕ, zero, suc, ◌+◌, ◌*◌, ◌-◌, ◌/◌, ◌^◌, ◌<◌, ◌≤◌, arith, subst, refl, inl, inr}
use Rattle.std.proofs.lemmas.Bool.{cases_lt}
use Rattle.wv_room.specs.Tables.{TablesFill, TablesTake, bytes, attribute, attributes, ranges}

pub record Reaches (b a t r n : ℕ) : Type 0 where
  pub more : ℕ
  pub size : n ≡ more + (b + 6 * a + 2 * t + 2 * r)
  pub takes : TablesTake a t r more

-- what is spelled fits
pub reached : {b a t r n : ℕ} → TablesFill b a t r n → Reaches b a t r n
reached bytes = record { more = 0; size = omega arith; takes = record { gap = λ _ h. absurd (omega arith); eights = λ _. omega arith; most = λ _. omega arith } }
reached (attribute k h f) = let s = reached f in record { more = s.more + k; size = omega (arith, s.size); takes = record { gap = λ no. absurd (omega arith); eights = λ no. absurd (omega arith); most = λ no. absurd (omega arith) } }
reached {a = a} (attributes {t = t} {r = r} k h f) = let s = reached f in record { more = s.more + 6 * k; size = omega (arith, s.size); takes = record { gap = λ e l. grind (arith, s.takes.gap); eights = λ no. absurd (omega arith); most = λ no. absurd (omega arith) } }
reached (ranges k h f) = let s = reached f in record { more = s.more + 8 * k; size = omega (arith, s.size); takes = record { gap = λ e l. grind (arith, s.takes.gap); eights = λ e. omega (arith, s.takes.eights e); most = λ e. omega (arith, s.takes.eights e, s.takes.most e) } }

sized : {b a t r m n : ℕ} → m ≡ n → TablesFill b a t r m → TablesFill b a t r n
sized {b = b} {a = a} {t = t} {r = r} e f = subst (λ (k : ℕ). TablesFill b a t r k) e f

-- each item in its least form
least : (b a t r : ℕ) → TablesFill b a t r (b + 6 * a + 2 * t + 2 * r)
least b zero zero zero = sized (omega arith) bytes
least b zero zero (suc r) = sized (omega arith) (ranges 0 (omega arith) (least (b + 2 + 8 * 0) 0 0 r))
least b zero (suc t) r = sized (omega arith) (attributes 0 (omega arith) (least (b + 2) 0 t r))
least b (suc a) t r = sized (omega arith) (attribute 0 (omega arith) (least (b + 6 + 0) a t r))

one_attribute : {b a t r n : ℕ} → TablesFill (b + 2) (suc a) t r n → TablesFill b a (suc t) r n
one_attribute {b = b} {a = a} {t = t} {r = r} {n = n} f = attributes 1 (omega arith) (subst (λ (k : ℕ). TablesFill (b + 2) k t r n) (omega arith) f)

-- so many ranges in so many tables
ranged : (b r k : ℕ) → k ≤ 65535 * r → TablesFill b 0 0 r (8 * k + (b + 2 * r))
ranged b zero k h = sized (omega arith) bytes
ranged b (suc r) k h = elim (cases_lt k 65536) [
  | inl lt ↦ sized (omega arith) (ranges k lt (least (b + 2 + 8 * k) 0 0 r))
  | inr le ↦ sized (omega arith) (ranges 65535 (omega arith) (ranged (b + 2 + 8 * 65535) r (k - 65535) (omega arith)))
]

filled : (b a t r more : ℕ) → more < 2 ^ 32 → TablesTake a t r more → TablesFill b a t r (more + (b + 6 * a + 2 * t + 2 * r))
filled b (suc a) t r more h takes = sized (omega arith) (attribute more h (least (b + 6 + more) a t r))
filled b zero (suc t) r zero h takes = sized (omega arith) (least b 0 (suc t) r)
filled b zero (suc t) r (suc more) h takes = let long : 6 ≤ suc more = takes.gap refl (omega arith) in
    sized (omega arith) (one_attribute (attribute (suc more - 6) (omega arith) (least (b + 2 + 6 + (suc more - 6)) 0 t r)))
filled b zero zero r more h takes = sized (omega (arith, takes.eights (omega arith))) (ranged b r (more / 8) (takes.most (omega arith)))

-- what fits has a spelling of that size
pub spelled : {b a t r n : ℕ} → n < 2 ^ 32 → Reaches b a t r n → TablesFill b a t r n
spelled {b = b} {a = a} {t = t} {r = r} h s = sized (omega (arith, s.size)) (filled b a t r s.more (omega (arith, s.size)) s.takes)
