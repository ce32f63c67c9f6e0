-- Which item comes first in what fits.
use Rattle.std.proofs.Common.{◌≡◌, ◌≢◌, ℕ, zero, suc, ◌+◌, ◌-◌, ◌*◌, ◌%◌, ◌<◌, ◌≤◌, Bool, true, false, cond, refl, sym, subst, ◌∙◌, ◌⊎◌, inl, inr, arith}
use Rattle.std.specs.Prelude.{nat_le, ◌==◌}
use Rattle.std.proofs.lemmas.Bool.{cases_lt, cases_Bool, and_parts, and_from, leb-true, le-leb, eqb-true, eqb-false, eq-eqb}
use Rattle.wv_room.specs.declared.frames.Frames.{Frames}
use Rattle.wv_room.specs.Frames.{FramesFill, FramesTake, most_more, bytes, plain, numbered, list, same, same_with_one, extended_with_one, chop, append, full}
use Rattle.wv_room.proofs.FrameSizes.{reached, spelled}
use Rattle.wv_frames.specs.Reading.{fits_in}

abbrev pub Fit : Frames → ℕ → Type 0
Fit p n = FramesFill p.bytes p.types p.lists p.frames n

-- ---- the test

picked : (b x y : Bool) → cond b x y ≡ true → ((b ≡ true) × (x ≡ true)) ⊎ ((b ≡ false) × (y ≡ true))
picked true x y e = inl (refl, e)
picked false x y e = inr (refl, e)

pick : (b x y : Bool) → (b ≡ true → x ≡ true) → (b ≡ false → y ≡ true) → cond b x y ≡ true
pick true x y f g = f refl
pick false x y f g = g refl

-- the last part of the test: either items take any number but one, or types alone an even number
last_true : (some more most : ℕ) → cond (some == 0) (more % 2 == 0) (cond (more + 1 == most) false true) ≡ true → (1 ≤ some → more + 1 ≢ most) × (some ≡ 0 → more % 2 ≡ 0)
last_true some more most e = elim (picked (some == 0) (more % 2 == 0) (cond (more + 1 == most) false true) e) [
  | inl z ↦ let is : some ≡ 0 = eqb-true some 0 z.0 in (λ lt. absurd (omega arith), λ _. eqb-true (more % 2) 0 z.1)
  | inr z ↦ (λ lt. gap z.1, λ none. absurd (eqb-false some 0 z.0 none))
]
  where
    gap : cond (more + 1 == most) false true ≡ true → more + 1 ≢ most
    gap f = elim (picked (more + 1 == most) false true f) [
      | inl z ↦ absurd (let never : false ≡ true = z.1 in cc)
      | inr z ↦ eqb-false (more + 1) most z.0
    ]

true_last : (some more most : ℕ) → (1 ≤ some → more + 1 ≢ most) → (some ≡ 0 → more % 2 ≡ 0) → cond (some == 0) (more % 2 == 0) (cond (more + 1 == most) false true) ≡ true
true_last some more most gap even =
    pick (some == 0) (more % 2 == 0) (cond (more + 1 == most) false true)
    (λ z. eq-eqb (more % 2) 0 (even (eqb-true some 0 z)))
    (λ z. pick (more + 1 == most) false true (λ u. absurd (gap (positive (eqb-false some 0 z)) (eqb-true (more + 1) most u))) (λ _. refl))
  where
    positive : (some ≡ 0 → ⊥) → 1 ≤ some
    positive nonzero = elim (cases_lt 0 some) [ inl lt ↦ omega arith | inr le ↦ absurd (nonzero (omega arith)) ]

pub fits_true : (p : Frames) (room : ℕ) → fits_in p room ≡ true → Fit p room
unfolding fits_in
fits_true p room e =
    let least = p.bytes + p.types + 2 * p.lists + p.frames in
    let most = most_more p.types p.lists p.frames in
    let one = and_parts (nat_le least room) _ e in
    let two = and_parts (nat_le (room - least) most) _ one.1 in
    let last = last_true (p.lists + p.frames) (room - least) most two.1 in
    spelled (record {
      more = room - least;
      size = omega (arith, leb-true least room one.0);
      takes = record { most = leb-true (room - least) most two.0; gap = last.0; even = last.1 };
    })

pub true_fits : (p : Frames) (room : ℕ) → Fit p room → fits_in p room ≡ true
unfolding fits_in
true_fits p room h =
    let least = p.bytes + p.types + 2 * p.lists + p.frames in
    let most = most_more p.types p.lists p.frames in
    let r = reached h in
    let same : r.more ≡ room - least = omega (arith, r.size) in
    let takes : FramesTake p.types p.lists p.frames (room - least) = subst (λ (k : ℕ). FramesTake p.types p.lists p.frames k) same r.takes in
    and_from (nat_le least room) _ (le-leb least room (omega (arith, r.size)))
    (and_from (nat_le (room - least) most) _ (le-leb (room - least) most takes.most) (true_last (p.lists + p.frames) (room - least) most takes.gap takes.even))

pub same_test : (p : Frames) (room : ℕ) (b : Bool) → (b ≡ true → Fit p room) × (Fit p room → b ≡ true) → b ≡ fits_in p room
same_test p room b h = elim (cases_Bool b) [
  | inl holds ↦ holds ∙ sym (true_fits p room (h.0 holds))
  | inr fails ↦ elim (cases_Bool (fits_in p room)) [
    | inl fits ↦ h.1 (fits_true p room fits) ∙ sym fits
    | inr not ↦ fails ∙ sym not
  ]
]

-- ---- bytes in front

pub shift_up : {b t l f n : ℕ} (d : ℕ) → FramesFill b t l f n → FramesFill (d + b) t l f (d + n)
shift_up d h = let r = reached h in spelled (record { more = r.more; size = omega (arith, r.size); takes = r.takes })

pub shift_down : {b t l f n : ℕ} (d : ℕ) → FramesFill (d + b) t l f n → (m : ℕ) × (n ≡ d + m) × FramesFill b t l f m
shift_down {n = n} d h = let r = reached h in (n - d, omega (arith, r.size), spelled (record { more = r.more; size = omega (arith, r.size); takes = r.takes }))

re : {b b' t t' l l' f n : ℕ} → b ≡ b' → t ≡ t' → l ≡ l' → FramesFill b t l f n → FramesFill b' t' l' f n
re {b = b} {b' = b'} {t = t} {t' = t'} {l = l} {l' = l'} {f = f} {n = n} eb et el h =
    subst (λ (k : ℕ). FramesFill b' t' k f n) el (subst (λ (k : ℕ). FramesFill b' k l f n) et (subst (λ (k : ℕ). FramesFill k t l f n) eb h))

-- ---- the first type

abbrev TypeFirst : (b t l f n : ℕ) → Type 0
TypeFirst b t l f n = FramesFill (b + 1) t l f n ⊎ FramesFill (b + 3) t l f n

pub type_first : {b t' l f n : ℕ} → FramesFill b t' l f n → (t : ℕ) → t' ≡ suc t → TypeFirst b t l f n
type_first bytes t e = absurd cc
type_first (plain h) t e = inl (re refl (omega arith) refl h)
type_first (numbered h) t e = inr (re refl (omega arith) refl h)
type_first (list k lt h) t e = elim (type_first h (k + t) (omega arith)) [
  | inl g ↦ inl (list k lt (re (omega arith) refl refl g))
  | inr g ↦ inr (list k lt (re (omega arith) refl refl g))
]
type_first (same h) t e = elim (type_first h t e) [ inl g ↦ inl (same g) | inr g ↦ inr (same (re (omega arith) refl refl g)) ]
type_first (same_with_one h) t e = elim (type_first h (suc t) (omega arith)) [ inl g ↦ inl (same_with_one g) | inr g ↦ inr (same_with_one (re (omega arith) refl refl g)) ]
type_first (extended_with_one h) t e = elim (type_first h (suc t) (omega arith)) [ inl g ↦ inl (extended_with_one (re (omega arith) refl refl g)) | inr g ↦ inr (extended_with_one g) ]
type_first (chop h) t e = elim (type_first h t e) [ inl g ↦ inl (chop (re (omega arith) refl refl g)) | inr g ↦ inr (chop g) ]
type_first (append k lt h) t e = elim (type_first h (k + t) (omega arith)) [ inl g ↦ inl (append k lt (re (omega arith) refl refl g)) | inr g ↦ inr (append k lt g) ]
type_first (full h) t e = elim (type_first h t e) [ inl g ↦ inl (full (re (omega arith) refl refl g)) | inr g ↦ inr (full g) ]

-- ---- the first list

pub record ListFirst (b t l f n : ℕ) : Type 0 where
  pub count : ℕ
  pub small : count < 65536
  pub rest : FramesFill (b + 2) (count + t) l f n

pub list_first : {b t l' f n : ℕ} → FramesFill b t l' f n → (l : ℕ) → l' ≡ suc l → ListFirst b t l f n
list_first bytes l e = absurd cc
list_first (plain h) l e = let r = list_first h l e in record { count = r.count; small = r.small; rest = re refl (omega arith) refl (plain (re (omega arith) refl refl r.rest)) }
list_first (numbered h) l e = let r = list_first h l e in record { count = r.count; small = r.small; rest = re refl (omega arith) refl (numbered (re (omega arith) refl refl r.rest)) }
list_first (list k lt h) l e = record { count = k; small = lt; rest = re refl refl (omega arith) h }
list_first (same h) l e = let r = list_first h l e in record { count = r.count; small = r.small; rest = same (re (omega arith) refl refl r.rest) }
list_first (same_with_one h) l e = let r = list_first h l e in record { count = r.count; small = r.small; rest = same_with_one (re (omega arith) (omega arith) refl r.rest) }
list_first (extended_with_one h) l e = let r = list_first h l e in record { count = r.count; small = r.small; rest = extended_with_one (re (omega arith) (omega arith) refl r.rest) }
list_first (chop h) l e = let r = list_first h l e in record { count = r.count; small = r.small; rest = chop (re (omega arith) refl refl r.rest) }
list_first (append k lt h) l e = let r = list_first h l e in record { count = r.count; small = r.small; rest = append k lt (re (omega arith) (omega arith) refl r.rest) }
list_first (full h) l e = let r = list_first h (suc (suc l)) (omega arith) in record { count = r.count; small = r.small; rest = full (re (omega arith) refl refl r.rest) }

-- ---- the first frame

-- bytes, types and lists of a frame
pub data IsForm : (e k j : ℕ) → Type 0 where
  same_form : IsForm 1 0 0
  one_form : IsForm 1 1 0
  extended_form : IsForm 3 1 0
  chop_form : IsForm 3 0 0
  append_form : {k : ℕ} → 1 ≤ k → k ≤ 3 → IsForm 3 k 0
  full_form : IsForm 3 0 2

pub record FrameFirst (b t l f n : ℕ) : Type 0 where
  pub e : ℕ
  pub k : ℕ
  pub j : ℕ
  pub form : IsForm e k j
  pub rest : FramesFill (b + e) (k + t) (j + l) f n

appended : (b t l f n k : ℕ) → k < 4 → FramesFill (b + 3) (k + t) l f n → FrameFirst b t l f n
appended b t l f n zero lt h = record { e = 3; k = 0; j = 0; form = chop_form; rest = re refl refl (omega arith) h }
appended b t l f n (suc k) lt h = record { e = 3; k = suc k; j = 0; form = append_form (omega arith) (omega arith); rest = re refl refl (omega arith) h }

pub frame_first : {b t l f' n : ℕ} → FramesFill b t l f' n → (f : ℕ) → f' ≡ suc f → FrameFirst b t l f n
frame_first bytes f e = absurd cc
frame_first (plain h) f e = let r = frame_first h f e in record { e = r.e; k = r.k; j = r.j; form = r.form; rest = re refl (omega arith) refl (plain (re (omega arith) refl refl r.rest)) }
frame_first (numbered h) f e = let r = frame_first h f e in record { e = r.e; k = r.k; j = r.j; form = r.form; rest = re refl (omega arith) refl (numbered (re (omega arith) refl refl r.rest)) }
frame_first (list i lt h) f e = let r = frame_first h f e in record { e = r.e; k = r.k; j = r.j; form = r.form; rest = re refl refl (omega arith) (list i lt (re (omega arith) (omega arith) refl r.rest)) }
frame_first {b} {t} {l} {f'} {n} (same h) f e = record { e = 1; k = 0; j = 0; form = same_form; rest = subst (λ (g : ℕ). FramesFill (b + 1) (0 + t) (0 + l) g n) (omega arith) (re refl (omega arith) (omega arith) h) }
frame_first {b} {t} {l} {f'} {n} (same_with_one h) f e = record { e = 1; k = 1; j = 0; form = one_form; rest = subst (λ (g : ℕ). FramesFill (b + 1) (1 + t) (0 + l) g n) (omega arith) (re refl (omega arith) (omega arith) h) }
frame_first {b} {t} {l} {f'} {n} (extended_with_one h) f e = record { e = 3; k = 1; j = 0; form = extended_form; rest = subst (λ (g : ℕ). FramesFill (b + 3) (1 + t) (0 + l) g n) (omega arith) (re refl (omega arith) (omega arith) h) }
frame_first {b} {t} {l} {f'} {n} (chop h) f e = record { e = 3; k = 0; j = 0; form = chop_form; rest = subst (λ (g : ℕ). FramesFill (b + 3) (0 + t) (0 + l) g n) (omega arith) (re refl (omega arith) (omega arith) h) }
frame_first {b} {t} {l} {f'} {n} (append k lt h) f e = appended b t l f n k lt (subst (λ (g : ℕ). FramesFill (b + 3) (k + t) l g n) (omega arith) h)
frame_first {b} {t} {l} {f'} {n} (full h) f e = record { e = 3; k = 0; j = 2; form = full_form; rest = subst (λ (g : ℕ). FramesFill (b + 3) (0 + t) (2 + l) g n) (omega arith) (re refl (omega arith) (omega arith) h) }

-- what each form of a frame fills
pub framed : {b t l f n e k j : ℕ} → IsForm e k j → FramesFill (b + e) (k + t) (j + l) f n → FramesFill b t l (suc f) n
framed same_form h = same (re refl (omega arith) (omega arith) h)
framed one_form h = same_with_one (re refl (omega arith) (omega arith) h)
framed extended_form h = extended_with_one (re refl (omega arith) (omega arith) h)
framed chop_form h = chop (re refl (omega arith) (omega arith) h)
framed (append_form {k = k} ge le) h = append k (omega arith) (re refl refl (omega arith) h)
framed full_form h = full (re refl (omega arith) (omega arith) h)
