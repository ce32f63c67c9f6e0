-- Where a text of so many bytes first fails.
use Rattle.std.proofs.Common.{◌≡◌, ℕ, zero, suc, ◌+◌, ◌-◌, ◌/◌, ◌%◌, ◌^◌, ◌<◌, ◌≤◌, List, [], ◌∷◌, ◌++◌, length, get_or, take, Ok, refl, sym, ap, subst, ◌∙◌, ◌⊎◌, inl, inr, append_assoc, arith, lit<, lit≤}
use Rattle.std.specs.Prelude.{replicate}
use Rattle.std.proofs.lemmas.Bool.{cases_lt}
use Rattle.std.proofs.lemmas.Bool.Decides.{nat_tests}
use Rattle.std.proofs.lemmas.List.{append-nil, length-append, length-take, take-take, get_or-take, get_or_append_left, get_or-append_right, length-replicate, take_at}
use Rattle.std.proofs.Math.Seq.{get_or-append_seam, take-append-add}
use Rattle.std.proofs.lemmas.List.Concat.{flat_map-append}
use Rattle.wv_base.specs.Modified.{unit_spelling, spelling, IsName, BeginsSpelling, IsFault}
use Rattle.wv_base.specs.ModifiedReading.{unit_at}
use Rattle.wv_base.proofs.UnitSpelling.{ok_is, unit_again}
use Rattle.wv_pool.specs.Reading.{text_place}

-- ---- what begins as one name's bytes goes on as another's

reads_unit : (unit : ℕ) (rest bytes : List ℕ) → unit < 2 ^ 16 → bytes ≡ unit_spelling unit ++ rest → unit_at bytes ≡ Ok (unit, rest)
reads_unit unit rest bytes is e = rw e (unit_again unit rest is)

never_empty : (unit : ℕ) (rest : List ℕ) → unit < 2 ^ 16 → [] ≡ unit_spelling unit ++ rest → ⊥
unfolding unit_at
never_empty unit rest is e = absurd (cc (reads_unit unit rest [] is e))

unit_cancel : (a b : ℕ) (x y : List ℕ) → a < 2 ^ 16 → b < 2 ^ 16 → unit_spelling a ++ x ≡ unit_spelling b ++ y → (a ≡ b) × (x ≡ y)
unit_cancel a b x y is_a is_b e =
    let same : (a, x) ≡ (b, y) = ok_is (a, x) (b, y) (sym (unit_again a x is_a) ∙ reads_unit b y (unit_spelling a ++ x) is_b e) in
    (ap (λ (p : ℕ × List ℕ). p.0) same, ap (λ (p : ℕ × List ℕ). p.1) same)

front_cancel : (front rest name : List ℕ) → IsName front → IsName name → spelling front ++ rest ≡ spelling name → (others : List ℕ) × IsName others × (rest ≡ spelling others)
front_cancel [] rest name is_front is_name e = (name, is_name, e)
front_cancel (a ∷ front) rest [] is_front is_name e = absurd (never_empty a (spelling front ++ rest) is_front.0 (sym e ∙ append_assoc (unit_spelling a) (spelling front) rest))
front_cancel (a ∷ front) rest (b ∷ name) is_front is_name e =
    let here = unit_cancel a b (spelling front ++ rest) (spelling name) is_front.0 is_name.0 (sym (append_assoc (unit_spelling a) (spelling front) rest) ∙ e) in
    front_cancel front rest name is_front.1 is_name.1 here.1

IsName-append : (a b : List ℕ) → IsName a → IsName b → IsName (a ++ b)
IsName-append [] b is_a is_b = is_b
IsName-append (unit ∷ a) b is_a is_b = (is_a.0, IsName-append a b is_a.1 is_b)

-- ---- the forms of a unit's bytes

data UnitForm : List ℕ → Type 0 where
  one : {a : ℕ} → a < 0x80 → UnitForm (a ∷ [])
  two : {a b : ℕ} → 0xC0 ≤ a → a < 0xE0 → b < 0xC0 → UnitForm (a ∷ b ∷ [])
  three : {a b c : ℕ} → 0xE0 ≤ a → b < 0xC0 → c < 0xC0 → UnitForm (a ∷ b ∷ c ∷ [])

spelling_one : (unit : ℕ) → 0 < unit → unit < 0x80 → unit_spelling unit ≡ unit ∷ []
spelling_one unit low high = grind (arith, nat_tests)

spelling_two : (unit : ℕ) → 0x80 ≤ unit → unit < 0x800 → unit_spelling unit ≡ (0xC0 + unit / 64) ∷ (0x80 + unit % 64) ∷ []
spelling_two unit low high = grind (arith, nat_tests)

spelling_three : (unit : ℕ) → 0x800 ≤ unit → unit_spelling unit ≡ (0xE0 + unit / 4096) ∷ (0x80 + unit / 64 % 64) ∷ (0x80 + unit % 64) ∷ []
spelling_three unit low = grind (arith, nat_tests)

unit_form : (unit : ℕ) → UnitForm (unit_spelling unit)
unit_form zero = two (lit≤ tt) (lit< tt) (lit< tt)
unit_form (suc n) =
    elim (cases_lt (suc n) 0x80) [
      | inl low ↦ rw (spelling_one (suc n) (omega arith) low) (one low)
      | inr more ↦ elim (cases_lt (suc n) 0x800) [
        | inl low ↦ rw (spelling_two (suc n) more low) (two {a = 0xC0 + suc n / 64} {b = 0x80 + suc n % 64} (omega arith) (omega arith) (omega arith))
        | inr high ↦ rw (spelling_three (suc n) high) (three {a = 0xE0 + suc n / 4096} {b = 0x80 + suc n / 64 % 64} {c = 0x80 + suc n % 64} (omega arith) (omega arith) (omega arith))
      ]
    ]

same_width : (a : ℕ) (x y : List ℕ) → UnitForm (a ∷ x) → UnitForm (a ∷ y) → length x ≡ length y
same_width a x y (one h) (one k) = refl
same_width a x y (one h) (two k l m) = absurd (omega arith)
same_width a x y (one h) (three k l m) = absurd (omega arith)
same_width a x y (two h i j) (one k) = absurd (omega arith)
same_width a x y (two h i j) (two k l m) = refl
same_width a x y (two h i j) (three k l m) = absurd (omega arith)
same_width a x y (three h i j) (one k) = absurd (omega arith)
same_width a x y (three h i j) (two k l m) = absurd (omega arith)
same_width a x y (three h i j) (three k l m) = refl

-- ---- the first byte of a unit is followed by its others

abbrev Closed : List ℕ → Type 0
Closed bs = (i : ℕ) → i < length bs → (0xC0 ≤ get_or bs i 0 → i + 1 < length bs) × (0xE0 ≤ get_or bs i 0 → i + 2 < length bs)

closed_form : (bs : List ℕ) → UnitForm bs → Closed bs
closed_form bs (one h) zero lt = (λ e. omega arith, λ e. omega arith)
closed_form bs (one h) (suc i) lt = absurd (omega arith)
closed_form bs (two h i j) zero lt = (λ e. omega arith, λ e. omega arith)
closed_form bs (two h i j) (suc zero) lt = (λ e. omega arith, λ e. omega arith)
closed_form bs (two h i j) (suc (suc k)) lt = absurd (omega arith)
closed_form bs (three h i j) zero lt = (λ e. omega arith, λ e. omega arith)
closed_form bs (three h i j) (suc zero) lt = (λ e. omega arith, λ e. omega arith)
closed_form bs (three h i j) (suc (suc zero)) lt = (λ e. omega arith, λ e. omega arith)
closed_form bs (three h i j) (suc (suc (suc k))) lt = absurd (omega arith)

closed_append : (xs ys : List ℕ) → Closed xs → Closed ys → Closed (xs ++ ys)
closed_append xs ys cx cy i lt = elim (cases_lt i (length xs)) [
  | inl here ↦
      let c = cx i here in
      let e : get_or (xs ++ ys) i 0 ≡ get_or xs i 0 = get_or_append_left xs ys 0 i here in
      rw e (λ h. omega (arith, c.0 h, length-append xs ys), λ h. omega (arith, c.1 h, length-append xs ys))
  | inr later ↦
      let c = cy (i - length xs) (omega (arith, length-append xs ys)) in
      let e : get_or (xs ++ ys) i 0 ≡ get_or ys (i - length xs) 0 = get_or-append_right xs ys (length xs) i 0 refl later in
      rw e (λ h. omega (arith, c.0 h, length-append xs ys), λ h. omega (arith, c.1 h, length-append xs ys))
]

closed : (name : List ℕ) → Closed (spelling name)
closed [] = λ i lt. absurd (omega arith)
closed (u ∷ name) = closed_append (unit_spelling u) (spelling name) (closed_form (unit_spelling u) (unit_form u)) (closed name)

-- ---- a front of a name's bytes: whole units, and less than a unit

record Cut (front : List ℕ) : Type 0 where
  whole : List ℕ
  open_ : List ℕ
  tail : List ℕ
  unit : ℕ
  is_name : IsName whole
  is_unit : unit < 2 ^ 16
  front_is : front ≡ spelling whole ++ open_
  unit_is : open_ ++ tail ≡ unit_spelling unit
  some : 0 < length tail

part : (front more w rest : List ℕ) → front ++ more ≡ w ++ rest → ((tail : List ℕ) × (front ++ tail ≡ w) × (0 < length tail)) ⊎ ((others : List ℕ) × (front ≡ w ++ others) × (others ++ more ≡ rest))
part [] more [] rest e = inr ([], refl, e)
part [] more (x ∷ w) rest e = inl (x ∷ w, refl, omega arith)
part (a ∷ front) more [] rest e = inr (a ∷ front, refl, e)
part (a ∷ front) more (x ∷ w) rest e =
    let same : a ≡ x = cc in
    elim (part front more w rest cc) [
      | inl p ↦ inl (p.0, ap (λ (t : List ℕ). a ∷ t) p.1 ∙ ap (λ (k : ℕ). k ∷ w) same, p.2)
      | inr p ↦ inr (p.0, ap (λ (t : List ℕ). a ∷ t) p.1 ∙ ap (λ (k : ℕ). k ∷ (w ++ p.0)) same, p.2)
    ]

cut : (name front more : List ℕ) → IsName name → front ++ more ≡ spelling name → Cut front
cut [] [] more is e = record { whole = []; open_ = []; tail = 97 ∷ []; unit = 97; is_name = tt; is_unit = lit< tt; front_is = refl; unit_is = refl; some = omega arith }
cut [] (a ∷ front) more is e = absurd cc
cut (u ∷ name) front more is e = elim (part front more (unit_spelling u) (spelling name) e) [
  | inl p ↦ record { whole = []; open_ = front; tail = p.0; unit = u; is_name = tt; is_unit = is.0; front_is = refl; unit_is = p.1; some = p.2 }
  | inr p ↦
      let c = cut name p.0 more is.1 p.2 in
      record {
        whole = u ∷ c.whole;
        open_ = c.open_;
        tail = c.tail;
        unit = c.unit;
        is_name = (is.0, c.is_name);
        is_unit = c.is_unit;
        front_is = p.1 ∙ ap (λ (t : List ℕ). unit_spelling u ++ t) c.front_is ∙ sym (append_assoc (unit_spelling u) (spelling c.whole) c.open_);
        unit_is = c.unit_is;
        some = c.some;
      }
]

-- the tests of the place
place_far : (text : List ℕ) (len at : ℕ) → (0 < at → get_or text (at - 1) 0 < 0xC0) → (1 < at → get_or text (at - 2) 0 < 0xE0) → text_place text len at ≡ at
place_far text len at last previous = grind (arith, nat_tests)

three_crowded : (text : List ℕ) (len at : ℕ) → 0 < at → 0xE0 ≤ get_or text (at - 1) 0 → len < at + 2 → text_place text len at ≡ at - 1
three_crowded text len at some last few = let low : 0xC0 ≤ get_or text (at - 1) 0 = omega arith in grind (arith, nat_tests)

three_fits : (text : List ℕ) (len at : ℕ) → 0 < at → 0xE0 ≤ get_or text (at - 1) 0 → at + 2 ≤ len → text_place text len at ≡ at
three_fits text len at some last few = let low : 0xC0 ≤ get_or text (at - 1) 0 = omega arith in grind (arith, nat_tests)

two_crowded : (text : List ℕ) (len at : ℕ) → 0 < at → 0xC0 ≤ get_or text (at - 1) 0 → get_or text (at - 1) 0 < 0xE0 → len < at + 1 → text_place text len at ≡ at - 1
two_crowded text len at some low high few = grind (arith, nat_tests)

two_fits : (text : List ℕ) (len at : ℕ) → 0 < at → 0xC0 ≤ get_or text (at - 1) 0 → get_or text (at - 1) 0 < 0xE0 → at + 1 ≤ len → text_place text len at ≡ at
two_fits text len at some low high few = grind (arith, nat_tests)

third_crowded : (text : List ℕ) (len at : ℕ) → 1 < at → get_or text (at - 1) 0 < 0xC0 → 0xE0 ≤ get_or text (at - 2) 0 → len < at + 1 → text_place text len at ≡ at - 2
third_crowded text len at some last previous few = grind (arith, nat_tests)

third_fits : (text : List ℕ) (len at : ℕ) → 1 < at → get_or text (at - 1) 0 < 0xC0 → 0xE0 ≤ get_or text (at - 2) 0 → at + 1 ≤ len → text_place text len at ≡ at
third_fits text len at some last previous few = grind (arith, nat_tests)

-- the byte at a place of the front
front_byte : (text front : List ℕ) (at i : ℕ) → take at text ≡ front → i < at → get_or text i 0 ≡ get_or front i 0
front_byte text front at i is lt = sym (get_or-take at text i 0 lt) ∙ ap (λ (t : List ℕ). get_or t i 0) is

-- what the place is, with one byte or two of the last unit there
Where : (text : List ℕ) (len at start width : ℕ) → Type 0
Where text len at start width = ((text_place text len at ≡ at) × (start + width ≤ len)) ⊎ ((text_place text len at ≡ start) × (len < start + width))

one_open : (text : List ℕ) (len at a start : ℕ) (tail : List ℕ) → at ≡ start + 1 → get_or text (at - 1) 0 ≡ a → 0 < length tail → UnitForm (a ∷ tail) → Where text len at start (suc (length tail))
unfolding Where
one_open text len at a start tail at-is last some (one h) = absurd (omega arith)
one_open text len at a start tail at-is last some (two h i j) = elim (cases_lt len (at + 1)) [
  | inl few ↦ inr (two_crowded text len at (omega arith) (omega arith) (omega arith) few ∙ omega arith, omega arith)
  | inr fit ↦ inl (two_fits text len at (omega arith) (omega arith) (omega arith) fit, omega arith)
]
one_open text len at a start tail at-is last some (three h i j) = elim (cases_lt len (at + 2)) [
  | inl few ↦ inr (three_crowded text len at (omega arith) (omega arith) few ∙ omega arith, omega arith)
  | inr fit ↦ inl (three_fits text len at (omega arith) (omega arith) fit, omega arith)
]

two_open : (text : List ℕ) (len at a b start : ℕ) (tail : List ℕ) → at ≡ start + 2 → get_or text (at - 2) 0 ≡ a → get_or text (at - 1) 0 ≡ b → 0 < length tail → UnitForm (a ∷ b ∷ tail) → Where text len at start (suc (suc (length tail)))
unfolding Where
two_open text len at a b start tail at-is previous last some (two h i j) = absurd (omega arith)
two_open text len at a b start tail at-is previous last some (three h i j) = elim (cases_lt len (at + 1)) [
  | inl few ↦ inr (third_crowded text len at (omega arith) (omega arith) (omega arith) few ∙ omega arith, omega arith)
  | inr fit ↦ inl (third_fits text len at (omega arith) (omega arith) (omega arith) fit, omega arith)
]

form_length : (bs : List ℕ) → UnitForm bs → length bs ≤ 3
form_length bs (one h) = omega arith
form_length bs (two h i j) = omega arith
form_length bs (three h i j) = omega arith

-- which place it is, by what of the last unit is there
module _ (text : List ℕ) (len at : ℕ) (whole : List ℕ) (unit : ℕ) (tail : List ℕ) (is_at : at ≤ length text) (some : 0 < length tail) where
  abbrev Placed : (open_ : List ℕ) → Type 0
  Placed open_ = ((text_place text len at ≡ at) × ((open_ ≡ []) ⊎ (length (spelling whole) + length (unit_spelling unit) ≤ len)))
      ⊎ ((text_place text len at ≡ length (spelling whole)) × (len < length (spelling whole) + length (unit_spelling unit)) × (0 < length open_))

  settle : {open_ : List ℕ} {width : ℕ} → Where text len at (length (spelling whole)) width → width ≡ length (unit_spelling unit) → 0 < length open_ → Placed open_
  unfolding Where
  settle (inl w) e some = inl (w.0, inr (omega (arith, w.1)))
  settle (inr w) e some = inr (w.0, omega (arith, w.1), some)

  placed : (open_ : List ℕ) → take at text ≡ spelling whole ++ open_ → at ≡ length (spelling whole) + length open_ → open_ ++ tail ≡ unit_spelling unit → Placed open_
  placed [] front len-is unit_is =
      let c = closed whole in
      let far : text_place text len at ≡ at = place_far text len at
      (λ some. let b = c (at - 1) (omega (arith, len-is)) in
      let e : get_or text (at - 1) 0 ≡ get_or (spelling whole) (at - 1) 0 = front_byte text (spelling whole) at (at - 1) (front ∙ append-nil (spelling whole)) (omega arith) in
      elim (cases_lt (get_or text (at - 1) 0) 0xC0) [ inl low ↦ low | inr high ↦ absurd (omega (arith, b.0 (rw (← e) high), len-is)) ])
      (λ some. let b = c (at - 2) (omega (arith, len-is)) in
      let e : get_or text (at - 2) 0 ≡ get_or (spelling whole) (at - 2) 0 = front_byte text (spelling whole) at (at - 2) (front ∙ append-nil (spelling whole)) (omega arith) in
      elim (cases_lt (get_or text (at - 2) 0) 0xE0) [ inl low ↦ low | inr high ↦ absurd (omega (arith, b.1 (rw (← e) high), len-is)) ]) in
      inl (far, inl refl)
  placed (a ∷ []) front len-is unit_is =
      let last : get_or text (at - 1) 0 ≡ a = front_byte text (spelling whole ++ a ∷ []) at (at - 1) front (omega arith) ∙ ap (λ (i : ℕ). get_or (spelling whole ++ a ∷ []) i 0) (omega arith) ∙ get_or-append_seam (spelling whole) a [] 0 in
      let w : Where text len at (length (spelling whole)) (suc (length tail)) = one_open text len at a (length (spelling whole)) tail len-is last some (subst UnitForm (sym unit_is) (unit_form unit)) in
      settle w (ap length unit_is) (omega arith)
  placed (a ∷ b ∷ []) front len-is unit_is =
      let second_is : spelling whole ++ a ∷ b ∷ [] ≡ (spelling whole ++ a ∷ []) ++ b ∷ [] = sym (append_assoc (spelling whole) (a ∷ []) (b ∷ [])) in
      let last : get_or text (at - 1) 0 ≡ b = front_byte text ((spelling whole ++ a ∷ []) ++ b ∷ []) at (at - 1) (front ∙ second_is) (omega arith)
      ∙ ap (λ (i : ℕ). get_or ((spelling whole ++ a ∷ []) ++ b ∷ []) i 0) (omega (arith, length-append (spelling whole) (a ∷ []))) ∙ get_or-append_seam (spelling whole ++ a ∷ []) b [] 0 in
      let previous : get_or text (at - 2) 0 ≡ a = front_byte text (spelling whole ++ a ∷ b ∷ []) at (at - 2) front (omega arith)
      ∙ ap (λ (i : ℕ). get_or (spelling whole ++ a ∷ b ∷ []) i 0) (omega arith) ∙ get_or-append_seam (spelling whole) a (b ∷ []) 0 in
      let w : Where text len at (length (spelling whole)) (suc (suc (length tail))) = two_open text len at a b (length (spelling whole)) tail len-is previous last some (subst UnitForm (sym unit_is) (unit_form unit)) in
      settle w (ap length unit_is) (omega arith)
  placed (a ∷ b ∷ c ∷ open_) front len-is unit_is =
      absurd (omega (arith, form_length (unit_spelling unit) (unit_form unit), ap length unit_is, length-append open_ tail))

-- the bytes of a text of so many bytes begin so
abbrev pub TextBegins : ℕ → List ℕ → Type 0
TextBegins len front = (more : List ℕ) × (name : List ℕ) × IsName name × (front ++ more ≡ spelling name) × (length (spelling name) ≡ len)

-- a text is filled up by letters
pub letters_spell : (k : ℕ) → (spelling (replicate k 97) ≡ replicate k 97) × IsName (replicate k 97)
letters_spell zero = (refl, tt)
letters_spell (suc k) = let r = letters_spell k in (ap (λ (t : List ℕ). 97 ∷ t) r.0, (lit< tt, r.1))

pub filled : (len : ℕ) (name : List ℕ) → IsName name → length (spelling name) ≤ len → TextBegins len (spelling name)
filled len name is le =
    let k = len - length (spelling name) in
    let letters = letters_spell k in
    let e : spelling (name ++ replicate k 97) ≡ spelling name ++ replicate k 97 = flat_map-append unit_spelling name (replicate k 97) ∙ ap (λ (t : List ℕ). spelling name ++ t) letters.0 in
    (replicate k 97, name ++ replicate k 97, IsName-append name (replicate k 97) is letters.1, sym e, omega (arith, ap length e, length-append (spelling name) (replicate k 97), length-replicate {A = ℕ} k 97))

filled_open : (len : ℕ) (name open_ tail : List ℕ) (unit : ℕ) → IsName name → unit < 2 ^ 16 → open_ ++ tail ≡ unit_spelling unit → length (spelling name) + length (unit_spelling unit) ≤ len → TextBegins len (spelling name ++ open_)
filled_open len name open_ tail unit is is_unit unit_is le =
    let one : spelling (name ++ unit ∷ []) ≡ spelling name ++ unit_spelling unit = flat_map-append unit_spelling name (unit ∷ []) ∙ ap (λ (t : List ℕ). spelling name ++ t) (append-nil (unit_spelling unit)) in
    let f = filled len (name ++ unit ∷ []) (IsName-append name (unit ∷ []) is (is_unit, tt)) (omega (arith, ap length one, length-append (spelling name) (unit_spelling unit))) in
    let regrouped : (spelling name ++ open_) ++ (tail ++ f.0) ≡ spelling (name ++ unit ∷ []) ++ f.0 =
    sym (append_assoc (spelling name ++ open_) tail f.0) ∙ ap (λ (t : List ℕ). t ++ f.0) (append_assoc (spelling name) open_ tail ∙ ap (λ (t : List ℕ). spelling name ++ t) unit_is ∙ sym one) in
    (tail ++ f.0, f.1, f.2, regrouped ∙ f.3, f.4)

-- a unit that begins so has no room
starts : (a : ℕ) (more w rest : List ℕ) → UnitForm w → a ∷ more ≡ w ++ rest → (y : List ℕ) × (w ≡ a ∷ y) × (length y ≤ length more)
starts a more w rest (one {a = b} h) e = let same : a ≡ b = cc in ([], ap (λ (k : ℕ). k ∷ []) (sym same), omega arith)
starts a more w rest (two {a = b} {b = c} h i j) e = let same : a ≡ b = cc in let tail : more ≡ c ∷ rest = cc in (c ∷ [], ap (λ (k : ℕ). k ∷ c ∷ []) (sym same), omega (arith, ap length tail))
starts a more w rest (three {a = b} {b = c} {c = d} h i j) e = let same : a ≡ b = cc in let tail : more ≡ c ∷ d ∷ rest = cc in (c ∷ d ∷ [], ap (λ (k : ℕ). k ∷ c ∷ d ∷ []) (sym same), omega (arith, ap length tail))

crowded : (len : ℕ) (whole : List ℕ) (a : ℕ) (last : List ℕ) (unit : ℕ) → IsName whole → a ∷ last ≡ unit_spelling unit → len < length (spelling whole) + length (unit_spelling unit) → TextBegins len (spelling whole ++ a ∷ []) → ⊥
crowded len whole a last unit is unit_is few t =
    let behind = front_cancel whole (a ∷ t.0) t.1 is t.2 (sym (append_assoc (spelling whole) (a ∷ []) t.0) ∙ t.3) in
    go behind.0 behind.2 (ap length (sym (append_assoc (spelling whole) (a ∷ []) t.0) ∙ t.3))
  where
    go : (others : List ℕ) → a ∷ t.0 ≡ spelling others → length (spelling whole ++ (a ∷ t.0)) ≡ length (spelling t.1) → ⊥
    go [] e sum = absurd cc
    go (u ∷ others) e sum =
        let y = starts a t.0 (unit_spelling u) (spelling others) (unit_form u) e in
        let wide : length last ≡ length y.0 = same_width a last y.0 (subst UnitForm (sym unit_is) (unit_form unit)) (subst UnitForm y.1 (unit_form u)) in
        omega (arith, sum, t.4, few, wide, y.2, ap length unit_is, length-append (spelling whole) (a ∷ t.0))

-- where a text of so many bytes first fails
pub record TextStops (len : ℕ) (text : List ℕ) (place : ℕ) : Type 0 where
  pub within : place ≤ length text
  pub begins : TextBegins len (take place text)
  pub none : place < length text → TextBegins len (take (place + 1) text) → ⊥

begins_spelling : (len : ℕ) (front : List ℕ) → TextBegins len front → BeginsSpelling front
begins_spelling len front t = (t.0, (t.1, t.2, t.3))

abbrev there : {front : List ℕ} → Cut front → ℕ
there c = length (spelling c.whole)

pub text_stops : (len : ℕ) (text : List ℕ) (at : ℕ) → length text ≤ len → IsFault text at → TextStops len text (text_place text len at)
text_stops len text at le fault =
    let begun = fault.begins at (omega arith) in
    let c = cut begun.1.0 (take at text) begun.0 begun.1.1 begun.1.2 in
    let at-is : at ≡ length (spelling c.whole) + length c.open_ = omega (arith, length-take at text, fault.within, ap length c.front_is, length-append (spelling c.whole) c.open_) in
    go c at-is (placed text len at c.whole c.unit c.tail fault.within c.some c.open_ c.front_is at-is c.unit_is)
  where
    stays : (c : Cut (take at text)) → (c.open_ ≡ []) ⊎ (there c + length (unit_spelling c.unit) ≤ len) → there c ≤ len → TextBegins len (take at text)
    stays c (inl none) small = subst (λ (t : List ℕ). TextBegins len t) (sym (c.front_is ∙ ap (λ (t : List ℕ). spelling c.whole ++ t) none ∙ append-nil (spelling c.whole))) (filled len c.whole c.is_name small)
    stays c (inr fits) small = subst (λ (t : List ℕ). TextBegins len t) (sym c.front_is) (filled_open len c.whole c.open_ c.tail c.unit c.is_name c.is_unit c.unit_is fits)

    first : (c : Cut (take at text)) (open_ : List ℕ) → c.open_ ≡ open_ → 0 < length open_ → at ≡ there c + length c.open_ → len < there c + length (unit_spelling c.unit) → TextBegins len (take (there c + 1) text) → ⊥
    first c [] e some at-is few t = omega arith
    first c (a ∷ open_) e some at-is few t =
        let front : take (there c + 1) text ≡ spelling c.whole ++ a ∷ [] =
        sym (take-take (there c + 1) at text (omega (arith, ap length e))) ∙ ap (λ (t : List ℕ). take (there c + 1) t) (c.front_is ∙ ap (λ (t : List ℕ). spelling c.whole ++ t) e) ∙ take-append-add (spelling c.whole) (a ∷ open_) 1 in
        crowded len c.whole a (open_ ++ c.tail) c.unit c.is_name (ap (λ (t : List ℕ). t ++ c.tail) (sym e) ∙ c.unit_is) few (subst (λ (x : List ℕ). TextBegins len x) front t)

    go : (c : Cut (take at text)) → at ≡ there c + length c.open_ → Placed text len at c.whole c.unit c.tail fault.within c.some c.open_ → TextStops len text (text_place text len at)
    go c at-is (inl p) = rw p.0 (record {
      within = fault.within;
      begins = stays c p.1 (omega (arith, at-is, fault.within));
      none = λ lt t. fault.none lt (begins_spelling len (take (at + 1) text) t);
    })
    go c at-is (inr p) =
        let front : take (there c) text ≡ spelling c.whole =
        sym (take-take (there c) at text (omega arith)) ∙ ap (λ (t : List ℕ). take (there c) t) c.front_is ∙ take_at (spelling c.whole) c.open_ (there c) refl in
        rw p.0 (record {
          within = omega (arith, at-is, fault.within);
          begins = subst (λ (t : List ℕ). TextBegins len t) (sym front) (filled len c.whole c.is_name (omega (arith, at-is, fault.within)));
          none = λ lt t. first c c.open_ refl p.2 at-is p.1 t;
        })
