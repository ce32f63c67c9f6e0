-- What fits behind the numbers of a Code attribute.
use Rattle.std.proofs.Common.{◌≡◌, ℕ, suc, ◌+◌, ◌-◌, ◌*◌, ◌/◌, ◌^◌, ◌<◌, ◌≤◌, Bool, true, false, ◌==◌, ◌&&◌, ◌||◌, nat_le, if◌then◌else◌, List, refl, sym, ap, subst, ◌∙◌, ◌⊎◌, inl, inr, arith}
use Rattle.std.proofs.lemmas.Bool.{leb-true, le-leb, and_parts, cases_lt, eqb-true, eq-eqb}
use Rattle.wv_base.specs.declared.class_file.PoolEntry.{PoolEntry}
use Rattle.wv_code.specs.Reading.{longest, attributes_fit, attributes_fill, tables_fill, code_fits, ranges_fit, names_frames, least_content, length_fits, name_fits}
use Rattle.wv_code.proofs.Numbers.{true_some, some_true, NumberRoom}

both : {x y : Bool} → x ≡ true → y ≡ true → (x && y) ≡ true
both {x} {y} a b = rw (a, b) refl

either : (x y : Bool) → (x || y) ≡ true → (x ≡ true) ⊎ (y ≡ true)
either true y e = inl refl
either false y e = inr e

first : (x y : Bool) → x ≡ true → (x || y) ≡ true
first x y a = rw a refl

second : (x y : Bool) → y ≡ true → (x || y) ≡ true
second true y b = refl
second false y b = b

-- ---- attributes

pub record Fit (n k : ℕ) : Type 0 where
  pub least : 6 * k ≤ n
  pub most : n ≤ 4294967301 * k

pub fit_is : (n k : ℕ) → attributes_fit n k ≡ true → Fit n k
unfolding attributes_fit
fit_is n k e = let p = and_parts (nat_le (6 * k) n) (nat_le n (longest * k)) e in record { least = leb-true _ _ p.0; most = leb-true _ _ p.1 }

pub is_fit : (n k : ℕ) → Fit n k → attributes_fit n k ≡ true
unfolding attributes_fit
is_fit n k f = both (le-leb _ _ f.least) (le-leb _ _ f.most)

pub nothing_left : (n : ℕ) → attributes_fit n 0 ≡ true → n ≡ 0
nothing_left n e = let f = fit_is n 0 e in omega (arith, f.most)

-- a count of attributes
pub record Table (n : ℕ) : Type 0 where
  pub is : (n ≡ 2) ⊎ ((8 ≤ n) × (n ≤ 281470682071037))

pub table_is : (n : ℕ) → attributes_fill n ≡ true → Table n
unfolding attributes_fill
table_is n e = elim (either (n == 2) _ e) [
  | inl two ↦ record { is = inl (eqb-true n 2 two) }
  | inr more ↦ let p = and_parts (nat_le 8 n) (nat_le n (2 + longest * 65535)) more in record { is = inr (leb-true _ _ p.0, omega (arith, leb-true _ _ p.1)) }
]

pub is_table : (n : ℕ) → Table n → attributes_fill n ≡ true
unfolding attributes_fill
is_table n t = elim t.is [
  | inl two ↦ first _ _ (eq-eqb n 2 two)
  | inr more ↦ second (n == 2) _ (both (le-leb _ _ more.0) (le-leb _ _ (omega (arith, more.1))))
]

-- some number in two bytes, or four
with_number : (w : ℕ) (test : ℕ → ℕ → Bool) (n k more : ℕ) → n ≡ w + more → k < 256 ^ w → test more k ≡ true → NumberRoom w test n
with_number w test n k more sum lt e = record { more = more; sum = sum; some = true_some (256 ^ w) k (λ i. test more (0 * 256 ^ w + i)) lt (ap (test more) (zero_plus (256 ^ w) k) ∙ e) }
  where
    zero_plus : (p m : ℕ) → 0 * p + m ≡ m
    zero_plus p m = grind arith

number_with : (w : ℕ) (test : ℕ → ℕ → Bool) (n : ℕ) → (r : NumberRoom w test n) → (k : ℕ) × (k < 256 ^ w) × (test r.more k ≡ true)
number_with w test n r = let k = some_true (256 ^ w) (λ i. test r.more (0 * 256 ^ w + i)) r.some in (k.0, k.1, ap (test r.more) (sym (zero_plus (256 ^ w) k.0)) ∙ k.2)
  where
    zero_plus : (p m : ℕ) → 0 * p + m ≡ m
    zero_plus p m = grind arith

pub table_counts : (n : ℕ) → Table n → NumberRoom 2 attributes_fit n
table_counts n t = elim t.is [
  | inl two ↦ with_number 2 attributes_fit n 0 0 two (omega arith) (is_fit 0 0 (record { least = omega arith; most = omega arith }))
  | inr more ↦
      let k = (n - 2 + 4294967300) / 4294967301 in
      with_number 2 attributes_fit n k (n - 2) (omega (arith, more.0)) (omega (arith, more.0, more.1)) (is_fit (n - 2) k (record { least = omega (arith, more.0, more.1); most = omega (arith, more.0, more.1) }))
]

pub counts_table : (n : ℕ) → NumberRoom 2 attributes_fit n → Table n
counts_table n r =
    let k = number_with 2 attributes_fit n r in
    let f = fit_is r.more k.0 k.2 in
    record {
      is = elim (cases_lt 0 k.0) [
        | inl some ↦ inr (omega (arith, f.least, r.sum), omega (arith, f.most, r.sum, k.1))
        | inr none ↦ inl (omega (arith, f.most, r.sum))
      ];
    }

-- ---- ranges

pub record Ranged (n k : ℕ) : Type 0 where
  pub more : ℕ
  pub sum : n ≡ 8 * k + more
  pub table : Table more

pub ranged_is : (n k : ℕ) → ranges_fit n k ≡ true → Ranged n k
unfolding ranges_fit
ranged_is n k e =
    let p = and_parts (nat_le (8 * k) n) (attributes_fill (n - 8 * k)) e in
    let le : 8 * k ≤ n = leb-true _ _ p.0 in
    record { more = n - 8 * k; sum = omega arith; table = table_is (n - 8 * k) p.1 }

pub is_ranged : (n k : ℕ) → Ranged n k → ranges_fit n k ≡ true
unfolding ranges_fit
is_ranged n k r =
    let left : n - 8 * k ≡ r.more = omega (arith, r.sum) in
    both (le-leb _ _ (omega (arith, r.sum))) (ap attributes_fill left ∙ is_table r.more r.table)

-- both tables
pub record Tables (n : ℕ) : Type 0 where
  pub is : (n ≡ 4) ⊎ ((10 ≤ n) × (n ≤ 281470682595319))

pub tables_is : (n : ℕ) → tables_fill n ≡ true → Tables n
unfolding tables_fill
tables_is n e = elim (either (n == 4) _ e) [
  | inl four ↦ record { is = inl (eqb-true n 4 four) }
  | inr more ↦ let p = and_parts (nat_le 10 n) (nat_le n (4 + 8 * 65535 + longest * 65535)) more in record { is = inr (leb-true _ _ p.0, omega (arith, leb-true _ _ p.1)) }
]

pub is_tables : (n : ℕ) → Tables n → tables_fill n ≡ true
unfolding tables_fill
is_tables n t = elim t.is [
  | inl four ↦ first _ _ (eq-eqb n 4 four)
  | inr more ↦ second (n == 4) _ (both (le-leb _ _ more.0) (le-leb _ _ (omega (arith, more.1))))
]

-- a table of attributes of at most its longest, and ranges for what is left
ranges_for : (n : ℕ) → 10 ≤ n → n ≤ 281470682595319 → (281470682071039 < n) → Ranged (n - 2) ((n - 281470682071039 + 7) / 8)
ranges_for n low high large = record { more = n - 2 - 8 * ((n - 281470682071039 + 7) / 8); sum = omega arith; table = record { is = inr (omega arith, omega arith) } }

pub tables_ranged : (n : ℕ) → Tables n → NumberRoom 2 ranges_fit n
tables_ranged n t = elim t.is [
  | inl four ↦ with_number 2 ranges_fit n 0 2 four (omega arith) (is_ranged 2 0 (record { more = 2; sum = refl; table = record { is = inl refl } }))
  | inr more ↦ elim (cases_lt 281470682071039 n) [
    | inl large ↦ with_number 2 ranges_fit n ((n - 281470682071039 + 7) / 8) (n - 2) (omega (arith, more.0)) (omega (arith, more.1)) (is_ranged (n - 2) ((n - 281470682071039 + 7) / 8) (ranges_for n more.0 more.1 large))
    | inr small ↦ with_number 2 ranges_fit n 0 (n - 2) (omega (arith, more.0)) (omega arith) (is_ranged (n - 2) 0 (record { more = n - 2; sum = omega arith; table = record { is = inr (omega (arith, more.0), omega (arith, small)) } }))
  ]
]

pub ranged_tables : (n : ℕ) → NumberRoom 2 ranges_fit n → Tables n
ranged_tables n r =
    let k = number_with 2 ranges_fit n r in
    let d = ranged_is r.more k.0 k.2 in
    record {
      is = elim d.table.is [
        | inl two ↦ elim (cases_lt 0 k.0) [
          | inl some ↦ inr (omega (arith, r.sum, d.sum, two), omega (arith, r.sum, d.sum, two, k.1))
          | inr none ↦ inl (omega (arith, r.sum, d.sum, two))
        ]
        | inr more ↦ inr (omega (arith, r.sum, d.sum, more.0), omega (arith, r.sum, d.sum, more.1, k.1))
      ];
    }

-- ---- code

pub record Coded (n k : ℕ) : Type 0 where
  pub more : ℕ
  pub sum : n ≡ k + more
  pub tables : Tables more

pub coded_is : (n k : ℕ) → code_fits n k ≡ true → Coded n k
unfolding code_fits
coded_is n k e =
    let p = and_parts (nat_le k n) (tables_fill (n - k)) e in
    let le : k ≤ n = leb-true _ _ p.0 in
    record { more = n - k; sum = omega arith; tables = tables_is (n - k) p.1 }

pub is_coded : (n k : ℕ) → Coded n k → code_fits n k ≡ true
unfolding code_fits
is_coded n k c =
    let left : n - k ≡ c.more = omega (arith, c.sum) in
    both (le-leb _ _ (omega (arith, c.sum))) (ap tables_fill left ∙ is_tables c.more c.tables)

-- code can fill what is left of an attribute
pub some_code : (n : ℕ) → 8 ≤ n → n < 2 ^ 32 → NumberRoom 4 code_fits n
some_code n low high = with_number 4 code_fits n (n - 8) (n - 4) (omega arith) (omega arith) (is_coded (n - 4) (n - 8) (record { more = 4; sum = omega arith; tables = record { is = inl refl } }))

pub code_least : (n : ℕ) → NumberRoom 4 code_fits n → 8 ≤ n
code_least n r =
    let k = number_with 4 code_fits n r in
    let c = coded_is r.more k.0 k.2 in
    elim c.tables.is [
      | inl four ↦ omega (arith, r.sum, c.sum, four)
      | inr more ↦ omega (arith, r.sum, c.sum, more.0)
    ]

-- ---- names and lengths of attributes

pub record Long (least left n k : ℕ) : Type 0 where
  pub low : least ≤ k
  pub more : ℕ
  pub sum : n ≡ k + more
  pub fits : Fit more left

pub long_is : (least left n k : ℕ) → length_fits least left n k ≡ true → Long least left n k
unfolding length_fits
long_is least left n k e =
    let p = and_parts (nat_le least k) (nat_le k n && attributes_fit (n - k) left) e in
    let q = and_parts (nat_le k n) (attributes_fit (n - k) left) p.1 in
    let le : k ≤ n = leb-true _ _ q.0 in
    record { low = leb-true _ _ p.0; more = n - k; sum = omega arith; fits = fit_is (n - k) left q.1 }

pub is_long : (least left n k : ℕ) → Long least left n k → length_fits least left n k ≡ true
unfolding length_fits
is_long least left n k l =
    let same : n - k ≡ l.more = omega (arith, l.sum) in
    both (le-leb _ _ l.low) (both (le-leb _ _ (omega (arith, l.sum))) (ap (λ (i : ℕ). attributes_fit i left) same ∙ is_fit l.more left l.fits))

pub record NameRoom (least left n : ℕ) : Type 0 where
  pub low : 4 + least + 6 * left ≤ n
  pub high : n + 2 ≤ 4294967301 * (left + 1)

pub named_is : (pool : List PoolEntry) (left n name : ℕ) → name_fits pool left n name ≡ true → NameRoom (least_content pool name) left n
unfolding name_fits
named_is pool left n name e =
    let p = and_parts (nat_le (4 + least_content pool name + 6 * left) n) (nat_le (n + 2) (longest * (left + 1))) e in
    record { low = leb-true _ _ p.0; high = leb-true _ _ p.1 }

pub is_named : (pool : List PoolEntry) (left n name : ℕ) → NameRoom (least_content pool name) left n → name_fits pool left n name ≡ true
unfolding name_fits
is_named pool left n name r = both (le-leb _ _ r.low) (le-leb _ _ r.high)

-- the length of a content that leaves what so many attributes can fill
pub some_length : (least left n : ℕ) → least ≤ 2 → NameRoom least left n → NumberRoom 4 (length_fits least left) n
some_length least left n few r = elim (cases_lt (n - 4 - 6 * left) 4294967296) [
  | inl lt ↦ with_number 4 (length_fits least left) n (n - 4 - 6 * left) (n - 4) (omega (arith, r.low)) (omega (arith, lt)) (is_long least left (n - 4) (n - 4 - 6 * left) (record { low = omega (arith, r.low); more = 6 * left; sum = omega (arith, r.low); fits = record { least = omega arith; most = omega arith } }))
  | inr le ↦ with_number 4 (length_fits least left) n 4294967295 (n - 4) (omega (arith, r.low)) (omega arith) (is_long least left (n - 4) 4294967295 (record { low = omega (arith, few); more = n - 4 - 4294967295; sum = omega (arith, le, r.low); fits = record { least = omega (arith, le, r.low); most = omega (arith, r.high) } }))
]

pub length_room : (least left n : ℕ) → NumberRoom 4 (length_fits least left) n → NameRoom least left n
length_room least left n r =
    let k = number_with 4 (length_fits least left) n r in
    let l = long_is least left r.more k.0 k.2 in
    record { low = omega (arith, r.sum, l.sum, l.low, l.fits.least); high = omega (arith, r.sum, l.sum, l.fits.most, k.1) }

pub least_few : (pool : List PoolEntry) (name : ℕ) → least_content pool name ≤ 2
least_few pool name = few (names_frames pool name)
  where
    few : (b : Bool) → (if b then 2 else 0) ≤ 2
    few true = omega arith
    few false = omega arith

-- a name that names nothing
none_named : (pool : List PoolEntry) → names_frames pool 0 ≡ false
unfolding names_frames
none_named pool = refl

pub some_name : (pool : List PoolEntry) (left n : ℕ) → Fit n (suc left) → NumberRoom 2 (name_fits pool left) n
some_name pool left n f =
    let nothing : least_content pool 0 ≡ 0 = ap (λ (b : Bool). if b then 2 else 0) (none_named pool) in
    with_number 2 (name_fits pool left) n 0 (n - 2) (omega (arith, f.least)) (omega arith) (is_named pool left (n - 2) 0 (subst (λ (k : ℕ). NameRoom k left (n - 2)) (sym nothing) (record { low = omega (arith, f.least); high = omega (arith, f.least, f.most) })))

pub name_fit : (pool : List PoolEntry) (left n : ℕ) → NumberRoom 2 (name_fits pool left) n → Fit n (suc left)
name_fit pool left n r =
    let k = number_with 2 (name_fits pool left) n r in
    let m = named_is pool left r.more k.0 k.2 in
    record { least = omega (arith, r.sum, m.low); most = omega (arith, r.sum, m.high) }
