-- What fits has a spelling of that size, and what is spelled fits.
use Rattle.std.proofs.Common.{◌≡◌, ◌≢◌, ℕ, zero, suc, ◌+◌, ◌*◌, ◌-◌, ◌/◌, ◌%◌, ◌<◌, ◌≤◌, ◌⊎◌, arith, subst, refl, inl, inr}
use Rattle.std.proofs.lemmas.Bool.{cases_lt}
use Rattle.wv_room.specs.Frames.{FramesFill, FramesTake, most_more, bytes, plain, numbered, list, same, same_with_one, extended_with_one, chop, append, full}

pub record Reaches (b t l f n : ℕ) : Type 0 where
  pub more : ℕ
  pub size : n ≡ more + (b + t + 2 * l + f)
  pub takes : FramesTake t l f more

after_plain : (t l f more : ℕ) → FramesTake t l f more → FramesTake (suc t) l f more
after_plain t l f more h = record { most = omega (arith, h.most); gap = λ some. let m = h.most in λ e. omega arith; even = λ none. h.even none }

after_numbered : (t l f more : ℕ) → FramesTake t l f more → FramesTake (suc t) l f (more + 2)
after_numbered t l f more h = record { most = omega (arith, h.most); gap = λ some. let g = h.gap some in λ e. g (omega arith); even = λ none. omega (arith, h.even none) }

some_or_none : (l f : ℕ) → (1 ≤ l + f) ⊎ (l + f ≡ 0)
some_or_none zero zero = inr refl
some_or_none zero (suc f) = inl (omega arith)
some_or_none (suc l) f = inl (omega arith)

after_list : (k t l f more : ℕ) → k < 65536 → FramesTake (k + t) l f more → FramesTake t (suc l) f (more + k)
after_list k t l f more lt h = record {
  most = omega (arith, h.most);
  gap = λ some. elim (some_or_none l f) [
    | inl here ↦ let g = h.gap here in let m = h.most in λ e. elim (cases_lt k 65535) [ inl less ↦ omega arith | inr most ↦ g (omega arith) ]
    | inr none ↦ let p = h.even none in let m = h.most in λ e. omega arith
  ];
  even = λ none. absurd (omega arith);
}

zero_more : {t l f more : ℕ} → FramesTake t l f more → FramesTake (0 + t) l f more
zero_more {t = t} {l = l} {f = f} {more = more} h = subst (λ (k : ℕ). FramesTake k l f more) (omega arith) h

one_more : {t l f more : ℕ} → FramesTake (suc t) l f more → FramesTake (1 + t) l f more
one_more {t = t} {l = l} {f = f} {more = more} h = subst (λ (k : ℕ). FramesTake k l f more) (omega arith) h

-- a frame that takes a few bytes and has a few types
after_frame : (k more t l f extra : ℕ) → k ≤ 3 → extra ≤ 393200 → FramesTake (k + t) l f more → FramesTake t l (suc f) (more + extra)
after_frame k more t l f extra few small h = record {
  most = omega (arith, h.most);
  gap = λ some. let m = h.most in λ e. omega arith;
  even = λ none. absurd (omega arith);
}

after_full : (t l f more : ℕ) → FramesTake t (suc (suc l)) f more → FramesTake t l (suc f) (more + 6)
after_full t l f more h = record {
  most = omega (arith, h.most);
  gap = λ some. let g = h.gap (omega arith) in λ e. g (omega arith);
  even = λ none. absurd (omega arith);
}

-- what is spelled fits
pub reached : {b t l f n : ℕ} → FramesFill b t l f n → Reaches b t l f n
reached bytes = record { more = 0; size = omega arith; takes = record { most = omega arith; gap = λ some. absurd (omega arith); even = λ _. omega arith } }
reached (plain h) = let r = reached h in record { more = r.more; size = omega (arith, r.size); takes = after_plain _ _ _ r.more r.takes }
reached (numbered h) = let r = reached h in record { more = r.more + 2; size = omega (arith, r.size); takes = after_numbered _ _ _ r.more r.takes }
reached (list k lt h) = let r = reached h in record { more = r.more + k; size = omega (arith, r.size); takes = after_list k _ _ _ r.more lt r.takes }
reached (same h) = let r = reached h in record { more = r.more + 0; size = omega (arith, r.size); takes = after_frame 0 r.more _ _ _ 0 (omega arith) (omega arith) (zero_more r.takes) }
reached (same_with_one h) = let r = reached h in record { more = r.more + 1; size = omega (arith, r.size); takes = after_frame 1 r.more _ _ _ 1 (omega arith) (omega arith) (one_more r.takes) }
reached (extended_with_one h) = let r = reached h in record { more = r.more + 3; size = omega (arith, r.size); takes = after_frame 1 r.more _ _ _ 3 (omega arith) (omega arith) (one_more r.takes) }
reached (chop h) = let r = reached h in record { more = r.more + 2; size = omega (arith, r.size); takes = after_frame 0 r.more _ _ _ 2 (omega arith) (omega arith) (zero_more r.takes) }
reached (append k lt h) = let r = reached h in record { more = r.more + (2 + k); size = omega (arith, r.size); takes = after_frame k r.more _ _ _ (2 + k) (omega arith) (omega arith) r.takes }
reached (full h) = let r = reached h in record { more = r.more + 6; size = omega (arith, r.size); takes = after_full _ _ _ r.more r.takes }

sized : {b t l f m n : ℕ} → m ≡ n → FramesFill b t l f m → FramesFill b t l f n
sized {b = b} {t = t} {l = l} {f = f} e h = subst (λ (k : ℕ). FramesFill b t l f k) e h

-- each item in its least form
least : (b t l f : ℕ) → FramesFill b t l f (b + t + 2 * l + f)
least b zero zero zero = sized (omega arith) bytes
least b zero zero (suc f) = sized (omega arith) (same (least (b + 1) 0 0 f))
least b zero (suc l) f = sized (omega arith) (list 0 (omega arith) (subst (λ (k : ℕ). FramesFill (b + 2) k l f (b + 2 + 0 + 2 * l + f)) (omega arith) (least (b + 2) 0 l f)))
least b (suc t) l f = sized (omega arith) (plain (least (b + 1) t l f))

-- so many types, so many of them with a number behind the tag
module _ (l f : ℕ) where
  typed : (b k numbers t n : ℕ) → numbers ≤ k → FramesFill (b + k + 2 * numbers) t l f n → FramesFill b (k + t) l f n
  typed b zero numbers t n le h = let e : numbers ≡ 0 = omega arith in
      let g : FramesFill b t l f n = subst (λ (j : ℕ). FramesFill j t l f n) (omega arith) h in subst (λ (j : ℕ). FramesFill b j l f n) (omega arith) g
  typed b (suc k) zero t n le h =
      let g : FramesFill (b + 1 + k + 2 * 0) t l f n = subst (λ (j : ℕ). FramesFill j t l f n) (omega arith) h in
      subst (λ (j : ℕ). FramesFill b j l f n) (omega arith) (plain (typed (b + 1) k 0 t n (omega arith) g))
  typed b (suc k) (suc numbers) t n le h =
      let g : FramesFill (b + 3 + k + 2 * numbers) t l f n = subst (λ (j : ℕ). FramesFill j t l f n) (omega arith) h in
      subst (λ (j : ℕ). FramesFill b j l f n) (omega arith) (numbered (typed (b + 3) k numbers t n (omega arith) g))

-- one list takes everything up to its most, but one byte less
listed : (b t l f n x : ℕ) → x ≤ 196605 → x ≢ 196604 → FramesFill (b + 2 + x) t l f n → FramesFill b t (suc l) f n
listed b t l f n x le gap h = elim (cases_lt x 65536) [
  | inl lt ↦ list x lt (typed l f (b + 2) x 0 t n (omega arith) (subst (λ (j : ℕ). FramesFill j t l f n) (omega arith) h))
  | inr more ↦ elim (cases_lt ((x - 65535) % 2) 1) [
    | inl even ↦ list 65535 (omega arith) (typed l f (b + 2) 65535 ((x - 65535) / 2) t n (omega arith) (subst (λ (j : ℕ). FramesFill j t l f n) (omega arith) h))
    | inr odd ↦ list 65534 (omega arith) (typed l f (b + 2) 65534 ((x - 65534) / 2) t n (omega arith) (subst (λ (j : ℕ). FramesFill j t l f n) (omega arith) h))
  ]
]

few : {b t l f n : ℕ} (k : ℕ) → k < 4 → FramesFill (b + 3 + k) t l f n → FramesFill b t l (suc f) n
few {b = b} {t = t} {l = l} {f = f} {n = n} k lt h = append k lt (typed l f (b + 3) k 0 t n (omega arith) (subst (λ (j : ℕ). FramesFill j t l f n) (omega arith) h))

one : {b t l f n : ℕ} → FramesFill (b + 2) t l f n → FramesFill b t l (suc f) n
one {b = b} {t = t} {l = l} {f = f} {n = n} h = same_with_one (plain (subst (λ (j : ℕ). FramesFill j t l f n) (omega arith) h))

-- two lists
both : (b t l f n x : ℕ) → x ≤ 393210 → x ≢ 393209 → FramesFill (b + 7 + x) t l f n → FramesFill (b + 3) t (suc (suc l)) f n
both b t l f n x le gap h = elim (cases_lt x 196606) [
  | inl lt ↦ elim (cases_lt (x + 1) 196605) [
    | inl less ↦ listed (b + 3) t (suc l) f n x (omega arith) (λ e. omega arith) (listed (b + 3 + 2 + x) t l f n 0 (omega arith) (λ e. omega arith) (subst (λ (j : ℕ). FramesFill j t l f n) (omega arith) h))
    | inr last ↦ elim (cases_lt x 196605) [
      | inl gapped ↦ listed (b + 3) t (suc l) f n 196603 (omega arith) (λ e. omega arith) (listed (b + 3 + 2 + 196603) t l f n 1 (omega arith) (λ e. omega arith) (subst (λ (j : ℕ). FramesFill j t l f n) (omega arith) h))
      | inr whole ↦ listed (b + 3) t (suc l) f n 196605 (omega arith) (λ e. omega arith) (listed (b + 3 + 2 + 196605) t l f n 0 (omega arith) (λ e. omega arith) (subst (λ (j : ℕ). FramesFill j t l f n) (omega arith) h))
    ]
  ]
  | inr more ↦ listed (b + 3) t (suc l) f n 196605 (omega arith) (λ e. omega arith) (listed (b + 3 + 2 + 196605) t l f n (x - 196605) (omega arith) (λ e. gap (omega arith)) (subst (λ (j : ℕ). FramesFill j t l f n) (omega arith) h))
]

-- one frame takes everything up to its most, but one byte less
framed : (b t l f n x : ℕ) → x ≤ 393216 → x ≢ 393215 → FramesFill (b + 1 + x) t l f n → FramesFill b t l (suc f) n
framed b t l f n zero le gap h = same (subst (λ (j : ℕ). FramesFill j t l f n) (omega arith) h)
framed b t l f n (suc zero) le gap h = one (subst (λ (j : ℕ). FramesFill j t l f n) (omega arith) h)
framed b t l f n (suc (suc zero)) le gap h = chop (subst (λ (j : ℕ). FramesFill j t l f n) (omega arith) h)
framed b t l f n (suc (suc (suc zero))) le gap h = few 1 (omega arith) (subst (λ (j : ℕ). FramesFill j t l f n) (omega arith) h)
framed b t l f n (suc (suc (suc (suc zero)))) le gap h = few 2 (omega arith) (subst (λ (j : ℕ). FramesFill j t l f n) (omega arith) h)
framed b t l f n (suc (suc (suc (suc (suc zero))))) le gap h = few 3 (omega arith) (subst (λ (j : ℕ). FramesFill j t l f n) (omega arith) h)
framed b t l f n (suc (suc (suc (suc (suc (suc x)))))) le gap h = full (both b t l f n x (omega arith) (λ e. gap (omega arith)) (subst (λ (j : ℕ). FramesFill j t l f n) (omega arith) h))

-- how the bytes more are parted: what the first item takes of its most, and the rest
pub record Parts (most t l f more : ℕ) : Type 0 where
  pub first : ℕ
  pub rest : ℕ
  pub sum : first + rest ≡ more
  pub le : first ≤ most
  pub gap : first + 1 ≢ most
  pub takes : FramesTake t l f rest

nothing_more : (t l f : ℕ) → FramesTake t l f 0
nothing_more t l f = record { most = omega arith; gap = λ some e. omega arith; even = λ none. omega arith }

absurd_gap : (most t l f more : ℕ) → l + f ≡ 0 → most ≤ more + 1 → more < most → more + 1 ≢ most_more t l f + most → 2 ≤ 2 * t
absurd_gap most zero l f more none a b gap = absurd (gap (omega arith))
absurd_gap most (suc t) l f more none a b gap = omega arith

odd_less : (most t l f more : ℕ) → l + f ≡ 0 → most ≤ more → 1 ≤ (more - most) % 2 → more ≤ most_more t l f + most → more + 1 ≢ most_more t l f + most → more - most + 3 ≤ most_more t l f
odd_less most t l f more none a odd le gap = elim (cases_lt (more + 1) (most_more t l f + most)) [ inl lt ↦ omega arith | inr ge ↦ elim (cases_lt (most_more t l f + most) (more + 1)) [ inl gt ↦ omega arith | inr eq ↦ absurd (gap (omega arith)) ] ]

part : (most t l f more : ℕ) → 100000 ≤ most → more ≤ most_more t l f + most → more + 1 ≢ most_more t l f + most → Parts most t l f more
part most t l f more large le gap = elim (cases_lt more most) [
  | inl lt ↦ elim (cases_lt (more + 1) most) [
    | inl less ↦ record { first = more; rest = 0; sum = omega arith; le = omega arith; gap = λ e. omega arith; takes = nothing_more t l f }
    | inr last ↦ elim (some_or_none l f) [
      | inl some ↦ record { first = more - 1; rest = 1; sum = omega arith; le = omega arith; gap = λ e. omega arith; takes = record { most = omega arith; gap = λ _ e. omega arith; even = λ none. absurd (omega arith) } }
      | inr none ↦ let twice : 2 ≤ 2 * t = absurd_gap most t l f more none last lt gap in
          record { first = more - 2; rest = 2; sum = omega arith; le = omega arith; gap = λ e. omega arith; takes = record { most = omega arith; gap = λ some e. omega arith; even = λ _. omega arith } }
    ]
  ]
  | inr more_than ↦ elim (some_or_none l f) [
    | inl some ↦ record { first = most; rest = more - most; sum = omega arith; le = omega arith; gap = λ e. omega arith; takes = record { most = omega arith; gap = λ _ e. gap (omega arith); even = λ none. absurd (omega arith) } }
    | inr none ↦ elim (cases_lt ((more - most) % 2) 1) [
      | inl even ↦ record { first = most; rest = more - most; sum = omega arith; le = omega arith; gap = λ e. omega arith; takes = record { most = omega arith; gap = λ some e. omega arith; even = λ _. omega arith } }
      | inr odd ↦ let small : more - most + 3 ≤ most_more t l f = odd_less most t l f more none more_than odd le gap in
          record { first = most - 3; rest = more - most + 3; sum = omega arith; le = omega arith; gap = λ e. omega arith; takes = record { most = small; gap = λ some e. omega arith; even = λ _. omega arith } }
    ]
  ]
]

filled : (b t l f more : ℕ) → FramesTake t l f more → FramesFill b t l f (more + (b + t + 2 * l + f))
filled b t l (suc f) more h =
    let p = part 393216 t l f more (omega arith) (omega (arith, h.most)) (λ e. h.gap (omega arith) (omega arith)) in
    framed b t l f _ p.first p.le (λ e. p.gap (omega arith)) (sized (omega (arith, p.sum)) (filled (b + 1 + p.first) t l f p.rest p.takes))
filled b t (suc l) zero more h =
    let p = part 196605 t l 0 more (omega arith) (omega (arith, h.most)) (λ e. h.gap (omega arith) (omega arith)) in
    listed b t l 0 _ p.first p.le (λ e. p.gap (omega arith)) (sized (omega (arith, p.sum)) (filled (b + 2 + p.first) t l 0 p.rest p.takes))
filled b t zero zero more h =
    let even = h.even refl in
    let made : FramesFill b (t + 0) 0 0 (b + t + 2 * (more / 2)) = typed 0 0 b t (more / 2) 0 (b + t + 2 * (more / 2)) (omega (arith, h.most)) bytes in
    sized (omega arith) (subst (λ (k : ℕ). FramesFill b k 0 0 (b + t + 2 * (more / 2))) (omega arith) made)

-- what fits has a spelling of that size
pub spelled : {b t l f n : ℕ} → Reaches b t l f n → FramesFill b t l f n
spelled {b = b} {t = t} {l = l} {f = f} r = sized (omega (arith, r.size)) (filled b t l f r.more r.takes)
