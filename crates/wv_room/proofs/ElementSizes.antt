-- What fits has a spelling of that size, and what is spelled fits.
use Rattle.std.proofs.Common.{◌≡◌, ℕ, zero, suc, ◌+◌, ◌*◌, arith, subst, refl}
use Rattle.wv_room.specs.Elements.{ElementsFill, Takes, bytes, constant, enumerator, nested, array, annotation, parameter}

pub record Reaches (b v a p n : ℕ) : Type 0 where
  pub more : ℕ
  pub size : n ≡ more + (b + 3 * v + 4 * a + 2 * p)
  pub takes : Takes v a p more

after_constant : (v a p more : ℕ) → Takes v a p more → Takes (suc v) a p more
after_constant v a p more t = record {
  nothing = λ e. omega arith;
  one = λ e. omega arith;
  two = λ e. omega arith;
  three = λ e. omega arith;
  four = λ e. omega arith;
  five = λ e. omega arith;
  six = λ e. omega arith;
  seven = λ e. omega arith;
  nine = λ e. omega arith;
  ten = λ e. omega arith;
}

after_enumerator : (v a p more : ℕ) → Takes v a p more → Takes (suc v) a p (more + 2)
after_enumerator v a p more t = record {
  nothing = λ e. omega arith;
  one = λ e. omega arith;
  two = λ e. omega arith;
  three = λ e. omega arith;
  four = λ e. omega arith;
  five = λ e. omega arith;
  six = λ e. omega arith;
  seven = λ e. omega arith;
  nine = λ e. omega arith;
  ten = λ e. omega arith;
}

after_nested : (v a p more : ℕ) → Takes v (suc a) p more → Takes (suc v) a p (more + 2)
after_nested v a p more t = record {
  nothing = λ e. omega arith;
  one = λ e. omega arith;
  two = λ e. omega arith;
  three = λ e. omega arith;
  four = λ e. omega arith;
  five = λ e. omega arith;
  six = λ e. omega arith;
  seven = λ e. omega arith;
  nine = λ e. omega arith;
  ten = λ e. omega arith;
}

after_array : (k v a p more : ℕ) → Takes (k + v) a p more → Takes (suc v) a p (more + 3 * k)
after_array k v a p more t = record {
  nothing = λ e. omega arith;
  one = λ e. omega arith;
  two = λ e. omega arith;
  three = λ e. omega arith;
  four = λ e. omega arith;
  five = λ e. omega arith;
  six = λ e. omega arith;
  seven = λ e. omega arith;
  nine = λ e. omega arith;
  ten = λ e. omega arith;
}

after_annotation : (k v a p more : ℕ) → Takes (k + v) a p more → Takes v (suc a) p (more + 5 * k)
after_annotation k v a p more t = record {
  nothing = λ e. omega arith;
  one = λ e. omega arith;
  two = λ e. omega arith;
  three = λ e. omega arith;
  four = λ e. omega arith;
  five = λ e. omega arith;
  six = λ e. omega arith;
  seven = λ e. omega arith;
  nine = λ e. grind arith;
  ten = λ e. omega arith;
}

after_parameter : (k v a p more : ℕ) → Takes v (k + a) p more → Takes v a (suc p) (more + 4 * k)
after_parameter k v a p more t = record {
  nothing = λ e. omega arith;
  one = λ e. omega arith;
  two = λ e. omega arith;
  three = λ e. omega arith;
  four = λ e. omega arith;
  five = λ e. grind arith;
  six = λ e. grind arith;
  seven = λ e. grind arith;
  nine = λ e. omega arith;
  ten = λ e. grind arith;
}

-- what is spelled fits
pub reached : {b v a p n : ℕ} → ElementsFill b v a p n → Reaches b v a p n
reached {b = b} bytes = record {
  more = 0;
  size = omega arith;
  takes = record {
    nothing = λ e. omega arith;
    one = λ e. omega arith;
    two = λ e. omega arith;
    three = λ e. omega arith;
    four = λ e. omega arith;
    five = λ e. omega arith;
    six = λ e. omega arith;
    seven = λ e. omega arith;
    nine = λ e. omega arith;
    ten = λ e. omega arith;
  };
}
reached (constant f) = let r = reached f in record { more = r.more; size = omega (arith, r.size); takes = after_constant _ _ _ r.more r.takes }
reached (enumerator f) = let r = reached f in record { more = r.more + 2; size = omega (arith, r.size); takes = after_enumerator _ _ _ r.more r.takes }
reached (nested f) = let r = reached f in record { more = r.more + 2; size = omega (arith, r.size); takes = after_nested _ _ _ r.more r.takes }
reached (array k h f) = let r = reached f in record { more = r.more + 3 * k; size = omega (arith, r.size); takes = after_array k _ _ _ r.more r.takes }
reached (annotation k h f) = let r = reached f in record { more = r.more + 5 * k; size = omega (arith, r.size); takes = after_annotation k _ _ _ r.more r.takes }
reached (parameter k h f) = let r = reached f in record { more = r.more + 4 * k; size = omega (arith, r.size); takes = after_parameter k _ _ _ r.more r.takes }

sized : {b v a p m n : ℕ} → m ≡ n → ElementsFill b v a p m → ElementsFill b v a p n
sized {b = b} {v = v} {a = a} {p = p} e f = subst (λ (k : ℕ). ElementsFill b v a p k) e f

-- each item in its least form
least : (b v a p : ℕ) → ElementsFill b v a p (b + 3 * v + 4 * a + 2 * p)
least b zero zero zero = sized (omega arith) bytes
least b zero zero (suc p) = sized (omega arith) (parameter 0 (omega arith) (least (b + 2) 0 0 p))
least b zero (suc a) p = sized (omega arith) (annotation 0 (omega arith) (least (b + 4 + 2 * 0) 0 a p))
least b (suc v) a p = sized (omega arith) (constant (least (b + 3) v a p))

-- a list of one item, or of two
listed : {b v a p n : ℕ} → ElementsFill (b + 3) (suc v) a p n → ElementsFill b (suc v) a p n
listed {b = b} {v = v} {a = a} {p = p} {n = n} f = array 1 (omega arith) (subst (λ (k : ℕ). ElementsFill (b + 3) k a p n) (omega arith) f)

paired : {b v a p n : ℕ} → ElementsFill (b + 6) (suc v) a p n → ElementsFill b v (suc a) p n
paired {b = b} {v = v} {a = a} {p = p} {n = n} f = annotation 1 (omega arith) (let g : ElementsFill (b + 4 + 2 * 1) (suc v) a p n = subst (λ (k : ℕ). ElementsFill k (suc v) a p n) (omega arith) f in subst (λ (k : ℕ). ElementsFill (b + 4 + 2 * 1) k a p n) (omega arith) g)

annotated : {b v a p n : ℕ} → ElementsFill (b + 2) v (suc a) p n → ElementsFill b v a (suc p) n
annotated {b = b} {v = v} {a = a} {p = p} {n = n} f = parameter 1 (omega arith) (subst (λ (k : ℕ). ElementsFill (b + 2) v k p n) (omega arith) f)

annotated_twice : {b v a p n : ℕ} → ElementsFill (b + 2) v (suc (suc a)) p n → ElementsFill b v a (suc p) n
annotated_twice {b = b} {v = v} {a = a} {p = p} {n = n} f = parameter 2 (omega arith) (subst (λ (k : ℕ). ElementsFill (b + 2) v k p n) (omega arith) f)

-- a value takes each size from 5 more on
large : (b v a p more : ℕ) → ElementsFill b (suc v) a p (more + 5 + (b + 3 * suc v + 4 * a + 2 * p))
large b v a p zero = sized (omega arith) (listed (enumerator (least (b + 3 + 5) v a p)))
large b v a p (suc zero) = sized (omega arith) (listed (listed (least (b + 3 + 3) (suc v) a p)))
large b v a p (suc (suc zero)) = sized (omega arith) (nested (paired (least (b + 1 + 6) (suc v) a p)))
large b v a p (suc (suc (suc more))) = sized (omega arith) (listed (large (b + 3) v a p more))

-- so many bytes more than in the least forms
abbrev Longer : (b v a p more : ℕ) → Type 0
Longer b v a p more = ElementsFill b v a p (more + (b + 3 * v + 4 * a + 2 * p))

-- one value, whatever else there is, takes 0, 2, 3, and all from 5 on
valued : (b v a p more : ℕ) → Takes (suc v) a p more → Longer b (suc v) a p more
valued b v a p zero t = sized (omega arith) (least b (suc v) a p)
valued b v a p (suc zero) t = absurd (t.one refl)
valued b v a p (suc (suc zero)) t = sized (omega arith) (enumerator (least (b + 5) v a p))
valued b v a p (suc (suc (suc zero))) t = sized (omega arith) (listed (least (b + 3) (suc v) a p))
valued b zero a zero (suc (suc (suc (suc zero)))) t = absurd (omega (arith, t.four refl))
valued b zero a (suc p) (suc (suc (suc (suc zero)))) t = sized (omega arith) (annotated (least (b + 2) 1 (suc a) p))
valued b (suc v) a p (suc (suc (suc (suc zero)))) t = sized (omega arith) (enumerator (enumerator (least (b + 5 + 5) v a p)))
valued b v a p (suc (suc (suc (suc (suc more))))) t = sized (omega arith) (large b v a p more)

-- with no value, one annotation takes 0, 5, 7, 8 and all from 10 on, and an annotated parameter 4 more
noted : (b a p more : ℕ) → Takes 0 (suc a) p more → Longer b 0 (suc a) p more
noted b a p zero t = sized (omega arith) (least b 0 (suc a) p)
noted b a p (suc zero) t = absurd (t.one refl)
noted b a p (suc (suc zero)) t = absurd (omega (arith, t.two refl))
noted b a p (suc (suc (suc zero))) t = absurd (omega (arith, t.three refl))
noted b a zero (suc (suc (suc (suc zero)))) t = absurd (omega (arith, t.four refl))
noted b a (suc p) (suc (suc (suc (suc zero)))) t = sized (omega arith) (annotated (least (b + 2) 0 (suc (suc a)) p))
noted b a p (suc (suc (suc (suc (suc zero))))) t = sized (omega arith) (paired (least (b + 6) 1 a p))
noted b a p (suc (suc (suc (suc (suc (suc zero)))))) t = absurd (omega (arith, t.six refl))
noted b a p (suc (suc (suc (suc (suc (suc (suc zero))))))) t = sized (omega arith) (paired (enumerator (least (b + 6 + 5) 0 a p)))
noted b a p (suc (suc (suc (suc (suc (suc (suc (suc zero)))))))) t = sized (omega arith) (paired (listed (least (b + 6 + 3) 1 a p)))
noted b a zero (suc (suc (suc (suc (suc (suc (suc (suc (suc zero))))))))) t = absurd (omega (arith, t.nine refl))
noted b a (suc p) (suc (suc (suc (suc (suc (suc (suc (suc (suc zero))))))))) t = sized (omega arith) (annotated (paired (least (b + 2 + 6) 1 (suc a) p)))
noted b a p (suc (suc (suc (suc (suc (suc (suc (suc (suc (suc more)))))))))) t = sized (omega arith) (paired (large (b + 6) 0 a p more))

-- parameters alone
bare : (b p more : ℕ) → Takes 0 0 (suc p) more → Longer b 0 0 (suc p) more
bare b p zero t = sized (omega arith) (least b 0 0 (suc p))
bare b p (suc zero) t = absurd (t.one refl)
bare b p (suc (suc zero)) t = absurd (omega (arith, t.two refl))
bare b p (suc (suc (suc zero))) t = absurd (omega (arith, t.three refl))
bare b p (suc (suc (suc (suc zero)))) t = sized (omega arith) (annotated (least (b + 2) 0 1 p))
bare b p (suc (suc (suc (suc (suc zero))))) t = absurd (omega (arith, t.five refl))
bare b p (suc (suc (suc (suc (suc (suc zero)))))) t = absurd (omega (arith, t.six refl))
bare b p (suc (suc (suc (suc (suc (suc (suc zero))))))) t = absurd (omega (arith, t.seven refl))
bare b p (suc (suc (suc (suc (suc (suc (suc (suc zero)))))))) t = sized (omega arith) (annotated_twice (least (b + 2) 0 2 p))
bare b p (suc (suc (suc (suc (suc (suc (suc (suc (suc zero))))))))) t = sized (omega arith) (annotated (paired (least (b + 2 + 6) 1 0 p)))
bare b p (suc (suc (suc (suc (suc (suc (suc (suc (suc (suc zero)))))))))) t = absurd (omega (arith, t.ten refl))
bare b p (suc (suc (suc (suc (suc (suc (suc (suc (suc (suc (suc zero))))))))))) t = sized (omega arith) (annotated (paired (enumerator (least (b + 2 + 6 + 5) 0 0 p))))
bare b p (suc (suc (suc (suc (suc (suc (suc (suc (suc (suc (suc (suc zero)))))))))))) t = sized (omega arith) (annotated (paired (listed (least (b + 2 + 6 + 3) 1 0 p))))
bare b p (suc (suc (suc (suc (suc (suc (suc (suc (suc (suc (suc (suc (suc zero))))))))))))) t = sized (omega arith) (annotated_twice (paired (least (b + 2 + 6) 1 1 p)))
bare b p (suc (suc (suc (suc (suc (suc (suc (suc (suc (suc (suc (suc (suc (suc more)))))))))))))) t = sized (omega arith) (annotated (paired (large (b + 2 + 6) 0 0 p more)))

filled : (b v a p more : ℕ) → Takes v a p more → Longer b v a p more
filled b (suc v) a p more t = valued b v a p more t
filled b zero (suc a) p more t = noted b a p more t
filled b zero zero (suc p) more t = bare b p more t
filled b zero zero zero more t = sized (omega (arith, t.nothing (omega arith))) (least b 0 0 0)

-- what fits has a spelling of that size
pub spelled : {b v a p n : ℕ} → Reaches b v a p n → ElementsFill b v a p n
spelled {b = b} {v = v} {a = a} {p = p} r = sized (omega (arith, r.size)) (filled b v a p r.more r.takes)
