-- How many numbers of a pool constants take, with those behind them.
use Rattle.std.proofs.Common.{◌≡◌, ℕ, ◌+◌, ◌≤◌, Bool, true, false, if◌then◌else◌, List, [], ◌∷◌, ◌++◌, refl, arith}
use Rattle.std.specs.Prelude.{nat_le}
use Rattle.std.specs.List.{sum_by}
use Rattle.std.proofs.lemmas.List.Sums.{sum_by-cons}
use Rattle.wv_base.specs.declared.constant.Const.{Const}
use Rattle.wv_base.specs.declared.constant.Const.TheVariants as constants
use Rattle.wv_base.specs.declared.constant.MemberReference.{MemberReference}
use Rattle.wv_pool.specs.Adding.{numbers_of, needs}
use Rattle.wv_class.specs.Needs.{parts_of}

-- ---- Constants

abbrev pub count : List Const → ℕ
count [] = 0
count (c ∷ cs) = numbers_of c + count cs

pub count_is : (cs : List Const) → sum_by numbers_of cs ≡ count cs
count_is [] = refl
count_is (c ∷ cs) = omega (arith, sum_by-cons numbers_of c cs, count_is cs)

pub count-append : (xs ys : List Const) → count (xs ++ ys) ≡ count xs + count ys
count-append [] ys = omega arith
count-append (c ∷ xs) ys = omega (arith, count-append xs ys)

-- ---- Constants with those behind them

handled_one : (b : Bool) (m : MemberReference) (interface : Bool) → numbers_of (if b then constants.Field m else constants.Method m interface) ≡ 1
handled_one true m interface = refl
handled_one false m interface = refl

-- a handle takes the most
pub needs_few : (c : Const) → count (needs c) ≤ 7
needs_few (constants.Utf8 x) = omega arith
needs_few (constants.Integer v) = omega arith
needs_few (constants.Float b) = omega arith
needs_few (constants.Long v) = omega arith
needs_few (constants.Double b) = omega arith
needs_few (constants.Class x) = omega arith
needs_few (constants.String x) = omega arith
needs_few (constants.Field m) = omega arith
needs_few (constants.Method m interface) = omega arith
needs_few (constants.NameAndType x y) = omega arith
needs_few (constants.MethodHandle kind m interface) = omega (arith, handled_one (nat_le kind 4) m interface)
needs_few (constants.MethodType x) = omega arith
needs_few (constants.InvokeDynamic k x y) = omega arith

abbrev pub parts_count : List Const → ℕ
parts_count cs = count (parts_of cs)

pub parts-append : (xs ys : List Const) → parts_count (xs ++ ys) ≡ parts_count xs + parts_count ys
parts-append [] ys = omega arith
parts-append (c ∷ xs) ys = omega (arith, count-append (parts_of (xs ++ ys)) (needs c), count-append (parts_of xs) (needs c), parts-append xs ys)
