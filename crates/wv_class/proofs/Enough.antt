-- Constants that a pool took aren't too many for it.
use Rattle.std.proofs.Common.{◌≡◌, ℕ, ◌+◌, ◌<◌, ◌≤◌, List, [], ◌∷◌, ◌++◌, length, refl, sym, ap, subst, ◌∙◌, arith, ◌⊎◌, inl, inr}
use Rattle.std.proofs.lemmas.List.{length-append}
use Rattle.wv_base.specs.declared.class_file.PoolEntry.{PoolEntry}
use Rattle.wv_base.specs.declared.constant.Const.{Const}
use Rattle.wv_pool.specs.References.{IsPool}
use Rattle.wv_pool.specs.Numbers.{Named}
use Rattle.wv_pool.specs.Adding.{numbers_of, IsAmong, Lacks, none, named, again, lacked, AreTooMany, Grows}

-- what a pool lacks of constants is one number
one_lack : (pool : List PoolEntry) (cs : List Const) (n m : ℕ) → Lacks pool cs n → Lacks pool cs m → n ≡ m
one_lack pool _ _ _ none none = refl
one_lack pool _ n m (named {cs} h a) (named k b) = one_lack pool cs n m a b
one_lack pool _ n m (named {cs} h a) (again k b) = one_lack pool cs n m a b
one_lack pool _ n _ (named h a) (lacked k l b) = absurd (k h)
one_lack pool _ n m (again {cs} h a) (named k b) = one_lack pool cs n m a b
one_lack pool _ n m (again {cs} h a) (again k b) = one_lack pool cs n m a b
one_lack pool _ n _ (again h a) (lacked k l b) = absurd (l h)
one_lack pool _ _ m (lacked h l a) (named k b) = absurd (h k)
one_lack pool _ _ m (lacked h l a) (again k b) = absurd (l k)
one_lack pool _ _ _ (lacked {c} {cs} {n} h l a) (lacked {n = m} k p b) = ap (λ (x : ℕ). numbers_of c + x) (one_lack pool cs n m a b)

-- and no less than what it lacks of the last of them
last_lacks : (pool : List PoolEntry) (before last : List Const) (n m : ℕ) → Lacks pool (before ++ last) n → Lacks pool last m → m ≤ n
last_lacks pool [] last n m a b = omega (arith, one_lack pool last n m a b)
last_lacks pool (c ∷ before) last n m (named h a) b = last_lacks pool before last n m a b
last_lacks pool (c ∷ before) last n m (again h a) b = last_lacks pool before last n m a b
last_lacks pool (c ∷ before) last _ m (lacked {n} h l a) b = let le = last_lacks pool before last n m a b in omega (arith, le)

pub enough : (old new : List PoolEntry) (cs : List Const) → Grows old cs new → IsPool new → AreTooMany old cs → ⊥
enough old new cs g is many =
    let le = last_lacks old many.before many.last (length g.more) many.more (subst (λ (t : List Const). Lacks old t (length g.more)) many.parts g.lacks) many.lacks in
    let longer = ap length g.longer ∙ length-append old g.more in
    let few = is.0.0 in
    let passes = many.passes in
    absurd (omega (arith, le, longer, few, passes))
