-- What reading a class finds and where it breaks.
use Rattle.std.proofs.Common.{◌≡◌, ℕ, ◌+◌, ◌≤◌, List, length, Option, Some, None, refl, sym, subst, arith}
use Rattle.wv_base.specs.declared.class_file.PoolEntry.{PoolEntry}
use Rattle.wv_base.specs.declared.class_file.ClassFile.{ClassFile}
use Rattle.wv_base.specs.declared.fault.ClassFault.{ClassFault}
use Rattle.wv_base.specs.declared.fault.ClassFault.TheVariants as faults
use Rattle.wv_pool.specs.Entries.{pool_bytes}
use Rattle.wv_pool.specs.References.{FirstBreaks, IsPool}
use Rattle.wv_pool.proofs.PoolReads.{no_break}
use Rattle.wv_code.specs.Least.{IsLeastOf, Behind}
use Rattle.wv_class.specs.declared.raw_class.RawClass.{RawClass}
use Rattle.wv_class.specs.Meaning.{Spells, ClassBreaks}
use Rattle.wv_class.specs.Reading.{PoolBreaks}
use Rattle.wv_class.specs.Layout.{IsClass}
use Rattle.wv_class.specs.Breaks.{RestBreaks, Breaks, pool, rest, FirstBreak, IsSound}
use Rattle.wv_class.proofs.PoolBreaks.{break_within, one_break}

-- a break of the pool is the class's first
pub pool_first : (c : RawClass) (at : ℕ) → FirstBreaks c.pool at → FirstBreak c (8 + at)
pool_first c at b = record { holds = pool b; least = least }
  where
    least : (n : ℕ) → Breaks c n → 8 + at ≤ n
    least _ (pool {at = other} d) = let same = one_break c.pool at other b d in omega (arith, same)
    least _ (rest {at = other} d) = let w = break_within c.pool at b in omega (arith, w)

-- in a sound pool the first break behind it is
pub rest_first : (c : RawClass) (at : ℕ) → IsPool c.pool → IsLeastOf (Behind (8 + length (pool_bytes c.pool)) (RestBreaks c.pool c.rest)) (Some at) → FirstBreak c at
rest_first c at sound b = record { holds = subst (Breaks c) (sym b.holds.2) (rest b.holds.1); least = least }
  where
    least : (n : ℕ) → Breaks c n → at ≤ n
    least _ (pool {at = other} d) = absurd (no_break c.pool other sound d)
    least _ (rest {at = other} d) = b.least (8 + length (pool_bytes c.pool) + other) (other, d, refl)

pub none_behind : (c : RawClass) → IsLeastOf (Behind (8 + length (pool_bytes c.pool)) (RestBreaks c.pool c.rest)) None → (at : ℕ) → RestBreaks c.pool c.rest at → ⊥
none_behind c b at d = b.least (8 + length (pool_bytes c.pool) + at) (at, d, refl)

-- where nothing breaks, the class is sound
pub class_sound : (c : RawClass) → IsPool c.pool → ((at : ℕ) → RestBreaks c.pool c.rest at → ⊥) → IsSound c
class_sound c sound none _ (pool {at = other} d) = no_break c.pool other sound d
class_sound c sound none _ (rest {at = other} d) = none other d

-- ---- faults

-- a fault of the pool is one of the class
pub pool_breaks : (c : RawClass) (bytes : List ℕ) (e : ClassFault) → IsClass c bytes → PoolBreaks c.pool e → ClassBreaks bytes e
pool_breaks c bytes (faults.Layout at) is b = absurd b
pool_breaks c bytes (faults.Reference at) is b = record { raw = c; layout = is; breaks = subst (FirstBreak c) (sym b.2) (pool_first c b.0 b.1) }
pool_breaks c bytes faults.Memory is b = tt

-- where the pool breaks, the bytes spell no class
pub pool_only : (c : RawClass) (bytes : List ℕ) (e : ClassFault) → PoolBreaks c.pool e → (class : ClassFile) (s : Spells bytes class) → c ≡ s.raw → e ≡ faults.Memory
pool_only c bytes (faults.Layout at) b class s same = absurd b
pool_only c bytes (faults.Reference at) b class s same = absurd (s.sound (8 + b.0) (subst (λ (r : RawClass). Breaks r (8 + b.0)) same (pool b.1)))
pool_only c bytes faults.Memory b class s same = refl

-- nor where what stands behind it does
pub rest_only : (c : RawClass) (bytes : List ℕ) (at : ℕ) → FirstBreak c at → (class : ClassFile) (s : Spells bytes class) → c ≡ s.raw → ⊥
rest_only c bytes at b class s same = s.sound at (subst (λ (r : RawClass). Breaks r at) same b.holds)

-- ---- as the code finds it

pub first_at : (c : RawClass) (base at : ℕ) (entries : List PoolEntry) (o : Option ℕ) → IsPool c.pool → base ≡ 8 + length (pool_bytes c.pool) → entries ≡ c.pool → o ≡ Some at → IsLeastOf (Behind base (RestBreaks entries c.rest)) o → FirstBreak c at
first_at c base at entries o sound behind same is b =
    rest_first c at sound (subst (IsLeastOf (Behind (8 + length (pool_bytes c.pool)) (RestBreaks c.pool c.rest))) is
    (subst (λ (p : List PoolEntry). IsLeastOf (Behind (8 + length (pool_bytes c.pool)) (RestBreaks p c.rest)) o) same
    (subst (λ (n : ℕ). IsLeastOf (Behind n (RestBreaks entries c.rest)) o) behind b)))

pub none_at : (c : RawClass) (base : ℕ) (entries : List PoolEntry) (o : Option ℕ) → base ≡ 8 + length (pool_bytes c.pool) → entries ≡ c.pool → o ≡ None → IsLeastOf (Behind base (RestBreaks entries c.rest)) o → (at : ℕ) → RestBreaks c.pool c.rest at → ⊥
none_at c base entries o behind same is b =
    none_behind c (subst (IsLeastOf (Behind (8 + length (pool_bytes c.pool)) (RestBreaks c.pool c.rest))) is
    (subst (λ (p : List PoolEntry). IsLeastOf (Behind (8 + length (pool_bytes c.pool)) (RestBreaks p c.rest)) o) same
    (subst (λ (n : ℕ). IsLeastOf (Behind n (RestBreaks entries c.rest)) o) behind b)))
