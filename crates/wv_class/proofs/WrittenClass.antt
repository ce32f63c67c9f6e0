-- The bytes of a class file, put together.
use Rattle.std.proofs.Common.{◌≡◌, ℕ, ◌+◌, ◌-◌, ◌^◌, ◌<◌, List, ◌++◌, length, refl, ap, subst, ◌∙◌, append_assoc, inl, inr, arith}
use Rattle.std.proofs.lemmas.List.{length-append}
use Rattle.wv_base.specs.declared.class_file.PoolEntry.{PoolEntry}
use Rattle.wv_base.specs.declared.class_file.ClassFile.{ClassFile}
use Rattle.wv_base.specs.declared.fault.LimitFault.{LimitFault}
use Rattle.wv_base.specs.declared.fault.LimitFault.TheVariants as faults
use Rattle.wv_pool.specs.Adding.{Grows}
use Rattle.wv_pool.specs.Entries.{number_bytes, pool_bytes}
use Rattle.wv_pool.specs.References.{IsPool}
use Rattle.wv_pool.proofs.PoolReads.{no_break}
use Rattle.wv_class.specs.declared.raw_class.RawClass.{RawClass}
use Rattle.wv_class.specs.Breaks.{Breaks, pool as in_pool, rest as in_rest}
use Rattle.wv_class.specs.Laid.{LayoutsBreak}
use Rattle.wv_class.specs.Layout.{magic, SpellsRest, IsClass}
use Rattle.wv_class.specs.Limits.{HasLongList, IsTooLong, IsCause}
use Rattle.wv_class.specs.Meaning.{Spells}
use Rattle.wv_class.specs.Needs.{class_needs}
use Rattle.wv_class.specs.Same.{Writes}
use Rattle.wv_class.specs.Writing.{WritesRest}
use Rattle.wv_class.proofs.Enough.{enough}

-- a pool that took all constants of a class with no long list shows that the class isn't too long
pub not_long : (c : ClassFile) (pool : List PoolEntry) → (HasLongList c → ⊥) → IsPool pool → Grows c.pool (class_needs c) pool → IsTooLong c → ⊥
not_long c pool lists sound grows (inl long) = lists long
not_long c pool lists sound grows (inr many) = enough c.pool pool (class_needs c) grows sound many

-- the code of a method passes a limit where the pool has all constants
pub layouts_cause : (c : ClassFile) (pool : List PoolEntry) (fault : LimitFault) → (HasLongList c → ⊥) → IsPool pool → Grows c.pool (class_needs c) pool → LayoutsBreak pool c.methods fault → IsCause c fault
layouts_cause c pool faults.PoolLarge lists sound grows h = absurd h
layouts_cause c pool faults.CodeLarge lists sound grows h = record { short = not_long c pool lists sound grows; pool = pool; sound = sound; grows = grows; first = h }
layouts_cause c pool faults.BranchFar lists sound grows h = record { short = not_long c pool lists sound grows; pool = pool; sound = sound; grows = grows; first = h }
layouts_cause c pool faults.Memory lists sound grows h = tt

module _ (c : ClassFile) (pool : List PoolEntry) (rest bytes : List ℕ) (minor : c.version.minor < 2 ^ 16) (major : c.version.major < 2 ^ 16) (sound : IsPool pool) (w : WritesRest pool c rest)
    (is : bytes ≡ ((magic ++ (number_bytes c.version.minor ++ number_bytes c.version.major)) ++ pool_bytes pool) ++ rest) where
  raw : RawClass
  raw = record { version = c.version; pool = pool; rest = w.rest }

  near : length rest ≡ length bytes - 8 - length (pool_bytes pool)
  near =
      let eight : length (magic ++ (number_bytes c.version.minor ++ number_bytes c.version.major)) ≡ 8 = refl in
      let whole : length bytes ≡ 8 + length (pool_bytes pool) + length rest =
      ap length is ∙ length-append ((magic ++ (number_bytes c.version.minor ++ number_bytes c.version.major)) ++ pool_bytes pool) rest
      ∙ ap (λ (n : ℕ). n + length rest) (length-append (magic ++ (number_bytes c.version.minor ++ number_bytes c.version.major)) (pool_bytes pool)) in
      omega (arith, whole)

  no_breaks : (at : ℕ) → Breaks raw at → ⊥
  unfolding raw
  no_breaks at (in_pool {at = place} h) = no_break pool place sound h
  no_breaks at (in_rest {at = place} h) = w.sound place h

  layout : IsClass raw bytes
  unfolding raw
  layout = record {
    minor = minor;
    major = major;
    pool = sound.0;
    rest = rest;
    rest_is = subst (λ (n : ℕ). SpellsRest pool n w.rest rest) near w.spelled;
    spelled = is ∙ append_assoc (magic ++ (number_bytes c.version.minor ++ number_bytes c.version.major)) (pool_bytes pool) rest;
  }

  spells : Spells bytes w.written
  unfolding raw
  spells = record { raw = raw; layout = layout; sound = no_breaks; means = w.means raw refl refl refl }

  pub writes : Writes c bytes
  writes = record { written = w.written; same = w.same; spelled = spells }
