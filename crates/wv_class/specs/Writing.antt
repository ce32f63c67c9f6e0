-- What is written of a class behind its pool (JVM Specification 4.1), before its pool is.
use Rattle.std.specs.Prelude.{◌≡◌, ℕ, List, length}
use Rattle.wv_base.specs.declared.class_file.PoolEntry.{PoolEntry}
use Rattle.wv_base.specs.declared.class_file.Member.{Member}
use Rattle.wv_base.specs.declared.class_file.ClassFile.{ClassFile}
use Rattle.wv_class.specs.declared.raw_class.RawClass.{RawClass}
use Rattle.wv_class.specs.declared.raw_class.RawRest.{RawRest}
use Rattle.wv_class.specs.Layout.{SpellsRest}
use Rattle.wv_class.specs.Breaks.{RestBreaks}
use Rattle.wv_class.specs.Meaning.{IsClassOf}
use Rattle.wv_class.specs.Same.{IsSameClass}

-- the bytes stand behind the pool in a class file in which each item meets what it must, and which means the same class
pub record WritesRest (pool : List PoolEntry) (c : ClassFile) (bytes : List ℕ) : Type 0 where
  pub rest : RawRest
  pub spelled : SpellsRest pool (length bytes) rest bytes
  pub sound : (at : ℕ) → RestBreaks pool rest at → ⊥
  pub written : ClassFile
  pub own : written.pool ≡ pool
  pub same : IsSameClass c written
  pub means : (raw : RawClass) → raw.version ≡ c.version → raw.pool ≡ pool → raw.rest ≡ rest → IsClassOf raw written
