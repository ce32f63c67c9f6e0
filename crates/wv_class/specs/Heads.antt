-- What a class file begins with (JVM Specification 4.1).
use Rattle.std.specs.Prelude.{◌≡◌, ℕ, ◌^◌, ◌<◌, List, ◌++◌}
use Rattle.wv_base.specs.declared.class_file.ClassVersion.{ClassVersion}
use Rattle.wv_base.specs.declared.class_file.PoolEntry.{PoolEntry}
use Rattle.wv_pool.specs.Entries.{IsLayout, number_bytes, pool_bytes}
use Rattle.wv_class.specs.Layout.{magic}

-- the bytes are the magic number and the version
pub record SpellsHead (near : ℕ) (version : ClassVersion) (bytes : List ℕ) : Type 0 where
  pub minor : version.minor < 2 ^ 16
  pub major : version.major < 2 ^ 16
  pub spelled : bytes ≡ magic ++ (number_bytes version.minor ++ number_bytes version.major)

-- the bytes are those of the pool
pub record SpellsPool (near : ℕ) (pool : List PoolEntry) (bytes : List ℕ) : Type 0 where
  pub layout : IsLayout pool
  pub spelled : bytes ≡ pool_bytes pool
