-- The same class (our own): what differs at most is the pool, which may be longer, and ldc_w in place of ldc.
use Rattle.std.specs.Prelude.{◌≡◌, ℕ, List, Option, Some, None}
use Rattle.std.specs.List.{AllZip}
use Rattle.wv_base.specs.declared.class_file.PoolEntry.{PoolEntry}
use Rattle.wv_base.specs.declared.class_file.Body.{Body}
use Rattle.wv_base.specs.declared.class_file.Member.{Member}
use Rattle.wv_base.specs.declared.class_file.ClassFile.{ClassFile}
use Rattle.wv_pool.specs.Adding.{Keeps}
use Rattle.wv_code.specs.Code.{AreWidened}
use Rattle.wv_class.specs.Meaning.{Spells}

-- the same body, with ldc_w in place of each ldc whose constant has no number of one byte in the pool
pub record IsSameBody (pool : List PoolEntry) (body other : Body) : Type 0 where
  pub widened : AreWidened pool body.insns other.insns
  pub others : other ≡ record body { insns = other.insns }

abbrev pub IsSameBodyIn : List PoolEntry → Option Body → Option Body → Type 0
IsSameBodyIn pool None None = Unit {0}
IsSameBodyIn pool (Some body) (Some other) = IsSameBody pool body other
IsSameBodyIn pool _ _ = ⊥

pub record IsSameMember (pool : List PoolEntry) (m other : Member) : Type 0 where
  pub body : IsSameBodyIn pool m.body other.body
  pub others : other ≡ record m { body = other.body }

-- the same class with a pool that begins with the first one's
pub record IsSameClass (c other : ClassFile) : Type 0 where
  pub pool : Keeps c.pool other.pool
  pub methods : AllZip (IsSameMember other.pool) c.methods other.methods
  pub others : other ≡ record c { pool = other.pool; methods = other.methods }

-- the bytes spell the same class
pub record Writes (c : ClassFile) (bytes : List ℕ) : Type 0 where
  pub written : ClassFile
  pub same : IsSameClass c written
  pub spelled : Spells bytes written
