-- The bytes that a class is written to under its mixin (Mixin 0.8.5, @Overwrite).
use Rattle.std.specs.Prelude.{◌≡◌, ℕ, nat_le, if◌then◌else◌, List, ◌++◌}
use Rattle.wv_base.specs.declared.class_file.ClassFile.{ClassFile}
use Rattle.wv_base.specs.declared.class_file.ClassVersion.{ClassVersion}
use Rattle.wv_base.specs.declared.class_file.PoolEntry.{PoolEntry}
use Rattle.wv_class.specs.Meaning.{Spells}
use Rattle.wv_model.specs.MemberTable.{IsTable}
use Rattle.wv_model.specs.PlainMethod.{HasPlainMethods}
use Rattle.wv_merge.specs.Applied.{applied}

-- the greater major version of the two classes; where it is raised, the minor one is 0
abbrev pub written_version : (target mixin : ClassVersion) → ClassVersion
written_version target mixin =
    if nat_le mixin.major target.major then target else record { major = mixin.major; minor = 0 }

-- the bytes spell the target with the version and with the methods of the table, and with a pool that begins with the one
-- that was read; its methods have plain code that verifies
pub record IsWritten (target mixin : ClassFile) (bytes : List ℕ) : Type 0 where
  pub class : ClassFile
  pub spelled : Spells bytes class
  pub version : class.version ≡ written_version target.version mixin.version
  pub table : IsTable (applied target mixin) target.methods class.methods
  pub plain : HasPlainMethods class
  pub more : List PoolEntry
  pub same_front : class.pool ≡ target.pool ++ more
  -- all else is as it was read: name, superclass, flags, interfaces, fields, annotations and attributes that are kept
  pub others : class ≡ record target { version = class.version; methods = class.methods; pool = class.pool }
