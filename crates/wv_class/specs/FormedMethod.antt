-- Methods that a class file can have, part by part (JVM Specification 4.6).
use Rattle.std.specs.Prelude.{◌≡◌, List, IsTrue, None}
use Rattle.std.specs.List.{AllByRecursion}
use Rattle.wv_base.specs.Names.{is_method_name}
use Rattle.wv_base.specs.Descriptor.{IsMethodDescriptor}
use Rattle.wv_base.specs.declared.class_file.PoolEntry.{PoolEntry}
use Rattle.wv_base.specs.declared.class_file.Member.{Member}
use Rattle.wv_pool.specs.Allowed.{IsShort, IsClassText}
use Rattle.wv_class.specs.declared.raw_class.Place.TheVariants as places
use Rattle.wv_class.specs.Flags.{is_bodiless}
use Rattle.wv_class.specs.Formed.{AreFormedKept, AreFormedNotes, HasFormedBody, IsFormedInitializer, IsFormedWidth}

-- a name and a descriptor of a method, each of which has room in the pool
abbrev pub HasFormedName : Member → Type 0
HasFormedName m = (IsTrue (is_method_name m.name) × IsShort m.name) × IsMethodDescriptor m.descriptor × IsShort m.descriptor

-- these and the flags fit each other, and there is no value
abbrev pub HasFormedHead : Member → Type 0
HasFormedHead m = (m.value ≡ None) × IsFormedWidth m × IsFormedInitializer m × HasFormedName m

-- what its attributes mean
abbrev pub HasFormedAttributes : List PoolEntry → Member → Type 0
HasFormedAttributes pool m =
    HasFormedBody pool (is_bodiless m.flags.0) m.body × AllByRecursion IsClassText m.throws × AreFormedNotes places.Method m.notes × AreFormedKept pool places.Method m.kept
