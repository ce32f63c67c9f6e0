-- Putting the constants of a class into its pool, part by part.
use Rattle.std.specs.Prelude.{ℕ, List, [], ◌∷◌, Option, Some, None, Result, Ok, Err}
use Rattle.std.specs.List.{AllByRecursion}
use Rattle.wv_base.specs.declared.class_file.PoolEntry.{PoolEntry}
use Rattle.wv_base.specs.declared.class_file.Body.{Body}
use Rattle.wv_base.specs.declared.class_file.Member.{Member}
use Rattle.wv_base.specs.declared.constant.Const.{Const}
use Rattle.wv_base.specs.declared.note.Note.{Note}
use Rattle.wv_pool.specs.declared.add.PoolFault.{PoolFault}
use Rattle.wv_pool.specs.declared.add.PoolFault.TheVariants as faults
use Rattle.wv_pool.specs.Adding.{AreTooMany, Keeps, Grows}
use Rattle.wv_pool.specs.Allowed.{IsAllowed}
use Rattle.wv_code.specs.FormedBody.{IsFormedBody}
use Rattle.wv_attr.specs.Writing.{AreWritable, AreWritableOf}
use Rattle.wv_class.specs.Tables.{tables_of}
use Rattle.wv_class.specs.Needs.{member_constants}

-- the pool has become longer by what it lacked of the constants, or they are too many for it
abbrev pub PutsAll : List PoolEntry → List PoolEntry → List Const → Result (Unit {0}) PoolFault → Type 0
PutsAll old new cs (Ok done) = Grows old cs new
PutsAll old new cs (Err faults.Full) = Keeps old new × AreTooMany old cs
PutsAll old new cs (Err faults.Memory) = Keeps old new

-- annotations that a table can have: one of parameters has 255 lists at most
abbrev pub IsWritableOf : Option ℕ → List Note → Type 0
IsWritableOf None notes = AreWritable notes
IsWritableOf (Some place) notes = AreWritableOf 255 notes

abbrev pub IsWritableTable : List Note → Type 0
IsWritableTable [] = Unit {0}
IsWritableTable (note ∷ notes) = IsWritableOf note.parameter (note ∷ notes)

abbrev pub AreWritableTables : List Note → Type 0
AreWritableTables notes = AllByRecursion IsWritableTable (tables_of notes)

-- a body that can be written with some pool
abbrev pub IsWritableBody : Option Body → Type 0
IsWritableBody None = Unit {0}
IsWritableBody (Some body) = (pool : List PoolEntry) × IsFormedBody pool body

-- a field or a method whose constants a pool may hold
pub record IsEnterable (m : Member) : Type 0 where
  pub constants : AllByRecursion IsAllowed (member_constants m)
  pub body : IsWritableBody m.body
  pub notes : AreWritableTables m.notes
