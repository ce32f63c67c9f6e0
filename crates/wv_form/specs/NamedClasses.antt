-- The classes that a class file names: in Class constants, and in descriptors (JVM Specification 4.3, 4.4.1, 4.4.6 and
-- 4.4.9).
use Rattle.std.specs.Prelude.{ℕ, ◌==◌, if◌then◌else◌, List, [], ◌∷◌, ◌++◌, Contains, Option, Some, None}
use Rattle.std.specs.List.{flat_map, slice_split}
use Rattle.wv_base.specs.declared.class_file.ClassFile.{ClassFile}
use Rattle.wv_base.specs.declared.class_file.Member.{Member}
use Rattle.wv_base.specs.declared.class_file.PoolEntry.{PoolEntry}
use Rattle.wv_base.specs.declared.class_file.PoolEntry.TheVariants as entries
use Rattle.wv_pool.specs.References.{text_of}

-- what follows the first `L` of a part of a descriptor, which begins the name of a class
abbrev pub behind_l : List ℕ → List (List ℕ)
behind_l [] = []
behind_l (unit ∷ units) = if unit == 76 then units ∷ [] else behind_l units

-- the classes of a descriptor: each stands between an `L`, which is the first behind the class before it, and a `;`
abbrev pub descriptor_classes : List ℕ → List (List ℕ)
descriptor_classes descriptor = flat_map behind_l (slice_split (λ unit. unit == 59) descriptor)

-- the classes of the name in a Class constant, which is that of a class, or the descriptor of an array
abbrev pub constant_classes : List ℕ → List (List ℕ)
constant_classes [] = []
constant_classes (unit ∷ units) = if unit == 91 then descriptor_classes units else (unit ∷ units) ∷ []

-- the classes of a text that may be there
abbrev pub within : (List ℕ → List (List ℕ)) → Option (List ℕ) → List (List ℕ)
within classes None = []
within classes (Some text) = classes text

-- the classes that an entry of the pool names by itself
abbrev pub entry_classes : List PoolEntry → PoolEntry → List (List ℕ)
entry_classes pool (entries.Class name) = within constant_classes (text_of pool name)
entry_classes pool (entries.NameAndType name descriptor) = within descriptor_classes (text_of pool descriptor)
entry_classes pool (entries.MethodType descriptor) = within descriptor_classes (text_of pool descriptor)
entry_classes pool _ = []

-- the classes of the descriptors of fields or methods
abbrev pub member_classes : List Member → List (List ℕ)
member_classes members = flat_map (λ member. descriptor_classes member.descriptor) members

-- the classes that a class file names
abbrev pub named_classes : ClassFile → List (List ℕ)
named_classes class =
    flat_map (entry_classes class.pool) class.pool ++ member_classes class.fields ++ member_classes class.methods
