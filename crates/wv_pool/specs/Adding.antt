-- What adding a constant does to a pool.
use Rattle.std.specs.Prelude.{◌≡◌, ℕ, ◌+◌, ◌<◌, Bool, nat_le, List, [], ◌∷◌, ◌++◌, length, Result, Ok, Err, ◌⊎◌, if◌then◌else◌}
use Rattle.std.specs.List.{AllByRecursion}
use Rattle.wv_base.specs.declared.class_file.PoolEntry.{PoolEntry}
use Rattle.wv_base.specs.declared.class_file.PoolEntry.TheVariants as entries
use Rattle.wv_base.specs.declared.constant.Const.{Const}
use Rattle.wv_base.specs.declared.constant.Const.TheVariants as constants
use Rattle.wv_base.specs.declared.constant.MemberReference.{MemberReference}
use Rattle.wv_pool.specs.declared.add.PoolFault.{PoolFault}
use Rattle.wv_pool.specs.declared.add.PoolFault.TheVariants as faults
use Rattle.wv_pool.specs.Reading.{is_wide}
use Rattle.wv_pool.specs.Numbers.{IsLeast, Named}

-- an entry, and the number behind it where it takes two
abbrev pub slots_of : PoolEntry → List PoolEntry
slots_of entry = if is_wide entry then entry ∷ entries.Unusable ∷ [] else entry ∷ []

-- how many numbers a constant takes: a long and a double take two (JVM Specification 4.4.5)
abbrev pub numbers_of : Const → ℕ
numbers_of (constants.Long value) = 2
numbers_of (constants.Double bits) = 2
numbers_of _ = 1

abbrev pub class_needs : List ℕ → List Const
class_needs name = constants.Class name ∷ constants.Utf8 name ∷ []

abbrev pub pair_needs : List ℕ → List ℕ → List Const
pair_needs name descriptor = constants.NameAndType name descriptor ∷ constants.Utf8 descriptor ∷ constants.Utf8 name ∷ []

abbrev pub member_needs : MemberReference → List Const
member_needs m = pair_needs m.name m.descriptor ++ class_needs m.owner

-- what a handle names: kinds up to 4 are of fields (4.4.8)
abbrev pub handled : ℕ → MemberReference → Bool → Const
handled kind m interface = if nat_le kind 4 then constants.Field m else constants.Method m interface

-- a constant and the constants behind it
abbrev pub needs : Const → List Const
needs (constants.Utf8 name) = constants.Utf8 name ∷ []
needs (constants.Integer value) = constants.Integer value ∷ []
needs (constants.Float bits) = constants.Float bits ∷ []
needs (constants.Long value) = constants.Long value ∷ []
needs (constants.Double bits) = constants.Double bits ∷ []
needs (constants.Class name) = class_needs name
needs (constants.String text) = constants.String text ∷ constants.Utf8 text ∷ []
needs (constants.Field m) = constants.Field m ∷ member_needs m
needs (constants.Method m interface) = constants.Method m interface ∷ member_needs m
needs (constants.NameAndType name descriptor) = pair_needs name descriptor
needs (constants.MethodHandle kind m interface) = constants.MethodHandle kind m interface ∷ handled kind m interface ∷ member_needs m
needs (constants.MethodType descriptor) = constants.MethodType descriptor ∷ constants.Utf8 descriptor ∷ []
needs (constants.InvokeDynamic bootstrap name descriptor) = constants.InvokeDynamic bootstrap name descriptor ∷ pair_needs name descriptor

abbrev pub IsAmong : List Const → Const → Type 0
IsAmong [] c = ⊥
IsAmong (d ∷ others) c = (d ≡ c) ⊎ IsAmong others c

-- those of the constants that no number of the pool names take so many numbers, each counted once
pub data Lacks (pool : List PoolEntry) : List Const → ℕ → Type 0 where
  none : Lacks pool [] 0
  named : {c : Const} {cs : List Const} {n : ℕ} → Named pool c → Lacks pool cs n → Lacks pool (c ∷ cs) n
  again : {c : Const} {cs : List Const} {n : ℕ} → IsAmong cs c → Lacks pool cs n → Lacks pool (c ∷ cs) n
  lacked : {c : Const} {cs : List Const} {n : ℕ} → (Named pool c → ⊥) → (IsAmong cs c → ⊥) → Lacks pool cs n → Lacks pool (c ∷ cs) (numbers_of c + n)

-- the last of the constants alone would make the pool's count pass 65,535 (4.1)
pub record AreTooMany (pool : List PoolEntry) (cs : List Const) : Type 0 where
  pub before : List Const
  pub last : List Const
  pub more : ℕ
  pub parts : cs ≡ before ++ last
  pub lacks : Lacks pool last more
  pub passes : 65535 < length pool + 1 + more

-- the pool keeps its numbers
abbrev pub Keeps : List PoolEntry → List PoolEntry → Type 0
Keeps old new = (more : List PoolEntry) × (new ≡ old ++ more)

-- the pool has become longer by what it lacked of these constants, all of which it names now
pub record Grows (old : List PoolEntry) (cs : List Const) (new : List PoolEntry) : Type 0 where
  pub more : List PoolEntry
  pub longer : new ≡ old ++ more
  pub lacks : Lacks old cs (length more)
  pub all : AllByRecursion (Named new) cs
  pub only : (c : Const) → Named new c → Named old c ⊎ IsAmong cs c

-- A constant and those behind it, which are these, were added, maybe after others.
abbrev pub Adds : List PoolEntry → List PoolEntry → List Const → Const → Result ℕ PoolFault → Type 0
Adds old new cs c (Ok n) = Keeps old new × IsLeast new c n × ((pool : List PoolEntry) (before : List Const) → Grows pool before old → Grows pool (cs ++ before) new)
Adds old new cs c (Err faults.Full) = Keeps old new × ((pool : List PoolEntry) (before : List Const) → Grows pool before old → AreTooMany pool (cs ++ before))
Adds old new cs c (Err faults.Memory) = Keeps old new
