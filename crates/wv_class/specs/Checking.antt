-- What the parts of a class file are of its bytes, where they are checked one by one.
use Rattle.std.specs.Prelude.{◌≡◌, ℕ, ◌^◌, ◌<◌, ◌↔◌, List, length, slice_get, Option, Some, IsTrue, IfSome, IfNone, codes, ◌⊎◌}
use Rattle.std.specs.Ordering.{nat_cmp, ordering_then}
use Rattle.std.specs.declared.cmp.Ordering.{Ordering}
use Rattle.std.specs.BTreeSet.{BTreeSet, contains}
use Rattle.wv_base.specs.declared.class_file.PoolEntry.{PoolEntry}
use Rattle.wv_base.specs.declared.frame.Frame.{Frame}
use Rattle.wv_base.specs.declared.constant.Const.TheVariants as constants
use Rattle.wv_pool.specs.References.{text_of}
use Rattle.wv_pool.specs.Numbers.{IsLeast}
use Rattle.wv_code.specs.declared.raw_body.RawBody.{RawBody}
use Rattle.wv_code.specs.Breaks.{FirstBreak}
use Rattle.wv_code.specs.Least.{Broken}
use Rattle.wv_class.specs.declared.raw_class.Place.{Place}
use Rattle.wv_class.specs.declared.raw_class.Content.{Content}
use Rattle.wv_class.specs.declared.raw_class.RawAttribute.{RawAttribute}
use Rattle.wv_class.specs.declared.raw_class.RawMember.{RawMember}
use Rattle.wv_class.specs.Layout.{SpellsContent, SpellsAttribute, SpellsMember}
use Rattle.wv_class.specs.Breaks.{IsNamed, IsAgain, StartsWith, IsInitializer, HasItsCode, IsNarrow}

-- ---- Parts that bytes spell

abbrev pub IsSpelledContent : List PoolEntry → Content → Type 0
IsSpelledContent pool content = (near : ℕ) × (bytes : List ℕ) × (length bytes < 2 ^ 32) × SpellsContent near pool content bytes

abbrev pub IsSpelledAttribute : List PoolEntry → RawAttribute → Type 0
IsSpelledAttribute pool a = (place : Place) × (near : ℕ) × (bytes : List ℕ) × SpellsAttribute pool place near a bytes

abbrev pub IsSpelledMember : List PoolEntry → RawMember → Type 0
IsSpelledMember pool m = (place : Place) × (near : ℕ) × (bytes : List ℕ) × SpellsMember pool place near m bytes

-- ---- Members that were there before

-- the least number of the text that a number names, if it names one
pub record IsTextNumber (pool : List PoolEntry) (number : ℕ) (found : Option ℕ) : Type 0 where
  pub least : IfSome found (λ n. (text : List ℕ) × (text_of pool number ≡ Some text) × IsLeast pool (constants.Utf8 text) n)
  pub none : IfNone found ((text : List ℕ) → text_of pool number ≡ Some text → ⊥)

-- the least numbers of a member's name and descriptor
pub record HasKey (pool : List PoolEntry) (m : RawMember) (key : ℕ × ℕ) : Type 0 where
  pub name : List ℕ
  pub descriptor : List ℕ
  pub named : IsNamed pool m name descriptor
  pub name_least : IsLeast pool (constants.Utf8 name) key.0
  pub descriptor_least : IsLeast pool (constants.Utf8 descriptor) key.1

-- the order of keys, by the names and then by the descriptors
abbrev pub key_cmp : ℕ × ℕ → ℕ × ℕ → Ordering
key_cmp x y = ordering_then (nat_cmp x.0 y.0) (nat_cmp x.1 y.1)

-- the set has the keys of these members, and no other
abbrev pub HasKeys : List PoolEntry → BTreeSet (ℕ × ℕ) → List RawMember → Type 0
HasKeys pool seen before = (key : ℕ × ℕ) → IsTrue (contains key_cmp seen key) ↔ ((k : ℕ) × (m : RawMember) × (slice_get before k ≡ Some m) × HasKey pool m key)

-- ---- The values of fields

-- the descriptor is of a type whose constants are ints
abbrev pub IsSmallInt : List ℕ → Type 0
IsSmallInt descriptor = (descriptor ≡ codes "Z") ⊎ ((descriptor ≡ codes "B") ⊎ ((descriptor ≡ codes "C") ⊎ ((descriptor ≡ codes "S") ⊎ (descriptor ≡ codes "I"))))

-- ---- Methods

-- the place of a method that breaks what it must meet as a whole
abbrev pub WholeBreaks : List PoolEntry → List RawMember → RawMember → ℕ → ℕ → Type 0
WholeBreaks pool before m base n =
    ((n ≡ base) × IsAgain pool before m ⊎ Broken (IsInitializer pool m) base n)
    ⊎ (Broken (HasItsCode m) base n ⊎ Broken (IsNarrow pool m) base n)

-- the first break in the code of a method, which starts with some frame
abbrev pub StartedBreak : List PoolEntry → ℕ → RawMember → RawBody → ℕ → Type 0
StartedBreak pool class m raw at = (frame : Frame) × StartsWith pool class m frame × FirstBreak pool frame raw at
