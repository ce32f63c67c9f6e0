-- What the numbers in a table of annotations must name (JVM Specification 4.7.16 and 4.7.16.1), and which is the first
-- that doesn't.
use Rattle.std.specs.Prelude.{◌≡◌, ℕ, ◌+◌, Bool, false, ◌||◌, ◌==◌, List, ◌∷◌, ◌++◌, length, IsTrue, IsSomeAnd, codes, ◌⊎◌}
use Rattle.std.specs.List.{AllByRecursion}
use Rattle.wv_base.specs.declared.class_file.PoolEntry.{PoolEntry}
use Rattle.wv_base.specs.declared.class_file.PoolEntry.TheVariants as entries
use Rattle.wv_base.specs.Names.{is_class_name}
use Rattle.wv_base.specs.Descriptor.{IsFieldDescriptor}
use Rattle.wv_pool.specs.References.{entry_of, IsText}
use Rattle.wv_attr.specs.declared.mark.Mark.{Mark}
use Rattle.wv_attr.specs.declared.mark.Mark.TheVariants as marks
use Rattle.wv_attr.specs.Marks.{table_bytes}

-- an annotation's type: the descriptor of a class
abbrev pub IsClassDescriptor : List ℕ → Type 0
IsClassDescriptor text = (name : List ℕ) × IsTrue (is_class_name name) × (text ≡ codes "L" ++ (name ++ codes ";"))

-- a class as a value: the descriptor of a type, or V
abbrev pub IsClassValue : List ℕ → Type 0
IsClassValue text = IsFieldDescriptor text ⊎ (text ≡ codes "V")

-- the tags under which an entry is a constant: B C I S and Z have an Integer, F, J and D a Float, a Long and a Double,
-- and s a text
abbrev pub has_tag : PoolEntry → ℕ → Bool
has_tag (entries.Integer value) tag = tag == 66 || tag == 67 || tag == 73 || tag == 83 || tag == 90
has_tag (entries.Float bits) tag = tag == 70
has_tag (entries.Long value) tag = tag == 74
has_tag (entries.Double bits) tag = tag == 68
has_tag (entries.Utf8 text) tag = tag == 115
has_tag _ tag = false

-- what the first number of a part must meet
abbrev pub FirstHolds : List PoolEntry → Mark → Type 0
FirstHolds pool (marks.Annotation class count) = IsText pool class IsClassDescriptor
FirstHolds pool (marks.Name name) = IsText pool name (λ _. Unit {0})
FirstHolds pool (marks.Constant tag value) = IsSomeAnd (entry_of pool value) (λ entry. IsTrue (has_tag entry tag))
FirstHolds pool (marks.Enum descriptor name) = IsText pool descriptor IsFieldDescriptor
FirstHolds pool (marks.Class descriptor) = IsText pool descriptor IsClassValue
FirstHolds pool _ = Unit {0}

-- and the second, which an enum's value alone has
abbrev pub SecondHolds : List PoolEntry → Mark → Type 0
SecondHolds pool (marks.Enum descriptor name) = IsText pool name (λ _. Unit {0})
SecondHolds pool _ = Unit {0}

-- where the first number stands: first, or behind a tag
abbrev pub first_place : Mark → ℕ
first_place (marks.Annotation class count) = 0
first_place (marks.Name name) = 0
first_place _ = 1

abbrev pub IsSound : List PoolEntry → Mark → Type 0
IsSound pool m = FirstHolds pool m × SecondHolds pool m

-- the first number of the part that breaks what it must meet
abbrev pub BreaksAt : List PoolEntry → Mark → ℕ → Type 0
BreaksAt pool m place = ((place ≡ first_place m) × (FirstHolds pool m → ⊥)) ⊎ ((place ≡ 3) × FirstHolds pool m × (SecondHolds pool m → ⊥))

-- the first part that breaks what its numbers must meet, and the place of the number from the first part on
pub record FirstBreaks (pool : List PoolEntry) (parts : List Mark) (at : ℕ) : Type 0 where
  pub before : List Mark
  pub part : Mark
  pub after : List Mark
  pub field : ℕ
  pub splits : parts ≡ before ++ part ∷ after
  pub sound : AllByRecursion (IsSound pool) before
  pub breaks : BreaksAt pool part field
  pub place : at ≡ length (table_bytes before) + field
