-- How large the class is that few bytes spell (JVM Specification 4).
use Rattle.std.specs.Prelude.{◌≡◌, ℕ, ◌*◌, ◌≤◌, [], length, Option, Some, None}
use Rattle.std.specs.List.{AllByRecursion, sum_by}
use Rattle.wv_base.specs.declared.class_file.Body.{Body}
use Rattle.wv_base.specs.declared.class_file.ClassFile.{ClassFile}
use Rattle.wv_base.specs.declared.class_file.Member.{Member}
use Rattle.wv_class.specs.Limits.{class_attributes, member_attributes}
use Rattle.wv_class.specs.Needs.{class_needs}
use Rattle.wv_pool.specs.Adding.{numbers_of}

-- no frame is declared: one of a byte can stand for many types
abbrev pub HasNoFrames : Option Body → Type 0
HasNoFrames None = Unit {0}
HasNoFrames (Some body) = body.frames ≡ []

abbrev pub HaveNoFrames : ClassFile → Type 0
HaveNoFrames c = AllByRecursion (λ (m : Member). HasNoFrames m.body) c.methods

-- nothing is caught
abbrev pub HasNoRanges : Option Body → Type 0
HasNoRanges None = Unit {0}
HasNoRanges (Some body) = body.ranges ≡ []

abbrev pub HaveNoRanges : ClassFile → Type 0
HaveNoRanges c = AllByRecursion (λ (m : Member). HasNoRanges m.body) c.methods

abbrev pub HasFewInsns : ℕ → Option Body → Type 0
HasFewInsns n None = Unit {0}
HasFewInsns n (Some body) = length body.insns ≤ n

-- a method of a class that n bytes spell
pub record IsSmallMethod (n : ℕ) (m : Member) : Type 0 where
  pub attributes : member_attributes m ≤ n
  pub insns : HasFewInsns n m.body

-- a class that n bytes spell: an instruction of two bytes names up to seven constants
pub record IsSmall (n : ℕ) (c : ClassFile) : Type 0 where
  pub pool : length c.pool ≤ n
  pub methods : length c.methods ≤ n
  pub each : AllByRecursion (IsSmallMethod n) c.methods
  pub attributes : class_attributes c ≤ n
  pub constants : sum_by numbers_of (class_needs c) ≤ 4 * n
