-- The constants that a pool may hold (JVM Specification 4.4).
use Rattle.std.specs.Prelude.{◌≡◌, ◌≢◌, ℕ, ◌^◌, ◌<◌, ◌≤◌, Bool, true, false, List, length, IsTrue, ◌⊎◌}
use Rattle.wv_base.specs.declared.constant.Const.{Const}
use Rattle.wv_base.specs.declared.constant.Const.TheVariants as constants
use Rattle.wv_base.specs.declared.constant.MemberReference.{MemberReference}
use Rattle.wv_base.specs.Modified.{spelling}
use Rattle.wv_base.specs.Names.{is_unqualified}
use Rattle.wv_base.specs.Descriptor.{IsFieldDescriptor, IsMethodDescriptor, IsClassConstant}
use Rattle.wv_pool.specs.References.{HasAngle, IsInit, IsSpecial}

-- a text that one entry has room for (4.4.7)
abbrev pub IsShort : List ℕ → Type 0
IsShort text = length (spelling text) < 2 ^ 16

abbrev pub IsClassText : List ℕ → Type 0
IsClassText name = IsShort name × IsClassConstant name

abbrev pub IsPairText : List ℕ → List ℕ → Type 0
IsPairText name descriptor = IsShort name × IsShort descriptor × IsTrue (is_unqualified name)

-- a field's name and descriptor
abbrev pub IsFieldText : List ℕ → List ℕ → Type 0
IsFieldText name descriptor = IsPairText name descriptor × IsFieldDescriptor descriptor

-- a method's: < and > stand in no name but the two special ones
abbrev pub IsMethodText : List ℕ → List ℕ → Type 0
IsMethodText name descriptor = IsPairText name descriptor × (HasAngle name → ⊥) × IsMethodDescriptor descriptor

abbrev pub IsFieldReference : MemberReference → Type 0
IsFieldReference m = IsClassText m.owner × IsFieldText m.name m.descriptor

abbrev pub IsMethodReference : MemberReference → Type 0
IsMethodReference m = IsClassText m.owner × IsMethodText m.name m.descriptor

-- the name of a class's method that a handle of a kind names: kind 8 makes a new instance
abbrev pub IsCalled : ℕ → List ℕ → Type 0
IsCalled kind name = (kind ≡ 8 → IsInit name) × (kind ≢ 8 → IsSpecial name → ⊥)

-- what a handle of a kind names (4.4.8)
abbrev pub IsHandle : ℕ → MemberReference → Bool → Type 0
IsHandle kind m true = IsMethodReference m × (6 ≤ kind) × (kind ≤ 9) × (kind ≢ 8) × (IsSpecial m.name → ⊥)
IsHandle kind m false =
    (IsFieldReference m × (1 ≤ kind) × (kind ≤ 4))
    ⊎ (IsMethodReference m × (5 ≤ kind) × (kind ≤ 8) × IsCalled kind m.name)

abbrev pub IsAllowed : Const → Type 0
IsAllowed (constants.Utf8 name) = IsShort name
IsAllowed (constants.Class name) = IsClassText name
IsAllowed (constants.String text) = IsShort text
IsAllowed (constants.Field m) = IsFieldReference m
IsAllowed (constants.Method m interface) = IsMethodReference m
IsAllowed (constants.NameAndType name descriptor) = IsPairText name descriptor × (IsFieldDescriptor descriptor ⊎ IsMethodDescriptor descriptor)
IsAllowed (constants.MethodHandle kind m interface) = IsHandle kind m interface
IsAllowed (constants.MethodType descriptor) = IsShort descriptor × IsMethodDescriptor descriptor
IsAllowed (constants.InvokeDynamic bootstrap name descriptor) = IsMethodText name descriptor
IsAllowed _ = Unit {0}
