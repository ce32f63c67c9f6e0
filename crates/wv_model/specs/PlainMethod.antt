-- Plain methods: public and static, with plain code that verifies (JVM Specification 4.6 and 4.10.1).
use Rattle.std.specs.Prelude.{◌≡◌, ℕ, List, [], codes, IsSomeAnd, IsTrue, ◌⊎◌}
use Rattle.std.specs.List.{AllByRecursion}
use Rattle.wv_base.specs.declared.class_file.Body.{Body}
use Rattle.wv_base.specs.declared.class_file.ClassFile.{ClassFile}
use Rattle.wv_base.specs.declared.class_file.Member.{Member}
use Rattle.wv_base.specs.Names.{is_method_name}
use Rattle.wv_model.specs.PlainCode.{Role, Game, Mixin, class_name, IsOwner, AnyClass, IsOrdinary, IsInsnCalling, EndsWithReturn}
use Rattle.wv_model.specs.PlainTyping.{Verifies}

-- public and static (table 4.6-A)
abbrev pub method_flags : ℕ
method_flags = 0x0009

-- the descriptor of a method, whatever its name: a mixin's has no parameter
abbrev pub IsPlainDescriptor : Role → List ℕ → Type 0
IsPlainDescriptor Game descriptor = (descriptor ≡ codes "()V") ⊎ (descriptor ≡ codes "([Ljava/lang/String;)V")
IsPlainDescriptor Mixin descriptor = descriptor ≡ codes "()V"

-- code of plain instructions that calls methods of such classes and verifies, for a method with this descriptor; it
-- catches nothing and declares no frame
pub record IsBodyCalling (IsCalled : List ℕ → Type 0) (descriptor : List ℕ) (body : Body) : Type 0 where
  pub plain : AllByRecursion (IsInsnCalling IsCalled) body.insns
  pub ends : EndsWithReturn body.insns
  pub verifies : Verifies descriptor body
  pub no_ranges : body.ranges ≡ []
  pub no_frames : body.frames ≡ []

-- a public static method with an ordinary name, such a descriptor, and plain code that calls methods of such classes
pub record IsMethodCalling (IsDescriptor IsCalled : List ℕ → Type 0) (method : Member) : Type 0 where
  pub flags : method.flags.0 ≡ method_flags
  pub name : IsTrue (is_method_name method.name)
  pub ordinary : IsOrdinary method.name
  pub descriptor : IsDescriptor method.descriptor
  pub code : IsSomeAnd method.body (IsBodyCalling IsCalled method.descriptor)

-- the same for a class of the role, with its own name
abbrev pub IsPlainBody : Role → List ℕ → List ℕ → Body → Type 0
IsPlainBody role own descriptor body = IsBodyCalling (IsOwner role own) descriptor body

abbrev pub IsPlainMethod : Role → List ℕ → Member → Type 0
IsPlainMethod role own method = IsMethodCalling (IsPlainDescriptor role) (IsOwner role own) method

-- a method of the game's class
abbrev pub IsGameMethod : Member → Type 0
IsGameMethod method = IsPlainMethod Game (class_name Game) method

-- a method of any class, which may call those of any class
abbrev pub IsAnyMethod : Member → Type 0
IsAnyMethod method = IsMethodCalling (IsPlainDescriptor Game) AnyClass method

-- a class with such methods alone
abbrev pub HasPlainMethods : ClassFile → Type 0
HasPlainMethods class = AllByRecursion IsAnyMethod class.methods

-- two methods of the same name and descriptor
abbrev pub AreSame : Member → Member → Type 0
AreSame first second = (first.name ≡ second.name) × (first.descriptor ≡ second.descriptor)
