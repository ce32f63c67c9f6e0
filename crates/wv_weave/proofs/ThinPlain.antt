-- The methods of thin classes and of thin mixins are plain, whatever they call.
use Rattle.std.proofs.Common.{◌⊎◌, inl, inr, List, [], ◌∷◌, Option, Some, None, ℕ}
use Rattle.std.specs.Prelude.{IsSomeAnd}
use Rattle.std.specs.List.{AllByRecursion}
use Rattle.wv_base.specs.declared.class_file.Body.{Body}
use Rattle.wv_base.specs.declared.class_file.ClassFile.{ClassFile}
use Rattle.wv_base.specs.declared.class_file.Member.{Member}
use Rattle.wv_base.specs.declared.insn.Insn.{Insn}
use Rattle.wv_base.specs.declared.insn.Insn.TheVariants as insns
use Rattle.wv_merge.specs.ThinClass.{IsNoArray, IsReadThin, IsThinMethod}
use Rattle.wv_model.specs.PlainCode.{Role, Game, Mixin, AnyClass, IsInsnCalling}
use Rattle.wv_model.specs.PlainMethod.{HasPlainMethods, IsAnyMethod, IsBodyCalling, IsMethodCalling, IsPlainDescriptor}

any-insn : (insn : Insn) → IsInsnCalling IsNoArray insn → IsInsnCalling AnyClass insn
any-insn (insns.Plain op) plain = plain
any-insn (insns.Push op value) plain = plain
any-insn (insns.Reference op owner name descriptor interface) (direct, inl field) = (direct, inl field)
any-insn (insns.Reference op owner name descriptor interface) (direct, inr (inl prints)) = (direct, inr (inl prints))
any-insn (insns.Reference op owner name descriptor interface) (direct, inr (inr (is, method))) =
    (direct, inr (inr (is, record { owner = tt; ordinary = method.ordinary; descriptor = method.descriptor })))
any-insn _ plain = absurd plain

any-insns : (code : List Insn) → AllByRecursion (IsInsnCalling IsNoArray) code → AllByRecursion (IsInsnCalling AnyClass) code
any-insns [] plain = tt
any-insns (insn ∷ code) (here, more) = (any-insn insn here, any-insns code more)

any-code : (descriptor : List ℕ) (body : Option Body) → IsSomeAnd body (IsBodyCalling IsNoArray descriptor) → IsSomeAnd body (IsBodyCalling AnyClass descriptor)
any-code descriptor None plain = absurd plain
any-code descriptor (Some body) plain =
    record {
      plain = any-insns body.insns plain.plain;
      ends = plain.ends;
      verifies = plain.verifies;
      no_ranges = plain.no_ranges;
      no_frames = plain.no_frames;
    }

any-descriptor : (role : Role) (descriptor : List ℕ) → IsPlainDescriptor role descriptor → IsPlainDescriptor Game descriptor
any-descriptor Game descriptor is = is
any-descriptor Mixin descriptor is = inl is

any-methods : (role : Role) (methods : List Member) → AllByRecursion (IsThinMethod role) methods → AllByRecursion IsAnyMethod methods
any-methods role [] thin = tt
any-methods role (method ∷ methods) (one, more) = (
  record {
    flags = one.plain.flags;
    name = one.plain.name;
    ordinary = one.plain.ordinary;
    descriptor = any-descriptor role method.descriptor one.plain.descriptor;
    code = any-code method.descriptor method.body one.plain.code;
  },
  any-methods role methods more,
)

pub thin-plain : (role : Role) (class : ClassFile) → IsReadThin role class → HasPlainMethods class
thin-plain role class h = any-methods role class.methods h.1.1.1.methods

pub either-plain : (class : ClassFile) → IsReadThin Game class ⊎ IsReadThin Mixin class → HasPlainMethods class
either-plain class (inl thin) = thin-plain Game class thin
either-plain class (inr thin) = thin-plain Mixin class thin
