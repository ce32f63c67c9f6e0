-- Small inputs on which the definitions of the first form are tried. Our own.
use Rattle.std.specs.Prelude.{ℕ, List, [], ◌∷◌, codes, false, pos, Some, None}
use Rattle.wv_base.specs.declared.class_file.Body.{Body}
use Rattle.wv_base.specs.declared.class_file.ClassFile.{ClassFile}
use Rattle.wv_base.specs.declared.class_file.Member.{Member}
use Rattle.wv_base.specs.declared.constant.MemberReference.{MemberReference}
use Rattle.wv_base.specs.declared.insn.Insn.{Insn}
use Rattle.wv_base.specs.declared.insn.Insn.TheVariants as insns
use Rattle.wv_base.specs.Opcodes.{bipush, return, getstatic, invokevirtual, invokestatic}
use Rattle.wv_model.specs.PlainCode.{system_out, println}

-- an instruction that refers to a field or a method of a class
abbrev pub refer : ℕ → MemberReference → Insn
refer op reference = insns.Reference op reference.owner reference.name reference.descriptor false

-- code that prints 7
abbrev pub print_seven : List Insn
print_seven =
    refer getstatic system_out ∷ insns.Push bipush (pos 7) ∷ refer invokevirtual println ∷ insns.Plain return ∷ []

-- calls of a method `f()V` of the mixin, and of the game's class
abbrev pub call_of_mixin : Insn
call_of_mixin =
    refer invokestatic (record { owner = codes "alpha/mixin/MainMixin"; name = codes "f"; descriptor = codes "()V" })

abbrev pub call_of_game : Insn
call_of_game = refer invokestatic (record { owner = codes "app/Main"; name = codes "f"; descriptor = codes "()V" })

-- code that only returns
abbrev pub small_body : Body
small_body =
    record { max_stack = 0; max_locals = 0; insns = insns.Plain return ∷ []; ranges = []; frames = []; kept = [] }

-- the method `f()V` with this code
abbrev pub small_method : Member
small_method =
    record {
      flags = record { 0 = 0x0009 };
      name = codes "f";
      descriptor = codes "()V";
      body = Some small_body;
      value = None;
      throws = [];
      notes = [];
      kept = [];
    }

-- the game's class with that method alone; no machine looks at its pool
abbrev pub small_class : ClassFile
small_class =
    record {
      version = record { major = 52; minor = 0 };
      flags = record { 0 = 0x0021 };
      name = codes "app/Main";
      superclass = codes "java/lang/Object";
      interfaces = [];
      fields = [];
      methods = small_method ∷ [];
      notes = [];
      pool = [];
      kept = [];
    }
