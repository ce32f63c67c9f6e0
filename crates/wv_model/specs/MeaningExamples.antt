-- Small classes on which both machines are tried. Our own.
use Rattle.std.specs.Prelude.{ℕ, List, [], ◌∷◌, codes, Option, Some}
use Rattle.wv_base.specs.declared.class_file.ClassFile.{ClassFile}
use Rattle.wv_base.specs.declared.class_file.Member.{Member}
use Rattle.wv_base.specs.declared.insn.Insn.{Insn}
use Rattle.wv_base.specs.declared.insn.Insn.TheVariants as insns
use Rattle.wv_base.specs.declared.constant.MemberReference.{MemberReference}
use Rattle.wv_base.specs.Opcodes.{return, invokestatic}
use Rattle.wv_model.specs.Entries.{Entry, Program, Method}
use Rattle.wv_model.specs.FirstFormExamples.{call_of_game, call_of_mixin, print_seven, refer, small_body, small_class, small_method}
use Rattle.wv_model.specs.FormDomain.{Answer, AThrow, ShownAnswer, ShownThrow}
use Rattle.wv_model.specs.MemberTable.{Applied, overwritten}

-- the method `f()V` with other code
abbrev pub method_with : List Insn → Member
method_with code = record small_method { body = Some (record small_body { max_stack = 2; insns = code }) }

-- a main method that calls `f()V` and returns
abbrev pub calling_main : Member
calling_main =
    record (method_with (call_of_game ∷ insns.Plain return ∷ [])) {
      name = codes "main";
      descriptor = codes "([Ljava/lang/String;)V";
    }

-- the game: its main method calls `f()V`, which returns
abbrev pub calling_game : ClassFile
calling_game = record small_class { methods = calling_main ∷ small_method ∷ [] }

-- methods that overwrite `f()V`: one prints 7, and one calls itself, by the name of its mixin
abbrev pub printing_method : Member
printing_method = method_with print_seven

abbrev pub calling_method : Member
calling_method = method_with (call_of_mixin ∷ insns.Plain return ∷ [])

-- the mixin with such a method, applied to a class
abbrev pub mixin_on : List ℕ → Member → Applied
mixin_on target method =
    record { name = codes "alpha/mixin/MainMixin"; target = target; methods = method ∷ [] }

abbrev pub mixin_with : Member → Applied
mixin_with method = mixin_on (codes "app/Main") method

-- and what is written for each
abbrev pub written_with : Member → ClassFile
written_with method =
    record small_class {
      methods = calling_main ∷ overwritten (codes "alpha/mixin/MainMixin") (codes "app/Main") small_method method ∷ [];
    }

-- the method `f()V` of a class
abbrev pub method_f : List ℕ → MemberReference
method_f owner = record { owner = owner; name = codes "f"; descriptor = codes "()V" }

-- a game whose main method calls a method and returns
abbrev pub main_with : MemberReference → ClassFile
main_with method =
    record small_class {
      methods = record calling_main { body = (method_with (refer invokestatic method ∷ insns.Plain return ∷ [])).body } ∷ [];
    }

-- one that calls `f()V` of a class
abbrev pub main_calling : List ℕ → ClassFile
main_calling owner = main_with (method_f owner)

-- one that calls `println()V` as if it were static
abbrev pub main_printing : ClassFile
main_printing =
    main_with (record { owner = codes "java/io/PrintStream"; name = codes "println"; descriptor = codes "()V" })

-- another class, with `f()V`
abbrev pub other_class : ClassFile
other_class = record small_class { name = codes "app/Other" }

-- the entry that starts the program, and those that call `f()V`
abbrev pub entry_main : Entry
entry_main = Program (codes "app/Main")

abbrev pub entry_f : Entry
entry_f = Method (method_f (codes "app/Main"))

-- the main method of a class that nobody defines, and `f()V` of another
abbrev pub open_main : MemberReference
open_main = record { owner = codes "open/Main"; name = codes "main"; descriptor = codes "([Ljava/lang/String;)V" }

abbrev pub open_f : MemberReference
open_f = method_f (codes "open/Api")

-- a method that calls the latter, and a game whose main method does
abbrev pub asking_method : Member
asking_method = method_with (refer invokestatic open_f ∷ insns.Plain return ∷ [])

abbrev pub open_game : List ClassFile
open_game = main_calling (codes "open/Api") ∷ []

-- an answer that throws, and how it is shown with this number
abbrev pub throw_error : Answer
throw_error = AThrow (codes "java/lang/Error")

abbrev pub shown_error : ℕ → Option ShownAnswer
shown_error number = Some (ShownThrow (codes "java/lang/Error") number)
