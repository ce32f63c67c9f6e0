-- How many bytes an instruction takes.
use Rattle.std.specs.Prelude.{ℕ, ◌+◌, ◌*◌, ◌==◌, ◌&&◌, Bool, not, length, if◌then◌else◌}
use Rattle.wv_base.specs.declared.insn.Insn.{Insn}
use Rattle.wv_base.specs.declared.insn.Insn.TheVariants as insn
use Rattle.wv_base.specs.Opcodes.{bipush, ldc, invokeinterface, goto_w}
use Rattle.wv_insn.specs.Spelling.{padding}

-- How many bytes an instruction takes, where its opcode stands at an offset (JVM Specification 6.5, "Format");
-- a long ldc is written as ldc_w.
abbrev pub size : Bool → ℕ → Insn → ℕ
size long at (insn.Plain op) = 1
size long at (insn.Push op value) = if op == bipush then 2 else 3
size long at (insn.Load op value) = if op == ldc && not long then 2 else 3
size long at (insn.Local op slot wide) = if wide then 4 else 2
size long at (insn.Inc slot by wide) = if wide then 6 else 3
size long at (insn.Branch op to) = if op == goto_w then 5 else 3
size long at (insn.Table low other targets) = 1 + padding at + 12 + 4 * length targets
size long at (insn.Lookup other cases) = 1 + padding at + 8 + 8 * length cases
size long at (insn.Reference op owner name descriptor interface) = if op == invokeinterface then 5 else 3
size long at (insn.Site bootstrap name descriptor) = 5
size long at (insn.Class op class) = 3
size long at (insn.NewArray kind) = 2
size long at (insn.MultiArray class dimensions) = 4
