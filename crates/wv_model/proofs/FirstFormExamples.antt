-- The example's code has a typing where two words fit the stack.
use Rattle.std.proofs.Common.{◌≤◌, ℕ, refl, arith, [], ◌∷◌, pos}
use Rattle.wv_base.specs.declared.frame.VType.TheVariants as types
use Rattle.wv_base.specs.declared.insn.Insn.TheVariants as insns
use Rattle.wv_base.specs.Opcodes.{bipush, return, getstatic, invokevirtual}
use Rattle.wv_model.specs.FirstFormExamples.{print_seven, refer}
use Rattle.wv_model.specs.PlainCode.{system_out, println}
use Rattle.wv_model.specs.PlainTyping.{Leads, HasTyping, print_stream, push, returned, read_out, printed}

gets : Leads (refer getstatic system_out) [] (print_stream ∷ [])
gets = record { taken = []; put = print_stream ∷ []; rest = []; row = read_out refl; from = refl; to = refl }

pushes : Leads (insns.Push bipush (pos 7)) (print_stream ∷ []) (types.Int ∷ print_stream ∷ [])
pushes = record { taken = []; put = types.Int ∷ []; rest = print_stream ∷ []; row = push refl; from = refl; to = refl }

prints : Leads (refer invokevirtual println) (types.Int ∷ print_stream ∷ []) []
prints =
    record { taken = types.Int ∷ print_stream ∷ []; put = []; rest = []; row = printed refl; from = refl; to = refl }

returns : Leads (insns.Plain return) [] []
returns = record { taken = []; put = []; rest = []; row = returned refl; from = refl; to = refl }

pub print_seven-typed : (most : ℕ) → 2 ≤ most → HasTyping most print_seven
print_seven-typed most fits =
    record {
      later = (print_stream ∷ []) ∷ (types.Int ∷ print_stream ∷ []) ∷ [] ∷ [] ∷ [];
      leads = (gets, (pushes, (prints, (returns, tt))));
      within = (omega arith, (omega arith, (omega arith, (omega arith, tt))));
    }
