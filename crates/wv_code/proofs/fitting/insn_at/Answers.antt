use Rattle.std.proofs.Common.{◌≡◌, List, ℕ, ◌+◌, ◌-◌, length, take, drop, Ok, sym, ap, ◌∙◌, arith}
use Rattle.std.proofs.lemmas.List.{take_rest, drop-drop, get_or-drop}
use Rattle.wv_insn.proofs.Faults.{stands_read}
use Rattle.wv_code.specs.Fitting.{room_at}
use Rattle.wv_code.proofs.Decoded.{fault_read, room_passes}
use Rattle.wv_code.proofs.fitting.insn_at.Goals as goal

-- the bytes from the offset to the end
rest_is : (code : List ℕ) (at : ℕ) → drop at code ≡ take (length code - at) (drop at code)
rest_is code at = sym (take_rest code at)

pub returns-in-Ok : goal.returns-in-Ok
returns-in-Ok c =
    let code = c.args.code.now in
    let room = ap (room_at c.args.at c.args.tail c.args.missing) (rest_is code c.args.at) ∙ c.in_ok-check_room.ensures in
    room_passes c.args.at c.args.tail c.args.missing (drop c.args.at code) _ room
    ∙ stands_read code c.args.at c.in-Ok.raw c.in-Ok.len c.in-Ok.ensures.found
    ∙ ap (λ (z : List ℕ). Ok (c.in-Ok.raw, z)) (drop-drop c.in-Ok.len c.args.at code ∙ rest_is code (c.args.at + c.in-Ok.len))

pub returns-in-Err-Fault : goal.returns-in-Err-Fault
returns-in-Err-Fault c =
    let code = c.args.code.now in
    let room = ap (room_at c.args.at c.args.tail c.args.missing) (rest_is code c.args.at) ∙ c.in_ok-check_room.ensures in
    room_passes c.args.at c.args.tail c.args.missing (drop c.args.at code) _ room
    ∙ fault_read code c.args.at c.requires.start c.in-Err-Fault.at (λ i. rw get_or-drop (omega (arith, c.type_inv.code (c.args.at + i)))) (rw c.in-Err-Fault.field-0-is at c.in-Err-Fault.ensures.fault)
