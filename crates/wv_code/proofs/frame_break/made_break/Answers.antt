use Rattle.std.proofs.Common.{arith, refl}
use Rattle.std.proofs.Common.{◌≡◌, ◌+◌, length}
use Rattle.std.specs.List.{flat_map}
use Rattle.wv_frames.specs.declared.raw.RawFrame.TheVariants as frames
use Rattle.wv_frames.specs.Spelling.{type_bytes}
use Rattle.wv_code.proofs.InsnPlaces.{either_behind}
use Rattle.wv_code.proofs.FramePlaces.{frame_least, made_behind, types_behind}
use Rattle.wv_code.proofs.frame_break.made_break.Goals as goal

pub returns-in-SameWithOne : goal.returns-in-SameWithOne
returns-in-SameWithOne c = rw c.in-SameWithOne.is (frame_least c.args.code.now (frames.SameWithOne c.in-SameWithOne.delta c.in-SameWithOne.stack) c.args.base (made_behind c.args.code.now c.in-SameWithOne.stack c.args.base 1 c.type_break.ensures))

pub returns-in-SameWithOneExtended : goal.returns-in-SameWithOneExtended
returns-in-SameWithOneExtended c =
    rw c.in-SameWithOneExtended.is
    (frame_least c.args.code.now (frames.SameWithOneExtended c.in-SameWithOneExtended.delta c.in-SameWithOneExtended.stack) c.args.base
    (made_behind c.args.code.now c.in-SameWithOneExtended.stack c.args.base 3 c.type_break-in-SameWithOneExtended.ensures))

pub returns-in-Append : goal.returns-in-Append
returns-in-Append c =
    rw c.in-Append.is
    (frame_least c.args.code.now (frames.Append c.in-Append.delta c.in-Append.locals) c.args.base
    (types_behind c.args.code.now c.in-Append.locals c.args.base 3 (c.args.base + 3) refl (rw c.as_slice.ensures at c.types_break.ensures)))

pub returns-in-Full : goal.returns-in-Full
returns-in-Full c =
    let len : c.types_len.result ≡ length (flat_map type_bytes c.in-Full.locals) = rw c.as_slice-in-Full.ensures at c.types_len.ensures.len in
    rw c.in-Full.is
    (frame_least c.args.code.now (frames.Full c.in-Full.delta c.in-Full.locals c.in-Full.stack) c.args.base
    (either_behind c.args.base c.lesser.ensures
    (types_behind c.args.code.now c.in-Full.locals c.args.base 5 (c.args.base + 5) refl (rw c.as_slice-in-Full-2.ensures at c.types_break-local.ensures))
    (types_behind c.args.code.now c.in-Full.stack c.args.base (7 + length (flat_map type_bytes c.in-Full.locals)) (c.args.base + 7 + c.types_len.result) (omega (arith, len))
    (rw c.as_slice-in-Full-3.ensures at c.types_break-in-Full.ensures))))
