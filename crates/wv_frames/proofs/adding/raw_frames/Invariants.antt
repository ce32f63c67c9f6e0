use Rattle.std.proofs.Common.{◌≡◌, List, length, take, drop, Some}
use Rattle.std.specs.List.{AllByRecursion}
use Rattle.wv_base.specs.declared.frame.VType.{VType}
use Rattle.wv_pool.specs.Adding.{Keeps, Grows}
use Rattle.wv_frames.specs.Spelling.{IsFrame}
use Rattle.wv_frames.specs.Whole.{frames_from}
use Rattle.wv_frames.specs.Writing.{AreFrom, frames_need}
use Rattle.wv_frames.proofs.WholeFrames.{next_behind}
use Rattle.wv_frames.proofs.adding.raw_frames.Given as goal

abbrev pub invariant-loop-one : goal.invariant-loop-one
invariant-loop-one l = record {
  found : (before : List VType) → frames_from l.pool 0 before l.raw.items ≡ Some (take l.one-index l.frames);
  layout : AllByRecursion IsFrame l.raw.items;
  len : length l.raw.items ≡ l.one-index;
  next : l.next ≡ next_behind 0 (take l.one-index l.frames);
  from : AreFrom l.next (drop l.one-index l.frames);
  kept : Keeps l.initial.pool l.pool;
  grows : Grows l.initial.pool (frames_need (take l.one-index l.frames)) l.pool;
}
