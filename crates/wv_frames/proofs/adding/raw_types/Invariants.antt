use Rattle.std.proofs.Common.{◌≡◌, length, take, Some}
use Rattle.std.specs.List.{AllByRecursion}
use Rattle.wv_pool.specs.Adding.{Keeps, Grows}
use Rattle.wv_frames.specs.Spelling.{IsType}
use Rattle.wv_frames.specs.Whole.{types_of}
use Rattle.wv_frames.specs.Writing.{types_need}
use Rattle.wv_frames.proofs.adding.raw_types.Given as goal

abbrev pub invariant-loop-kind : goal.invariant-loop-kind
invariant-loop-kind l = record {
  found : types_of l.pool l.raw ≡ Some (take l.kind-index l.kinds);
  types : AllByRecursion IsType l.raw;
  len : length l.raw ≡ l.kind-index;
  kept : Keeps l.initial.pool l.pool;
  grows : Grows l.initial.pool (types_need (take l.kind-index l.kinds)) l.pool;
}
