use Rattle.std.proofs.Common.{◌≡◌, ◌++◌, take}
use Rattle.std.specs.List.{flat_map, AllByRecursion}
use Rattle.wv_code.specs.WritingBody.{HasBytes, written_bytes}
use Rattle.wv_code.proofs.content_writing.put_attributes.Given as goal

abbrev pub invariant-loop-attribute : goal.invariant-loop-attribute
invariant-loop-attribute l = record {
  put : l.out ≡ l.initial.out ++ flat_map written_bytes (take l.attribute-index l.attributes);
  bytes : AllByRecursion HasBytes (take l.attribute-index l.attributes);
}
