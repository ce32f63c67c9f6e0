use Rattle.std.proofs.Common.{◌≡◌, ◌++◌, take}
use Rattle.std.specs.List.{flat_map, AllByRecursion}
use Rattle.wv_code.specs.WritingBody.{written_bytes}
use Rattle.wv_class.specs.Appending.{IsNumbered}
use Rattle.wv_class.proofs.attribute_writing.put_kept.Given as goal

abbrev pub invariant-loop-attribute : goal.invariant-loop-attribute
invariant-loop-attribute l = record {
  put : l.out ≡ l.initial.out ++ flat_map written_bytes (take l.attribute-index l.attributes);
  numbered : AllByRecursion IsNumbered (take l.attribute-index l.attributes);
}
