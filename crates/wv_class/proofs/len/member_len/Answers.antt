use Rattle.std.specs.List.{AllByRecursion}
use Rattle.wv_code.proofs.Lists.{AllByRecursion-at}
use Rattle.wv_class.specs.Checking.{IsSpelledAttribute}
use Rattle.wv_class.proofs.Lengths.{member_attributes}
use Rattle.wv_class.proofs.len.member_len.Goals as goal

pub attribute_len-len-requires : goal.attribute_len-len-requires
attribute_len-len-requires c =
    let all : AllByRecursion (IsSpelledAttribute c.requires.0) c.as_slice-attribute-items.result.now = rw c.as_slice-attribute-items.ensures (member_attributes c.requires.0 c.args.member.now c.requires.1) in (
      c.requires.0,
      rw c.attribute-item.is (AllByRecursion-at (IsSpelledAttribute c.requires.0) c.as_slice-attribute-items.result.now c.loop-attribute.attribute-index c.attribute-item.result c.loop-attribute-test.true all),
    )
