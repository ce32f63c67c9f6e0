use Rattle.std.proofs.Common.{◌≡◌, ℕ, List, subst, sym}
use Rattle.wv_class.specs.declared.raw_class.Kind.TheVariants as kinds
use Rattle.wv_class.specs.declared.raw_class.Content.{Content}
use Rattle.wv_class.specs.Contents.{SpellsSized}
use Rattle.wv_class.specs.Reading.{Reads}
use Rattle.wv_class.proofs.Exits.{seen}
use Rattle.wv_class.proofs.content.content_at.Goals as goal

pub returns-in-ConstantValue : goal.returns-in-ConstantValue
returns-in-ConstantValue c =
    let two : c.args.len ≡ 2 = rw c.in-ConstantValue.is at c.requires in
    rw (c.in-ConstantValue.is, two) (c.constant_in.ensures c.args.pool.now)

pub returns-in-Exceptions : goal.returns-in-Exceptions
returns-in-Exceptions c = rw c.in-Exceptions.is (c.exceptions_in.ensures c.args.pool.now)

pub returns-in-Annotations : goal.returns-in-Annotations
returns-in-Annotations c = rw c.in-Annotations.is (c.annotations_in.ensures c.args.pool.now)

pub returns-in-ParameterAnnotations : goal.returns-in-ParameterAnnotations
returns-in-ParameterAnnotations c = rw c.in-ParameterAnnotations.is (c.parameters_in.ensures c.args.pool.now)

pub returns-in-Other : goal.returns-in-Other
returns-in-Other c = rw c.in-Other.is (c.other_in.ensures c.args.pool.now)
