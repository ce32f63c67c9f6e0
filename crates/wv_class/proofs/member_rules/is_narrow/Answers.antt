use Rattle.std.proofs.Common.{sym}
use Rattle.wv_class.proofs.Words.{narrow_is}
use Rattle.wv_class.proofs.member_rules.is_narrow.Goals as goal

pub returns-in-Some-parameter_words : goal.returns-in-Some-parameter_words
returns-in-Some-parameter_words c =
    narrow_is c.args.pool.now c.args.method.now c.in-Some.descriptor.now c.in-Some-parameter_words.words c.are_few.result (sym c.in-Some.ensures) c.in-Some-parameter_words.ensures.found c.are_few.ensures
