use Rattle.std.proofs.Common.{sym, ◌∙◌}
use Rattle.wv_base.proofs.MethodTypes.{method_front, method_words_are, parameters_same}
use Rattle.wv_base.specs.Descriptor.{result_descriptor}
use Rattle.wv_base.proofs.descriptor.method_words.Goals as goal

pub returns-then-is_result-clause-found : goal.returns-then-is_result-clause-found
returns-then-is_result-clause-found c =
    let read = c.in_ok-words.ensures.found in
    let result = c.is_result.ensures.0 c.if-is_result.true in
    rw c.in_ok-behind.ensures.found (method_words_are c.in_ok-behind.field-0.now c.in_ok-words.after.now read.0 result.0 c.in_ok-words.words read.1 result.1 result.2 read.2)

pub returns-else-is_result-clause-none : goal.returns-else-is_result-clause-none
returns-else-is_result-clause-none c method =
    let read = c.in_ok-words.ensures.found in
    let rest = c.in_ok-behind.field-0.now in
    let front = method_front rest method.0 method.1 (sym c.in_ok-behind.ensures.found ∙ method.2) in
    let same = parameters_same rest read.0 method.0.parameters c.in_ok-words.after.now (result_descriptor method.0.result) read.1 front in
    let is = c.is_result.ensures.1 (method.0.result, method.1.1, same.1) in
    absurd (cc is)
