use Rattle.std.proofs.Common.{◌∙◌}
use Rattle.std.specs.Map.Iter.{deref_pair}
use Rattle.std.proofs.lemmas.Map.Iter.{rest_more}
use Rattle.wv_json.specs.Kind.{IsTextOrTexts}
use Rattle.wv_json.proofs.Members.{read_to-none, read_to-push}
use Rattle.wv_json.proofs.member.texts_members.Goals as goal

pub returns-in_default : goal.returns-in_default
returns-in_default c =
    let next = rest_more deref_pair c.loop-key.key-iterator c.next.new.self c.next.result (c.in-Some.key, c.in-Some.value) c.in-Some.is c.next.ensures.steps in
    read_to-none IsTextOrTexts c.args.map.now.entries c.loop-key.key-iterator c.next.new.self c.loop-key.entries (c.in-Some.key.now, c.in-Some.value.now) c.loop-key.invariant next (rw c.in_default.is at c.in_ok-texts.ensures)

pub loop-key-preserved : goal.loop-key-preserved
loop-key-preserved c =
    let next = rest_more deref_pair c.loop-key.key-iterator c.next.new.self c.next.result (c.in-Some.key, c.in-Some.value) c.in-Some.is c.next.ensures.steps in
    rw c.in_ok-push.ensures.ok
    (read_to-push IsTextOrTexts c.args.map.now.entries c.loop-key.key-iterator c.next.new.self c.loop-key.entries (c.in-Some.key.now, c.in-Some.value.now) c.in_ok-from_str.field-0 c.in-Some-2.texts c.loop-key.invariant next
    (c.in_ok-from_str.ensures ∙ c.as_str.ensures.value)
    (rw c.in-Some-2.is at c.in_ok-texts.ensures))
