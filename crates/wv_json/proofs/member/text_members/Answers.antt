use Rattle.std.proofs.Common.{◌∙◌, ap, sym}
use Rattle.serde_json.specs.Data.{string}
use Rattle.serde_json.specs.View.{view}
use Rattle.std.specs.Map.Iter.{deref_pair}
use Rattle.std.proofs.lemmas.Map.Iter.{rest_more}
use Rattle.wv_json.specs.Kind.{IsText}
use Rattle.wv_json.proofs.Lists.{no_text, string-from_text}
use Rattle.wv_json.proofs.Members.{read_to-none, read_to-push}
use Rattle.wv_json.proofs.member.text_members.Goals as goal

pub returns-in_default : goal.returns-in_default
returns-in_default c =
    let next = rest_more deref_pair c.loop-key.key-iterator c.next.new.self c.next.result (c.in-Some.key, c.in-Some.value) c.in-Some.is c.next.ensures.steps in
    read_to-none IsText c.args.map.now.entries c.loop-key.key-iterator c.next.new.self c.loop-key.entries (c.in-Some.key.now, c.in-Some.value.now) c.loop-key.invariant next (no_text _ (sym c.in_default.ensures))

pub loop-key-preserved : goal.loop-key-preserved
loop-key-preserved c =
    let next = rest_more deref_pair c.loop-key.key-iterator c.next.new.self c.next.result (c.in-Some.key, c.in-Some.value) c.in-Some.is c.next.ensures.steps in
    rw c.in_ok-push.ensures.ok
    (read_to-push IsText c.args.map.now.entries c.loop-key.key-iterator c.next.new.self c.loop-key.entries (c.in-Some.key.now, c.in-Some.value.now) c.in_ok-key.key c.in_ok-from_str.field-0 c.loop-key.invariant next
    (c.in_ok-key.ensures ∙ c.as_str-in-loop-key.ensures.value)
    (string-from_text (view c.in-Some.value.now) c.in-Some-as_str.text.now (sym c.in-Some-as_str.ensures) ∙ ap string (sym c.in_ok-from_str.ensures)))
