use Rattle.wv_json.specs.Kind.{IsText}
use Rattle.wv_json.proofs.Members.{IsReadTo}
use Rattle.wv_json.proofs.member.text_members.Given as goal

abbrev pub invariant-loop-key : goal.invariant-loop-key
invariant-loop-key l = IsReadTo IsText l.map.entries l.key-iterator l.entries
