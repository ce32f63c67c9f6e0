use Rattle.wv_json.specs.Kind.{IsTextOrTexts}
use Rattle.wv_json.proofs.Members.{IsReadTo}
use Rattle.wv_json.proofs.member.texts_members.Given as goal

abbrev pub invariant-loop-key : goal.invariant-loop-key
invariant-loop-key l = IsReadTo IsTextOrTexts l.map.entries l.key-iterator l.entries
