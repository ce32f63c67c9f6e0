use Rattle.wv_json.specs.Kind.{IsText, IsObjectOf}
use Rattle.wv_json.proofs.Members.{IsReadTo}
use Rattle.wv_json.proofs.member.text_tables.Given as goal

abbrev pub invariant-loop-key : goal.invariant-loop-key
invariant-loop-key l = IsReadTo (IsObjectOf IsText) l.map.entries l.key-iterator l.tables
