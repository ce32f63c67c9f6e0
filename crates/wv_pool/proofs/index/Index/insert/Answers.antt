use Rattle.std.proofs.Common.{refl}
use Rattle.wv_pool.proofs.KeyNumbers.{text_inserts, other_inserts}
use Rattle.wv_pool.proofs.index.Index.insert.Goals as goal

pub returns-in_ok-insert-in-Utf8-clause-ok : goal.returns-in_ok-insert-in-Utf8-clause-ok
returns-in_ok-insert-in-Utf8-clause-ok c =
    rw c.in-Utf8.is (text_inserts c.args.self.now (record { texts = c.insert.new.self; others = c.args.self.now.others }) c.in-Utf8.name c.args.number refl c.in_ok-insert-in-Utf8.ensures.updates)

pub returns-in_ok-insert-in_default : goal.returns-in_ok-insert-in_default
returns-in_ok-insert-in_default c = record {
  ok = other_inserts c.args.self.now (record { texts = c.args.self.now.texts; others = c.insert-in_default.new.self }) c.args.key c.args.number c.in_default.not-Utf8 refl (rw c.words.ensures at c.in_ok-insert-in_default.ensures.updates);
  err = tt;
}
