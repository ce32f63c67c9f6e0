use Rattle.wv_class.proofs.SeenKeys.{again_is, keys_pushed, keys_stay}
use Rattle.wv_class.proofs.seen.is_again.Goals as goal

pub returns-in_ok-insert-in-Some-clause-again : goal.returns-in_ok-insert-in-Some-clause-again
returns-in_ok-insert-in-Some-clause-again c =
    λ before has. again_is c.args.pool.now before c.args.member.now c.args.seen.now c.in-Some.key c.in_ok-insert-in-Some.field-0 has (rw c.in-Some.is at c.in_ok-key.ensures.found) c.in_ok-insert-in-Some.ensures.added

pub returns-in_ok-insert-in-Some-clause-keys : goal.returns-in_ok-insert-in-Some-clause-keys
returns-in_ok-insert-in-Some-clause-keys c =
    λ before has. keys_pushed c.args.pool.now before c.args.member.now c.args.seen.now c.insert.new.self c.in-Some.key has (rw c.in-Some.is at c.in_ok-key.ensures.found) c.in_ok-insert-in-Some.ensures.updates

pub returns-in-None-clause-keys : goal.returns-in-None-clause-keys
returns-in-None-clause-keys c = λ before has. keys_stay c.args.pool.now before c.args.member.now c.args.seen.now has (rw c.in-None.is at c.in_ok-key.ensures.none)
