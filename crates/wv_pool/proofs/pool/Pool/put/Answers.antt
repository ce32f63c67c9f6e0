use Rattle.std.proofs.Common.{◌≡◌, ◌++◌, ◌+◌, Option, Some, None, refl, sym, ap, ◌∙◌, inl, inr, length, Ok, Err, arith}
use Rattle.wv_pool.specs.declared.key.Key.{Key}
use Rattle.wv_pool.specs.References.{IsSound}
use Rattle.wv_pool.specs.Constants.{constant_in}
use Rattle.wv_pool.specs.Numbers.{IsLeast, Named}
use Rattle.wv_pool.specs.Index.{number_in}
use Rattle.wv_pool.specs.Adding.{slots_of}
use Rattle.wv_pool.specs.declared.add.PoolFault.TheVariants as faults
use Rattle.wv_pool.proofs.Lacking.{put_adds}
use Rattle.wv_pool.proofs.Putting.{found_least, found_none, key_found, was_put, same_enters}
use Rattle.wv_pool.proofs.pool.Pool.put.Goals as goal

pub returns-in-Some : goal.returns-in-Some
returns-in-Some c =
    let least : IsLeast c.args.self.now c.args.constant.now c.in-Some.number = rw (← c.self.view_is) (found_least c.self.inside.entries.items (number_in c.self.inside.index) c.args.constant.now c.in-Some.number c.self.invariant.1 (sym c.in-Some.ensures)) in
    put_adds c.args.self.now c.args.self.now c.args.entry c.args.constant.now (rw (← c.self.view_is) c.self.invariant.0.1) c.requires.named (Ok c.in-Some.number) (least, inl ((c.in-Some.number, least.names), refl))

pub returns-then-count-slots-gt65535 : goal.returns-then-count-slots-gt65535
returns-then-count-slots-gt65535 c =
    let unnamed : Named c.args.self.now c.args.constant.now → ⊥ = rw (← c.self.view_is) (found_none c.self.inside.entries.items (number_in c.self.inside.index) c.args.constant.now c.self.invariant.1 (sym c.number_of.ensures ∙ c.in_default.is)) in
    put_adds c.args.self.now c.args.self.now c.args.entry c.args.constant.now (rw (← c.self.view_is) c.self.invariant.0.1) c.requires.named (Err faults.Full) (unnamed, omega (arith, ap length c.self.view_is), refl)

pub unreachable-requires : goal.unreachable-requires
unreachable-requires c =
    let sound : IsSound c.self.inside.entries.items c.args.entry = rw c.self.view_is c.requires.sound in
    let named : constant_in c.self.inside.entries.items c.args.entry ≡ Some c.args.constant.now = rw c.self.view_is c.requires.named in
    let k = key_found c.self.inside.entries.items (number_in c.self.inside.index) c.args.entry c.args.constant.now c.self.invariant.1 sound named in
    let never : ◌≡◌ {A = Option Key} None (Some k.0) = sym c.in_default-2.is ∙ c.in_ok-key.ensures ∙ k.1 in
    absurd cc

pub invariant_of-self : goal.invariant_of-self
invariant_of-self c = rw c.reserve.ensures.items c.self.invariant

pub invariant_of-self-in_err-insert : goal.invariant_of-self-in_err-insert
invariant_of-self-in_err-insert c = rw c.reserve.ensures.items (c.self.invariant.0, same_enters _ _ _ _ c.in_err-insert.ensures.err c.self.invariant.1)

pub invariant_of-self-2 : goal.invariant_of-self-2
invariant_of-self-2 c =
    let put = was_put c.self.inside.entries.items c.push_slots.new.entries.items c.args.entry c.args.constant.now (number_in c.self.inside.index) (number_in c.insert.new.self) c.in-Some-2.key (c.len-count.result + 1) c.self.invariant c.requires.laid_out
    (rw c.self.view_is c.requires.sound) (rw c.self.view_is c.requires.named) (sym c.number_of.ensures ∙ c.in_default.is) (sym c.in_ok-key.ensures ∙ c.in-Some-2.is) c.in_ok-insert.ensures.ok (omega arith)
    (rw (← c.reserve.ensures.items) c.push_slots.ensures) (omega arith) in
    (put.is_pool, put.right)

pub returns : goal.returns
returns c =
    let put = was_put c.self.inside.entries.items c.push_slots.new.entries.items c.args.entry c.args.constant.now (number_in c.self.inside.index) (number_in c.insert.new.self) c.in-Some-2.key (c.len-count.result + 1) c.self.invariant c.requires.laid_out
    (rw c.self.view_is c.requires.sound) (rw c.self.view_is c.requires.named) (sym c.number_of.ensures ∙ c.in_default.is) (sym c.in_ok-key.ensures ∙ c.in-Some-2.is) c.in_ok-insert.ensures.ok (omega arith)
    (rw (← c.reserve.ensures.items) c.push_slots.ensures) (omega arith) in
    let unnamed : Named c.args.self.now c.args.constant.now → ⊥ = rw (← c.self.view_is) (found_none c.self.inside.entries.items (number_in c.self.inside.index) c.args.constant.now c.self.invariant.1 (sym c.number_of.ensures ∙ c.in_default.is)) in
    let longer : c.push_slots.new.entries.items ≡ c.args.self.now ++ slots_of c.args.entry = rw (← c.self.view_is, ← c.reserve.ensures.items) c.push_slots.ensures in
    put_adds c.args.self.now c.push_slots.new.entries.items c.args.entry c.args.constant.now (rw (← c.self.view_is) c.self.invariant.0.1) c.requires.named (Ok (c.len-count.result + 1)) (put.least, inr (unnamed, longer))
