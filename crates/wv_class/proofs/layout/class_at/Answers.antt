use Rattle.std.proofs.Common.{List, ℕ, Bor, subst, arith}
use Rattle.wv_base.specs.declared.class_file.ClassVersion.{ClassVersion}
use Rattle.wv_base.specs.declared.class_file.PoolEntry.{PoolEntry}
use Rattle.wv_class.specs.declared.raw_class.RawRest.{RawRest}
use Rattle.wv_class.specs.declared.raw_class.RawClass.{RawClass}
use Rattle.wv_class.specs.Layout.{SpellsRest}
use Rattle.wv_class.specs.Reading.{Taken, Stopped}
use Rattle.wv_class.proofs.Exits.{seen, fails_as}
use Rattle.wv_class.proofs.ClassFiles.{head_stops, pool_stops, rest_stops, class_takes, place_is}
use Rattle.wv_class.proofs.layout.class_at.Goals as goal

-- a class file with a place, and the bytes behind it
abbrev placed : (RawClass × ℕ) × Bor (List ℕ) → RawClass × List ℕ
placed x = (x.0.0, x.1.now)

pub returns-in_err-version-clause-reads : goal.returns-in_err-version-clause-reads
returns-in_err-version-clause-reads c = fails_as (seen {X = ClassVersion}) placed c.args.bytes.now c.args.bytes.now (head_stops c.args.bytes.now) c.from_residual.result c.in_err-version.field-0.0 c.from_residual.ensures.1 c.in_err-version.ensures

pub returns-in_err-pool-clause-reads : goal.returns-in_err-pool-clause-reads
returns-in_err-pool-clause-reads c =
    fails_as (seen {X = List PoolEntry}) placed c.in_ok-version.after.now c.args.bytes.now (pool_stops c.args.bytes.now c.in_ok-version.version c.in_ok-version.after.now c.in_ok-version.ensures) c.from_residual-in_err-pool.result c.in_err-pool.field-0.0 c.from_residual-in_err-pool.ensures.1 c.in_err-pool.ensures

pub returns-in_err-rest-clause-reads : goal.returns-in_err-rest-clause-reads
returns-in_err-rest-clause-reads c =
    fails_as (seen {X = RawRest}) placed c.in_ok-pool.after.now c.args.bytes.now (λ left s. rest_stops c.args.bytes.now c.in_ok-version.version c.in_ok-version.after.now c.in_ok-version.ensures c.in_ok-pool.pool c.in_ok-pool.after.now c.in_ok-pool.ensures left (subst (λ (k : List PoolEntry). Stopped (SpellsRest k) c.in_ok-pool.after.now left) c.as_slice.ensures s)) c.from_residual-in_err-rest.result c.in_err-rest.field-0.0 c.from_residual-in_err-rest.ensures.1 c.in_err-rest.ensures

pub returns-clause-reads : goal.returns-clause-reads
returns-clause-reads c = class_takes c.args.bytes.now c.in_ok-version.version c.in_ok-version.after.now c.in_ok-version.ensures c.in_ok-pool.pool c.in_ok-pool.after.now c.in_ok-pool.ensures c.in_ok-rest.rest c.in_ok-rest.after.now (subst (λ (k : List PoolEntry). Taken (SpellsRest k) c.in_ok-pool.after.now c.in_ok-rest.rest c.in_ok-rest.after.now) c.as_slice.ensures c.in_ok-rest.ensures)

pub overflow_sub-behind_pool : goal.overflow_sub-behind_pool
overflow_sub-behind_pool c =
    let p = place_is c.args.bytes.now c.in_ok-version.version c.in_ok-version.after.now c.in_ok-version.ensures c.in_ok-pool.pool c.in_ok-pool.after.now c.in_ok-pool.ensures in
    omega (arith, p)

pub returns-clause-behind : goal.returns-clause-behind
returns-clause-behind c =
    let p = place_is c.args.bytes.now c.in_ok-version.version c.in_ok-version.after.now c.in_ok-version.ensures c.in_ok-pool.pool c.in_ok-pool.after.now c.in_ok-pool.ensures in
    omega (arith, p)
