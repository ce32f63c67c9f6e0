use Rattle.std.proofs.Common.{◌≡◌, ◌++◌, List, refl, subst}
use Rattle.std.proofs.lemmas.Result.{err_from_is_err_and}
use Rattle.wv_base.specs.declared.class_file.PoolEntry.{PoolEntry}
use Rattle.wv_pool.specs.Entries.{number_bytes, pool_bytes}
use Rattle.wv_class.specs.Laid.{LayoutsBreak}
use Rattle.wv_class.specs.Layout.{magic}
use Rattle.wv_class.specs.Writing.{WritesRest}
use Rattle.wv_class.proofs.LongLists.{never}
use Rattle.wv_class.proofs.WrittenClass.{not_long, layouts_cause, writes}
use Rattle.wv_class.proofs.writing.write_class.Goals as goal

pub returns-in_err-layouts-clause-limit : goal.returns-in_err-layouts-clause-limit
returns-in_err-layouts-clause-limit c =
    let p = err_from_is_err_and c.from_residual-in_err-layouts.result c.from_residual-in_err-layouts.ensures.1 in
    rw (p.1, p.2) (layouts_cause c.args.class.now c.in_ok-pool.pool c.in_err-layouts.field-0.0 (λ long. never (c.if-has_long_list.ensures.1 long)) c.in_ok-pool.ensures.sound c.in_ok-pool.ensures.grown c.in_err-layouts.ensures.cause)

pub returns-clause-short : goal.returns-clause-short
returns-clause-short c = not_long c.args.class.now c.in_ok-pool.pool (λ long. never (c.if-has_long_list.ensures.1 long)) c.in_ok-pool.ensures.sound c.in_ok-pool.ensures.grown

pub returns-clause-written : goal.returns-clause-written
returns-clause-written c =
    let class = c.args.class.now in
    let pool = c.in_ok-pool.pool in
    let written = subst (λ (p : List PoolEntry). WritesRest p class c.in_ok-rest.rest) c.in_ok-layouts.ensures.same c.in_ok-rest.ensures.written in
    let bytes : c.extend-2.new.self ≡ ((magic ++ (number_bytes class.version.minor ++ number_bytes class.version.major)) ++ pool_bytes pool) ++ c.in_ok-rest.rest =
    rw (c.in_ok-extend-2.ensures.ok, c.in_ok-extend.ensures.ok, c.in_ok-out.ensures.bytes, c.as_slice.ensures, c.in_ok-write.ensures, c.as_slice-2.ensures, c.in_ok-rest.ensures.same, c.in_ok-layouts.ensures.same) refl in
    writes class pool c.in_ok-rest.rest c.extend-2.new.self c.head.ensures.fits.0 c.head.ensures.fits.1 c.in_ok-pool.ensures.sound written bytes
