use Rattle.std.proofs.Common.{◌≡◌, ℕ, List, refl, sym, subst, ◌∙◌}
use Rattle.std.proofs.lemmas.Result.{err_from_is_err_and}
use Rattle.wv_base.specs.declared.class_file.PoolEntry.{PoolEntry}
use Rattle.wv_class.specs.Breaks.{RestBreaks}
use Rattle.wv_class.proofs.ClassReads.{class_sound, pool_breaks, pool_only, rest_only, first_at, none_at}
use Rattle.wv_class.proofs.OneMeaning.{found_only}
use Rattle.wv_class.proofs.reading.read_class.Goals as goal

pub returns-in_err-raw-clause-only : goal.returns-in_err-raw-clause-only
returns-in_err-raw-clause-only c =
    let p = err_from_is_err_and c.from_residual.result c.from_residual.ensures.1 in
    rw (p.1, p.2) (λ class spells. c.in_err-raw.ensures.only spells.raw spells.layout)

pub returns-in_err-pool-clause-only : goal.returns-in_err-pool-clause-only
returns-in_err-pool-clause-only c =
    let p = err_from_is_err_and c.from_residual-in_err-pool.result c.from_residual-in_err-pool.ensures.1 in
    rw (p.1, p.2) (λ class spells. pool_only c.in_ok-raw.raw c.args.bytes.now _ (rw c.as_slice.ensures at c.in_err-pool.ensures.fault) class spells (c.in_ok-raw.ensures.only spells.raw spells.layout))

pub returns-in_err-pool-clause-fault : goal.returns-in_err-pool-clause-fault
returns-in_err-pool-clause-fault c =
    let p = err_from_is_err_and c.from_residual-in_err-pool.result c.from_residual-in_err-pool.ensures.1 in
    rw (p.1, p.2) (pool_breaks c.in_ok-raw.raw c.args.bytes.now _ c.in_ok-raw.ensures.found (rw c.as_slice.ensures at c.in_err-pool.ensures.fault))

pub class_of-requires-clause-sound : goal.class_of-requires-clause-sound
class_of-requires-clause-sound c =
    let same : c.in_ok-pool.pool ≡ c.in_ok-raw.raw.pool = c.in_ok-pool.ensures.found ∙ c.as_slice.ensures in
    subst (λ (p : List PoolEntry). (at : ℕ) → RestBreaks p c.in_ok-raw.raw.rest at → ⊥) (sym same)
    (none_at c.in_ok-raw.raw c.in_ok-raw.behind_pool c.in_ok-pool.pool c.in_ok-at.field-0 c.in_ok-raw.ensures.behind same c.in-None.is c.in_ok-at.ensures)

pub returns-in-Some-clause-fault : goal.returns-in-Some-clause-fault
returns-in-Some-clause-fault c = record {
  raw = c.in_ok-raw.raw;
  layout = c.in_ok-raw.ensures.found;
  breaks = first_at c.in_ok-raw.raw c.in_ok-raw.behind_pool c.in-Some.at c.in_ok-pool.pool c.in_ok-at.field-0 (rw c.as_slice.ensures at c.in_ok-pool.ensures.sound) c.in_ok-raw.ensures.behind
      (c.in_ok-pool.ensures.found ∙ c.as_slice.ensures) c.in-Some.is c.in_ok-at.ensures;
}

pub returns-in-Some-clause-only : goal.returns-in-Some-clause-only
returns-in-Some-clause-only c = λ class spells.
    let same : c.in_ok-pool.pool ≡ c.in_ok-raw.raw.pool = c.in_ok-pool.ensures.found ∙ c.as_slice.ensures in
    let first = first_at c.in_ok-raw.raw c.in_ok-raw.behind_pool c.in-Some.at c.in_ok-pool.pool c.in_ok-at.field-0 (rw c.as_slice.ensures at c.in_ok-pool.ensures.sound) c.in_ok-raw.ensures.behind same c.in-Some.is c.in_ok-at.ensures in
    absurd (rest_only c.in_ok-raw.raw c.args.bytes.now c.in-Some.at first class spells (c.in_ok-raw.ensures.only spells.raw spells.layout))

pub returns-in_ok-class_of-in-None-clause-found : goal.returns-in_ok-class_of-in-None-clause-found
returns-in_ok-class_of-in-None-clause-found c =
    let same : c.in_ok-pool.pool ≡ c.in_ok-raw.raw.pool = c.in_ok-pool.ensures.found ∙ c.as_slice.ensures in
    record {
      raw = c.in_ok-raw.raw;
      layout = c.in_ok-raw.ensures.found;
      sound = class_sound c.in_ok-raw.raw (rw c.as_slice.ensures at c.in_ok-pool.ensures.sound)
          (none_at c.in_ok-raw.raw c.in_ok-raw.behind_pool c.in_ok-pool.pool c.in_ok-at.field-0 c.in_ok-raw.ensures.behind same c.in-None.is c.in_ok-at.ensures);
      means = c.in_ok-class_of-in-None.ensures c.in_ok-raw.raw refl (sym same) refl;
    }

pub returns-in_ok-class_of-in-None-clause-only : goal.returns-in_ok-class_of-in-None-clause-only
returns-in_ok-class_of-in-None-clause-only c = λ class spells.
    let same : c.in_ok-pool.pool ≡ c.in_ok-raw.raw.pool = c.in_ok-pool.ensures.found ∙ c.as_slice.ensures in
    found_only c.in_ok-raw.raw c.args.bytes.now c.in_ok-raw.ensures.found c.in_ok-class_of-in-None.field-0 (c.in_ok-class_of-in-None.ensures c.in_ok-raw.raw refl (sym same) refl) class spells (c.in_ok-raw.ensures.only spells.raw spells.layout)
