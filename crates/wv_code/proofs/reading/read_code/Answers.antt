use Rattle.std.proofs.Common.{◌≡◌, refl, sym, subst}
use Rattle.std.proofs.lemmas.Result.{err_from_is_err_and}
use Rattle.wv_code.specs.declared.raw_body.RawBody.{RawBody}
use Rattle.wv_code.specs.Body.{IsBodyOf}
use Rattle.wv_code.specs.Breaks.{Breaks, FirstBreak}
use Rattle.wv_code.proofs.OneBody.{one_body}
use Rattle.wv_code.proofs.Starts.{follow_below, follow_ascends}
use Rattle.wv_code.proofs.reading.read_code.Goals as goal

pub returns-in_err-raw-clause-only : goal.returns-in_err-raw-clause-only
returns-in_err-raw-clause-only c =
    let p = err_from_is_err_and c.from_residual.result c.from_residual.ensures.1 in
    rw (p.1, p.2) (λ body spells. c.in_err-raw.ensures.only spells.raw (rw c.entries.ensures.entries spells.content) refl)

pub returns-in-Some-clause-only : goal.returns-in-Some-clause-only
returns-in-Some-clause-only c = λ body spells.
    let same : c.in_ok-raw.raw ≡ spells.raw = c.in_ok-raw.ensures.only spells.raw (rw c.entries.ensures.entries spells.content) refl in
    let first : FirstBreak c.args.pool.now c.args.first.now c.in_ok-raw.raw c.in-Some.at = rw c.in-Some.is at c.in_ok-at.ensures.found in
    absurd (spells.sound c.in-Some.at (subst (λ (r : RawBody). Breaks c.args.pool.now c.args.first.now r c.in-Some.at) same first.breaks))

pub returns-clause-only : goal.returns-clause-only
returns-clause-only c = λ body spells.
    let raw = c.in_ok-raw.raw in
    let content = c.in_ok-raw.ensures.found.0 in
    let same : c.in_ok-raw.raw ≡ spells.raw = c.in_ok-raw.ensures.only spells.raw (rw c.entries.ensures.entries spells.content) refl in
    let means : IsBodyOf c.args.pool.now c.args.first.now c.in_ok-raw.raw body = subst (λ (r : RawBody). IsBodyOf c.args.pool.now c.args.first.now r body) (sym same) spells.means in
    one_body c.args.pool.now c.args.first.now c.in_ok-raw.raw c.in_ok-body_of.field-0 body (follow_ascends content.code 0 c.in_ok-raw.raw.code.raws c.in_ok-raw.raw.code.offsets c.in_ok-raw.raw.len content.follow)
    (follow_below content.code 0 c.in_ok-raw.raw.code.raws c.in_ok-raw.raw.code.offsets c.in_ok-raw.raw.len content.follow) c.in_ok-body_of.ensures.means means
