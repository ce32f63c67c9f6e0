use Rattle.std.proofs.lemmas.Result.{err_from_is_err_and}
use Rattle.wv_pool.specs.Numbers.{Named}
use Rattle.wv_pool.proofs.Lacking.{later}
use Rattle.wv_code.specs.Constants.{all_constants}
use Rattle.wv_code.specs.Entering.{short_constants}
use Rattle.wv_code.specs.BodyConstants.{other_constants}
use Rattle.wv_code.proofs.Lists.{AllByRecursion-map}
use Rattle.wv_code.proofs.Entered.{kept_on}
use Rattle.wv_code.proofs.Written.{layout_kept}
use Rattle.wv_code.proofs.BodyWritten.{others_allowed, code_kept, enters_then, full_then}
use Rattle.wv_code.proofs.body_writing.write_code.Goals as goal

pub enter_others-requires : goal.enter_others-requires
enter_others-requires c = others_allowed c.args.pool.now c.args.body.now c.requires.formed

pub returns-in_err-enter_others-clause-older : goal.returns-in_err-enter_others-clause-older
returns-in_err-enter_others-clause-older c = λ n d h. later c.write_insns.new.pool c.enter_others.new.pool n d c.in_err-enter_others.ensures.kept (c.in_ok-code.ensures.older n d h)

pub returns-in_err-enter_others-clause-full : goal.returns-in_err-enter_others-clause-full
returns-in_err-enter_others-clause-full c =
    let p = err_from_is_err_and c.from_residual-in_err-enter_others.result c.from_residual-in_err-enter_others.ensures.1 in
    rw (p.1, p.2) (λ e. full_then c.args.pool.now c.write_insns.new.pool (all_constants c.args.body.now.insns) (other_constants c.args.body.now) (rw c.as_slice.ensures at c.in_ok-code.ensures.entered) (c.in_err-enter_others.ensures.full e))

pub content-requires-clause-laid : goal.content-requires-clause-laid
content-requires-clause-laid c =
    layout_kept c.args.pool.now c.enter_others.new.pool c.args.body.now.insns c.args.layout.now c.entries-entries.ensures.sound
    (kept_on c.args.pool.now c.write_insns.new.pool c.enter_others.new.pool c.in_ok-code.ensures.kept c.in_ok-enter_others.ensures.kept)
    (λ n d h. later c.write_insns.new.pool c.enter_others.new.pool n d c.in_ok-enter_others.ensures.kept (c.in_ok-code.ensures.older n d h)) c.requires.named c.requires.laid

pub content-requires-clause-code : goal.content-requires-clause-code
content-requires-clause-code c =
    code_kept c.write_insns.new.pool c.enter_others.new.pool c.args.body.now.insns c.args.layout.now.offsets c.in_ok-code.code c.in_ok-enter_others.ensures.sound c.in_ok-enter_others.ensures.kept
    (λ n d h. later c.write_insns.new.pool c.enter_others.new.pool n d c.in_ok-enter_others.ensures.kept h)
    (AllByRecursion-map (Named c.args.pool.now) (Named c.write_insns.new.pool) (short_constants c.args.body.now.insns) (λ d h. (h.0, c.in_ok-code.ensures.older h.0 d h.1)) c.requires.named)
    (rw c.as_slice.ensures at c.in_ok-code.ensures.code)

pub returns-in_err-content-clause-older : goal.returns-in_err-content-clause-older
returns-in_err-content-clause-older c = λ n d h.
    later c.enter_others.new.pool c.content.new.pool n d c.in_err-content.ensures.kept (later c.write_insns.new.pool c.enter_others.new.pool n d c.in_ok-enter_others.ensures.kept (c.in_ok-code.ensures.older n d h))

pub returns-clause-older : goal.returns-clause-older
returns-clause-older c = λ n d h.
    later c.enter_others.new.pool c.content.new.pool n d c.in_ok-content.ensures.kept (later c.write_insns.new.pool c.enter_others.new.pool n d c.in_ok-enter_others.ensures.kept (c.in_ok-code.ensures.older n d h))

pub returns-clause-entered : goal.returns-clause-entered
returns-clause-entered c =
    rw c.in_ok-content.ensures.same
    (enters_then c.args.pool.now c.write_insns.new.pool c.enter_others.new.pool (all_constants c.args.body.now.insns) (other_constants c.args.body.now) (rw c.as_slice.ensures at c.in_ok-code.ensures.entered) c.in_ok-enter_others.ensures.entered)
