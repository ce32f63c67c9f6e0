use Rattle.std.proofs.Common.{List, [], ◌∷◌, ap, sym, subst}
use Rattle.std.proofs.lemmas.Result.{err_from_is_err_and}
use Rattle.wv_base.specs.declared.constant.Const.{Const}
use Rattle.wv_base.specs.declared.constant.Const.TheVariants as constants
use Rattle.wv_pool.specs.Adding.{AreTooMany, Grows}
use Rattle.wv_attr.specs.Writing.{IsFormed, piece_needs}
use Rattle.wv_attr.proofs.PoolGrowth.{grows_then, too_many_then, too_many_more, text_kept}
use Rattle.wv_attr.proofs.Numbered.{grows_nothing, alone}
use Rattle.wv_attr.proofs.numbering.mark_of.Goals as goal

pub returns-in-List-clause-grows : goal.returns-in-List-clause-grows
returns-in-List-clause-grows c = grows_nothing c.args.pool.now c.args.piece.now (ap piece_needs c.in-List.is)

pub returns-in-Nested-clause-grows : goal.returns-in-Nested-clause-grows
returns-in-Nested-clause-grows c = grows_nothing c.args.pool.now c.args.piece.now (ap piece_needs c.in-Nested.is)

pub returns-in-Array-clause-grows : goal.returns-in-Array-clause-grows
returns-in-Array-clause-grows c = grows_nothing c.args.pool.now c.args.piece.now (ap piece_needs c.in-Array.is)

pub returns-in_ok-constant-in-Constant-clause-grows : goal.returns-in_ok-constant-in-Constant-clause-grows
returns-in_ok-constant-in-Constant-clause-grows c =
    let formed = subst IsFormed c.in-Constant.is c.requires in
    subst (λ (cs : List Const). Grows c.args.pool.now cs c.constant.new.pool) (sym (ap piece_needs c.in-Constant.is)) (c.in_ok-constant-in-Constant.ensures.grows (alone c.in-Constant.value c.in-Constant.tag formed.0))

pub returns-in_err-text-in-Enum-clause-full : goal.returns-in_err-text-in-Enum-clause-full
returns-in_err-text-in-Enum-clause-full c =
    let p = err_from_is_err_and c.from_residual-in_err-text-in-Enum.result c.from_residual-in_err-text-in-Enum.ensures.1 in
    rw (p.1, p.2) (λ full. subst (AreTooMany c.args.pool.now) (sym (ap piece_needs c.in-Enum.is))
    (too_many_more c.args.pool.now (constants.Utf8 c.in-Enum.name ∷ []) (constants.Utf8 c.in-Enum.descriptor ∷ []) (c.in_err-text-in-Enum.ensures.full full)))

pub returns-in_err-text-in-Enum-2-clause-full : goal.returns-in_err-text-in-Enum-2-clause-full
returns-in_err-text-in-Enum-2-clause-full c =
    let p = err_from_is_err_and c.from_residual-in_err-text-in-Enum-2.result c.from_residual-in_err-text-in-Enum-2.ensures.1 in
    rw (p.1, p.2) (λ full. subst (AreTooMany c.args.pool.now) (sym (ap piece_needs c.in-Enum.is))
    (too_many_then c.args.pool.now c.text-in-Enum.new.pool (constants.Utf8 c.in-Enum.descriptor ∷ []) (constants.Utf8 c.in-Enum.name ∷ []) c.in_ok-text-in-Enum.ensures.grows (c.in_err-text-in-Enum-2.ensures.full full)))

pub returns-in_ok-text-in-Enum-2-clause-names : goal.returns-in_ok-text-in-Enum-2-clause-names
returns-in_ok-text-in-Enum-2-clause-names c =
    rw c.in-Enum.is (text_kept c.text-in-Enum.new.pool c.text-in-Enum-2.new.pool c.in_ok-text-in-Enum.field-0 c.in-Enum.descriptor c.in_ok-text-in-Enum-2.ensures.kept c.in_ok-text-in-Enum.ensures.names, c.in_ok-text-in-Enum-2.ensures.names)

pub returns-in_ok-text-in-Enum-2-clause-grows : goal.returns-in_ok-text-in-Enum-2-clause-grows
returns-in_ok-text-in-Enum-2-clause-grows c =
    subst (λ (cs : List Const). Grows c.args.pool.now cs c.text-in-Enum-2.new.pool) (sym (ap piece_needs c.in-Enum.is))
    (grows_then c.args.pool.now c.text-in-Enum.new.pool c.text-in-Enum-2.new.pool (constants.Utf8 c.in-Enum.descriptor ∷ []) (constants.Utf8 c.in-Enum.name ∷ []) c.in_ok-text-in-Enum.ensures.grows c.in_ok-text-in-Enum-2.ensures.grows)
