use Rattle.std.proofs.Common.{List, sym, ◌∙◌, subst}
use Rattle.std.proofs.lemmas.Bool.{MatchBool-at_true, MatchBool-at_false}
use Rattle.wv_resolve.proofs.Lists.{each-more}
use Rattle.wv_form.specs.declared.kinds.KnownFile.{KnownFile}
use Rattle.wv_form.specs.Form.{IsOfForm}
use Rattle.wv_form.specs.Kinds.{AreKnown}
use Rattle.wv_form.specs.Tables.{AreTables}
use Rattle.wv_form.proofs.Checked.{known-at, first-file, all-files}
use Rattle.wv_form.proofs.checking.check_form.Goals as goal

pub returns-then-not-branch-clause-broken : goal.returns-then-not-branch-clause-broken
returns-then-not-branch-clause-broken c =
    let folder = c.args.folder.now in
    let classes = c.args.classes.now in
    let files = c.as_slice-known-items.result.now in
    let known = subst (AreKnown folder classes) (sym c.as_slice-known-items.ensures.value) c.in_ok-files.ensures in
    let tables = subst (λ (list : List KnownFile). AreTables list c.in_ok-tables.tables) (c.as_slice.ensures.value ∙ sym c.as_slice-known-items.ensures.value) c.in_ok-tables.ensures in
    let is = known-at folder classes files known c.loop-known.known-index c.known-item.result c.loop-known-test.true c.known-item.is in
    first-file folder classes files known c.loop-known.known-index c.known-item.result c.in_ok-at_file.field-0 c.loop-known-test.true c.known-item.is c.loop-known.invariant
    (MatchBool-at_false _ _ c.if-not-branch.true (c.in_ok-have.ensures folder classes files known tables is))
    (rw c.as_str-path.ensures at c.in_ok-at_file.ensures)

pub loop-known-preserved : goal.loop-known-preserved
loop-known-preserved c =
    let folder = c.args.folder.now in
    let classes = c.args.classes.now in
    let files = c.as_slice-known-items.result.now in
    let known = subst (AreKnown folder classes) (sym c.as_slice-known-items.ensures.value) c.in_ok-files.ensures in
    let tables = subst (λ (list : List KnownFile). AreTables list c.in_ok-tables.tables) (c.as_slice.ensures.value ∙ sym c.as_slice-known-items.ensures.value) c.in_ok-tables.ensures in
    let is = known-at folder classes files known c.loop-known.known-index c.known-item.result c.loop-known-test.true c.known-item.is in
    each-more (λ (one : KnownFile). IsOfForm folder classes one.file.now) files c.loop-known.known-index c.known-item.result c.loop-known-test.true c.known-item.is c.loop-known.invariant
    (MatchBool-at_true _ _ c.if-not-branch.false (c.in_ok-have.ensures folder classes files known tables is))

pub returns-clause-formed : goal.returns-clause-formed
returns-clause-formed c =
    let folder = c.args.folder.now in
    let classes = c.args.classes.now in
    let files = c.as_slice-known-items.result.now in
    let known = subst (AreKnown folder classes) (sym c.as_slice-known-items.ensures.value) c.in_ok-files.ensures in
    all-files folder classes files known c.loop-known.known-index c.loop-known-test.false c.loop-known.invariant
