use Rattle.std.proofs.Common.{◌≡◌, ℕ, List, true, false, codes, ap, sym, ◌∙◌, subst}
use Rattle.wv_base.specs.Folder.{File, IsInOrder}
use Rattle.wv_model.specs.FolderRead.{has_ending}
use Rattle.wv_mod.specs.FirstBroken.{IsKept, IsFirstBreak}
use Rattle.wv_front.specs.Opening.{HasJar, jar_file}
use Rattle.wv_front.proofs.Listing.{no-jars, jars-more, jars-all, jar-first}
use Rattle.wv_front.proofs.folder_rules.first_jar.Goals as goal

pub loop-path-init : goal.loop-path-init
loop-path-init c = no-jars

pub returns-then-is_jar : goal.returns-then-is_jar
returns-then-is_jar c =
    let items = c.files-path-items.result.now in
    let file = c.loop-path-item.result in
    let order = subst IsInOrder (sym c.files-path-items.ensures.list) c.files-path-items.ensures.order in
    let ends : has_ending file.0 (codes ".jar") ≡ true = ap (λ (p : List ℕ). has_ending p (codes ".jar")) (sym c.as_str.ensures) ∙ sym c.is_jar.ensures ∙ c.if-is_jar.true in
    subst (λ (fs : List File). IsFirstBreak (HasJar fs) (jar_file c.as_str-then-is_jar.result.now)) c.files-path-items.ensures.list
    (subst (λ (p : List ℕ). IsFirstBreak (HasJar items) (jar_file p)) (sym c.as_str-then-is_jar.ensures)
    (jar-first items c.loop-path.path-index file order c.loop-path-test.true c.loop-path-item.is ends c.loop-path.invariant))

pub loop-path-preserved : goal.loop-path-preserved
loop-path-preserved c =
    let file = c.loop-path-item.result in
    let ends : has_ending file.0 (codes ".jar") ≡ false = ap (λ (p : List ℕ). has_ending p (codes ".jar")) (sym c.as_str.ensures) ∙ sym c.is_jar.ensures ∙ c.if-is_jar.false in
    jars-more c.files-path-items.result.now c.loop-path.path-index file c.loop-path-test.true c.loop-path-item.is ends c.loop-path.invariant

pub returns : goal.returns
returns c =
    subst (λ (fs : List File). IsKept (HasJar fs)) c.files-path-items.ensures.list
    (jars-all c.files-path-items.result.now c.loop-path.path-index c.loop-path-test.false c.loop-path.invariant)
