use Rattle.std.proofs.Common.{Some, None, sym, ◌∙◌, option_copied}
use Rattle.wv_version.proofs.Dotting.{parts_of_dotted, dotted_of_parts, numbers_of-found, numbers_of-only, build-found, build-only, some_none, pre_release-none}
use Rattle.wv_version.proofs.Identifiers.{pre_release_of-found}
use Rattle.wv_version.proofs.dotted.Dotted.read.Goals as goal

pub returns-then-not-is_build_part-clause-none : goal.returns-then-not-is_build_part-clause-none
returns-then-not-is_build_part-clause-none c = λ other h.
    let parts = parts_of_dotted c.args.text.now _ _ _ _ other c.cut.ensures c.cut-2.ensures h in
    build-only (option_copied c.cut.result.1) c.is_build_part.result c.is_build_part.ensures c.if-not-is_build_part.true parts.of_build

pub returns-in_default-clause-none : goal.returns-in_default-clause-none
returns-in_default-clause-none c = λ other h.
    let parts = parts_of_dotted c.args.text.now _ _ _ _ other c.cut.ensures c.cut-2.ensures h in
    some_none (numbers_of-only c.cut-2.result.0.now other.numbers parts.of_numbers) (sym c.in_ok-numbers.ensures ∙ c.in_default.is)

pub returns-in_default-pre_release-clause-found : goal.returns-in_default-pre_release-clause-found
returns-in_default-pre_release-clause-found c =
    dotted_of_parts c.args.text.now c.cut.result.0.now c.cut-2.result.0.now None (option_copied c.cut.result.1) _ c.cut.ensures (rw c.in_default-pre_release.is at c.cut-2.ensures)
    (record {
      of_numbers = numbers_of-found c.cut-2.result.0.now c.in-Some.numbers (sym c.in_ok-numbers.ensures ∙ c.in-Some.is);
      of_pre_release = tt;
      of_build = build-found (option_copied c.cut.result.1) c.is_build_part.result c.is_build_part.ensures c.if-not-is_build_part.false;
    })

pub returns-in_default-2-clause-none : goal.returns-in_default-2-clause-none
returns-in_default-2-clause-none c = λ other h.
    let parts = parts_of_dotted c.args.text.now c.cut.result.0.now c.cut-2.result.0.now (Some c.in-Some-pre_release.pre_release.now) (option_copied c.cut.result.1) other c.cut.ensures (rw c.in-Some-pre_release.is at c.cut-2.ensures) h in
    pre_release-none c.in-Some-pre_release.pre_release.now other.pre_release (sym c.in_ok-pre_release.ensures ∙ c.in_default-2.is) parts.of_pre_release

pub returns-clause-found : goal.returns-clause-found
returns-clause-found c =
    dotted_of_parts c.args.text.now c.cut.result.0.now c.cut-2.result.0.now (Some c.in-Some-pre_release.pre_release.now) (option_copied c.cut.result.1) _ c.cut.ensures (rw c.in-Some-pre_release.is at c.cut-2.ensures)
    (record {
      of_numbers = numbers_of-found c.cut-2.result.0.now c.in-Some.numbers (sym c.in_ok-numbers.ensures ∙ c.in-Some.is);
      of_pre_release = pre_release_of-found c.in-Some-pre_release.pre_release.now c.in-Some-2.pre_release (sym c.in_ok-pre_release.ensures ∙ c.in-Some-2.is);
      of_build = build-found (option_copied c.cut.result.1) c.is_build_part.result c.is_build_part.ensures c.if-not-is_build_part.false;
    })
