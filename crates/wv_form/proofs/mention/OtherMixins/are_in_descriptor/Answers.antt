use Rattle.std.proofs.Common.{◌==◌, ◌≡◌, sym, ◌∙◌, ap, map, Bor, List, [], ℕ, length, get_or, ◌<◌}
use Rattle.std.specs.List.{slice_split}
use Rattle.std.proofs.lemmas.List.{get_or_default}
use Rattle.wv_form.specs.Mention.{names_other}
use Rattle.wv_form.specs.NamedClasses.{behind_l}
use Rattle.wv_form.proofs.Passing.{some-part, none-part}
use Rattle.wv_form.proofs.mention.OtherMixins.are_in_descriptor.Goals as goal

pub returns-then-branch : goal.returns-then-branch
returns-then-branch c =
    let list = c.as_slice-part-items.result.now in
    let i = c.loop-part.part-index in
    let nothing : Bor (List ℕ) = record { ref_ptr = (0, 0); now = [] } in
    let part : Bor (List ℕ) = get_or list i nothing in
    sym (some-part (names_other c.args.self.now.names.now c.args.self.now.own.now) behind_l (slice_split (λ unit. unit == 59) c.args.descriptor.now) list i
    (ap (map (λ (p : Bor (List ℕ)). p.now)) c.as_slice-part-items.ensures.value ∙ c.in_ok-parts.ensures)
    part c.loop-part-test.true (get_or_default list i nothing part c.loop-part-test.true)
    (sym c.in_ok-is_in_part.ensures ∙ c.if-branch.true))

pub returns : goal.returns
returns c =
    let list = c.as_slice-part-items.result.now in
    let i = c.loop-part.part-index in
    sym (none-part (names_other c.args.self.now.names.now c.args.self.now.own.now) behind_l (slice_split (λ unit. unit == 59) c.args.descriptor.now) list i
    (ap (map (λ (p : Bor (List ℕ)). p.now)) c.as_slice-part-items.ensures.value ∙ c.in_ok-parts.ensures)
    c.loop-part-test.false c.loop-part.invariant)
