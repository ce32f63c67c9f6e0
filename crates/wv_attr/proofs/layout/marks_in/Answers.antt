use Rattle.std.proofs.Common.{◌≡◌, ◌+◌, ◌-◌, ◌^◌, ◌<◌, ◌≤◌, [], ◌∷◌, ◌++◌, List, ℕ, length, take, drop, reverse, refl, sym, subst, ap, ◌∙◌, arith}
use Rattle.std.proofs.lemmas.List.{length-drop}
use Rattle.wv_room.specs.declared.elements.Elements.{Elements}
use Rattle.wv_room.specs.Counts.{elements_with, ElementsFillRoom}
use Rattle.wv_attr.specs.declared.group.Group.{Group}
use Rattle.wv_attr.specs.declared.mark.Mark.{Mark}
use Rattle.wv_attr.specs.Marks.{mark_bytes, IsMark}
use Rattle.wv_attr.specs.Groups.{behind, less, pending}
use Rattle.wv_attr.specs.Steps.{padded, IsNext, StepStop}
use Rattle.wv_attr.proofs.Filling.{HasRoom, has_room, narrow_behind}
use Rattle.wv_attr.proofs.Missing.{stopped, none_missing, whole_table, only_table}
use Rattle.wv_attr.proofs.Padding.{length-padded, drop-padded}
use Rattle.wv_attr.proofs.Places.{Reading, start, advance}
use Rattle.wv_attr.proofs.Stack.{emptied, two_more, moved, popped, skipped, due_is, rest_is, next_fits}
use Rattle.wv_attr.proofs.layout.marks_in.Goals as goal

-- the bytes that are left, and those that are missing
left : (bytes : List ℕ) (missing at : ℕ) → at ≤ length bytes → padded (take (length bytes - at) (drop at bytes)) missing ≡ drop at (padded bytes missing)
left bytes missing at le = ap (λ (t : List ℕ). padded t missing) (rest_is bytes at) ∙ sym (drop-padded at bytes missing le)

left_room : (bytes : List ℕ) (missing at : ℕ) → at ≤ length bytes → length (drop at (padded bytes missing)) ≡ length (take (length bytes - at) (drop at bytes)) + missing
left_room bytes missing at le = ap length (sym (left bytes missing at le)) ∙ length-padded (take (length bytes - at) (drop at bytes)) missing

there : (bytes : List ℕ) (at : ℕ) → length (take (length bytes - at) (drop at bytes)) ≡ length bytes - at
there bytes at = ap length (rest_is bytes at) ∙ length-drop at bytes

pub loop-group-init : goal.loop-group-init
loop-group-init c =
    let first = c.args.first ∷ [] in
    let all = padded c.args.bytes.now c.args.missing in
    let fits = subst (λ (k : ℕ). ElementsFillRoom (pending first) k) (sym (length-padded c.args.bytes.now c.args.missing)) c.requires.fits in
    record {
      inside = omega arith;
      reading = moved first all [] _ 0 0 first _ (pending first) _ (sym c.new-marks.ensures.items) refl (sym (ap reverse c.in_ok-groups.ensures.items)) (sym c.with-due.ensures) (start first all fits);
    }

pub loop-group-preserved-then-group-eq0 : goal.loop-group-preserved-then-group-eq0
loop-group-preserved-then-group-eq0 c =
    let l = c.loop-group in
    let first = c.args.first ∷ [] in
    let all = padded c.args.bytes.now c.args.missing in
    let r = popped first all l.marks.items l.at l.due l.groups.items c.pop.new.self.items c.in-Some.group c.in-Some.ensures.items l.invariant.reading in
    record { inside = l.invariant.inside; reading = skipped first all l.marks.items l.at l.due c.in-Some.group (reverse c.pop.new.self.items) (omega arith) r }

pub without-besides-requires : goal.without-besides-requires
without-besides-requires c =
    let l = c.loop-group in
    let first = c.args.first ∷ [] in
    let all = padded c.args.bytes.now c.args.missing in
    let gs = reverse c.pop.new.self.items in
    let r = popped first all l.marks.items l.at l.due l.groups.items c.pop.new.self.items c.in-Some.group c.in-Some.ensures.items l.invariant.reading in
    (pending (less c.in-Some.group ∷ gs), due_is first all l.marks.items l.at l.due c.in-Some.group gs (omega arith) r)

pub next_mark-requires-clause-fits : goal.next_mark-requires-clause-fits
next_mark-requires-clause-fits c =
    let l = c.loop-group in
    let first = c.args.first ∷ [] in
    let all = padded c.args.bytes.now c.args.missing in
    let g = c.in-Some.group in
    let gs = reverse c.pop.new.self.items in
    let r = popped first all l.marks.items l.at l.due l.groups.items c.pop.new.self.items g c.in-Some.ensures.items l.invariant.reading in
    let e = c.without-besides.ensures (pending (less g ∷ gs)) (due_is first all l.marks.items l.at l.due g gs (omega arith) r) in
    subst (λ (k : ℕ). ElementsFillRoom (elements_with g.kind 1 c.without-besides.result) k) (left_room c.args.bytes.now c.args.missing l.at l.invariant.inside)
    (next_fits first all l.marks.items l.at l.due c.without-besides.result g gs (omega arith) e r)

pub returns-in-Err-clause-fault : goal.returns-in-Err-clause-fault
returns-in-Err-clause-fault c =
    let l = c.loop-group in
    let first = c.args.first ∷ [] in
    let all = padded c.args.bytes.now c.args.missing in
    let g = c.in-Some.group in
    let gs = reverse c.pop.new.self.items in
    let r = popped first all l.marks.items l.at l.due l.groups.items c.pop.new.self.items g c.in-Some.ensures.items l.invariant.reading in
    let e = c.without-besides.ensures (pending (less g ∷ gs)) (due_is first all l.marks.items l.at l.due g gs (omega arith) r) in
    let besides = c.without-besides.result in
    let stop = subst (λ (t : List ℕ). StepStop g.kind g.depth besides t (length (take (length c.args.bytes.now - l.at) (drop l.at c.args.bytes.now))) c.in-Err.place) (left c.args.bytes.now c.args.missing l.at l.invariant.inside) c.in-Err.ensures in
    let here = subst (λ (k : ℕ). StepStop g.kind g.depth besides (drop l.at all) k c.in-Err.place) (there c.args.bytes.now l.at) stop in
    stopped first c.args.bytes.now c.args.missing l.marks.items l.at g gs l.due besides c.in-Err.place c.requires.small l.invariant.inside r (omega arith) e here

pub returns-in-Err-clause-only : goal.returns-in-Err-clause-only
returns-in-Err-clause-only c = (returns-in-Err-clause-fault c).no_table

has : (e : Elements) (d n : ℕ) (m : Mark) (h : Group) → h ≡ behind d m → IsMark m → ElementsFillRoom (elements_with (behind d m).kind (behind d m).count e) n → n < 2 ^ 32 → HasRoom h.count e
has e d n m h same valid f lt =
    subst (λ (x : Group). HasRoom x.count e) (sym same) (has_room (behind d m).kind (behind d m).count e n f lt (narrow_behind d m valid))

room_for : (c : goal.After-behind-behind) → HasRoom c.behind-behind.result.count c.without-besides.result
room_for c =
    let m = c.in-Ok.mark in
    let is = c.in-Ok.ensures.0.1 in
    let long = length-padded (take (length c.args.bytes.now - c.loop-group.at) (drop c.loop-group.at c.args.bytes.now)) c.args.missing in
    has c.without-besides.result c.in-Some.group.depth _ m c.behind-behind.result c.behind-behind.ensures is.valid is.fills (omega (arith, long, there c.args.bytes.now c.loop-group.at, c.requires.small))

pub with-due-requires-in-Some-clause-bytes : goal.with-due-requires-in-Some-clause-bytes
with-due-requires-in-Some-clause-bytes c = (room_for c).bytes

pub with-due-requires-in-Some-clause-values : goal.with-due-requires-in-Some-clause-values
with-due-requires-in-Some-clause-values c = (room_for c).values

pub with-due-requires-in-Some-clause-annotations : goal.with-due-requires-in-Some-clause-annotations
with-due-requires-in-Some-clause-annotations c = (room_for c).annotations

pub with-due-requires-in-Some-clause-parameters : goal.with-due-requires-in-Some-clause-parameters
with-due-requires-in-Some-clause-parameters c = (room_for c).parameters

pub loop-group-preserved : goal.loop-group-preserved
loop-group-preserved c =
    let l = c.loop-group in
    let first = c.args.first ∷ [] in
    let all = padded c.args.bytes.now c.args.missing in
    let g = c.in-Some.group in
    let gs = reverse c.pop.new.self.items in
    let m = c.in-Ok.mark in
    let r = popped first all l.marks.items l.at l.due l.groups.items c.pop.new.self.items g c.in-Some.ensures.items l.invariant.reading in
    let e = c.without-besides.ensures (pending (less g ∷ gs)) (due_is first all l.marks.items l.at l.due g gs (omega arith) r) in
    let besides = c.without-besides.result in
    let rest = left c.args.bytes.now c.args.missing l.at l.invariant.inside in
    let is = subst (λ (t : List ℕ). IsNext g.kind g.depth besides (length t) m) rest c.in-Ok.ensures.0.1 in
    let front = subst (λ (t : List ℕ). t ≡ mark_bytes m ++ drop (length (mark_bytes m)) t) rest c.in-Ok.ensures.0.2 in
    let next = advance first all l.marks.items l.at g gs l.due besides m (omega arith) e c.in-Ok.ensures.0.0 is front r in
    record {
      inside = omega (arith, c.in-Ok.ensures.1, there c.args.bytes.now l.at, c.len-at.ensures, l.invariant.inside);
      reading = moved first all (l.marks.items ++ m ∷ []) _ (l.at + length (mark_bytes m)) _ (behind g.depth m ∷ less g ∷ gs) _ (elements_with (behind g.depth m).kind (behind g.depth m).count besides) _
          (sym c.in_ok-push.ensures.items)
          (ap (λ (k : ℕ). l.at + k) (sym c.len-at.ensures))
          (ap (λ (h : Group). h ∷ less g ∷ gs) (sym c.behind-behind.ensures) ∙ two_more c.push-in-Some-2.new.self.items c.push-in-Some.new.self.items c.pop.new.self.items (less g) c.behind-behind.result c.in_ok-push-2.ensures.items c.in_ok-push-3.ensures.items)
          (ap (λ (h : Group). elements_with h.kind h.count besides) (sym c.behind-behind.ensures) ∙ sym c.with-due-in-Some.ensures)
          next;
    }

pub returns-clause-found : goal.returns-clause-found
returns-clause-found c =
    let l = c.loop-group in
    let r = subst (λ (t : List Group). Reading (c.args.first ∷ []) (padded c.args.bytes.now c.args.missing) l.marks.items l.at t l.due) (emptied l.groups.items (omega (arith, l.groups.ok, c.in_default.ensures.cases.0))) l.invariant.reading in (
      none_missing (c.args.first ∷ []) c.args.bytes.now c.args.missing l.marks.items l.at l.due l.invariant.inside r,
      whole_table (c.args.first ∷ []) c.args.bytes.now c.args.missing l.marks.items l.at l.due c.requires.small l.invariant.inside r,
    )

pub returns-clause-only : goal.returns-clause-only
returns-clause-only c = λ whole parts t.
    let l = c.loop-group in
    let r = subst (λ (t : List Group). Reading (c.args.first ∷ []) (padded c.args.bytes.now c.args.missing) l.marks.items l.at t l.due) (emptied l.groups.items (omega (arith, l.groups.ok, c.in_default.ensures.cases.0))) l.invariant.reading in
    sym (only_table (c.args.first ∷ []) c.args.bytes.now c.args.missing l.marks.items l.at l.due parts c.requires.small l.invariant.inside r t)
