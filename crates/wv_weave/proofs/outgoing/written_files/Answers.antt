use Rattle.std.proofs.Common.{List, [], sym, refl, subst, ◌∙◌}
use Rattle.std.specs.List.{AllZip}
use Rattle.std.proofs.lemmas.Iterator.Adapters.{YieldsList-from_vec}
use Rattle.std.proofs.lemmas.Iterator.Consumers.{YieldsList-end, YieldsList-turn}
use Rattle.std.proofs.lemmas.List.{map-id}
use Rattle.wv_weave.specs.declared.outgoing.Outgoing.{Outgoing}
use Rattle.wv_weave.specs.Outgoing.{IsFileFrom}
use Rattle.wv_weave.proofs.WrittenFiles.{files-more, next-after, next-writable, so-far-more}
use Rattle.wv_weave.proofs.outgoing.written_files.Goals as goal

pub file-requires : goal.file-requires
file-requires c =
    let b = c.into_iter-one-iterator.ensures.into_iter_gives in
    let t = YieldsList-turn (YieldsList-from_vec {s = c.into_iter-one-iterator.result} c.args.outgoing.items b.0 (b.1 ∙ c.args.outgoing.ok.0)) c.loop-one.yielded c.loop-one.one-iterator c.loop-one.yielded_by c.next.result c.next.new.self c.in-Some.one c.in-Some.is c.next.ensures.steps in
    next-writable c.args.folder.now c.args.outgoing.items c.loop-one.yielded c.in-Some.one c.loop-one.invariant.so_far t.0 t.1 c.requires.writable

pub loop-one-init : goal.loop-one-init
loop-one-init c = record { so_far = refl; files = subst (AllZip (IsFileFrom c.args.folder.now) []) (sym c.new-files.ensures) tt }

pub push-requires : goal.push-requires
push-requires c =
    let b = c.into_iter-one-iterator.ensures.into_iter_gives in
    let t = YieldsList-turn (YieldsList-from_vec {s = c.into_iter-one-iterator.result} c.args.outgoing.items b.0 (b.1 ∙ c.args.outgoing.ok.0)) c.loop-one.yielded c.loop-one.one-iterator c.loop-one.yielded_by c.next.result c.next.new.self c.in-Some.one c.in-Some.is c.next.ensures.steps in
    next-after c.args.folder.now c.args.outgoing.items c.loop-one.yielded c.in-Some.one c.loop-one.invariant.so_far t.0 t.1 c.requires.ordered c.loop-one.files c.loop-one.invariant.files c.in_ok-path.path c.in_ok-path.ensures.0

pub loop-one-preserved : goal.loop-one-preserved
loop-one-preserved c =
    let b = c.into_iter-one-iterator.ensures.into_iter_gives in
    let t = YieldsList-turn (YieldsList-from_vec {s = c.into_iter-one-iterator.result} c.args.outgoing.items b.0 (b.1 ∙ c.args.outgoing.ok.0)) c.loop-one.yielded c.loop-one.one-iterator c.loop-one.yielded_by c.next.result c.next.new.self c.in-Some.one c.in-Some.is c.next.ensures.steps in
    record {
      so_far = so-far-more c.args.folder.now c.args.outgoing.items c.loop-one.yielded c.in-Some.one c.loop-one.invariant.so_far t.0 t.1;
      files = rw c.in_ok-push.ensures.ok (files-more c.args.folder.now c.loop-one.yielded c.loop-one.files c.in-Some.one (c.in_ok-path.path, c.in_ok-path.bytes) c.loop-one.invariant.files c.in_ok-path.ensures);
    }

pub returns : goal.returns
returns c =
    let b = c.into_iter-one-iterator.ensures.into_iter_gives in
    let ended = YieldsList-end (YieldsList-from_vec {s = c.into_iter-one-iterator.result} c.args.outgoing.items b.0 (b.1 ∙ c.args.outgoing.ok.0)) c.loop-one.yielded c.loop-one.one-iterator c.loop-one.yielded_by c.next.result c.next.new.self c.in-None.is c.next.ensures.steps in
    subst (λ (os : List Outgoing). AllZip (IsFileFrom c.args.folder.now) os c.loop-one.files) (sym (map-id c.loop-one.yielded) ∙ ended.0) c.loop-one.invariant.files
