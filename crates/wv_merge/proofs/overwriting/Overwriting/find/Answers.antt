use Rattle.std.proofs.Common.{ap, ◌∙◌}
use Rattle.wv_base.specs.declared.class_file.Member.{Member}
use Rattle.wv_model.specs.MemberTable.{overwritten}
use Rattle.wv_merge.proofs.MergedClasses.{first_there, none_missing, old_at}
use Rattle.wv_merge.proofs.overwriting.Overwriting.find.Goals as goal

pub returns-clause-found : goal.returns-clause-found
returns-clause-found c =
    let mixin = c.args.mixin.now in
    let target = c.args.target.now in
    let method = c.method-item.result in
    let place = c.in-Some.ensures.found in
    let old = old_at target.methods c.as_slice-2.result.now c.in-Some.place place.old c.index-as_slice-place.result c.as_slice-2.ensures place.at c.index-as_slice-place.is in
    record {
      origin = method;
      of_mixin = first_there mixin.methods c.as_slice.result.now method c.as_slice.ensures c.in-len1.len_at_least c.method-item.is;
      replaced = place;
      method = c.in_ok-merged.ensures ∙ ap (λ (m : Member). overwritten mixin.name target.name m method) old;
      version = c.written_version.ensures;
    }

pub returns-clause-none_missing : goal.returns-clause-none_missing
returns-clause-none_missing c =
    let there = first_there c.args.mixin.now.methods c.as_slice.result.now c.method-item.result c.as_slice.ensures c.in-len1.len_at_least c.method-item.is in
    none_missing c.args.target.now c.args.mixin.now c.method-item.result c.in-Some.place c.requires.mixin there c.in-Some.ensures.found
