-- The rules up to 40 stage by stage: what each call keeps, and that its refusal comes behind what those before it keep.
use Rattle.std.proofs.Common.{subst}
use Rattle.std.proofs.lemmas.Result.{err_from_is_err_and}
use Rattle.wv_classes.specs.LoadedClass.{AreLoadedClasses}
use Rattle.wv_form.specs.Form.{AreOfForm}
use Rattle.wv_front.specs.Marked.{AreMarked}
use Rattle.wv_weave.specs.FolderMixins.{HasMixins}
use Rattle.wv_weave.specs.FrontRead.{KeepsFront}
use Rattle.wv_weave.specs.Stages.{Form, ListedClasses, Keeps}
use Rattle.wv_weave.proofs.FormedClasses.{are-formed}
use Rattle.wv_weave.proofs.FrontStages.{form-kept, listed-kept, mixins-read, marked-seen, at-form, at-mods, at-configs, at-listed, at-classes, at-marks}
use Rattle.wv_weave.proofs.front.read_front.Goals as goal

pub returns-in_err-check_form-clause-broken : goal.returns-in_err-check_form-clause-broken
returns-in_err-check_form-clause-broken c =
    let p = err_from_is_err_and c.from_residual-in_err-check_form.result c.from_residual-in_err-check_form.ensures.1 in
    rw (p.1, p.2) (at-form c.args.folder.now c.args.side c.in_ok-files.files.items c.as_slice.result.now c.as_slice.ensures.value (c.in_ok-files.ensures {u = tt}) c.in_err-check_form.field-0.0 c.in_err-check_form.ensures.broken)

pub returns-in_err-mods-clause-broken : goal.returns-in_err-mods-clause-broken
returns-in_err-mods-clause-broken c =
    let p = err_from_is_err_and c.from_residual-in_err-mods.result c.from_residual-in_err-mods.ensures.1 in
    let form : Keeps c.args.folder.now c.args.side Form = form-kept c.args.folder.now c.args.side c.in_ok-files.files.items c.as_slice.result.now c.as_slice.ensures.value (c.in_ok-files.ensures {u = tt}) c.in_ok-check_form.ensures.formed in
    rw (p.1, p.2) (at-mods c.args.folder.now c.args.side form c.in_err-mods.field-0.0 c.in_err-mods.ensures.broken)

pub returns-in_err-configs-clause-broken : goal.returns-in_err-configs-clause-broken
returns-in_err-configs-clause-broken c =
    let p = err_from_is_err_and c.from_residual-in_err-configs.result c.from_residual-in_err-configs.ensures.1 in
    let form : Keeps c.args.folder.now c.args.side Form = form-kept c.args.folder.now c.args.side c.in_ok-files.files.items c.as_slice.result.now c.as_slice.ensures.value (c.in_ok-files.ensures {u = tt}) c.in_ok-check_form.ensures.formed in
    rw (p.1, p.2) (at-configs c.args.folder.now c.args.side form c.in_ok-mods.ensures.kept c.in_err-configs.field-0.0 c.in_err-configs.ensures.broken)

pub returns-in_err-check_listed-clause-broken : goal.returns-in_err-check_listed-clause-broken
returns-in_err-check_listed-clause-broken c =
    let p = err_from_is_err_and c.from_residual-in_err-check_listed.result c.from_residual-in_err-check_listed.ensures.1 in
    let form : Keeps c.args.folder.now c.args.side Form = form-kept c.args.folder.now c.args.side c.in_ok-files.files.items c.as_slice.result.now c.as_slice.ensures.value (c.in_ok-files.ensures {u = tt}) c.in_ok-check_form.ensures.formed in
    rw (p.1, p.2)
    (at-listed c.args.folder.now c.args.side form c.in_ok-mods.ensures.kept c.in_ok-configs.ensures.kept c.in_ok-configs.configs c.in_ok-configs.ensures.loaded c.in_ok-files.files.items c.as_slice-3.result.now c.as_slice-3.ensures.value (c.in_ok-files.ensures {u = tt})
    c.in_err-check_listed.field-0.0 c.in_err-check_listed.ensures.missing)

pub returns-in_err-classes-clause-broken : goal.returns-in_err-classes-clause-broken
returns-in_err-classes-clause-broken c =
    let p = err_from_is_err_and c.from_residual-in_err-classes.result c.from_residual-in_err-classes.ensures.1 in
    let form : Keeps c.args.folder.now c.args.side Form = form-kept c.args.folder.now c.args.side c.in_ok-files.files.items c.as_slice.result.now c.as_slice.ensures.value (c.in_ok-files.ensures {u = tt}) c.in_ok-check_form.ensures.formed in
    let listed : Keeps c.args.folder.now c.args.side ListedClasses = listed-kept c.args.folder.now c.args.side c.in_ok-configs.configs c.in_ok-configs.ensures.loaded c.in_ok-files.files.items c.as_slice-3.result.now c.as_slice-3.ensures.value (c.in_ok-files.ensures {u = tt}) c.in_ok-check_listed.ensures.listed in
    rw (p.1, p.2) (at-classes c.args.folder.now c.args.side form c.in_ok-mods.ensures.kept c.in_ok-configs.ensures.kept listed c.in_err-classes.field-0.0 (c.in_err-classes.ensures.broken c.args.folder.now c.args.side (c.in_ok-files.ensures {u = tt})))

pub returns-in_err-check_marked-clause-broken : goal.returns-in_err-check_marked-clause-broken
returns-in_err-check_marked-clause-broken c =
    let p = err_from_is_err_and c.from_residual-in_err-check_marked.result c.from_residual-in_err-check_marked.ensures.1 in
    let form : Keeps c.args.folder.now c.args.side Form = form-kept c.args.folder.now c.args.side c.in_ok-files.files.items c.as_slice.result.now c.as_slice.ensures.value (c.in_ok-files.ensures {u = tt}) c.in_ok-check_form.ensures.formed in
    let listed : Keeps c.args.folder.now c.args.side ListedClasses = listed-kept c.args.folder.now c.args.side c.in_ok-configs.configs c.in_ok-configs.ensures.loaded c.in_ok-files.files.items c.as_slice-3.result.now c.as_slice-3.ensures.value (c.in_ok-files.ensures {u = tt}) c.in_ok-check_listed.ensures.listed in
    let loaded : AreLoadedClasses c.args.folder.now c.args.side c.in_ok-classes.classes.items = c.in_ok-classes.ensures.loaded c.args.folder.now c.args.side (c.in_ok-files.ensures {u = tt}) in
    let has : HasMixins c.args.folder.now c.args.side c.in_ok-configs.configs c.in_ok-classes.classes.items c.in_ok-mixins.mixins.items =
    mixins-read c.args.folder.now c.args.side c.in_ok-configs.configs c.in_ok-configs.ensures.loaded c.in_ok-classes.classes.items c.as_slice-4.result.now c.as_slice-4.ensures.value loaded
    c.in_ok-mixins.mixins.items c.in_ok-mixins.ensures.applied c.in_ok-mixins.ensures.ordered in
    rw (p.1, p.2)
    (at-marks c.args.folder.now c.args.side form c.in_ok-mods.ensures.kept c.in_ok-configs.ensures.kept listed (c.in_ok-classes.classes.items, loaded) c.in_ok-configs.configs
    c.in_ok-classes.classes.items c.as_slice-6.result.now c.in_ok-mixins.mixins.items c.as_slice-5.result.now c.as_slice-6.ensures.value c.as_slice-5.ensures.value has
    c.in_err-check_marked.field-0.0 c.in_err-check_marked.ensures.markless)

pub returns-clause-read : goal.returns-clause-read
returns-clause-read c =
    let loaded : AreLoadedClasses c.args.folder.now c.args.side c.in_ok-classes.classes.items = c.in_ok-classes.ensures.loaded c.args.folder.now c.args.side (c.in_ok-files.ensures {u = tt}) in
    let has : HasMixins c.args.folder.now c.args.side c.in_ok-configs.configs c.in_ok-classes.classes.items c.in_ok-mixins.mixins.items =
    mixins-read c.args.folder.now c.args.side c.in_ok-configs.configs c.in_ok-configs.ensures.loaded c.in_ok-classes.classes.items c.as_slice-4.result.now c.as_slice-4.ensures.value loaded
    c.in_ok-mixins.mixins.items c.in_ok-mixins.ensures.applied c.in_ok-mixins.ensures.ordered in
    let marked : AreMarked c.in_ok-classes.classes.items c.in_ok-mixins.mixins.items =
    marked-seen c.in_ok-classes.classes.items c.as_slice-6.result.now c.in_ok-mixins.mixins.items c.as_slice-5.result.now c.as_slice-6.ensures.value c.as_slice-5.ensures.value
    c.in_ok-check_marked.ensures.marked in
    record { has_mixins = has; marked = marked }

pub returns-clause-formed : goal.returns-clause-formed
returns-clause-formed c =
    are-formed c.args.folder.now c.args.side c.in_ok-files.files.items c.in_ok-classes.classes.items (c.in_ok-files.ensures {u = tt})
    (subst (AreOfForm c.args.folder.now) c.as_slice.ensures.value c.in_ok-check_form.ensures.formed) c.in_ok-classes.ensures.each

pub returns-clause-kept : goal.returns-clause-kept
returns-clause-kept c =
    let form : Keeps c.args.folder.now c.args.side Form = form-kept c.args.folder.now c.args.side c.in_ok-files.files.items c.as_slice.result.now c.as_slice.ensures.value (c.in_ok-files.ensures {u = tt}) c.in_ok-check_form.ensures.formed in
    let listed : Keeps c.args.folder.now c.args.side ListedClasses = listed-kept c.args.folder.now c.args.side c.in_ok-configs.configs c.in_ok-configs.ensures.loaded c.in_ok-files.files.items c.as_slice-3.result.now c.as_slice-3.ensures.value (c.in_ok-files.ensures {u = tt}) c.in_ok-check_listed.ensures.listed in
    let loaded : AreLoadedClasses c.args.folder.now c.args.side c.in_ok-classes.classes.items = c.in_ok-classes.ensures.loaded c.args.folder.now c.args.side (c.in_ok-files.ensures {u = tt}) in
    let has : HasMixins c.args.folder.now c.args.side c.in_ok-configs.configs c.in_ok-classes.classes.items c.in_ok-mixins.mixins.items =
    mixins-read c.args.folder.now c.args.side c.in_ok-configs.configs c.in_ok-configs.ensures.loaded c.in_ok-classes.classes.items c.as_slice-4.result.now c.as_slice-4.ensures.value loaded
    c.in_ok-mixins.mixins.items c.in_ok-mixins.ensures.applied c.in_ok-mixins.ensures.ordered in
    let marked : AreMarked c.in_ok-classes.classes.items c.in_ok-mixins.mixins.items =
    marked-seen c.in_ok-classes.classes.items c.as_slice-6.result.now c.in_ok-mixins.mixins.items c.as_slice-5.result.now c.as_slice-6.ensures.value c.as_slice-5.ensures.value
    c.in_ok-check_marked.ensures.marked in
    let all : KeepsFront c.args.folder.now c.args.side = (
      form,
      (
        c.in_ok-mods.ensures.kept,
        (
          c.in_ok-configs.ensures.kept,
          (
            listed,
            (
              (c.in_ok-classes.classes.items, loaded),
              ((c.in_ok-configs.configs, c.in_ok-classes.classes.items, c.in_ok-mixins.mixins.items, has, marked), tt),
            ),
          ),
        ),
      ),
    ) in
    all
