use Rattle.std.proofs.Common.{subst, sym, map, rules}
use Rattle.wv_classes.specs.declared.loaded_class.LoadedClass.{LoadedClass}
use Rattle.wv_front.specs.Places.{loaded_name}
use Rattle.wv_merge.specs.Merging.{IsMissing, NoneMissing}
use Rattle.wv_merge.specs.Overwriting.{IsOverwriting}
use Rattle.wv_merge.specs.ThinClass.{IsReadThin}
use Rattle.wv_model.specs.PlainCode.{Game}
use Rattle.wv_weave.proofs.Targets.{class-stands, finds-all, found-target, marked-thin, target-found, target-inside}
use Rattle.wv_weave.proofs.merging.overwriting.Goals as goal

pub bounds-classes-place : goal.bounds-classes-place
bounds-classes-place c =
    let classes = c.args.classes.now in
    let class = c.index-classes-mixin.result in
    let stands = class-stands classes c.requires.formed c.args.mixin.now class c.requires.placed c.index-classes-mixin.is in
    target-inside classes c.requires.formed c.args.mixin.now class c.in-Some.place c.requires.marked stands
    (λ name names. (rw c.in-Some.is at c.in_ok-place.ensures) (map loaded_name classes) name c.requires.places names)

pub offset_bounds-classes-place : goal.offset_bounds-classes-place
offset_bounds-classes-place c = search (rules, bounds-classes-place c)

pub find-requires-clause-target : goal.find-requires-clause-target
find-requires-clause-target c =
    let classes = c.args.classes.now in
    let class = c.index-classes-mixin.result in
    let stands = class-stands classes c.requires.formed c.args.mixin.now class c.requires.placed c.index-classes-mixin.is in
    let found = found-target classes c.requires.formed c.args.mixin.now class c.index-classes-place.result c.in-Some.place c.requires.marked stands
    (λ name names. (rw c.in-Some.is at c.in_ok-place.ensures) (map loaded_name classes) name c.requires.places names) c.index-classes-place.is in
    subst (λ (t : LoadedClass). IsReadThin Game t.class) c.index-classes-place.is found.game

pub find-requires-clause-mixin : goal.find-requires-clause-mixin
find-requires-clause-mixin c =
    let classes = c.args.classes.now in
    marked-thin classes c.requires.formed c.args.mixin.now c.index-classes-mixin.result c.requires.marked (class-stands classes c.requires.formed c.args.mixin.now c.index-classes-mixin.result c.requires.placed c.index-classes-mixin.is)

pub unreachable-requires : goal.unreachable-requires
unreachable-requires c =
    let classes = c.args.classes.now in
    let class = c.index-classes-mixin.result in
    let stands = class-stands classes c.requires.formed c.args.mixin.now class c.requires.placed c.index-classes-mixin.is in
    target-found classes c.requires.formed c.args.mixin.now class c.requires.marked stands
    (λ name names. (rw c.in_default.is at c.in_ok-place.ensures) (map loaded_name classes) name c.requires.places names)

pub returns-in-Ok-clause-edit : goal.returns-in-Ok-clause-edit
returns-in-Ok-clause-edit c =
    let classes = c.args.classes.now in
    let class = c.index-classes-mixin.result in
    let read = c.index-classes-place.result in
    let stands = class-stands classes c.requires.formed c.args.mixin.now class c.requires.placed c.index-classes-mixin.is in
    let found = found-target classes c.requires.formed c.args.mixin.now class read c.in-Some.place c.requires.marked stands
    (λ name names. (rw c.in-Some.is at c.in_ok-place.ensures) (map loaded_name classes) name c.requires.places names) c.index-classes-place.is in
    (class, read, found.joins, found.stands, subst (λ (t : LoadedClass). IsOverwriting t.class class.class c.in-Ok.overwriting) (sym c.index-classes-place.is) c.in-Ok.ensures.found)

pub returns-in-Ok-clause-found : goal.returns-in-Ok-clause-found
returns-in-Ok-clause-found c =
    let classes = c.args.classes.now in
    let class = c.index-classes-mixin.result in
    let read = c.index-classes-place.result in
    let stands = class-stands classes c.requires.formed c.args.mixin.now class c.requires.placed c.index-classes-mixin.is in
    let found = found-target classes c.requires.formed c.args.mixin.now class read c.in-Some.place c.requires.marked stands
    (λ name names. (rw c.in-Some.is at c.in_ok-place.ensures) (map loaded_name classes) name c.requires.places names) c.index-classes-place.is in
    finds-all classes c.requires.formed c.args.mixin.now class read found.joins (subst (λ (t : LoadedClass). NoneMissing t.class class.class) (sym c.index-classes-place.is) c.in-Ok.ensures.none_missing)

pub returns-in-Err-Broken-clause-lacking : goal.returns-in-Err-Broken-clause-lacking
returns-in-Err-Broken-clause-lacking c =
    let classes = c.args.classes.now in
    let class = c.index-classes-mixin.result in
    let read = c.index-classes-place.result in
    let stands = class-stands classes c.requires.formed c.args.mixin.now class c.requires.placed c.index-classes-mixin.is in
    let found = found-target classes c.requires.formed c.args.mixin.now class read c.in-Some.place c.requires.marked stands
    (λ name names. (rw c.in-Some.is at c.in_ok-place.ensures) (map loaded_name classes) name c.requires.places names) c.index-classes-place.is in
    (class, read, found.joins, subst (λ (t : LoadedClass). IsMissing class.path t.class class.class c.in-Err-Broken.broken) (sym c.index-classes-place.is) (rw c.in-Err-Broken.field-0-is at c.in-Err-Broken.ensures.missing))
