-- The stages of the rules up to the merging of mixins: what each keeps, and the first that is broken.
use Rattle.std.proofs.Common.{◌≡◌, List, subst}
use Rattle.wv_base.specs.declared.side.Side.{Side}
use Rattle.wv_base.specs.Folder.{File}
use Rattle.wv_classes.specs.declared.folder_class.FolderClass.{FolderClass}
use Rattle.wv_classes.specs.declared.loaded_class.LoadedClass.{LoadedClass}
use Rattle.wv_classes.specs.FolderClass.{AreFolderClasses}
use Rattle.wv_classes.specs.LoadedClass.{AreLoadedClasses}
use Rattle.wv_classes.specs.Rules as classes
use Rattle.wv_config.specs.declared.loaded.Configs.{Configs}
use Rattle.wv_form.specs.Form.{AreOfForm, IsFirstOutOfForm}
use Rattle.wv_front.specs.declared.fault.WeaveFault.{WeaveFault}
use Rattle.wv_front.specs.declared.order.AppliedMixin.{AppliedMixin}
use Rattle.wv_front.specs.Listed.{AreListed, IsFirstMissing}
use Rattle.wv_front.specs.Marked.{AreMarked, IsFirstMarkless}
use Rattle.wv_front.specs.MixinOrder.{AreApplied, AreOrdered}
use Rattle.wv_front.specs.Opening.{IsBrokenFault}
use Rattle.wv_weave.specs.FolderMixins.{HasConfigs, HasMixins}
use Rattle.wv_weave.specs.Stages.{Form, Mods, ConfigFiles, ListedClasses, ClassFiles, Marks, Keeps, Breaks, here, behind, IsFirstBroken}
use Rattle.wv_weave.proofs.FrontFaults.{fault-weaker}

module _ (folder : List File) (side : Side) where
  -- ---- What is kept

  pub form-kept : (files seen : List FolderClass) → seen ≡ files → AreFolderClasses folder side files → AreOfForm folder seen → Keeps folder side Form
  form-kept files seen same are formed = (files, are, subst (AreOfForm folder) same formed)

  pub listed-kept : (configs : Configs) → HasConfigs folder side configs → (files seen : List FolderClass) → seen ≡ files → AreFolderClasses folder side files
      → AreListed configs seen → Keeps folder side ListedClasses
  listed-kept configs has files seen same are listed = (configs, has, (files, are, subst (AreListed configs) same listed))

  -- the mixins that are applied, in their order
  pub mixins-read : (configs : Configs) → HasConfigs folder side configs → (loaded seen : List LoadedClass) → seen ≡ loaded → AreLoadedClasses folder side loaded
      → (mixins : List AppliedMixin) → AreApplied configs.used.items seen side mixins → AreOrdered mixins → HasMixins folder side configs loaded mixins
  mixins-read configs has loaded seen same are mixins applied ordered = record {
    configs_are = has;
    classes_are = are;
    applied = subst (λ (list : List LoadedClass). AreApplied configs.used.items list side mixins) same applied;
    ordered = ordered;
  }

  -- ---- What is broken

  pub at-form : (files seen : List FolderClass) → seen ≡ files → AreFolderClasses folder side files
      → (fault : WeaveFault) → IsBrokenFault (IsFirstOutOfForm folder seen) fault → IsBrokenFault (IsFirstBroken folder side) fault
  at-form files seen same are = fault-weaker (IsFirstOutOfForm folder seen) (IsFirstBroken folder side)
      (λ broken h. here (files, are, subst (λ (list : List FolderClass). IsFirstOutOfForm folder list broken) same h))

  pub at-mods : Keeps folder side Form
      → (fault : WeaveFault) → IsBrokenFault (λ broken. Breaks folder side broken Mods) fault → IsBrokenFault (IsFirstBroken folder side) fault
  at-mods form = fault-weaker (λ broken. Breaks folder side broken Mods) (IsFirstBroken folder side) (λ broken h. behind form (here h))

  pub at-configs : Keeps folder side Form → Keeps folder side Mods
      → (fault : WeaveFault) → IsBrokenFault (λ broken. Breaks folder side broken ConfigFiles) fault → IsBrokenFault (IsFirstBroken folder side) fault
  at-configs form mods = fault-weaker (λ broken. Breaks folder side broken ConfigFiles) (IsFirstBroken folder side) (λ broken h. behind form (behind mods (here h)))

  pub at-listed : Keeps folder side Form → Keeps folder side Mods → Keeps folder side ConfigFiles
      → (configs : Configs) → HasConfigs folder side configs → (files seen : List FolderClass) → seen ≡ files → AreFolderClasses folder side files
      → (fault : WeaveFault) → IsBrokenFault (IsFirstMissing configs seen) fault → IsBrokenFault (IsFirstBroken folder side) fault
  at-listed form mods read configs has files seen same are = fault-weaker (IsFirstMissing configs seen) (IsFirstBroken folder side)
      (λ broken h. behind form (behind mods (behind read (here
      (configs, has, (files, are, subst (λ (list : List FolderClass). IsFirstMissing configs list broken) same h))))))

  pub at-classes : Keeps folder side Form → Keeps folder side Mods → Keeps folder side ConfigFiles → Keeps folder side ListedClasses
      → (fault : WeaveFault) → IsBrokenFault (classes.IsFirstBroken folder side) fault → IsBrokenFault (IsFirstBroken folder side) fault
  at-classes form mods read listed = fault-weaker (classes.IsFirstBroken folder side) (IsFirstBroken folder side)
      (λ broken h. behind form (behind mods (behind read (behind listed (here h)))))

  pub at-marks : Keeps folder side Form → Keeps folder side Mods → Keeps folder side ConfigFiles → Keeps folder side ListedClasses → Keeps folder side ClassFiles
      → (configs : Configs) (loaded seen : List LoadedClass) (mixins listed : List AppliedMixin) → seen ≡ loaded → listed ≡ mixins → HasMixins folder side configs loaded mixins
      → (fault : WeaveFault) → IsBrokenFault (IsFirstMarkless seen listed) fault → IsBrokenFault (IsFirstBroken folder side) fault
  at-marks form mods read found are configs loaded seen mixins listed same equal has = fault-weaker (IsFirstMarkless seen listed) (IsFirstBroken folder side)
      (λ broken h. behind form (behind mods (behind read (behind found (behind are (here (
        configs,
        loaded,
        mixins,
        has,
        subst (λ (list : List LoadedClass). IsFirstMarkless list mixins broken) same (subst (λ (list : List AppliedMixin). IsFirstMarkless seen list broken) equal h),
      )))))))

-- the marks, of lists that are seen
pub marked-seen : (loaded seen : List LoadedClass) (mixins listed : List AppliedMixin) → seen ≡ loaded → listed ≡ mixins → AreMarked seen listed → AreMarked loaded mixins
marked-seen loaded seen mixins listed same equal h =
    subst (λ (list : List LoadedClass). AreMarked list mixins) same (subst (AreMarked seen) equal h)
