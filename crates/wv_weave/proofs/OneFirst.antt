-- Of the rules on a folder one is the first that it breaks, and where it breaks none, none is.
use Rattle.std.proofs.Common.{◌≡◌, ℕ, zero, suc, List, [], ◌∷◌, Contains, inl, inr, refl, ap, ap₂, sym, ◌∙◌, subst, subst₂, arith}
use Rattle.std.specs.List.{AllByRecursion}
use Rattle.std.proofs.lemmas.List.Elements.{All-contains}
use Rattle.wv_base.specs.declared.broken.Broken.{Broken}
use Rattle.wv_base.specs.declared.class_file.ClassFile.{ClassFile}
use Rattle.wv_base.specs.declared.class_file.Member.{Member}
use Rattle.wv_base.specs.declared.side.Side.{Side}
use Rattle.wv_base.specs.Folder.{File}
use Rattle.wv_classes.specs.declared.class_read.ClassRead.TheVariants.{Class}
use Rattle.wv_classes.specs.declared.folder_class.FolderClass.{FolderClass}
use Rattle.wv_classes.specs.declared.loaded_class.LoadedClass.{LoadedClass}
use Rattle.wv_classes.specs.FolderClass.{AreFolderClasses, IsFolderClass}
use Rattle.wv_classes.specs.LoadedClass.{AreLoadedClasses, IsLoadedClass}
use Rattle.wv_classes.specs.Refusal.{IsTextOf}
use Rattle.wv_classes.proofs.Loading.{loaded-unbroken, one-loaded, one-first as one-class_rule}
use Rattle.wv_classes.proofs.OneReading.{one-reading, one-class_at, among}
use Rattle.wv_config.specs.declared.loaded.Configs.{Configs}
use Rattle.wv_config.specs.Loading.{AreConfigs, AreSame}
use Rattle.wv_config.specs.Reading.{AreConfigsKept, IsFirstConfigBroken}
use Rattle.wv_config.proofs.OneLoading.{kept-not_refused, one-first_broken, one-loading}
use Rattle.wv_form.specs.Form.{HasForm, AreOfForm, IsOfForm, IsFirstOutOfForm}
use Rattle.wv_front.specs.declared.order.AppliedMixin.{AppliedMixin}
use Rattle.wv_front.specs.Listed.{AreListed, IsFirstMissing}
use Rattle.wv_front.specs.MixinOrder.{StandsAt, AreApplied}
use Rattle.wv_front.specs.Marked.{AreMarked, IsFirstMarkless}
use Rattle.wv_front.proofs.FirstOnes.{one-first as one-of_list, none-first as none-of_list, each-all}
use Rattle.wv_front.proofs.Grown.{stands-one}
use Rattle.wv_front.proofs.OneMark.{one-markless, marked-not_markless}
use Rattle.wv_merge.specs.Merging.{IsMissing, overwrite_missing}
use Rattle.wv_merge.specs.ThinClass.{IsThinForm, Targets}
use Rattle.wv_mod.specs.declared.game_info.GameInfo.{GameInfo}
use Rattle.wv_mod.specs.declared.mod_info.ModInfo.{ModInfo}
use Rattle.wv_mod.specs.GameInfo.{IsGame}
use Rattle.wv_mod.proofs.Games.{same_game}
use Rattle.wv_model.specs.MemberTable.{HasOneMethod}
use Rattle.wv_model.specs.PlainCode.{Game, Mixin}
use Rattle.wv_resolve.specs.Discovery as mods
use Rattle.wv_resolve.proofs.FirstRule.{kept-not_first}
use Rattle.wv_resolve.proofs.OneLoading.{one-first as one-mod_rule, one-loaded_mods}
use Rattle.wv_weave.specs.FolderMixins.{HasGame, HasMods, HasConfigs, HasMixins, built_in}
use Rattle.wv_weave.specs.Overwrites.{Joins, FindsAll, LacksOne, FindAll, IsFirstLacking}
use Rattle.wv_weave.specs.Stages.{Stage, Form, Mods, ConfigFiles, ListedClasses, ClassFiles, Marks, Overwriting, Keeps, Breaks, IsFirstOf, here, behind, IsFirstBroken, NoneBroken}
use Rattle.wv_weave.proofs.Names.{one-text}
use Rattle.wv_weave.proofs.OneForm.{one-out, none-out}
use Rattle.wv_weave.proofs.OneTarget.{one-target, not-thin_game}
use Rattle.wv_weave.proofs.SameConfigs.{same-missing, same-listed, same-mixins}

-- ---- What a folder is read as is one

pub one-game : (folder : List File) (game other : GameInfo) → HasGame folder game → HasGame folder other → game ≡ other
one-game folder game other (content, there, is) (content', there', is') =
    let same : content ≡ content' = cc in
    same_game content' game other (subst (λ (c : List ℕ). IsGame c game) same is) is'

pub one-mods : (folder : List File) (side : Side) (mods other : List ModInfo) → HasMods folder side mods → HasMods folder side other → mods ≡ other
one-mods folder side mods_are other (game, has, loaded) (game', has', loaded') =
    let same : game ≡ game' = one-game folder game game' has has' in
    one-loaded_mods (built_in game') folder side mods_are other (subst (λ (g : GameInfo). mods.AreLoadedMods (built_in g) folder side mods_are) same loaded) loaded'

pub same-configs : (folder : List File) (side : Side) (configs other : Configs) → HasConfigs folder side configs → HasConfigs folder side other → AreSame configs other
same-configs folder side configs other (infos, has, are) (infos', has', are') =
    let same : infos ≡ infos' = one-mods folder side infos infos' has has' in
    one-loading folder side infos' configs other (subst (λ (m : List ModInfo). AreConfigs folder side m configs) same are) are'

pub one-mixins : (folder : List File) (side : Side) (configs other : Configs) (classes classes' : List LoadedClass) (mixins mixins' : List AppliedMixin) → HasMixins folder side configs classes mixins → HasMixins folder side other classes' mixins' → (classes ≡ classes') × (mixins ≡ mixins')
one-mixins folder side configs other classes classes' mixins mixins' h k =
    let same : classes ≡ classes' = one-loaded folder side classes classes' h.classes_are k.classes_are in
    let configs_same : AreSame configs other = same-configs folder side configs other h.configs_are k.configs_are in (
      same,
      same-mixins classes' side configs.used.items other.used.items mixins mixins' configs_same.used
          (subst (λ (list : List LoadedClass). AreApplied configs.used.items list side mixins) same h.applied) h.ordered k.applied k.ordered,
    )

-- ---- One refusal of the mixin whose target lacks its method

finds-or-lacks : (classes : List LoadedClass) (broken : Broken) (mixin : AppliedMixin) → FindsAll classes mixin → LacksOne classes broken mixin → ⊥
finds-or-lacks classes broken mixin finds (class, target, joins, lacks) = finds class target joins lacks.method lacks.of_mixin lacks.missing

-- a loaded class as a class file
abbrev file_of : LoadedClass → FolderClass
file_of loaded = record { path = loaded.path; name = loaded.name; read = Class loaded.class }

is-file : (folder : List File) (side : Side) (classes : List LoadedClass) (class : LoadedClass) → AreLoadedClasses folder side classes → Contains classes class → IsFolderClass folder side (file_of class)
is-file folder side classes class are found =
    let (content, is_file, spells, own) = All-contains (IsLoadedClass folder side) classes class are.each found in
    (content, is_file, spells)

of-form : (folder : List File) (side : Side) (classes : List LoadedClass) (class : LoadedClass) (files : List FolderClass) → AreLoadedClasses folder side classes → Contains classes class → AreFolderClasses folder side files → AreOfForm folder files → HasForm folder files (file_of class)
of-form folder side classes class files are found files_are form =
    All-contains (IsOfForm folder files) files (file_of class) (each-all (IsOfForm folder files) files form) (among folder side files (file_of class) files_are (is-file folder side classes class are found)) class.class refl

one-class_read : (class other : ClassFile) → Class class ≡ Class other → class ≡ other
one-class_read class other same = cc

-- a thin class that has a target is a mixin, and has one method
thin-mixin : (folder : List File) (files : List FolderClass) (class : LoadedClass) (target : List ℕ) → HasForm folder files (file_of class) → Targets class.class target → HasOneMethod class.class.methods
thin-mixin folder files class target form targets = elim form.thin [
  | inl game ↦
      let same : game.class ≡ class.class = one-class_read game.class class.class (sym game.read) in
      absurd (not-thin_game class.class target (subst (IsThinForm Game) same game.thin.1) targets)
  | inr mixin ↦
      let same : mixin.class ≡ class.class = one-class_read mixin.class class.class (sym mixin.read) in
      (subst (IsThinForm Mixin) same mixin.thin.1).of_role.0
]

one-method : (methods : List Member) (method other : Member) → HasOneMethod methods → Contains methods method → Contains methods other → method ≡ other
one-method methods method other one (zero, inside, at) (zero, inside', at') = stands-one methods 0 0 method other refl (inside, at) (inside', at')
one-method methods method other one (zero, inside, at) (suc k, inside', at') = absurd (omega (arith, one, inside'))
one-method methods method other one (suc k, inside, at) place = absurd (omega (arith, one, inside))

-- classes of one name are one
one-named : (folder : List File) (side : Side) (classes : List LoadedClass) (files : List FolderClass) (target other : LoadedClass) → AreLoadedClasses folder side classes → AreFolderClasses folder side files → AreOfForm folder files → Contains classes target → Contains classes other → target.name ≡ other.name → target.class ≡ other.class
one-named folder side classes files target other are files_are form found found' names =
    let there : Contains files (file_of target) = among folder side files (file_of target) files_are (is-file folder side classes target are found) in
    let paths : target.path ≡ other.path = (of-form folder side classes other files are found' files_are form).once (file_of target) there names in
    let same : file_of target ≡ file_of other = one-class_at folder side (file_of target) (file_of other) (is-file folder side classes target are found) (is-file folder side classes other are found') paths in
    one-class_read target.class other.class (ap (λ (file : FolderClass). file.read) same)

stands-in : {A : Type 0} (list : List A) (k : ℕ) (x : A) → StandsAt list k x → Contains list x
stands-in list k x (inside, at) = (k, inside, at)

one-lack : (folder : List File) (side : Side) (classes : List LoadedClass) (files : List FolderClass) (mixin : AppliedMixin) (broken other : Broken) → AreLoadedClasses folder side classes → AreFolderClasses folder side files → AreOfForm folder files → LacksOne classes broken mixin → LacksOne classes other mixin → broken ≡ other
one-lack folder side classes files mixin broken other are files_are form (class, target, joins, lacks) (class', target', joins', lacks') =
    let same : class ≡ class' = stands-one classes mixin.class_place mixin.class_place class class' refl joins.class_is joins'.class_is in
    let joined : Joins classes mixin class' target = subst (λ (c : LoadedClass). Joins classes mixin c target) same joins in
    let lacking : IsMissing class'.path target.class class'.class broken = subst (λ (c : LoadedClass). IsMissing c.path target.class c.class broken) same lacks in
    let texts : joined.names.0 ≡ joins'.names.0 = one-target class'.class joined.names.0 joins'.names.0 joined.names.1 joins'.names.1 in
    let names : target.name ≡ target'.name = one-text joins'.names.0 target.name target'.name (subst (λ (units : List ℕ). IsTextOf units target.name) texts joined.names.2) joins'.names.2 in
    let targets : target.class ≡ target'.class = one-named folder side classes files target target' are files_are form joined.among joins'.among names in
    let one : HasOneMethod class'.class.methods = thin-mixin folder files class' joins'.names.0 (of-form folder side classes class' files are (stands-in classes mixin.class_place class' joins'.class_is) files_are form) joins'.names.1 in
    let methods : lacking.method ≡ lacks'.method = one-method class'.class.methods lacking.method lacks'.method one lacking.of_mixin lacks'.of_mixin in
    lacking.refusal ∙ ap₂ (λ (c : ClassFile) (m : Member). overwrite_missing class'.path c.name m) targets methods ∙ sym lacks'.refusal

one-lacking : (folder : List File) (side : Side) (classes : List LoadedClass) (mixins : List AppliedMixin) (broken other : Broken) → Keeps folder side Form → AreLoadedClasses folder side classes → IsFirstLacking classes mixins broken → IsFirstLacking classes mixins other → broken ≡ other
one-lacking folder side classes mixins broken other (files, files_are, form) are (mixin, first) (mixin', first') =
    let same : mixin ≡ mixin' = one-of_list (FindsAll classes) (LacksOne classes broken) (LacksOne classes other) (finds-or-lacks classes broken) (finds-or-lacks classes other) mixins mixin mixin' first first' in
    one-lack folder side classes files mixin' broken other are files_are form (subst (LacksOne classes broken) same first.here) first'.here

-- ---- One break of a stage

module _ (folder : List File) (side : Side) where
  one-form : (broken other : Broken) → Breaks folder side broken Form → Breaks folder side other Form → broken ≡ other
  one-form broken other (files, are, first) (files', are', first') =
      let same : files ≡ files' = one-reading folder side files files' are are' in
      one-out folder files' broken other (subst (λ (list : List FolderClass). IsFirstOutOfForm folder list broken) same first) first'

  one-break : (broken other : Broken) (stage : Stage) → Keeps folder side Form → Breaks folder side broken stage → Breaks folder side other stage → broken ≡ other
  one-break broken other Form kept b c = one-form broken other b c
  one-break broken other Mods kept (game, has, first) (game', has', first') =
      let same : game ≡ game' = one-game folder game game' has has' in
      one-mod_rule (built_in game') folder side broken other (subst (λ (g : GameInfo). mods.IsFirstBroken (built_in g) folder side broken) same first) first'
  one-break broken other ConfigFiles kept (infos, has, first) (infos', has', first') =
      let same : infos ≡ infos' = one-mods folder side infos infos' has has' in
      one-first_broken folder side infos' broken other (subst (λ (m : List ModInfo). IsFirstConfigBroken folder side m broken) same first) first'
  one-break broken other ListedClasses kept (configs, has, (files, are, first)) (configs', has', (files', are', first')) =
      let same : files ≡ files' = one-reading folder side files files' are are' in
      same-missing configs configs' files' broken other (same-configs folder side configs configs' has has') (subst (λ (list : List FolderClass). IsFirstMissing configs list broken) same first) first'
  one-break broken other ClassFiles kept b c = one-class_rule folder side broken other b c
  one-break broken other Marks kept (configs, classes, mixins, has, first) (configs', classes', mixins', has', first') =
      let same = one-mixins folder side configs configs' classes classes' mixins mixins' has has' in
      one-markless classes' mixins' broken other (subst₂ (λ (list : List LoadedClass) (m : List AppliedMixin). IsFirstMarkless list m broken) same.0 same.1 first) first'
  one-break broken other Overwriting kept (configs, classes, mixins, has, first) (configs', classes', mixins', has', first') =
      let same = one-mixins folder side configs configs' classes classes' mixins mixins' has has' in
      one-lacking folder side classes' mixins' broken other kept has'.classes_are (subst₂ (λ (list : List LoadedClass) (m : List AppliedMixin). IsFirstLacking list m broken) same.0 same.1 first) first'

  none-break : (broken : Broken) (stage : Stage) → Keeps folder side stage → Breaks folder side broken stage → ⊥
  none-break broken Form (files, are, form) (files', are', first) =
      let same : files ≡ files' = one-reading folder side files files' are are' in
      none-out folder files' broken (subst (AreOfForm folder) same form) first
  none-break broken Mods (game, has, kept) (game', has', first) =
      let same : game ≡ game' = one-game folder game game' has has' in
      kept-not_first (mods.BreaksRule (built_in game') folder side) mods.mod_rules broken (subst (λ (g : GameInfo). mods.AreKept (built_in g) folder side) same kept) first
  none-break broken ConfigFiles (infos, has, kept) (infos', has', first) =
      let same : infos ≡ infos' = one-mods folder side infos infos' has has' in
      kept-not_refused folder side infos' broken (subst (λ (m : List ModInfo). AreConfigsKept folder side m) same kept) first
  none-break broken ListedClasses (configs, has, (files, are, listed)) (configs', has', (files', are', first)) =
      let same : files ≡ files' = one-reading folder side files files' are are' in
      same-listed configs configs' files' broken (same-configs folder side configs configs' has has') (subst (λ (list : List FolderClass). AreListed configs list) same listed) first
  none-break broken ClassFiles (loaded, are) first = loaded-unbroken folder side loaded broken are first.here
  none-break broken Marks (configs, classes, mixins, has, marked) (configs', classes', mixins', has', first) =
      let same = one-mixins folder side configs configs' classes classes' mixins mixins' has has' in
      marked-not_markless classes' mixins' broken (subst₂ (λ (list : List LoadedClass) (m : List AppliedMixin). AreMarked list m) same.0 same.1 marked) first
  none-break broken Overwriting (configs, classes, mixins, has, finds) (configs', classes', mixins', has', (mixin, first)) =
      let same = one-mixins folder side configs configs' classes classes' mixins mixins' has has' in
      none-of_list (FindsAll classes') (LacksOne classes' broken) (finds-or-lacks classes' broken) mixins' mixin (subst₂ (λ (list : List LoadedClass) (m : List AppliedMixin). FindAll list m) same.0 same.1 finds) first

  -- ---- One first of the stages

  one-later : (broken other : Broken) (list : List Stage) → Keeps folder side Form → IsFirstOf folder side broken list → IsFirstOf folder side other list → broken ≡ other
  one-later broken other [] kept first other_first = elim first [ ]
  one-later broken other (stage ∷ later) kept (here b) (here c) = one-break broken other stage kept b c
  one-later broken other (stage ∷ later) kept (here b) (behind k first) = absurd (none-break broken stage k b)
  one-later broken other (stage ∷ later) kept (behind k first) (here c) = absurd (none-break other stage k c)
  one-later broken other (stage ∷ later) kept (behind k first) (behind k' first') = one-later broken other later kept first first'

  one-from_form : (broken other : Broken) (later : List Stage) → IsFirstOf folder side broken (Form ∷ later) → IsFirstOf folder side other (Form ∷ later) → broken ≡ other
  one-from_form broken other later (here b) (here c) = one-form broken other b c
  one-from_form broken other later (here b) (behind k first) = absurd (none-break broken Form k b)
  one-from_form broken other later (behind k first) (here c) = absurd (none-break other Form k c)
  one-from_form broken other later (behind k first) (behind k' first') = one-later broken other later k first first'

  none-of_stages : (broken : Broken) (list : List Stage) → AllByRecursion (Keeps folder side) list → IsFirstOf folder side broken list → ⊥
  none-of_stages broken [] keeps first = elim first [ ]
  none-of_stages broken (stage ∷ later) keeps (here b) = none-break broken stage keeps.0 b
  none-of_stages broken (stage ∷ later) keeps (behind k first) = none-of_stages broken later keeps.1 first

pub one-first : (folder : List File) (side : Side) (broken other : Broken) → IsFirstBroken folder side broken → IsFirstBroken folder side other → broken ≡ other
one-first folder side broken other first first' = one-from_form folder side broken other _ first first'

pub none-first : (folder : List File) (side : Side) (broken : Broken) → NoneBroken folder side → IsFirstBroken folder side broken → ⊥
none-first folder side broken none first = none-of_stages folder side broken _ none first
