-- Listed classes are there, or are refused in one way.
use Rattle.std.proofs.Common.{◌≡◌, ℕ, List, codes, ap, sym, ◌∙◌, subst, map, Result, Ok, Err, OnOk, IfErr}
use Rattle.std.proofs.lemmas.List.Sorted.{All-permutation, IsPermutation-sym}
use Rattle.wv_base.specs.declared.broken.Broken.{Broken}
use Rattle.wv_base.specs.declared.rule.Rule.TheVariants.{MixinMissing}
use Rattle.wv_classes.specs.declared.folder_class.FolderClass.{FolderClass}
use Rattle.wv_config.specs.declared.loaded.Configs.{Configs}
use Rattle.wv_config.specs.declared.loaded.LoadedConfig.{LoadedConfig}
use Rattle.wv_resolve.specs.Refusal.{IsFirst, broken_at}
use Rattle.wv_resolve.specs.Resolution.{IsOrderedBy}
use Rattle.wv_resolve.proofs.Orders.{one-order}
use Rattle.wv_front.specs.declared.fault.WeaveFault.{WeaveFault}
use Rattle.wv_front.specs.declared.fault.WeaveFault.TheVariants as faults
use Rattle.wv_front.specs.Places.{folder_name}
use Rattle.wv_front.specs.Listed.{all_configs, path_of, class_names, IsOfFolder, HasListed, LacksListed, AreListed, IsFirstMissing}
use Rattle.wv_front.specs.Opening.{IsBrokenFault}
use Rattle.wv_front.specs.Listing.{HaveListed, AreMissing}
use Rattle.wv_front.proofs.FirstOnes.{one-first, none-first, each-all, all-each}

-- ---- What is found of the configurations in order

pub all-listed : {E : Type 0} (configs : Configs) (classes : List FolderClass) (ordered : List LoadedConfig) (r : Result (Unit {0}) E) → IsOrderedBy path_of (all_configs configs) ordered → OnOk r (HaveListed (map folder_name classes) ordered) → OnOk r (AreListed configs classes)
all-listed configs classes ordered (Err e) by_path h = tt
all-listed configs classes ordered (Ok x) by_path h =
    All-permutation (HasListed classes) ordered (all_configs configs) (IsPermutation-sym (all_configs configs) ordered by_path.same) (each-all (HasListed classes) ordered h)

pub first-missing : (configs : Configs) (classes : List FolderClass) (ordered : List LoadedConfig) (r : Result (Unit {0}) WeaveFault) → IsOrderedBy path_of (all_configs configs) ordered → IfErr r (IsBrokenFault (AreMissing (map folder_name classes) ordered)) → IfErr r (IsBrokenFault (IsFirstMissing configs classes))
first-missing configs classes ordered (Ok x) by_path h = tt
first-missing configs classes ordered (Err faults.Memory) by_path h = tt
first-missing configs classes ordered (Err (faults.Broken broken)) by_path (loaded, name, first, is) =
    record { ordered = ordered; by_path = by_path; loaded = loaded; name = name; first = first; is = is }

-- ---- One answer

-- a configuration that lacks a class hasn't each
lacks-one : (classes : List FolderClass) (name : List ℕ) (loaded : LoadedConfig) → HasListed classes loaded → LacksListed classes name loaded → ⊥
lacks-one classes name loaded has lacks = none-first (IsOfFolder classes) (λ class. IsOfFolder classes class → ⊥) (λ class is no. no is) (class_names loaded.config) name has lacks

pub one-missing : (configs : Configs) (classes : List FolderClass) (broken other : Broken) → IsFirstMissing configs classes broken → IsFirstMissing configs classes other → broken ≡ other
one-missing configs classes broken other h k =
    let orders : h.ordered ≡ k.ordered = one-order path_of (all_configs configs) h.ordered k.ordered h.by_path k.by_path in
    let first : IsFirst (HasListed classes) (LacksListed classes h.name) k.ordered h.loaded = subst (λ (list : List LoadedConfig). IsFirst (HasListed classes) (LacksListed classes h.name) list h.loaded) orders h.first in
    let same : h.loaded ≡ k.loaded = one-first (HasListed classes) (LacksListed classes h.name) (LacksListed classes k.name) (lacks-one classes h.name) (lacks-one classes k.name) k.ordered h.loaded k.loaded first k.first in
    let lacks : LacksListed classes h.name k.loaded = subst (LacksListed classes h.name) same first.here in
    let names : h.name ≡ k.name = one-first (IsOfFolder classes) (λ class. IsOfFolder classes class → ⊥) (λ class. IsOfFolder classes class → ⊥) (λ class is no. no is) (λ class is no. no is) (class_names k.loaded.config) h.name k.name lacks k.first.here in
    h.is ∙ ap (λ (loaded : LoadedConfig). broken_at MixinMissing loaded.path (codes "-") h.name) same ∙ ap (λ name. broken_at MixinMissing k.loaded.path (codes "-") name) names ∙ sym k.is

pub listed-not_missing : (configs : Configs) (classes : List FolderClass) (broken : Broken) → AreListed configs classes → IsFirstMissing configs classes broken → ⊥
listed-not_missing configs classes broken listed h =
    none-first (HasListed classes) (LacksListed classes h.name) (lacks-one classes h.name) h.ordered h.loaded
    (all-each (HasListed classes) h.ordered (All-permutation (HasListed classes) (all_configs configs) h.ordered h.by_path.same listed)) h.first
