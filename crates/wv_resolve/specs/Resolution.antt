-- Mods that fit together, and those that don't (fabric.mod.json, schema version 1).
use Rattle.std.specs.Prelude.{ℕ, Bool, List, filter, IsPermutation}
use Rattle.std.specs.List.{AllByRecursion}
use Rattle.std.specs.List.Sorted.{IsSortedByKey, IsStableByKey}
use Rattle.std.specs.Cmp.Lexicographic.{slice_cmp}
use Rattle.std.specs.Ordering.{nat_cmp}
use Rattle.wv_base.specs.declared.broken.Broken.{Broken}
use Rattle.wv_mod.specs.declared.mod_info.ModInfo.{ModInfo}
use Rattle.wv_resolve.specs.declared.kind.Kind.{Kind}
use Rattle.wv_resolve.specs.declared.kind.Kind.TheVariants.{Depends, Breaks}
use Rattle.wv_resolve.specs.Presence.{present_ids, AreDistinct}
use Rattle.wv_resolve.specs.Dependency.{Keeps, all_entries}
use Rattle.wv_resolve.specs.Refusal.{IsTwiceBroken, IsEntryBroken}

-- the mod's environment is that of the side
abbrev pub is_loaded : ModInfo → Bool
is_loaded info = info.loaded

-- the path of the mod's description
abbrev pub path_of : ModInfo → List ℕ
path_of info = info.path

-- the mod's own id
abbrev pub id_of : ModInfo → List ℕ
id_of info = info.id

-- the list, ordered by the bytes of a key; what has the same key stays as it stood
pub record IsOrderedBy {A : Type 0} (key : A → List ℕ) (list sorted : List A) : Type 0 where
  pub same : IsPermutation list sorted
  pub ordered : IsSortedByKey key (slice_cmp nat_cmp) sorted
  pub stable : IsStableByKey key (slice_cmp nat_cmp) list sorted

-- the mods that are loaded, by the bytes of their paths
abbrev pub AreLoaded : (mods loaded : List ModInfo) → Type 0
AreLoaded mods loaded = IsOrderedBy path_of (filter is_loaded mods) loaded

-- every entry of one kind is kept
abbrev pub AllKeep : Kind → List (List ℕ × List ℕ) → List ModInfo → Type 0
AllKeep kind builtin loaded = AllByRecursion (λ e. Keeps kind (present_ids builtin loaded) e.1) (all_entries kind loaded)

-- the mods fit: no id is present twice, all of `depends` is met, nothing of `breaks` is
pub record AreFitting (builtin : List (List ℕ × List ℕ)) (loaded : List ModInfo) : Type 0 where
  pub distinct : AreDistinct (present_ids builtin loaded)
  pub depends : AllKeep Depends builtin loaded
  pub breaks : AllKeep Breaks builtin loaded

-- an entry is the first of its kind that fails
abbrev pub IsUnkept : Kind → List (List ℕ × List ℕ) → List ModInfo → Broken → Type 0
IsUnkept kind builtin loaded broken = IsEntryBroken kind (present_ids builtin loaded) (all_entries kind loaded) broken

-- the first rule that the mods break: an id is present twice; else an entry of `depends` isn't met; else
-- an entry of `breaks` is
pub data IsUnfitting (builtin : List (List ℕ × List ℕ)) (loaded : List ModInfo) : Broken → Type 0 where
  twice : (broken : Broken) → IsTwiceBroken (present_ids builtin loaded) broken → IsUnfitting builtin loaded broken
  unmet : (broken : Broken) → AreDistinct (present_ids builtin loaded) → IsUnkept Depends builtin loaded broken → IsUnfitting builtin loaded broken
  met : (broken : Broken) → AreDistinct (present_ids builtin loaded) → AllKeep Depends builtin loaded → IsUnkept Breaks builtin loaded broken → IsUnfitting builtin loaded broken

-- the loaded mods, which fit, by the bytes of their ids
abbrev pub AreResolved : List (List ℕ × List ℕ) → (mods resolved : List ModInfo) → Type 0
AreResolved builtin mods resolved =
    (loaded : List ModInfo) × AreLoaded mods loaded × AreFitting builtin loaded × IsOrderedBy id_of loaded resolved

-- the first rule that the loaded mods break
abbrev pub IsBroken : List (List ℕ × List ℕ) → List ModInfo → Broken → Type 0
IsBroken builtin mods broken = (loaded : List ModInfo) × AreLoaded mods loaded × IsUnfitting builtin loaded broken
