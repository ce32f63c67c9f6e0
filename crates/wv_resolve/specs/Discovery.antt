-- The mods of a folder: which there are, the first rule that they break, and which of them are loaded (fabric.mod.json,
-- schema version 1; where descriptions lie and what rules are broken is our own).
use Rattle.std.specs.Prelude.{◌≡◌, ℕ, List, [], ◌∷◌, ◌++◌, All, Any, AllPairs, Some, None, codes}
use Rattle.std.specs.List.{AllByRecursion}
use Rattle.wv_base.specs.declared.broken.Broken.{Broken}
use Rattle.wv_base.specs.declared.rule.Rule.{Rule}
use Rattle.wv_base.specs.declared.rule.Rule.TheVariants.{ModMissing, ModBad, IdBad, NestedJars, PredicateBad, DuplicateId, DependsUnmet, BreaksMet}
use Rattle.wv_base.specs.declared.side.Side.{Side}
use Rattle.wv_base.specs.Folder.{File, IsPathBefore, content_of}
use Rattle.wv_mod.specs.FirstBroken.{IsKept, IsFirstOf}
use Rattle.wv_version.specs.Cut.{IsFree}
use Rattle.wv_mod.specs.declared.fault.Flaw.{Flaw}
use Rattle.wv_mod.specs.declared.mod_info.ModInfo.{ModInfo}
use Rattle.wv_mod.specs.Flaw.{IsFlawOf, broken_of}
use Rattle.wv_mod.specs.ModInfo.{IsMod}
use Rattle.wv_resolve.specs.Refusal.{broken_at}
use Rattle.wv_resolve.specs.Resolution.{AreResolved, IsBroken}

-- ---- The descriptions

-- the path lies in the folder of a mod: it is `mods/`, the folder's name without a slash, `/`, and a further part
pub record LiesIn (name path : List ℕ) : Type 0 where
  pub further : List ℕ
  pub whole : path ≡ codes "mods/" ++ name ++ codes "/" ++ further
  pub one_part : IsFree 47 name

-- a mod has a folder of this name: some listed path lies in it
abbrev pub IsModFolder : List File → List ℕ → Type 0
IsModFolder folder name = Any (λ file. LiesIn name file.0) folder

-- where the folder of a mod has its description
abbrev pub description_path : List ℕ → List ℕ
description_path name = codes "mods/" ++ name ++ codes "/fabric.mod.json"

-- a mod of the folder needs a description at this path
abbrev pub NeedsDescription : List File → List ℕ → Type 0
NeedsDescription folder path = (name : List ℕ) × IsModFolder folder name × (path ≡ description_path name)

-- a mod of the folder has this description, a path and its bytes
abbrev pub HasDescription : List File → File → Type 0
HasDescription folder file = NeedsDescription folder file.0 × (content_of file.0 folder ≡ Some file.1)

-- ---- The mods

-- a description of the folder says this of its mod
abbrev pub IsDescribed : List File → Side → ModInfo → Type 0
IsDescribed folder side info =
    (content : List ℕ) × HasDescription folder (info.path, content) × IsMod info.path content side info

-- the mods of the folder, loaded or not, one for each description, by the bytes of their paths
pub record AreMods (folder : List File) (side : Side) (mods : List ModInfo) : Type 0 where
  pub ordered : AllPairs (λ info later. IsPathBefore info.path later.path) mods
  pub each : All (IsDescribed folder side) mods
  pub all : (path : List ℕ) → NeedsDescription folder path → Any (λ info. info.path ≡ path) mods

-- ---- The rules

-- rule 10: a description is missing
abbrev pub missing : List ℕ → Broken
missing path = broken_at ModMissing path (codes "-") (codes "-")

abbrev pub LacksDescription : List File → Broken → Type 0
LacksDescription folder broken =
    (path : List ℕ) × NeedsDescription folder path × (content_of path folder ≡ None) × (broken ≡ missing path)

-- rules 11 to 14: a description, of a loaded mod or not, breaks this rule and none before it
abbrev pub HasFlaw : List File → Rule → Broken → Type 0
HasFlaw folder rule broken =
    (file : File) × HasDescription folder file × (flaw : Flaw) × IsFlawOf file.1 flaw × (broken ≡ broken_of file.0 flaw)
    × (broken.rule ≡ rule)

-- rules 15 to 17: the mods of the folder together break this rule and none before it
abbrev pub BreakTogether : List (List ℕ × List ℕ) → List File → Side → Rule → Broken → Type 0
BreakTogether builtin folder side rule broken =
    (mods : List ModInfo) × AreMods folder side mods × IsBroken builtin mods broken × (broken.rule ≡ rule)

-- the rules on mods, in their order
abbrev pub mod_rules : List Rule
mod_rules = ModMissing ∷ ModBad ∷ IdBad ∷ NestedJars ∷ PredicateBad ∷ DuplicateId ∷ DependsUnmet ∷ BreaksMet ∷ []

-- where the folder breaks a rule
abbrev pub BreaksRule : List (List ℕ × List ℕ) → List File → Side → Rule → Broken → Type 0
BreaksRule builtin folder side ModMissing broken = LacksDescription folder broken
BreaksRule builtin folder side ModBad broken = HasFlaw folder ModBad broken
BreaksRule builtin folder side IdBad broken = HasFlaw folder IdBad broken
BreaksRule builtin folder side NestedJars broken = HasFlaw folder NestedJars broken
BreaksRule builtin folder side PredicateBad broken = HasFlaw folder PredicateBad broken
BreaksRule builtin folder side DuplicateId broken = BreakTogether builtin folder side DuplicateId broken
BreaksRule builtin folder side DependsUnmet broken = BreakTogether builtin folder side DependsUnmet broken
BreaksRule builtin folder side BreaksMet broken = BreakTogether builtin folder side BreaksMet broken
BreaksRule builtin folder side _ broken = ⊥

-- the first of these rules that the folder breaks
abbrev pub IsFirstBroken : List (List ℕ × List ℕ) → List File → Side → Broken → Type 0
IsFirstBroken builtin folder side broken = IsFirstOf (BreaksRule builtin folder side) mod_rules broken

-- the folder breaks none of these rules
abbrev pub AreKept : List (List ℕ × List ℕ) → List File → Side → Type 0
AreKept builtin folder side = AllByRecursion (λ rule. IsKept (BreaksRule builtin folder side rule)) mod_rules

-- ---- The loaded mods

-- the loaded mods of the folder, which fit together, by the bytes of their ids
abbrev pub AreLoadedMods : List (List ℕ × List ℕ) → List File → Side → List ModInfo → Type 0
AreLoadedMods builtin folder side loaded =
    (mods : List ModInfo) × AreMods folder side mods × AreResolved builtin mods loaded
