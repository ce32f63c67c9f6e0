-- The first rules on a folder: what is listed, the game, and how much there is (our own).
use Rattle.std.specs.Prelude.{◌≡◌, ◌⊎◌, ℕ, ◌<◌, ◌≤◌, IsTrue, ⊤, List, [], ◌∷◌, ◌++◌, length, Any, Some, None, codes}
use Rattle.std.specs.List.{AllByRecursion}
use Rattle.wv_base.specs.declared.broken.Broken.{Broken}
use Rattle.wv_base.specs.declared.rule.Rule.{Rule}
use Rattle.wv_base.specs.declared.rule.Rule.TheVariants.{JarFile, GameMissing, GameBad, TooMuch}
use Rattle.wv_base.specs.Folder.{File, IsPathBefore, content_of}
use Rattle.wv_model.specs.FolderRead.{has_ending, read_size, most_read}
use Rattle.wv_mod.specs.FirstBroken.{IsKept, IsFirstBreak, IsFirstOf}
use Rattle.wv_mod.specs.GameFlaw.{IsGameBroken}
use Rattle.wv_resolve.specs.Presence.{game_path}
use Rattle.wv_resolve.specs.Refusal.{broken_at}
use Rattle.wv_front.specs.declared.fault.WeaveFault.{WeaveFault}
use Rattle.wv_front.specs.declared.fault.WeaveFault.TheVariants as fault
use Rattle.wv_front.specs.declared.limit.Limit.{Limit}
use Rattle.wv_front.specs.declared.limit.Limit.TheVariants.{Files, Bytes}
use Rattle.wv_front.specs.declared.limit.Cut.{Cut}

-- ---- The limits

-- how many files are listed at most
unfoldable pub most_files : ℕ
most_files = 20000

-- the files are within both limits: on how many are listed, and on how many bytes they have that are read
pub record AreWithin (files : List File) : Type 0 where
  pub listed : length files ≤ most_files
  pub read : read_size files ≤ most_read

-- the limit that the files pass, that of files first
abbrev pub Exceeds : List File → Limit → Type 0
Exceeds files Files = most_files < length files
Exceeds files Bytes = (length files ≤ most_files) × (most_read < read_size files)

-- at this path the files pass a limit: those before it are within both, and with it they pass this one
pub record PassesAt (files : List File) (path : List ℕ) (limit : Limit) : Type 0 where
  pub before : List File
  pub content : List ℕ
  pub after : List File
  pub parted : files ≡ before ++ ((path, content) ∷ after)
  pub fits : AreWithin before
  pub passes : Exceeds (before ++ (path, content) ∷ []) limit

-- ---- The rules

-- rule 1: a listed path ends in `.jar`
abbrev pub jar_file : List ℕ → Broken
jar_file path = broken_at JarFile path (codes "-") (codes "-")

abbrev pub HasJar : List File → Broken → Type 0
HasJar folder broken = Any (λ file. IsTrue (has_ending file.0 (codes ".jar")) × (broken ≡ jar_file file.0)) folder

-- rule 2: the description of the game isn't listed
abbrev pub game_missing : Broken
game_missing = broken_at GameMissing game_path (codes "-") (codes "-")

abbrev pub LacksGame : List File → Broken → Type 0
LacksGame folder broken = (content_of game_path folder ≡ None) × (broken ≡ game_missing)

-- the first of both that the folder breaks
abbrev pub IsFirstUnlisted : List File → Broken → Type 0
IsFirstUnlisted folder broken =
    IsFirstBreak (HasJar folder) broken ⊎ (IsKept (HasJar folder) × IsFirstBreak (LacksGame folder) broken)

-- rule 3: the description of the game counts as read, and isn't as it has to be
abbrev pub HasBadGame : (Counts : List ℕ → Type 0) → List File → Broken → Type 0
HasBadGame Counts folder broken =
    (content : List ℕ) × (content_of game_path folder ≡ Some content) × Counts game_path × IsGameBroken content broken

-- rule 5: a limit is passed at a path
abbrev pub limit_text : Limit → List ℕ
limit_text Files = codes "20000 files"
limit_text Bytes = codes "67108864 bytes"

abbrev pub too_much : List ℕ → Limit → Broken
too_much path limit = broken_at TooMuch path (limit_text limit) (codes "-")

abbrev pub HasTooMuch : (Passes : List ℕ → Limit → Type 0) → Broken → Type 0
HasTooMuch Passes broken = (path : List ℕ) × (limit : Limit) × Passes path limit × (broken ≡ too_much path limit)

-- where a folder breaks a rule, of which some paths count as read, and which passes a limit at some path
abbrev pub BreaksOpening : (Counts : List ℕ → Type 0) → (Passes : List ℕ → Limit → Type 0) → List File → Rule → Broken → Type 0
BreaksOpening Counts Passes folder JarFile broken = HasJar folder broken
BreaksOpening Counts Passes folder GameMissing broken = LacksGame folder broken
BreaksOpening Counts Passes folder GameBad broken = HasBadGame Counts folder broken
BreaksOpening Counts Passes folder TooMuch broken = HasTooMuch Passes broken
BreaksOpening Counts Passes folder _ broken = ⊥

-- these rules, in their order
abbrev pub opening_rules : List Rule
opening_rules = JarFile ∷ GameMissing ∷ GameBad ∷ TooMuch ∷ []

-- ---- A folder of which each file counts as read

-- each path counts as read
abbrev pub Everywhere : List ℕ → Type 0
Everywhere path = ⊤

-- the folder breaks none of these rules
abbrev pub IsOpened : List File → Type 0
IsOpened folder = AllByRecursion (λ rule. IsKept (BreaksOpening Everywhere (PassesAt folder) folder rule)) opening_rules

-- the first of these rules that the folder breaks
abbrev pub IsFirstUnopened : List File → Broken → Type 0
IsFirstUnopened folder broken = IsFirstOf (BreaksOpening Everywhere (PassesAt folder) folder) opening_rules broken

-- ---- A folder that is read up to a path

-- the path comes before the cut
abbrev pub IsBeforeCut : Cut → List ℕ → Type 0
IsBeforeCut cut path = IsPathBefore path cut.path

-- a limit is passed at the cut, and nowhere else
abbrev pub IsCutAt : Cut → List ℕ → Limit → Type 0
IsCutAt cut path limit = (path ≡ cut.path) × (limit ≡ cut.limit)

-- the first of these rules that the folder breaks, of which only what comes before the cut counts as read
abbrev pub IsFirstCut : List File → Cut → Broken → Type 0
IsFirstCut folder cut broken = IsFirstOf (BreaksOpening (IsBeforeCut cut) (IsCutAt cut) folder) opening_rules broken

-- a broken rule, or want of memory
abbrev pub IsBrokenFault : (Broken → Type 0) → WeaveFault → Type 0
IsBrokenFault Is (fault.Broken broken) = Is broken
IsBrokenFault Is fault.Memory = ⊤
