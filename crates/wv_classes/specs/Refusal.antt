-- The rules that a class file breaks by itself, and what their refusals say (our own).
use Rattle.std.specs.Prelude.{◌≡◌, ◌⊎◌, ℕ, ◌≤◌, List, map, codes, decimal, encode_utf8_all, Some, None}
use Rattle.std.specs.Char.Utf16.{utf16_chars}
use Rattle.wv_base.specs.declared.broken.Broken.{Broken}
use Rattle.wv_base.specs.declared.class_file.ClassFile.{ClassFile}
use Rattle.wv_base.specs.declared.rule.Rule.{Rule}
use Rattle.wv_base.specs.declared.rule.Rule.TheVariants.{ClassBad, VersionOutside, NamePath}
use Rattle.wv_base.specs.Shown.{shown_characters}
use Rattle.wv_classes.specs.declared.class_read.ClassRead.TheVariants.{Class, Layout, Reference}
use Rattle.wv_classes.specs.declared.folder_class.FolderClass.{FolderClass}

-- a refusal at a file
abbrev pub refused : Rule → List ℕ → List ℕ → List ℕ → Broken
refused rule path wanted found =
    record { rule = rule; place = record { file = path; member = None; index = None }; wanted = wanted; found = found }

-- a name as a refusal shows it
abbrev pub shown : List ℕ → List ℕ
shown name = encode_utf8_all (shown_characters name)

-- rule 30: the bytes are no class file, and this is where it shows; or they are one in which this item is the first that
-- breaks what it must meet
abbrev pub bad_layout : List ℕ → ℕ → Broken
bad_layout path at = refused ClassBad path (codes "layout") (decimal at)

abbrev pub bad_reference : List ℕ → ℕ → Broken
bad_reference path at = refused ClassBad path (codes "reference") (decimal at)

abbrev pub IsBadClass : FolderClass → Broken → Type 0
IsBadClass file broken =
    (at : ℕ) × (((file.read ≡ Layout at) × (broken ≡ bad_layout file.path at))
    ⊎ ((file.read ≡ Reference at) × (broken ≡ bad_reference file.path at)))

-- rule 31: the major version isn't one of Java 6 to 8
abbrev pub IsOfVersions : ℕ → Type 0
IsOfVersions major = (50 ≤ major) × (major ≤ 52)

abbrev pub other_version : List ℕ → ClassFile → Broken
other_version path class = refused VersionOutside path (codes "50 to 52") (decimal class.version.major)

abbrev pub HasOtherVersion : FolderClass → Broken → Type 0
HasOtherVersion file broken =
    (class : ClassFile) × (file.read ≡ Class class) × (IsOfVersions class.version.major → ⊥)
    × (broken ≡ other_version file.path class)

-- rule 32: the class has another name than its path says; UTF-16 units are the name where they spell the same characters
-- as its UTF-8 bytes, and no surrogate is without a partner
abbrev pub IsTextOf : List ℕ → List ℕ → Type 0
IsTextOf units text =
    (characters : List ℕ) × (utf16_chars units ≡ map Some characters) × (text ≡ encode_utf8_all characters)

abbrev pub other_name : (path name : List ℕ) → ClassFile → Broken
other_name path name class = refused NamePath path name (shown class.name)

abbrev pub HasOtherName : FolderClass → Broken → Type 0
HasOtherName file broken =
    (class : ClassFile) × (file.read ≡ Class class) × (IsTextOf class.name file.name → ⊥)
    × (broken ≡ other_name file.path file.name class)
