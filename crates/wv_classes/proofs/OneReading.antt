-- A folder has one class file at a path.
use Rattle.std.proofs.Common.{◌≡◌, ℕ, List, Contains, Any, All, refl, ap, sym, ◌∙◌, subst}
use Rattle.std.proofs.lemmas.List.Elements.{All-contains}
use Rattle.wv_base.specs.declared.class_file.ClassFile.{ClassFile}
use Rattle.wv_base.specs.declared.side.Side.{Side}
use Rattle.wv_base.specs.Folder.{File, IsPathBefore, content_of}
use Rattle.wv_class.specs.Meaning.{Spells}
use Rattle.wv_class.proofs.OneMeaning.{one_class}
use Rattle.wv_class.proofs.OneFault.{class_is_sound, never_both_faults, one_layout_fault, one_reference_fault}
use Rattle.wv_resolve.proofs.OneMods.{same-ordered}
use Rattle.wv_resolve.proofs.Paths.{not-both_before}
use Rattle.wv_classes.specs.declared.class_read.ClassRead.{ClassRead}
use Rattle.wv_classes.specs.declared.class_read.ClassRead.TheVariants.{Class, Layout, Reference}
use Rattle.wv_classes.specs.declared.folder_class.FolderClass.{FolderClass}
use Rattle.wv_classes.specs.ClassPath.{IsClassPath, IsClassFile}
use Rattle.wv_classes.specs.FolderClass.{IsReadOf, IsFolderClass, AreFolderClasses}
use Rattle.wv_classes.proofs.Behind.{one-name}
use Rattle.wv_classes.proofs.Contents.{one-content}

-- bytes are one thing
pub one-read : (bytes : List ℕ) (read other : ClassRead) → IsReadOf bytes read → IsReadOf bytes other → read ≡ other
one-read bytes (Class class) (Class other) g h = ap Class (one_class bytes class other g h)
one-read bytes (Class class) (Layout at) g h = absurd (h.no_class g.raw g.layout)
one-read bytes (Class class) (Reference at) g h = absurd (class_is_sound bytes class at g h)
one-read bytes (Layout at) (Class class) g h = absurd (g.no_class h.raw h.layout)
one-read bytes (Layout at) (Layout other) g h = ap Layout (one_layout_fault bytes at other g h)
one-read bytes (Layout at) (Reference other) g h = absurd (never_both_faults bytes at other g h)
one-read bytes (Reference at) (Class class) g h = absurd (class_is_sound bytes class at h g)
one-read bytes (Reference at) (Layout other) g h = absurd (never_both_faults bytes other at h g)
one-read bytes (Reference at) (Reference other) g h = ap Reference (one_reference_fault bytes at other g h)

-- a class file at a path has one name and one content
pub one-file : (folder : List File) (side : Side) (path other name name' content content' : List ℕ) → path ≡ other → IsClassFile folder side path name content → IsClassFile folder side other name' content' → (name ≡ name') × (content ≡ content')
one-file folder side path other name name' content content' same g h = (
  one-name folder side path name name' g.0 (subst (λ (p : List ℕ). IsClassPath folder side p name') (sym same) h.0),
  one-content folder path content content' g.1 (ap (λ p. content_of p folder) same ∙ h.1),
)

same-parts : (class other : FolderClass) → class.path ≡ other.path → class.name ≡ other.name → class.read ≡ other.read → class ≡ other
same-parts class other paths names reads =
    ap (λ (p : List ℕ). record { path = p; name = class.name; read = class.read }) paths
    ∙ ap (λ (n : List ℕ). record { path = other.path; name = n; read = class.read }) names
    ∙ ap (λ (r : ClassRead). record { path = other.path; name = other.name; read = r }) reads

pub one-class_at : (folder : List File) (side : Side) (class other : FolderClass) → IsFolderClass folder side class → IsFolderClass folder side other → class.path ≡ other.path → class ≡ other
one-class_at folder side class other (content, file, read) (content', file', read') same =
    let one = one-file folder side class.path other.path class.name other.name content content' same file file' in
    same-parts class other same one.0
    (one-read content class.read other.read read (subst (λ (c : List ℕ). IsReadOf c other.read) (sym one.1) read'))

-- the class file at the path of one of the folder is among those that are read
pub among : (folder : List File) (side : Side) (classes : List FolderClass) (class : FolderClass) → AreFolderClasses folder side classes → IsFolderClass folder side class → Contains classes class
among folder side classes class h is =
    let there = h.all class.path class.name is.0 is.1 in
    let found : Contains classes there.1 = (there.0, there.2, there.3) in
    subst (Contains classes) (one-class_at folder side there.1 class (All-contains (IsFolderClass folder side) classes there.1 h.each found) is there.4) found

pub one-reading : (folder : List File) (side : Side) (classes other : List FolderClass) → AreFolderClasses folder side classes → AreFolderClasses folder side other → classes ≡ other
one-reading folder side classes other g h =
    same-ordered (λ class later. IsPathBefore class.path later.path) (λ a b. not-both_before a.path b.path) classes other g.ordered h.ordered
    (λ class found. among folder side other class h (All-contains (IsFolderClass folder side) classes class g.each found))
    (λ class found. among folder side classes class g (All-contains (IsFolderClass folder side) other class h.each found))
