-- One folder is read of files, and one rule is the first that they break.
use Rattle.std.proofs.Common.{◌≡◌, inl, inr, ℕ, List, [], ◌∷◌, refl, sym, ap, subst, ◌∙◌}
use Rattle.std.specs.List.{AllZip}
use Rattle.wv_base.specs.Folder.{File}
use Rattle.wv_base.specs.declared.broken.Broken.{Broken}
use Rattle.wv_base.specs.declared.side.Side.{Side}
use Rattle.wv_front.specs.FilesRead.{StandsAs, IsReadOf}
use Rattle.wv_front.proofs.Openings.{one-of_files, files-not_first}
use Rattle.wv_weave.specs.Stages.{IsFirstBroken}
use Rattle.wv_weave.proofs.OneFirst.{one-first, none-first}
use Rattle.wv_top.specs.Rules.{FirstBrokenOf, NoneBrokenOf}

same_file : (path other content bytes : List ℕ) → path ≡ other → content ≡ bytes → ◌≡◌ {A = File} (path, content) (other, bytes)
same_file path other content bytes e f = subst (λ (p : List ℕ). ◌≡◌ {A = File} (path, content) (p, bytes)) e (subst (λ (b : List ℕ). ◌≡◌ {A = File} (path, content) (path, b)) f refl)

-- a file stands in one way
one-file : (files : List File) (file first second : File) → StandsAs files file first → StandsAs files file second → first ≡ second
one-file files file first second (same, inl a) (also, inl b) = same_file first.0 second.0 first.1 second.1 (same ∙ sym also) (a.1 ∙ sym b.1)
one-file files file first second (same, inl a) (also, inr b) = absurd (b.0 a.0)
one-file files file first second (same, inr a) (also, inl b) = absurd (a.0 b.0)
one-file files file first second (same, inr a) (also, inr b) = same_file first.0 second.0 first.1 second.1 (same ∙ sym also) (a.1 ∙ sym b.1)

one-zip : (all files first second : List File) → AllZip (StandsAs all) files first → AllZip (StandsAs all) files second → first ≡ second
one-zip all [] [] [] a b = refl
one-zip all [] [] (y ∷ ys) a b = absurd b
one-zip all [] (x ∷ xs) ys a b = absurd a
one-zip all (f ∷ fs) [] ys a b = absurd a
one-zip all (f ∷ fs) (x ∷ xs) [] a b = absurd b
one-zip all (f ∷ fs) (x ∷ xs) (y ∷ ys) a b =
    ap (λ (g : File). g ∷ xs) (one-file all f x y a.0 b.0) ∙ ap (λ (gs : List File). y ∷ gs) (one-zip all fs xs ys a.1 b.1)

-- one folder is read of files
pub one_reading : (files folder other : List File) → IsReadOf files folder → IsReadOf files other → folder ≡ other
one_reading files folder other a b = one-zip files files folder other a b

-- one rule is the first that files break on a side
pub one_broken_of : (files : List File) (side : Side) (first second : Broken) → FirstBrokenOf files side first → FirstBrokenOf files side second → first ≡ second
one_broken_of files side first second (inl a) (inl b) = one-of_files files first second a b
one_broken_of files side first second (inl a) (inr b) = absurd (files-not_first files first b.0 a)
one_broken_of files side first second (inr a) (inl b) = absurd (files-not_first files second a.0 b)
one_broken_of files side first second (inr (opened, (folder, read, breaks))) (inr (also, (other, other_read, other_breaks))) =
    one-first folder side first second breaks
    (subst (λ (f : List File). IsFirstBroken f side second) (one_reading files other folder other_read read) other_breaks)

-- files that break no rule have no first one that they break
pub none_or_first : (files : List File) (side : Side) (broken : Broken) → NoneBrokenOf files side → FirstBrokenOf files side broken → ⊥
none_or_first files side broken none (inl first) = files-not_first files broken none.0 first
none_or_first files side broken (opened, (folder, read, none)) (inr (also, (other, other_read, breaks))) =
    none-first folder side broken none
    (subst (λ (f : List File). IsFirstBroken f side broken) (one_reading files other folder other_read read) breaks)
