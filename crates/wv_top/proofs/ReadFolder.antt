-- A folder is read file by file, within its limits.
use Rattle.std.proofs.Common.{◌≡◌, ℕ, ◌+◌, ◌<◌, ◌⊎◌, inl, inr, Bool, true, false, cond, List, [], ◌∷◌, ◌++◌, length, get_or, take, All, AllPairs, Option, Some, None, unwrap_or, refl, sym, ap, subst, ◌∙◌, arith, length-append}
use Rattle.std.specs.Cmp.Lexicographic.{slice_cmp}
use Rattle.std.specs.List.{AllZip}
use Rattle.std.specs.Ordering.{nat_cmp}
use Rattle.std.specs.declared.cmp.Ordering.TheVariants.{Equal}
use Rattle.std.proofs.lemmas.Cmp.{nat_list_cmp_total, tied_itself}
use Rattle.std.proofs.Math.Seq.{get_or-append_seam}
use Rattle.std.proofs.lemmas.List.{get_or_default, get_or-map, get_or-take, length-map, length-take-le, take_all, take_more}
use Rattle.std.proofs.lemmas.List.Elements.{AllZip-push, All-tail}
use Rattle.wv_base.specs.Folder.{File, IsPathBefore, IsInOrder}
use Rattle.wv_base.proofs.PathOrder.{content_of-at}
use Rattle.wv_tree.specs.Tree.{Folders, paths_of}
use Rattle.wv_model.specs.FolderRead.{is_read, most_read}
use Rattle.wv_resolve.proofs.Paths.{not-before_itself, not-both_before}
use Rattle.wv_front.specs.FilesRead.{IsReached, StandsAs, IsReadOf}
use Rattle.wv_front.specs.Opening.{most_files, AreWithin, PassesAt}
use Rattle.wv_front.specs.declared.limit.Cut.{Cut}
use Rattle.wv_front.proofs.Limits.{one-passing, none-passed}
use Rattle.wv_top.specs.declared.reading.Allowance.{Allowance}
use Rattle.wv_top.specs.declared.reading.Reading.{Reading}
use Rattle.wv_top.specs.Reading.{WhereTold, Leaves, IsLeft, EndsAt, IsReadingOf, CutStays, ReadsNext, bytes_read, bytes_before, file_at}

-- ---- Where folders are told

-- what holds of all files holds of those that are told
pub where_all : (told : Option Folders) (name : List ℕ) (P : List File → Type 0) → ((files : List File) → P files) → WhereTold told name P
where_all None name P all = tt
where_all (Some folders) name P all = all (folders name)

-- what follows from what holds of the files that are told
pub where_from : (told : Option Folders) (name : List ℕ) (P Q : List File → Type 0) → WhereTold told name P → ((files : List File) → P files → Q files) → WhereTold told name Q
where_from None name P Q held follows = tt
where_from (Some folders) name P Q held follows = follows (folders name) held

-- ---- A file beside a cut

-- a file as it stands in the folder that is read up to the cut
abbrev pub StandsBy : Option Cut → File → File → Type 0
StandsBy None file read = read ≡ (file.0, bytes_read file)
StandsBy (Some cut) file read =
    (IsPathBefore file.0 cut.path × (read ≡ (file.0, bytes_read file)))
    ⊎ ((IsPathBefore file.0 cut.path → ⊥) × (read ≡ (file.0, [])))

-- files before a cut stand as without one
zip-cut : (cut : Cut) (files read : List File) → All (λ file. IsPathBefore file.0 cut.path) files → AllZip (StandsBy None) files read → AllZip (StandsBy (Some cut)) files read
zip-cut cut [] [] before zip = tt
zip-cut cut [] (y ∷ ys) before zip = absurd zip
zip-cut cut (x ∷ xs) [] before zip = absurd zip
zip-cut cut (x ∷ xs) (y ∷ ys) before zip =
    (inl (before 0 x (omega arith), zip.0), zip-cut cut xs ys (All-tail (λ (file : File). IsPathBefore file.0 cut.path) x xs before) zip.1)

-- a cut at one of the files comes before a path behind them all
cut-before : (files : List File) (path : List ℕ) (cut : Cut) → All (λ file. IsPathBefore file.0 path) files → PassesAt files cut.path cut.limit → IsPathBefore cut.path path
cut-before files path cut before passes =
    let file : File = (cut.path, passes.content) in
    let at : get_or files (length passes.before) file ≡ file = ap (λ (fs : List File). get_or fs (length passes.before) file) passes.parted ∙ get_or-append_seam passes.before file passes.after file in
    let within : length passes.before < length files = omega (arith, ap length passes.parted, length-append passes.before (file ∷ passes.after)) in
    subst (λ (f : File). IsPathBefore f.0 path) at (before (length passes.before) file within)

-- one more file behind the others
zip-more : (old now : Option Cut) (listed bytes : ℕ) (file : File) (before read : List File) (content : List ℕ) → All (λ (other : File). IsPathBefore other.0 file.0) before → IsLeft before listed bytes old → CutStays file.0 old now → content ≡ bytes_before now file → AllZip (StandsBy old) before read
    → AllZip (StandsBy now) (before ++ file ∷ []) (read ++ (file.0, content) ∷ [])
zip-more None None listed bytes file before read content order left stays is zip =
    AllZip-push (StandsBy None) before read file (file.0, content) zip (ap (λ (b : List ℕ). (file.0, b)) is)
zip-more None (Some cut) listed bytes file before read content order left stays is zip =
    AllZip-push (StandsBy (Some cut)) before read file (file.0, content)
    (zip-cut cut before read (subst (λ (p : List ℕ). All (λ (other : File). IsPathBefore other.0 p) before) (sym stays) order) zip)
    (inr ((λ behind. not-before_itself file.0 (subst (IsPathBefore file.0) stays behind)), ap (λ (b : List ℕ). (file.0, b)) is))
zip-more (Some cut) now listed bytes file before read content order left stays is zip =
    subst (λ (c : Option Cut). content ≡ bytes_before c file → AllZip (StandsBy c) (before ++ file ∷ []) (read ++ (file.0, content) ∷ [])) (sym stays)
    (λ none. AllZip-push (StandsBy (Some cut)) before read file (file.0, content) zip
    (inr ((λ behind. not-both_before file.0 cut.path behind (cut-before before file.0 cut order left)), ap (λ (b : List ℕ). (file.0, b)) none)))
    is

-- ---- File by file

-- so many first files, as they stand in the folder that is read, and what is left behind them
pub record IsReadSoFar (count : ℕ) (read : List File) (allowance : Allowance) (files : List File) : Type 0 where
  pub each : AllZip (StandsBy allowance.cut) (take count files) read
  pub left : IsLeft (take count files) allowance.files allowance.bytes allowance.cut

-- files whose paths ascend are in order
in_order : (files : List File) → AllPairs IsPathBefore (paths_of files) → IsInOrder files
in_order files ascending i j d before in_range =
    let short : j < length (paths_of files) = omega (arith, length-map files (λ (f : File). f.0)) in
    rw (← get_or-map (λ (f : File). f.0) files i d d.0 (omega arith), ← get_or-map (λ (f : File). f.0) files j d d.0 in_range) (ascending i j d.0 before short)

-- the file that stands at a place is the one with its path
file_at-place : (files : List File) (i : ℕ) (d : File) → IsInOrder files → i < length files → file_at (get_or files i d).0 files ≡ get_or files i d
file_at-place files i d order within =
    let file : File = get_or files i d in
    let here = content_of-at files files files file.0 i file refl refl order within (λ (e : File). subst (λ (f : File). slice_cmp nat_cmp f.0 file.0 ≡ Equal) (get_or_default files i d e within) (tied_itself nat_list_cmp_total file.0)) (get_or_default files i d file within) in
    ap (λ (o : Option (List ℕ)). (file.0, unwrap_or o [])) (sym here.0)

-- the files before a place come before the one that stands at it
front-before : (files : List File) (count : ℕ) (file : File) → IsInOrder files → count < length files → file ≡ get_or files count file → All (λ (other : File). IsPathBefore other.0 file.0) (take count files)
front-before files count file order within here k d in_front =
    let few : k < count = omega (arith, length-take-le count files) in
    let next : get_or files count d ≡ file = get_or_default files count d file within ∙ sym here in
    subst (λ (f : File). IsPathBefore f.0 file.0) (sym (get_or-take count files k d few))
    (subst (λ (f : File). IsPathBefore (get_or files k d).0 f.0) next (order k count d few within))

next_read : (files read : List File) (count : ℕ) (old new : Allowance) (file : File) (bytes : List ℕ) → IsInOrder files → count < length files → file ≡ get_or files count file → IsReadSoFar count read old files → ReadsNext file old new bytes → IsReadSoFar (count + 1) (read ++ (file.0, bytes) ∷ []) new files
next_read files read count old new file bytes order within here so_far next =
    let front : List File = take count files in
    let more : take (count + 1) files ≡ front ++ file ∷ [] = take_more files count file within ∙ ap (λ (f : File). front ++ f ∷ []) (sym here) in
    record {
      each = subst (λ (fs : List File). AllZip (StandsBy new.cut) fs (read ++ (file.0, bytes) ∷ [])) (sym more)
          (zip-more old.cut new.cut old.files old.bytes file front read bytes (front-before files count file order within here) so_far.left next.cut next.bytes_are so_far.each);
      left = subst (λ (fs : List File). IsLeft fs new.files new.bytes new.cut) (sym more) (next.left front so_far.left);
    }

-- ---- The whole folder

zip-each : (R S : File → File → Type 0) → ((file read : File) → R file read → S file read) → (files reads : List File) → AllZip R files reads → AllZip S files reads
zip-each R S to [] [] zip = tt
zip-each R S to [] (y ∷ ys) zip = absurd zip
zip-each R S to (x ∷ xs) [] zip = absurd zip
zip-each R S to (x ∷ xs) (y ∷ ys) zip = (to x y zip.0, zip-each R S to xs ys zip.1)

module _ (files : List File) (file read : File) where
  stands-reached : IsReached files file.0 → read ≡ (file.0, bytes_read file) → StandsAs files file read
  stands-reached reached is = by (is_read file.0) refl
    where
      by : (b : Bool) → is_read file.0 ≡ b → StandsAs files file read
      by true e = (ap (λ (f : File). f.0) is, inl ((e, reached), ap (λ (f : File). f.1) is ∙ ap (λ (b : Bool). cond b file.1 []) e))
      by false e = (
        ap (λ (f : File). f.0) is,
        inr ((λ counts. let clash : true ≡ false = sym counts.0 ∙ e in cc), ap (λ (f : File). f.1) is ∙ ap (λ (b : Bool). cond b file.1 []) e),
      )

  stands-unreached : (IsReached files file.0 → ⊥) → read ≡ (file.0, []) → StandsAs files file read
  stands-unreached unreached is =
      (ap (λ (f : File). f.0) is, inr ((λ counts. unreached counts.1), ap (λ (f : File). f.1) is))

  stands-within : AreWithin files → StandsBy None file read → StandsAs files file read
  stands-within within stands = stands-reached (λ cut limit passes. absurd (none-passed files within cut limit passes)) stands

  stands-cut : (cut : Cut) → PassesAt files cut.path cut.limit → StandsBy (Some cut) file read → StandsAs files file read
  stands-cut cut at (inl before) =
      stands-reached (λ other limit passes. subst (IsPathBefore file.0) (one-passing files cut.path other cut.limit limit at passes).0 before.0) before.1
  stands-cut cut at (inr behind) = stands-unreached (λ reached. behind.0 (reached cut.path cut.limit at)) behind.1

leaves-within : (files : List File) (listed bytes : ℕ) → Leaves files listed bytes → AreWithin files
leaves-within files listed bytes leaves =
    let most = leaves.listed in
    let read = leaves.read in
    record { listed = omega arith; read = omega arith }

-- what is left behind all files tells where the reading ended
all_read : (files read : List File) (listed bytes : ℕ) (cut : Option Cut) → IsLeft files listed bytes cut → AllZip (StandsBy cut) files read → IsReadOf files read × EndsAt files cut
all_read files read listed bytes None left zip =
    let within = leaves-within files listed bytes left in
    (zip-each (StandsBy None) (StandsAs files) (λ file as_read. stands-within files file as_read within) files read zip, within)
all_read files read listed bytes (Some cut) left zip =
    (zip-each (StandsBy (Some cut)) (StandsAs files) (λ file as_read. stands-cut files file as_read cut left) files read zip, left)

-- ---- The loop

-- what the loop keeps of the files with these paths
abbrev pub Keeps : List (List ℕ) → ℕ → List File → Allowance → List File → Type 0
Keeps paths count read allowance files = paths_of files ≡ paths → IsReadSoFar count read allowance files

pub none_read : (told : Option Folders) (name : List ℕ) (paths : List (List ℕ)) (read : List File) (allowance : Allowance) → allowance.files ≡ most_files → allowance.bytes ≡ most_read → allowance.cut ≡ None → read ≡ [] → WhereTold told name (Keeps paths 0 read allowance)
none_read told name paths read allowance listed bytes cut none = where_all told name (Keeps paths 0 read allowance) (λ files same. record {
  each = subst (λ (reads : List File). AllZip (StandsBy allowance.cut) [] reads) (sym none) tt;
  left = subst (λ (c : Option Cut). IsLeft [] allowance.files allowance.bytes c) (sym cut) (record { listed = omega (arith, listed); read = omega (arith, bytes) });
})

-- the next file, as the tree tells it now
pub next_told : (told told_now : Option Folders) (name name_now path path_now bytes bytes_now : List ℕ) (old new : Allowance) → told_now ≡ told → name_now ≡ name → path_now ≡ path → bytes_now ≡ bytes
    → WhereTold told_now name_now (λ files. ReadsNext (file_at path_now files) old new bytes_now) → WhereTold told name (λ files. ReadsNext (file_at path files) old new bytes)
next_told told told_now name name_now path path_now bytes bytes_now old new same_told same_name same_path same_bytes next =
    subst (λ (t : Option Folders). WhereTold t name (λ files. ReadsNext (file_at path files) old new bytes)) same_told
    (subst (λ (n : List ℕ). WhereTold told_now n (λ files. ReadsNext (file_at path files) old new bytes)) same_name
    (subst (λ (p : List ℕ). WhereTold told_now name_now (λ files. ReadsNext (file_at p files) old new bytes)) same_path
    (subst (λ (b : List ℕ). WhereTold told_now name_now (λ files. ReadsNext (file_at path_now files) old new b)) same_bytes next)))

pub one_more_read : (told : Option Folders) (name : List ℕ) (paths : List (List ℕ)) (count : ℕ) (read : List File) (old new : Allowance) (path bytes : List ℕ) → AllPairs IsPathBefore paths → count < length paths → path ≡ get_or paths count path
    → WhereTold told name (Keeps paths count read old) → WhereTold told name (λ files. ReadsNext (file_at path files) old new bytes) → WhereTold told name (Keeps paths (count + 1) (read ++ (path, bytes) ∷ []) new)
one_more_read None name paths count read old new path bytes ascending within here kept next = tt
one_more_read (Some folders) name paths count read old new path bytes ascending within here kept next = λ same.
    let files : List File = folders name in
    let order : IsInOrder files = in_order files (subst (AllPairs IsPathBefore) (sym same) ascending) in
    let short : count < length files = omega (arith, ap length same, length-map files (λ (f : File). f.0)) in
    let at : path ≡ (get_or files count (path, bytes)).0 = here ∙ ap (λ (ps : List (List ℕ)). get_or ps count path) (sym same) ∙ get_or-map (λ (f : File). f.0) files count (path, bytes) path short in
    let file : File = file_at path files in
    let is : file ≡ get_or files count (path, bytes) = ap (λ (p : List ℕ). file_at p files) at ∙ file_at-place files count (path, bytes) order short in
    next_read files read count old new file bytes order short (is ∙ get_or_default files count (path, bytes) file short) (kept same) next

pub read_all : (told : Option Folders) (name : List ℕ) (paths : List (List ℕ)) (count : ℕ) (reading : Reading) (allowance : Allowance) → length paths ≡ count → reading.cut ≡ allowance.cut → WhereTold told name (Keeps paths count reading.folder allowance) → WhereTold told name (λ files. paths_of files ≡ paths → IsReadingOf files reading)
read_all told name paths count reading allowance long cut kept =
    where_from told name (Keeps paths count reading.folder allowance) (λ files. paths_of files ≡ paths → IsReadingOf files reading) kept (λ files keeps same.
    let whole_length : length files ≡ count = sym (length-map files (λ (f : File). f.0)) ∙ ap length same ∙ long in
    let whole : take count files ≡ files = take_all count files (omega arith) in
    let so_far = keeps same in
    let read = all_read files reading.folder allowance.files allowance.bytes allowance.cut
    (subst (λ (fs : List File). IsLeft fs allowance.files allowance.bytes allowance.cut) whole so_far.left)
    (subst (λ (fs : List File). AllZip (StandsBy allowance.cut) fs reading.folder) whole so_far.each) in
    record { read = read.0; cut = subst (EndsAt files) (sym cut) read.1 })
