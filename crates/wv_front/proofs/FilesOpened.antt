-- The folder that is read of files breaks the opening rules as they do.
use Rattle.std.proofs.Common.{◌≡◌, inl, inr, ℕ, zero, suc, ◌<◌, ◌≤◌, List, [], ◌∷◌, length, get_or, Bool, true, false, cond, bytes_eq, Any, Some, None, codes, refl, ap, sym, ◌∙◌, subst, arith}
use Rattle.std.specs.Bool.{IsTrue}
use Rattle.std.specs.List.{AllByRecursion, AllZip}
use Rattle.std.proofs.lemmas.Slice.Eq.{bytes_eq-Decides}
use Rattle.std.proofs.lemmas.List.Sums.{sum_by-cons}
use Rattle.wv_base.specs.declared.broken.Broken.{Broken}
use Rattle.wv_base.specs.declared.rule.Rule.{Rule}
use Rattle.wv_base.specs.declared.rule.Rule.TheVariants.{JarFile, GameMissing, GameBad, TooMuch}
use Rattle.wv_base.specs.Folder.{File, IsPathBefore, content_of}
use Rattle.wv_model.specs.FolderRead.{is_read, read_size, has_ending}
use Rattle.wv_mod.specs.FirstBroken.{IsKept, IsFirstOf, here, behind}
use Rattle.wv_resolve.specs.Presence.{game_path}
use Rattle.wv_resolve.proofs.Described.{any-here, any-later}
use Rattle.wv_front.specs.declared.limit.Limit.{Limit}
use Rattle.wv_front.specs.declared.limit.Cut.{Cut}
use Rattle.wv_front.specs.FilesRead.{IsReached, CountsAsRead, StandsAs, IsReadOf, AreOpened, IsFirstOfFiles}
use Rattle.wv_front.specs.Opening.{AreWithin, PassesAt, jar_file, HasJar, BreaksOpening, opening_rules, Everywhere, IsOpened, IsFirstUnopened, IsBeforeCut, IsCutAt, IsFirstCut}
use Rattle.wv_front.proofs.Limits.{size, one-passing, none-passed}

-- ---- Lists that stand beside each other

any-zip : {A B : Type 0} (R : A → B → Type 0) (P : A → Type 0) (Q : B → Type 0) → ((x : A) (y : B) → R x y → P x → Q y) → (xs : List A) (ys : List B) → AllZip R xs ys → (k : ℕ) (x : A) → k < length xs → get_or xs k x ≡ x → P x → Any Q ys
any-zip R P Q to [] ys zip k x inside at h = absurd (omega arith)
any-zip R P Q to (w ∷ xs) [] zip k x inside at h = absurd zip
any-zip R P Q to (w ∷ xs) (y ∷ ys) zip zero x inside at h = any-here Q y ys (to w y zip.0 (subst P (sym at) h))
any-zip R P Q to (w ∷ xs) (y ∷ ys) zip (suc k) x inside at h = any-later Q y ys (any-zip R P Q to xs ys zip.1 k x (omega arith) at h)

zip-turned : {A B : Type 0} (R : A → B → Type 0) (xs : List A) (ys : List B) → AllZip R xs ys → AllZip (λ y x. R x y) ys xs
zip-turned R [] [] zip = tt
zip-turned R [] (y ∷ ys) zip = absurd zip
zip-turned R (x ∷ xs) [] zip = absurd zip
zip-turned R (x ∷ xs) (y ∷ ys) zip = (zip.0, zip-turned R xs ys zip.1)

zip-length : {A B : Type 0} (R : A → B → Type 0) (xs : List A) (ys : List B) → AllZip R xs ys → length ys ≡ length xs
zip-length R [] [] zip = refl
zip-length R [] (y ∷ ys) zip = absurd zip
zip-length R (x ∷ xs) [] zip = absurd zip
zip-length R (x ∷ xs) (y ∷ ys) zip = ap suc (zip-length R xs ys zip.1)

-- ---- The content of a file

content-here : (path : List ℕ) (file : File) (files : List File) → bytes_eq file.0 path ≡ true → content_of path (file ∷ files) ≡ Some file.1
content-here path file files e = rw e refl

content-later : (path : List ℕ) (file : File) (files : List File) → bytes_eq file.0 path ≡ false → content_of path (file ∷ files) ≡ content_of path files
content-later path file files e = rw e refl

-- a list of files lists the paths of another, and has its content at a path that counts as read
module _ (all : List File) (path : List ℕ) where
  some-none : (content : List ℕ) → Some content ≡ None → ⊥
  some-none content e = cc

  none-of : (R : File → File → Type 0) → ((x y : File) → R x y → y.0 ≡ x.0) → (xs ys : List File) → AllZip R xs ys → content_of path xs ≡ None → content_of path ys ≡ None
  none-of R at [] [] zip none = refl
  none-of R at [] (y ∷ ys) zip none = absurd zip
  none-of R at (x ∷ xs) [] zip none = refl
  none-of R at (x ∷ xs) (y ∷ ys) zip none = by (none-of R at xs ys zip.1) (bytes_eq x.0 path) refl
    where
      by : (content_of path xs ≡ None → content_of path ys ≡ None) → (b : Bool) → bytes_eq x.0 path ≡ b → content_of path (y ∷ ys) ≡ None
      by later true e = absurd (some-none x.1 (sym (content-here path x xs e) ∙ none))
      by later false e =
          content-later path y ys (ap (λ p. bytes_eq p path) (at x y zip.0) ∙ e)
          ∙ later (sym (content-later path x xs e) ∙ none)

  same-bytes : CountsAsRead all path → (x y : File) → StandsAs all x y → x.0 ≡ path → y.1 ≡ x.1
  same-bytes counts x y (same, inl read) at = read.1
  same-bytes counts x y (same, inr left) at = absurd (left.0 (subst (CountsAsRead all) (sym at) counts))

  same-content : CountsAsRead all path → (xs ys : List File) → AllZip (StandsAs all) xs ys → content_of path ys ≡ content_of path xs
  same-content counts [] [] zip = refl
  same-content counts [] (y ∷ ys) zip = absurd zip
  same-content counts (x ∷ xs) [] zip = absurd zip
  same-content counts (x ∷ xs) (y ∷ ys) zip = by (same-content counts xs ys zip.1) (bytes_eq x.0 path) refl
    where
      by : content_of path ys ≡ content_of path xs → (b : Bool) → bytes_eq x.0 path ≡ b → content_of path (y ∷ ys) ≡ content_of path (x ∷ xs)
      by later true e =
          content-here path y ys (ap (λ p. bytes_eq p path) zip.0.0 ∙ e)
          ∙ ap Some (same-bytes counts x y zip.0 ((bytes_eq-Decides x.0 path).0 e))
          ∙ sym (content-here path x xs e)
      by later false e =
          content-later path y ys (ap (λ p. bytes_eq p path) zip.0.0 ∙ e)
          ∙ later
          ∙ sym (content-later path x xs e)

-- ---- The limits

no-more : (all : List File) (x y : File) → StandsAs all x y → size y ≤ size x
no-more all x y (same, inl (counts, bytes)) =
    let equal : size y ≡ size x = ap (λ p. cond (is_read p) (length y.1) 0) same ∙ ap (λ (b : List ℕ). cond (is_read x.0) (length b) 0) bytes in omega arith
no-more all x y (same, inr (left, none)) = by (is_read y.0) refl
  where
    by : (b : Bool) → is_read y.0 ≡ b → size y ≤ size x
    by true e = let empty : size y ≡ 0 = rw e (ap length none) in omega arith
    by false e = let empty : size y ≡ 0 = rw e refl in omega arith

read-less : (all xs ys : List File) → AllZip (StandsAs all) xs ys → read_size ys ≤ read_size xs
read-less all [] [] zip = omega arith
read-less all [] (y ∷ ys) zip = absurd zip
read-less all (x ∷ xs) [] zip = absurd zip
read-less all (x ∷ xs) (y ∷ ys) zip =
    let more = read-less all xs ys zip.1 in
    let one = no-more all x y zip.0 in
    omega (arith, sum_by-cons size x xs, sum_by-cons size y ys)

within-read : (files folder : List File) → IsReadOf files folder → AreWithin files → AreWithin folder
within-read files folder read within =
    let listed = within.listed in
    let bytes = within.read in
    record {
      listed = omega (arith, zip-length (StandsAs files) files folder read);
      read = omega (arith, read-less files files folder read);
    }

-- ---- Rules that are broken alike

module _ (P Q : Rule → Broken → Type 0) (to : (rule : Rule) (broken : Broken) → P rule broken → Q rule broken) (back : (rule : Rule) (broken : Broken) → Q rule broken → P rule broken) where
  first-alike : (rules : List Rule) (broken : Broken) → IsFirstOf P rules broken → IsFirstOf Q rules broken
  first-alike _ broken (here {rule} f) = here (record { here = to rule broken f.here; first = λ other breaks before. f.first other (back rule other breaks) before })
  first-alike _ broken (behind {rule} {later} kept f) = behind (λ other breaks. kept other (back rule other breaks)) (first-alike later broken f)

  kept-alike : (rules : List Rule) → AllByRecursion (λ rule. IsKept (P rule)) rules → AllByRecursion (λ rule. IsKept (Q rule)) rules
  kept-alike [] kept = tt
  kept-alike (rule ∷ rules) kept = ((λ other breaks. kept.0 other (back rule other breaks)), kept-alike rules kept.1)

-- the description of the game is read
game-read : is_read game_path ≡ true
unfolding is_read
game-read = refl

jar-moves : (R : File → File → Type 0) → ((x y : File) → R x y → y.0 ≡ x.0) → (xs ys : List File) → AllZip R xs ys → (broken : Broken) → HasJar xs broken → HasJar ys broken
jar-moves R at xs ys zip broken (k, file, inside, found, jar) =
    any-zip R (IsJarOf broken) (IsJarOf broken) (λ x y r is. (subst (λ (p : List ℕ). IsTrue (has_ending p (codes ".jar"))) (sym (at x y r)) is.0, is.1 ∙ ap jar_file (sym (at x y r)))) xs ys zip k file inside found jar
  where
    IsJarOf : Broken → File → Type 0
    IsJarOf b f = IsTrue (has_ending f.0 (codes ".jar")) × (b ≡ jar_file f.0)

module _ (files folder : List File) (read : IsReadOf files folder)
    (Counts : List ℕ → Type 0) (counts : Counts game_path → IsReached files game_path) (counted : IsReached files game_path → Counts game_path)
    (Passes : List ℕ → Limit → Type 0) (passes : (path : List ℕ) (limit : Limit) → Passes path limit → PassesAt files path limit) (passed : (path : List ℕ) (limit : Limit) → PassesAt files path limit → Passes path limit) where
  turned : AllZip (λ y x. StandsAs files x y) folder files
  turned = zip-turned (StandsAs files) files folder read

  to : (rule : Rule) (broken : Broken) → BreaksOpening Counts Passes folder rule broken → BreaksOpening (IsReached files) (PassesAt files) files rule broken
  to JarFile broken h = jar-moves (λ y x. StandsAs files x y) (λ y x r. sym r.0) folder files turned broken h
  to GameMissing broken h = (none-of files game_path (λ y x. StandsAs files x y) (λ y x r. sym r.0) folder files turned h.0, h.1)
  to GameBad broken (content, is, count, bad) =
      (content, sym (same-content files game_path (game-read, counts count) files folder read) ∙ is, counts count, bad)
  to TooMuch broken (path, limit, pass, told) = (path, limit, passes path limit pass, told)
  to _ broken h = absurd h

  back : (rule : Rule) (broken : Broken) → BreaksOpening (IsReached files) (PassesAt files) files rule broken → BreaksOpening Counts Passes folder rule broken
  back JarFile broken h = jar-moves (StandsAs files) (λ x y r. r.0) files folder read broken h
  back GameMissing broken h = (none-of files game_path (StandsAs files) (λ x y r. r.0) files folder read h.0, h.1)
  back GameBad broken (content, is, count, bad) =
      (content, same-content files game_path (game-read, count) files folder read ∙ is, counted count, bad)
  back TooMuch broken (path, limit, pass, told) = (path, limit, passed path limit pass, told)
  back _ broken h = absurd h

  files-first : (broken : Broken) → IsFirstOf (BreaksOpening Counts Passes folder) opening_rules broken → IsFirstOfFiles files broken
  files-first broken first =
      first-alike (BreaksOpening Counts Passes folder) (BreaksOpening (IsReached files) (PassesAt files) files) to back opening_rules broken first

  files-opened : AllByRecursion (λ rule. IsKept (BreaksOpening Counts Passes folder rule)) opening_rules → AreOpened files
  files-opened kept =
      kept-alike (BreaksOpening Counts Passes folder) (BreaksOpening (IsReached files) (PassesAt files) files) to back opening_rules kept

-- ---- A folder that is read to its end

module _ (files folder : List File) (read : IsReadOf files folder) (within : AreWithin files) where
  reached : IsReached files game_path
  reached cut limit passes = absurd (none-passed files within cut limit passes)

  passes : (path : List ℕ) (limit : Limit) → PassesAt folder path limit → PassesAt files path limit
  passes path limit pass = absurd (none-passed folder (within-read files folder read within) path limit pass)

  passed : (path : List ℕ) (limit : Limit) → PassesAt files path limit → PassesAt folder path limit
  passed path limit pass = absurd (none-passed files within path limit pass)

  pub whole-opened : IsOpened folder → AreOpened files
  whole-opened kept = files-opened files folder read Everywhere (λ _. reached) (λ _. tt) (PassesAt folder) passes passed kept

  pub whole-first : (broken : Broken) → IsFirstUnopened folder broken → IsFirstOfFiles files broken
  whole-first broken first = files-first files folder read Everywhere (λ _. reached) (λ _. tt) (PassesAt folder) passes passed broken first

-- ---- A folder that is read to a cut

pub cut-first : (files folder : List File) (cut : Cut) → IsReadOf files folder → PassesAt files cut.path cut.limit → (broken : Broken) → IsFirstCut folder cut broken → IsFirstOfFiles files broken
cut-first files folder cut read at broken first =
    files-first files folder read (IsBeforeCut cut) reached before (IsCutAt cut) passes passed broken first
  where
    reached : IsBeforeCut cut game_path → IsReached files game_path
    reached before other limit pass = subst (IsPathBefore game_path) (one-passing files cut.path other cut.limit limit at pass).0 before

    before : IsReached files game_path → IsBeforeCut cut game_path
    before reached = reached cut.path cut.limit at

    passes : (path : List ℕ) (limit : Limit) → IsCutAt cut path limit → PassesAt files path limit
    passes path limit is = subst (λ (p : List ℕ). PassesAt files p limit) (sym is.0) (subst (PassesAt files cut.path) (sym is.1) at)

    passed : (path : List ℕ) (limit : Limit) → PassesAt files path limit → IsCutAt cut path limit
    passed path limit pass = one-passing files path cut.path limit cut.limit pass at
