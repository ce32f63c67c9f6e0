-- Files pass one limit at most, at one path.
use Rattle.std.proofs.Common.{◌≡◌, ◌⊎◌, inl, inr, ℕ, ◌+◌, ◌<◌, ◌≤◌, List, [], ◌∷◌, ◌++◌, cond, length, get_or, take, drop, append_assoc, refl, ap, sym, ◌∙◌, subst, arith, length-append}
use Rattle.std.proofs.lemmas.List.{length_push, take_all}
use Rattle.std.proofs.lemmas.List.Sums.{sum_by-append, sum_by_push}
use Rattle.wv_base.specs.Folder.{File}
use Rattle.wv_model.specs.FolderRead.{is_read, read_size, most_read}
use Rattle.wv_mod.proofs.Relating.{cut-at}
use Rattle.wv_resolve.proofs.Lists.{front-more}
use Rattle.wv_front.specs.declared.limit.Limit.{Limit}
use Rattle.wv_front.specs.declared.limit.Limit.TheVariants.{Files, Bytes}
use Rattle.wv_front.specs.declared.limit.Allowance.{Allowance}
use Rattle.wv_front.specs.Allowance.{IsLeft}
use Rattle.wv_front.specs.Opening.{most_files, AreWithin, Exceeds, PassesAt}

-- how many bytes of a file are read
abbrev pub size : File → ℕ
size file = cond (is_read file.0) (length file.1) 0

-- ---- Within the limits

within-front : (front more : List File) → AreWithin (front ++ more) → AreWithin front
within-front front more h =
    let listed = h.listed in
    let read = h.read in
    record {
      listed = omega (arith, length-append front more);
      read = omega (arith, sum_by-append size front more);
    }

not-within : (files : List File) (limit : Limit) → Exceeds files limit → AreWithin files → ⊥
not-within files Files over h = let listed = h.listed in omega arith
not-within files Bytes over h = let read = h.read in let more = over.1 in omega arith

one-limit : (files : List File) (limit last : Limit) → Exceeds files limit → Exceeds files last → limit ≡ last
one-limit files Files Files g h = refl
one-limit files Files Bytes g h = let few = h.0 in let none : ⊥ = omega arith in absurd none
one-limit files Bytes Files g h = let few = g.0 in let none : ⊥ = omega arith in absurd none
one-limit files Bytes Bytes g h = refl

-- ---- One list, parted at two of its items

abbrev IsFurther : {A : Type 0} → (front : List A) → A → List A → Type 0
IsFurther {A} front x other = (between : List A) × (other ≡ (front ++ x ∷ []) ++ between)

abbrev Parted : {A : Type 0} → (front : List A) → A → (other : List A) → A → Type 0
Parted front x other y = ((front ≡ other) × (x ≡ y)) ⊎ (IsFurther front x other ⊎ IsFurther other y front)

parted : {A : Type 0} (list front after other behind : List A) (x y : A) → list ≡ front ++ x ∷ after → list ≡ other ++ y ∷ behind → Parted front x other y
parted list [] after [] behind x y e f = inl (refl, cc)
parted list [] after (k ∷ other) behind x y e f =
    let same : k ≡ x = cc in inr (inl (other, ap (λ z. z ∷ other) same))
parted list (k ∷ front) after [] behind x y e f =
    let same : k ≡ y = cc in inr (inr (front, ap (λ z. z ∷ front) same))
parted [] (k ∷ front) after (l ∷ other) behind x y e f = let none : ⊥ = cc in absurd none
parted {A} (z ∷ list) (k ∷ front) after (l ∷ other) behind x y e f =
    let rest : list ≡ front ++ x ∷ after = cc in
    let rest' : list ≡ other ++ y ∷ behind = cc in
    let same : k ≡ l = cc in
    elim (parted list front after other behind x y rest rest') [
      | inl both ↦ inl ((ap (λ w. k ∷ w) both.0 ∙ ap (λ w. w ∷ other) same), both.1)
      | inr (inl more) ↦ inr (inl (more.0, (ap (λ w. l ∷ w) more.1 ∙ ap (λ w. w ∷ ((front ++ x ∷ []) ++ more.0)) (sym same))))
      | inr (inr more) ↦ inr (inr (more.0, (ap (λ w. k ∷ w) more.1 ∙ ap (λ w. w ∷ ((other ++ y ∷ []) ++ more.0)) same)))
    ]

-- ---- Where a limit is passed

-- what is passed stands in no front that is within the limits
not-further : (front other : List File) (file : File) (limit : Limit) → Exceeds (front ++ file ∷ []) limit → AreWithin other → IsFurther front file other → ⊥
not-further front other file limit over h (between, whole) =
    not-within (front ++ file ∷ []) limit over (within-front (front ++ file ∷ []) between (subst AreWithin whole h))

pub one-passing : (files : List File) (path other : List ℕ) (limit last : Limit) → PassesAt files path limit → PassesAt files other last → (path ≡ other) × (limit ≡ last)
one-passing files path other limit last g h = elim (parted files g.before g.after h.before h.after (path, g.content) (other, h.content) g.parted h.parted) [
  | inl both ↦ (
    ap (λ (f : File). f.0) both.1,
    one-limit (g.before ++ (path, g.content) ∷ []) limit last g.passes
        (subst (λ (fs : List File). Exceeds fs last) (ap (λ (fs : List File). fs ++ (other, h.content) ∷ []) (sym both.0) ∙ ap (λ (f : File). g.before ++ f ∷ []) (sym both.1)) h.passes),
  )
  | inr (inl more) ↦ absurd (not-further g.before h.before (path, g.content) limit g.passes h.fits more)
  | inr (inr more) ↦ absurd (not-further h.before g.before (other, h.content) last h.passes g.fits more)
]

-- files within the limits pass none
pub none-passed : (files : List File) → AreWithin files → (path : List ℕ) (limit : Limit) → PassesAt files path limit → ⊥
none-passed files h path limit g =
    not-further g.before files (path, g.content) limit g.passes h
    (g.after, g.parted ∙ sym (append_assoc g.before ((path, g.content) ∷ []) g.after))

-- ---- What is left

pub left-within : (files : List File) (allowance : Allowance) → IsLeft files allowance → AreWithin files
left-within files allowance h =
    let listed = h.listed in
    let read = h.read in
    record { listed = omega arith; read = omega arith }

pub left-first : IsLeft [] (record { files = 20000; bytes = 67108864 })
unfolding most_files most_read
left-first = record { listed = refl; read = refl }

module _ (before : List File) (file : File) (old : Allowance) (left : IsLeft before old) where
  listed-more : length (before ++ file ∷ []) ≡ length before + 1
  listed-more = length_push before file

  read-more : read_size (before ++ file ∷ []) ≡ read_size before + size file
  read-more = sum_by_push size before file

  pub passes-files : old.files ≡ 0 → Exceeds (before ++ file ∷ []) Files
  passes-files none = let listed = left.listed in omega (arith, listed-more)

  pub passes-bytes : (count : ℕ) → count ≡ size file → (old.files ≡ 0 → ⊥) → old.bytes < count → Exceeds (before ++ file ∷ []) Bytes
  passes-bytes count is some more =
      let listed = left.listed in
      let read = left.read in
      (omega (arith, listed-more), omega (arith, read-more))

  pub leaves : (count : ℕ) (new : Allowance) → count ≡ size file → (old.files ≡ 0 → ⊥) → count ≤ old.bytes → new.files + 1 ≡ old.files → new.bytes + count ≡ old.bytes → IsLeft (before ++ file ∷ []) new
  leaves count new is some few files bytes =
      let listed = left.listed in
      let read = left.read in
      record { listed = omega (arith, listed-more); read = omega (arith, read-more) }

-- ---- The files in turn

pub none-passed-all : (files : List File) (i : ℕ) (allowance : Allowance) → length files ≤ i → IsLeft (take i files) allowance → (path : List ℕ) (limit : Limit) → PassesAt files path limit → ⊥
none-passed-all files i allowance past left path limit passes =
    none-passed files (subst AreWithin (take_all i files past) (left-within (take i files) allowance left)) path limit passes

pub left-more : (files : List File) (i : ℕ) (file : File) (new : Allowance) → i < length files → file ≡ get_or files i file → IsLeft (take i files ++ file ∷ []) new → IsLeft (take (i + 1) files) new
left-more files i file new inside at h = subst (λ (fs : List File). IsLeft fs new) (sym (front-more files i file inside at)) h

pub passes-here : (files : List File) (i : ℕ) (file : File) (limit : Limit) (allowance : Allowance) → i < length files → file ≡ get_or files i file → IsLeft (take i files) allowance → Exceeds (take i files ++ file ∷ []) limit → PassesAt files file.0 limit
passes-here files i file limit allowance inside at left over = record {
  before = take i files;
  content = file.1;
  after = drop (i + 1) files;
  parted = cut-at files i file inside at;
  fits = left-within (take i files) allowance left;
  passes = over;
}
