-- The order of paths: the last file bounds all of them, and a search by halves finds the one with a path.
use Rattle.std.proofs.Common.{◌≡◌, ◌≢◌, ℕ, zero, suc, ◌+◌, ◌-◌, ◌<◌, ◌≤◌, ◌↔◌, IsTrue, Bool, true, false, List, [], ◌∷◌, length, get_or, All, Some, None, find, bytes_eq, arith, refl, sym, ap, ◌∙◌, subst, below_more, Contains, inl, inr, true≢false, is_lt}
use Rattle.std.specs.Cmp.Lexicographic.{slice_cmp}
use Rattle.std.specs.List.{HoldsAt}
use Rattle.std.specs.List.Sorted.{IsNonDecreasingBy, IsPartitionPoint}
use Rattle.std.specs.Option.{option_map}
use Rattle.std.specs.Ordering.{nat_cmp, is_eq, ordering_index}
use Rattle.std.specs.declared.cmp.Ordering.{Ordering}
use Rattle.std.specs.declared.cmp.Ordering.TheVariants.{Less, Equal, Greater}
use Rattle.std.proofs.Math.Nat.{eq-or-lt_of_le}
use Rattle.std.proofs.lemmas.Bool.{ltb-true, ltb-false}
use lib.Dec.{ltb}
use Rattle.std.specs.Bool.{Decides}
use Rattle.std.proofs.lemmas.Cmp.{nat_list_cmp_total}
use Rattle.std.proofs.lemmas.List.{get_or_default}
use Rattle.std.proofs.lemmas.Map.Text.{is_eq-slice_cmp}
use Rattle.std.proofs.lemmas.Slice.Eq.{bytes_eq-Decides}
use Rattle.wv_base.specs.Folder.{File, IsPathBefore, IsInOrder, IsPathAfter, content_of}

-- what is behind the last of files in order is behind all of them
after_last-after_all : (files : List File) (path : List ℕ) (last : ℕ) (d : File) → IsInOrder files → length files ≡ last + 1 → IsPathBefore (get_or files last d).0 path → IsPathAfter path files
after_last-after_all files path last d order long before k e lt =
    let in_range : last < length files = omega arith in
    let at_last = λ (f : File). subst (λ (g : File). IsPathBefore g.0 path) (get_or_default files last d f in_range) before in
    let below : k < last + 1 = omega arith in
    below_more (λ j. (f : File) → IsPathBefore (get_or files j f).0 path) last (λ j h f. nat_list_cmp_total.trans (get_or files j f).0 (get_or files last f).0 path (order j last f h in_range) (at_last f)) at_last k below e

is_lt-Decides : (o : Ordering) → Decides (is_lt o) (o ≡ Less)
is_lt-Decides Less = (λ e. refl, λ e. refl)
is_lt-Decides Equal = (λ e. absurd (true≢false (sym e)), λ e. ap is_lt e)
is_lt-Decides Greater = (λ e. absurd (true≢false (sym e)), λ e. ap is_lt e)

-- comparing with the last file alone tests whether a path is behind all of them
pub takes-after_all : (files now : List File) (path : List ℕ) (last : File) (r : Bool) → files ≡ now → IsInOrder files → 0 < length files → last ≡ get_or files (length files - 1) last → r ≡ is_lt (slice_cmp nat_cmp last.0 path) → IsTrue r ↔ IsPathAfter path now
takes-after_all files now path last r same order some at_last answer =
    let decides = is_lt-Decides (slice_cmp nat_cmp last.0 path) in
    let long : length files ≡ (length files - 1) + 1 = omega arith in
    rw (← same) (
      λ yes. after_last-after_all files path (length files - 1) last order long (subst (λ (f : File). IsPathBefore f.0 path) at_last (decides.0 (sym answer ∙ yes))),
      λ after. answer ∙ decides.1 (subst (λ (f : File). IsPathBefore f.0 path) (sym at_last) (after (length files - 1) last (omega arith))),
    )

-- the first element that passes is found
find-first : {X : Type 0} (p : X → Bool) (xs : List X) (i : ℕ) (d : X) → i < length xs → p (get_or xs i d) ≡ true → ((j : ℕ) → j < i → p (get_or xs j d) ≡ false) → find p xs ≡ Some (get_or xs i d)
find-first p [] i d lt here before = absurd (omega arith)
find-first p (x ∷ xs) zero d lt here before = rw here
find-first p (x ∷ xs) (suc i) d lt here before =
    let first : p x ≡ false = before 0 (omega arith) in
    let rest = find-first p xs i d (omega arith) here (λ j h. before (suc j) (omega arith)) in
    rw first rest

-- where no element passes, none is found
find-none : {X : Type 0} (p : X → Bool) (xs : List X) → ((j : ℕ) (d : X) → j < length xs → p (get_or xs j d) ≡ false) → find p xs ≡ None
find-none p [] none = refl
find-none p (x ∷ xs) none =
    let first : p x ≡ false = none 0 x (omega arith) in
    rw first (find-none p xs (λ j d h. none (suc j) d (omega arith)))

-- paths that compare as equal are equal
equal_from_cmp : (path other : List ℕ) → slice_cmp nat_cmp path other ≡ Equal → path ≡ other
equal_from_cmp path other e = (bytes_eq-Decides path other).0 (sym (is_eq-slice_cmp path other) ∙ ap is_eq e)

-- paths that compare otherwise aren't
unequal_from_cmp : (path other : List ℕ) (o : Ordering) → slice_cmp nat_cmp path other ≡ o → is_eq o ≡ false → bytes_eq path other ≡ false
unequal_from_cmp path other o e n = sym (is_eq-slice_cmp path other) ∙ (ap is_eq e ∙ n)

index_at_most : (o : Ordering) → ordering_index o ≤ 2
index_at_most Less = omega arith
index_at_most Equal = omega arith
index_at_most Greater = omega arith

-- along files in order, the comparisons with one path rise
index_rises : (a b path : List ℕ) → IsPathBefore a b → ordering_index (slice_cmp nat_cmp a path) ≤ ordering_index (slice_cmp nat_cmp b path)
index_rises a b path before = by (slice_cmp nat_cmp b path) refl
  where
    by : (o : Ordering) → slice_cmp nat_cmp b path ≡ o → ordering_index (slice_cmp nat_cmp a path) ≤ ordering_index o
    by Less e = rw (nat_list_cmp_total.trans a b path before e) (omega arith)
    by Equal e = let less : slice_cmp nat_cmp a path ≡ Less = subst (λ (p : List ℕ). slice_cmp nat_cmp a p ≡ Less) (equal_from_cmp b path e) before in rw less (omega arith)
    by Greater e = index_at_most (slice_cmp nat_cmp a path)

order-rises : (files : List File) (path : List ℕ) → IsInOrder files → IsNonDecreasingBy (λ file. ordering_index (slice_cmp nat_cmp file.0 path)) files
order-rises files path order i j d le lt =
    elim (eq-or-lt_of_le le) [
      | inl same ↦ rw same (omega arith)
      | inr less ↦ index_rises (get_or files i d).0 (get_or files j d).0 path (order i j d less lt)
    ]

-- the file at a place where the comparison ties is the one with the path
pub content_of-at : (files now searched : List File) (path : List ℕ) (i : ℕ) (file : File) → files ≡ now → searched ≡ files → IsInOrder files → i < length searched → HoldsAt (λ f. slice_cmp nat_cmp f.0 path ≡ Equal) searched i → file ≡ get_or files i file → (Some file.1 ≡ content_of path now) × Contains now (path, file.1)
content_of-at files now searched path i file same_now same_searched order lt holds at =
    let in_range : i < length files = subst (λ (fs : List File). i < length fs) same_searched lt in
    let ties = subst (λ (fs : List File). HoldsAt (λ f. slice_cmp nat_cmp f.0 path ≡ Equal) fs i) same_searched holds in
    let same : file.0 ≡ path = equal_from_cmp file.0 path (subst (λ (f : File). slice_cmp nat_cmp f.0 path ≡ Equal) (sym at) (ties file)) in
    let first = find-first (λ (f : File). bytes_eq f.0 path) files i file in_range
    ((bytes_eq-Decides (get_or files i file).0 path).1 (subst (λ (f : File). f.0 ≡ path) at same))
    (λ j h. unequal_from_cmp (get_or files j file).0 path Less (subst (λ (p : List ℕ). slice_cmp nat_cmp (get_or files j file).0 p ≡ Less) same (subst (λ (f : File). slice_cmp nat_cmp (get_or files j file).0 f.0 ≡ Less) (sym at) (order j i file h in_range))) refl) in
    let content : content_of path files ≡ Some file.1 = ap (option_map (λ (f : File). f.1)) (first ∙ ap Some (sym at)) in
    (sym content ∙ ap (content_of path) same_now, rw (← same_now) (i, in_range, get_or_default files i (path, file.1) file in_range ∙ sym at ∙ ap (λ (p : List ℕ). (p, file.1)) same))

-- between what is less and what is greater no file has the path
pub content_of-none : (files now searched : List File) (path : List ℕ) (i : ℕ) → files ≡ now → searched ≡ files → IsInOrder files → (IsNonDecreasingBy (λ file. ordering_index (slice_cmp nat_cmp file.0 path)) searched → IsPartitionPoint (λ file. slice_cmp nat_cmp file.0 path ≡ Less) (λ file. slice_cmp nat_cmp file.0 path ≡ Greater) searched i) → (None ≡ content_of path now) × All (λ file. file.0 ≢ path) now
content_of-none files now searched path i same_now same_searched order searches = rw (← same_now) (
  sym (ap (option_map (λ (f : File). f.1)) (find-none (λ f. bytes_eq f.0 path) files (λ k d lt. unequal k d lt (ltb k i) refl))),
  λ k d lt same. true≢false (sym ((bytes_eq-Decides (get_or files k d).0 path).1 same) ∙ unequal k d lt (ltb k i) refl),
)
  where
    parts : IsPartitionPoint (λ (file : File). slice_cmp nat_cmp file.0 path ≡ Less) (λ file. slice_cmp nat_cmp file.0 path ≡ Greater) files i
    parts = subst (λ (fs : List File). IsPartitionPoint (λ (file : File). slice_cmp nat_cmp file.0 path ≡ Less) (λ file. slice_cmp nat_cmp file.0 path ≡ Greater) fs i) same_searched
        (searches (subst (λ (fs : List File). IsNonDecreasingBy (λ (file : File). ordering_index (slice_cmp nat_cmp file.0 path)) fs) (sym same_searched) (order-rises files path order)))

    unequal : (k : ℕ) (d : File) → k < length files → (low : Bool) → ltb k i ≡ low → bytes_eq (get_or files k d).0 path ≡ false
    unequal k d lt true e = unequal_from_cmp (get_or files k d).0 path Less (parts.0 k d (omega arith) (ltb-true k i e)) refl
    unequal k d lt false e = unequal_from_cmp (get_or files k d).0 path Greater (parts.1 k d (ltb-false k i e) lt) refl
