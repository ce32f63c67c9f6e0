-- The classes that are written: which of the classes they are, and that sorted they stand in strict order.
use Rattle.std.proofs.Common.{◌≡◌, ◌≢◌, ◌↔◌, ◌⊎◌, inl, inr, ℕ, suc, ◌<◌, Bool, true, false, true≢false, List, [], ◌∷◌, ◌++◌, length, get_or, map, All, AllPairs, Contains, Option, Some, None, codes, refl, ap, sym, ◌∙◌, subst, arith, IsPermutation}
use Rattle.std.specs.List.{AllByRecursion, AllZip}
use Rattle.std.specs.Cmp.{IsStrictWeakOrder}
use Rattle.std.specs.Cmp.Lexicographic.{slice_cmp}
use Rattle.std.specs.declared.cmp.Ordering.{Ordering}
use Rattle.std.specs.declared.cmp.Ordering.TheVariants.{Less, Equal, Greater}
use Rattle.std.specs.Ordering.{nat_cmp, is_eq, is_lt, ordering_reverse}
use Rattle.std.proofs.lemmas.Cmp.{nat_list_cmp_total, eq_by_cmp_equiv}
use Rattle.std.proofs.lemmas.List.{append_cancel_right}
use Rattle.std.proofs.lemmas.List.Elements.{All-cons, All-nil, All-contains, All-from_recursion, recursion_from_All}
use Rattle.std.proofs.lemmas.List.Kept.{AllPairs-cons}
use Rattle.std.proofs.lemmas.List.Sorted.{All-permutation, Contains-permutation, IsPermutation-sym, ranks_by, sorted_far}
use Rattle.std.proofs.lemmas.Map.Keys.{IsDistinct-IsPermutation, IsDistinct-from_apart, apart_from_distinct}
use Rattle.std.proofs.lemmas.Map.Text.{is_eq-slice_cmp}
use Rattle.std.proofs.lemmas.Slice.Eq.{bytes_eq-Decides}
use Rattle.wv_base.specs.Folder.{IsPathBefore}
use Rattle.wv_classes.specs.declared.loaded_class.LoadedClass.{LoadedClass}
use Rattle.wv_config.specs.declared.loaded.Configs.{Configs}
use Rattle.wv_front.specs.declared.order.AppliedMixin.{AppliedMixin}
use Rattle.wv_merge.specs.declared.overwriting.Overwriting.{Overwriting}
use Rattle.wv_resolve.specs.Resolution.{IsOrderedBy}
use Rattle.wv_resolve.proofs.OneMods.{contains-cases, contains-head, contains-later}
use Rattle.wv_weave.specs.declared.outgoing.Outgoing.{Outgoing}
use Rattle.wv_weave.specs.Merging.{IsEditOf}
use Rattle.wv_weave.specs.Outgoing.{AreKept, going_of, path_of, none, left, next}
use Rattle.wv_weave.specs.WrittenClasses.{AreWrittenClasses, IsMixinName, written_path}

abbrev pub class_of_going : Outgoing → LoadedClass
class_of_going outgoing = outgoing.class

-- ---- What is kept

module _ (configs : Configs) (loaded : List LoadedClass) (mixins : List AppliedMixin) where
  -- what is known of each class that is kept
  pub record IsGoing (outgoing : Outgoing) : Type 0 where
    pub path : outgoing.path ≡ written_path outgoing.class
    pub among : Contains loaded outgoing.class
    pub no_mixin : IsMixinName configs outgoing.class.name → ⊥
    pub edit : IsEditOf loaded mixins outgoing.class outgoing.overwriting

  pub kept-each : (classes : List LoadedClass) (edits : List (Option Overwriting)) (kept : List Outgoing)
      → ((class : LoadedClass) → Contains classes class → Contains loaded class)
      → AllZip (IsEditOf loaded mixins) classes edits → AreKept configs classes edits kept → AllByRecursion IsGoing kept
  kept-each [] [] [] within edits none = tt
  kept-each [] [] (one_kept ∷ kept) within edits h = elim h [ ]
  kept-each [] (edit ∷ more) kept within edits h = elim edits [ ]
  kept-each (class ∷ classes) [] kept within edits h = elim edits [ ]
  kept-each (class ∷ classes) (edit ∷ edits) kept within (one, more) (left listed h) =
      kept-each classes edits kept (λ c there. within c (contains-later class classes c there)) more h
  kept-each (class ∷ classes) (edit ∷ edits) (one_kept ∷ kept) within (one, more) (next fresh h) = (
    record { path = refl; among = within class (contains-head class classes); no_mixin = fresh; edit = one },
    kept-each classes edits kept (λ c there. within c (contains-later class classes c there)) more h,
  )

module _ (configs : Configs) where
  -- each class that is no mixin is kept
  pub kept-all : (classes : List LoadedClass) (edits : List (Option Overwriting)) (kept : List Outgoing) → AreKept configs classes edits kept
      → (class : LoadedClass) → Contains classes class → (IsMixinName configs class.name → ⊥) → Contains (map class_of_going kept) class
  kept-all [] [] [] none class (k, inside, at) fresh = absurd (omega arith)
  kept-all [] [] (o ∷ kept) h class there fresh = elim h [ ]
  kept-all [] (edit ∷ edits) kept h class there fresh = elim h [ ]
  kept-all (c ∷ classes) [] kept h class there fresh = elim h [ ]
  kept-all (c ∷ classes) (edit ∷ edits) kept (left listed h) class there fresh = elim (contains-cases c classes class there) [
    | inl same ↦ absurd (fresh (subst (λ (x : LoadedClass). IsMixinName configs x.name) same listed))
    | inr later ↦ kept-all classes edits kept h class later fresh
  ]
  kept-all (c ∷ classes) (edit ∷ edits) (o ∷ kept) (next unlisted h) class there fresh = elim (contains-cases c classes class there) [
    | inl same ↦ subst (Contains (c ∷ map class_of_going kept)) same (contains-head c (map class_of_going kept))
    | inr later ↦ contains-later c (map class_of_going kept) class (kept-all classes edits kept h class later fresh)
  ]

  -- a class of what is kept is one of the classes
  kept-of : (classes : List LoadedClass) (edits : List (Option Overwriting)) (kept : List Outgoing) → AreKept configs classes edits kept
      → (P : LoadedClass → Type 0) → AllByRecursion P classes → AllByRecursion (λ (o : Outgoing). P o.class × (o.path ≡ written_path o.class)) kept
  kept-of [] [] [] none P h = tt
  kept-of [] [] (o ∷ kept) k P h = elim k [ ]
  kept-of [] (edit ∷ edits) kept k P h = elim k [ ]
  kept-of (c ∷ classes) [] kept k P h = elim k [ ]
  kept-of (c ∷ classes) (edit ∷ edits) kept (left listed k) P (one, more) = kept-of classes edits kept k P more
  kept-of (c ∷ classes) (edit ∷ edits) (o ∷ kept) (next unlisted k) P (one, more) = ((one, refl), kept-of classes edits kept k P more)

  -- two paths are apart where the names are
  paths-apart : (c d : LoadedClass) → c.name ≢ d.name → written_path c ≢ written_path d
  paths-apart c d apart same = apart (append_cancel_right c.name d.name (codes ".class") same)

  -- the paths of what is kept are apart
  pub kept-apart : (classes : List LoadedClass) (edits : List (Option Overwriting)) (kept : List Outgoing) → AreKept configs classes edits kept
      → AllPairs (λ (c later : LoadedClass). c.name ≢ later.name) classes → AllPairs (λ (o later : Outgoing). o.path ≢ later.path) kept
  kept-apart [] [] [] none pairs = λ i j d below inside. absurd (omega arith)
  kept-apart [] [] (o ∷ kept) h pairs = elim h [ ]
  kept-apart [] (edit ∷ edits) kept h pairs = elim h [ ]
  kept-apart (c ∷ classes) [] kept h pairs = elim h [ ]
  kept-apart (c ∷ classes) (edit ∷ edits) kept (left listed h) pairs =
      kept-apart classes edits kept h (λ i j d below inside. pairs (suc i) (suc j) d (omega arith) (omega arith))
  kept-apart (c ∷ classes) (edit ∷ edits) (o ∷ kept) (next unlisted h) pairs =
      AllPairs-cons (λ (a b : Outgoing). a.path ≢ b.path) (going_of c edit) kept
      (All-from_recursion (λ (b : Outgoing). written_path c ≢ b.path) kept (each kept (kept-of classes edits kept h (λ (d : LoadedClass). c.name ≢ d.name) apart)))
      (kept-apart classes edits kept h (λ i j d below inside. pairs (suc i) (suc j) d (omega arith) (omega arith)))
    where
      apart : AllByRecursion (λ (d : LoadedClass). c.name ≢ d.name) classes
      apart = recursion_from_All (λ (d : LoadedClass). c.name ≢ d.name) classes (λ j d inside. pairs 0 (suc j) d (omega arith) (omega arith))

      each : (os : List Outgoing) → AllByRecursion (λ (b : Outgoing). (c.name ≢ b.class.name) × (b.path ≡ written_path b.class)) os → AllByRecursion (λ (b : Outgoing). written_path c ≢ b.path) os
      each [] h = tt
      each (b ∷ os) ((other, at), more) = (λ same. paths-apart c b.class other (same ∙ at), each os more)

-- ---- Sorted

is-not_before : (o : Ordering) → is_lt o ≡ false → o ≡ Less → ⊥
is-not_before o e less = true≢false (sym (ap is_lt less) ∙ e)

abbrev same-path : Outgoing → Outgoing → Bool
same-path a b = is_eq (slice_cmp nat_cmp a.path b.path)

abbrev lt : Outgoing → Outgoing → Bool
lt a b = is_lt (slice_cmp nat_cmp a.path b.path)

weak : IsStrictWeakOrder lt
weak = ranks_by nat_list_cmp_total (λ (o : Outgoing). o.path)

-- one is before the other where it isn't behind it, and the paths are apart
strictly : (a b : List ℕ) → is_eq (slice_cmp nat_cmp a b) ≡ false → is_lt (slice_cmp nat_cmp b a) ≡ false → (o : Ordering) → slice_cmp nat_cmp a b ≡ o → IsPathBefore a b
strictly a b apart not_before Less e = e
strictly a b apart not_before Equal e = absurd (true≢false (sym (ap is_eq e) ∙ apart))
strictly a b apart not_before Greater e = absurd (is-not_before (slice_cmp nat_cmp b a) not_before (nat_list_cmp_total.antisymm b a ∙ ap ordering_reverse e))

apart-not_eq : (a b : List ℕ) → a ≢ b → (t : Bool) → is_eq (slice_cmp nat_cmp a b) ≡ t → is_eq (slice_cmp nat_cmp a b) ≡ false
apart-not_eq a b apart false e = e
apart-not_eq a b apart true e = absurd (apart ((bytes_eq-Decides a b).0 (sym (is_eq-slice_cmp a b) ∙ e)))

pub sorted-strictly : (kept outgoing : List Outgoing) → IsOrderedBy path_of kept outgoing → AllPairs (λ (o later : Outgoing). o.path ≢ later.path) kept
    → AllPairs (λ (o later : Outgoing). IsPathBefore o.path later.path) outgoing
sorted-strictly kept outgoing h apart = λ i j d below inside.
    strictly (get_or outgoing i d).path (get_or outgoing j d).path (distinct i j d below inside)
    (sorted_far lt weak outgoing h.ordered i j d (omega arith) inside) (slice_cmp nat_cmp (get_or outgoing i d).path (get_or outgoing j d).path) refl
  where
    distinct : (i j : ℕ) (d : Outgoing) → i < j → j < length outgoing → same-path (get_or outgoing i d) (get_or outgoing j d) ≡ false
    distinct i j d below inside = apart_from_distinct same-path outgoing i j d
        (IsDistinct-IsPermutation same-path (λ x y. (eq_by_cmp_equiv nat_list_cmp_total).symm x.path y.path) kept outgoing h.same
        (IsDistinct-from_apart same-path kept (λ i j d below inside. apart-not_eq (get_or kept i d).path (get_or kept j d).path (apart i j d below inside) (same-path (get_or kept i d) (get_or kept j d)) refl))) below inside
