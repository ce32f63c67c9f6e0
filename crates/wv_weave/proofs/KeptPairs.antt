-- The classes that are kept, as the classes are gone over with what is overwritten in each.
use Rattle.std.proofs.Common.{◌≡◌, ◌↔◌, ℕ, Bool, true, false, true≢false, IsTrue, List, [], ◌∷◌, ◌++◌, length, map, Option, refl, ap, sym, ◌∙◌, subst, arith, map-id}
use Rattle.std.specs.List.{zip}
use Rattle.std.proofs.lemmas.List.{map-append, append-nil}
use Rattle.wv_classes.specs.declared.loaded_class.LoadedClass.{LoadedClass}
use Rattle.wv_config.specs.declared.loaded.Configs.{Configs}
use Rattle.wv_merge.specs.declared.overwriting.Overwriting.{Overwriting}
use Rattle.wv_weave.specs.declared.outgoing.Outgoing.{Outgoing}
use Rattle.wv_weave.specs.Outgoing.{AreKept, going_of, none, left, next}
use Rattle.wv_weave.specs.WrittenClasses.{IsMixinName, written_path}

abbrev pub classes_of : List (LoadedClass × Option Overwriting) → List LoadedClass
classes_of pairs = map (λ (pair : LoadedClass × Option Overwriting). pair.0) pairs

abbrev pub edits_of : List (LoadedClass × Option Overwriting) → List (Option Overwriting)
edits_of pairs = map (λ (pair : LoadedClass × Option Overwriting). pair.1) pairs

-- what is kept of the pairs
abbrev pub AreKeptOf : Configs → List (LoadedClass × Option Overwriting) → List Outgoing → Type 0
AreKeptOf configs pairs kept = AreKept configs (classes_of pairs) (edits_of pairs) kept

classes-zip : (classes : List LoadedClass) (edits : List (Option Overwriting)) → length classes ≡ length edits → classes_of (zip classes edits) ≡ classes
classes-zip [] edits same = refl
classes-zip (class ∷ classes) [] same = absurd (omega (arith, same))
classes-zip (class ∷ classes) (edit ∷ edits) same = ap (λ more. class ∷ more) (classes-zip classes edits (omega (arith, same)))

edits-zip : (classes : List LoadedClass) (edits : List (Option Overwriting)) → length classes ≡ length edits → edits_of (zip classes edits) ≡ edits
edits-zip [] [] same = refl
edits-zip [] (edit ∷ edits) same = absurd (omega (arith, same))
edits-zip (class ∷ classes) [] same = absurd (omega (arith, same))
edits-zip (class ∷ classes) (edit ∷ edits) same = ap (λ more. edit ∷ more) (edits-zip classes edits (omega (arith, same)))

module _ (configs : Configs) where
  kept-append : (classes more : List LoadedClass) (edits others : List (Option Overwriting)) (kept after : List Outgoing) → AreKept configs classes edits kept → AreKept configs more others after
      → AreKept configs (classes ++ more) (edits ++ others) (kept ++ after)
  kept-append [] more [] others [] after none g = g
  kept-append [] more [] others (one ∷ kept) after h g = elim h [ ]
  kept-append [] more (edit ∷ edits) others kept after h g = elim h [ ]
  kept-append (class ∷ classes) more [] others kept after h g = elim h [ ]
  kept-append (class ∷ classes) more (edit ∷ edits) others kept after (left listed h) g = left listed (kept-append classes more edits others kept after h g)
  kept-append (class ∷ classes) more (edit ∷ edits) others (one ∷ kept) after (next fresh h) g = next fresh (kept-append classes more edits others kept after h g)

  pair-more : (pairs : List (LoadedClass × Option Overwriting)) (class : LoadedClass) (edit : Option Overwriting) (kept after : List Outgoing) → AreKeptOf configs pairs kept
      → AreKept configs (class ∷ []) (edit ∷ []) after → AreKeptOf configs (pairs ++ (class, edit) ∷ []) (kept ++ after)
  pair-more pairs class edit kept after h one =
      subst (λ (classes : List LoadedClass). AreKept configs classes (edits_of (pairs ++ (class, edit) ∷ [])) (kept ++ after)) (sym (map-append (λ (pair : LoadedClass × Option Overwriting). pair.0) pairs ((class, edit) ∷ [])))
      (subst (λ (edits : List (Option Overwriting)). AreKept configs (classes_of pairs ++ class ∷ []) edits (kept ++ after)) (sym (map-append (λ (pair : LoadedClass × Option Overwriting). pair.1) pairs ((class, edit) ∷ [])))
      (kept-append (classes_of pairs) (class ∷ []) (edits_of pairs) (edit ∷ []) kept after h one))

  -- one more pair, whose class is a mixin
  pub pair-left : (pairs : List (LoadedClass × Option Overwriting)) (class : LoadedClass) (edit : Option Overwriting) (kept : List Outgoing) (listed : Bool) → listed ≡ true
      → IsTrue listed ↔ IsMixinName configs class.name → AreKeptOf configs pairs kept → AreKeptOf configs (pairs ++ (class, edit) ∷ []) kept
  pair-left pairs class edit kept listed has is h =
      subst (AreKeptOf configs (pairs ++ (class, edit) ∷ [])) (append-nil kept) (pair-more pairs class edit kept [] h (left (is.0 has) none))

  -- one more pair, whose class is none
  pub pair-kept : (pairs : List (LoadedClass × Option Overwriting)) (class : LoadedClass) (edit : Option Overwriting) (kept : List Outgoing) (path : List ℕ) (new : List Outgoing) (listed : Bool) → listed ≡ false
      → IsTrue listed ↔ IsMixinName configs class.name → path ≡ written_path class → new ≡ kept ++ record { path = path; class = class; overwriting = edit } ∷ []
      → AreKeptOf configs pairs kept → AreKeptOf configs (pairs ++ (class, edit) ∷ []) new
  pair-kept pairs class edit kept path new listed lacks is at pushed h =
      subst (AreKeptOf configs (pairs ++ (class, edit) ∷ [])) (sym (pushed ∙ ap (λ (p : List ℕ). kept ++ record { path = p; class = class; overwriting = edit } ∷ []) at))
      (pair-more pairs class edit kept (going_of class edit ∷ []) h (next (λ mixin. true≢false (sym (is.1 mixin) ∙ lacks)) none))

  -- all pairs
  pub pairs-all : (classes : List LoadedClass) (edits : List (Option Overwriting)) (pairs : List (LoadedClass × Option Overwriting)) (kept : List Outgoing) → length classes ≡ length edits
      → map (λ (pair : LoadedClass × Option Overwriting). (pair.0, pair.1)) pairs ≡ zip classes edits → AreKeptOf configs pairs kept → AreKept configs classes edits kept
  pairs-all classes edits pairs kept same all h =
      let is : pairs ≡ zip classes edits = sym (map-id pairs) ∙ all in
      subst (λ (cs : List LoadedClass). AreKept configs cs edits kept) (ap classes_of is ∙ classes-zip classes edits same)
      (subst (λ (es : List (Option Overwriting)). AreKept configs (classes_of pairs) es kept) (ap edits_of is ∙ edits-zip classes edits same) h)
