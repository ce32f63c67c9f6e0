-- The place of the class that a mixin has as its target.
use Rattle.std.proofs.Common.{◌≡◌, ◌≢◌, ◌⊎◌, inl, inr, ℕ, ◌<◌, ◌≤◌, Bool, true, false, true≢false, List, length, get_or, map, AllPairs, Contains, Option, Some, None, bytes_eq, refl, ap, sym, ◌∙◌, subst, arith}
use Rattle.std.specs.List.{position, position_or_len, AllByRecursion}
use Rattle.std.proofs.lemmas.Grind.{common_steps}
use Rattle.std.proofs.lemmas.List.{get_or-map, get_or_default, length-map}
use Rattle.std.proofs.lemmas.List.Elements.{All-contains, All-from_recursion}
use Rattle.std.proofs.lemmas.List.Quantifiers.{position-Some}
use Rattle.std.proofs.lemmas.List.Sums.{fails_before_first}
use Rattle.std.proofs.lemmas.Slice.Eq.{bytes_eq-Decides}
use Rattle.wv_classes.specs.declared.loaded_class.LoadedClass.{LoadedClass}
use Rattle.wv_form.specs.FileForm.{HasTarget}
use Rattle.wv_front.specs.declared.order.AppliedMixin.{AppliedMixin}
use Rattle.wv_front.specs.Marked.{IsMarked}
use Rattle.wv_front.specs.MixinOrder.{StandsAt}
use Rattle.wv_front.specs.Places.{loaded_name}
use Rattle.wv_front.proofs.Grown.{stands-one}
use Rattle.wv_merge.specs.ThinClass.{IsReadThin}
use Rattle.wv_model.specs.PlainCode.{Game, Mixin}
use Rattle.wv_weave.specs.Formed.{AreFormed, HasThinTarget, IsThinLoaded}
use Rattle.wv_weave.specs.Merging.{HasPlace}
use Rattle.wv_merge.specs.Merging.{NoneMissing}
use Rattle.wv_weave.specs.Overwrites.{FindsAll, Joins}
use Rattle.wv_weave.proofs.OneTarget.{marked-mixin}
use Rattle.wv_weave.proofs.WovenMeaning.{one-loaded_name, one-target_name}

-- nothing passes where no place is found
none-passes : {A : Type 0} (p : A → Bool) (xs : List A) → position p xs ≡ None → (k : ℕ) (d : A) → k < length xs → p (get_or xs k d) ≡ false
none-passes p xs e k d inside =
    let past : length xs ≤ position_or_len p xs = grind (arith, common_steps) in
    fails_before_first p xs k d (omega arith)

module _ (classes : List LoadedClass) (formed : AreFormed classes) where
  -- the class of a mixin that has its mark is a thin mixin
  pub marked-thin : (mixin : AppliedMixin) (class : LoadedClass) → IsMarked classes mixin → StandsAt classes mixin.class_place class → IsReadThin Mixin class.class
  marked-thin mixin class marked stands = by (All-contains IsThinLoaded classes class (All-from_recursion IsThinLoaded classes formed.thin) (mixin.class_place, stands.0, stands.1)).thin
    where
      by : IsReadThin Game class.class ⊎ IsReadThin Mixin class.class → IsReadThin Mixin class.class
      by (inl game) = absurd (marked-mixin class.class game (marked class stands))
      by (inr thin) = thin

  pub thin-target : (mixin : AppliedMixin) (class : LoadedClass) → IsMarked classes mixin → StandsAt classes mixin.class_place class → HasThinTarget classes class
  thin-target mixin class marked stands = formed.targets class (mixin.class_place, stands.0, stands.1) (marked-thin mixin class marked stands)

  -- the place of the name is that of the class with the name
  pub target-there : (target : LoadedClass) → Contains classes target → position (bytes_eq target.name) (map loaded_name classes) ≡ None → ⊥
  target-there target (k, inside, at) none =
      let there : get_or (map loaded_name classes) k target.name ≡ target.name = get_or-map loaded_name classes k target target.name inside ∙ ap loaded_name at in
      let fails = none-passes (bytes_eq target.name) (map loaded_name classes) none k target.name (omega (arith, length-map classes loaded_name)) in
      true≢false (sym ((bytes_eq-Decides target.name (get_or (map loaded_name classes) k target.name)).1 (sym there)) ∙ fails)

  pub target-at : (target : LoadedClass) (place : ℕ) → Contains classes target → position (bytes_eq target.name) (map loaded_name classes) ≡ Some place → StandsAt classes place target
  target-at target place there some =
      let found = position-Some (bytes_eq target.name) (map loaded_name classes) place target.name some in
      let inside : place < length classes = let within = found.0 in omega (arith, length-map classes loaded_name) in
      let name : target.name ≡ (get_or classes place target).name = (bytes_eq-Decides target.name (get_or (map loaded_name classes) place target.name)).0 found.1 ∙ get_or-map loaded_name classes place target target.name inside in
      let same : get_or classes place target ≡ target = one-loaded_name classes formed.distinct (get_or classes place target) target (place, inside, get_or_default classes place (get_or classes place target) target inside) there (sym name) in
      (inside, same)

  -- a place that is found for the name of the target is one of a class
  pub target-inside : (mixin : AppliedMixin) (class : LoadedClass) (place : ℕ) → IsMarked classes mixin → StandsAt classes mixin.class_place class
      → ((name : List ℕ) → HasTarget class.class name → Some place ≡ position (bytes_eq name) (map loaded_name classes)) → place < length classes
  target-inside mixin class place marked stands told = by (thin-target mixin class marked stands)
    where
      by : HasThinTarget classes class → place < length classes
      by (target, there, game, names) = (target-at target place there (sym (told target.name names))).0

  -- all that joins the mixin is its class and that target
  pub joins-one : (mixin : AppliedMixin) (class target other second : LoadedClass) → Joins classes mixin class target → Joins classes mixin other second → (other ≡ class) × (second ≡ target)
  joins-one mixin class target other second joins joins' =
      let same : other ≡ class = stands-one classes mixin.class_place mixin.class_place other class refl joins'.class_is joins.class_is in
      let name : second.name ≡ target.name = one-target_name class.class second.name target.name (subst (λ (c : LoadedClass). HasTarget c.class second.name) same joins'.names) joins.names in
      (same, one-loaded_name classes formed.distinct second target joins'.among joins.among name)

  -- what is found at a place: the thin class that is the mixin's target
  pub record IsTargetAt (mixin : AppliedMixin) (class : LoadedClass) (place : ℕ) (target : LoadedClass) : Type 0 where
    pub stands : StandsAt classes place target
    pub game : IsReadThin Game target.class
    pub joins : Joins classes mixin class target

  pub class-stands : (mixin : AppliedMixin) (class : LoadedClass) → HasPlace classes mixin → class ≡ get_or classes mixin.class_place class → StandsAt classes mixin.class_place class
  class-stands mixin class placed at = (placed.1.0, sym at)

  pub found-target : (mixin : AppliedMixin) (class read : LoadedClass) (place : ℕ) → IsMarked classes mixin → StandsAt classes mixin.class_place class
      → ((name : List ℕ) → HasTarget class.class name → Some place ≡ position (bytes_eq name) (map loaded_name classes)) → read ≡ get_or classes place read → IsTargetAt mixin class place read
  found-target mixin class read place marked stands told at = by (thin-target mixin class marked stands)
    where
      by : HasThinTarget classes class → IsTargetAt mixin class place read
      by (target, there, game, names) =
          let at_target : StandsAt classes place target = target-at target place there (sym (told target.name names)) in
          let same : target ≡ read = stands-one classes place place target read refl at_target (at_target.0, sym at) in
          record {
            stands = (at_target.0, sym at);
            game = subst (λ (c : LoadedClass). IsReadThin Game c.class) same game;
            joins = record {
              class_is = stands;
              among = (place, at_target.0, sym at);
              names = subst (λ (c : LoadedClass). HasTarget class.class c.name) same names;
            };
          }

  pub target-found : (mixin : AppliedMixin) (class : LoadedClass) → IsMarked classes mixin → StandsAt classes mixin.class_place class
      → ((name : List ℕ) → HasTarget class.class name → None ≡ position (bytes_eq name) (map loaded_name classes)) → ⊥
  target-found mixin class marked stands told = by (thin-target mixin class marked stands)
    where
      by : HasThinTarget classes class → ⊥
      by (target, there, game, names) = target-there target there (sym (told target.name names))

  -- what holds of the class and the target holds of all that join the mixin
  pub finds-all : (mixin : AppliedMixin) (class target : LoadedClass) → Joins classes mixin class target → NoneMissing target.class class.class → FindsAll classes mixin
  finds-all mixin class target joins found = λ other second joins'.
      let one = joins-one mixin class target other second joins joins' in
      subst (λ (t : LoadedClass). NoneMissing t.class other.class) (sym one.1) (subst (λ (c : LoadedClass). NoneMissing target.class c.class) (sym one.0) found)
