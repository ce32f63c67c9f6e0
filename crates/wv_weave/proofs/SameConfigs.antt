-- What is asked of configurations is the same of two readings, which differ at most in how a refmap is kept.
use Rattle.std.proofs.Common.{◌≡◌, ℕ, zero, suc, ◌+◌, Bool, List, [], ◌∷◌, ◌++◌, get_or, map, filter, All, refl, ap, ap₂, sym, ◌∙◌, subst, arith, inl, inr}
use Rattle.std.specs.List.{AllByRecursion, AllZip}
use Rattle.std.specs.List.Sorted.{IsSortedBy, ties}
use Rattle.std.specs.Cmp.Lexicographic.{slice_cmp}
use Rattle.std.specs.Ordering.{nat_cmp, is_lt}
use Rattle.std.proofs.lemmas.Bool.{cases_Bool}
use Rattle.std.proofs.lemmas.List.{get_or-map, length-map, map-append}
use Rattle.std.proofs.lemmas.List.Sorted.{IsPermutation-map}
use Rattle.wv_base.specs.declared.broken.Broken.{Broken}
use Rattle.wv_base.specs.declared.side.Side.{Side}
use Rattle.wv_classes.specs.declared.folder_class.FolderClass.{FolderClass}
use Rattle.wv_classes.specs.declared.loaded_class.LoadedClass.{LoadedClass}
use Rattle.wv_config.specs.declared.config.Config.{Config}
use Rattle.wv_config.specs.declared.loaded.Configs.{Configs}
use Rattle.wv_config.specs.declared.loaded.LoadedConfig.{LoadedConfig}
use Rattle.wv_config.specs.declared.refmap.Refmap.{Refmap}
use Rattle.wv_config.specs.Loading.{IsSameAs, AreSame}
use Rattle.wv_front.specs.declared.order.AppliedMixin.{AppliedMixin}
use Rattle.wv_front.specs.Listed.{all_configs, path_of, HasListed, LacksListed, AreListed, IsFirstMissing}
use Rattle.wv_front.specs.MixinOrder.{StandsAt, IsNaming, IsApplied, AreApplied, AreOrdered, NamesClass, entries_on}
use Rattle.wv_front.proofs.FirstOnes.{each-all, all-each}
use Rattle.wv_front.proofs.OneMissing.{one-missing, listed-not_missing}
use Rattle.wv_front.proofs.OneOrder.{one-order}
use Rattle.wv_resolve.specs.Refusal.{IsFirst}
use Rattle.wv_resolve.specs.Resolution.{IsOrderedBy}
use Rattle.wv_resolve.proofs.Orders.{filter-here, filter-skip}

-- ---- Each with one refmap

abbrev with : Refmap → LoadedConfig → LoadedConfig
with refmap config = record config { refmap = refmap }

same-with : (refmap : Refmap) (xs ys : List LoadedConfig) → AllZip IsSameAs xs ys → map (with refmap) xs ≡ map (with refmap) ys
same-with refmap [] [] same = refl
same-with refmap [] (y ∷ ys) same = absurd same
same-with refmap (x ∷ xs) [] same = absurd same
same-with refmap (x ∷ xs) (y ∷ ys) same =
    let head : with refmap x ≡ with refmap y = λ i. record { path = same.0.path i; mod_place = same.0.mod_place i; place = same.0.place i; config = same.0.says i; refmap = refmap } in
    ap₂ (λ (z : LoadedConfig) (zs : List LoadedConfig). z ∷ zs) head (same-with refmap xs ys same.1)

-- ---- The first that is missing

-- the order of a list, by what the refmap doesn't change
abbrev below : LoadedConfig → LoadedConfig → Bool
below config other = is_lt (slice_cmp nat_cmp (path_of config) (path_of other))

sorted-with : (refmap : Refmap) (xs : List LoadedConfig) → IsSortedBy below xs → IsSortedBy below (map (with refmap) xs)
sorted-with refmap xs sorted k d from inside =
    let first : get_or (map (with refmap) xs) k d ≡ with refmap (get_or xs k d) = get_or-map (with refmap) xs k d d (omega (arith, length-map xs (with refmap))) in
    let second : get_or (map (with refmap) xs) (k + 1) d ≡ with refmap (get_or xs (k + 1) d) = get_or-map (with refmap) xs (k + 1) d d (omega (arith, length-map xs (with refmap))) in
    ap₂ below second first ∙ sorted k d from (omega (arith, length-map xs (with refmap)))

filter-with : (refmap : Refmap) (p : LoadedConfig → Bool) → ((x : LoadedConfig) → p (with refmap x) ≡ p x) → (xs : List LoadedConfig) → filter p (map (with refmap) xs) ≡ map (with refmap) (filter p xs)
filter-with refmap p alike [] = refl
filter-with refmap p alike (x ∷ xs) = elim (cases_Bool (p x)) [
  | inl yes_x ↦
      filter-here p (with refmap x) (map (with refmap) xs) (alike x ∙ yes_x) ∙ ap (λ zs. with refmap x ∷ zs) (filter-with refmap p alike xs)
      ∙ ap (map (with refmap)) (sym (filter-here p x xs yes_x))
  | inr no_x ↦ filter-skip p (with refmap x) (map (with refmap) xs) (alike x ∙ no_x) ∙ filter-with refmap p alike xs ∙ ap (map (with refmap)) (sym (filter-skip p x xs no_x))
]

order-with : (refmap : Refmap) (list sorted : List LoadedConfig) → IsOrderedBy path_of list sorted → IsOrderedBy path_of (map (with refmap) list) (map (with refmap) sorted)
order-with refmap list sorted order = record {
  same = IsPermutation-map (with refmap) list sorted order.same;
  ordered = sorted-with refmap sorted order.ordered;
  stable = λ z. filter-with refmap (ties below z) (λ x. refl) sorted ∙ ap (map (with refmap)) (order.stable z) ∙ sym (filter-with refmap (ties below z) (λ x. refl) list);
}

each-with : (refmap : Refmap) (classes : List FolderClass) (xs : List LoadedConfig) → AllByRecursion (HasListed classes) xs → AllByRecursion (HasListed classes) (map (with refmap) xs)
each-with refmap classes [] each = tt
each-with refmap classes (x ∷ xs) each = (each.0, each-with refmap classes xs each.1)

first-with : (refmap : Refmap) (classes : List FolderClass) (name : List ℕ) (list : List LoadedConfig) (x : LoadedConfig) → IsFirst (HasListed classes) (LacksListed classes name) list x → IsFirst (HasListed classes) (LacksListed classes name) (map (with refmap) list) (with refmap x)
first-with refmap classes name list x first = record {
  front = map (with refmap) first.front;
  after = map (with refmap) first.after;
  split = ap (map (with refmap)) first.split ∙ map-append (with refmap) first.front (x ∷ first.after);
  before = each-with refmap classes first.front first.before;
  here = first.here;
}

-- these are the configurations, each with that refmap
abbrev AreWith : Refmap → Configs → Configs → Type 0
AreWith refmap configs others = map (with refmap) (all_configs configs) ≡ all_configs others

missing-with : (refmap : Refmap) (configs others : Configs) (classes : List FolderClass) (broken : Broken) → AreWith refmap configs others → IsFirstMissing configs classes broken → IsFirstMissing others classes broken
missing-with refmap configs others classes broken are h = record {
  ordered = map (with refmap) h.ordered;
  by_path = subst (λ (list : List LoadedConfig). IsOrderedBy path_of list (map (with refmap) h.ordered)) are (order-with refmap (all_configs configs) h.ordered h.by_path);
  loaded = with refmap h.loaded;
  name = h.name;
  first = first-with refmap classes h.name h.ordered h.loaded h.first;
  is = h.is;
}

listed-with : (refmap : Refmap) (configs others : Configs) (classes : List FolderClass) → AreWith refmap configs others → AreListed configs classes → AreListed others classes
listed-with refmap configs others classes are listed =
    subst (All (HasListed classes)) are
    (each-all (HasListed classes) (map (with refmap) (all_configs configs)) (each-with refmap classes (all_configs configs) (all-each (HasListed classes) (all_configs configs) listed)))

abbrev all_with : Refmap → Configs → Configs
all_with refmap configs = record {
  used = record configs.used {
    items = map (with refmap) configs.used.items;
    ok = (configs.used.ok.0 ∙ sym (length-map configs.used.items (with refmap)), configs.used.ok.1);
  };
  others = record configs.others {
    items = map (with refmap) configs.others.items;
    ok = (configs.others.ok.0 ∙ sym (length-map configs.others.items (with refmap)), configs.others.ok.1);
  };
}

are-with : (refmap : Refmap) (configs : Configs) → AreWith refmap configs (all_with refmap configs)
are-with refmap configs = map-append (with refmap) configs.used.items configs.others.items

same-are_with : (refmap : Refmap) (configs others : Configs) → AreSame configs others → AreWith refmap others (all_with refmap configs)
same-are_with refmap configs others same =
    map-append (with refmap) others.used.items others.others.items
    ∙ sym (ap₂ (λ (xs ys : List LoadedConfig). xs ++ ys) (same-with refmap configs.used.items others.used.items same.used) (same-with refmap configs.others.items others.others.items same.others))

pub same-missing : (configs others : Configs) (classes : List FolderClass) (broken other : Broken) → AreSame configs others → IsFirstMissing configs classes broken → IsFirstMissing others classes other → broken ≡ other
same-missing configs others classes broken other same h k =
    let refmap : Refmap = h.loaded.refmap in
    let all : Configs = all_with refmap configs in
    one-missing all classes broken other (missing-with refmap configs all classes broken (are-with refmap configs) h)
    (missing-with refmap others all classes other (same-are_with refmap configs others same) k)

pub same-listed : (configs others : Configs) (classes : List FolderClass) (broken : Broken) → AreSame configs others → AreListed configs classes → IsFirstMissing others classes broken → ⊥
same-listed configs others classes broken same listed h =
    let refmap : Refmap = h.loaded.refmap in
    let all : Configs = all_with refmap configs in
    listed-not_missing all classes broken (listed-with refmap configs all classes (are-with refmap configs) listed)
    (missing-with refmap others all classes broken (same-are_with refmap configs others same) h)

-- ---- The mixins in their order

zip-at : (xs ys : List LoadedConfig) → AllZip IsSameAs xs ys → (k : ℕ) (x : LoadedConfig) → StandsAt xs k x → (y : LoadedConfig) × StandsAt ys k y × (x.config ≡ y.config)
zip-at [] [] same k x (inside, at) = absurd (omega arith)
zip-at [] (y ∷ ys) same k x at = absurd same
zip-at (x ∷ xs) [] same k z at = absurd same
zip-at (x ∷ xs) (y ∷ ys) same zero z (inside, at) = (y, (omega arith, refl), ap (λ (config : LoadedConfig). config.config) (sym at) ∙ same.0.says)
zip-at (x ∷ xs) (y ∷ ys) same (suc k) z (inside, at) =
    let (found, (within, there), says) = zip-at xs ys same.1 k z (omega arith, at) in
    (found, (omega arith, there), says)

same-turned : (xs ys : List LoadedConfig) → AllZip IsSameAs xs ys → AllZip IsSameAs ys xs
same-turned [] [] same = tt
same-turned [] (y ∷ ys) same = absurd same
same-turned (x ∷ xs) [] same = absurd same
same-turned (x ∷ xs) (y ∷ ys) same = (
  record {
    path = sym same.0.path;
    mod_place = sym same.0.mod_place;
    place = sym same.0.place;
    says = sym same.0.says;
    refmap = λ class reference. sym (same.0.refmap class reference);
  },
  same-turned xs ys same.1,
)

module _ (classes : List LoadedClass) (side : Side) where
  same-naming : (xs ys : List LoadedConfig) → AllZip IsSameAs xs ys → (mixin : AppliedMixin) → IsNaming xs classes side mixin → IsNaming ys classes side mixin
  same-naming xs ys same mixin h =
      let (found, at, says) = zip-at xs ys same mixin.config_place h.loaded h.by_config in
      record {
        loaded = found;
        by_config = at;
        entry = h.entry;
        by_entry = subst (λ (config : Config). StandsAt (entries_on side config) mixin.entry_place h.entry) says h.by_entry;
        names = subst (λ (config : Config). NamesClass classes config h.entry mixin) says h.names;
      }

  same-applied : (xs ys : List LoadedConfig) → AllZip IsSameAs xs ys → (mixin : AppliedMixin) → IsApplied xs classes side mixin → IsApplied ys classes side mixin
  same-applied xs ys same mixin h = record {
    named = same-naming xs ys same mixin h.named;
    least = λ other named. h.least other (same-naming ys xs (same-turned xs ys same) other named);
  }

  pub same-mixins : (xs ys : List LoadedConfig) (mixins others : List AppliedMixin) → AllZip IsSameAs xs ys → AreApplied xs classes side mixins → AreOrdered mixins → AreApplied ys classes side others → AreOrdered others → mixins ≡ others
  same-mixins xs ys mixins others same applied ordered applied' ordered' =
      one-order ys classes side mixins others
      (λ mixin. (λ found. same-applied xs ys same mixin ((applied mixin).0 found), λ is. (applied mixin).1 (same-applied ys xs (same-turned xs ys same) mixin is)))
      ordered applied' ordered'
