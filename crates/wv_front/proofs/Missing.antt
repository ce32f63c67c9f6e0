-- The first of the listed classes that is missing.
use Rattle.std.proofs.Common.{◌≡◌, ℕ, ◌+◌, ◌<◌, ◌≤◌, Bool, true, false, List, [], ◌∷◌, ◌++◌, length, get_or, take, drop, filter, Contains, Option, Some, None, Result, Ok, Err, IfOk, OnOk, codes, refl, ap, sym, ◌∙◌, subst, arith, true≢false, append_assoc, inl, inr}
use Rattle.std.specs.Borrow.{Bor}
use Rattle.std.specs.Cmp.Lexicographic.{slice_cmp}
use Rattle.std.specs.List.{AllByRecursion}
use Rattle.std.specs.List.Sorted.{ties}
use Rattle.std.specs.Option.{is_some}
use Rattle.std.specs.Ordering.{nat_cmp, is_lt}
use Rattle.std.proofs.lemmas.Bool.{cases_Bool}
use Rattle.std.proofs.lemmas.List.{map-append, take_all, get_or-map, length-map}
use Rattle.std.proofs.lemmas.List.Sorted.{IsPermutation-map}
use Rattle.wv_base.specs.declared.broken.Broken.{Broken}
use Rattle.wv_base.specs.declared.rule.Rule.TheVariants.{MixinMissing}
use Rattle.wv_config.specs.declared.config.Config.{Config}
use Rattle.wv_config.specs.declared.loaded.LoadedConfig.{LoadedConfig}
use Rattle.wv_config.specs.Slashes.{class_of}
use Rattle.wv_mod.proofs.Relating.{cut-at}
use Rattle.wv_resolve.specs.Refusal.{broken_at}
use Rattle.wv_resolve.specs.Resolution.{IsOrderedBy}
use Rattle.wv_resolve.proofs.Lists.{front-more, each-append}
use Rattle.wv_front.specs.Listed.{class_names}
use Rattle.wv_front.specs.Listing.{LacksFirst, HaveListed, AreMissing, values, listed_by}

-- ---- Order of what is referred to

lent : {X : Type 0} → X → Bor X
lent x = record { ref_ptr = (0, 0); now = x }

filter-values : {X : Type 0} (p : X → Bool) (rs : List (Bor X)) → filter p (values rs) ≡ values (filter (λ r. p r.now) rs)
filter-values p [] = refl
filter-values p (r ∷ rs) = elim (cases_Bool (p r.now)) [
  | inl e ↦ rw e (ap (λ xs. r.now ∷ xs) (filter-values p rs))
  | inr e ↦ rw e (filter-values p rs)
]

pub ordered-values : {X : Type 0} (key : X → List ℕ) (xs ys : List (Bor X)) → IsOrderedBy (λ r. key r.now) xs ys → IsOrderedBy key (values xs) (values ys)
unfolding lent
ordered-values {X} key xs ys h = record {
  same = IsPermutation-map (λ (r : Bor X). r.now) xs ys h.same;
  ordered = λ k d low inside.
      let second : k + 1 < length ys = omega (arith, length-map ys (λ (r : Bor X). r.now)) in
      let first : k < length ys = omega arith in
      subst (λ (b : X). is_lt (slice_cmp nat_cmp (key b) (key (get_or (values ys) k d))) ≡ false) (sym (get_or-map (λ (r : Bor X). r.now) ys (k + 1) (lent d) d second))
      (subst (λ (a : X). is_lt (slice_cmp nat_cmp (key (get_or ys (k + 1) (lent d)).now) (key a)) ≡ false) (sym (get_or-map (λ (r : Bor X). r.now) ys k (lent d) d first))
      (h.ordered k (lent d) low second));
  stable = λ x. filter-values (ties lt x) ys ∙ ap values (h.stable (lent x)) ∙ sym (filter-values (ties lt x) xs);
}
  where
    lt : X → X → Bool
    lt a b = is_lt (slice_cmp nat_cmp (key a) (key b))

pub ordered-all : {X E : Type 0} (key : X → List ℕ) (xs ys : List (Bor X)) (r : Result (Unit {0}) E) → OnOk r (IsOrderedBy (λ reference. key reference.now) xs ys) → OnOk r (IsOrderedBy key (values xs) (values ys))
ordered-all key xs ys (Err e) h = tt
ordered-all key xs ys (Ok x) h = ordered-values key xs ys h

-- ---- Within one configuration

-- the classes of the front with one more
listed-more : (config : Config) (entries : List (List ℕ)) (i : ℕ) (entry : List ℕ) → i < length entries → entry ≡ get_or entries i entry → listed_by config (take (i + 1) entries) ≡ listed_by config (take i entries) ++ class_of config.«package» entry ∷ []
listed-more config entries i entry inside at = ap (listed_by config) (front-more entries i entry inside at) ∙ map-append (class_of config.«package») (take i entries) (entry ∷ [])

pub one-more : (names : List (List ℕ)) (config : Config) (entries : List (List ℕ)) (i : ℕ) (entry : List ℕ) → i < length entries → entry ≡ get_or entries i entry → AllByRecursion (Contains names) (listed_by config (take i entries)) → Contains names (class_of config.«package» entry) → AllByRecursion (Contains names) (listed_by config (take (i + 1) entries))
one-more names config entries i entry inside at h one =
    subst (AllByRecursion (Contains names)) (sym (listed-more config entries i entry inside at)) (each-append (Contains names) (listed_by config (take i entries)) (class_of config.«package» entry ∷ []) h (one, tt))

pub missing-here : (names : List (List ℕ)) (config : Config) (entries : List (List ℕ)) (i : ℕ) (entry : List ℕ) → i < length entries → entry ≡ get_or entries i entry → AllByRecursion (Contains names) (listed_by config (take i entries)) → (Contains names (class_of config.«package» entry) → ⊥) → LacksFirst names (listed_by config entries) (Some (class_of config.«package» entry))
missing-here names config entries i entry inside at h lacks = record {
  front = listed_by config (take i entries);
  after = listed_by config (drop (i + 1) entries);
  split = ap (listed_by config) (cut-at entries i entry inside at) ∙ map-append (class_of config.«package») (take i entries) (entry ∷ drop (i + 1) entries);
  before = h;
  here = lacks;
}

pub none-missing : (names : List (List ℕ)) (config : Config) (entries : List (List ℕ)) (i : ℕ) → length entries ≤ i → AllByRecursion (Contains names) (listed_by config (take i entries)) → LacksFirst names (listed_by config entries) None
none-missing names config entries i past h = subst (λ (es : List (List ℕ)). AllByRecursion (Contains names) (listed_by config es)) (take_all i entries past) h

lacks-front : (names xs ys : List (List ℕ)) (o : Option (List ℕ)) → is_some o ≡ true → LacksFirst names xs o → LacksFirst names (xs ++ ys) o
lacks-front names xs ys None some h = absurd (true≢false (sym some))
lacks-front names xs ys (Some x) some h = record {
  front = h.front;
  after = h.after ++ ys;
  split = ap (λ zs. zs ++ ys) h.split ∙ append_assoc h.front (x ∷ h.after) ys;
  before = h.before;
  here = h.here;
}

lacks-behind : (names xs ys : List (List ℕ)) (o p : Option (List ℕ)) → is_some o ≡ false → LacksFirst names xs o → LacksFirst names ys p → LacksFirst names (xs ++ ys) p
lacks-behind names xs ys (Some x) p none h k = absurd (true≢false none)
lacks-behind names xs ys None None none h k = each-append (Contains names) xs ys h k
lacks-behind names xs ys None (Some y) none h k = record {
  front = xs ++ k.front;
  after = k.after;
  split = ap (λ zs. xs ++ zs) k.split ∙ sym (append_assoc xs k.front (y ∷ k.after));
  before = each-append (Contains names) xs k.front h k.before;
  here = k.here;
}

-- the classes of a configuration are those of its three lists
three : (config : Config) → class_names config ≡ (listed_by config config.mixins ++ listed_by config config.client) ++ listed_by config config.server
three config = map-append (class_of config.«package») (config.mixins ++ config.client) config.server ∙ ap (λ xs. xs ++ listed_by config config.server) (map-append (class_of config.«package») config.mixins config.client)

pub of-mixins : (names : List (List ℕ)) (config : Config) (o : Option (List ℕ)) → is_some o ≡ true → LacksFirst names (listed_by config config.mixins) o → LacksFirst names (class_names config) o
of-mixins names config o some h =
    subst (λ xs. LacksFirst names xs o) (sym (three config))
    (lacks-front names (listed_by config config.mixins ++ listed_by config config.client) (listed_by config config.server) o some
    (lacks-front names (listed_by config config.mixins) (listed_by config config.client) o some h))

pub of-client : (names : List (List ℕ)) (config : Config) (o p : Option (List ℕ)) → is_some o ≡ false → is_some p ≡ true → LacksFirst names (listed_by config config.mixins) o → LacksFirst names (listed_by config config.client) p → LacksFirst names (class_names config) p
of-client names config o p none some h k =
    subst (λ xs. LacksFirst names xs p) (sym (three config))
    (lacks-front names (listed_by config config.mixins ++ listed_by config config.client) (listed_by config config.server) p some
    (lacks-behind names (listed_by config config.mixins) (listed_by config config.client) o p none h k))

pub of-server : {E : Type 0} (names : List (List ℕ)) (config : Config) (o p : Option (List ℕ)) (r : Result (Option (List ℕ)) E) → is_some o ≡ false → is_some p ≡ false → LacksFirst names (listed_by config config.mixins) o → LacksFirst names (listed_by config config.client) p → IfOk r (LacksFirst names (listed_by config config.server)) → IfOk r (LacksFirst names (class_names config))
of-server names config o p (Err e) none none' h k l = tt
of-server names config o p (Ok q) none none' h k l =
    subst (λ xs. LacksFirst names xs q) (sym (three config))
    (lacks-behind names (listed_by config config.mixins ++ listed_by config config.client) (listed_by config config.server) p q none'
    (lacks-behind names (listed_by config config.mixins) (listed_by config config.client) o p none h k) l)

-- ---- Configurations in turn

-- the configuration lists classes of these names alone
Lists : List (List ℕ) → LoadedConfig → Type 0
Lists names loaded = AllByRecursion (Contains names) (class_names loaded.config)

pub configs-more : (names : List (List ℕ)) (configs : List (Bor LoadedConfig)) (i : ℕ) (loaded : Bor LoadedConfig) → i < length configs → loaded ≡ get_or configs i loaded → HaveListed names (values (take i configs)) → LacksFirst names (class_names loaded.now.config) None → HaveListed names (values (take (i + 1) configs))
unfolding Lists
configs-more names configs i loaded inside at h one =
    subst (AllByRecursion (Lists names)) (sym (ap values (front-more configs i loaded inside at) ∙ map-append (λ (r : Bor LoadedConfig). r.now) (take i configs) (loaded ∷ [])))
    (each-append (Lists names) (values (take i configs)) (loaded.now ∷ []) h (one, tt))

pub configs-missing : (names : List (List ℕ)) (configs : List (Bor LoadedConfig)) (i : ℕ) (loaded : Bor LoadedConfig) (name : List ℕ) (broken : Broken) → i < length configs → loaded ≡ get_or configs i loaded → HaveListed names (values (take i configs)) → LacksFirst names (class_names loaded.now.config) (Some name) → broken ≡ broken_at MixinMissing loaded.now.path (codes "-") name → AreMissing names (values configs) broken
configs-missing names configs i loaded name broken inside at h lacks is = (
  loaded.now,
  name,
  record {
    front = values (take i configs);
    after = values (drop (i + 1) configs);
    split = ap values (cut-at configs i loaded inside at) ∙ map-append (λ (r : Bor LoadedConfig). r.now) (take i configs) (loaded ∷ drop (i + 1) configs);
    before = h;
    here = lacks;
  },
  is,
)

pub configs-all : (names : List (List ℕ)) (configs : List (Bor LoadedConfig)) (i : ℕ) → length configs ≤ i → HaveListed names (values (take i configs)) → HaveListed names (values configs)
configs-all names configs i past h = subst (λ (rs : List (Bor LoadedConfig)). HaveListed names (values rs)) (take_all i configs past) h
