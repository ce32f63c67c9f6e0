-- Stops at texts that are no predicates.
use Rattle.std.proofs.Common.{◌≡◌, ℕ, ◌+◌, ◌<◌, List, [], ◌∷◌, ◌++◌, length, get_or, take, drop, flat_map, None, ap, sym, ◌∙◌, subst, append_assoc}
use Rattle.std.specs.List.{AllByRecursion}
use Rattle.std.proofs.lemmas.Grind.{flat_map-append}
use Rattle.std.proofs.lemmas.List.Concat.{flat_map-cons}
use Rattle.std.proofs.lemmas.List.{append-nil}
use Rattle.serde_json.specs.Data.{Data}
use Rattle.wv_version.specs.declared.predicate.Predicate.{Predicate}
use Rattle.wv_version.specs.Predicate.{IsPredicate}
use Rattle.wv_mod.specs.declared.fault.Flaw.TheVariants as flaw
use Rattle.wv_mod.specs.declared.fault.Stop.{Stop}
use Rattle.wv_mod.specs.declared.fault.Stop.TheVariants as stop
use Rattle.wv_mod.specs.declared.dependency.Requirement.{Requirement}
use Rattle.wv_mod.specs.declared.dependency.Dependency.{Dependency}
use Rattle.wv_mod.specs.declared.manifest.Manifest.{Manifest}
use Rattle.wv_mod.specs.Dependency.{IsRequirement, AreRequirements, AreDependencies, texts_of, SpellsPredicate}
use Rattle.wv_mod.specs.Manifest.{IsManifest}
use Rattle.wv_mod.specs.Id.{first_bad_id}
use Rattle.wv_mod.specs.Flaw.{IsFirstWithout, HasNoJars, IsStopAtPredicate, IsStop}
use Rattle.wv_mod.proofs.Relating.{relates-each, cut-at}

all-append : {A : Type 0} (Has : A → Type 0) (xs ys : List A) → AllByRecursion Has xs → AllByRecursion Has ys → AllByRecursion Has (xs ++ ys)
all-append Has [] ys h k = k
all-append Has (x ∷ xs) ys h k = (h.0, all-append Has xs ys h.1 k)

pub requirements-spell : (texts : List (List ℕ)) (requirements : List Requirement) → AreRequirements texts requirements → AllByRecursion SpellsPredicate texts
requirements-spell texts requirements h = relates-each IsRequirement SpellsPredicate (λ text requirement one. (requirement.predicate, one.1)) texts requirements h

pub dependencies-spell : (entries : List (List ℕ × List (List ℕ))) (dependencies : List Dependency) → AreDependencies entries dependencies → AllByRecursion SpellsPredicate (flat_map texts_of entries)
dependencies-spell [] dependencies h = tt
dependencies-spell (e ∷ entries) [] h = absurd h
dependencies-spell (e ∷ entries) (d ∷ dependencies) h =
    subst (AllByRecursion SpellsPredicate) (sym (flat_map-cons texts_of e entries)) (all-append SpellsPredicate e.1 (flat_map texts_of entries) (requirements-spell e.1 d.any_of h.0.1) (dependencies-spell entries dependencies h.1))

-- a text of the list that is no predicate, where those before it are
pub stop-at : (texts : List (List ℕ)) (i : ℕ) (requirements : List Requirement) (text copy : List ℕ) → i < length texts → text ≡ get_or texts i text → AreRequirements (take i texts) requirements → copy ≡ text → ((predicate : Predicate) → IsPredicate text predicate → ⊥) → IsFirstWithout SpellsPredicate texts copy
stop-at texts i requirements text copy inside at h same none = record {
  front = take i texts;
  after = drop (i + 1) texts;
  split = cut-at texts i text inside at ∙ ap (λ t. take i texts ++ t ∷ drop (i + 1) texts) (sym same);
  before = requirements-spell (take i texts) requirements h;
  lacks = λ s. none s.0 (subst (λ (t : List ℕ). IsPredicate t s.0) same s.1);
}

-- a stop within a part, where the part before it holds
pub stop-within : (before part after : List (List ℕ)) (s : Stop) → AllByRecursion SpellsPredicate before → IsStopAtPredicate part s → IsStopAtPredicate (before ++ part ++ after) s
stop-within before part after stop.Memory h k = tt
stop-within before part after (stop.Flaw flaw.Json) h k = absurd k
stop-within before part after (stop.Flaw (flaw.Key key)) h k = absurd k
stop-within before part after (stop.Flaw (flaw.Id text)) h k = absurd k
stop-within before part after (stop.Flaw flaw.Jars) h k = absurd k
stop-within before part after (stop.Flaw (flaw.Predicate text)) h k = record {
  front = before ++ k.front;
  after = k.after ++ after;
  split = ap (λ p. before ++ p ++ after) k.split ∙ regroup before k.front text k.after after;
  before = all-append SpellsPredicate before k.front h k.before;
  lacks = k.lacks;
}
  where
    regroup : (before front : List (List ℕ)) (text : List ℕ) (more after : List (List ℕ)) → before ++ (front ++ text ∷ more) ++ after ≡ (before ++ front) ++ text ∷ (more ++ after)
    regroup before front text more after = simp append_assoc

-- a stop at an entry, where the entries before it are read
pub stop-entry : (entries : List (List ℕ × List (List ℕ))) (i : ℕ) (dependencies : List Dependency) (entry : List ℕ × List (List ℕ)) (s : Stop) → i < length entries → entry ≡ get_or entries i entry → AreDependencies (take i entries) dependencies → IsStopAtPredicate entry.1 s → IsStopAtPredicate (flat_map texts_of entries) s
stop-entry entries i dependencies entry s inside at h k =
    let whole : flat_map texts_of entries ≡ flat_map texts_of (take i entries) ++ entry.1 ++ flat_map texts_of (drop (i + 1) entries) = ap (flat_map texts_of) (cut-at entries i entry inside at) ∙ flat_map-append texts_of (take i entries) (entry ∷ drop (i + 1) entries) ∙ ap (λ ts. flat_map texts_of (take i entries) ++ ts) (flat_map-cons texts_of entry (drop (i + 1) entries)) ∙ sym (append_assoc (flat_map texts_of (take i entries)) entry.1 (flat_map texts_of (drop (i + 1) entries))) in
    subst (λ (ts : List (List ℕ)). IsStopAtPredicate ts s) (sym whole) (stop-within (flat_map texts_of (take i entries)) entry.1 (flat_map texts_of (drop (i + 1) entries)) s (dependencies-spell (take i entries) dependencies h) k)

stop-whole : (value : Data) (manifest : Manifest) (s : Stop) → IsManifest value manifest → first_bad_id manifest ≡ None → HasNoJars value → IsStopAtPredicate (flat_map texts_of manifest.depends ++ flat_map texts_of manifest.breaks) s → IsStop value s
stop-whole value manifest stop.Memory keys ids jars k = tt
stop-whole value manifest (stop.Flaw flaw.Json) keys ids jars k = absurd k
stop-whole value manifest (stop.Flaw (flaw.Key key)) keys ids jars k = absurd k
stop-whole value manifest (stop.Flaw (flaw.Id text)) keys ids jars k = absurd k
stop-whole value manifest (stop.Flaw flaw.Jars) keys ids jars k = absurd k
stop-whole value manifest (stop.Flaw (flaw.Predicate text)) keys ids jars k = (manifest, keys, ids, jars, k)

-- a stop in `depends`
pub stop-depends : (value : Data) (manifest : Manifest) (s : Stop) → IsManifest value manifest → first_bad_id manifest ≡ None → HasNoJars value → IsStopAtPredicate (flat_map texts_of manifest.depends) s → IsStop value s
stop-depends value manifest s keys ids jars k = stop-whole value manifest s keys ids jars (stop-within [] (flat_map texts_of manifest.depends) (flat_map texts_of manifest.breaks) s tt k)

-- a stop in `breaks`, where `depends` is read
pub stop-breaks : (value : Data) (manifest : Manifest) (dependencies : List Dependency) (s : Stop) → IsManifest value manifest → first_bad_id manifest ≡ None → HasNoJars value → AreDependencies manifest.depends dependencies → IsStopAtPredicate (flat_map texts_of manifest.breaks) s → IsStop value s
stop-breaks value manifest dependencies s keys ids jars h k =
    let depends = flat_map texts_of manifest.depends in
    let breaks = flat_map texts_of manifest.breaks in
    stop-whole value manifest s keys ids jars (subst (λ (ts : List (List ℕ)). IsStopAtPredicate ts s) (append-nil (depends ++ breaks)) (stop-within depends breaks [] s (dependencies-spell manifest.depends dependencies h) k))
