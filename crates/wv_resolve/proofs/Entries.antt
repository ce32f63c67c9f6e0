-- Entries of mods, looked at in turn.
use Rattle.std.proofs.Common.{◌≡◌, ℕ, ◌+◌, ◌<◌, ◌≤◌, Bool, true, false, MatchBool, Result, Ok, Err, IfOk, List, ◌∷◌, ◌++◌, length, get_or, take, drop, map, ap, sym, ◌∙◌, subst, append_assoc}
use Rattle.std.proofs.lemmas.Bool.{MatchBool-at_true, MatchBool-at_false}
use Rattle.std.proofs.lemmas.List.{map-append, take_all}
use Rattle.std.specs.List.{AllByRecursion}
use Rattle.wv_base.specs.declared.rule.Rule.{Rule}
use Rattle.wv_base.specs.declared.broken.Broken.{Broken}
use Rattle.wv_mod.specs.declared.dependency.Dependency.{Dependency}
use Rattle.wv_mod.specs.declared.mod_info.ModInfo.{ModInfo}
use Rattle.wv_resolve.specs.declared.kind.Kind.{Kind}
use Rattle.wv_resolve.specs.Presence.{Presence}
use Rattle.wv_resolve.specs.Dependency.{Keeps, Fails, entries_of, mod_entries, all_entries, rule_of}
use Rattle.wv_resolve.specs.Refusal.{IsFirst, IsFound, IsRefused, IsEntryBroken, broken_at, wanted_text}
use Rattle.wv_mod.proofs.Relating.{cut-at}
use Rattle.wv_resolve.proofs.Lists.{each-append, each-map, flat-more, flat-cut}

-- the entry at a place fails, and those before it are kept
pub first-at : {A : Type 0} (Before Here : A → Type 0) (list : List A) (i : ℕ) (x : A) → i < length list → x ≡ get_or list i x → AllByRecursion Before (take i list) → Here x → IsFirst Before Here list x
first-at Before Here list i x inside at before here = record {
  front = take i list;
  after = drop (i + 1) list;
  split = cut-at list i x inside at;
  before = before;
  here = here;
}

-- the entries of one mod more are kept
pub entries-more : (kind : Kind) (present : List Presence) (mods : List ModInfo) (i : ℕ) (info : ModInfo) → i < length mods → info ≡ get_or mods i info → AllByRecursion (λ e. Keeps kind present e.1) (all_entries kind (take i mods)) → AllByRecursion (Keeps kind present) (entries_of kind info) → AllByRecursion (λ e. Keeps kind present e.1) (all_entries kind (take (i + 1) mods))
entries-more kind present mods i info inside at h one =
    subst (AllByRecursion (λ (e : List ℕ × Dependency). Keeps kind present e.1)) (sym (flat-more (mod_entries kind) mods i info inside at))
    (each-append (λ e. Keeps kind present e.1) (all_entries kind (take i mods)) (mod_entries kind info) h
    (each-map (λ e. Keeps kind present e.1) (λ dependency. (info.path, dependency)) (entries_of kind info) one))

-- an entry of a mod fails, and all before it are kept
pub entry-broken : (kind : Kind) (present : List Presence) (mods : List ModInfo) (i : ℕ) (info : ModInfo) (d : Dependency) (broken : Broken) → i < length mods → info ≡ get_or mods i info → AllByRecursion (λ e. Keeps kind present e.1) (all_entries kind (take i mods)) → IsFirst (Keeps kind present) (Fails kind present) (entries_of kind info) d → IsRefused kind present (info.path, d) broken → IsEntryBroken kind present (all_entries kind mods) broken
entry-broken kind present mods i info d broken inside at h first refused = (
  (info.path, d),
  record {
    front = done ++ map pair first.front;
    after = map pair first.after ++ rest;
    split = flat-cut (mod_entries kind) mods i info inside at ∙ ap (λ es. (done ++ es) ++ rest) (ap (map pair) first.split ∙ map-append pair first.front (d ∷ first.after)) ∙ regroup done (map pair first.front) (pair d) (map pair first.after) rest;
    before = each-append (λ e. Keeps kind present e.1) done (map pair first.front) h (each-map (λ e. Keeps kind present e.1) pair first.front first.before);
    here = first.here;
  },
  refused,
)
  where
    pair : Dependency → List ℕ × Dependency
    pair dependency = (info.path, dependency)

    done : List (List ℕ × Dependency)
    done = all_entries kind (take i mods)

    rest : List (List ℕ × Dependency)
    rest = all_entries kind (drop (i + 1) mods)

    regroup : (done front : List (List ℕ × Dependency)) (e : List ℕ × Dependency) (after rest : List (List ℕ × Dependency)) → (done ++ (front ++ e ∷ after)) ++ rest ≡ (done ++ front) ++ e ∷ (after ++ rest)
    regroup done front e after rest = simp append_assoc

-- what a test of an entry shows
pub kept-at-true : (kind : Kind) (present : List Presence) (d : Dependency) (b : Bool) → b ≡ true → MatchBool b (Keeps kind present d) (Fails kind present d) → Keeps kind present d
kept-at-true kind present d b e h = MatchBool-at_true (Keeps kind present d) (Fails kind present d) e h

pub fails-at-false : (kind : Kind) (present : List Presence) (d : Dependency) (b : Bool) → b ≡ false → MatchBool b (Keeps kind present d) (Fails kind present d) → Fails kind present d
fails-at-false kind present d b e h = MatchBool-at_false (Keeps kind present d) (Fails kind present d) e h

-- the front of a list is all of it
pub all-looked-at : {A : Type 0} (Has : A → Type 0) (list : List A) (i : ℕ) → length list ≤ i → AllByRecursion Has (take i list) → AllByRecursion Has list
all-looked-at Has list i past h = subst (AllByRecursion Has) (take_all i list past) h

pub all-mods : (kind : Kind) (present : List Presence) (mods : List ModInfo) (i : ℕ) → length mods ≤ i → AllByRecursion (λ e. Keeps kind present e.1) (all_entries kind (take i mods)) → AllByRecursion (λ e. Keeps kind present e.1) (all_entries kind mods)
all-mods kind present mods i past h = subst (λ (ms : List ModInfo). AllByRecursion (λ (e : List ℕ × Dependency). Keeps kind present e.1) (all_entries kind ms)) (take_all i mods past) h

-- what the refusal of an entry says
pub refused-by : {E : Type 0} (kind : Kind) (present : List Presence) (path : List ℕ) (d : Dependency) (rule : Rule) (file wanted found : List ℕ) (r : Result Broken E) → rule ≡ rule_of kind → file ≡ path → wanted ≡ wanted_text d → IsFound present d.id found → IfOk r (λ broken. broken ≡ broken_at rule file wanted found) → IfOk r (IsRefused kind present (path, d))
refused-by kind present path d rule file wanted found (Err e) same_rule same_file same_wanted is_found h = tt
refused-by kind present path d rule file wanted found (Ok broken) same_rule same_file same_wanted is_found h = (
  found,
  is_found,
  h ∙ ap (λ r. broken_at r file wanted found) same_rule ∙ ap (λ f. broken_at (rule_of kind) f wanted found) same_file ∙ ap (λ w. broken_at (rule_of kind) path w found) same_wanted,
)
