-- The entries at which configurations stand, as the entries are gone over.
use Rattle.std.proofs.Common.{◌≡◌, ◌≢◌, inl, inr, ℕ, ◌<◌, Bool, true, false, true≢false, List, [], ◌∷◌, ◌++◌, length, get_or, All, Any, Contains, Option, Some, None, MatchOption, IfSome, IsSomeAnd, refl, ap, sym, ◌∙◌, subst, arith}
use Rattle.std.specs.Borrow.{Bor}
use Rattle.std.specs.BTreeMap.{Updates, IsOrdered, values, keys}
use Rattle.std.specs.Cmp.Lexicographic.{slice_cmp}
use Rattle.std.specs.Ordering.{nat_cmp, is_eq}
use Rattle.std.proofs.lemmas.Bool.{cases_Bool}
use Rattle.std.proofs.lemmas.Cmp.{nat_list_cmp_total}
use Rattle.std.proofs.lemmas.List.{get_or-map, length-map}
use Rattle.std.proofs.lemmas.List.Elements.{All-push, All-contains, Contains-append_left, Contains-push, Contains-push_cases}
use Rattle.std.proofs.lemmas.Map.Entries.{btree_map_get_place, place_from_lookup}
use Rattle.std.proofs.lemmas.Map.Keys.{Less-from_sorted}
use Rattle.std.proofs.lemmas.Map.Text.{is_eq-slice_cmp}
use Rattle.std.proofs.lemmas.Option.{slice_get_within, slice_get-get_or, get_or_from_slice_get}
use Rattle.std.proofs.lemmas.Slice.Eq.{bytes_eq-Decides}
use Rattle.wv_base.specs.Folder.{IsPathBefore}
use Rattle.wv_config.specs.declared.naming.Entry.{Entry}
use Rattle.wv_config.specs.declared.naming.Named.{Named}
use Rattle.wv_config.specs.Entries.{IsBefore, GoesBefore, IsChosen, entry_under, Holds, entries_at, AreChosen}
use Rattle.wv_config.proofs.Entering.{not-both_earlier}

-- the order ties texts that are the same, and no others
tied : (a b : List ℕ) → a ≡ b → is_eq (slice_cmp nat_cmp a b) ≡ true
tied a b same = is_eq-slice_cmp a b ∙ (bytes_eq-Decides a b).1 same

same-tied : (a b : List ℕ) → is_eq (slice_cmp nat_cmp a b) ≡ true → a ≡ b
same-tied a b e = (bytes_eq-Decides a b).0 (sym (is_eq-slice_cmp a b) ∙ e)

true-false : (b : Bool) → b ≡ true → b ≡ false → ⊥
true-false b t f = true≢false (sym t ∙ f)

not-before_itself : (entry : Entry) → GoesBefore entry entry → ⊥
not-before_itself entry (inl (used, unused)) = true-false entry.is_used used unused
not-before_itself entry (inr (same, before)) = not-both_earlier entry.mod_place entry.place entry.mod_place entry.place before before

-- ---- One entry more

-- what a table has under a path, that fits
IsUnder : List Entry → List ℕ → Option (Bor Entry) → Type 0
IsUnder entries path o = MatchOption o (All (λ e. e.path ≢ path) entries) (λ e. (e.now.path ≡ path) × IsChosen entries e.now)

module _ (done : List Entry) (entry : Entry) where
  abbrev More : List Entry
  More = done ++ entry ∷ []

  chosen-other : (other : Entry) → entry.path ≢ other.path → IsChosen done other → IsChosen More other
  chosen-other other apart h = record {
    here = Contains-append_left done (entry ∷ []) other h.here;
    first = λ e found same goes. elim (Contains-push_cases done entry e found) [
      | inl earlier ↦ h.first e earlier same goes
      | inr is ↦ apart (ap (λ (x : Entry). x.path) is ∙ same)
    ];
  }

  chosen-new : All (λ e. e.path ≢ entry.path) done → IsChosen More entry
  chosen-new absent = record {
    here = Contains-push done entry;
    first = λ e found same goes. elim (Contains-push_cases done entry e found) [
      | inl earlier ↦ All-contains (λ (x : Entry). x.path ≢ entry.path) done e absent earlier same
      | inr is ↦ not-before_itself entry (subst (λ (x : Entry). GoesBefore x entry) (sym is) goes)
    ];
  }

  chosen-over : (other : Entry) → other.path ≡ entry.path → entry.is_used ≡ true → other.is_used ≡ false → IsChosen done other → IsChosen More entry
  chosen-over other at used unused h = record {
    here = Contains-push done entry;
    first = λ e found same goes. elim (Contains-push_cases done entry e found) [
      | inl earlier ↦ h.first e earlier (same ∙ sym at) (inl (its_used e goes, unused))
      | inr is ↦ not-before_itself entry (subst (λ (x : Entry). GoesBefore x entry) (sym is) goes)
    ];
  }
    where
      its_used : (e : Entry) → GoesBefore e entry → e.is_used ≡ true
      its_used e (inl (yes_used, unused)) = yes_used
      its_used e (inr (same, before)) = same ∙ used

  module _ (behind : All (λ other. IsBefore other entry) done) where
    chosen-kept : (other : Entry) → (entry.is_used ≡ true → other.is_used ≡ true) → IsChosen done other → IsChosen More other
    chosen-kept other says h = record {
      here = Contains-append_left done (entry ∷ []) other h.here;
      first = λ e found same goes. elim (Contains-push_cases done entry e found) [
        | inl earlier ↦ h.first e earlier same goes
        | inr is ↦ not_new (subst (λ (x : Entry). GoesBefore x other) (sym is) goes)
      ];
    }
      where
        not_new : GoesBefore entry other → ⊥
        not_new (inl (used, unused)) = true-false other.is_used (says used) unused
        not_new (inr (same, before)) = not-both_earlier entry.mod_place entry.place other.mod_place other.place before (All-contains (λ (x : Entry). IsBefore x entry) done other behind h.here)

    under-kept : (o : Option (Bor Entry)) → IsSomeAnd o (λ other. entry.is_used ≡ true → other.now.is_used ≡ true) → IsUnder done entry.path o → IsUnder More entry.path o
    unfolding IsUnder
    under-kept None says h = absurd says
    under-kept (Some e) says h = (h.0, chosen-kept e.now says h.1)

  under-other : (path : List ℕ) → entry.path ≢ path → (o : Option (Bor Entry)) → IsUnder done path o → IsUnder More path o
  unfolding IsUnder
  under-other path apart None h = All-push (λ (e : Entry). e.path ≢ path) done entry h apart
  under-other path apart (Some e) h = (h.0, chosen-other e.now (λ same. apart (same ∙ h.0)) h.1)

  taken : (o : Option (Bor Entry)) → IfSome o (λ other. (entry.is_used ≡ true) × (other.now.is_used ≡ false)) → IsUnder done entry.path o → IsChosen More entry
  unfolding IsUnder
  taken None says h = chosen-new h
  taken (Some e) says h = chosen-over e.now h.0 says.0 says.1 h.1

module _ (done : List Entry) (named : Named) (held : Holds done named) where
  held-under : (path : List ℕ) → IsUnder done path (entry_under named path)
  unfolding IsUnder
  held-under path = held path

  -- the table stays as it is
  pub holds-kept : (entry : Entry) → All (λ other. IsBefore other entry) done → IsSomeAnd (entry_under named entry.path) (λ other. entry.is_used ≡ true → other.now.is_used ≡ true) → Holds (done ++ entry ∷ []) named
  unfolding IsUnder
  holds-kept entry behind says = λ path. elim (cases_Bool (is_eq (slice_cmp nat_cmp entry.path path))) [
    | inl e ↦ subst (λ (p : List ℕ). IsUnder (done ++ entry ∷ []) p (entry_under named p)) (same-tied entry.path path e) (under-kept done entry behind (entry_under named entry.path) says (held-under entry.path))
    | inr e ↦ under-other done entry path (λ same. true-false _ (tied entry.path path same) e) (entry_under named path) (held-under path)
  ]

  -- the entry is put into it
  pub holds-put : (new : Named) (entry : Bor Entry) → IfSome (entry_under named entry.now.path) (λ other. (entry.now.is_used ≡ true) × (other.now.is_used ≡ false)) → Updates (slice_cmp nat_cmp) named.entries new.entries entry.now.path (Some entry) → Holds (done ++ entry.now ∷ []) new
  unfolding IsUnder
  holds-put new entry says updates = λ path. elim (cases_Bool (is_eq (slice_cmp nat_cmp entry.now.path path))) [
    | inl e ↦ subst (λ (p : List ℕ). IsUnder (done ++ entry.now ∷ []) p (entry_under new p)) (same-tied entry.now.path path e)
        (subst (IsUnder (done ++ entry.now ∷ []) entry.now.path) (sym updates.1) (refl, taken done entry.now (entry_under named entry.now.path) says (held-under entry.now.path)))
    | inr e ↦ subst (IsUnder (done ++ entry.now ∷ []) path) (sym (updates.2 path e))
        (under-other done entry.now path (λ same. true-false _ (tied entry.now.path path same) e) (entry_under named path) (held-under path))
  ]

-- ---- The entries of the table

module _ (entries : List Entry) (named : Named) (sorted : IsOrdered (slice_cmp nat_cmp) named.entries) (held : Holds entries named) where
  pairs : List (List ℕ × Bor Entry)
  pairs = named.entries.entries

  abbrev Chosen : List Entry
  Chosen = entries_at (values named.entries)

  filled : Entry → List ℕ × Bor Entry
  filled d = ([], record { ref_ptr = (0, 0); now = d })

  held-some : (path : List ℕ) (entry : Bor Entry) → entry_under named path ≡ Some entry → (entry.now.path ≡ path) × IsChosen entries entry.now
  held-some path entry some = subst (λ (o : Option (Bor Entry)). MatchOption o (All (λ e. e.path ≢ path) entries) (λ e. (e.now.path ≡ path) × IsChosen entries e.now)) some (held path)

  long : length Chosen ≡ length named.entries.entries
  long = length-map (values named.entries) (λ (e : Bor Entry). e.now) ∙ length-map named.entries.entries (λ (e : List ℕ × Bor Entry). e.1)

  module _ (k : ℕ) (d : Entry) (inside : k < length named.entries.entries) where
    at-value : get_or Chosen k d ≡ (get_or named.entries.entries k (filled d)).1.now
    unfolding filled
    at-value =
        get_or-map (λ (e : Bor Entry). e.now) (values named.entries) k (filled d).1 d (omega (arith, length-map named.entries.entries (λ (e : List ℕ × Bor Entry). e.1)))
        ∙ ap (λ (e : Bor Entry). e.now) (get_or-map (λ (e : List ℕ × Bor Entry). e.1) named.entries.entries k (filled d) (filled d).1 inside)

    at-key : get_or (keys named.entries) k [] ≡ (get_or named.entries.entries k (filled d)).0
    at-key = get_or-map (λ (e : List ℕ × Bor Entry). e.0) named.entries.entries k (filled d) [] inside

    held-at : ((get_or Chosen k d).path ≡ get_or (keys named.entries) k []) × IsChosen entries (get_or Chosen k d)
    held-at =
        let pair = get_or named.entries.entries k (filled d) in
        let there = held-some pair.0 pair.1 (btree_map_get_place nat_list_cmp_total named.entries k pair.0 pair.1 sorted (slice_get-get_or named.entries.entries k (filled d) inside)) in
        (ap (λ (e : Entry). e.path) at-value ∙ there.0 ∙ sym at-key, subst (IsChosen entries) (sym at-value) there.1)

  found-under : (entry : Entry) → Contains entries entry → (o : Option (Bor Entry)) → entry_under named entry.path ≡ o → MatchOption o (All (λ e. e.path ≢ entry.path) entries) (λ e. (e.now.path ≡ entry.path) × IsChosen entries e.now) → Any (λ (one : Entry). one.path ≡ entry.path) Chosen
  found-under entry found None at h = absurd (All-contains (λ (e : Entry). e.path ≢ entry.path) entries entry h found refl)
  found-under entry found (Some e) at h =
      let place = place_from_lookup (λ (q : List ℕ). is_eq (slice_cmp nat_cmp entry.path q)) named.entries.entries e at in
      let inside = slice_get_within named.entries.entries place.0 (place.1, e) place.2 in
      (place.0, e.now, omega (arith, long), at-value place.0 e.now inside ∙ ap (λ (p : List ℕ × Bor Entry). p.1.now) (get_or_from_slice_get named.entries.entries place.0 (place.1, e) (filled e.now) place.2), h.0)

  pub are-chosen : AreChosen entries Chosen
  are-chosen = record {
    ordered = λ i j d below inside.
        let later : j < length named.entries.entries = omega (arith, long) in
        let earlier : i < length named.entries.entries = omega arith in
        subst (λ (p : List ℕ). IsPathBefore p (get_or Chosen j d).path) (sym (held-at i d earlier).0)
        (subst (IsPathBefore (get_or (keys named.entries) i [])) (sym (held-at j d later).0)
        (Less-from_sorted (slice_cmp nat_cmp) (keys named.entries) i j [] sorted below (omega (arith, length-map named.entries.entries (λ (e : List ℕ × Bor Entry). e.0)))));
    each = λ k d inside. (held-at k d (omega (arith, long))).1;
    all = λ k d inside. found-under (get_or entries k d) (k, inside, same-at k d inside) (entry_under named (get_or entries k d).path) refl (held (get_or entries k d).path);
  }
    where
      same-at : (k : ℕ) (d : Entry) → k < length entries → get_or entries k (get_or entries k d) ≡ get_or entries k d
      same-at k d inside = get_or_from_slice_get entries k (get_or entries k d) (get_or entries k d) (slice_get-get_or entries k d inside)
