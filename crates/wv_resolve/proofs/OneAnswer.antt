-- Mods fit or are refused in one way.
use Rattle.std.proofs.Common.{◌≡◌, ◌≢◌, ℕ, ◌+◌, ◌<◌, List, [], ◌∷◌, ◌++◌, length, get_or, filter, refl, ap, sym, ◌∙◌, subst, inl, inr, arith, length-append}
use Rattle.std.specs.List.{AllByRecursion}
use Rattle.std.proofs.lemmas.Bool.{cases_order}
use Rattle.std.proofs.lemmas.List.{get_or_append_left, get_or_at}
use Rattle.wv_base.specs.declared.broken.Broken.{Broken}
use Rattle.wv_mod.specs.declared.dependency.Dependency.{Dependency}
use Rattle.wv_mod.specs.declared.mod_info.ModInfo.{ModInfo}
use Rattle.wv_resolve.specs.declared.kind.Kind.{Kind}
use Rattle.wv_resolve.specs.declared.kind.Kind.TheVariants as kinds
use Rattle.wv_resolve.specs.Presence.{Presence, present_ids, IsPresent, AreDistinct}
use Rattle.wv_resolve.specs.Dependency.{Keeps, Fails, rule_of, all_entries}
use Rattle.wv_resolve.specs.Refusal.{IsFirstTwice, IsFound, IsRefused, IsEntryBroken, broken_at, twice_broken, wanted_text}
use Rattle.wv_resolve.specs.Resolution.{IsOrderedBy, AreLoaded, AreFitting, IsUnfitting, AreResolved, IsBroken, path_of, id_of, is_loaded, twice, unmet, met}
use Rattle.wv_resolve.proofs.Lists.{same-of-pairs}
use Rattle.wv_resolve.proofs.Orders.{one-order}

-- where no id is twice in a list, none is there again behind a front of it
again-within : (list front after : List Presence) (p : Presence) (n : ℕ) → n ≡ length front → n < length list → ((k : ℕ) (d : Presence) → k < n + 1 → get_or list k d ≡ get_or (front ++ p ∷ after) k d) → AreDistinct list → IsPresent front p.id → ⊥
again-within list front after p n long inside same distinct (k, q, in_front, at, again) =
    let below : k < n = omega arith in
    let first : get_or list k q ≡ q = same k q (omega arith) ∙ get_or_append_left front (p ∷ after) q k in_front ∙ at in
    let second : get_or list n q ≡ p = same n q (omega arith) ∙ get_or_at front p after q n (sym long) in
    distinct k n q below inside (ap (λ (a : Presence). a.id) first ∙ again ∙ ap (λ (a : Presence). a.id) (sym second))

longer : (front after : List Presence) (p : Presence) → length front < length (front ++ p ∷ after)
longer front after p = omega (arith, length-append front (p ∷ after))

pub distinct-not_twice : (list : List Presence) (p : Presence) → AreDistinct list → IsFirstTwice list p → ⊥
distinct-not_twice list p distinct h = again-within (h.front ++ p ∷ h.after) h.front h.after p (length h.front) refl (longer h.front h.after p) (λ k d below. refl) (subst AreDistinct h.split distinct) h.again

-- a front that is shorter than another is within it
shorter-again : (front after front' after' : List Presence) (p p' : Presence) → front ++ p ∷ after ≡ front' ++ p' ∷ after' → length front < length front' → AreDistinct front' → IsPresent front p.id → ⊥
shorter-again front after front' after' p p' same below distinct again =
    again-within front' front after p (length front) refl below
    (λ k d lt. let inside : k < length front' = omega arith in sym (get_or_append_left front' (p' ∷ after') d k inside) ∙ ap (λ (xs : List Presence). get_or xs k d) (sym same))
    distinct again

same-place : (front after front' after' : List Presence) (p p' : Presence) → front ++ p ∷ after ≡ front' ++ p' ∷ after' → length front ≡ length front' → p ≡ p'
same-place front after front' after' p p' same long =
    sym (get_or_at front p after p (length front) refl) ∙ ap (λ (xs : List Presence). get_or xs (length front) p) same ∙ get_or_at front' p' after' p (length front) (sym long)

one-twice : (list : List Presence) (p p' : Presence) → IsFirstTwice list p → IsFirstTwice list p' → p ≡ p'
one-twice list p p' h k = elim (cases_order (length h.front) (length k.front)) [
  | inl long ↦ same-place h.front h.after k.front k.after p p' (sym h.split ∙ k.split) long
  | inr (inl below) ↦ absurd (shorter-again h.front h.after k.front k.after p p' (sym h.split ∙ k.split) below k.before h.again)
  | inr (inr above) ↦ absurd (shorter-again k.front k.after h.front h.after p' p (sym k.split ∙ h.split) above h.before k.again)
]

-- of one list one is the first
one-first : {A : Type 0} (Before Here : A → Type 0) → ((x : A) → Before x → Here x → ⊥) → (list front after front' after' : List A) (x x' : A) → list ≡ front ++ x ∷ after → list ≡ front' ++ x' ∷ after' → AllByRecursion Before front → AllByRecursion Before front' → Here x → Here x' → x ≡ x'
one-first Before Here apart list [] after [] after' x x' e e' h h' here here' = cc
one-first Before Here apart list [] after (k ∷ front') after' x x' e e' h h' here here' =
    let same : k ≡ x = cc in absurd (apart x (subst Before same h'.0) here)
one-first Before Here apart list (k ∷ front) after [] after' x x' e e' h h' here here' =
    let same : k ≡ x' = cc in absurd (apart x' (subst Before same h.0) here')
one-first Before Here apart [] (k ∷ front) after (k' ∷ front') after' x x' e e' h h' here here' = cc
one-first Before Here apart (z ∷ list) (k ∷ front) after (k' ∷ front') after' x x' e e' h h' here here' =
    let rest : list ≡ front ++ x ∷ after = cc in
    let rest' : list ≡ front' ++ x' ∷ after' = cc in
    one-first Before Here apart list front after front' after' x x' rest rest' h.1 h'.1 here here'

keeps-apart : (kind : Kind) (present : List Presence) (d : Dependency) → Keeps kind present d → Fails kind present d → ⊥
keeps-apart kinds.Depends present d kept failed = failed kept
keeps-apart kinds.Breaks present d kept failed = kept failed

each-at : {A : Type 0} (Has : A → Type 0) (front after : List A) (x : A) → AllByRecursion Has (front ++ x ∷ after) → Has x
each-at Has [] after x h = h.0
each-at Has (y ∷ front) after x h = each-at Has front after x h.1

-- where each entry is kept, none is refused
kept-not_broken : (kind : Kind) (present : List Presence) (entries : List (List ℕ × Dependency)) (broken : Broken) → AllByRecursion (λ e. Keeps kind present e.1) entries → IsEntryBroken kind present entries broken → ⊥
kept-not_broken kind present entries broken kept (entry, first, refused) =
    keeps-apart kind present entry.1 (each-at (λ (e : List ℕ × Dependency). Keeps kind present e.1) first.front first.after entry (subst (AllByRecursion (λ (e : List ℕ × Dependency). Keeps kind present e.1)) first.split kept)) first.here

-- one version is found under an id
one-found : (present : List Presence) (id found other : List ℕ) → AreDistinct present → IsFound present id found → IsFound present id other → found ≡ other
one-found present id found other distinct (inl (k, p, in_p, at_p, h)) (inl (j, q, in_q, at_q, g)) =
    let one : p ≡ q = same-of-pairs (λ (a c : Presence). a.id ≢ c.id) present distinct k j p q in_p in_q at_p at_q (λ apart. apart (h.0 ∙ sym g.0)) (λ apart. apart (g.0 ∙ sym h.0)) in
    sym h.1 ∙ ap (λ (a : Presence). a.version) one ∙ g.1
one-found present id found other distinct (inl (k, p, in_p, at_p, h)) (inr g) = absurd (g.0 k p in_p (ap (λ (a : Presence). a.id) at_p ∙ h.0))
one-found present id found other distinct (inr h) (inl (j, q, in_q, at_q, g)) = absurd (h.0 j q in_q (ap (λ (a : Presence). a.id) at_q ∙ g.0))
one-found present id found other distinct (inr h) (inr g) = h.1 ∙ sym g.1

one-refused : (kind : Kind) (present : List Presence) (entry entry' : List ℕ × Dependency) (broken other : Broken) → AreDistinct present → entry ≡ entry' → IsRefused kind present entry broken → IsRefused kind present entry' other → broken ≡ other
one-refused kind present entry entry' broken other distinct same (found, is, told) (found', is', told') =
    let same_found : found ≡ found' = one-found present entry'.1.id found found' distinct (subst (λ (e : List ℕ × Dependency). IsFound present e.1.id found) same is) is' in
    told ∙ ap (λ (e : List ℕ × Dependency). broken_at (rule_of kind) e.0 (wanted_text e.1) found) same ∙ ap (λ f. broken_at (rule_of kind) entry'.0 (wanted_text entry'.1) f) same_found ∙ sym told'

one-entry : (kind : Kind) (present : List Presence) (entries : List (List ℕ × Dependency)) (broken other : Broken) → AreDistinct present → IsEntryBroken kind present entries broken → IsEntryBroken kind present entries other → broken ≡ other
one-entry kind present entries broken other distinct (entry, first, refused) (entry', first', refused') =
    one-refused kind present entry entry' broken other distinct
    (one-first (λ e. Keeps kind present e.1) (λ e. Fails kind present e.1) (λ e. keeps-apart kind present e.1) entries first.front first.after first'.front first'.after entry entry' first.split first'.split first.before first'.before first.here first'.here)
    refused refused'

fitting-not_broken : (builtin : List (List ℕ × List ℕ)) (loaded : List ModInfo) (broken : Broken) → AreFitting builtin loaded → IsUnfitting builtin loaded broken → ⊥
fitting-not_broken builtin loaded broken fit (twice b h) = distinct-not_twice (present_ids builtin loaded) h.0 fit.distinct h.1
fitting-not_broken builtin loaded broken fit (unmet b distinct h) = kept-not_broken kinds.Depends (present_ids builtin loaded) (all_entries kinds.Depends loaded) b fit.depends h
fitting-not_broken builtin loaded broken fit (met b distinct depends h) = kept-not_broken kinds.Breaks (present_ids builtin loaded) (all_entries kinds.Breaks loaded) b fit.breaks h

one-unfitting : (builtin : List (List ℕ × List ℕ)) (loaded : List ModInfo) (broken other : Broken) → IsUnfitting builtin loaded broken → IsUnfitting builtin loaded other → broken ≡ other
one-unfitting builtin loaded broken other (twice b h) (twice c g) = h.2 ∙ ap twice_broken (one-twice (present_ids builtin loaded) h.0 g.0 h.1 g.1) ∙ sym g.2
one-unfitting builtin loaded broken other (twice b h) (unmet c distinct g) = absurd (distinct-not_twice (present_ids builtin loaded) h.0 distinct h.1)
one-unfitting builtin loaded broken other (twice b h) (met c distinct depends g) = absurd (distinct-not_twice (present_ids builtin loaded) h.0 distinct h.1)
one-unfitting builtin loaded broken other (unmet b distinct h) (twice c g) = absurd (distinct-not_twice (present_ids builtin loaded) g.0 distinct g.1)
one-unfitting builtin loaded broken other (unmet b distinct h) (unmet c distinct' g) = one-entry kinds.Depends (present_ids builtin loaded) (all_entries kinds.Depends loaded) b c distinct h g
one-unfitting builtin loaded broken other (unmet b distinct h) (met c distinct' depends g) = absurd (kept-not_broken kinds.Depends (present_ids builtin loaded) (all_entries kinds.Depends loaded) b depends h)
one-unfitting builtin loaded broken other (met b distinct depends h) (twice c g) = absurd (distinct-not_twice (present_ids builtin loaded) g.0 distinct g.1)
one-unfitting builtin loaded broken other (met b distinct depends h) (unmet c distinct' g) = absurd (kept-not_broken kinds.Depends (present_ids builtin loaded) (all_entries kinds.Depends loaded) c depends g)
one-unfitting builtin loaded broken other (met b distinct depends h) (met c distinct' depends' g) = one-entry kinds.Breaks (present_ids builtin loaded) (all_entries kinds.Breaks loaded) b c distinct h g

pub one-loaded : (mods loaded other : List ModInfo) → AreLoaded mods loaded → AreLoaded mods other → loaded ≡ other
one-loaded mods loaded other h g = one-order path_of (filter is_loaded mods) loaded other h g

pub resolved-not_broken : (builtin : List (List ℕ × List ℕ)) (mods resolved : List ModInfo) (broken : Broken) → AreResolved builtin mods resolved → IsBroken builtin mods broken → ⊥
resolved-not_broken builtin mods resolved broken (loaded, are, fit, order) (loaded', are', unfit) =
    fitting-not_broken builtin loaded' broken (subst (AreFitting builtin) (one-loaded mods loaded loaded' are are') fit) unfit

pub one-refusal : (builtin : List (List ℕ × List ℕ)) (mods : List ModInfo) (broken other : Broken) → IsBroken builtin mods broken → IsBroken builtin mods other → broken ≡ other
one-refusal builtin mods broken other (loaded, are, unfit) (loaded', are', unfit') =
    one-unfitting builtin loaded' broken other (subst (λ (ms : List ModInfo). IsUnfitting builtin ms broken) (one-loaded mods loaded loaded' are are') unfit) unfit'

pub one-resolved : (builtin : List (List ℕ × List ℕ)) (mods resolved other : List ModInfo) → AreResolved builtin mods resolved → AreResolved builtin mods other → resolved ≡ other
one-resolved builtin mods resolved other (loaded, are, fit, order) (loaded', are', fit', order') =
    one-order id_of loaded' resolved other (subst (λ (ms : List ModInfo). IsOrderedBy id_of ms resolved) (one-loaded mods loaded loaded' are are') order) order'
