-- A table of ids: what it holds after one more, and what it says of an entry.
use Rattle.std.proofs.Common.{◌≡◌, ◌≢◌, ◌↔◌, inl, inr, ℕ, true, false, Bool, IsTrue, List, [], ◌∷◌, ◌++◌, Option, Some, None, MatchOption, MatchBool, not, codes, refl, ap, sym, ◌∙◌, subst, true≢false}
use Rattle.std.specs.Borrow.{Bor}
use Rattle.std.specs.BTreeMap.{Updates}
use Rattle.std.specs.Cmp.Lexicographic.{slice_cmp}
use Rattle.std.specs.Ordering.{nat_cmp, is_eq}
use Rattle.std.proofs.lemmas.Bool.{cases_Bool, cases_from_iff}
use Rattle.std.proofs.lemmas.List.Elements.{All-push}
use Rattle.std.proofs.lemmas.List.Quantifiers.{Any-push, all_pairs_push}
use Rattle.std.proofs.lemmas.Map.Text.{is_eq-slice_cmp}
use Rattle.std.proofs.lemmas.Slice.Eq.{bytes_eq-Decides}
use Rattle.wv_version.specs.declared.version.Version.{Version}
use Rattle.wv_version.specs.declared.version.Version.TheVariants as version
use Rattle.wv_version.specs.Version.{IsVersion}
use Rattle.wv_version.proofs.Dotting.{dotted_same}
use Rattle.wv_mod.specs.declared.dependency.Dependency.{Dependency}
use Rattle.wv_resolve.specs.declared.source.Source.{Source}
use Rattle.wv_resolve.specs.declared.present.Present.{Present}
use Rattle.wv_resolve.specs.declared.kind.Kind.TheVariants as kinds
use Rattle.wv_resolve.specs.Presence.{Presence, IsAbsent, IsPresent, IsPresentAs}
use Rattle.wv_resolve.specs.Dependency.{MeetsOne, IsMet, Keeps, Fails}
use Rattle.wv_resolve.specs.Refusal.{IsFound}
use Rattle.wv_resolve.specs.Holding.{source_presence, IsRead, source_under, Holds}
use Rattle.wv_resolve.proofs.Lists.{any-append, match-weaker, same-of-pairs}

-- the order ties texts that are the same, and no others
tied : (a b : List ℕ) → a ≡ b → is_eq (slice_cmp nat_cmp a b) ≡ true
tied a b same = is_eq-slice_cmp a b ∙ (bytes_eq-Decides a b).1 same

same-tied : (a b : List ℕ) → is_eq (slice_cmp nat_cmp a b) ≡ true → a ≡ b
same-tied a b e = (bytes_eq-Decides a b).0 (sym (is_eq-slice_cmp a b) ∙ e)

-- what the table says under an id
IsUnder : List Presence → Present → List ℕ → Type 0
IsUnder list present id = MatchOption (source_under present id) (IsAbsent list id) (λ source. IsPresentAs list id source.now.text.now × IsRead source.now)

at-none : (list : List Presence) (present : Present) (id : List ℕ) → Holds list present → source_under present id ≡ None → IsAbsent list id
at-none list present id h none = subst (λ (o : Option (Bor Source)). MatchOption o (IsAbsent list id) (λ source. IsPresentAs list id source.now.text.now × IsRead source.now)) none (h.under id)

at-some : (list : List Presence) (present : Present) (id : List ℕ) (source : Bor Source) → Holds list present → source_under present id ≡ Some source → IsPresentAs list id source.now.text.now × IsRead source.now
at-some list present id source h some = subst (λ (o : Option (Bor Source)). MatchOption o (IsAbsent list id) (λ source. IsPresentAs list id source.now.text.now × IsRead source.now)) some (h.under id)

under-here : (list : List Presence) (new : Present) (id : List ℕ) (source : Bor Source) → IsRead source.now → source_under new id ≡ Some source → IsUnder (list ++ source_presence source.now id ∷ []) new id
unfolding IsUnder
under-here list new id source read some = subst (λ (o : Option (Bor Source)). MatchOption o (IsAbsent (list ++ source_presence source.now id ∷ []) id) (λ s. IsPresentAs (list ++ source_presence source.now id ∷ []) id s.now.text.now × IsRead s.now)) (sym some)
    (Any-push (λ p. (p.id ≡ id) × (p.version ≡ source.now.text.now)) list (source_presence source.now id) (refl, refl), read)

under-other : (list : List Presence) (old new : Present) (p : Presence) (other : List ℕ) → p.id ≢ other → source_under new other ≡ source_under old other → IsUnder list old other → IsUnder (list ++ p ∷ []) new other
unfolding IsUnder
under-other list old new p other apart same h = subst (λ (o : Option (Bor Source)). MatchOption o (IsAbsent (list ++ p ∷ []) other) (λ s. IsPresentAs (list ++ p ∷ []) other s.now.text.now × IsRead s.now)) (sym same)
    (match-weaker (λ s. IsPresentAs list other s.now.text.now × IsRead s.now) (λ s. IsPresentAs (list ++ p ∷ []) other s.now.text.now × IsRead s.now) (source_under old other)
    (λ absent. All-push (λ q. q.id ≢ other) list p absent apart)
    (λ s present. (any-append (λ q. (q.id ≡ other) × (q.version ≡ s.now.text.now)) list (p ∷ []) present.0, present.1)) h)

-- one more under an id that was absent
holds-push : (list : List Presence) (old new : Present) (source : Bor Source) (id : List ℕ) → IsRead source.now → source_under old id ≡ None → Updates (slice_cmp nat_cmp) old.sources new.sources id (Some source) → Holds list old → Holds (list ++ source_presence source.now id ∷ []) new
unfolding IsUnder
holds-push list old new source id read none updates h = record {
  distinct = all_pairs_push (λ p q. p.id ≢ q.id) list (source_presence source.now id) h.distinct (λ k d inside. at-none list old id h none k d inside);
  under = λ other. elim (cases_Bool (is_eq (slice_cmp nat_cmp id other))) [
    | inl e ↦ subst (IsUnder (list ++ source_presence source.now id ∷ []) new) (same-tied id other e) (under-here list new id source read updates.1)
    | inr e ↦ under-other list old new (source_presence source.now id) other (λ same. true≢false (sym (tied id other same) ∙ e)) (updates.2 other e) (h.under other)
  ];
}

pub inserted : (list : List Presence) (old new : Present) (source : Bor Source) (id : List ℕ) (before : Option (Bor Source)) → before ≡ source_under old id → Updates (slice_cmp nat_cmp) old.sources new.sources id (Some source) → Holds list old → IsRead source.now → MatchOption before (Holds (list ++ source_presence source.now id ∷ []) new) (λ _. IsPresent list id)
inserted list old new source id None was updates h read = holds-push list old new source id read (sym was) updates h
inserted list old new source id (Some other) was updates h read =
    let (k, p, inside, at, same) = (at-some list old id other h (sym was)).0 in
    (k, p, inside, at, same.0)

-- a text spells one version
one-version : (text : List ℕ) (v w : Version) → IsVersion text v → IsVersion text w → v ≡ w
one-version text (version.Dotted d) (version.Dotted e) g h = ap version.Dotted (dotted_same text d e g h)
one-version text (version.Dotted d) (version.Plain t) g h = absurd (h.1 d g)
one-version text (version.Plain s) (version.Dotted e) g h = absurd (g.1 e h)
one-version text (version.Plain s) (version.Plain t) g h = ap version.Plain (g.0 ∙ sym h.0)

-- an entry is met exactly where the version under its id meets one of its predicates
pub met-under : (list : List Presence) (present : Present) (d : Dependency) (source : Bor Source) (b : Bool) → Holds list present → Some source ≡ source_under present d.id → (IsTrue b ↔ MeetsOne source.now.version d) → IsTrue b ↔ IsMet list d
met-under list present d source b h under test = (forth, back)
  where
    here : IsPresentAs list d.id source.now.text.now × IsRead source.now
    here = at-some list present d.id source h (sym under)

    forth : IsTrue b → IsMet list d
    forth t =
        let (k, p, inside, at, same) = here.0 in
        (k, p, inside, at, (same.0, (source.now.version, subst (λ (text : List ℕ). IsVersion text source.now.version) (sym same.1) here.1, test.0 t)))

    back : IsMet list d → IsTrue b
    back met =
        let (k, p, in_p, at_p, same) = here.0 in
        let (j, q, in_q, at_q, m) = met in
        let one : p ≡ q = same-of-pairs (λ (a c : Presence). a.id ≢ c.id) list h.distinct k j p q in_p in_q at_p at_q (λ apart. apart (same.0 ∙ sym m.0)) (λ apart. apart (m.0 ∙ sym same.0)) in
        let text : q.version ≡ source.now.text.now = ap (λ (a : Presence). a.version) (sym one) ∙ same.1 in
        let v : m.1.0 ≡ source.now.version = one-version source.now.text.now m.1.0 source.now.version (subst (λ (t : List ℕ). IsVersion t m.1.0) text m.1.1) here.1 in
        test.1 (subst (λ (w : Version). MeetsOne w d) v m.1.2)

wrong : IsTrue false → ⊥
wrong t = true≢false (sym t)

pub unmet-absent : (list : List Presence) (present : Present) (d : Dependency) → Holds list present → None ≡ source_under present d.id → IsTrue false ↔ IsMet list d
unmet-absent list present d h under = (
  λ t. absurd (wrong t),
  λ (k, p, inside, at, m). absurd (at-none list present d.id h (sym under) k p inside (subst (λ (q : Presence). q.id ≡ d.id) (sym at) m.0)),
)

-- what is found under an id
pub found-some : (list : List Presence) (present : Present) (id : List ℕ) (source : Bor Source) (found : List ℕ) → Holds list present → Some source ≡ source_under present id → found ≡ source.now.text.now → IsFound list id found
found-some list present id source found h under same = inl (subst (IsPresentAs list id) (sym same) (at-some list present id source h (sym under)).0)

pub found-none : (list : List Presence) (present : Present) (id found : List ℕ) → Holds list present → None ≡ source_under present id → found ≡ codes "-" → IsFound list id found
found-none list present id found h under same = inr (at-none list present id h (sym under), same)

-- whether an entry is kept, by whether it is met
pub keeps-depends : (list : List Presence) (d : Dependency) (b : Bool) → (IsTrue b ↔ IsMet list d) → MatchBool b (Keeps kinds.Depends list d) (Fails kinds.Depends list d)
keeps-depends list d b test = cases_from_iff test

pub keeps-breaks : (list : List Presence) (d : Dependency) (b : Bool) → (IsTrue b ↔ IsMet list d) → MatchBool (not b) (Keeps kinds.Breaks list d) (Fails kinds.Breaks list d)
keeps-breaks list d true test = test.0 refl
keeps-breaks list d false test = λ met. true≢false (sym (test.1 met))
