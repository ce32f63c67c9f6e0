-- The configurations that the mods name stand at the chosen entries.
use Rattle.std.proofs.Common.{◌≡◌, ◌⊎◌, ◌↔◌, inl, inr, ℕ, ◌<◌, Bool, true, false, true≢false, IsTrue, List, ◌++◌, length, get_or, Any, Contains, Some, refl, ap, sym, ◌∙◌, subst}
use Rattle.std.specs.List.{slice_get}
use Rattle.std.proofs.lemmas.Bool.{cases_Bool}
use Rattle.std.proofs.lemmas.List.Elements.{All-contains}
use Rattle.std.proofs.lemmas.Option.{slice_get_within}
use Rattle.wv_base.specs.declared.side.Side.{Side}
use Rattle.wv_mod.specs.declared.environment.Environment.{Environment}
use Rattle.wv_mod.specs.declared.mixin.MixinConfig.{MixinConfig}
use Rattle.wv_mod.specs.declared.mod_info.ModInfo.{ModInfo}
use Rattle.wv_mod.specs.Environment.{IsFor}
use Rattle.wv_config.specs.declared.naming.Entry.{Entry}
use Rattle.wv_config.specs.Naming.{folder_of, IsEarlier, Names, Anywhere}
use Rattle.wv_config.specs.Entries.{IsEntry, IsBefore, AreEntriesTo, GoesBefore, IsChosen, AreChosen, Stands, AreNamed}
use Rattle.wv_config.proofs.Entering.{some-same}

true-false : (b : Bool) → b ≡ true → b ≡ false → ⊥
true-false b t f = true≢false (sym t ∙ f)

-- what the entries at the same places name is the same
pub same-mod : (mods : List ModInfo) (m m' : ℕ) (info info' : ModInfo) → m ≡ m' → slice_get mods m ≡ Some info → slice_get mods m' ≡ Some info' → info ≡ info'
same-mod mods m m' info info' same at at' = some-same info info' (sym at ∙ ap (slice_get mods) same ∙ at')

pub same-mixin : (info info' : ModInfo) (p p' : ℕ) (mixin mixin' : MixinConfig) → info ≡ info' → p ≡ p' → slice_get info.mixins p ≡ Some mixin → slice_get info'.mixins p' ≡ Some mixin' → mixin ≡ mixin'
same-mixin info info' p p' mixin mixin' same same' at at' =
    some-same mixin mixin' (sym at ∙ ap (λ (i : ModInfo). slice_get i.mixins p) same ∙ ap (slice_get info'.mixins) same' ∙ at')

module _ (side : Side) (mods : List ModInfo) (entries : List Entry) (h : AreEntriesTo side mods (length mods) 0 entries) where
  -- the entry at places where a configuration is named
  record FoundAt (path : List ℕ) (m p : ℕ) (environment : Environment) : Type 0 where
    entry : Entry
    found : Contains entries entry
    at_path : entry.path ≡ path
    at_mod : entry.mod_place ≡ m
    at_place : entry.place ≡ p
    used : IsTrue entry.is_used ↔ IsFor side environment

  found-at : (Fits : Environment → Type 0) (path : List ℕ) (m p : ℕ) (names : Names Fits mods path m p) → FoundAt path m p names.entry.environment
  found-at Fits path m p names =
      let inside : m < length mods = slice_get_within mods m names.info names.mod_there in
      let there = h.all m p names.info names.entry names.mod_there names.entry_there (inl inside) in
      let e = there.1 in
      let is = (All-contains (λ (x : Entry). IsEntry side mods x × IsEarlier x.mod_place x.place (length mods) 0) entries e h.each (there.0, there.2, there.3)).0 in
      let info = same-mod mods e.mod_place m is.info names.info there.4.0 is.mod_there names.mod_there in
      let mixin = same-mixin is.info names.info e.place p is.mixin names.entry info there.4.1 is.entry_there names.entry_there in
      record {
        entry = e;
        found = (there.0, there.2, there.3);
        at_path = is.of.path ∙ ap (λ (i : ModInfo). folder_of i.path ++ is.mixin.config) info ∙ ap (λ (x : MixinConfig). folder_of names.info.path ++ x.config) mixin ∙ sym names.is_path;
        at_mod = there.4.0;
        at_place = there.4.1;
        used = subst (λ (x : MixinConfig). IsTrue e.is_used ↔ IsFor side x.environment) mixin is.of.used;
      }

  module _ (entry : Entry) (chosen : IsChosen entries entry) where
    is-entry : IsEntry side mods entry
    is-entry = (All-contains (λ (x : Entry). IsEntry side mods x × IsEarlier x.mod_place x.place (length mods) 0) entries entry h.each chosen.here).0

    names-here : (Fits : Environment → Type 0) → Fits is-entry.mixin.environment → Names Fits mods entry.path entry.mod_place entry.place
    names-here Fits fits = record {
      info = is-entry.info;
      entry = is-entry.mixin;
      mod_there = is-entry.mod_there;
      entry_there = is-entry.entry_there;
      is_path = is-entry.of.path;
      fits = fits;
    }

    -- an earlier entry with the path goes before it, where it is for the side if this one is
    not-earlier : (m p : ℕ) (environment : Environment) → (there : FoundAt entry.path m p environment) → (entry.is_used ≡ true → there.entry.is_used ≡ true) → IsEarlier m p entry.mod_place entry.place → ⊥
    not-earlier m p environment there as_used earlier = chosen.first there.entry there.found there.at_path (goes (cases_Bool there.entry.is_used) (cases_Bool entry.is_used))
      where
        before : IsBefore there.entry entry
        before = subst (λ k. IsEarlier k there.entry.place entry.mod_place entry.place) (sym there.at_mod) (subst (λ k. IsEarlier m k entry.mod_place entry.place) (sym there.at_place) earlier)

        goes : (there.entry.is_used ≡ true) ⊎ (there.entry.is_used ≡ false) → (entry.is_used ≡ true) ⊎ (entry.is_used ≡ false) → GoesBefore there.entry entry
        goes (inl a) (inl b) = inr (a ∙ sym b, before)
        goes (inl a) (inr b) = inl (a, b)
        goes (inr a) (inl b) = absurd (true-false there.entry.is_used (as_used b) a)
        goes (inr a) (inr b) = inr (a ∙ sym b, before)

    stands : (b : Bool) → entry.is_used ≡ b → Stands side mods entry
    stands true used = inl (
      used,
      record {
        here = names-here (IsFor side) (is-entry.of.used.0 used);
        first = λ m p names earlier.
            let there = found-at (IsFor side) entry.path m p names in
            not-earlier m p names.entry.environment there (λ _. there.used.1 names.fits) earlier;
      },
    )
    stands false unused = inr (
      unused,
      (
        record {
          here = names-here Anywhere tt;
          first = λ m p names earlier.
              not-earlier m p names.entry.environment (found-at Anywhere entry.path m p names) (λ used. absurd (true-false entry.is_used used unused)) earlier;
        },
        λ named.
            let names = named.2 in
            let there = found-at (IsFor side) entry.path named.0 named.1 names in
            chosen.first there.entry there.found there.at_path (inl (there.used.1 names.fits, unused)),
      ),
    )

  pub are-named : (chosen : List Entry) → AreChosen entries chosen → AreNamed side mods chosen
  are-named chosen are = record {
    ordered = are.ordered;
    each = λ k d inside.
        let e = get_or chosen k d in
        (is-entry e (are.each k d inside), stands e (are.each k d inside) e.is_used refl);
    all = λ path named.
        let there = found-at Anywhere path named.0 named.1 named.2 in
        let one = All-contains (λ (x : Entry). Any (λ (y : Entry). y.path ≡ x.path) chosen) entries there.entry are.all there.found in
        (one.0, one.1, one.2, one.3, one.4 ∙ there.at_path);
  }
