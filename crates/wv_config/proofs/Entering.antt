-- The entries of mods, as they are gone over.
use Rattle.std.proofs.Common.{◌≡◌, ◌⊎◌, inl, inr, ℕ, ◌+◌, ◌<◌, ◌≤◌, List, [], ◌∷◌, ◌++◌, length, get_or, Some, ap, sym, ◌∙◌, subst, arith}
use Rattle.std.specs.List.{slice_get}
use Rattle.std.proofs.lemmas.Bool.{cases_order}
use Rattle.std.proofs.lemmas.List.Elements.{All-push, All-weaker}
use Rattle.std.proofs.lemmas.List.Quantifiers.{Any-push, all_pairs_push}
use Rattle.std.proofs.lemmas.Option.{slice_get_within}
use Rattle.wv_base.specs.declared.side.Side.{Side}
use Rattle.wv_mod.specs.declared.mixin.MixinConfig.{MixinConfig}
use Rattle.wv_mod.specs.declared.mod_info.ModInfo.{ModInfo}
use Rattle.wv_resolve.proofs.Lists.{any-append}
use Rattle.wv_config.specs.declared.naming.Entry.{Entry}
use Rattle.wv_config.specs.Naming.{IsEarlier}
use Rattle.wv_config.specs.Entries.{IsEntryOf, IsEntry, IsBefore, AreEntriesTo}

-- ---- The order of entries

pub not-both_earlier : (m p m' p' : ℕ) → IsEarlier m p m' p' → IsEarlier m' p' m p → ⊥
not-both_earlier m p m' p' (inl a) (inl b) = omega arith
not-both_earlier m p m' p' (inl a) (inr (same, b)) = omega arith
not-both_earlier m p m' p' (inr (same, a)) (inl b) = omega arith
not-both_earlier m p m' p' (inr (same, a)) (inr (same', b)) = omega arith

none-earlier : (m p : ℕ) → IsEarlier m p 0 0 → ⊥
none-earlier m p (inl a) = omega arith
none-earlier m p (inr (same, a)) = omega arith

earlier-more : (m p m' p' : ℕ) → IsEarlier m p m' p' → IsEarlier m p m' (p' + 1)
earlier-more m p m' p' (inl a) = inl a
earlier-more m p m' p' (inr (same, a)) = inr (same, omega arith)

earlier-cases : (m p m' p' : ℕ) → IsEarlier m p m' (p' + 1) → IsEarlier m p m' p' ⊎ ((m ≡ m') × (p ≡ p'))
earlier-cases m p m' p' (inl a) = inl (inl a)
earlier-cases m p m' p' (inr (same, a)) = elim (cases_order p p') [
  | inl here ↦ inr (same, here)
  | inr (inl below) ↦ inl (inr (same, below))
  | inr (inr above) ↦ absurd (omega arith)
]

earlier-next : (m p m' p' : ℕ) → IsEarlier m p m' p' → IsEarlier m p (m' + 1) 0
earlier-next m p m' p' (inl a) = inl (omega arith)
earlier-next m p m' p' (inr (same, a)) = inl (omega arith)

mod-cases : (m p m' : ℕ) → IsEarlier m p (m' + 1) 0 → (m < m') ⊎ (m ≡ m')
mod-cases m p m' (inl a) = elim (cases_order m m') [
  | inl same ↦ inr same
  | inr (inl below) ↦ inl below
  | inr (inr above) ↦ absurd (omega arith)
]
mod-cases m p m' (inr (same, a)) = absurd (omega arith)

-- ---- One entry more, one mod more

pub some-same : {A : Type 0} (x y : A) → Some x ≡ Some y → x ≡ y
some-same x y e = cc

pub entries-none : (side : Side) (mods : List ModInfo) → AreEntriesTo side mods 0 0 []
entries-none side mods = record {
  ordered = λ i j d below inside. absurd (omega arith);
  each = λ k d inside. absurd (omega arith);
  all = λ m p info mixin mod_there entry_there earlier. absurd (none-earlier m p earlier);
}

module _ (side : Side) (mods : List ModInfo) (m p : ℕ) (entries : List Entry) (h : AreEntriesTo side mods m p entries) (info : ModInfo) (mod_there : slice_get mods m ≡ Some info) where
  pub entries-push : (mixin : MixinConfig) (entry : Entry) → slice_get info.mixins p ≡ Some mixin → IsEntryOf side info mixin entry → entry.mod_place ≡ m → entry.place ≡ p → AreEntriesTo side mods m (p + 1) (entries ++ entry ∷ [])
  entries-push mixin entry entry_there of at_mod at_place = record {
    ordered = all_pairs_push IsBefore entries entry h.ordered (λ k d inside. before (get_or entries k d) (h.each k d inside).1);
    each = All-push Within entries entry
        (All-weaker (λ e. IsEntry side mods e × IsEarlier e.mod_place e.place m p) Within (λ e one. (one.0, earlier-more e.mod_place e.place m p one.1)) entries h.each)
        (is_entry, inr (at_mod, omega arith));
    all = λ m' p' info' mixin' there there' earlier. elim (earlier-cases m' p' m p earlier) [
      | inl before ↦ any-append (λ (e : Entry). (e.mod_place ≡ m') × (e.place ≡ p')) entries (entry ∷ []) (h.all m' p' info' mixin' there there' before)
      | inr (same, same') ↦ Any-push (λ (e : Entry). (e.mod_place ≡ m') × (e.place ≡ p')) entries entry (at_mod ∙ sym same, at_place ∙ sym same')
    ];
  }
    where
      Within : Entry → Type 0
      Within e = IsEntry side mods e × IsEarlier e.mod_place e.place m (p + 1)

      before : (e : Entry) → IsEarlier e.mod_place e.place m p → IsBefore e entry
      before e earlier = subst (λ k. IsEarlier e.mod_place e.place k entry.place) (sym at_mod) (subst (IsEarlier e.mod_place e.place m) (sym at_place) earlier)

      is_entry : IsEntry side mods entry
      is_entry = record {
        info = info;
        mixin = mixin;
        mod_there = ap (slice_get mods) at_mod ∙ mod_there;
        entry_there = ap (slice_get info.mixins) at_place ∙ entry_there;
        of = of;
      }

  pub entries-next : length info.mixins ≤ p → AreEntriesTo side mods (m + 1) 0 entries
  entries-next past = record {
    ordered = h.ordered;
    each = All-weaker (λ e. IsEntry side mods e × IsEarlier e.mod_place e.place m p) (λ e. IsEntry side mods e × IsEarlier e.mod_place e.place (m + 1) 0) (λ e one. (one.0, earlier-next e.mod_place e.place m p one.1)) entries h.each;
    all = λ m' p' info' mixin' there there' earlier. h.all m' p' info' mixin' there there' (elim (mod-cases m' p' m earlier) [
      | inl below ↦ inl below
      | inr same ↦
          let one : info' ≡ info = some-same info' info (sym there ∙ ap (slice_get mods) same ∙ mod_there) in
          let inside : p' < length info'.mixins = slice_get_within info'.mixins p' mixin' there' in
          let shorter : length info'.mixins ≡ length info.mixins = ap (λ (i : ModInfo). length i.mixins) one in
          inr (same, omega arith)
    ]);
  }
