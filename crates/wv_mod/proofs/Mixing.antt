-- Lists of mixin configurations: a loop over their items.
use Rattle.std.proofs.Common.{◌≡◌, ℕ, zero, suc, ◌+◌, ◌<◌, List, [], ◌∷◌, ◌++◌, length, get_or, take, arith, ap, sym, ◌∙◌, subst}
use Rattle.std.proofs.lemmas.List.{take_more}
use Rattle.serde_json.specs.declared.value.Value.{Value}
use Rattle.serde_json.specs.Data.{array, Items}
use Rattle.serde_json.specs.View.{view, items_view}
use Rattle.wv_mod.specs.declared.mixin.MixinConfig.{MixinConfig}
use Rattle.wv_mod.specs.Mixins.{IsMixinEntry, AreMixins, IsMixinList}

mixins-append : (done : List Value) (read : List MixinConfig) (v : Value) (x : MixinConfig) → AreMixins (items_view done) read → IsMixinEntry (view v) x → AreMixins (items_view (done ++ v ∷ [])) (read ++ x ∷ [])
mixins-append [] [] v x h one = (one, tt)
mixins-append [] (y ∷ read) v x h one = absurd h
mixins-append (w ∷ done) [] v x h one = absurd h
mixins-append (w ∷ done) (y ∷ read) v x h one = (h.0, mixins-append done read v x h.1 one)

-- one item more
pub mixins-push : (list : List Value) (i : ℕ) (read : List MixinConfig) (v : Value) (x : MixinConfig) → i < length list → v ≡ get_or list i v → AreMixins (items_view (take i list)) read → IsMixinEntry (view v) x → AreMixins (items_view (take (i + 1) list)) (read ++ x ∷ [])
mixins-push list i read v x inside at h one =
    let whole : take (i + 1) list ≡ take i list ++ v ∷ [] = take_more list i v inside ∙ ap (λ w. take i list ++ w ∷ []) (sym at) in
    subst (λ (vs : List Value). AreMixins (items_view vs) (read ++ x ∷ [])) (sym whole) (mixins-append (take i list) read v x h one)

middle : (list : List Value) (i : ℕ) (d : Value) (read : List MixinConfig) → i < length list → AreMixins (items_view list) read → (x : MixinConfig) × IsMixinEntry (view (get_or list i d)) x
middle [] i d read inside h = absurd (omega arith)
middle (w ∷ list) i d [] inside h = absurd h
middle (w ∷ list) zero d (y ∷ read) inside h = (y, h.0)
middle (w ∷ list) (suc i) d (y ∷ read) inside h = middle list i d read (omega arith) h.1

same_items : (xs ys : Items) → array xs ≡ array ys → xs ≡ ys
same_items xs ys e = cc

-- an item that names no configuration
pub mixins-none : (list : List Value) (i : ℕ) (v : Value) → i < length list → v ≡ get_or list i v → ((x : MixinConfig) → IsMixinEntry (view v) x → ⊥) → (other : List MixinConfig) → IsMixinList (array (items_view list)) other → ⊥
mixins-none list i v inside at none other h =
    let found = middle list i v other inside (subst (λ (ds : Items). AreMixins ds other) (sym (same_items (items_view list) h.0 h.1)) h.2) in
    none found.0 (subst (λ (w : Value). IsMixinEntry (view w) found.0) (sym at) found.1)
