-- Objects whose members are of one kind: a loop over their entries.
use Rattle.std.proofs.Common.{◌≡◌, ℕ, List, [], ◌∷◌, ◌++◌, refl, ap, sym, ◌∙◌, subst, append_assoc, string_bytes}
use Rattle.std.proofs.lemmas.List.{append-nil}
use Rattle.serde_json.specs.Data.{Data, object, Members}
use Rattle.serde_json.specs.View.{view, members_view}
use Rattle.serde_json.proofs.Views.{Entry}
use Rattle.wv_json.specs.Kind.{AreMembers, IsObjectOf}

-- the entries that are done are read as these
pub record IsReadTo {A : Type 0} (OfKind : Data → A → Type 0) (all rest : List Entry) (read : List (List ℕ × A)) : Type 0 where
  pub done : List Entry
  pub split : all ≡ done ++ rest
  pub each : AreMembers OfKind (members_view done) read

pub read_to-start : {A : Type 0} (OfKind : Data → A → Type 0) (all : List Entry) → IsReadTo OfKind all all []
read_to-start OfKind all = record { done = []; split = refl; each = tt }

members-push : {A : Type 0} (OfKind : Data → A → Type 0) (done : List Entry) (read : List (List ℕ × A)) (entry : Entry) (key : List ℕ) (x : A) → AreMembers OfKind (members_view done) read → key ≡ string_bytes entry.0 → OfKind (view entry.1) x → AreMembers OfKind (members_view (done ++ entry ∷ [])) (read ++ (key, x) ∷ [])
members-push OfKind [] [] entry key x h at one = (at, one, tt)
members-push OfKind [] (y ∷ read) entry key x h at one = absurd h
members-push OfKind (e ∷ done) [] entry key x h at one = absurd h
members-push OfKind (e ∷ done) (y ∷ read) entry key x h at one = (h.0, h.1, members-push OfKind done read entry key x h.2 at one)

pub read_to-push : {A : Type 0} (OfKind : Data → A → Type 0) (all rest after : List Entry) (read : List (List ℕ × A)) (entry : Entry) (key : List ℕ) (x : A) → IsReadTo OfKind all rest read → rest ≡ entry ∷ after → key ≡ string_bytes entry.0 → OfKind (view entry.1) x → IsReadTo OfKind all after (read ++ (key, x) ∷ [])
read_to-push OfKind all rest after read entry key x so_far next at one = record {
  done = so_far.done ++ entry ∷ [];
  split = so_far.split ∙ ap (λ es. so_far.done ++ es) next ∙ sym (append_assoc so_far.done (entry ∷ []) after);
  each = members-push OfKind so_far.done read entry key x so_far.each at one;
}

pub read_to-end : {A : Type 0} (OfKind : Data → A → Type 0) (all rest : List Entry) (read : List (List ℕ × A)) → IsReadTo OfKind all rest read → rest ≡ [] → IsObjectOf OfKind (object (members_view all)) read
read_to-end OfKind all rest read so_far end =
    let whole : all ≡ so_far.done = so_far.split ∙ ap (λ es. so_far.done ++ es) end ∙ append-nil so_far.done in
    (members_view so_far.done, ap (λ es. object (members_view es)) whole, so_far.each)

members-middle : {A : Type 0} (OfKind : Data → A → Type 0) (done after : List Entry) (entry : Entry) (read : List (List ℕ × A)) → AreMembers OfKind (members_view (done ++ entry ∷ after)) read → (x : A) × OfKind (view entry.1) x
members-middle OfKind [] after entry [] h = absurd h
members-middle OfKind [] after entry (y ∷ read) h = (y.1, h.1)
members-middle OfKind (e ∷ done) after entry [] h = absurd h
members-middle OfKind (e ∷ done) after entry (y ∷ read) h = members-middle OfKind done after entry read h.2

same_members : (xs ys : Members) → object xs ≡ object ys → xs ≡ ys
same_members xs ys e = cc

-- an entry of another kind
pub read_to-none : {A : Type 0} (OfKind : Data → A → Type 0) (all rest after : List Entry) (read : List (List ℕ × A)) (entry : Entry) → IsReadTo OfKind all rest read → rest ≡ entry ∷ after → ((x : A) → OfKind (view entry.1) x → ⊥) → (other : List (List ℕ × A)) → IsObjectOf OfKind (object (members_view all)) other → ⊥
read_to-none OfKind all rest after read entry so_far next none other h =
    let whole : all ≡ so_far.done ++ entry ∷ after = so_far.split ∙ ap (λ es. so_far.done ++ es) next in
    let members : members_view (so_far.done ++ entry ∷ after) ≡ h.0 = ap members_view (sym whole) ∙ same_members (members_view all) h.0 h.1 in
    let found = members-middle OfKind so_far.done after entry other (subst (λ ms. AreMembers OfKind ms other) (sym members) h.2) in
    none found.0 found.1
