-- A table of facts tells of the text with each number.
use Rattle.std.proofs.Common.{◌≡◌, ℕ, zero, suc, List, [], ◌∷◌, ◌++◌, Option, Some, None, refl, sym, ap, ◌∙◌, ◌-◌, ◌<◌, ◌≤◌, length, get_or, ltb, Bor, arith}
use Rattle.std.specs.Option.{option_copied, is_some, IfSome}
use Rattle.std.proofs.lemmas.Bool.{ltb-true, ltb-false}
use Rattle.std.specs.Prelude.{slice_get}
use Rattle.wv_base.specs.declared.class_file.PoolEntry.{PoolEntry}
use Rattle.wv_base.specs.declared.class_file.PoolEntry.TheVariants as entries
use Rattle.wv_pool.specs.declared.facts.Facts.{Facts}
use Rattle.wv_pool.specs.References.{text_in, text_of}
use Rattle.wv_pool.specs.Facts.{AreFacts, AreEntryFacts, AreAllFacts, slot_of, facts_in, facts_of}

pub AreAllFacts-push : (pool : List PoolEntry) (all : List (Option Facts)) (entry : PoolEntry) (facts : Option Facts) → AreAllFacts pool all → AreEntryFacts entry facts → AreAllFacts (pool ++ entry ∷ []) (all ++ facts ∷ [])
AreAllFacts-push [] [] entry facts h k = (k, tt)
AreAllFacts-push [] (f ∷ all) entry facts h k = absurd h
AreAllFacts-push (e ∷ pool) [] entry facts h k = absurd h
AreAllFacts-push (e ∷ pool) (f ∷ all) entry facts h k = (h.0, AreAllFacts-push pool all entry facts h.1 k)

-- a text and its facts
abbrev pub Agree : Option (List ℕ) → Option Facts → Type 0
Agree (Some name) (Some facts) = AreFacts name facts
Agree None None = Unit {0}
Agree _ _ = ⊥

agree_at : (entry : PoolEntry) (facts : Option Facts) → AreEntryFacts entry facts → Agree (text_in (Some entry)) facts
agree_at (entries.Utf8 name) (Some facts) h = h
agree_at (entries.Utf8 name) None h = absurd h
agree_at (entries.Integer v) facts h = rw h tt
agree_at (entries.Float v) facts h = rw h tt
agree_at (entries.Long v) facts h = rw h tt
agree_at (entries.Double v) facts h = rw h tt
agree_at (entries.Class n) facts h = rw h tt
agree_at (entries.String n) facts h = rw h tt
agree_at (entries.Field m n) facts h = rw h tt
agree_at (entries.Method m n) facts h = rw h tt
agree_at (entries.InterfaceMethod m n) facts h = rw h tt
agree_at (entries.NameAndType m n) facts h = rw h tt
agree_at (entries.MethodHandle k n) facts h = rw h tt
agree_at (entries.MethodType n) facts h = rw h tt
agree_at (entries.InvokeDynamic m n) facts h = rw h tt
agree_at entries.Unusable facts h = rw h tt

agree_place : (pool : List PoolEntry) (all : List (Option Facts)) (place : ℕ) → AreAllFacts pool all → Agree (text_in (slice_get pool place)) (facts_in (slice_get all place))
agree_place [] [] place h = tt
agree_place [] (f ∷ all) place h = absurd h
agree_place (e ∷ pool) [] place h = absurd h
agree_place (e ∷ pool) (f ∷ all) zero h = agree_at e f h.0
agree_place (e ∷ pool) (f ∷ all) (suc place) h = agree_place pool all place h.1

pub agree : (pool : List PoolEntry) (all : List (Option Facts)) (number : ℕ) → AreAllFacts pool all → Agree (text_of pool number) (facts_of all number)
agree pool all zero h = tt
agree pool all (suc place) h = agree_place pool all place h

some_is : (a b : Facts) → Some a ≡ Some b → a ≡ b
some_is a b e = cc

pub some_facts : (o : Option (List ℕ)) (found : Option Facts) (facts : Facts) → Agree o found → Some facts ≡ found → (name : List ℕ) × (o ≡ Some name) × AreFacts name facts
some_facts (Some name) (Some f) facts h e = (name, refl, rw (some_is facts f e) h)
some_facts (Some name) None facts h e = absurd h
some_facts None (Some f) facts h e = absurd h
some_facts None None facts h e = absurd cc

pub no_facts : (o : Option (List ℕ)) (found : Option Facts) → Agree o found → None ≡ found → o ≡ None
no_facts (Some name) (Some f) h e = absurd cc
no_facts (Some name) None h e = absurd h
no_facts None found h e = refl

pub slot_step : (all : List (Option Facts)) (number place : ℕ) → 1 ≤ number → place ≡ number - 1 → slot_of all number ≡ slice_get all place
slot_step all zero place some e = absurd (omega arith)
slot_step all (suc k) place some e = ap (slice_get all) (omega arith)

-- what a look-up by an index gives
get_past : {X : Type 0} (xs : List X) (i : ℕ) → length xs ≤ i → slice_get xs i ≡ None
get_past [] i h = refl
get_past (x ∷ xs) zero h = absurd (omega arith)
get_past (x ∷ xs) (suc i) h = get_past xs i (omega arith)

get_within : {X : Type 0} (xs : List X) (i : ℕ) (d : X) → i < length xs → slice_get xs i ≡ Some (get_or xs i d)
get_within [] i d h = absurd (omega arith)
get_within (x ∷ xs) zero d h = refl
get_within (x ∷ xs) (suc i) d h = get_within xs i d (omega arith)

pub copied_get : {X : Type 0} (r : Option (Bor X)) (xs : List X) (i : ℕ) → is_some r ≡ ltb i (length xs) → IfSome r (λ x. x.now ≡ get_or xs i x.now) → option_copied r ≡ slice_get xs i
copied_get None xs i e h = sym (get_past xs i (ltb-false _ _ (sym e)))
copied_get (Some b) xs i e h = ap (λ x. Some x) h ∙ sym (get_within xs i b.now (ltb-true _ _ (sym e)))
